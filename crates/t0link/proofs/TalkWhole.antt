use Rattle.std.proofs.Common.{◌≡◌, Bool, true, false, cond, List, [], ◌∷◌, ◌++◌, sym, refl, ap, ◌∙◌, subst, append_assoc}
use Rattle.std.proofs.lemmas.Bool.{cond-true, cond-false}
use Rattle.wire.specs.Lines.{Damage}
use Rattle.wire.specs.declared.traced.Traced.{Traced}
use Rattle.t0.specs.Dialogues.{Word}
use Rattle.t0.specs.Delivery.{Delivered, sent_once, then, deliver}
use Rattle.t0.specs.Conversations.{Talked}
use Rattle.t0link.proofs.TalkOver.{Loses, Over, made, over_then}

then_then_arrived : (cs : List Traced) (a : Bool) (ds : List Traced) (e : Damage) (u : Delivered)
    → (let r = then (made a ds e) u in made r.arrived (cs ++ r.characters) r.coming) ≡ then (made a (cs ++ ds) e) u
then_then_arrived cs true ds e u = ap (λ (x : List Traced). made u.arrived x u.coming) (sym (append_assoc cs ds u.characters))
then_then_arrived cs false ds e u = refl

then_then : (a : Bool) (cs : List Traced) (e : Damage) (t : Delivered) (rest : Damage → Delivered)
    → then (made a cs e) (then t (rest t.coming)) ≡ then (then (made a cs e) t) (rest (then (made a cs e) t).coming)
then_then true cs e t rest = then_then_arrived cs t.arrived t.characters t.coming (rest t.coming)
then_then false cs e t rest = refl

-- Two dialogues one after the other are delivered one after the other.
pub deliver_then : (d : Damage) (ws vs : List Word) → deliver d (ws ++ vs) ≡ then (deliver d ws) (deliver (deliver d ws).coming vs)
unfolding deliver
deliver_then d [] vs = refl
deliver_then d (w ∷ ws) vs =
    ap (then (sent_once d w)) (deliver_then (sent_once d w).coming ws vs)
    ∙ then_then (sent_once d w).arrived (sent_once d w).characters (sent_once d w).coming (deliver (sent_once d w).coming ws) (λ e. deliver e vs)

-- An opening, in state x until it has arrived, and what follows it, in state y.
pub over_two : {S : Type 0} {x y : S} (d : Damage) (op cl : List Word) (t : Talked S) (mid next : Damage → Talked S)
    → Over x (deliver d op) t mid → Over y (deliver (deliver d op).coming cl) (mid (deliver d op).coming) next
    → Over (cond (deliver d op).arrived y x) (deliver d (op ++ cl)) t next
over_two {S} {x} {y} d op cl t mid next o v =
    let all : Delivered = deliver d op in
    let early : Over (cond (deliver d op).arrived y x) (deliver d op) t mid =
    record { arrives = o.arrives; loses = λ h. subst (λ (z : S). Loses z (deliver d op) t) (sym (cond-false all.arrived y x h)) (o.loses h) } in
    subst (λ (a : Delivered). Over (cond (deliver d op).arrived y x) a t next) (sym (deliver_then d op cl))
    (over_then all (deliver all.coming cl) t mid next (λ h. sym (cond-true all.arrived y x h)) early v)

arrived_first : (a : Bool) (cs : List Traced) (e : Damage) (u : Delivered) → (then (made a cs e) u).arrived ≡ true → a ≡ true
arrived_first true cs e u h = refl
arrived_first false cs e u h = h

-- Where all arrives, the opening has.
pub opening_arrived : (d : Damage) (op cl : List Word) → (deliver d (op ++ cl)).arrived ≡ true → (deliver d op).arrived ≡ true
opening_arrived d op cl h =
    let all : Delivered = deliver d op in
    arrived_first all.arrived all.characters all.coming (deliver all.coming cl)
    (ap (λ (a : Delivered). a.arrived) (sym (deliver_then d op cl)) ∙ h)
