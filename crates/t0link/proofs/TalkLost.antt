use Rattle.std.proofs.Common.{◌≡◌, ℕ, ◌+◌, Bool, true, false, cond, not, eqb, List, [], ◌∷◌, ◌++◌, sym, refl, ap, ◌∙◌, append-nil}
use Rattle.std.proofs.lemmas.Bool.{not-true}
use Rattle.wire.specs.Lines.{Damage, later}
use Rattle.wire.specs.declared.traced.Sender.{Sender}
use Rattle.wire.specs.declared.traced.Traced.{Traced}
use Rattle.t0.specs.Dialogues.{Word}
use Rattle.t0.specs.Delivery.{Delivered, tried, traced, sent_once, then, deliver, four_running, LostExactly}

-- One try: a damaged character is noted and the next try follows; an undamaged one arrives.
abbrev stepped : Bool → Delivered → Damage → Sender → ℕ → Delivered
stepped v t d sender b =
    cond v (record { arrived = t.arrived; characters = traced sender b true ∷ t.characters; coming = t.coming })
    (record { arrived = true; characters = traced sender b false ∷ []; coming = later d })

-- What a scan that has seen so many damaged characters running says of a delivery and what follows it.
abbrev Scans : ℕ → Delivered → List Traced → Type 0
Scans n t cs = four_running n (t.characters ++ cs) ≡ cond t.arrived (four_running 0 cs) true

last : (v : Bool) (e d : Damage) (sender : Sender) (b : ℕ) (cs : List Traced)
    → Scans 3 (stepped v (record { arrived = false; characters = []; coming = e }) d sender b) cs
last true e d sender b cs = refl
last false e d sender b cs = refl

less : (v : Bool) (t : Delivered) (d : Damage) (sender : Sender) (b n : ℕ) (cs : List Traced) → eqb n 3 ≡ false → Scans (n + 1) t cs
    → Scans n (stepped v t d sender b) cs
less true t d sender b n cs e h = ap (λ (x : Bool). cond x true (four_running (n + 1) (t.characters ++ cs))) e ∙ h
less false t d sender b n cs e h = refl

-- After the tries of one character the scan begins anew if it arrived.
one : (d : Damage) (sender : Sender) (b : ℕ) (cs : List Traced) → Scans 0 (tried d sender b 4) cs
one d sender b cs =
    less (d 0) (tried (later d) sender b 3) d sender b 0 cs refl
    (less (later d 0) (tried (later (later d)) sender b 2) (later d) sender b 1 cs refl
    (less (later (later d) 0) (tried (later (later (later d))) sender b 1) (later (later d)) sender b 2 cs refl
    (last (later (later (later d)) 0) (later (later (later (later d)))) (later (later (later d))) sender b cs)))

abbrev pub Found : Delivered → Type 0
Found t = four_running 0 t.characters ≡ not t.arrived

joined : (arrived : Bool) (cs : List Traced) (e : Damage) (u : Delivered)
    → ((ds : List Traced) → Scans 0 (record { arrived = arrived; characters = cs; coming = e }) ds) → Found u
    → Found (then (record { arrived = arrived; characters = cs; coming = e }) u)
joined true cs e u h k = h u.characters ∙ k
joined false cs e u h k = ap (four_running 0) (sym (append-nil cs)) ∙ h []

pub scanned : (d : Damage) (ws : List Word) → Found (deliver d ws)
unfolding deliver
scanned d [] = refl
scanned d (w ∷ ws) =
    joined (sent_once d w).arrived (sent_once d w).characters (sent_once d w).coming (deliver (sent_once d w).coming ws)
    (one d w.sender w.byte) (scanned (sent_once d w).coming ws)

pub lost_exactly : LostExactly
lost_exactly d ws =
    (λ e. scanned d ws ∙ ap not e, λ e. not-true (deliver d ws).arrived (sym (scanned d ws) ∙ e))
