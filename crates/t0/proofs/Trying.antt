use Rattle.std.proofs.Common.{◌≡◌, ℕ, suc, ◌+◌, ◌-◌, ◌<◌, Bool, true, false, cond, not, List, [], ◌∷◌, ◌++◌, is_some, Some, Option, sym, refl, ap, ◌∙◌, subst, append_assoc, arith}
use mathlib.Core.Path.{fun_ext}
use Rattle.wire.specs.Lines.{Damage, later, carried}
use Rattle.wire.specs.Records.{Grew}
use Rattle.wire.specs.Senders.{is_card}
use Rattle.wire.specs.declared.record.Record.{Record}
use Rattle.wire.specs.declared.traced.Sender.{Sender}
use Rattle.wire.specs.declared.traced.Traced.{Traced}
use Rattle.wire.proofs.Growing.{grew_then}
use Rattle.t0.specs.Carrying.{Carries}
use Rattle.t0.specs.Delivery.{Delivered, tried, traced}

-- What came before, put before a delivery.
abbrev pub after : List Traced → Delivered → Delivered
after cs t = record { arrived = t.arrived; characters = cs ++ t.characters; coming = t.coming }

-- A try that is not damaged is the last.
pub tried_hit : (d : Damage) (by : Sender) (b i : ℕ) → i < 4 → d 0 ≡ false → tried d by b (4 - i) ≡ record { arrived = true; characters = traced by b false ∷ []; coming = later d }
tried_hit d by b i l e = ap (tried d by b) (let z : 4 - i ≡ suc (3 - i) = omega arith in z) ∙ ap (λ (x : Bool). cond x again (record { arrived = true; characters = traced by b false ∷ []; coming = later d })) e
  where
    again : Delivered
    again = after (traced by b true ∷ []) (tried (later d) by b (3 - i))

-- A damaged one is followed by the others, if any is left.
pub tried_miss : (d f : Damage) (by : Sender) (b i : ℕ) → i < 4 → d 0 ≡ true → ((k : ℕ) → f k ≡ d (k + 1))
    → tried d by b (4 - i) ≡ after (traced by b true ∷ []) (tried f by b (4 - (i + 1)))
tried_miss d f by b i l e h =
    ap (tried d by b) (let z : 4 - i ≡ suc (3 - i) = omega arith in z)
    ∙ ap (λ (x : Bool). cond x (after (traced by b true ∷ []) (tried (later d) by b (3 - i))) (record { arrived = true; characters = traced by b false ∷ []; coming = later d })) e
    ∙ ap (λ (g : Damage). after (traced by b true ∷ []) (tried g by b (3 - i))) (sym (fun_ext h))
    ∙ ap (λ (n : ℕ). after (traced by b true ∷ []) (tried f by b n)) (let z : 3 - i ≡ 4 - (i + 1) = omega arith in z)

pub after_after : (cs ds : List Traced) (t : Delivered) → after cs (after ds t) ≡ after (cs ++ ds) t
after_after cs ds t = ap (λ (l : List Traced). record { arrived = t.arrived; characters = l; coming = t.coming }) (sym (append_assoc cs ds t.characters))

-- What a line gave says whether it damaged.
pub gave_none : (x : Bool) (b : ℕ) (r : Option ℕ) → r ≡ carried x b → is_some r ≡ false → x ≡ true
gave_none true b r e s = refl
gave_none false b r e s = cc

pub gave_some : (x : Bool) (b : ℕ) (r : Option ℕ) → r ≡ carried x b → is_some r ≡ true → x ≡ false
gave_some true b r e s = cc
gave_some false b r e s = refl

pub whole_some : (x : Bool) (b : ℕ) (r : Option ℕ) → r ≡ carried x b → x ≡ false → r ≡ Some b
whole_some x b r e s = e ∙ ap (λ (y : Bool). carried y b) s

flipped : (n x : Bool) → not n ≡ not x → n ≡ x
flipped true true e = refl
flipped true false e = sym e
flipped false true e = sym e
flipped false false e = refl

-- The sending of a character after so many tries: what crossed, and what the whole comes to by the tries that are left.
pub record SoFar (full : Delivered) (d : Damage) (by : Sender) (b i : ℕ) (before now : Record Traced) : Type 0 where
  pub characters : List Traced
  pub grew : Grew before now characters
  pub rest : full ≡ after characters (tried d by b (4 - i))

module _ (full : Delivered) (d f : Damage) (by : Sender) (b i : ℕ) (before between beyond : Record Traced) (r : Option ℕ) (card none : Bool)
    (so_far : SoFar full d by b i before between) (small : i < 4) (gave : r ≡ carried (d 0) b) (left : (k : ℕ) → f k ≡ d (k + 1))
    (noted : Grew between beyond (record { by_card = card; byte = b; damaged = none } ∷ [])) (of : card ≡ is_card by) (is : is_some r ≡ not none) where
  noted_as : (x : Bool) → none ≡ x → Grew between beyond (traced by b x ∷ [])
  noted_as x e =
      subst (λ (y : Bool). Grew between beyond (traced by b y ∷ [])) e
      (subst (λ (y : Bool). Grew between beyond (record { by_card = y; byte = b; damaged = none } ∷ [])) of noted)

  -- It was damaged, and is tried again.
  pub goes_on : is_some r ≡ false → SoFar full f by b (i + 1) before beyond
  goes_on s = record {
    characters = so_far.characters ++ (traced by b true ∷ []);
    grew = grew_then so_far.grew (noted_as true (flipped none true (sym is ∙ s)));
    rest = so_far.rest ∙ ap (after so_far.characters) (tried_miss d f by b i small (gave_none (d 0) b r gave s) left) ∙ after_after so_far.characters (traced by b true ∷ []) (tried f by b (4 - (i + 1)));
  }

  -- It arrived.
  pub arrives : is_some r ≡ true → Carries b full r f before beyond
  arrives s =
      let whole = gave_some (d 0) b r gave s in
      let e : full ≡ record { arrived = true; characters = so_far.characters ++ (traced by b false ∷ []); coming = later d } = so_far.rest ∙ ap (after so_far.characters) (tried_hit d by b i small whole) in
      subst (λ (t : Delivered). Carries b t r f before beyond) (sym e)
      (record { result = whole_some (d 0) b r gave whole; line = fun_ext left; trace = grew_then so_far.grew (noted_as false (flipped none false (sym is ∙ s))) })
