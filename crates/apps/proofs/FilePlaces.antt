use Rattle.std.proofs.Common.{◌≡◌, ℕ, zero, suc, ◌+◌, ◌<◌, Bool, true, false, cond, eqb, List, [], ◌∷◌, length, get_or, set, Some, None, Option, sym, refl, ap, ◌∙◌, arith}
use Rattle.std.specs.List.{position_from}
use Rattle.std.proofs.lemmas.Iterator.Adapters.{position_from-zero}
use Rattle.std.proofs.lemmas.List.Quantifiers.{position-Some}
use Rattle.std.proofs.lemmas.Bool.{eqb-true, cond-true, cond-false}
use Rattle.apps.specs.Files.{File, find, named, replaced}
use Rattle.apps.specs.FilePlaces.{place, place_named}

-- The file at place i is the first one with this id.
module _ (id : ℕ) (d : File) where
  find_first : (fs : List File) (i : ℕ) → i < length fs → eqb (get_or fs i d).id id ≡ true → ((k : ℕ) → k < i → eqb (get_or fs k d).id id ≡ false)
      → find id fs ≡ Some (get_or fs i d)
  find_first [] i h e b = absurd (omega arith)
  find_first (f ∷ fs) zero h e b = cond-true (eqb f.id id) _ _ e
  find_first (f ∷ fs) (suc i) h e b =
      cond-false (eqb f.id id) _ _ (b 0 (omega arith)) ∙ find_first fs i (omega arith) e (λ k l. b (suc k) (omega arith))

  replace_first : (g : File) → g.id ≡ id → (fs : List File) (i : ℕ) → i < length fs → eqb (get_or fs i d).id id ≡ true
      → ((k : ℕ) → k < i → eqb (get_or fs k d).id id ≡ false) → replaced g fs ≡ set fs i g
  replace_first g q [] i h e b = absurd (omega arith)
  replace_first g q (f ∷ fs) zero h e b = cond-true (eqb f.id g.id) _ _ (rw q e)
  replace_first g q (f ∷ fs) (suc i) h e b =
      cond-false (eqb f.id g.id) _ _ (rw q (b 0 (omega arith)))
      ∙ ap (λ (gs : List File). f ∷ gs) (replace_first g q fs i (omega arith) e (λ k l. b (suc k) (omega arith)))

-- What the place of a file tells.
module _ (fs : List File) (id i : ℕ) (d : File) (h : Some i ≡ place id fs) where
  pub found : find id fs ≡ Some (get_or fs i d)
  found = let r = position-Some (λ (f : File). eqb f.id id) fs i d (sym h) in find_first id d fs i r.0 r.1 r.2

  pub found_id : (get_or fs i d).id ≡ id
  found_id = eqb-true (get_or fs i d).id id (position-Some (λ (f : File). eqb f.id id) fs i d (sym h)).1

  pub found_replaced : (g : File) → g.id ≡ id → replaced g fs ≡ set fs i g
  found_replaced g q = let r = position-Some (λ (f : File). eqb f.id id) fs i d (sym h) in replace_first id d g q fs i r.0 r.1 r.2

missing_step : (f : File) (fs : List File) (n id : ℕ) (b : Bool) → eqb f.id id ≡ b → cond b (Some n) (position_from (λ f. eqb f.id id) (n + 1) fs) ≡ None
    → (position_from (λ f. eqb f.id id) (n + 1) fs ≡ None → find id fs ≡ None) → find id (f ∷ fs) ≡ None
missing_step f fs n id true e h below = absurd (cc)
missing_step f fs n id false e h below = cond-false (eqb f.id id) _ _ e ∙ below h

missing_from : (fs : List File) (n id : ℕ) → position_from (λ f. eqb f.id id) n fs ≡ None → find id fs ≡ None
missing_from [] n id h = refl
missing_from (f ∷ fs) n id h = missing_step f fs n id (eqb f.id id) refl h (missing_from fs (n + 1) id)

pub missing : (fs : List File) (id : ℕ) → None ≡ place id fs → find id fs ≡ None
missing fs id h = missing_from fs 0 id (sym (h ∙ position_from-zero (λ f. eqb f.id id) fs))

-- The same of a name.
pub named_found : (fs : List File) (name : Option ℕ) (i : ℕ) (d : File) → Some i ≡ place_named name fs → named name fs ≡ Some (get_or fs i d)
named_found fs None i d h = absurd (cc)
named_found fs (Some id) i d h = found fs id i d h

pub named_replaced : (fs : List File) (name : Option ℕ) (i : ℕ) (d g : File) → Some i ≡ place_named name fs → g.id ≡ (get_or fs i d).id
    → replaced g fs ≡ set fs i g
named_replaced fs None i d g h q = absurd (cc)
named_replaced fs (Some id) i d g h q = found_replaced fs id i d h g (q ∙ found_id fs id i d h)

pub named_missing : (fs : List File) (name : Option ℕ) → None ≡ place_named name fs → named name fs ≡ None
named_missing fs None h = refl
named_missing fs (Some id) h = missing fs id h
