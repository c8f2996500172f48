use Rattle.std.proofs.Common.{◌≡◌, ℕ, suc, ◌+◌, ◌≤◌, ◌-◌, min, Bool, true, false, cond, ltb, List, [], ◌∷◌, ◌++◌, length, take, set, Some, Option, sym, refl, ap, ◌∙◌, subst, append_assoc, append-nil, arith, length-set, ltb-false, ltb-true}
use Rattle.std.specs.Borrow.{Bor}
use Rattle.std.specs.Slice.{IsGetRangeResult}
use Rattle.std.proofs.lemmas.List.{take_more_set}
use Rattle.wire.specs.Records.{Kept, noted}

module _ {T : Type 0} where
  -- All are counted, to 2^32 − 1.
  counted : (k : Kept T) (xs : List T) → k.count ≤ 0xFFFF_FFFF → (noted k xs).count ≡ min (k.count + length xs) 0xFFFF_FFFF
  counted k [] h = omega arith
  counted k (x ∷ xs) h = by (λ j g. counted j xs g) (ltb k.count 0xFFFF_FFFF) refl
    where
      by : ((j : Kept T) → j.count ≤ 0xFFFF_FFFF → (noted j xs).count ≡ min (j.count + length xs) 0xFFFF_FFFF) → (b : Bool) → ltb k.count 0xFFFF_FFFF ≡ b
          → (noted (cond b (record { places = set k.places k.count x; count = k.count + 1 }) k) xs).count ≡ min (k.count + suc (length xs)) 0xFFFF_FFFF
      by ih true t =
          let l = ltb-true k.count 0xFFFF_FFFF t in
          let e = ih (record { places = set k.places k.count x; count = k.count + 1 }) (omega arith) in
          omega (arith, e)
      by ih false t =
          let l = ltb-false k.count 0xFFFF_FFFF t in
          let e = ih k h in
          omega (arith, e)

  -- Where there are places for all, they are held in their order.
  holds : (k : Kept T) (xs : List T) → k.count + length xs ≤ length k.places → length k.places ≤ 0xFFFF_FFFF
      → take (k.count + length xs) (noted k xs).places ≡ take k.count k.places ++ xs
  holds k [] h few = ap (λ (n : ℕ). take n k.places) (omega arith) ∙ sym (append-nil (take k.count k.places))
  holds k (x ∷ xs) h few = by (λ j g f. holds j xs g f) (ltb k.count 0xFFFF_FFFF) refl
    where
      by : ((j : Kept T) → j.count + length xs ≤ length j.places → length j.places ≤ 0xFFFF_FFFF → take (j.count + length xs) (noted j xs).places ≡ take j.count j.places ++ xs)
          → (b : Bool) → ltb k.count 0xFFFF_FFFF ≡ b
          → take (k.count + suc (length xs)) (noted (cond b (record { places = set k.places k.count x; count = k.count + 1 }) k) xs).places ≡ take k.count k.places ++ (x ∷ xs)
      by ih true t =
          let j : Kept T = record { places = set k.places k.count x; count = k.count + 1 } in
          let long = length-set k.places k.count x in
          let e = ih j (omega (arith, long)) (omega (arith, long)) in
          ap (λ (n : ℕ). take n (noted j xs).places) (omega arith) ∙ e
          ∙ ap (λ (l : List T). l ++ xs) (take_more_set k.places k.count x (omega arith)) ∙ append_assoc (take k.count k.places) (x ∷ []) xs
      by ih false t = absurd (let l = ltb-false k.count 0xFFFF_FFFF t in omega arith)

  noted_long : (k : Kept T) (xs : List T) → length (noted k xs).places ≡ length k.places
  noted_long k [] = refl
  noted_long k (x ∷ xs) = by (λ j. noted_long j xs) (ltb k.count 0xFFFF_FFFF)
    where
      by : ((j : Kept T) → length (noted j xs).places ≡ length j.places) → (b : Bool) → length (noted (cond b (record { places = set k.places k.count x; count = k.count + 1 }) k) xs).places ≡ length k.places
      by ih true = ih (record { places = set k.places k.count x; count = k.count + 1 }) ∙ length-set k.places k.count x
      by ih false = ih k

  nothing_before : (ys xs : List T) → take 0 ys ++ xs ≡ xs
  nothing_before [] xs = refl
  nothing_before (y ∷ ys) xs = refl

  -- What an empty list was handed, where as many places as its count can be lent.
  pub all_held : (blank places xs : List T) (cs : Bor (List T)) (n : ℕ) (r : Option (Bor (List T))) → length blank ≤ 65536
      → n ≡ (noted (record { places = blank; count = 0 }) xs).count → places ≡ (noted (record { places = blank; count = 0 }) xs).places
      → IsGetRangeResult places 0 n r → r ≡ Some cs → cs.now ≡ xs
  all_held blank places xs cs n r few en ep h e =
      let k : IsGetRangeResult places 0 n (Some cs) = subst (IsGetRangeResult places 0 n) e h in
      let fits : n ≤ length places = k.0.1 in
      let part : cs.now ≡ take (n - 0) places = k.0.2 in
      let long : length places ≡ length blank = ap length ep ∙ noted_long (record { places = blank; count = 0 }) xs in
      let c = counted (record { places = blank; count = 0 }) xs (omega arith) in
      let all : n ≡ length xs = omega (arith, c, en, long) in
      let h = holds (record { places = blank; count = 0 }) xs (omega (arith, long)) (omega arith) in
      part ∙ ap (take (n - 0)) ep ∙ ap (λ (m : ℕ). take m (noted (record { places = blank; count = 0 }) xs).places) (omega arith) ∙ h ∙ nothing_before blank xs
