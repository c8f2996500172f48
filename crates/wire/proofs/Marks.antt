use Rattle.std.proofs.Common.{◌≡◌, ℕ, zero, suc, ◌+◌, ◌-◌, ◌<◌, ◌≤◌, min, Bool, true, false, cond, ◌&&◌, ◌||◌, ltb, leb, List, [], ◌∷◌, ◌++◌, length, get_or, take, drop, replicate, Some, None, Option, sym, refl, ap, ◌∙◌, subst, ⊎_elim, arith, length-take, get_or-take, take_at, ne_eqb, le-leb}
use native.Mathlib.Nat.{sub-zero}
use Rattle.std.proofs.lemmas.List.{take_all}
use Rattle.std.proofs.lemmas.Bool.{cases_lt}
use Rattle.std.specs.List.{IsAllAdjacentAnswer}
use Rattle.apdu.specs.Applications.{opened}
use Rattle.wire.specs.MarkedLines.{rising, is_marked, are_marks}

-- The marks of the line's places that hold marks.
pub marks_low : (xs : List ℕ) (n : ℕ) → ((i : ℕ) → get_or xs i 0 < 65536) → (i : ℕ) → i < length (take n xs) → get_or (take n xs) i 0 < 65536
marks_low xs n h i l = let b : i < n = omega (arith, length-take n xs) in rw get_or-take (h i)

-- A position above every mark is not marked.
pub marked_past : (xs : List ℕ) (p : ℕ) → ((i : ℕ) → i < length xs → get_or xs i 0 < p) → is_marked xs p ≡ false
marked_past [] p h = refl
marked_past (x ∷ xs) p h =
    ap (λ (t : Bool). t || is_marked xs p) (ne_eqb x p (λ e. omega (arith, h 0 (let z : 0 < length (x ∷ xs) = omega arith in z))))
    ∙ marked_past xs p (λ i l. h (suc i) (let z : suc i < length (x ∷ xs) = omega arith in z))

and_both : (a b : Bool) → a ≡ true → b ≡ true → (a && b) ≡ true
and_both a b e f = ap (λ (t : Bool). t && b) e ∙ f

and_parts : (a b : Bool) → (a && b) ≡ true → (a ≡ true) × (b ≡ true)
and_parts true b e = (refl, e)
and_parts false b e = absurd (let w : ◌≡◌ {A = ℕ} 0 1 = cc in omega arith)

and_none : (a : Bool) {b : Bool} → b ≡ false → (a && b) ≡ false
and_none true f = f
and_none false f = refl

rising_up : (xs : List ℕ) → ((k d : ℕ) → k + 1 < length xs → true ≡ ltb (get_or xs k d) (get_or xs (k + 1) d)) → rising xs ≡ true
rising_up [] h = refl
rising_up (x ∷ []) h = refl
rising_up (x ∷ (y ∷ xs)) h =
    and_both (ltb x y) (rising (y ∷ xs)) (sym (h 0 0 (let z : 0 + 1 < length (x ∷ (y ∷ xs)) = omega arith in z)))
    (rising_up (y ∷ xs) (λ k d l. let e : suc k + 1 ≡ suc (k + 1) = omega arith in
    rw e at (h (suc k) d (let z : suc k + 1 < length (x ∷ (y ∷ xs)) = omega arith in z))))

rising_not : (xs : List ℕ) (k : ℕ) → k + 1 < length xs → ((d : ℕ) → false ≡ ltb (get_or xs k d) (get_or xs (k + 1) d)) → rising xs ≡ false
rising_not [] k l h = absurd (let z : ⊥ = omega arith in z)
rising_not (x ∷ []) k l h = absurd (let z : ⊥ = omega arith in z)
rising_not (x ∷ (y ∷ xs)) zero l h = ap (λ (t : Bool). t && rising (y ∷ xs)) (sym (h 0))
rising_not (x ∷ (y ∷ xs)) (suc k) l h =
    and_none (ltb x y) (rising_not (y ∷ xs) k (let z : k + 1 < length (y ∷ xs) = omega arith in z)
    (λ d. let e : suc k + 1 ≡ suc (k + 1) = omega arith in rw e at (h d)))

-- What a comparison of each position with the next one answers.
pub rising_answer : (xs : List ℕ) (r : Bool) → IsAllAdjacentAnswer (λ x y b. b ≡ ltb x y) xs r → r ≡ rising xs
rising_answer xs true h = sym (rising_up xs h)
rising_answer xs false h = sym (rising_not xs h.0 h.1 h.2)

-- After one character the line damages what it would have damaged one later.
pub next_at : (marks : List ℕ) (at k : ℕ) → is_marked marks (at + 1 + k) ≡ is_marked marks (at + (k + 1))
next_at marks at k = ap (is_marked marks) (let z : at + 1 + k ≡ at + (k + 1) = omega arith in z)

-- Past the last position that can be marked nothing is damaged.
pub next_past : (marks : List ℕ) (at k : ℕ) → ((i : ℕ) → i < length marks → get_or marks i 0 < 65536) → 65536 ≤ at → is_marked marks (at + k) ≡ is_marked marks (at + (k + 1))
next_past marks at k h l =
    marked_past marks (at + k) (λ i j. omega (arith, h i j)) ∙ sym (marked_past marks (at + (k + 1)) (λ i j. omega (arith, h i j)))

-- The positions that open the line's places are its marks.
pub made_marks : (ps got rest : List ℕ) → got ≡ ps → length ps ≤ 64 → rising ps ≡ true
    → ◌≡◌ {A = Option (List ℕ × ℕ)} (Some (take (length ps) (got ++ rest), 0)) (cond (are_marks ps) (Some (ps, 0)) None)
made_marks ps got rest e few up =
    ap put (ap (λ (l : List ℕ). take (length ps) (l ++ rest)) e ∙ take_at ps rest (length ps) refl)
    ∙ ap (λ (t : Bool). cond t (put ps) None) (sym (and_both (leb (length ps) 64) (rising ps) (le-leb (length ps) 64 few) up))
  where
    put : List ℕ → Option (List ℕ × ℕ)
    put l = Some (l, 0)

-- Numbers that are small in two lists are small in both together.
pub low_append : (xs ys : List ℕ) (n : ℕ) → ((i : ℕ) → get_or xs i 0 < n) → ((i : ℕ) → get_or ys i 0 < n) → (i : ℕ) → get_or (xs ++ ys) i 0 < n
low_append [] ys n h k i = k i
low_append (x ∷ xs) ys n h k zero = h zero
low_append (x ∷ xs) ys n h k (suc i) = low_append xs ys n (λ j. h (suc j)) k i

-- As many as there are, or 64 if that is fewer, are the first 64.
pub first_64 : (ps got z : List ℕ) (n : ℕ) → n ≡ min (length ps) 64 → got ≡ take (n - 0) ps → got ++ drop (n - 0) z ≡ opened (take 64 ps) z
first_64 ps got z n e g =
    ap (λ (l : List ℕ). l ++ drop (n - 0) z) (g ∙ ap (λ (k : ℕ). take k ps) (sub-zero n) ∙ few) ∙ ap (λ (k : ℕ). take 64 ps ++ drop k z) (sub-zero n ∙ long)
  where
    few : take n ps ≡ take 64 ps
    few = ⊎_elim
        (λ (h : 64 < length ps). ap (λ (k : ℕ). take k ps) (let w : n ≡ 64 = omega arith in w))
        (λ (h : length ps ≤ 64). take_all n ps (omega arith) ∙ sym (take_all 64 ps h))
        (cases_lt 64 (length ps))

    long : n ≡ length (take 64 ps)
    long = rw length-take (omega arith)

low_take : (ps : List ℕ) (k : ℕ) → ((i : ℕ) → get_or ps i 0 < 65536) → (i : ℕ) → get_or (take k ps) i 0 < 65536
low_take [] zero h i = h i
low_take [] (suc k) h i = h i
low_take (p ∷ ps) zero h i = let z : 0 < 65536 = omega arith in z
low_take (p ∷ ps) (suc k) h zero = h zero
low_take (p ∷ ps) (suc k) h (suc i) = low_take ps k (λ j. h (suc j)) i

low_zeros : (n i : ℕ) → get_or (replicate n 0) i 0 < 65536
low_zeros zero i = let z : 0 < 65536 = omega arith in z
low_zeros (suc n) zero = let z : 0 < 65536 = omega arith in z
low_zeros (suc n) (suc i) = low_zeros n i

low_drop : (ps : List ℕ) (k : ℕ) → ((i : ℕ) → get_or ps i 0 < 65536) → (i : ℕ) → get_or (drop k ps) i 0 < 65536
low_drop ps zero h i = h i
low_drop [] (suc k) h i = h i
low_drop (p ∷ ps) (suc k) h i = low_drop ps k (λ j. h (suc j)) i

-- Each of the line's places holds a position below 65,536.
pub padded_low : (ps places : List ℕ) → places ≡ opened (take 64 ps) (replicate 64 0) → ((i : ℕ) → get_or ps i 0 < 65536) → (i : ℕ) → get_or places i 0 < 65536
padded_low ps places e h i =
    subst (λ (l : List ℕ). get_or l i 0 < 65536) (sym e)
    (low_append (take 64 ps) (drop (length (take 64 ps)) (replicate 64 0)) 65536 (low_take ps 64 h) (low_drop (replicate 64 0) (length (take 64 ps)) (low_zeros 64)) i)

pub padded_marks : (ps places : List ℕ) → places ≡ opened (take 64 ps) (replicate 64 0) → length ps ≤ 64 → rising ps ≡ true
    → ◌≡◌ {A = Option (List ℕ × ℕ)} (Some (take (length ps) places, 0)) (cond (are_marks ps) (Some (ps, 0)) None)
padded_marks ps places e few up =
    ap (λ (l : List ℕ). put (take (length ps) l)) e ∙ made_marks ps (take 64 ps) (drop (length (take 64 ps)) (replicate 64 0)) (take_all 64 ps few) few up
  where
    put : List ℕ → Option (List ℕ × ℕ)
    put l = Some (l, 0)
