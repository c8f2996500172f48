use Rattle.std.proofs.Common.{◌≡◌, ℕ, suc, ◌+◌, ◌-◌, ◌<◌, ◌≤◌, Bool, true, false, cond, eqb, ltb, List, [], ◌∷◌, ◌++◌, length, get_or, take, drop, Some, None, Option, sym, refl, ap, ◌∙◌, arith}
use Rattle.std.proofs.lemmas.List.{append_assoc, take_more, drop_more, drop_all, take_rest}
use Rattle.std.proofs.lemmas.Bool.Decides.{nat_tests}
use Rattle.std.specs.List.{position, position_or_len}
use Rattle.std.specs.Option.{option_map}
use Rattle.script.specs.Fields.{split, put_before}

abbrev pub comma : ℕ → Bool
comma b = eqb b 44

-- the two texts, where a comma stands at a place
abbrev pub parts : List ℕ → ℕ → List ℕ × List ℕ
parts xs i = (take i xs, drop (i + 1) xs)

abbrev found : List ℕ → ℕ → Option (List ℕ × List ℕ)
found xs i = cond (ltb i (length xs)) (Some (parts xs i)) None

found_more : (x : ℕ) (xs : List ℕ) (i : ℕ) (b : Bool) → ltb i (length xs) ≡ b → put_before x (found xs i) ≡ found (x ∷ xs) (1 + i)
found_more x xs i true e =
    let f : ltb (1 + i) (length (x ∷ xs)) ≡ true = grind (arith, nat_tests) in
    let n : 1 + i ≡ suc i = omega arith in
    let m : suc i + 1 ≡ suc (i + 1) = omega arith in
    rw (e, f, n, m) refl
found_more x xs i false e =
    let f : ltb (1 + i) (length (x ∷ xs)) ≡ false = grind (arith, nat_tests) in
    rw (e, f) refl

split_by : (x : ℕ) (xs : List ℕ) (b : Bool) → eqb x 44 ≡ b → split xs ≡ found xs (position_or_len comma xs) → split (x ∷ xs) ≡ found (x ∷ xs) (position_or_len comma (x ∷ xs))
split_by x xs true e ih =
    let f : ltb 0 (length (x ∷ xs)) ≡ true = grind (arith, nat_tests) in
    rw (e, f) refl
split_by x xs false e ih =
    rw (e, ih) (found_more x xs (position_or_len comma xs) (ltb (position_or_len comma xs) (length xs)) refl)

split_found : (xs : List ℕ) → split xs ≡ found xs (position_or_len comma xs)
split_found [] = refl
split_found (x ∷ xs) = split_by x xs (eqb x 44) refl (split_found xs)

-- the first comma splits a text
pub split_position : (xs : List ℕ) (o : Option ℕ) → o ≡ position comma xs → split xs ≡ option_map (parts xs) o
split_position xs o e = rw e (split_found xs ∙ by (ltb (position_or_len comma xs) (length xs)))
  where
    by : (b : Bool) → cond b (Some (parts xs (position_or_len comma xs))) None ≡ option_map (parts xs) (cond b (Some (position_or_len comma xs)) None)
    by true = refl
    by false = refl

-- the two parts as the checker reads `&text[..i]` and `&text[i + 1..]`
pub split_parts : (xs : List ℕ) (o : Option ℕ) (i : ℕ) → o ≡ position comma xs → o ≡ Some i → Some (take i xs, take (length xs - (i + 1)) (drop (i + 1) xs)) ≡ split xs
split_parts xs o i e f = rw (take_rest xs (i + 1)) (sym (split_position xs o e ∙ ap (option_map (parts xs)) f))

-- a text put before the first of two texts
abbrev pub onto : List ℕ → Option (List ℕ × List ℕ) → Option (List ℕ × List ℕ)
onto p None = None
onto p (Some q) = Some (p ++ q.0, q.1)

onto_none : (o : Option (List ℕ × List ℕ)) → onto [] o ≡ o
onto_none None = refl
onto_none (Some q) = refl

onto_push : (p : List ℕ) (x : ℕ) (o : Option (List ℕ × List ℕ)) → onto p (put_before x o) ≡ onto (p ++ x ∷ []) o
onto_push p x None = refl
onto_push p x (Some q) = ap (λ (l : List ℕ). Some (l, q.1)) (sym (append_assoc p (x ∷ []) q.0))

pub split_none : (b : List ℕ) → split b ≡ onto (take 0 b) (split (drop 0 b))
split_none b = sym (onto_none (split b))

split_cons : (x : ℕ) (xs : List ℕ) (t : Bool) → eqb x 44 ≡ t → split (x ∷ xs) ≡ cond t (Some ([], xs)) (put_before x (split xs))
split_cons x xs t e = rw e

pub split_more : (b : List ℕ) (i : ℕ) → i < length b → eqb (get_or b i 0) 44 ≡ false → split b ≡ onto (take i b) (split (drop i b)) → split b ≡ onto (take (i + 1) b) (split (drop (i + 1) b))
split_more b i h e q =
    q ∙ ap (λ (l : List ℕ). onto (take i b) (split l)) (drop_more b i 0 h)
    ∙ ap (onto (take i b)) (split_cons (get_or b i 0) (drop (i + 1) b) false e)
    ∙ onto_push (take i b) (get_or b i 0) (split (drop (i + 1) b))
    ∙ ap (λ (l : List ℕ). onto l (split (drop (i + 1) b))) (sym (take_more b i 0 h))

pub split_all : (b : List ℕ) (i : ℕ) → length b ≤ i → split b ≡ onto (take i b) (split (drop i b)) → split b ≡ None
split_all b i h q = q ∙ ap (λ (l : List ℕ). onto (take i b) (split l)) (drop_all i b h)
