use Rattle.std.proofs.Common.{◌≡◌, ℕ, ◌+◌, ◌*◌, ◌/◌, ◌%◌, ◌^◌, ◌<◌, ◌≤◌, Bool, true, false, cond, ◌&&◌, eqb, leb, List, [], ◌∷◌, ◌++◌, length, get_or, Some, None, decimal, Option, sym, refl, ap, ◌∙◌, arith, rules}
use Rattle.std.proofs.lemmas.Fmt.{decimal-digits_value}
use Rattle.std.proofs.lemmas.Str.Parse.{IsNumeralModel, numerals_by_fold}
use Rattle.std.proofs.lemmas.Bool.Decides.{nat_tests}
use Rattle.std.specs.List.{AllByRecursion}
use Rattle.script.specs.Fields.{and_then, split, put_before, all_digits, well_led, value_after, number}
use Rattle.script.specs.Hex.{hex, hex_digit, hex_value, is_hex, all_hex, pairs, command_of}
use Rattle.script.proofs.Hexes.{length_pairs, hex_small, and_left, and_right}

-- what came of a value that may be missing came of the value
pub from_then : {A B P : Type 0} (o : Option A) (f : A → Option B) (y : B) → and_then o f ≡ Some y → ((x : A) → o ≡ Some x → f x ≡ Some y → P) → P
from_then None f y e k = absurd (grind arith)
from_then (Some x) f y e k = k x refl e

from_cond : {A : Type 0} (t : Bool) (v x : A) → cond t (Some v) None ≡ Some x → (t ≡ true) × (v ≡ x)
from_cond true v x e = (refl, cc)
from_cond false v x e = absurd (grind arith)

-- the two parts and the comma are the text
put_before_inv : (x : ℕ) (xs : List ℕ) (o : Option (List ℕ × List ℕ)) (p : List ℕ × List ℕ) → ((q : List ℕ × List ℕ) → o ≡ Some q → q.0 ++ 44 ∷ q.1 ≡ xs) → put_before x o ≡ Some p → p.0 ++ 44 ∷ p.1 ≡ x ∷ xs
put_before_inv x xs None p ih e = absurd (grind arith)
put_before_inv x xs (Some q) p ih e =
    let f : p ≡ (x ∷ q.0, q.1) = cc in
    rw f (ap (λ (l : List ℕ). x ∷ l) (ih q refl))

split_by : (x : ℕ) (xs : List ℕ) (t : Bool) (p : List ℕ × List ℕ) → eqb x 44 ≡ t → ((q : List ℕ × List ℕ) → split xs ≡ Some q → q.0 ++ 44 ∷ q.1 ≡ xs) → cond t (Some ([], xs)) (put_before x (split xs)) ≡ Some p → p.0 ++ 44 ∷ p.1 ≡ x ∷ xs
split_by x xs true p h ih e =
    let f : p ≡ ([], xs) = cc in
    let g : x ≡ 44 = grind (arith, nat_tests) in
    rw (f, g)
split_by x xs false p h ih e = put_before_inv x xs (split xs) p ih e

pub split_inv : (text : List ℕ) (p : List ℕ × List ℕ) → split text ≡ Some p → p.0 ++ 44 ∷ p.1 ≡ text
split_inv [] p e = absurd (grind arith)
split_inv (x ∷ xs) p e = split_by x xs (eqb x 44) p refl (split_inv xs) e

pub own : IsNumeralModel (λ ds. all_digits ds ≡ true) (value_after 0)
own = numerals_by_fold _ (search rules) value_after (search rules)

led : (cs : List ℕ) → well_led cs ≡ true → (0 < length cs) × (get_or cs 0 0 ≡ 48 → length cs ≡ 1)
led [] e = absurd (grind arith)
led (c ∷ []) e = (omega arith, λ _. refl)
led (c ∷ (d ∷ ds)) e = (omega arith, λ h. absurd (grind (arith, nat_tests)))

-- a number is written just so, and lies within its limits
pub number_inv : (low high : ℕ) (text : List ℕ) (n : ℕ) → high < 2 ^ 64 → number low high text ≡ Some n → (decimal n ≡ text) × (low ≤ n) × (n ≤ high)
number_inv low high text n h e =
    let v = value_after 0 text in
    let p = from_cond (well_led text && (leb low v && (all_digits text && leb v high))) v n e in
    let w = and_left (well_led text) (leb low v && (all_digits text && leb v high)) p.0 in
    let q = and_right (well_led text) (leb low v && (all_digits text && leb v high)) p.0 in
    let a = and_left (leb low v) (all_digits text && leb v high) q in
    let r = and_right (leb low v) (all_digits text && leb v high) q in
    let b = and_left (all_digits text) (leb v high) r in
    let d = and_right (all_digits text) (leb v high) r in
    let up : v ≤ high = grind (arith, nat_tests) in
    let down : low ≤ v = grind (arith, nat_tests) in
    let f = p.1 in
    (ap decimal (sym f) ∙ decimal-digits_value own text b (led text w).0 (led text w).1 (omega arith), omega (arith, f), omega (arith, f))

digit_back : (c d : ℕ) → is_hex c ≡ true → is_hex d ≡ true → (hex_digit ((hex_value c * 16 + hex_value d) / 16) ≡ c) × (hex_digit ((hex_value c * 16 + hex_value d) % 16) ≡ d)
digit_back c d e f =
    let g = hex_small c e in
    let h = hex_small d f in
    let m : (hex_value c * 16 + hex_value d) / 16 ≡ hex_value c = omega arith in
    let n : (hex_value c * 16 + hex_value d) % 16 ≡ hex_value d = omega arith in
    (rw m (grind (arith, nat_tests)), rw n (grind (arith, nat_tests)))

hex_pairs : (cs : List ℕ) → length cs % 2 ≡ 0 → all_hex cs ≡ true → (hex (pairs cs) ≡ cs) × AllByRecursion (λ b. b < 256) (pairs cs)
hex_pairs [] h e = (refl, tt)
hex_pairs (c ∷ []) h e = absurd (omega arith)
hex_pairs (c ∷ (d ∷ cs)) h e =
    let f = and_left (is_hex c) (is_hex d && all_hex cs) e in
    let r = and_right (is_hex c) (is_hex d && all_hex cs) e in
    let g = and_left (is_hex d) (all_hex cs) r in
    let ih = hex_pairs cs (omega arith) (and_right (is_hex d) (all_hex cs) r) in
    let b = digit_back c d f g in
    let m = hex_small c f in
    let n = hex_small d g in
    (rw (b.0, b.1, ih.0), (omega arith, ih.1))

-- a command is written just so, and lies within its limits
pub command_inv : (text bytes : List ℕ) → command_of text ≡ Some bytes → (hex bytes ≡ text) × (length bytes ≤ 300) × AllByRecursion (λ b. b < 256) bytes
command_inv text bytes e =
    let p = from_cond (leb (length text) 600 && (eqb (length text % 2) 0 && all_hex text)) (pairs text) bytes e in
    let a = and_left (leb (length text) 600) (eqb (length text % 2) 0 && all_hex text) p.0 in
    let q = and_right (leb (length text) 600) (eqb (length text % 2) 0 && all_hex text) p.0 in
    let b = and_left (eqb (length text % 2) 0) (all_hex text) q in
    let d = and_right (eqb (length text % 2) 0) (all_hex text) q in
    let short : length text ≤ 600 = grind (arith, nat_tests) in
    let even : length text % 2 ≡ 0 = grind (arith, nat_tests) in
    let g = hex_pairs text even d in
    let n = length_pairs text (length text / 2) (omega arith) in
    rw (← p.1) (g.0, omega (arith, n), g.1)
