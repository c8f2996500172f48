use Rattle.std.proofs.Common.{◌≡◌, ℕ, zero, suc, ◌+◌, ◌-◌, ◌*◌, ◌^◌, ◌<◌, ◌≤◌, Bool, true, false, cond, ◌&&◌, leb, List, [], ◌∷◌, length, get_or, Some, None, Ok, Err, decimal, Option, Result, sym, refl, ap, ◌∙◌, arith}
use Rattle.std.proofs.lemmas.Bool.Decides.{nat_tests}
use Rattle.std.proofs.lemmas.Fmt.{length-decimal-le}
use Rattle.std.proofs.lemmas.Str.{IsUtf8-from_ascii}
use Rattle.std.proofs.lemmas.Str.Parse.{parse_digits}
use Rattle.std.specs.Ordering.{is_le, nat_cmp}
use Rattle.std.specs.Result.{result_ok, OkIff, MatchResult}
use Rattle.std.specs.Str.{IsUtf8}
use Rattle.std.specs.Str.Parse.{ParsesUnsigned}
use Rattle.script.specs.Fields.{is_digit, all_digits, well_led, value_after, number}
use Rattle.script.proofs.Hexes.{and_left, and_right}
use Rattle.script.proofs.Inversions.{own, number_inv}

-- `<=` by the order of numbers
pub le_cmp : (a b : ℕ) → is_le (nat_cmp a b) ≡ leb a b
le_cmp a b = grind (arith, nat_tests)

-- the plain decimals
abbrev pub numeral : List ℕ → Bool
numeral text = well_led text && all_digits text

digits_low : (cs : List ℕ) → all_digits cs ≡ true → (i : ℕ) → get_or cs i 0 < 128
digits_low [] e i = omega arith
digits_low (c ∷ cs) e zero = let f = and_left (is_digit c) (all_digits cs) e in grind (arith, nat_tests)
digits_low (c ∷ cs) e (suc i) = digits_low cs (and_right (is_digit c) (all_digits cs) e) i

pub utf8_numeral : (text : List ℕ) → numeral text ≡ true → IsUtf8 text
utf8_numeral text e = IsUtf8-from_ascii text (digits_low text (and_right (well_led text) (all_digits text) e))

pub number_read : (low high n : ℕ) (text : List ℕ) → numeral text ≡ true → value_after 0 text ≡ n → number low high text ≡ cond (leb low n && leb n high) (Some n) None
number_read low high n text e f =
    rw (and_left (well_led text) (all_digits text) e, and_right (well_led text) (all_digits text) e, f) refl

long_led : (text : List ℕ) → well_led text ≡ true → 0 < length text
long_led [] e = absurd (grind arith)
long_led (c ∷ cs) e = omega arith

-- what `parse` says of a plain decimal
pub parsed : {E : Type 0} (low high : ℕ) (text t : List ℕ) (r : Result ℕ E) (n : ℕ) → numeral text ≡ true → t ≡ text → ParsesUnsigned 16 10 t r → result_ok r ≡ Some n → number low high text ≡ cond (leb low n && leb n high) (Some n) None
parsed {E = E} low high text t (Ok x) n e f p g =
    let q : ParsesUnsigned {E = E} 16 10 text (Ok x) = rw f at p in
    let m : value_after 0 text ≡ x = sym (parse_digits own {E = E} 16 text (Ok x) q (and_right (well_led text) (all_digits text) e)).1 in
    let k : x ≡ n = cc in
    number_read low high n text e (m ∙ k)
parsed {E = E} low high text t (Err x) n e f p g = absurd (grind arith)

-- a plain decimal that `parse` refuses is too large
unread : {E : Type 0} (low high : ℕ) (text : List ℕ) (r : Result ℕ E) → numeral text ≡ true → OkIff r ((0 < length text) × (value_after 0 text < 2 ^ 16)) (value_after 0 text) → high < 65536 → result_ok r ≡ None → number low high text ≡ None
unread low high text (Ok x) e k h g = absurd (grind arith)
unread low high text (Err x) e k h g =
    let n = long_led text (and_left (well_led text) (all_digits text) e) in
    let v : 65536 ≤ value_after 0 text = by (leb 65536 (value_after 0 text)) refl in
    let f : leb (value_after 0 text) high ≡ false = grind (arith, nat_tests) in
    number_read low high (value_after 0 text) text e refl ∙ rw f (cleared (leb low (value_after 0 text)) (value_after 0 text))
  where
    by : (b : Bool) → leb 65536 (value_after 0 text) ≡ b → 65536 ≤ value_after 0 text
    by true f = grind (arith, nat_tests)
    by false f = absurd (k (long_led text (and_left (well_led text) (all_digits text) e), grind (arith, nat_tests)))

    cleared : (a : Bool) (n : ℕ) → cond (a && false) (Some n) None ≡ None
    cleared true n = refl
    cleared false n = refl

pub unparsed : {E : Type 0} (low high : ℕ) (text t : List ℕ) (r : Result ℕ E) → numeral text ≡ true → t ≡ text → ParsesUnsigned 16 10 t r → high < 65536 → result_ok r ≡ None → number low high text ≡ None
unparsed {E = E} low high text t r e f p h g =
    let q : ParsesUnsigned {E = E} 16 10 text r = rw f at p in
    unread low high text r e (parse_digits own 16 text r q (and_right (well_led text) (all_digits text) e)) h g

-- `from_utf8` takes a plain decimal
pub refused_utf8 : {X E : Type 0} (P : X → Type 0) (Q : E → Type 0) (text : List ℕ) (r : Result X E) → numeral text ≡ true → MatchResult r P (λ e. ¬ (IsUtf8 text) × Q e) → result_ok r ≡ None → ⊥
refused_utf8 P Q text (Ok x) e m g = grind arith
refused_utf8 P Q text (Err x) e m g = m.0 (utf8_numeral text e)

-- a text of more than five bytes is no number of 16 bits
pub number_long : (low high : ℕ) (text : List ℕ) → 5 < length text → high < 65536 → number low high text ≡ None
number_long low high text h k = by (number low high text) refl
  where
    by : (o : Option ℕ) → number low high text ≡ o → o ≡ None
    by None e = refl
    by (Some n) e =
        let f = number_inv low high text n (omega arith) e in
        let g = length-decimal-le 5 n (omega arith) (omega arith) (omega arith) in
        absurd (omega (arith, g, ap length f.0))

-- digits read from the left while the number stays within its limit
abbrev pub reading : ℕ → ℕ → List ℕ → Option ℕ
reading high n [] = Some n
reading high n (c ∷ cs) = cond (is_digit c && leb (n * 10 + (c - 48)) high) (reading high (n * 10 + (c - 48)) cs) None

pub value_grows : (n : ℕ) (cs : List ℕ) → n ≤ value_after n cs
value_grows n [] = omega arith
value_grows n (c ∷ cs) = omega (arith, value_grows (n * 10 + (c - 48)) cs)

abbrev within : ℕ → ℕ → List ℕ → Option ℕ
within high n cs = cond (all_digits cs && leb (value_after n cs) high) (Some (value_after n cs)) None

none_and_false : (b : Bool) (n : ℕ) → None ≡ cond (b && false) (Some n) None
none_and_false true n = refl
none_and_false false n = refl

reading_by : (high n c : ℕ) (cs : List ℕ) (d k : Bool) → is_digit c ≡ d → leb (n * 10 + (c - 48)) high ≡ k → (k ≡ true → reading high (n * 10 + (c - 48)) cs ≡ within high (n * 10 + (c - 48)) cs) → reading high n (c ∷ cs) ≡ within high n (c ∷ cs)
reading_by high n c cs false k e f ih = rw e
reading_by high n c cs true true e f ih = rw (e, f) (ih refl)
reading_by high n c cs true false e f ih =
    let g = value_grows (n * 10 + (c - 48)) cs in
    let z : leb (value_after (n * 10 + (c - 48)) cs) high ≡ false = grind (arith, nat_tests) in
    rw (e, f, z) (none_and_false (all_digits cs) (value_after (n * 10 + (c - 48)) cs))

pub reading_is : (high n : ℕ) (cs : List ℕ) → n ≤ high → reading high n cs ≡ within high n cs
reading_is high n [] h = grind (arith, nat_tests)
reading_is high n (c ∷ cs) h = reading_by high n c cs (is_digit c) (leb (n * 10 + (c - 48)) high) refl refl (λ k. reading_is high (n * 10 + (c - 48)) cs (grind (arith, nat_tests)))

refused_by : (w l a k : Bool) (n : ℕ) → cond (a && k) (Some n) None ≡ None → cond (w && (l && (a && k))) (Some n) None ≡ None
refused_by false l a k n e = refl
refused_by true false a k n e = refl
refused_by true true a k n e = e

pub number_refused : (low high : ℕ) (cs : List ℕ) → reading high 0 cs ≡ None → number low high cs ≡ None
number_refused low high cs e =
    refused_by (well_led cs) (leb low (value_after 0 cs)) (all_digits cs) (leb (value_after 0 cs) high) (value_after 0 cs) (sym (reading_is high 0 cs (omega arith)) ∙ e)

read_by : (l t : Bool) (v n : ℕ) → cond t (Some v) None ≡ Some n → cond (l && t) (Some v) None ≡ cond l (Some n) None
read_by true t v n e = e
read_by false t v n e = refl

value_by : (t : Bool) (v n : ℕ) → cond t (Some v) None ≡ Some n → v ≡ n
value_by true v n e = cc
value_by false v n e = absurd (let z : ◌≡◌ {A = ℕ} 0 1 = cc in omega arith)

pub reading_read : (low high n : ℕ) (cs : List ℕ) → well_led cs ≡ true → reading high 0 cs ≡ Some n → number low high cs ≡ cond (leb low n) (Some n) None
reading_read low high n cs s e =
    let t : cond (all_digits cs && leb (value_after 0 cs) high) (Some (value_after 0 cs)) None ≡ Some n = sym (reading_is high 0 cs (omega arith)) ∙ e in
    let q : value_after 0 cs ≡ n = value_by (all_digits cs && leb (value_after 0 cs) high) (value_after 0 cs) n t in
    rw s (read_by (leb low (value_after 0 cs)) (all_digits cs && leb (value_after 0 cs) high) (value_after 0 cs) n t ∙ ap (λ (v : ℕ). cond (leb low v) (Some n) None) q)

pub number_low : (low high n : ℕ) (cs : List ℕ) → well_led cs ≡ true → reading high 0 cs ≡ Some n → n < low → None ≡ number low high cs
number_low low high n cs s e h = let z : leb low n ≡ false = grind (arith, nat_tests) in sym (reading_read low high n cs s e ∙ rw z)

pub number_fine : (low high n : ℕ) (cs : List ℕ) → well_led cs ≡ true → reading high 0 cs ≡ Some n → low ≤ n → Some n ≡ number low high cs
number_fine low high n cs s e h = let z : leb low n ≡ true = grind (arith, nat_tests) in sym (reading_read low high n cs s e ∙ rw z)
