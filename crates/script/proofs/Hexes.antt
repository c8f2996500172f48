use Rattle.std.proofs.Common.{◌≡◌, ℕ, zero, suc, ◌*◌, ◌%◌, ◌<◌, ◌≤◌, Bool, true, false, cond, ◌&&◌, eqb, leb, List, [], ◌∷◌, length, Some, None, refl, ap, arith}
use Rattle.std.proofs.lemmas.Bool.Decides.{nat_tests}
use Rattle.script.specs.Hex.{is_hex, hex_value, all_hex, pairs, command_of}

pub and_left : (a b : Bool) → a && b ≡ true → a ≡ true
and_left true b e = refl
and_left false b e = e

pub and_right : (a b : Bool) → a && b ≡ true → b ≡ true
and_right true b e = e
and_right false b e = absurd (grind arith)

pub hex_small : (c : ℕ) → is_hex c ≡ true → hex_value c < 16
hex_small c e = grind (arith, nat_tests)

pub length_pairs : (cs : List ℕ) (i : ℕ) → length cs ≡ 2 * i → length (pairs cs) ≡ i
length_pairs [] i h = omega arith
length_pairs (c ∷ []) i h = absurd (omega arith)
length_pairs (c ∷ (d ∷ cs)) zero h = absurd (omega arith)
length_pairs (c ∷ (d ∷ cs)) (suc i) h = ap suc (length_pairs cs i (omega arith))

none_by : (a b : Bool) (bs : List ℕ) → None ≡ cond (a && (false && b)) (Some bs) None
none_by true b bs = refl
none_by false b bs = refl

none_by_two : (a b : Bool) (bs : List ℕ) → None ≡ cond (a && (b && false)) (Some bs) None
none_by_two true true bs = refl
none_by_two true false bs = refl
none_by_two false b bs = refl

pub command_long : (cs : List ℕ) → 600 < length cs → None ≡ command_of cs
command_long cs h = let e : leb (length cs) 600 ≡ false = grind (arith, nat_tests) in rw e

pub command_odd : (cs : List ℕ) → (length cs % 2 ≡ 0 → ⊥) → None ≡ command_of cs
command_odd cs h = let e : eqb (length cs % 2) 0 ≡ false = grind (arith, nat_tests) in rw e (none_by (leb (length cs) 600) (all_hex cs) (pairs cs))

pub command_unhex : (cs : List ℕ) → all_hex cs ≡ false → None ≡ command_of cs
command_unhex cs h = rw h (none_by_two (leb (length cs) 600) (eqb (length cs % 2) 0) (pairs cs))

pub command_fine : (cs : List ℕ) → length cs ≤ 600 → length cs % 2 ≡ 0 → all_hex cs ≡ true → Some (pairs cs) ≡ command_of cs
command_fine cs h k e =
    let f : leb (length cs) 600 ≡ true = grind (arith, nat_tests) in
    let g : eqb (length cs % 2) 0 ≡ true = grind (arith, nat_tests) in
    rw (f, g, e)
