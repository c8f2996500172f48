use Rattle.std.proofs.Common.{◌≡◌, ℕ, ◌+◌, ◌*◌, ◌<◌, ◌≤◌, ◌⊎◌, List, [], ◌∷◌, length, get_or, ℤ, pos, ◌-ℤ◌, neg_ℤ, Ok, Err, ap, ◌∙◌, arith, w32, to_z, of_z}
use Rattle.std.proofs.lemmas.Int.{ints}
use Rattle.std.proofs.lemmas.Bool.Decides.{nat_tests}
use Rattle.apdu.specs.Statuses.{wrong_data}
use Rattle.apps.specs.Purse.{number_of, amount_of, move_by, move_amount}

-- Four bytes are the number that `from_be_bytes` makes of them.
pub number_of_four : (body : List ℕ) → length body ≡ 4
    → get_or body 0 0 * 16777216 + get_or body 1 0 * 65536 + get_or body 2 0 * 256 + get_or body 3 0 ≡ number_of body
number_of_four [] e = absurd (omega arith)
number_of_four (x ∷ []) e = absurd (omega arith)
number_of_four (x ∷ (y ∷ [])) e = absurd (omega arith)
number_of_four (x ∷ (y ∷ (z ∷ []))) e = absurd (omega arith)
number_of_four (x ∷ (y ∷ (z ∷ (w ∷ [])))) e = omega arith
number_of_four (x ∷ (y ∷ (z ∷ (w ∷ (v ∷ vs))))) e = absurd (omega arith)

pub amount_read : (body : List ℕ) (n : ℕ) → length body ≡ 4 → n ≡ number_of body → 1 ≤ n → n ≤ 1000000 → Ok n ≡ amount_of body
amount_read body n e f l h = grind (arith, nat_tests)

pub amount_wrong : (body : List ℕ) (n : ℕ) → length body ≡ 4 → n ≡ number_of body → (n < 1) ⊎ ((1 ≤ n) × (1000000 < n)) → Err wrong_data ≡ amount_of body
amount_wrong body n e f h = grind (arith, nat_tests)

amount_limit : (body : List ℕ) (n : ℕ) → Ok n ≡ amount_of body → n ≤ 1000000
amount_limit body n e = grind (arith, nat_tests)

-- The signed 32 bits of an amount and of what it takes off.
pub plus : (body : List ℕ) (n : ℕ) → Ok n ≡ amount_of body → to_z w32 n ≡ pos n
plus body n e = let l = amount_limit body n e in omega (arith, ints)

pub minus : (body : List ℕ) (n : ℕ) → Ok n ≡ amount_of body → to_z w32 (of_z w32 (pos 0 -ℤ to_z w32 n)) ≡ neg_ℤ (pos n)
minus body n e = let l = amount_limit body n e in omega (arith, ints)

-- A movement by an amount that was read.
pub moves_amount : (ms : List ℤ) (way : ℕ → ℤ) (body : List ℕ) (n : ℕ) (m : ℤ) → Ok n ≡ amount_of body → m ≡ way n
    → move_by ms m ≡ move_amount ms way (amount_of body)
moves_amount ms way body n m e f = ap (move_by ms) f ∙ ap (move_amount ms way) e
