use Rattle.std.specs.Prelude.{ℕ, ◌+◌, ◌-◌, ◌*◌, Bool, true, false, cond, not, ◌&&◌, List, [], ◌∷◌, Some, None, Option, ◌==◌, nat_le}
use Rattle.std.specs.Borrow.{Bor}
use Rattle.std.specs.List.{list_all}

-- What comes of a value that may be missing: nothing where it is.
abbrev pub and_then : {A B : Type 0} → Option A → (A → Option B) → Option B
and_then None f = None
and_then (Some x) f = f x

-- A byte put before the first of two texts.
abbrev pub put_before : ℕ → Option (List ℕ × List ℕ) → Option (List ℕ × List ℕ)
put_before x None = None
put_before x (Some p) = Some (x ∷ p.0, p.1)

-- The text before the first comma and the text after it, where there is a comma.
abbrev pub split : List ℕ → Option (List ℕ × List ℕ)
split [] = None
split (x ∷ xs) = cond (x == 44) (Some ([], xs)) (put_before x (split xs))

-- What two lent texts hold.
abbrev pub both : Bor (List ℕ) × Bor (List ℕ) → List ℕ × List ℕ
both p = (p.0.now, p.1.now)

-- The digits are `0` to `9`.
abbrev pub is_digit : ℕ → Bool
is_digit c = nat_le 48 c && nat_le c 57

-- A text of digits only.
abbrev pub all_digits : List ℕ → Bool
all_digits = list_all is_digit

-- There is a first byte, and it is a 0 only where it stands alone.
abbrev pub well_led : List ℕ → Bool
well_led [] = false
well_led (c ∷ []) = true
well_led (c ∷ (d ∷ ds)) = not (c == 48)

-- The number that digits write after those of the number n.
abbrev pub value_after : ℕ → List ℕ → ℕ
value_after n [] = n
value_after n (c ∷ cs) = value_after (n * 10 + (c - 48)) cs

-- A number from low to high in plain decimal: digits only, at least one, and no leading zero but in `0` itself. Any other text is none.
abbrev pub number : ℕ → ℕ → List ℕ → Option ℕ
number low high text =
    cond (well_led text && (nat_le low (value_after 0 text) && (all_digits text && nat_le (value_after 0 text) high)))
    (Some (value_after 0 text)) None
