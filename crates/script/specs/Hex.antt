use Rattle.std.specs.Prelude.{ℕ, ◌+◌, ◌-◌, ◌*◌, ◌/◌, ◌%◌, Bool, cond, ◌&&◌, ◌||◌, List, [], ◌∷◌, ◌++◌, length, drop, Some, None, Option, ◌==◌, nat_le, nat_lt}
use Rattle.std.specs.List.{list_all}

-- The hex digit of a number below 16: `0` to `9`, then `A` to `F`.
abbrev pub hex_digit : ℕ → ℕ
hex_digit d = cond (nat_lt d 10) (48 + d) (55 + d)

-- The hex digits are `0` to `9` and `A` to `F`.
abbrev pub is_hex : ℕ → Bool
is_hex c = (nat_le 48 c && nat_le c 57) || (nat_le 65 c && nat_le c 70)

-- The number of a hex digit.
abbrev pub hex_value : ℕ → ℕ
hex_value c = cond (nat_le c 57) (c - 48) (c - 55)

-- Each byte as two digits.
abbrev pub hex : List ℕ → List ℕ
hex [] = []
hex (b ∷ bs) = hex_digit (b / 16) ∷ (hex_digit (b % 16) ∷ hex bs)

-- A text of hex digits only.
abbrev pub all_hex : List ℕ → Bool
all_hex = list_all is_hex

-- Each pair of digits as a byte; an odd digit at the end is left out.
abbrev pub pairs : List ℕ → List ℕ
pairs [] = []
pairs (c ∷ []) = []
pairs (c ∷ (d ∷ cs)) = (hex_value c * 16 + hex_value d) ∷ pairs cs

-- A command is written in pairs of hex digits, at most 300 of them.
abbrev pub command_of : List ℕ → Option (List ℕ)
command_of text = cond (nat_le (length text) 600 && (length text % 2 == 0 && all_hex text)) (Some (pairs text)) None

-- A memory that bytes open, with its rest as it was.
abbrev pub opened : List ℕ → List ℕ → List ℕ
opened bytes memory = bytes ++ drop (length bytes) memory
