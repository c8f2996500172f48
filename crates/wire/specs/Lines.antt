use Rattle.std.specs.Prelude.{ℕ, ◌+◌, Bool, true, false, Some, None, Option}

-- A line means, for each coming character, whether it will be damaged; number 0 is the next one. One carry uses up one.
abbrev pub Damage : Type 0
Damage = ℕ → Bool

-- What is left to come after one carry.
abbrev pub later : Damage → Damage
later d k = d (k + 1)

-- What a carried character comes to: itself, or nothing where it is damaged.
abbrev pub carried : Bool → ℕ → Option ℕ
carried true byte = None
carried false byte = Some byte
