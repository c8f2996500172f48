use Rattle.std.specs.Prelude.{ℕ, cond, List, length, Some, None, Option, nat_le}
use Rattle.script.specs.Hex.{opened}

-- The length of a text that a memory has room for.
abbrev pub room_for : List ℕ → List ℕ → Option ℕ
room_for text memory = cond (nat_le (length text) (length memory)) (Some (length text)) None

-- A memory that a text opens, where it has room for it; else as it was.
abbrev pub copied : List ℕ → List ℕ → List ℕ
copied text memory = cond (nat_le (length text) (length memory)) (opened text memory) memory
