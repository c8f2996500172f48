use Rattle.std.specs.Prelude.{ℕ, List, ◌++◌, codes, decimal}
use Rattle.script.specs.declared.reader.Refusal.{Refusal}
use Rattle.script.specs.declared.reader.Refusal.TheVariants.{BadLine}

-- The number of a script's refusal.
abbrev pub number : Refusal → ℕ
number (BadLine n) = 9

-- What a refusal says to a reader.
abbrev pub message : Refusal → List ℕ
message (BadLine n) = codes "line " ++ (decimal n ++ codes " is bad")
