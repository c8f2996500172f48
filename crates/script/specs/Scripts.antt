use Rattle.std.specs.Prelude.{ℕ, ◌+◌, min, cond, List, [], ◌∷◌, Some, None, Option, ◌==◌}
use Rattle.std.specs.Option.{option_map}
use Rattle.script.specs.declared.reader.Stage.{Stage}
use Rattle.script.specs.declared.reader.Stage.TheVariants.{Start}
use Rattle.script.specs.Fields.{and_then}
use Rattle.script.specs.Lines.{Line, line_of, told}
use Rattle.script.specs.Orders.{follows}

-- A byte put before the first line.
abbrev pub onto_first : ℕ → List (List ℕ) → List (List ℕ)
onto_first x [] = (x ∷ []) ∷ []
onto_first x (t ∷ ts) = (x ∷ t) ∷ ts

-- The lines of a text: each ends with LF, but the last may lack it; an empty text has no line.
abbrev pub lines : List ℕ → List (List ℕ)
lines [] = []
lines (x ∷ xs) = cond (x == 10) ([] ∷ lines xs) (onto_first x (lines xs))

-- The number of the line after line n; it stays at 2^64 - 1.
abbrev pub following : ℕ → ℕ
following n = min (n + 1) 18446744073709551615

-- A line that is well formed and may stand here, with the stage after it.
abbrev pub placed : Stage → Option Line → Option (Line × Stage)
placed stage o = and_then o (λ l. option_map (λ s. (l, s)) (follows stage (told l)))

-- What a script says: its lines up to the first bad one, and the number of that one.
pub record Script : Type 0 where
  pub read : List Line
  pub bad : Option ℕ

-- A line and what follows it; a bad line ends the reading.
abbrev pub before : ℕ → Option (Line × Stage) → (Stage → Script) → Script
before n None rest = record { read = []; bad = Some n }
before n (Some p) rest = record { read = p.0 ∷ (rest p.1).read; bad = (rest p.1).bad }

-- What lines say, of which the first is line n and stands at this stage.
abbrev pub read_on : ℕ → Stage → List (List ℕ) → Script
read_on n stage [] = record { read = []; bad = None }
read_on n stage (t ∷ ts) = before n (placed stage (line_of t)) (λ s. read_on (following n) s ts)

-- What a text says as a script.
abbrev pub script : List ℕ → Script
script text = read_on 1 Start (lines text)
