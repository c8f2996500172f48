use Rattle.std.specs.Prelude.{◌≡◌, ℕ, List, [], ◌∷◌, ◌++◌, map, Some, None, Option}
use Rattle.script.specs.Readings.{Reading, Out, more, line, bad, fresh, fed, finished}
use Rattle.script.specs.Scripts.{Script, script}

-- What a step brings that is more than nothing, before what follows.
abbrev pub noted : Out → List Out → List Out
noted more rest = rest
noted (line l) rest = line l ∷ rest
noted (bad n) rest = bad n ∷ rest

-- All that a reading brings for the bytes that come and then the end.
abbrev pub brought : Reading → List ℕ → List Out
brought r [] = noted (finished r).out []
brought r (b ∷ bs) = noted (fed r b).out (brought (fed r b).after bs)

-- A bad line, if there is one.
abbrev pub bad_part : Option ℕ → List Out
bad_part None = []
bad_part (Some n) = bad n ∷ []

-- A script as a reader tells it: its lines in their order, and then its bad line, if it has one.
abbrev pub told_as : Script → List Out
told_as s = map line s.read ++ bad_part s.bad

-- A reader fed all of a text, and then its end, tells the script that the text is, and nothing else.
abbrev pub ReadsScripts : Type 0
ReadsScripts = (text : List ℕ) → brought fresh text ≡ told_as (script text)
