use Rattle.std.specs.Prelude.{ℕ, List, [], ◌∷◌, ◌++◌, replicate, None}
use Rattle.apps.specs.Files.{Shelf}
use Rattle.apps.specs.FileValues.{files_app}
use Rattle.link.specs.Direct.{Direct, directly}
use Rattle.link.specs.Turns.{Order, send, restart, Gave, gives, restarted, denied}
use Rattle.script.specs.Lines as lines
use Rattle.script.specs.Readings.{Out, more, line, bad}
use Rattle.script.specs.Scripts.{Script, following}
use Rattle.script.specs.Steps.{told_as}
use Rattle.script.specs.Traces.{turn_line, bad_line}
use Rattle.script.specs.declared.trace.Outcome.TheVariants.{Status, Reset, Refusal}

-- The card of the program: one file, 2F01, which holds 41 42, and none is current; it is told of no loss.
abbrev pub first_card : Direct Shelf
first_card = record { state = record { files = record { id = 0x2F01; bytes = 0x41 ∷ (0x42 ∷ []) } ∷ []; current = None }; told = None }

-- Each turn has 256 free bytes.
abbrev pub free : List ℕ
free = replicate 256 0

-- The line of a turn, by what it gave.
abbrev pub entry_line : ℕ → ℕ → Gave → List ℕ
entry_line turn program (gives bytes status) = turn_line turn program (Status status.sw1 status.sw2) bytes
entry_line turn program restarted = turn_line turn program Reset []
entry_line turn program (denied n) = turn_line turn program (Refusal n) []

-- Where the playing of a script stands: the card, and the number of the coming turn.
pub record Playing : Type 0 where
  pub card : Direct Shelf
  pub turn : ℕ

-- At the start: turns are numbered from 1.
abbrev pub start : Playing
start = record { card = first_card; turn = 1 }

-- What one step of the reading leaves, and what it prints.
pub record Printed : Type 0 where
  pub after : Playing
  pub text : List ℕ

-- A turn: the direct card takes it, and its entry is printed.
abbrev pub turn_played : Playing → ℕ → Order → Printed
turn_played p program o =
    let d = directly files_app p.card o free in
    record { after = record { card = d.after; turn = following p.turn }; text = entry_line p.turn program d.gave }

-- A line of the script: link and damage lines print nothing.
abbrev pub line_played : Playing → lines.Line → Printed
line_played p (lines.link s) = record { after = p; text = [] }
line_played p (lines.damage k) = record { after = p; text = [] }
line_played p (lines.send u bytes) = turn_played p u (send bytes)
line_played p (lines.reset u) = turn_played p u restart

-- What the reader tells: a line is played, a bad line is printed with its number.
abbrev pub played : Playing → Out → Printed
played p more = record { after = p; text = [] }
played p (line l) = line_played p l
played p (bad n) = record { after = p; text = bad_line n }

-- What is printed for all that a reader tells.
abbrev pub printed : Playing → List Out → List ℕ
printed p [] = []
printed p (o ∷ os) = (played p o).text ++ printed (played p o).after os

-- The trace of a script: for each of its lines in their order what the line prints, then its bad line, if it has one.
abbrev pub trace : Script → List ℕ
trace s = printed start (told_as s)
