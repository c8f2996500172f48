use Rattle.std.specs.Prelude.{ℕ, cond, List, [], ◌∷◌, ◌++◌, length, nat_lt}
use Rattle.apps.specs.Files.{Shelf}
use Rattle.apps.specs.FileValues.{files_app}
use Rattle.link.specs.Meaning.{Linked, linked}
use Rattle.link.specs.Turns.{Order, send, restart}
use Rattle.script.specs.Lines as lines
use Rattle.script.specs.Readings.{Out, more, line, bad}
use Rattle.script.specs.Scripts.{following}
use Rattle.script.specs.Traces.{bad_line}
use Rattle.script.specs.declared.line.Settings.{Settings}
use Rattle.wire.specs.MarkedLines.{are_marks}
use Rattle.cardtrace_t0.specs.Cards.{link_said}
use Rattle.cardtrace_t0.specs.Traces.{free, turn_lines}

-- Where the playing of a script stands: before its link line; among its damage lines, with what the link line said and the
-- positions so far; or among its turns, with the link.
pub data Stand : Type 0 where
  unlinked : Stand
  opening : Settings → List ℕ → Stand
  over : Linked Shelf → Stand

-- And the number of the coming turn.
pub record Playing : Type 0 where
  pub stand : Stand
  pub turn : ℕ

-- At the start: turns are numbered from 1.
abbrev pub start : Playing
start = record { stand = unlinked; turn = 1 }

-- What one step of the reading leaves, and what it prints.
pub record Printed : Type 0 where
  pub after : Playing
  pub text : List ℕ

abbrev pub quietly : Playing → Printed
quietly p = record { after = p; text = [] }

-- The link line says the link, and is the first line. A damage line marks a position, up to 64 of them. Neither prints anything.
abbrev pub linked_up : Stand → Settings → Stand
linked_up unlinked s = opening s []
linked_up (opening t marks) s = opening t marks
linked_up (over l) s = over l

abbrev pub marked : Stand → ℕ → Stand
marked unlinked k = unlinked
marked (opening s marks) k = opening s (cond (nat_lt (length marks) 64) (marks ++ (k ∷ [])) marks)
marked (over l) k = over l

-- The first turn makes the link, where the positions lie within the limits of a line.
abbrev pub opened : Stand → Stand
opened unlinked = unlinked
opened (opening s marks) = cond (are_marks marks) (over (link_said s marks)) (opening s marks)
opened (over l) = over l

-- A turn is played over the link, and printed.
abbrev pub turned : Stand → ℕ → ℕ → Order → Printed
turned unlinked turn program o = record { after = record { stand = unlinked; turn = following turn }; text = [] }
turned (opening s marks) turn program o = record { after = record { stand = opening s marks; turn = following turn }; text = [] }
turned (over l) turn program o =
    let d = linked files_app l o free in
    record { after = record { stand = over d.after; turn = following turn }; text = turn_lines turn program d }

abbrev pub turn_played : Playing → ℕ → Order → Printed
turn_played p program o = turned (opened p.stand) p.turn program o

-- A line of the script.
abbrev pub line_played : Playing → lines.Line → Printed
line_played p (lines.link s) = quietly (record { stand = linked_up p.stand s; turn = p.turn })
line_played p (lines.damage k) = quietly (record { stand = marked p.stand k; turn = p.turn })
line_played p (lines.send u bytes) = turn_played p u (send bytes)
line_played p (lines.reset u) = turn_played p u restart

-- What the reader tells: a line is played, a bad line is printed with its number.
abbrev pub played : Playing → Out → Printed
played p more = quietly p
played p (line l) = line_played p l
played p (bad n) = record { after = p; text = bad_line n }

-- What is printed for all that a reader tells.
abbrev pub printed : Playing → List Out → List ℕ
printed p [] = []
printed p (o ∷ os) = (played p o).text ++ printed (played p o).after os
