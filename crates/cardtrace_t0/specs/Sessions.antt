use Rattle.std.specs.Prelude.{◌≡◌, ℕ, Bool, true, false, List, [], ◌∷◌, ◌++◌, Some, None, Ok, Err, Option, Result}
use Rattle.apps.specs.Files.{Shelf}
use Rattle.apps.specs.FileValues.{files_app}
use Rattle.apps.specs.declared.files.Files.{Files}
use Rattle.link.specs.Meaning.{Linked}
use Rattle.link.specs.Meant.{meant_link}
use Rattle.link.specs.Turns.{send, restart}
use Rattle.script.specs.Readings.{Reading, Stepped, fresh, fed, finished}
use Rattle.script.specs.Scripts.{script}
use Rattle.script.specs.Traces.{bad_line}
use Rattle.script.specs.declared.line.Line as script_line
use Rattle.script.specs.declared.line.Line.TheVariants.{Link, Damage, Send, Reset}
use Rattle.script.specs.declared.reader.Refusal.TheVariants.{BadLine}
use Rattle.script.specs.declared.reader.Refusal.{Refusal}
use Rattle.t0link.specs.Links.{link_of}
use Rattle.t0link.specs.declared.t0_link.T0Link.{T0Link}
use Rattle.wire.specs.MarkedLines.{at_marks, marks_of}
use Rattle.wire.specs.declared.marked.MarkedLine.{MarkedLine}
use Rattle.cardtrace_t0.specs.declared.session.Session.{Session}
use Rattle.cardtrace_t0.specs.declared.session.Stand as code
use Rattle.cardtrace_t0.specs.declared.session.Stand.TheVariants.{Unlinked, Opening, OverT0, Direct}
use Rattle.cardtrace_t0.specs.Plays.{Stand, unlinked, opening, over, Playing, Printed, quietly, linked_up, marked, played, turn_played, start}
use Rattle.cardtrace_t0.specs.Traces.{trace}

-- A session: a reading and a playing.
pub record Tracing : Type 0 where
  pub reading : Reading
  pub playing : Playing

abbrev pub begins : Tracing
begins = record { reading = fresh; playing = start }

-- The link that the code's T=0 link means.
abbrev pub t0_link_of : T0Link Files MarkedLine → Linked Shelf
t0_link_of = link_of files_app (λ line. at_marks (marks_of line) line.at)

-- Where a value of the code stands.
abbrev pub stand_of : code.Stand → Stand
stand_of Unlinked = unlinked
stand_of (Opening s marks) = opening s marks.items
stand_of (OverT0 l) = over (t0_link_of l)
stand_of (Direct l) = over (meant_link files_app l)

-- Whether a stand is the direct card.
abbrev pub is_direct : code.Stand → Bool
is_direct Unlinked = false
is_direct (Opening s marks) = false
is_direct (OverT0 l) = false
is_direct (Direct l) = true

-- Whether turns are played on the direct card.
abbrev pub on_direct : Session → Bool
on_direct s = is_direct s.stand

-- The session that a value of the code is in.
abbrev pub tracing : Session → Tracing
tracing s = record { reading = s.reader; playing = record { stand = stand_of s.stand; turn = s.turn } }

-- What the code makes of what its reader told: a send line's command lies with the reader.
abbrev pub step_played : Playing → Result (Option script_line.Line) Refusal → List ℕ → Printed
step_played p (Ok None) command = quietly p
step_played p (Ok (Some (Link s))) command = quietly (record { stand = linked_up p.stand s; turn = p.turn })
step_played p (Ok (Some (Damage k))) command = quietly (record { stand = marked p.stand k; turn = p.turn })
step_played p (Ok (Some (Send u n))) command = turn_played p u (send command)
step_played p (Ok (Some (Reset u))) command = turn_played p u restart
step_played p (Err (BadLine n)) command = record { after = p; text = bad_line n }

-- What a step leaves, and what it prints.
pub record Traced : Type 0 where
  pub after : Tracing
  pub text : List ℕ

abbrev pub by_step : Playing → Stepped → Traced
by_step p s = record { after = record { reading = s.after; playing = (played p s.out).after }; text = (played p s.out).text }

-- A session that plays what its reader told.
abbrev pub plays : Tracing → Result (Option script_line.Line) Refusal → Traced
plays t step =
    let p = step_played t.playing step t.reading.command in
    record { after = record { reading = t.reading; playing = p.after }; text = p.text }

-- One byte of the script.
abbrev pub takes : Tracing → ℕ → Traced
takes t b = by_step t.playing (fed t.reading b)

-- The end of the script.
abbrev pub ends : Tracing → Traced
ends t = by_step t.playing (finished t.reading)

-- All that a session prints for the bytes that come and then the end.
abbrev pub prints : Tracing → List ℕ → List ℕ
prints t [] = (ends t).text
prints t (b ∷ bs) = (takes t b).text ++ prints (takes t b).after bs

-- A session that is fed a script byte by byte, and then its end, prints the script's trace, and nothing else.
abbrev pub TracesScripts : Type 0
TracesScripts = (text : List ℕ) → prints begins text ≡ trace (script text)
