use Rattle.std.specs.Prelude.{◌≡◌, ℕ, List, [], ◌∷◌, ◌++◌, Some, None, Ok, Err, Option, Result}
use Rattle.link.specs.Turns.{send, restart}
use Rattle.script.specs.Readings.{Reading, Stepped, fresh, fed, finished}
use Rattle.script.specs.Scripts.{script}
use Rattle.script.specs.Traces.{bad_line}
use Rattle.script.specs.declared.line.Line as code
use Rattle.script.specs.declared.line.Line.TheVariants.{Link, Damage, Send, Reset}
use Rattle.script.specs.declared.reader.Refusal.TheVariants.{BadLine}
use Rattle.script.specs.declared.reader.Refusal.{Refusal}
use Rattle.cardtrace.specs.Traces.{Playing, Printed, played, turn_played, start, trace}

-- A session: a reading and a playing.
pub record Tracing : Type 0 where
  pub reading : Reading
  pub playing : Playing

abbrev pub begins : Tracing
begins = record { reading = fresh; playing = start }

-- What the code makes of what its reader told: a send line's command lies with the reader.
abbrev pub step_played : Playing → Result (Option code.Line) Refusal → List ℕ → Printed
step_played p (Ok None) command = record { after = p; text = [] }
step_played p (Ok (Some (Link s))) command = record { after = p; text = [] }
step_played p (Ok (Some (Damage k))) command = record { after = p; text = [] }
step_played p (Ok (Some (Send u n))) command = turn_played p u (send command)
step_played p (Ok (Some (Reset u))) command = turn_played p u restart
step_played p (Err (BadLine n)) command = record { after = p; text = bad_line n }

-- What a step leaves, and what it prints.
pub record Traced : Type 0 where
  pub after : Tracing
  pub text : List ℕ

abbrev pub by_step : Playing → Stepped → Traced
by_step p s = record { after = record { reading = s.after; playing = (played p s.out).after }; text = (played p s.out).text }

-- A session that plays what its reader told.
abbrev pub plays : Tracing → Result (Option code.Line) Refusal → Traced
plays t step =
    let p = step_played t.playing step t.reading.command in
    record { after = record { reading = t.reading; playing = p.after }; text = p.text }

-- One byte of the script.
abbrev pub takes : Tracing → ℕ → Traced
takes t b = by_step t.playing (fed t.reading b)

-- The end of the script.
abbrev pub ends : Tracing → Traced
ends t = by_step t.playing (finished t.reading)

-- All that a session prints for the bytes that come and then the end.
abbrev pub prints : Tracing → List ℕ → List ℕ
prints t [] = (ends t).text
prints t (b ∷ bs) = (takes t b).text ++ prints (takes t b).after bs

-- A session that is fed a script byte by byte, and then its end, prints the script's trace, and nothing else.
abbrev pub TracesScripts : Type 0
TracesScripts = (text : List ℕ) → prints begins text ≡ trace (script text)
