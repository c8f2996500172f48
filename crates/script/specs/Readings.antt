use Rattle.std.specs.Prelude.{ℕ, ◌≤◌, Bool, true, false, cond, List, [], ◌∷◌, ◌++◌, length, Some, None, Ok, Err, Option, Result, ◌==◌, nat_lt}
use Rattle.script.specs.declared.reader.Stage.{Stage}
use Rattle.script.specs.declared.reader.Stage.TheVariants.{Start}
use Rattle.script.specs.declared.reader.Refusal.TheVariants.{BadLine}
use Rattle.script.specs.declared.reader.Refusal.{Refusal}
use Rattle.script.specs.declared.line.Line as code
use Rattle.script.specs.Lines.{Line, link, damage, send, reset, line_of, told}
use Rattle.script.specs.Scripts.{following, placed}

-- A reading under way: the number of the current line, the stage before it, the bytes of it that have come, the command of the last send line, and whether the reading is over.
pub record Reading : Type 0 where
  pub number : ℕ
  pub stage : Stage
  pub part : List ℕ
  pub command : List ℕ
  pub over : Bool

-- The line under way has at most 609 bytes, and the command that is held at most 300.
abbrev pub FitsRoom : Reading → Type 0
FitsRoom r = (length r.part ≤ 609) × (length r.command ≤ 300)

-- What a byte, or the end, brings: nothing yet, a line, or the number of a bad line.
pub data Out : Type 0 where
  more : Out
  line : Line → Out
  bad : ℕ → Out

-- A step: the reading after it, and what it brings.
pub record Stepped : Type 0 where
  pub after : Reading
  pub out : Out

-- A new reading.
abbrev pub fresh : Reading
fresh = record { number = 1; stage = Start; part = []; command = []; over = false }

-- A reading that is over changes no more.
abbrev pub closed : Reading → Reading
closed r = record { number = r.number; stage = r.stage; part = r.part; command = r.command; over = true }

-- A bad line ends the reading; no command is held then.
abbrev pub refused : Reading → Stepped
refused r =
    record { after = record { number = r.number; stage = r.stage; part = r.part; command = []; over = true }; out = bad r.number }

-- The command that is held after a line: that of a send, else the one before.
abbrev pub command_after : Line → List ℕ → List ℕ
command_after (link s) held = held
command_after (damage k) held = held
command_after (send u bytes) held = bytes
command_after (reset u) held = held

-- The current line has ended, and is good or bad.
abbrev pub judged : Reading → Option (Line × Stage) → Stepped
judged r None = refused r
judged r (Some p) =
    record {
      after = record { number = following r.number; stage = p.1; part = []; command = command_after p.0 r.command; over = r.over };
      out = line p.0;
    }

-- The end of the current line: the line is good where it is well formed and may stand here.
abbrev pub line_ended : Reading → Stepped
line_ended r = judged r (placed r.stage (line_of r.part))

-- One byte more in the current line, which may have 609.
abbrev pub grown : Reading → ℕ → Stepped
grown r b =
    cond (nat_lt (length r.part) 609)
    (record { after = record { number = r.number; stage = r.stage; part = r.part ++ b ∷ []; command = r.command; over = r.over }; out = more })
    (refused r)

-- What a byte does: LF ends the line, and any other byte joins it.
abbrev pub fed : Reading → ℕ → Stepped
fed r b = cond r.over (record { after = r; out = more }) (cond (b == 10) (line_ended r) (grown r b))

-- A step after which the reading is over.
abbrev pub then_closed : Stepped → Stepped
then_closed s = record { after = closed s.after; out = s.out }

-- What the end does: a last line that lacks its LF ends, and the reading is over.
abbrev pub finished : Reading → Stepped
finished r =
    cond r.over (record { after = r; out = more })
    (cond (length r.part == 0) (record { after = closed r; out = more }) (then_closed (line_ended r)))

-- What a step brings, as the code says it.
abbrev pub shown : Out → Result (Option code.Line) Refusal
shown more = Ok None
shown (line l) = Ok (Some (told l))
shown (bad n) = Err (BadLine n)
