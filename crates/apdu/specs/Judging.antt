use Rattle.std.specs.Prelude.{ℕ, Bool, true, false, cond, List, length, Some, None, Ok, Err, Option, Result, nat_lt}
use Rattle.apdu.specs.Commands as spec
use Rattle.apdu.specs.Commands.{command_of, reserved, inward, agrees}
use Rattle.apdu.specs.Refusals.{number}
use Rattle.apdu.specs.declared.command.Command.{Command}
use Rattle.apdu.specs.declared.refusal.Refusal.{Refusal}

-- A command is refused with a number, or passes as its parts.
pub data Judged : Type 0 where
  refused : ℕ → Judged
  passes : spec.Command → Judged

-- Refusals 1 to 4 in their order: malformed, reserved, case against direction, answer buffer shorter than Ne.
abbrev pub checked : ℕ → Option spec.Command → Judged
checked room None = refused 1
checked room (Some c) =
    cond (reserved c.cla c.ins) (refused 2)
    (cond (agrees (inward c.ins) c.kind) (cond (nat_lt room c.ne) (refused 4) (passes c)) (refused 3))

-- What is made of a command's bytes for an answer buffer of this length.
unfoldable pub judged : List ℕ → ℕ → Judged
judged bytes room = checked room (command_of bytes)

-- The parts of a command that was read in place.
abbrev pub parts : Command → spec.Command
parts c = record { kind = c.case; cla = c.header.cla; ins = c.header.ins; p1 = c.header.p1; p2 = c.header.p2; body = c.body.now; ne = c.ne }

-- What a reading of a command says.
abbrev pub read : Option Command → Option spec.Command
read None = None
read (Some c) = Some (parts c)

-- What a judgement of a command says.
abbrev pub verdict : Result Command Refusal → Judged
verdict (Ok c) = passes (parts c)
verdict (Err e) = refused (number e)
