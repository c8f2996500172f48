use Rattle.std.specs.Prelude.{◌+◌, cond, ◌&&◌, Some, None, Option, nat_le, nat_lt}
use Rattle.script.specs.declared.line.Line.{Line}
use Rattle.script.specs.declared.line.Line.TheVariants.{Link, Damage, Send, Reset}
use Rattle.script.specs.declared.reader.Stage.{Stage}
use Rattle.script.specs.declared.reader.Stage.TheVariants.{Start, Marks, Turns}

-- The order of lines: the link line first and once, then damage lines, each past the one before (so from `floor` on) and at most 64 of them, then turns.
abbrev pub follows : Stage → Line → Option Stage
follows Start (Link s) = Some (Marks 0 0)
follows Start (Damage k) = None
follows Start (Send u n) = None
follows Start (Reset u) = None
follows (Marks floor count) (Link s) = None
follows (Marks floor count) (Damage k) = cond (nat_le floor k && nat_lt count 64) (Some (Marks (k + 1) (count + 1))) None
follows (Marks floor count) (Send u n) = Some Turns
follows (Marks floor count) (Reset u) = Some Turns
follows Turns (Link s) = None
follows Turns (Damage k) = None
follows Turns (Send u n) = Some Turns
follows Turns (Reset u) = Some Turns
