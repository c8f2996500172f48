use Rattle.std.specs.Prelude.{ℕ, cond, List, length, Some, None, Option, ◌==◌, nat_le}
use Rattle.script.specs.declared.line.Line as code
use Rattle.script.specs.declared.line.Line.TheVariants.{Link, Damage, Send, Reset}
use Rattle.script.specs.Lines.{Line, link, damage, send, reset, printed}
use Rattle.script.specs.Texts.{room_for, copied}

-- A send of at most 300 bytes.
abbrev pub sent_within : ℕ → List ℕ → Option Line
sent_within u command = cond (nat_le (length command) 300) (Some (send u command)) None

-- The line of a line as the code holds it and of the command that lies apart; none where the command of a send has not the length that the line says.
abbrev pub line_with : code.Line → List ℕ → Option Line
line_with (Link s) command = Some (link s)
line_with (Damage k) command = Some (damage k)
line_with (Send u n) command = cond (length command == n) (sent_within u command) None
line_with (Reset u) command = Some (reset u)

-- How long a line is, where there is one and a memory has room for it.
abbrev pub count_of : Option Line → List ℕ → Option ℕ
count_of None memory = None
count_of (Some l) memory = room_for (printed l) memory

-- A memory that such a line opens; else as it was.
abbrev pub copied_of : Option Line → List ℕ → List ℕ
copied_of None memory = memory
copied_of (Some l) memory = copied (printed l) memory
