use Rattle.std.specs.Prelude.{ℕ, List, [], ◌∷◌, ◌++◌, replicate, Some, None, Option}
use Rattle.apps.specs.Files.{Shelf}
use Rattle.apps.specs.FileValues.{files_app}
use Rattle.link.specs.Meaning.{Linked, linked}
use Rattle.link.specs.Turns.{send, restart, Gave, gives, restarted, denied, Did}
use Rattle.script.specs.Lines as lines
use Rattle.script.specs.Scripts.{Script, following}
use Rattle.script.specs.Traces.{character_line, turn_line, bad_line}
use Rattle.script.specs.declared.trace.Outcome.TheVariants.{Status, Reset, Refusal}
use Rattle.wire.specs.Senders.{sender_of}
use Rattle.wire.specs.declared.traced.Traced.{Traced}
use Rattle.cardtrace_t0.specs.Cards.{link_said}

-- Each turn has 256 free bytes.
abbrev pub free : List ℕ
free = replicate 256 0

-- The lines of the characters of a turn.
abbrev pub character_lines : ℕ → List Traced → List ℕ
character_lines turn [] = []
character_lines turn (c ∷ cs) = character_line turn (sender_of c) c.byte c.damaged ++ character_lines turn cs

-- The line of a turn, by what it gave.
abbrev pub entry_line : ℕ → ℕ → Gave → List ℕ
entry_line turn program (gives bytes status) = turn_line turn program (Status status.sw1 status.sw2) bytes
entry_line turn program restarted = turn_line turn program Reset []
entry_line turn program (denied n) = turn_line turn program (Refusal n) []

-- What a turn prints: the lines of its characters, then its own.
abbrev pub turn_lines : {M : Type 0} → ℕ → ℕ → Did M → List ℕ
turn_lines turn program d = character_lines turn d.characters ++ entry_line turn program d.gave

-- The positions that damage lines mark, in their order.
abbrev pub marks_in : List lines.Line → List ℕ
marks_in [] = []
marks_in (lines.link s ∷ ls) = marks_in ls
marks_in (lines.damage k ∷ ls) = k ∷ marks_in ls
marks_in (lines.send u bytes ∷ ls) = marks_in ls
marks_in (lines.reset u ∷ ls) = marks_in ls

-- What the turns among lines print, played one after the other over a link, of which the first has this number.
abbrev pub turns_printed : Linked Shelf → ℕ → List lines.Line → List ℕ
turns_printed l turn [] = []
turns_printed l turn (lines.link s ∷ ls) = turns_printed l turn ls
turns_printed l turn (lines.damage k ∷ ls) = turns_printed l turn ls
turns_printed l turn (lines.send u bytes ∷ ls) =
    let d = linked files_app l (send bytes) free in turn_lines turn u d ++ turns_printed d.after (following turn) ls
turns_printed l turn (lines.reset u ∷ ls) =
    let d = linked files_app l restart free in turn_lines turn u d ++ turns_printed d.after (following turn) ls

-- What good lines print: the link line, which is the first, and the damage lines say the link, and the turns are played over it,
-- numbered from 1.
abbrev pub lines_printed : List lines.Line → List ℕ
lines_printed [] = []
lines_printed (lines.link s ∷ ls) = turns_printed (link_said s (marks_in ls)) 1 ls
lines_printed (lines.damage k ∷ ls) = []
lines_printed (lines.send u bytes ∷ ls) = []
lines_printed (lines.reset u ∷ ls) = []

-- A bad line is printed with its number.
abbrev pub bad_printed : Option ℕ → List ℕ
bad_printed None = []
bad_printed (Some n) = bad_line n

-- The trace of a script: what its lines up to the first bad one print, then the bad one, if there is one.
abbrev pub trace : Script → List ℕ
trace s = lines_printed s.read ++ bad_printed s.bad
