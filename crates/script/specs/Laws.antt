use Rattle.std.specs.Prelude.{◌≡◌, ℕ, List, Some}
use Rattle.script.specs.Lines.{Line, line_of, printed, Within}

-- A line that was read prints as the bytes that it was read from, and lies within its limits.
abbrev pub PrintsAsRead : Type 0
PrintsAsRead = (text : List ℕ) (l : Line) → line_of text ≡ Some l → (printed l ≡ text) × Within l

-- A line within its limits is read back from what it prints as.
abbrev pub ReadsAsPrinted : Type 0
ReadsAsPrinted = (l : Line) → Within l → line_of (printed l) ≡ Some l

-- Printing and reading a line undo each other.
abbrev pub PrintsBack : Type 0
PrintsBack = PrintsAsRead × ReadsAsPrinted
