use Rattle.std.proofs.Common.{◌≡◌, map, take, drop}
use Rattle.apps.specs.FileTables.{file_from, all_fit}
use Rattle.apps.proofs.files.Files.new.Given as goal

-- The files of the entries so far; the others fit if all do.
abbrev pub invariant-loop-entry : goal.invariant-loop-entry
invariant-loop-entry l =
    (all_fit l.contents (drop l.entry-index l.table) ≡ all_fit l.contents l.table)
    × (l.slots.items ≡ map (file_from l.contents) (take l.entry-index l.table))
