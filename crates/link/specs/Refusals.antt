use Rattle.std.specs.Prelude.{ℕ}
use Rattle.link.specs.declared.refusal.RunRefusal.{RunRefusal}
use Rattle.link.specs.declared.refusal.RunRefusal.TheVariants.{JournalFull}

-- The numbers of the refusals of a run.
abbrev pub run_number : RunRefusal → ℕ
run_number JournalFull = 8
