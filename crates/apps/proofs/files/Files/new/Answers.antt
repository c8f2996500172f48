use Rattle.std.proofs.Common.{arith}
use Rattle.apps.proofs.FileStock.{runs_keep_stocked, stocked_loaded}
use Rattle.apps.proofs.files.Files.new.Goals as goal

pub returns-then-is_empty-clause-runs : goal.returns-then-is_empty-clause-runs
returns-then-is_empty-clause-runs c = runs_keep_stocked

pub returns-in_err-slot-clause-runs : goal.returns-in_err-slot-clause-runs
returns-in_err-slot-clause-runs c = runs_keep_stocked

pub invariant_of-result : goal.invariant_of-result
invariant_of-result c =
    stocked_loaded c.args.contents.now c.args.table.now c.loop-entry.entry-index _ _ (omega arith) (omega arith) c.loop-entry.invariant.0 c.loop-entry.invariant.1

pub returns-clause-made : goal.returns-clause-made
returns-clause-made c =
    stocked_loaded c.args.contents.now c.args.table.now c.loop-entry.entry-index _ _ (omega arith) (omega arith) c.loop-entry.invariant.0 c.loop-entry.invariant.1

pub returns-clause-runs : goal.returns-clause-runs
returns-clause-runs c = runs_keep_stocked
