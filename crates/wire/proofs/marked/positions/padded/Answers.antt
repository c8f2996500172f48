use Rattle.wire.proofs.Marks.{first_64}
use Rattle.wire.proofs.marked.positions.padded.Goals as goal

pub returns : goal.returns
returns c = first_64 c.args.positions.now _ _ c.min-count.result c.min-count.ensures c.copy_from_slice.ensures.after
