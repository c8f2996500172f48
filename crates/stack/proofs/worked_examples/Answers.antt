use Rattle.stack.proofs.Worked.{worked}
use Rattle.stack.proofs.worked_examples.Goals as goal

pub returns : goal.returns
returns c = worked
