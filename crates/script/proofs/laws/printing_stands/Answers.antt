use Rattle.script.proofs.Backwards.{reads_as_printed}
use Rattle.script.proofs.LineLaws.{line_inv}
use Rattle.script.proofs.laws.printing_stands.Goals as goal

pub returns : goal.returns
returns c = (line_inv, reads_as_printed)
