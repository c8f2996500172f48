use Rattle.t0link.proofs.TalkLost.{lost_exactly}
use Rattle.t0link.proofs.laws.lost_exactly.Goals as goal

pub returns : goal.returns
returns c = lost_exactly
