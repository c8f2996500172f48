use Rattle.t0link.proofs.LinkLaw.{t0_law}
use Rattle.t0link.proofs.laws.t0_law.Goals as goal

pub returns : goal.returns
returns g c = t0_law g.A.Application.means
