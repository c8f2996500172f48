use Rattle.t0link.proofs.TalkLaw.{conversation}
use Rattle.t0link.proofs.laws.conversation_law.Goals as goal

pub returns : goal.returns
returns g c = conversation g.A.Application.means
