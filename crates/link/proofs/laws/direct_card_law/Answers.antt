use Rattle.link.proofs.Agreeing.{direct_law, agreement}
use Rattle.link.proofs.laws.direct_card_law.Goals as goal

pub returns : goal.returns
returns g c = record { direct = direct_law g.A.Application.means; agreement = agreement g.A.Application.means }
