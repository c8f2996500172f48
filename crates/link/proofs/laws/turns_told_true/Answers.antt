use Rattle.link.proofs.Exchanges.{told_law, exchange_law}
use Rattle.link.proofs.laws.turns_told_true.Goals as goal

pub returns : goal.returns
returns g c =
    record { told = λ cross next. told_law g.A.Application.means cross next; exchanged = λ cross next. exchange_law g.A.Application.means cross next }
