use Rattle.link.proofs.Entries.{run_law, alone_law}
use Rattle.link.proofs.laws.runs_compose.Goals as goal

pub returns : goal.returns
returns g c = record { joined = run_law g.A.Application.means; alone = alone_law g.A.Application.means }
