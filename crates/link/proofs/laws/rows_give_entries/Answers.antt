use Rattle.link.proofs.Entries.{rows_law}
use Rattle.link.proofs.laws.rows_give_entries.Goals as goal

pub returns : goal.returns
returns g c = rows_law g.A.Application.means
