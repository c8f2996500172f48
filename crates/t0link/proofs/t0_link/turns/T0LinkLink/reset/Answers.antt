use Rattle.std.proofs.Common.{rules}
use Rattle.t0link.proofs.LinkSending.{reset_so, reset_rests}
use Rattle.t0link.proofs.t0_link.turns.T0LinkLink.reset.Goals as goal

pub invariant_of-self : goal.invariant_of-self
invariant_of-self g c = record { rests = search (rules, reset_rests g.A.Application.means g.L.Line.damage c.args.self.now.wired) }

pub returns : goal.returns
returns g c = search (rules, reset_so g.A.Application.means g.L.Line.damage)
