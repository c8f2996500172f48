use Rattle.std.proofs.Common.{ap, ◌∙◌}
use Rattle.t0.specs.Cards.{nothing}
use Rattle.t0.specs.Wired.{Wired}
use Rattle.t0link.proofs.Rests.{so_rests}
use Rattle.t0link.proofs.t0_link.T0Link.new.Goals as goal

pub invariant_of-result : goal.invariant_of-result
invariant_of-result g c =
    let app = g.A.Application.means in
    record { rests = so_rests app c.new-2.result.card (app.state c.args.app) nothing (ap (λ (w : Wired app.State). w.card) c.new-2.ensures ∙ c.new.ensures.card) tt }
