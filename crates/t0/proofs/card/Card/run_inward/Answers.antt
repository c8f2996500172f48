use Rattle.std.proofs.Common.{ℕ, List, take, sym, ◌∙◌, subst}
use Rattle.t0.specs.CardValues.{meant}
use Rattle.t0.proofs.CardRunning.{Ran, inward_so}
use Rattle.t0.proofs.card.Card.run_inward.Goals as goal

pub returns-in-Some : goal.returns-in-Some
returns-in-Some g c =
    let app = g.A.Application.means in
    let h = c.args.header in
    record {
      card =
          inward_so (app.runs (app.state c.args.self.now.app) h.cla h.ins h.p1 h.p2 (take c.args.count c.args.self.now.body)) (app.state c.run-count.new.self) c.run-count.new.buffer c.args.self.now.answer
          c.run-count.result.0 c.run-count.result.1 c.in-Some.answer
          (subst (λ (xs : List ℕ). Ran (app.runs (app.state c.args.self.now.app) h.cla h.ins h.p1 h.p2 xs) (app.state c.run-count.new.self) c.run-count.new.buffer c.args.self.now.answer c.run-count.result.0 c.run-count.result.1)
          c.opening.ensures
          (record { state = c.run-count.ensures.state; answer = c.run-count.ensures.answer; count = c.run-count.ensures.count; status = c.run-count.ensures.status }))
          (sym c.written.ensures ∙ c.in-Some.is) c.args.self.now.settings (meant app c.close.new.self) c.as_p3.result (rw (← c.count.ensures) c.as_p3.ensures) c.close.ensures.card;
      settings = c.close.ensures.settings;
    }
