use Rattle.std.proofs.Common.{[], sym, ◌∙◌}
use Rattle.apdu.specs.Commands.{wanted}
use Rattle.t0.specs.CardValues.{meant}
use Rattle.t0.proofs.CardRunning.{outward_so}
use Rattle.t0.proofs.card.Card.run_outward.Goals as goal

pub returns-in-Some : goal.returns-in-Some
returns-in-Some g c =
    let app = g.A.Application.means in
    let h = c.args.header in
    record {
      card =
          outward_so (app.runs (app.state c.args.self.now.app) h.cla h.ins h.p1 h.p2 []) (app.state c.run-count.new.self) c.run-count.new.buffer c.args.self.now.answer
          c.run-count.result.0 c.run-count.result.1 c.in-Some.answer
          (record { state = c.run-count.ensures.state; answer = c.run-count.ensures.answer; count = c.run-count.ensures.count; status = c.run-count.ensures.status })
          (sym c.written.ensures ∙ c.in-Some.is) c.args.self.now.settings (meant app c.serve.new.self) h (wanted c.args.p3) c.serve.ensures.card;
      settings = c.serve.ensures.settings;
    }
