use Rattle.std.proofs.Common.{◌≡◌, ◌++◌, OnOk, ap, ◌∙◌, subst}
use Rattle.script.specs.Readings.{Stepped, fed}
use Rattle.cardtrace_t0.specs.Sessions.{Traced, tracing}
use Rattle.cardtrace_t0.specs.Plays.{Playing}
use Rattle.cardtrace_t0.proofs.Stepping.{plays_step, tells_fed}
use Rattle.cardtrace_t0.proofs.session.Session.push.Goals as goal

pub returns : goal.returns
returns c =
    let p : Playing = (tracing c.args.self.now).playing in
    let s : Stepped = fed c.args.self.now.reader c.args.byte in
    let same = plays_step p s _ _ c.push-step.ensures.state c.push-step.ensures.value (tells_fed p c.args.self.now.reader c.args.byte) in
    record {
      after = c.play.ensures.after ∙ ap (λ (t : Traced). t.after) same;
      text = subst (λ (t : Traced). OnOk c.play.result (c.play.new.out.items ≡ c.args.out.now.items ++ t.text)) same c.play.ensures.text;
    }
