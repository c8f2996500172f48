use Rattle.std.proofs.Common.{◌≡◌, ◌++◌, OnOk, ap, ◌∙◌, subst}
use Rattle.script.specs.Readings.{Stepped, finished}
use Rattle.cardtrace_t0.specs.Sessions.{Traced, tracing}
use Rattle.cardtrace_t0.specs.Plays.{Playing}
use Rattle.cardtrace_t0.proofs.Stepping.{plays_step, tells_finished}
use Rattle.cardtrace_t0.proofs.session.Session.finish.Goals as goal

pub returns : goal.returns
returns c =
    let p : Playing = (tracing c.args.self.now).playing in
    let s : Stepped = finished c.args.self.now.reader in
    let same = plays_step p s _ _ c.finish-step.ensures.state c.finish-step.ensures.value (tells_finished p c.args.self.now.reader) in
    record {
      after = c.play.ensures.after ∙ ap (λ (t : Traced). t.after) same;
      text = subst (λ (t : Traced). OnOk c.play.result (c.play.new.out.items ≡ c.args.out.now.items ++ t.text)) same c.play.ensures.text;
    }
