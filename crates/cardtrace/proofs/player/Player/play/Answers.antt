use Rattle.std.proofs.Common.{◌∙◌, ap, rules}
use Rattle.cardtrace.specs.Traces.{entry_line}
use Rattle.cardtrace.proofs.Turning.{result_entry}
use Rattle.cardtrace.proofs.player.Player.play.Goals as goal

pub returns : goal.returns
returns c =
    let text = c.result_line.ensures ∙ result_entry c.self.inside.turn c.args.program c.take-result.result c.take-result.new.answer ∙ ap (entry_line c.self.inside.turn c.args.program) c.take-result.ensures.gave in
    rw (← c.self.view_is) (record { after = search rules; text = text })
