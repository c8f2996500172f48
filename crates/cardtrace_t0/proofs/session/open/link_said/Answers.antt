use Rattle.cardtrace_t0.proofs.Openings.{opens}
use Rattle.cardtrace_t0.proofs.session.open.link_said.Goals as goal

pub returns-in-T0 : goal.returns-in-T0
returns-in-T0 c =
    opens _ c.args.settings c.unwrap-settings.result c.new.result c.new-in-T0.result c.in_ok-line.line c.args.marks.now c.min.result c.first_card.result c.new.ensures c.in_ok-line.ensures.value
    c.new-in-T0.ensures c.unwrap-settings.ensures c.min.ensures c.in-T0.is c.first_card.ensures c.new-in-T0-2.ensures
