use Rattle.apdu.specs.Judging.{parts}
use Rattle.t0.specs.Terminals.{sends}
use Rattle.t0.specs.Wired.{wiring}
use Rattle.t0.proofs.TalkSettling.{was_held}
use Rattle.t0.proofs.talk.whole.converse.Goals as goal

pub returns-in-Held : goal.returns-in-Held
returns-in-Held g c =
    let at = wiring g.A.Application.means g.L.Line.damage in
    was_held g.A.Application.means c.args.command.body.now c.begin-start.result (sends (parts c.args.command)) c.args.staged.now c.talk.new.staged c.take_held.new.staged (at c.args.card.now c.args.line.now) (at c.talk.new.card c.talk.new.line) (at c.take_held.new.card c.take_held.new.line)
    c.in_ok-count.field-0 c.in-Held.holding c.in-Held.token c.take_held.result c.args.trace.now c.talk.new.trace c.take_held.new.trace c.begin-start.ensures c.in-Held.is c.in_ok-count.ensures c.take_held.ensures
