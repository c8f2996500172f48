use Rattle.std.proofs.Common.{sym, ◌∙◌}
use Rattle.t0.specs.Wired.{wiring}
use Rattle.t0.proofs.TalkSpeaking.{card_heard}
use Rattle.t0.proofs.talk.speak.card_speaks.Goals as goal

pub returns : goal.returns
returns g c =
    let at = wiring g.A.Application.means g.L.Line.damage in
    card_heard g.A.Application.means c.args.card.now.settings c.args.waiting (at c.args.card.now c.args.line.now) (at c.next.new.self c.carry.new.line) _ _ _ _ _ _ _ _
    c.next.ensures.card c.next.ensures.settings (sym c.next.ensures.gave ∙ c.in_ok-byte.ensures.ok_part) c.carry.ensures c.in_ok-arrived.ensures.ok_part c.hear.ensures.goes c.hear.ensures.bytes
