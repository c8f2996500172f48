use Rattle.std.proofs.Common.{◌≡◌, get_or, ap, ◌∙◌, rules}
use Rattle.t0.specs.declared.terminal.Want.TheVariants.{Send}
use Rattle.t0.specs.Wired.{wiring, joined}
use Rattle.t0.proofs.TalkSpeaking.{byte_sent, data_sent}
use Rattle.t0.proofs.talk.speak.speak.Goals as goal
use Rattle.t0.proofs.talk.speak.speak.Goals.{in-Send, in-SendData}

pub returns : goal.returns
returns g c =
    let at = wiring g.A.Application.means g.L.Line.damage in
    let j = joined c.args.waiting (at c.args.card.now c.args.line.now) c.args.staged.now in
    elim c.match-want.branch [
      | in-Send w ↦ byte_sent g.A.Application.means c.args.card.now.settings c.args.body.now j _ c.match-want.byte c.terminal_speaks.result (at c.args.card.now c.args.line.now) (at c.terminal_speaks.new.card c.terminal_speaks.new.line) c.args.staged.now c.args.trace.now c.terminal_speaks.new.trace
          (c.terminal_speaks.ensures c.args.staged.now) (ap Send w.byte-is ∙ w.in-Send.ensures)
      | in-SendData w ↦ data_sent g.A.Application.means c.args.card.now.settings c.args.body.now j _ c.match-want.byte c.terminal_speaks.result (at c.args.card.now c.args.line.now) (at c.terminal_speaks.new.card c.terminal_speaks.new.line) c.args.staged.now c.args.trace.now c.terminal_speaks.new.trace
          (c.terminal_speaks.ensures c.args.staged.now) w.in-SendData.place w.in-SendData.ensures (let e : w.unwrap_or-byte.result ≡ get_or c.args.body.now w.in-SendData.place 0 = search rules in w.byte-is ∙ e)
    ]
