use Rattle.std.proofs.Common.{◌≡◌, false, ap, arith}
use Rattle.apdu.specs.Judging.{parts}
use Rattle.link.specs.Direct.{over}
use Rattle.link.specs.Meant.{meant}
use Rattle.link.proofs.Sending.{direct_sends}
use Rattle.link.proofs.direct.DirectCard.send.Goals as goal

pub returns : goal.returns
returns g c =
    let app = g.A.Application.means in
    let carried : over c.args.self.now.told ≡ false = grind arith in
    direct_sends app (meant app c.args.self.now) (parts c.in_ok-command.command) _ _ _ c.args.command.now c.args.answer.now _ _
    c.in_ok-command.ensures carried
    (ap app.state c.count_turn-carried.ensures.app) c.count_turn-carried.ensures.told c.run_command.ensures
