use Rattle.apdu.specs.Judging.{parts}
use Rattle.link.proofs.Quiet.{quiet_sends}
use Rattle.link.proofs.direct_link.DirectLinkLink.send.Goals as goal

pub returns : goal.returns
returns g c =
    quiet_sends g.A.Application.means _ _ (parts c.in_ok-command.command) c.args.command.now c.args.answer.now _ _ c.args._trace.now
    c.in_ok-command.ensures c.run_command.ensures
