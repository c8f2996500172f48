use Rattle.std.proofs.Common.{◌∙◌, rules}
use Rattle.apdu.proofs.Reading.{command_long}
use Rattle.apdu.proofs.command.read.read_command.Goals as goal

pub returns : goal.returns
returns c = c.followed_by.ensures ∙ command_long c.args.bytes.now (search rules)
