use Rattle.std.proofs.Common.{◌≡◌, ◌+◌, ◌*◌, ◌≤◌, length}
use Rattle.script.specs.Hex.{command_of}
use Rattle.script.proofs.Commands.{continued}
use Rattle.script.proofs.line.hex.read_command.Given as goal

abbrev pub invariant-loop-rest : goal.invariant-loop-rest
invariant-loop-rest l =
    (2 * length l.command.items + length l.rest ≤ 600) × (command_of l.digits ≡ continued l.command.items l.rest)

abbrev pub decreases-loop-rest : goal.decreases-loop-rest
decreases-loop-rest l = length l.rest
