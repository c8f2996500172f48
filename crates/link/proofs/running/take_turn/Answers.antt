use Rattle.std.proofs.Common.{drop, sym}
use Rattle.link.specs.Meaning.{linked}
use Rattle.link.specs.Turns.{ordered}
use Rattle.link.proofs.Turning.{turn_runs, rest_lent, rest_back}
use Rattle.link.proofs.running.take_turn.Goals as goal

pub returns : goal.returns
returns g c =
    let app = g.L.App.Application.means in
    let l = g.L.Link.meaning app c.args.link.now in
    let space = c.args.«data».now in
    let start = c.min-start.result in
    let left = c.take-result.new.answer in
    let o = ordered c.args.commands.now c.args.turn in
    turn_runs (linked app l o (drop c.args.free space)) (g.L.Link.meaning app c.take-result.new.link) left c.take-result.result c.args.turn.program c.args.free c.of-row.result _ _
    space _ _ _
    (rw (sym c.order.ensures) (rw (sym (rest_lent c.args.free start space c.min-start.ensures)) c.take-result.ensures)) c.of-row.ensures
    (rest_back c.args.free start space left c.min-start.ensures) c.note.ensures
