use Rattle.std.proofs.Common.{◌≤◌, length, arith}
use Rattle.wire.specs.Records.{kept, free_places}
use Rattle.link.specs.declared.turn.Turn.{Turn}
use Rattle.link.proofs.Looping.{run_again, run_ends}
use Rattle.link.proofs.running.run.Goals as goal

pub loop-turn-preserved : goal.loop-turn-preserved
loop-turn-preserved g c =
    let app = g.L.App.Application.means in
    let none : Turn = record { tag = 0; program = 0; start = 0; length = 0 } in
    run_again app (g.L.Link.meaning app c.args.link.now) c.args.commands.now c.args.«data».now c.args.turns.now c.loop-turn.turn-index none
    (g.L.Link.meaning app c.loop-turn.link) (g.L.Link.meaning app c.take_turn-free.new.link) c.loop-turn.«data» c.take_turn-free.new.«data» c.loop-turn.free c.take_turn-free.result
    c.args.journal.now c.loop-turn.journal c.take_turn-free.new.journal c.args.trace.now c.loop-turn.trace c.take_turn-free.new.trace
    c.loop-turn-test.true c.loop-turn.invariant c.take_turn-free.ensures

pub returns : goal.returns
returns g c =
    let app = g.L.App.Application.means in
    let room : length c.args.turns.now ≤ free_places (kept c.args.journal.now) = omega (arith, c.free.ensures, c.if-free-turns.false) in
    run_ends app (g.L.Link.meaning app c.args.link.now) c.args.commands.now c.args.«data».now c.args.turns.now c.loop-turn.turn-index
    (g.L.Link.meaning app c.loop-turn.link) c.loop-turn.«data» c.loop-turn.free c.args.journal.now c.loop-turn.journal c.args.trace.now c.loop-turn.trace
    c.loop-turn-test.false room c.loop-turn.invariant
