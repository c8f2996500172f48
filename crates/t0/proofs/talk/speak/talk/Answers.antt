use Rattle.std.proofs.Common.{arith}
use Rattle.t0.specs.Wired.{wiring}
use Rattle.t0.proofs.TalkLooping.{goes_on, breaks, fails, runs_out}
use Rattle.t0.proofs.talk.speak.talk.Goals as goal

pub loop-preserved : goal.loop-preserved
loop-preserved g c =
    let at = wiring g.A.Application.means g.L.Line.damage in
    record {
      so_far = goes_on g.A.Application.means c.args.body.now _ (at c.args.card.now c.args.line.now) (at c.loop.card c.loop.line) c.loop.waiting c.loop.staged c.loop.counter c.args.trace.now c.loop.trace c.loop.invariant.so_far
          c.speak.new.trace (at c.speak.new.card c.speak.new.line) c.speak.new.staged (omega arith) c.in_ok-next.field-0 c.in-Continue.next c.in-Continue.is c.in_ok-next.ensures;
      long = c.speak.array_long;
    }

pub returns-in-Break : goal.returns-in-Break
returns-in-Break g c =
    let at = wiring g.A.Application.means g.L.Line.damage in
    breaks g.A.Application.means c.args.body.now _ (at c.args.card.now c.args.line.now) (at c.loop.card c.loop.line) c.loop.waiting c.loop.staged c.loop.counter c.args.trace.now c.loop.trace c.loop.invariant.so_far
    c.speak.new.trace (at c.speak.new.card c.speak.new.line) c.speak.new.staged (omega arith) c.in_ok-next.field-0 c.in-Break.ended c.in-Break.is c.in_ok-next.ensures

pub returns-in_err-next : goal.returns-in_err-next
returns-in_err-next g c =
    let at = wiring g.A.Application.means g.L.Line.damage in
    fails g.A.Application.means c.args.body.now _ (at c.args.card.now c.args.line.now) (at c.loop.card c.loop.line) c.loop.waiting c.loop.staged c.loop.counter c.args.trace.now c.loop.trace c.loop.invariant.so_far
    c.speak.new.trace (at c.speak.new.card c.speak.new.line) c.speak.new.staged (omega arith) c.in_err-next.field-0.0 c.from_residual.result c.from_residual.ensures.1 c.in_err-next.ensures

pub returns : goal.returns
returns g c =
    let at = wiring g.A.Application.means g.L.Line.damage in
    runs_out g.A.Application.means c.args.body.now _ (at c.args.card.now c.args.line.now) (at c.loop.card c.loop.line) c.loop.waiting c.loop.staged c.loop.counter c.args.trace.now c.loop.trace c.loop.invariant.so_far (omega arith)
