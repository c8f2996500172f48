use Rattle.std.proofs.Common.{sym, ◌∙◌, arith}
use Rattle.t0.proofs.Trying.{goes_on, arrives}
use Rattle.t0.proofs.carry.carry.Goals as goal

pub loop-preserved : goal.loop-preserved
loop-preserved g c =
    goes_on _ (g.L.Line.damage c.loop.line) (g.L.Line.damage c.carry-arrived.new.self) c.args.sender c.args.byte c.loop.counter c.args.trace.now c.loop.trace c.note.new.self c.carry-arrived.result c.is_card.result c.is_none.result
    c.loop.invariant (omega arith) c.carry-arrived.ensures.gave c.carry-arrived.ensures.left c.note.ensures c.is_card.ensures c.is_none.ensures (sym c.is_some.ensures ∙ c.if-is_some.false)

pub returns-then-is_some : goal.returns-then-is_some
returns-then-is_some g c =
    arrives _ (g.L.Line.damage c.loop.line) (g.L.Line.damage c.carry-arrived.new.self) c.args.sender c.args.byte c.loop.counter c.args.trace.now c.loop.trace c.note.new.self c.carry-arrived.result c.is_card.result c.is_none.result
    c.loop.invariant (omega arith) c.carry-arrived.ensures.gave c.carry-arrived.ensures.left c.note.ensures c.is_card.ensures c.is_none.ensures (sym c.is_some.ensures ∙ c.if-is_some.true)
