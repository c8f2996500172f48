use Rattle.std.proofs.Common.{sym, ◌∙◌, arith, rules}
use Rattle.wire.proofs.Marks.{padded_marks, padded_low}
use Rattle.wire.proofs.marked.MarkedLine.new.Goals as goal

pub returns : goal.returns
returns c = padded_marks c.args.positions.now c.padded-marks.result c.padded-marks.ensures (omega arith) (sym c.is_rising.ensures ∙ c.if-not-is_rising.false)

pub invariant_of-result : goal.invariant_of-result
invariant_of-result c = record {
  few = search rules;
  low = padded_low c.args.positions.now c.padded-marks.result c.padded-marks.ensures (λ i. omega (arith, c.type_inv.positions i));
}
