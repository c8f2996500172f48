use Rattle.std.proofs.Common.{sym, ap, arith}
use Rattle.wire.specs.Lines.{carried}
use Rattle.wire.proofs.Periods.{hit, hit_left, miss, miss_left}
use Rattle.wire.proofs.periodic.every.PeriodicLineLine.carry.Goals as goal

pub returns-then-self : goal.returns-then-self
returns-then-self c =
    record {
      gave = ap (λ d. carried d c.args.byte) (sym (hit c.args.self.now.period c.args.self.now.past (omega arith)));
      left = λ k. hit_left c.args.self.now.period c.args.self.now.past k (omega arith);
    }

pub returns-else-self : goal.returns-else-self
returns-else-self c =
    record {
      gave = ap (λ d. carried d c.args.byte) (sym (miss c.args.self.now.period c.args.self.now.past (omega arith)));
      left = λ k. miss_left c.args.self.now.period c.args.self.now.past k;
    }
