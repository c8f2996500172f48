use Rattle.t0.specs.Delivery.{tried}
use Rattle.t0.proofs.Trying.{SoFar}
use Rattle.t0.proofs.carry.carry.Given as goal

abbrev pub invariant-loop : goal.invariant-loop
invariant-loop g l = SoFar (tried (g.L.Line.damage l.initial.line) l.sender l.byte 4) (g.L.Line.damage l.line) l.sender l.byte l.counter l.initial.trace l.trace
