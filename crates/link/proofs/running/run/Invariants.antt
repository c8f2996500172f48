use Rattle.std.proofs.Common.{take}
use Rattle.link.specs.Meaning.{linked}
use Rattle.link.specs.Turns.{ran}
use Rattle.link.proofs.Looping.{SoFar}
use Rattle.link.proofs.running.run.Given as goal

abbrev pub invariant-loop-turn : goal.invariant-loop-turn
invariant-loop-turn g l =
    let app = g.L.App.Application.means in
    SoFar (ran (linked app) (g.L.Link.meaning app l.initial.link) l.commands l.initial.«data» (take l.turn-index l.turns))
    (g.L.Link.meaning app l.link) l.«data» l.free l.initial.journal l.journal l.initial.trace l.trace
