use Rattle.std.proofs.Common.{◌≡◌, length}
use Rattle.t0.specs.Conversations.{talk, most}
use Rattle.t0.specs.Wired.{wiring, joined}
use Rattle.t0.proofs.TalkLooping.{SoFar}
use Rattle.t0.proofs.talk.speak.talk.Given as goal

abbrev pub invariant-loop : goal.invariant-loop
invariant-loop g l =
    let app = g.A.Application.means in
    let at = wiring app g.L.Line.damage in
    record {
      so_far : SoFar app l.body (talk app l.initial.card.settings l.body most (joined l.initial.waiting (at l.initial.card l.initial.line) l.initial.staged)) (at l.initial.card l.initial.line) (at l.card l.line) l.waiting l.staged l.counter l.initial.trace l.trace;
      long : length l.staged ≡ 256;
    }
