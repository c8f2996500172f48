use Rattle.std.proofs.Common.{◌≤◌, length, refl, arith, rules}
use Rattle.apdu.specs.Judging.{parts}
use Rattle.t0link.proofs.LinkTurn.{rests_again, fits, fits_staged, turn_done, turn_failed}
use Rattle.t0link.proofs.t0_link.turns.T0LinkLink.send.Goals as goal

pub returns-in_err-count : goal.returns-in_err-count
returns-in_err-count g c =
    turn_failed g.A.Application.means g.L.Line.damage c.args.self.now.wired c.converse.new.self c.args.self.now.lost c.args.command.now c.args.answer.now c.converse.new.staged (parts c.in_ok-command.command) c.args.trace.now c.converse.new.trace
    c.in_err-count.field-0.0 c.from_residual-in_err-count.result c.from_residual-in_err-count.ensures.1
    (record { short = g.met.A.Application.short; lawful = g.met.A.Application.lawful; pass = c.in_ok-command.ensures; stood = c.if-self.false; rests = c.args.self.now.rests; went = c.in_err-count.ensures })

pub invariant_of-self-2 : goal.invariant_of-self-2
invariant_of-self-2 g c = record {
  rests = rests_again g.A.Application.means g.L.Line.damage c.args.self.now.wired c.converse.new.self c.args.self.now.lost c.args.command.now c.args.answer.now c.converse.new.staged (parts c.in_ok-command.command) c.args.trace.now c.converse.new.trace
      c.in_ok-count.count c.in_ok-count.status
      (record { short = g.met.A.Application.short; lawful = g.met.A.Application.lawful; pass = c.in_ok-command.ensures; stood = c.if-self.false; rests = c.args.self.now.rests; went = c.in_ok-count.ensures });
}

pub slice_bounds-copy_from_slice-end : goal.slice_bounds-copy_from_slice-end
slice_bounds-copy_from_slice-end g c =
    let so : c.in_ok-count.count ≤ length c.args.answer.now =
    fits g.A.Application.means g.L.Line.damage c.args.self.now.wired c.converse.new.self c.args.self.now.lost c.args.command.now c.args.answer.now c.converse.new.staged (parts c.in_ok-command.command) c.args.trace.now c.converse.new.trace
    c.in_ok-count.count c.in_ok-count.status
    (record { short = g.met.A.Application.short; lawful = g.met.A.Application.lawful; pass = c.in_ok-command.ensures; stood = c.if-self.false; rests = c.args.self.now.rests; went = c.in_ok-count.ensures }) in
    search rules

pub slice_bounds-copy_from_slice-end-2 : goal.slice_bounds-copy_from_slice-end-2
slice_bounds-copy_from_slice-end-2 g c =
    let few = fits_staged g.A.Application.means g.L.Line.damage c.args.self.now.wired c.converse.new.self c.args.self.now.lost c.args.command.now c.args.answer.now c.converse.new.staged (parts c.in_ok-command.command) c.args.trace.now c.converse.new.trace
    c.in_ok-count.count c.in_ok-count.status
    (record { short = g.met.A.Application.short; lawful = g.met.A.Application.lawful; pass = c.in_ok-command.ensures; stood = c.if-self.false; rests = c.args.self.now.rests; went = c.in_ok-count.ensures }) in
    let so : c.in_ok-count.count ≤ length c.converse.new.staged = omega (arith, few, c.converse.array_long) in
    search rules

pub returns : goal.returns
returns g c =
    turn_done g.A.Application.means g.L.Line.damage c.args.self.now.wired c.converse.new.self c.args.self.now.lost c.args.command.now c.args.answer.now c.converse.new.staged (parts c.in_ok-command.command) c.args.trace.now c.converse.new.trace
    c.in_ok-count.count c.in_ok-count.status
    (record { short = g.met.A.Application.short; lawful = g.met.A.Application.lawful; pass = c.in_ok-command.ensures; stood = c.if-self.false; rests = c.args.self.now.rests; went = c.in_ok-count.ensures })
    c.copy_from_slice.new.self _ c.copy_from_slice.ensures.after refl
