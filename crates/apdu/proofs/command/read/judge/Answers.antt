use Rattle.std.proofs.Common.{◌≡◌, Some, None, Err, ap, sym, ◌∙◌, arith}
use Rattle.std.proofs.lemmas.Result.{err_from_is_err_and}
use Rattle.apdu.specs.Judging.{read, verdict, judged, checked}
use Rattle.apdu.specs.declared.refusal.Refusal.TheVariants.{Malformed}
use Rattle.apdu.proofs.command.read.judge.Goals as goal

pub returns-in_err-command : goal.returns-in_err-command
unfolding judged
returns-in_err-command c =
    let p = err_from_is_err_and c.from_residual.result c.from_residual.ensures.1 in
    let none : c.read_command.result ≡ None = grind arith in
    let refuses : c.from_residual.result ≡ Err Malformed = grind arith in
    ap verdict refuses ∙ ap (checked c.args.room) (ap read (sym none) ∙ c.read_command.ensures)

pub returns : goal.returns
unfolding judged
returns c =
    let passed : c.read_command.result ≡ Some c.in_ok-command.command = grind arith in
    c.check.ensures ∙ ap (checked c.args.room) (ap read (sym passed) ∙ c.read_command.ensures)
