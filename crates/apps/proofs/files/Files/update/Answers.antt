use Rattle.std.proofs.Common.{List, get_or, ap}
use Rattle.std.proofs.lemmas.Result.{err_from_is_err_and}
use Rattle.apps.specs.Files.{File}
use Rattle.apps.proofs.FileShelves.{update_err, update_ok}
use Rattle.apps.proofs.files.Files.update.Goals as goal

pub returns-in_err-place : goal.returns-in_err-place
returns-in_err-place c =
    let p = err_from_is_err_and c.from_residual.result c.from_residual.ensures.1 in
    rw (p.1, p.2) (update_err c.args.self.now c.args.header.p1 c.args.header.p2 c.args.body.now _ c.in_err-place.ensures)

pub returns : goal.returns
returns c =
    rw c.deref_mut.ensures.value
    (update_ok (record { files = c.self.inside.slots.items; current = c.self.inside.current }) c.args.self.now c.args.header.p1 c.args.header.p2 c.args.body.now c.in_ok-place.place c.in_ok-place.offset _ c.index-deref_mut-place.result c.update.new.self c.update.result
    c.self.view_is
    c.in_ok-place.ensures
    (ap (λ (fs : List File). get_or fs c.in_ok-place.place c.index-deref_mut-place.result) c.deref_mut.ensures.value)
    c.update.ensures)
