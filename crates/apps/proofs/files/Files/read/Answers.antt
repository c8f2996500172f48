use Rattle.std.proofs.Common.{◌≡◌, List, get_or, ap, ◌∙◌}
use Rattle.std.proofs.lemmas.Result.{err_from_is_err_and}
use Rattle.apdu.specs.Applications.{Reply}
use Rattle.apps.specs.Files.{File, Shelf, read_file}
use Rattle.apps.proofs.FileShelves.{read_err, read_ok}
use Rattle.apps.proofs.files.Files.read.Goals as goal

pub returns-in_err-place-clause-reply : goal.returns-in_err-place-clause-reply
returns-in_err-place-clause-reply c =
    let p = err_from_is_err_and c.from_residual.result c.from_residual.ensures.1 in
    rw (p.1, p.2) (read_err c.args.self.now c.args.header.p1 c.args.header.p2 c.args.body.now _ c.in_err-place.ensures)

pub returns-clause-reply : goal.returns-clause-reply
returns-clause-reply c =
    let same : c.self.inside.slots.items ≡ c.args.self.now.files = ap (λ (s : Shelf). s.files) c.self.view_is in
    let item : c.index-deref-place.result ≡ get_or c.args.self.now.files c.in_ok-place.place c.index-deref-place.result =
    c.index-deref-place.is ∙ ap (λ (fs : List File). get_or fs c.in_ok-place.place c.index-deref-place.result) (c.deref.ensures.0 ∙ same) in
    ap (λ (r : Reply). record { state = c.args.self.now; reply = r })
    (c.read.ensures.reply ∙ ap (λ (f : File). read_file f c.in_ok-place.offset c.args.body.now) item)
    ∙ read_ok c.args.self.now c.args.header.p1 c.args.header.p2 c.args.body.now c.in_ok-place.place c.in_ok-place.offset c.index-deref-place.result c.in_ok-place.ensures
