use Rattle.std.proofs.Common.{◌≡◌, List, Some, get_or, length, ap, ◌∙◌, rules}
use Rattle.std.specs.Option.{ok_or}
use Rattle.std.proofs.lemmas.Result.{err_from_is_err_and}
use Rattle.apdu.specs.Statuses.{done}
use Rattle.apps.specs.Files.{File, Shelf, description}
use Rattle.apps.proofs.FileShelves.{select_none, select_some}
use Rattle.apps.proofs.files.Files.select.Goals as goal

pub returns-in_err-place : goal.returns-in_err-place
returns-in_err-place c =
    let l : length c.args.body.now ≡ 2 = search rules in
    let p = err_from_is_err_and c.from_residual.result c.from_residual.ensures.1 in
    rw (p.1, p.2)
    (select_none c.args.self.now c.args.header.p1 c.args.header.p2 c.args.body.now c.if-header-ne0.false c.if-header-ne0-2.false l c.from_be_bytes-id.result c.from_be_bytes-id.ensures c.find.result _ c.find.ensures (c.in_err-place.ensures.value ∙ ap (ok_or c.find.result) c.file_not_found.ensures))

pub returns : goal.returns
returns c =
    let l : length c.args.body.now ≡ 2 = search rules in
    let same : c.self.inside.slots.items ≡ c.args.self.now.files = ap (λ (s : Shelf). s.files) c.self.view_is in
    let item : c.index-deref-place.result ≡ get_or c.args.self.now.files c.in_ok-place.place c.index-deref-place.result =
    c.index-deref-place.is ∙ ap (λ (fs : List File). get_or fs c.in_ok-place.place c.index-deref-place.result) (c.deref.ensures.0 ∙ same) in
    rw (same, c.description.ensures)
    (ap
    (λ (f : File).
    record { state = record { files = c.args.self.now.files; current = Some c.from_be_bytes-id.result }; reply = record { answer = description f; status = done } })
    item
    ∙ select_some c.args.self.now c.args.header.p1 c.args.header.p2 c.args.body.now c.if-header-ne0.false c.if-header-ne0-2.false l c.from_be_bytes-id.result c.from_be_bytes-id.ensures c.find.result c.in_ok-place.place c.index-deref-place.result c.find.ensures (c.in_ok-place.ensures.value ∙ ap (ok_or c.find.result) c.file_not_found.ensures))
