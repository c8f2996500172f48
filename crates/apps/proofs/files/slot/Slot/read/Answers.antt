use Rattle.std.proofs.Common.{ap, ◌∙◌, arith, rules}
use Rattle.apps.specs.Files.{File}
use Rattle.apps.proofs.FileContents.{read_whole}
use Rattle.apps.proofs.files.slot.Slot.read.Goals as goal

pub returns-clause-reply : goal.returns-clause-reply
returns-clause-reply c =
    read_whole c.args.self.now _ c.args.offset c.args.body.now (c.as_slice-bytes.ensures.value ∙ ap (λ (f : File). f.bytes) c.self.view_is) (omega arith) (omega arith) (search rules)
