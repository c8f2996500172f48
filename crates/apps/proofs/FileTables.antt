use Rattle.std.proofs.Common.{◌≡◌, ℕ, false, ◌&&◌, leb, List, length, None, sym}
use Rattle.std.proofs.lemmas.Bool.{and_right, cond-false}
use Rattle.apps.specs.FileTables.{all_fit, distinct, within_limits, shelf_of}
use Rattle.apps.specs.declared.files.entry.Entry.{Entry}

-- What a table comes to where an entry does not fit.
pub limits_fit : (table : List Entry) (contents : List ℕ) → all_fit contents table ≡ false → None ≡ shelf_of table contents
limits_fit table contents e =
    sym (cond-false (within_limits table contents) _ _ (and_right (leb 1 (length table) && leb (length table) 8) _ (and_right (distinct table) _ e)))
