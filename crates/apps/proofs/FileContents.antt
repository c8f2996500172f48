use Rattle.std.proofs.Common.{◌≡◌, ℕ, ◌+◌, ◌-◌, ◌<◌, ◌≤◌, true, eqb, ltb, List, length, take, drop, sym, ap, ◌∙◌, arith, length-drop}
use Rattle.std.proofs.lemmas.List.{take_all}
use Rattle.std.proofs.lemmas.Bool.{lt-ltb, eq-eqb, le-leb, cond-true, and_from}
use Rattle.apdu.specs.Applications.{Reply}
use Rattle.apdu.specs.Statuses.{done}
use Rattle.apps.specs.Files.{File, read_file}
use Rattle.apps.specs.FileTables.{fits}
use Rattle.apps.specs.declared.files.entry.Entry.{Entry}

pub fits_true : (contents : List ℕ) (e : Entry) → 1 ≤ e.length → e.length ≤ 256 → e.start + e.length ≤ length contents → fits contents e ≡ true
fits_true contents e a b c =
    and_from _ _ (le-leb 1 e.length a) (and_from _ _ (le-leb e.length 256 b) (le-leb (e.start + e.length) (length contents) c))

pub read_fits : (f : File) (offset : ℕ) (body : List ℕ) → offset < length f.bytes → length body ≡ 0
    → read_file f offset body ≡ record { answer = take 256 (drop offset f.bytes); status = done }
read_fits f offset body a b =
    cond-true (ltb offset (length f.bytes)) _ _ (lt-ltb offset (length f.bytes) a) ∙ cond-true (eqb (length body) 0) _ _ (eq-eqb (length body) 0 b)

-- What is read of a file of at most 256 bytes.
pub read_whole : (f : File) (bytes : List ℕ) (offset : ℕ) (body : List ℕ) → bytes ≡ f.bytes → offset < length bytes → length bytes ≤ 256 → length body ≡ 0
    → ◌≡◌ {A = Reply} (record { answer = take (length bytes - offset) (drop offset bytes); status = done }) (read_file f offset body)
read_whole f bytes offset body e a b l =
    let t = take_all (length bytes - offset) (drop offset bytes) (simp length-drop (omega arith)) in
    let u = take_all 256 (drop offset bytes) (simp length-drop (omega arith)) in
    ap (λ (xs : List ℕ). record { answer = xs; status = done }) (t ∙ sym u ∙ ap (λ (xs : List ℕ). take 256 (drop offset xs)) e)
    ∙ sym (cond-true (eqb (length body) 0) _ _ (eq-eqb (length body) 0 l))
    ∙ sym (cond-true (ltb offset (length f.bytes)) _ _ (lt-ltb offset (length f.bytes) (rw (← e) a)))
