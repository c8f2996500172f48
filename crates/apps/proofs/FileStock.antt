use Rattle.std.proofs.Common.{◌≡◌, ℕ, ◌+◌, ◌≤◌, true, ◌&&◌, List, [], ◌∷◌, map, length, take, drop, Some, None, Option, refl, ap, ◌∙◌, sym, nat_lt, nat_le, arith, length-take, length-drop}
use Rattle.std.specs.Prelude.{◌==◌, All, IfSome}
use Rattle.std.proofs.lemmas.List.{take_all, at_drop_all, length-append, length-map}
use Rattle.std.proofs.lemmas.List.Elements.{All-nil, All-cons, All-head, All-tail}
use Rattle.std.proofs.lemmas.Bool.{cond_both, and_parts, leb-true}
use Rattle.apdu.specs.Applications.{Outcome}
use Rattle.apps.specs.Files.{File, Shelf, find, named, replaced, number_in, selected, select_file, read_from, read_binary, update_file, update_in, update_binary}
use Rattle.apps.specs.FileTables.{fits, file_from, all_fit}
use Rattle.apps.specs.FileStock.{IsShort, Stocked, RunsKeepStocked}
use Rattle.apps.specs.declared.files.entry.Entry.{Entry}

-- A file that is found among short ones is short.
find_short : (id : ℕ) (fs : List File) → All IsShort fs → IfSome (find id fs) IsShort
find_short id [] h = tt
find_short id (f ∷ fs) h =
    cond_both (f.id == id) (Some f) (find id fs) (λ (o : Option File). IfSome o IsShort) (λ _. All-head IsShort f fs h) (λ _. find_short id fs (All-tail IsShort f fs h))

named_short : (name : Option ℕ) (fs : List File) → All IsShort fs → IfSome (named name fs) IsShort
named_short None fs h = tt
named_short (Some id) fs h = find_short id fs h

-- An update keeps the length of a file.
update_length : (f : File) (offset : ℕ) (body : List ℕ) → length (update_file f offset body).state.bytes ≡ length f.bytes
update_length f offset body =
    let P : Outcome File → Type 0 = λ o. length o.state.bytes ≡ length f.bytes in
    cond_both (nat_lt offset (length f.bytes)) _ _ P
    (λ _. cond_both (nat_le 1 (length body) && nat_le (offset + length body) (length f.bytes)) _ _ P
    (λ t.
    let l = leb-true (offset + length body) (length f.bytes) (and_parts (nat_le 1 (length body)) (nat_le (offset + length body) (length f.bytes)) t).1 in
    simp (length-append, length-take, length-drop) (omega arith))
    (λ _. refl))
    (λ _. refl)

-- A file in the place of another leaves as many, and all short if it is.
length_replaced : (g : File) (fs : List File) → length (replaced g fs) ≡ length fs
length_replaced g [] = refl
length_replaced g (f ∷ fs) =
    let e = length_replaced g fs in
    cond_both (f.id == g.id) (g ∷ fs) (f ∷ replaced g fs) (λ (xs : List File). length xs ≡ length (f ∷ fs)) (λ _. refl) (λ _. omega arith)

replaced_short : (g : File) (fs : List File) → IsShort g → All IsShort fs → All IsShort (replaced g fs)
replaced_short g [] h all = All-nil IsShort
replaced_short g (f ∷ fs) h all =
    let t = All-tail IsShort f fs all in
    cond_both (f.id == g.id) (g ∷ fs) (f ∷ replaced g fs) (All IsShort) (λ _. All-cons IsShort g fs h t)
    (λ _. All-cons IsShort f (replaced g fs) (All-head IsShort f fs all) (replaced_short g fs h t))

-- A shelf with the same files.
stocked_same : (s : Shelf) (current : Option ℕ) → Stocked s → Stocked (record { files = s.files; current = current })
stocked_same s current k = record { few = k.few; short = k.short }

selected_stocked : (s : Shelf) (f : Option File) → Stocked s → Stocked (selected s f).state
selected_stocked s None k = k
selected_stocked s (Some f) k = stocked_same s (Some f.id) k

select_stocked : (s : Shelf) (p1 p2 : ℕ) (body : List ℕ) → Stocked s → Stocked (select_file s p1 p2 body).state
select_stocked s p1 p2 body k =
    let P : Outcome Shelf → Type 0 = λ o. Stocked o.state in
    cond_both (p1 == 0 && p2 == 0) _ _ P
    (λ _. cond_both (length body == 2) _ _ P (λ _. selected_stocked s (find (number_in body) s.files) k) (λ _. k))
    (λ _. k)

read_stocked_from : (s : Shelf) (offset : ℕ) (body : List ℕ) (f : Option File) → Stocked s → Stocked (read_from s offset body f).state
read_stocked_from s offset body None k = k
read_stocked_from s offset body (Some f) k = k

read_stocked : (s : Shelf) (p1 p2 : ℕ) (body : List ℕ) → Stocked s → Stocked (read_binary s p1 p2 body).state
read_stocked s p1 p2 body k =
    cond_both (nat_lt p1 0x80) _ _ (λ (o : Outcome Shelf). Stocked o.state) (λ _. read_stocked_from s _ body (named s.current s.files) k) (λ _. k)

update_stocked_in : (s : Shelf) (offset : ℕ) (body : List ℕ) (f : Option File) → IfSome f IsShort → Stocked s → Stocked (update_in s offset body f).state
update_stocked_in s offset body None h k = k
update_stocked_in s offset body (Some f) h k =
    let g = (update_file f offset body).state in
    let l = update_length f offset body in
    let n = length_replaced g s.files in
    let m = k.few in
    record { few = omega arith; short = replaced_short g s.files (omega arith) k.short }

update_stocked : (s : Shelf) (p1 p2 : ℕ) (body : List ℕ) → Stocked s → Stocked (update_binary s p1 p2 body).state
update_stocked s p1 p2 body k =
    cond_both (nat_lt p1 0x80) _ _ (λ (o : Outcome Shelf). Stocked o.state)
    (λ _. update_stocked_in s _ body (named s.current s.files) (named_short s.current s.files k.short) k)
    (λ _. k)

pub runs_keep_stocked : RunsKeepStocked
runs_keep_stocked s cla ins p1 p2 body k =
    let P : Outcome Shelf → Type 0 = λ o. Stocked o.state in
    cond_both (cla == 0x00) _ _ P
    (λ _. cond_both (ins == 0xA4) _ _ P (λ _. select_stocked s p1 p2 body k)
    (λ _. cond_both (ins == 0xB0) _ _ P (λ _. read_stocked s p1 p2 body k)
    (λ _. cond_both (ins == 0xD6) _ _ P (λ _. update_stocked s p1 p2 body k) (λ _. k))))
    (λ _. k)

-- The files of entries that fit are short.
all_short : (contents : List ℕ) (table : List Entry) → all_fit contents table ≡ true → All IsShort (map (file_from contents) table)
all_short contents [] h = All-nil IsShort
all_short contents (e ∷ es) h =
    let p = and_parts (fits contents e) (all_fit contents es) h in
    let q = and_parts (nat_le 1 e.length) _ p.0 in
    let l = leb-true e.length 256 (and_parts (nat_le e.length 256) _ q.1).0 in
    All-cons IsShort (file_from contents e) (map (file_from contents) es) (simp length-take (omega arith)) (all_short contents es p.1)

-- The files of the first i entries, which are all, where the others fit if all do, and none is left.
pub stocked_loaded : (contents : List ℕ) (table : List Entry) (i : ℕ) (fs : List File) (current : Option ℕ) → length table ≤ i → length table ≤ 8
    → all_fit contents (drop i table) ≡ all_fit contents table → fs ≡ map (file_from contents) (take i table)
    → Stocked (record { files = fs; current = current })
stocked_loaded contents table i fs current h n fit e =
    let t : all_fit contents table ≡ true = sym fit ∙ at_drop_all (all_fit contents) table i h in
    let q : fs ≡ map (file_from contents) table = e ∙ ap (map (file_from contents)) (take_all i table h) in
    rw q (record { few = simp length-map (omega arith); short = all_short contents table t })
