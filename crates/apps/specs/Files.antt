use Rattle.std.specs.Prelude.{ℕ, ◌+◌, ◌*◌, ◌/◌, ◌%◌, cond, ◌&&◌, List, [], ◌∷◌, ◌++◌, length, take, drop, Some, None, Option, ◌==◌, nat_le, nat_lt, slice_index}
use Rattle.apdu.specs.declared.status.Status.{Status}
use Rattle.apdu.specs.Applications.{Reply, Outcome}
use Rattle.apdu.specs.Statuses.{done, wrong_length, no_current_file, file_not_found, wrong_parameters, past_the_end, unknown_instruction, unknown_class}

-- A file: its id and its bytes.
pub record File : Type 0 where
  pub id : ℕ
  pub bytes : List ℕ

-- The files of a card, and the id of the current one, if any.
pub record Shelf : Type 0 where
  pub files : List File
  pub current : Option ℕ

-- The first file with this id.
abbrev pub find : ℕ → List File → Option File
find id [] = None
find id (f ∷ fs) = cond (f.id == id) (Some f) (find id fs)

-- The file of this name, where there is a name: an id that no file has names none.
abbrev pub named : Option ℕ → List File → Option File
named None fs = None
named (Some id) fs = find id fs

-- The files after a change of one: it takes the place of the first file with its id.
abbrev pub replaced : File → List File → List File
replaced g [] = []
replaced g (f ∷ fs) = cond (f.id == g.id) (g ∷ fs) (f ∷ replaced g fs)

-- A reply with no answer bytes.
abbrev pub bare : Status → Reply
bare status = record { answer = []; status = status }

-- A refusal: the state stays, and the reply is a status alone.
abbrev pub refused : {S : Type 0} → S → Status → Outcome S
refused s status = record { state = s; reply = bare status }

-- A number as two bytes, the high one first, and the number that two bytes spell.
abbrev pub two_bytes : ℕ → List ℕ
two_bytes n = n / 256 % 256 ∷ (n % 256 ∷ [])

abbrev pub number_in : List ℕ → ℕ
number_in bytes = slice_index bytes 0 * 256 + slice_index bytes 1

-- What SELECT answers of a file: tag 6F, 8 bytes long, with its size under tag 80 and its id under tag 83, 2 bytes each.
abbrev pub description : File → List ℕ
description f = 0x6F ∷ 0x08 ∷ 0x80 ∷ 0x02 ∷ (two_bytes (length f.bytes) ++ 0x83 ∷ 0x02 ∷ two_bytes f.id)

-- The file that was found becomes current; where none was, the current file stays.
abbrev pub selected : Shelf → Option File → Outcome Shelf
selected s None = refused s file_not_found
selected s (Some f) =
    record {
      state = record { files = s.files; current = Some f.id };
      reply = record { answer = description f; status = done };
    }

-- SELECT: P1 and P2 are 0, and the data are an id of 2 bytes.
abbrev pub select_file : Shelf → ℕ → ℕ → List ℕ → Outcome Shelf
select_file s p1 p2 body =
    cond (p1 == 0 && p2 == 0)
    (cond (length body == 2) (selected s (find (number_in body) s.files)) (refused s wrong_length))
    (refused s wrong_parameters)

-- READ BINARY of a file: the offset lies in it, and no data come; the answer is its bytes from the offset to the end.
-- A file has at most 256 bytes, so `take 256` cuts nothing.
abbrev pub read_file : File → ℕ → List ℕ → Reply
read_file f offset body =
    cond (nat_lt offset (length f.bytes))
    (cond (length body == 0) (record { answer = take 256 (drop offset f.bytes); status = done }) (bare wrong_length))
    (bare past_the_end)

-- Bytes with these in the place of as many from the offset on.
abbrev pub overwritten : List ℕ → ℕ → List ℕ → List ℕ
overwritten bytes offset body = take offset bytes ++ (body ++ drop (offset + length body) bytes)

-- UPDATE BINARY of a file: the offset lies in it, and the data are some and do not pass its end; they overwrite its bytes
-- from the offset on.
abbrev pub update_file : File → ℕ → List ℕ → Outcome File
update_file f offset body =
    cond (nat_lt offset (length f.bytes))
    (cond (nat_le 1 (length body) && nat_le (offset + length body) (length f.bytes))
    (record { state = record { id = f.id; bytes = overwritten f.bytes offset body }; reply = bare done })
    (refused f wrong_length))
    (refused f past_the_end)

-- The current file is read, where there is one.
abbrev pub read_from : Shelf → ℕ → List ℕ → Option File → Outcome Shelf
read_from s offset body None = refused s no_current_file
read_from s offset body (Some f) = record { state = s; reply = read_file f offset body }

-- READ BINARY: P1 is below 80, and the current file is read at the offset that P1 and P2 spell.
abbrev pub read_binary : Shelf → ℕ → ℕ → List ℕ → Outcome Shelf
read_binary s p1 p2 body =
    cond (nat_lt p1 0x80) (read_from s (p1 * 256 + p2) body (named s.current s.files)) (refused s wrong_parameters)

-- A file that was updated takes its place on the shelf again.
abbrev pub put_back : Shelf → Outcome File → Outcome Shelf
put_back s o = record { state = record { files = replaced o.state s.files; current = s.current }; reply = o.reply }

-- The current file is updated, where there is one.
abbrev pub update_in : Shelf → ℕ → List ℕ → Option File → Outcome Shelf
update_in s offset body None = refused s no_current_file
update_in s offset body (Some f) = put_back s (update_file f offset body)

-- UPDATE BINARY: P1 is below 80, and the current file is updated at the offset that P1 and P2 spell.
abbrev pub update_binary : Shelf → ℕ → ℕ → List ℕ → Outcome Shelf
update_binary s p1 p2 body =
    cond (nat_lt p1 0x80) (update_in s (p1 * 256 + p2) body (named s.current s.files)) (refused s wrong_parameters)

-- The commands: CLA is 00, and INS is A4 (SELECT), B0 (READ BINARY) or D6 (UPDATE BINARY).
abbrev pub files_run : Shelf → ℕ → ℕ → ℕ → ℕ → List ℕ → Outcome Shelf
files_run s cla ins p1 p2 body =
    cond (cla == 0x00)
    (cond (ins == 0xA4) (select_file s p1 p2 body)
    (cond (ins == 0xB0) (read_binary s p1 p2 body)
    (cond (ins == 0xD6) (update_binary s p1 p2 body)
    (refused s unknown_instruction))))
    (refused s unknown_class)

-- After a reset there is no current file.
abbrev pub files_reset : Shelf → Shelf
files_reset s = record { files = s.files; current = None }
