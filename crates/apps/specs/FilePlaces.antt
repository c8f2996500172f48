use Rattle.std.specs.Prelude.{ℕ, ◌+◌, ◌*◌, cond, List, Some, None, Option, Ok, Err, Result, ◌==◌, nat_lt, position}
use Rattle.apdu.specs.declared.status.Status.{Status}
use Rattle.apdu.specs.Statuses.{no_current_file, wrong_parameters}
use Rattle.apps.specs.Files.{File, Shelf}

-- The place of the first file with this id.
abbrev pub place : ℕ → List File → Option ℕ
place id fs = position (λ f. f.id == id) fs

-- The place of the file of this name, where there is a name.
abbrev pub place_named : Option ℕ → List File → Option ℕ
place_named None fs = None
place_named (Some id) fs = place id fs

-- A place with an offset, where there is a current file.
abbrev pub at_offset : ℕ → Option ℕ → Result (ℕ × ℕ) Status
at_offset offset None = Err no_current_file
at_offset offset (Some i) = Ok (i, offset)

-- Where READ BINARY and UPDATE BINARY work: P1 is below 80, and there is a current file; the place of that file, and the
-- offset that P1 and P2 spell.
abbrev pub current_at : Shelf → ℕ → ℕ → Result (ℕ × ℕ) Status
current_at s p1 p2 = cond (nat_lt p1 0x80) (at_offset (p1 * 256 + p2) (place_named s.current s.files)) (Err wrong_parameters)
