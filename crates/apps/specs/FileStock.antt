use Rattle.std.specs.Prelude.{ℕ, ◌≤◌, List, length, All}
use Rattle.apps.specs.Files.{File, Shelf, files_run, files_reset}

-- A file of at most 256 bytes.
abbrev pub IsShort : File → Type 0
IsShort f = length f.bytes ≤ 256

-- What a card holds: at most 8 files, each of at most 256 bytes.
pub record Stocked (s : Shelf) : Type 0 where
  pub few : length s.files ≤ 8
  pub short : All IsShort s.files

-- Laws, for every shelf that holds no more. No command makes it hold more, whatever its bytes and its data.
abbrev pub RunsKeepStocked : Type 0
RunsKeepStocked = (s : Shelf) (cla ins p1 p2 : ℕ) (body : List ℕ) → Stocked s → Stocked (files_run s cla ins p1 p2 body).state

-- Nor does a reset.
abbrev pub ResetsKeepStocked : Type 0
ResetsKeepStocked = (s : Shelf) → Stocked s → Stocked (files_reset s)
