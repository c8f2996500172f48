use Rattle.std.specs.Prelude.{ℕ, ◌+◌, Bool, true, cond, not, ◌&&◌, List, [], ◌∷◌, map, length, take, drop, Some, None, Option, ◌==◌, nat_le}
use Rattle.std.specs.List.{list_any}
use Rattle.apps.specs.Files.{File, Shelf}
use Rattle.apps.specs.declared.files.entry.Entry.{Entry}

-- A file has 1 to 256 bytes, which lie within the contents.
abbrev pub fits : List ℕ → Entry → Bool
fits contents e = nat_le 1 e.length && (nat_le e.length 256 && nat_le (e.start + e.length) (length contents))

-- The file of an entry.
abbrev pub file_from : List ℕ → Entry → File
file_from contents e = record { id = e.id; bytes = take e.length (drop e.start contents) }

-- The file of an entry that fits.
abbrev pub file_in : List ℕ → Entry → Option File
file_in contents e = cond (fits contents e) (Some (file_from contents e)) None

-- Every entry fits.
abbrev pub all_fit : List ℕ → List Entry → Bool
all_fit contents [] = true
all_fit contents (e ∷ es) = fits contents e && all_fit contents es

-- Some entry has this id.
abbrev pub has_id : ℕ → List Entry → Bool
has_id id es = list_any (λ e. e.id == id) es

-- No two entries have one id.
abbrev pub distinct : List Entry → Bool
distinct [] = true
distinct (e ∷ es) = not (has_id e.id es) && distinct es

-- A table within its limits: 1 to 8 entries, each of which fits, with distinct ids.
abbrev pub within_limits : List Entry → List ℕ → Bool
within_limits table contents = (nat_le 1 (length table) && nat_le (length table) 8) && (distinct table && all_fit contents table)

-- The shelf of a table within its limits: its files in their order, and none is current.
abbrev pub shelf_of : List Entry → List ℕ → Option Shelf
shelf_of table contents =
    cond (within_limits table contents) (Some (record { files = map (file_from contents) table; current = None })) None
