use Rattle.std.specs.Prelude.{◌≡◌, ℕ, ◌+◌, ◌-◌, min, cond, List, [], ◌∷◌, length, nat_lt, slice_set}
use Rattle.wire.specs.declared.record.Record.{Record}

-- What a list in handed memory holds: its places, and how many items came.
pub record Kept (T : Type 0) : Type 0 where
  pub places : List T
  pub count : ℕ

abbrev pub kept : {T : Type 0} → Record T → Kept T
kept r = record { places = r.places.now; count = r.count }

-- The places that are still free: a place that the count cannot reach is none.
abbrev pub free_places : {T : Type 0} → Kept T → ℕ
free_places k = min (length k.places) 0xFFFF_FFFF - k.count

-- One more item: it goes to the place of its number, where there is one, and is counted. At 2^32 − 1 the count stays, and no
-- place changes.
abbrev pub one_more : {T : Type 0} → Kept T → T → Kept T
one_more k x =
    cond (nat_lt k.count 0xFFFF_FFFF) (record { places = slice_set k.places k.count x; count = k.count + 1 }) k

-- Items one after the other.
abbrev pub noted : {T : Type 0} → Kept T → List T → Kept T
noted k [] = k
noted k (x ∷ xs) = noted (one_more k x) xs

-- A list became another by noting these items, over the same memory.
pub record Grew {T : Type 0} (before after : Record T) (xs : List T) : Type 0 where
  pub held : kept after ≡ noted (kept before) xs
  pub same : after.places.ghost_name ≡ before.places.ghost_name
