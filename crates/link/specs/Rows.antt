use Rattle.std.specs.Prelude.{ℕ, ◌+◌, cond, List, [], ◌∷◌, length, take, drop, Some, None, Ok, Err, Option, Result, ◌==◌}
use Rattle.apdu.specs.Refusals.{number}
use Rattle.apdu.specs.Statuses.{status_of}
use Rattle.apdu.specs.declared.refusal.Refusal.{Refusal}
use Rattle.apdu.specs.declared.status.Status.{Status}
use Rattle.link.specs.Turns.{Gave, gives, restarted, denied, Entry, Went, taken}
use Rattle.link.specs.declared.row.Row.{Row}

-- The row of a turn that was done, with n answer bytes from this place of the data buffer on and this status: kind 0.
abbrev pub done_row : ℕ → ℕ → ℕ → Status → Row
done_row program place n s = record { program = program; kind = 0; sw1 = s.sw1; sw2 = s.sw2; place = place; length = n }

-- The row of a reset that was done, the word reset: kind 16.
abbrev pub restarted_row : ℕ → ℕ → Row
restarted_row program place = record { program = program; kind = 16; sw1 = 0; sw2 = 0; place = place; length = 0 }

-- The row of a refusal: its kind is the refusal's number.
abbrev pub refused_row : ℕ → ℕ → ℕ → Row
refused_row program place n = record { program = program; kind = n; sw1 = 0; sw2 = 0; place = place; length = 0 }

-- The row of a turn that gave this, its answer from this place on.
abbrev pub row_of : ℕ → ℕ → Gave → Row
row_of program place (gives bytes s) = done_row program place (length bytes) s
row_of program place restarted = restarted_row program place
row_of program place (denied n) = refused_row program place n

-- The rows of turns of a run, the first answer from this place on and each further one from where the one before it ends.
abbrev pub rows : {M : Type 0} → ℕ → List (Went M) → List Row
rows place [] = []
rows place (w ∷ ws) = row_of w.program place w.did.gave ∷ rows (place + taken w.did.gave) ws

-- The row of a turn by its result.
abbrev pub row_of_result : ℕ → ℕ → Result (Option (ℕ × Status)) Refusal → Row
row_of_result program place (Ok (Some p)) = done_row program place p.0 p.1
row_of_result program place (Ok None) = restarted_row program place
row_of_result program place (Err e) = refused_row program place (number e)

-- What a turn that was done gave, where its two status bytes are a status.
abbrev pub gave_with : List ℕ → Option Status → Option Gave
gave_with bytes None = None
gave_with bytes (Some s) = Some (gives bytes s)

-- What a row and the whole data buffer say that its turn gave. A row of kind 0 whose SW1 opens no status says nothing: no run
-- writes one.
abbrev pub gave_at : List ℕ → Row → Option Gave
gave_at space r =
    cond (r.kind == 0) (gave_with (take r.length (drop r.place space)) (status_of r.sw1 r.sw2))
    (cond (r.kind == 16) (Some restarted) (Some (denied r.kind)))

abbrev pub entry_with : ℕ → Option Gave → Option Entry
entry_with program None = None
entry_with program (Some g) = Some (record { program = program; gave = g })

-- The entry that a row and the whole data buffer give.
abbrev pub entry_of : List ℕ → Row → Option Entry
entry_of space r = entry_with r.program (gave_at space r)

abbrev pub put : Option Entry → Option (List Entry) → Option (List Entry)
put None _ = None
put (Some e) None = None
put (Some e) (Some es) = Some (e ∷ es)

-- The entries that rows and the whole data buffer give, where every row gives one.
abbrev pub entries_of : List ℕ → List Row → Option (List Entry)
entries_of space [] = Some []
entries_of space (r ∷ rs) = put (entry_of space r) (entries_of space rs)
