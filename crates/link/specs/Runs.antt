use Rattle.std.specs.Prelude.{◌≡◌, ℕ, ◌+◌, cond, List, [], ◌∷◌, ◌++◌, length, take, Ok, Err, Result, nat_lt}
use Rattle.apdu.specs.Applications.{App}
use Rattle.wire.specs.Records.{Grew, kept, free_places}
use Rattle.wire.specs.declared.record.Record.{Record}
use Rattle.wire.specs.declared.traced.Traced.{Traced}
use Rattle.link.specs.Meaning.{Linked, linked}
use Rattle.link.specs.Rows.{row_of, rows}
use Rattle.link.specs.Turns.{Did, Played, called, Call, taken, all_taken, whole_trace}
use Rattle.link.specs.declared.refusal.RunRefusal.{RunRefusal}
use Rattle.link.specs.declared.refusal.RunRefusal.TheVariants.{JournalFull}
use Rattle.link.specs.declared.row.Row.{Row}
use Rattle.link.specs.declared.turn.Turn.{Turn}

-- All that one turn of a run did is what `d` says, where `d` had the data buffer from the first free byte on as its answer
-- buffer: what took the turn, each byte of the data buffer, the first byte that is then free, the row noted in the journal, and
-- the characters noted in the trace.
pub record TurnRuns {M : Type 0} (d : Did M) (program free : ℕ) (space : List ℕ) (m : M) (left : List ℕ) (r : ℕ) (j k : Record Row) (t u : Record Traced) : Type 0 where
  pub after : m ≡ d.after
  pub wrote : left ≡ take free space ++ d.buffer
  pub used : r ≡ free + taken d.gave
  pub journal : Grew j k (row_of program free d.gave ∷ [])
  pub trace : Grew t u d.characters

-- The call of a run over a link, with this journal.
abbrev pub run_call : {V : Type 0} (app : App V) → Linked app.State → List Turn → List ℕ → List ℕ → Record Row → Played (Linked app.State)
run_call app l ts commands space j = called (linked app) l (Call.run ts commands space (free_places (kept j)))

-- The result of a run: refused where the journal has fewer free places than there are turns, else how many bytes of the data
-- buffer its turns take up.
abbrev pub run_result : {M : Type 0} → List Turn → Record Row → Played M → Result ℕ RunRefusal
run_result ts j p = cond (nat_lt (free_places (kept j)) (length ts)) (Err JournalFull) (Ok (all_taken p.turns))

-- All that a run did is what its call says: the link, each byte of the data buffer, the result, the rows noted in the journal,
-- and the characters noted in the trace.
pub record Runs {V : Type 0} (app : App V) (l m : Linked app.State) (ts : List Turn) (commands space left : List ℕ) (r : Result ℕ RunRefusal) (j k : Record Row) (t u : Record Traced) : Type 0 where
  pub after : m ≡ (run_call app l ts commands space j).end
  pub wrote : left ∷ [] ≡ (run_call app l ts commands space j).buffers
  pub gave : r ≡ run_result ts j (run_call app l ts commands space j)
  pub journal : Grew j k (rows 0 (run_call app l ts commands space j).turns)
  pub trace : Grew t u (whole_trace (run_call app l ts commands space j).turns)
