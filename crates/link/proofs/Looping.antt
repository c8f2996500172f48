use Rattle.std.proofs.Common.{◌≡◌, ℕ, ◌+◌, ◌<◌, ◌≤◌, Bool, false, cond, ltb, List, [], ◌∷◌, ◌++◌, length, get_or, take, drop, Ok, Err, sym, refl, ap, ◌∙◌, subst, append_assoc, append-nil, add-zero, zero-add, length-append, take-append-drop, take_all, take_at, le-ltb}
use Rattle.std.proofs.lemmas.List.{take_more, drop_at}
use Rattle.apdu.specs.Applications.{App}
use Rattle.wire.specs.Records.{Grew, kept, free_places}
use Rattle.wire.specs.declared.record.Record.{Record}
use Rattle.wire.specs.declared.traced.Traced.{Traced}
use Rattle.wire.proofs.Growing.{grew_then}
use Rattle.link.specs.Meaning.{Linked, linked}
use Rattle.link.specs.Rows.{rows, row_of}
use Rattle.link.specs.Runs.{TurnRuns, Runs, run_call}
use Rattle.link.specs.Turns.{Did, Went, Ran, Played, one, ran, ran_on, ordered, taken, all_taken, whole_trace}
use Rattle.link.specs.declared.refusal.RunRefusal.TheVariants.{JournalFull}
use Rattle.link.specs.declared.row.Row.{Row}
use Rattle.link.specs.declared.turn.Turn.{Turn}
use Rattle.link.proofs.Chains.{as_run, run_on, all_taken_append, whole_trace_append, rows_append}
use Rattle.link.proofs.Placing.{sound, long}

-- What the turns of a run so far left, by the values of the code: the link, the data buffer, the first free byte, the journal
-- and the trace.
pub record SoFar {M : Type 0} (r : Ran M) (m : M) (space : List ℕ) (free : ℕ) (i j : Record Row) (t u : Record Traced) : Type 0 where
  pub after : m ≡ r.end
  pub wrote : space ≡ r.used ++ r.free
  pub count : free ≡ all_taken r.turns
  pub journal : Grew i j (rows 0 r.turns)
  pub trace : Grew t u (whole_trace r.turns)

module _ {V : Type 0} (app : App V) where
  -- What is used of the data buffer is what the turns took up.
  used_long : (ts : List Turn) (l : Linked app.State) (commands space : List ℕ)
      → let r = ran (linked app) l commands space ts in length r.used ≡ all_taken r.turns
  used_long [] l commands space = refl
  used_long (t ∷ ts) l commands space =
      let d = linked app l (ordered commands t) space in
      let r = ran (linked app) d.after commands (drop (taken d.gave) d.buffer) ts in
      length-append (take (taken d.gave) d.buffer) r.used
      ∙ ap (λ (n : ℕ). n + length r.used) (long d.gave d.buffer (sound app l (ordered commands t) space))
      ∙ ap (λ (n : ℕ). taken d.gave + n) (used_long ts d.after commands (drop (taken d.gave) d.buffer))

  -- One more turn.
  further : (r : Ran (Linked app.State)) (d : Did (Linked app.State)) (w : Went (Linked app.State)) (m : Linked app.State) (space left : List ℕ) (free next : ℕ) (i j k : Record Row) (t u v : Record Traced)
      → w.did ≡ d → take free space ≡ r.used → free ≡ all_taken r.turns → Grew i j (rows 0 r.turns) → Grew t u (whole_trace r.turns)
      → TurnRuns d w.program free space m left next j k u v
      → SoFar (ran_on (linked app) r (record { turns = w ∷ []; used = take (taken d.gave) d.buffer ++ []; free = drop (taken d.gave) d.buffer; end = d.after })) m left next i k t v
  further r d w m space left free next i j k t u v ew et ef gj gt h =
      record {
        after = h.after;
        wrote = h.wrote ∙ ap (λ (z : List ℕ). z ++ d.buffer) et ∙ ap (λ (z : List ℕ). r.used ++ z) (sym (take-append-drop n d.buffer))
            ∙ sym (append_assoc r.used (take n d.buffer) (drop n d.buffer))
            ∙ ap (λ (z : List ℕ). (r.used ++ z) ++ drop n d.buffer) (sym (append-nil (take n d.buffer)));
        count = h.used ∙ ap (λ (k : ℕ). k + n) ef ∙ ap (λ (k : ℕ). all_taken r.turns + k) (sym (add-zero n) ∙ ap (λ (e : Did (Linked app.State)). taken e.gave + 0) (sym ew))
            ∙ sym (all_taken_append r.turns (w ∷ []));
        journal = subst (λ (rs : List Row). Grew i k rs) (sym (rows_append r.turns (w ∷ []) 0 ∙ ap (λ (x : Row). rows 0 r.turns ++ (x ∷ [])) row)) (grew_then gj h.journal);
        trace = subst (λ (cs : List Traced). Grew t v cs) (sym (whole_trace_append r.turns (w ∷ []) ∙ ap (λ (cs : List Traced). whole_trace r.turns ++ cs) (append-nil w.did.characters ∙ ap (λ (e : Did (Linked app.State)). e.characters) ew))) (grew_then gt h.trace);
      }
    where
      n : ℕ
      n = taken d.gave

      row : row_of w.program (0 + all_taken r.turns) w.did.gave ≡ row_of w.program free d.gave
      row = ap (λ (k : ℕ). row_of w.program k w.did.gave) (zero-add (all_taken r.turns) ∙ sym ef) ∙ ap (λ (e : Did (Linked app.State)). row_of w.program free e.gave) ew

  module _ (l : Linked app.State) (commands start : List ℕ) where
    abbrev after_turns : List Turn → Ran (Linked app.State)
    after_turns ts = ran (linked app) l commands start ts

    one_further : (ts : List Turn) (x : Turn) (m n : Linked app.State) (space left : List ℕ) (free next : ℕ) (i j k : Record Row) (t u v : Record Traced)
        → SoFar (after_turns ts) m space free i j t u → TurnRuns (linked app m (ordered commands x) (drop free space)) x.program free space n left next j k u v
        → SoFar (after_turns (ts ++ (x ∷ []))) n left next i k t v
    one_further ts x m n space left free next i j k t u v h g =
        subst (λ (q : Ran (Linked app.State)). SoFar q n left next i k t v) (sym (run_on (linked app) ts (x ∷ []) l commands start))
        (further r (linked app r.end (ordered commands x) r.free) (one (linked app) r.end x.program (ordered commands x) r.free) n space left free next i j k t u v
        refl (ap (take free) h.wrote ∙ take_at r.used r.free free size) h.count h.journal h.trace
        (subst (λ (b : List ℕ). TurnRuns (linked app r.end (ordered commands x) b) x.program free space n left next j k u v) (ap (drop free) h.wrote ∙ drop_at r.used r.free free size)
        (subst (λ (q : Linked app.State). TurnRuns (linked app q (ordered commands x) (drop free space)) x.program free space n left next j k u v) h.after g)))
      where
        r : Ran (Linked app.State)
        r = after_turns ts

        size : length r.used ≡ free
        size = used_long ts l commands start ∙ sym h.count

    -- A turn of the loop.
    pub run_again : (ts : List Turn) (index : ℕ) (x : Turn) (m n : Linked app.State) (space left : List ℕ) (free next : ℕ) (i j k : Record Row) (t u v : Record Traced)
        → index < length ts
        → SoFar (after_turns (take index ts)) m space free i j t u → TurnRuns (linked app m (ordered commands (get_or ts index x)) (drop free space)) (get_or ts index x).program free space n left next j k u v
        → SoFar (after_turns (take (index + 1) ts)) n left next i k t v
    run_again ts index x m n space left free next i j k t u v lt h g =
        subst (λ (us : List Turn). SoFar (after_turns us) n left next i k t v) (sym (take_more ts index x lt))
        (one_further (take index ts) (get_or ts index x) m n space left free next i j k t u v h g)

    -- The end of the loop.
    pub run_ends : (ts : List Turn) (index : ℕ) (m : Linked app.State) (left : List ℕ) (free : ℕ) (i j : Record Row) (t u : Record Traced)
        → length ts ≤ index → length ts ≤ free_places (kept i) → SoFar (after_turns (take index ts)) m left free i j t u
        → Runs app l m ts commands start left (Ok free) i j t u
    run_ends ts index m left free i j t u far room h =
        record {
          after = g.after ∙ sym (ap (λ (p : Played (Linked app.State)). p.end) all);
          wrote = ap (λ (b : List ℕ). b ∷ []) g.wrote ∙ sym (ap (λ (p : Played (Linked app.State)). p.buffers) all);
          gave = ap (λ (n : ℕ). Ok n) (g.count ∙ sym (ap (λ (p : Played (Linked app.State)). all_taken p.turns) all)) ∙ sym (ap (λ (b : Bool). cond b (Err JournalFull) (Ok (all_taken (run_call app l ts commands start i).turns))) enough);
          journal = subst (λ (p : Played (Linked app.State)). Grew i j (rows 0 p.turns)) (sym all) g.journal;
          trace = subst (λ (p : Played (Linked app.State)). Grew t u (whole_trace p.turns)) (sym all) g.trace;
        }
      where
        r : Ran (Linked app.State)
        r = after_turns ts

        g : SoFar r m left free i j t u
        g = subst (λ (us : List Turn). SoFar (after_turns us) m left free i j t u) (take_all index ts far) h

        enough : ltb (free_places (kept i)) (length ts) ≡ false
        enough = le-ltb (free_places (kept i)) (length ts) room

        all : run_call app l ts commands start i ≡ record { turns = r.turns; buffers = (r.used ++ r.free) ∷ []; end = r.end }
        all = ap (as_run (linked app) l commands start ts) enough
