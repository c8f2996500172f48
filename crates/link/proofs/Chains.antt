use Rattle.std.proofs.Common.{◌≡◌, ℕ, ◌+◌, Bool, cond, List, [], ◌∷◌, ◌++◌, take, drop, sym, refl, ap, ◌∙◌, append_assoc, add-zero, add_assoc, zero-add}
use Rattle.wire.specs.declared.traced.Traced.{Traced}
use Rattle.link.specs.Rows.{row_of, rows}
use Rattle.link.specs.Laws.{each_alone, SharedOut, pieced}
use Rattle.link.specs.Turns.{Order, Did, Went, Played, one, ran, ran_on, before_others, calls, ordered, taken, all_taken, whole_trace}
use Rattle.link.specs.declared.row.Row.{Row}
use Rattle.link.specs.declared.turn.Turn.{Turn}

module _ {M : Type 0} where
  pub all_taken_append : (ws vs : List (Went M)) → all_taken (ws ++ vs) ≡ all_taken ws + all_taken vs
  all_taken_append [] vs = sym (zero-add (all_taken vs))
  all_taken_append (w ∷ ws) vs = ap (λ (n : ℕ). taken w.did.gave + n) (all_taken_append ws vs) ∙ sym (add_assoc (taken w.did.gave) (all_taken ws) (all_taken vs))

  pub whole_trace_append : (ws vs : List (Went M)) → whole_trace (ws ++ vs) ≡ whole_trace ws ++ whole_trace vs
  whole_trace_append [] vs = refl
  whole_trace_append (w ∷ ws) vs = ap (λ (cs : List Traced). w.did.characters ++ cs) (whole_trace_append ws vs) ∙ sym (append_assoc w.did.characters (whole_trace ws) (whole_trace vs))

  pub rows_append : (ws vs : List (Went M)) (place : ℕ) → rows place (ws ++ vs) ≡ rows place ws ++ rows (place + all_taken ws) vs
  rows_append [] vs place = ap (λ (n : ℕ). rows n vs) (sym (add-zero place))
  rows_append (w ∷ ws) vs place =
      let n = taken w.did.gave in
      ap (λ (rs : List Row). row_of w.program place w.did.gave ∷ rs)
      (rows_append ws vs (place + n) ∙ ap (λ (k : ℕ). rows (place + n) ws ++ rows k vs) (add_assoc place n (all_taken ws)))

module _ {M : Type 0} (act : M → Order → List ℕ → Did M) where
  -- A run, by whether its journal is too short.
  abbrev pub as_run : M → List ℕ → List ℕ → List Turn → Bool → Played M
  as_run m commands space ts short =
      let r = ran act m commands space ts in
      cond short (record { turns = []; buffers = space ∷ []; end = m }) (record { turns = r.turns; buffers = (r.used ++ r.free) ∷ []; end = r.end })

  -- Turns of a run, then others, are the run of the first and then of the others on what these left free.
  pub run_on : (ts us : List Turn) (m : M) (commands space : List ℕ)
      → let r = ran act m commands space ts in ran act m commands space (ts ++ us) ≡ ran_on act r (ran act r.end commands r.free us)
  run_on [] us m commands space = refl
  run_on (t ∷ ts) us m commands space =
      let d = act m (ordered commands t) space in
      let n = drop (taken d.gave) d.buffer in
      let r = ran act d.after commands n ts in
      let q = ran act r.end commands r.free us in
      ap (before_others act (one act m t.program (ordered commands t) space)) (run_on ts us d.after commands n)
      ∙ ap (λ (u : List ℕ). record { turns = one act m t.program (ordered commands t) space ∷ (r.turns ++ q.turns); used = u; free = q.free; end = q.end })
      (sym (append_assoc (take (taken d.gave) d.buffer) r.used q.used))

  -- The turns of a run are those turns alone, with the buffers shared out.
  pub alone_turns : (ts : List Turn) (m : M) (commands space : List ℕ)
      → let r = ran act m commands space ts in (calls act m (each_alone r.turns)).turns ≡ r.turns
  alone_turns [] m commands space = refl
  alone_turns (t ∷ ts) m commands space =
      let d = act m (ordered commands t) space in
      ap (λ (ws : List (Went M)). one act m t.program (ordered commands t) space ∷ ws) (alone_turns ts d.after commands (drop (taken d.gave) d.buffer))

  pub alone_end : (ts : List Turn) (m : M) (commands space : List ℕ)
      → let r = ran act m commands space ts in (calls act m (each_alone r.turns)).end ≡ r.end
  alone_end [] m commands space = refl
  alone_end (t ∷ ts) m commands space =
      let d = act m (ordered commands t) space in alone_end ts d.after commands (drop (taken d.gave) d.buffer)

  pub shared_out : (ts : List Turn) (m : M) (commands space : List ℕ) → SharedOut commands space ts (ran act m commands space ts).turns
  shared_out [] m commands space = tt
  shared_out (t ∷ ts) m commands space =
      let d = act m (ordered commands t) space in
      (record { program = refl; order = refl; handed = refl }, shared_out ts d.after commands (drop (taken d.gave) d.buffer))

  pub run_pieced : (ts : List Turn) (m : M) (commands space : List ℕ)
      → let r = ran act m commands space ts in r.used ++ r.free ≡ pieced space r.turns
  run_pieced [] m commands space = refl
  run_pieced (t ∷ ts) m commands space =
      let d = act m (ordered commands t) space in
      let n = drop (taken d.gave) d.buffer in
      let r = ran act d.after commands n ts in
      append_assoc (take (taken d.gave) d.buffer) r.used r.free
      ∙ ap (λ (b : List ℕ). take (taken d.gave) d.buffer ++ b) (run_pieced ts d.after commands n)
