use Rattle.std.proofs.Common.{◌≡◌, ℕ, ◌+◌, Bool, true, false, ltb, List, [], ◌∷◌, ◌++◌, length, take, drop, Some, Option, sym, refl, ap, ◌∙◌, subst, append_assoc, length-append, take_at, le-ltb}
use Rattle.std.proofs.lemmas.List.{drop_at}
use Rattle.apdu.specs.Applications.{App}
use Rattle.apdu.specs.declared.status.Status.{Status}
use Rattle.apdu.proofs.Same.{status_of_lawful}
use Rattle.link.specs.Laws.{RowsLaw, RunLaw, Alone, AloneLaw}
use Rattle.link.specs.Meaning.{Linked, linked}
use Rattle.link.specs.Rows.{row_of, rows, entry_of, entries_of, gave_with, entry_with, put}
use Rattle.link.specs.Turns.{Gave, gives, restarted, denied, Entry, ran, ordered, taken, journal}
use Rattle.link.specs.declared.turn.Turn.{Turn}
use Rattle.link.proofs.Chains.{as_run, run_on, alone_turns, alone_end, shared_out, run_pieced}
use Rattle.link.proofs.Placing.{Placed, sound, long}

-- A row and the data buffer give its entry, where what the turn gave stands at the row's place.
row_gives : (p : ℕ) (pre : List ℕ) (g : Gave) (b u f : List ℕ) → Placed g b
    → entry_of (pre ++ ((take (taken g) b ++ u) ++ f)) (row_of p (length pre) g) ≡ Some (record { program = p; gave = g })
row_gives p pre (gives bytes s) b u f h =
    ap (λ (o : Option Status). entry_with p (gave_with (take (length bytes) (drop (length pre) (pre ++ ((take (length bytes) b ++ u) ++ f)))) o)) (sym (status_of_lawful s.sw1 s.sw2 s.ok))
    ∙ ap (λ (z : List ℕ). Some (record { program = p; gave = gives z s })) there
  where
    there : take (length bytes) (drop (length pre) (pre ++ ((take (length bytes) b ++ u) ++ f))) ≡ bytes
    there =
        ap (take (length bytes)) (drop_at pre ((take (length bytes) b ++ u) ++ f) (length pre) refl)
        ∙ ap (λ (z : List ℕ). take (length bytes) ((z ++ u) ++ f)) h
        ∙ ap (take (length bytes)) (append_assoc bytes u f) ∙ take_at bytes (u ++ f) (length bytes) refl
row_gives p pre restarted b u f h = refl
row_gives p pre (denied n) b u f h = rw (h.0, h.1)

module _ {V : Type 0} (app : App V) where
  rows_give : (ts : List Turn) (l : Linked app.State) (commands space pre : List ℕ)
      → let r = ran (linked app) l commands space ts in
      entries_of (pre ++ (r.used ++ r.free)) (rows (length pre) r.turns) ≡ Some (journal r.turns)
  rows_give [] l commands space pre = refl
  rows_give (t ∷ ts) l commands space pre =
      let d = linked app l (ordered commands t) space in
      let s = sound app l (ordered commands t) space in
      let mine = take (taken d.gave) d.buffer in
      let r = ran (linked app) d.after commands (drop (taken d.gave) d.buffer) ts in
      let more = rows_give ts d.after commands (drop (taken d.gave) d.buffer) (pre ++ mine) in
      let whole : (pre ++ mine) ++ (r.used ++ r.free) ≡ pre ++ ((mine ++ r.used) ++ r.free) =
      append_assoc pre mine (r.used ++ r.free) ∙ ap (λ (z : List ℕ). pre ++ z) (sym (append_assoc mine r.used r.free)) in
      let place : length (pre ++ mine) ≡ length pre + taken d.gave = length-append pre mine ∙ ap (λ (n : ℕ). length pre + n) (long d.gave d.buffer s) in
      let rest : entries_of (pre ++ ((mine ++ r.used) ++ r.free)) (rows (length pre + taken d.gave) r.turns) ≡ Some (journal r.turns) =
      ap (λ (z : List ℕ). entries_of z (rows (length pre + taken d.gave) r.turns)) (sym whole)
      ∙ ap (λ (n : ℕ). entries_of ((pre ++ mine) ++ (r.used ++ r.free)) (rows n r.turns)) (sym place) ∙ more in
      ap (λ (e : Option Entry). put e (entries_of (pre ++ ((mine ++ r.used) ++ r.free)) (rows (length pre + taken d.gave) r.turns)))
      (row_gives t.program pre d.gave d.buffer r.used r.free s)
      ∙ ap (λ (es : Option (List Entry)). put (Some (record { program = t.program; gave = d.gave })) es) rest

  rows_short : (l : Linked app.State) (ts : List Turn) (commands space left : List ℕ) (short : Bool)
      → let p = as_run (linked app) l commands space ts short in left ∷ [] ≡ p.buffers → entries_of left (rows 0 p.turns) ≡ Some (journal p.turns)
  rows_short l ts commands space left true e = refl
  rows_short l ts commands space left false e =
      let r = ran (linked app) l commands space ts in
      let same : left ≡ r.used ++ r.free = cc in
      ap (λ (b : List ℕ). entries_of b (rows 0 r.turns)) same ∙ rows_give ts l commands space []

  pub rows_law : RowsLaw app
  rows_law l ts commands space left places e = rows_short l ts commands space left (ltb places (length ts)) e

  pub run_law : RunLaw app
  run_law l commands space ts us = run_on (linked app) ts us l commands space

  pub alone_law : AloneLaw app
  alone_law l ts commands space places room =
      subst (λ (b : Bool). Alone app l ts commands space (as_run (linked app) l commands space ts b)) (sym (le-ltb places (length ts) room))
      (record {
        shared = shared_out (linked app) ts l commands space;
        turns = alone_turns (linked app) ts l commands space;
        end = alone_end (linked app) ts l commands space;
        space_after = ap (λ (b : List ℕ). b ∷ []) (run_pieced (linked app) ts l commands space);
      })
