use Rattle.std.proofs.Common.{◌≡◌, ℕ, Bool, true, false, ltb, List, [], ◌∷◌, ◌++◌, length, drop, Some, None, Option, sym, refl, ap, ◌∙◌, subst}
use Rattle.link.specs.declared.turn.Turn.{Turn}
use Rattle.apdu.specs.Applications.{App}
use Rattle.link.specs.Direct.{Direct, over, nearer, settled, directly}
use Rattle.link.specs.Meaning.{Linked, Asked, Crossing, linked}
use Rattle.link.specs.Turns.{Order, Gave, denied, Did, Went, Call, alone, run, Ran, Played, one, ran, called, calls, ordered, taken, gaves, journal, answers, five, later, turn_of_loss}
use Rattle.link.proofs.Chains.{as_run}
use Rattle.link.proofs.Goes.{standing, fallen, card_at, Goes, on, off, goes, Stays, stays}

over_later : (t : Option ℕ) → over (later t) ≡ false
over_later None = refl
over_later (Some n) = refl

nearer_later : (t : Option ℕ) → nearer (later t) ≡ t
nearer_later None = refl
nearer_later (Some n) = refl

pub told_later : (g : Gave) (gs : List Gave) → five g ≡ false → turn_of_loss (g ∷ gs) ≡ later (turn_of_loss gs)
told_later g gs h = rw h

pub told_over : (g : Gave) (gs : List Gave) → five g ≡ false → over (turn_of_loss (g ∷ gs)) ≡ false
told_over g gs h = ap over (told_later g gs h) ∙ over_later (turn_of_loss gs)

pub told_nearer : (g : Gave) (gs : List Gave) → five g ≡ false → nearer (turn_of_loss (g ∷ gs)) ≡ turn_of_loss gs
told_nearer g gs h = ap nearer (told_later g gs h) ∙ nearer_later (turn_of_loss gs)

pub gaves_append : {M : Type 0} (ws bs : List (Went M)) → gaves (ws ++ bs) ≡ gaves ws ++ gaves bs
gaves_append [] bs = refl
gaves_append (a ∷ ws) bs = ap (λ (z : List Gave). a.did.gave ∷ z) (gaves_append ws bs)

-- a link and the direct card, where these will be given: the link stands and the card is told their turn of loss, or both are past it
pub data Sim {S : Type 0} : Linked S → Direct S → List Gave → Type 0 where
  stand : (x : S) (c : List Asked → List Crossing) (t : Option ℕ) (gs : List Gave) → t ≡ turn_of_loss gs → Sim (standing x c) (card_at x t) gs
  fell : (z x : S) (c : List Asked → List Crossing) (gs : List Gave) → Sim (fallen z c) (card_at x (Some 0)) gs

pub record Alike {S : Type 0} (a : Did (Linked S)) (d : Did (Direct S)) : Type 0 where
  pub gave : a.gave ≡ d.gave
  pub buffer : a.buffer ≡ d.buffer

record Steps {S : Type 0} (a : Did (Linked S)) (d : Did (Direct S)) (more : List Gave) : Type 0 where
  alike : Alike a d
  sim : Sim a.after d.after more

module _ {V : Type 0} (app : App V) where
  abbrev S : Type 0
  S = app.State

  -- both went over the same orders and buffers, and gave the same
  pub data Along : Linked S → Direct S → List (Went (Linked S)) → List (Went (Direct S)) → Linked S → Direct S → Type 0 where
    none : {l : Linked S} {d : Direct S} → Along l d [] [] l d
    next : {l : Linked S} {d : Direct S} (p : ℕ) (o : Order) (b : List ℕ) {ws : List (Went (Linked S))} {ds : List (Went (Direct S))} {m : Linked S} {e : Direct S} →
        Alike (linked app l o b) (directly app d o b) → Along (linked app l o b).after (directly app d o b).after ws ds m e →
        Along l d (one (linked app) l p o b ∷ ws) (one (directly app) d p o b ∷ ds) m e

  joined : {l m n : Linked S} {d e f : Direct S} {ws bs : List (Went (Linked S))} {ds es : List (Went (Direct S))} →
      Along l d ws ds m e → Along m e bs es n f → Along l d (ws ++ bs) (ds ++ es) n f
  joined none k = k
  joined (next p o b h j) k = next p o b h (joined j k)

  step_on : (x : S) (t : Option ℕ) (o : Order) (b : List ℕ) (a : Did (Linked S)) (d : Did (Direct S)) (more : List Gave) →
      Goes app x o b a → t ≡ turn_of_loss (a.gave ∷ more) → directly app (card_at x t) o b ≡ d → Steps a d more
  step_on x t o b _ d more (on y c g w ch h p) e q =
      let r : settled (card_at x t) y g w ≡ d = sym (p t (ap over e ∙ told_over g more h)) ∙ q in
      subst (λ (z : Did (Direct S)). Steps (record { after = standing y c; gave = g; buffer = w; characters = ch }) z more) r
      (record { alike = record { gave = refl; buffer = refl }; sim = stand y c (nearer t) more (ap nearer e ∙ told_nearer g more h) })
  step_on x t o b _ d more (off z c ch which p) e q =
      let r : settled (card_at x (Some 0)) x (denied 5) b ≡ d = sym p ∙ (ap (λ (s : Option ℕ). directly app (card_at x s) o b) (sym e) ∙ q) in
      subst (λ (k : Did (Direct S)). Steps (record { after = fallen z c; gave = denied 5; buffer = b; characters = ch }) k more) r
      (record { alike = record { gave = refl; buffer = refl }; sim = fell z x c more })

  step_off : (z : S) (c : List Asked → List Crossing) (x : S) (b : List ℕ) (a : Did (Linked S)) (d : Did (Direct S)) (more : List Gave) →
      Stays app z c x b a d → Steps a d more
  step_off z c x b a d more s = record {
    alike = record { gave = s.gave; buffer = s.buffer };
    sim = subst (λ (l : Linked S). Sim l d.after more) (sym s.link) (subst (λ (k : Direct S). Sim (fallen z c) k more) (sym s.card) (fell z x c more));
  }

  step : (l : Linked S) (d : Direct S) (o : Order) (b : List ℕ) (more : List Gave) → Sim l d ((linked app l o b).gave ∷ more) →
      Steps (linked app l o b) (directly app d o b) more
  step l d o b more (stand x c t gs e) = step_on x t o b (linked app (standing x c) o b) (directly app (card_at x t) o b) more (goes app x c o b) e refl
  step l d o b more (fell z x c gs) = step_off z c x b (linked app (fallen z c) o b) (directly app (card_at x (Some 0)) o b) more (stays app z c x o b)

  record RunsAlike (l : Linked S) (d : Direct S) (p : Ran (Linked S)) (q : Ran (Direct S)) (more : List Gave) : Type 0 where
    along : Along l d p.turns q.turns p.end q.end
    used : p.used ≡ q.used
    free : p.free ≡ q.free
    sim : Sim p.end q.end more

  runs : (ts : List Turn) (l : Linked S) (d : Direct S) (commands space : List ℕ) (more : List Gave) →
      Sim l d (gaves (ran (linked app) l commands space ts).turns ++ more) →
      RunsAlike l d (ran (linked app) l commands space ts) (ran (directly app) d commands space ts) more
  runs [] l d commands space more s = record { along = none; used = refl; free = refl; sim = s }
  runs (t ∷ ts) l d commands space more s =
      let o = ordered commands t in
      let a = linked app l o space in
      let b = directly app d o space in
      let s' = step l d o space (gaves (ran (linked app) a.after commands (drop (taken a.gave) a.buffer) ts).turns ++ more) s in
      let e : drop (taken a.gave) a.buffer ≡ drop (taken b.gave) b.buffer = cc (s'.alike.gave, s'.alike.buffer) in
      let r = subst (λ (y : List ℕ). RunsAlike a.after b.after (ran (linked app) a.after commands (drop (taken a.gave) a.buffer) ts) (ran (directly app) b.after commands y ts) more) e
      (runs ts a.after b.after commands (drop (taken a.gave) a.buffer) more s'.sim) in
      record { along = next t.program o space s'.alike r.along; used = cc (s'.alike.gave, s'.alike.buffer, r.used); free = r.free; sim = r.sim }

  pub record PlaysAlike (l : Linked S) (d : Direct S) (p : Played (Linked S)) (q : Played (Direct S)) (more : List Gave) : Type 0 where
    pub along : Along l d p.turns q.turns p.end q.end
    pub space : p.buffers ≡ q.buffers
    pub sim : Sim p.end q.end more

  run_call : (l : Linked S) (d : Direct S) (commands space : List ℕ) (ts : List Turn) (short : Bool) (more : List Gave) →
      Sim l d (gaves (as_run (linked app) l commands space ts short).turns ++ more) →
      PlaysAlike l d (as_run (linked app) l commands space ts short) (as_run (directly app) d commands space ts short) more
  run_call l d commands space ts true more s = record { along = none; space = refl; sim = s }
  run_call l d commands space ts false more s =
      let r = runs ts l d commands space more s in
      record { along = r.along; space = cc (r.used, r.free); sim = r.sim }

  call : (c : Call) (l : Linked S) (d : Direct S) (more : List Gave) → Sim l d (gaves (called (linked app) l c).turns ++ more) →
      PlaysAlike l d (called (linked app) l c) (called (directly app) d c) more
  call (alone p o b) l d more s = let s' = step l d o b more s in record { along = next p o b s'.alike none; space = refl; sim = s'.sim }
  call (run ts commands space rows) l d more s = run_call l d commands space ts (ltb rows (length ts)) more s

  pub plays : (cs : List Call) (l : Linked S) (d : Direct S) → Sim l d (gaves (calls (linked app) l cs).turns) →
      PlaysAlike l d (calls (linked app) l cs) (calls (directly app) d cs) []
  plays [] l d s = record { along = none; space = refl; sim = s }
  plays (c ∷ cs) l d s =
      let p = called (linked app) l c in
      let r = call c l d (gaves (calls (linked app) p.end cs).turns) (subst (Sim l d) (gaves_append p.turns (calls (linked app) p.end cs).turns) s) in
      let k = plays cs p.end (called (directly app) d c).end r.sim in
      record { along = joined r.along k.along; space = cc (r.space, k.space); sim = k.sim }

  pub same_journal : {l m : Linked S} {d e : Direct S} {ws : List (Went (Linked S))} {ds : List (Went (Direct S))} → Along l d ws ds m e → journal ws ≡ journal ds
  same_journal none = refl
  same_journal (next p o b h j) = cc (h.gave, same_journal j)

  pub same_answers : {l m : Linked S} {d e : Direct S} {ws : List (Went (Linked S))} {ds : List (Went (Direct S))} → Along l d ws ds m e → answers ws ≡ answers ds
  same_answers none = refl
  same_answers (next p o b h j) = cc (h.buffer, same_answers j)
