use Rattle.std.proofs.Common.{◌≡◌, ℕ, eqb, ltb, List, [], ◌∷◌, ◌++◌, length, Some, None, Option, Result, sym, refl, ap, ◌∙◌, append-nil}
use Rattle.std.proofs.lemmas.Bool.{cond_both}
use Rattle.script.specs.Lines as lines
use Rattle.script.specs.Readings.{Reading, Stepped, Out, more, line, bad, fed, finished, judged, shown}
use Rattle.script.specs.Scripts.{placed}
use Rattle.script.specs.Steps.{brought, noted}
use Rattle.script.specs.declared.reader.Stage.{Stage}
use Rattle.script.specs.declared.line.Line as code
use Rattle.script.specs.declared.reader.Refusal.{Refusal}
use Rattle.script.proofs.ScriptLaws as laws
use Rattle.cardtrace_t0.specs.Plays.{Playing, Printed, played, printed, start}
use Rattle.cardtrace_t0.specs.Sessions.{Tracing, step_played, plays, by_step, takes, prints, begins, TracesScripts}
use Rattle.cardtrace_t0.proofs.Whole.{whole}

module _ (p : Playing) where
  -- The code's step, with the command that the reader holds, says what the reader told.
  abbrev Tells : Stepped → Type 0
  Tells s = step_played p (shown s.out) s.after.command ≡ played p s.out

  tells_judged : (r : Reading) (o : Option (lines.Line × Stage)) → Tells (judged r o)
  tells_judged r None = refl
  tells_judged r (Some (lines.link s, stage)) = refl
  tells_judged r (Some (lines.damage k, stage)) = refl
  tells_judged r (Some (lines.send u bytes, stage)) = refl
  tells_judged r (Some (lines.reset u, stage)) = refl

  pub tells_fed : (r : Reading) (b : ℕ) → Tells (fed r b)
  tells_fed r b =
      cond_both r.over _ _ Tells (λ _. refl)
      (λ _. cond_both (eqb b 10) _ _ Tells (λ _. tells_judged r (placed r.stage (lines.line_of r.part)))
      (λ _. cond_both (ltb (length r.part) 609) _ _ Tells (λ _. refl) (λ _. refl)))

  pub tells_finished : (r : Reading) → Tells (finished r)
  tells_finished r =
      cond_both r.over _ _ Tells (λ _. refl)
      (λ _. cond_both (eqb (length r.part) 0) _ _ Tells (λ _. refl)
      (λ _. tells_judged r (placed r.stage (lines.line_of r.part))))

  joins : (s : Stepped) (R : Reading) (st : Result (Option code.Line) Refusal) → R ≡ s.after → st ≡ shown s.out → Tells s → step_played p st R.command ≡ played p s.out
  joins s R st e f t =
      ap (λ (r : Reading). step_played p st r.command) e ∙ ap (λ (x : Result (Option code.Line) Refusal). step_played p x s.after.command) f ∙ t

  -- So a session that plays what its reader told does what the reading's step says.
  pub plays_step : (s : Stepped) (R : Reading) (st : Result (Option code.Line) Refusal) → R ≡ s.after → st ≡ shown s.out → Tells s
      → plays (record { reading = R; playing = p }) st ≡ by_step p s
  plays_step s R st e f t =
      ap (λ (q : Printed). record { after = record { reading = R; playing = q.after }; text = q.text }) (joins s R st e f t)
      ∙ ap (λ (r : Reading). record { after = record { reading = r; playing = (played p s.out).after }; text = (played p s.out).text }) e

-- What a step brings, put before what follows, is printed before it.
printed_noted : (p : Playing) (o : Out) (os : List Out) → (played p o).text ++ printed (played p o).after os ≡ printed p (noted o os)
printed_noted p more os = refl
printed_noted p (line l) os = refl
printed_noted p (bad n) os = refl

-- All that a session prints is what is printed for all that its reading brings.
prints_brought : (t : Tracing) (text : List ℕ) → prints t text ≡ printed t.playing (brought t.reading text)
prints_brought t [] = sym (append-nil _) ∙ printed_noted t.playing (finished t.reading).out []
prints_brought t (b ∷ bs) =
    ap (λ (x : List ℕ). (takes t b).text ++ x) (prints_brought (takes t b).after bs)
    ∙ printed_noted t.playing (fed t.reading b).out (brought (fed t.reading b).after bs)

pub traces_scripts : TracesScripts
traces_scripts text = prints_brought begins text ∙ ap (printed start) (laws.reads_scripts text) ∙ whole text
