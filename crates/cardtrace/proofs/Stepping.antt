use Rattle.std.proofs.Common.{◌≡◌, ℕ, List, [], ◌∷◌, ◌++◌, sym, refl, ap, ◌∙◌, append-nil}
use Rattle.script.specs.Readings.{Out, more, line, bad, fed, finished}
use Rattle.script.specs.Steps.{brought, noted}
use Rattle.script.proofs.ScriptLaws as laws
use Rattle.cardtrace.specs.Traces.{Playing, played, printed, start}
use Rattle.cardtrace.specs.Sessions.{Tracing, takes, prints, begins, TracesScripts}

-- What a step brings, put before what follows, is printed before it.
printed_noted : (p : Playing) (o : Out) (os : List Out) → (played p o).text ++ printed (played p o).after os ≡ printed p (noted o os)
printed_noted p more os = refl
printed_noted p (line l) os = refl
printed_noted p (bad n) os = refl

-- All that a session prints is what is printed for all that its reading brings.
prints_brought : (t : Tracing) (text : List ℕ) → prints t text ≡ printed t.playing (brought t.reading text)
prints_brought t [] = sym (append-nil _) ∙ printed_noted t.playing (finished t.reading).out []
prints_brought t (b ∷ bs) =
    ap (λ (x : List ℕ). (takes t b).text ++ x) (prints_brought (takes t b).after bs)
    ∙ printed_noted t.playing (fed t.reading b).out (brought (fed t.reading b).after bs)

pub traces_scripts : TracesScripts
traces_scripts text = prints_brought begins text ∙ ap (printed start) (laws.reads_scripts text)
