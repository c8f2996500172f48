use Rattle.std.proofs.Common.{◌≡◌, ℕ, ◌<◌, ◌≤◌, Bool, true, false, eqb, ltb, List, [], ◌∷◌, ◌++◌, length, Some, None, Option, sym, refl, ap, ◌∙◌, arith}
use Rattle.std.proofs.lemmas.List.{append_assoc, append-nil, length-append, length_push}
use Rattle.std.proofs.ByRecursion.{All-push}
use Rattle.std.proofs.lemmas.Bool.Decides.{nat_tests}
use Rattle.std.specs.List.{AllByRecursion}
use Rattle.script.specs.declared.reader.Stage.{Stage}
use Rattle.script.specs.declared.reader.Stage.TheVariants.{Start}
use Rattle.script.specs.Lines.{Line, line_of}
use Rattle.script.specs.Scripts.{lines, onto_first, following, placed, before, read_on}
use Rattle.script.specs.Readings.{Reading, Out, line, bad, judged, then_closed}
use Rattle.script.proofs.Lengths.{line_long}
use Rattle.script.specs.Steps.{noted, brought, told_as, ReadsScripts}

-- no LF among the bytes
abbrev Unbroken : List ℕ → Type 0
Unbroken p = AllByRecursion (λ b. eqb b 10 ≡ false) p

-- a line ends at the LF after it
lines_ended : (p b : List ℕ) → Unbroken p → lines (p ++ 10 ∷ b) ≡ p ∷ lines b
lines_ended [] b h = refl
lines_ended (x ∷ p) b h = rw (h.0, lines_ended p b h.1)

-- a last line may lack its LF
lines_last : (x : ℕ) (p : List ℕ) → Unbroken (x ∷ p) → lines (x ∷ p) ≡ (x ∷ p) ∷ []
lines_last x [] h = rw h.0
lines_last x (y ∷ p) h = rw (h.0, lines_last y p h.1)

-- the first line begins with bytes that have no LF among them
onto_some : (x : ℕ) (p : List ℕ) (ts : List (List ℕ)) → ((q : List ℕ) × (us : List (List ℕ)) × (ts ≡ (p ++ q) ∷ us)) → (q : List ℕ) × (us : List (List ℕ)) × (onto_first x ts ≡ (x ∷ (p ++ q)) ∷ us)
onto_some x p ts h = (h.0, h.1, ap (onto_first x) h.2)

first_of : (x : ℕ) (ts : List (List ℕ)) → (q : List ℕ) × (us : List (List ℕ)) × (onto_first x ts ≡ ((x ∷ []) ++ q) ∷ us)
first_of x [] = ([], [], refl)
first_of x (t ∷ ts) = (t, ts, refl)

lines_begin : (x : ℕ) (p b : List ℕ) → Unbroken (x ∷ p) → (q : List ℕ) × (us : List (List ℕ)) × (lines ((x ∷ p) ++ b) ≡ ((x ∷ p) ++ q) ∷ us)
lines_begin x [] b h = rw h.0 (first_of x (lines b))
lines_begin x (y ∷ p) b h = rw h.0 (onto_some x (y ∷ p) (lines ((y ∷ p) ++ b)) (lines_begin y p b h.1))

lines_start : (p b : List ℕ) → 0 < length p → Unbroken p → (q : List ℕ) × (us : List (List ℕ)) × (lines (p ++ b) ≡ (p ++ q) ∷ us)
lines_start [] b k h = absurd (omega arith)
lines_start (x ∷ p) b k h = lines_begin x p b h

abbrev at : ℕ → Stage → List ℕ → List ℕ → Reading
at n stage part command = record { number = n; stage = stage; part = part; command = command; over = false }

-- a reading that is over brings nothing
over_brings : (b : List ℕ) (n : ℕ) (stage : Stage) (part command : List ℕ) → brought (record { number = n; stage = stage; part = part; command = command; over = true }) b ≡ []
over_brings [] n stage part command = refl
over_brings (x ∷ b) n stage part command = over_brings b n stage part command

-- the last line lacks its LF
last_brings : (n : ℕ) (stage : Stage) (part command : List ℕ) (o : Option (Line × Stage)) → noted (then_closed (judged (at n stage part command) o)).out [] ≡ told_as (before n o (λ s. read_on (following n) s []))
last_brings n stage part command None = refl
last_brings n stage part command (Some p) = refl

-- a line ends, and the rest comes as the induction says
ended_brings : (n : ℕ) (stage : Stage) (part command b : List ℕ) (o : Option (Line × Stage)) → ((m : ℕ) (s : Stage) (c : List ℕ) → brought (at m s [] c) b ≡ told_as (read_on m s (lines b))) → noted (judged (at n stage part command) o).out (brought (judged (at n stage part command) o).after b) ≡ told_as (before n o (λ s. read_on (following n) s (lines b)))
ended_brings n stage part command b None ih = ap (λ (l : List Out). bad n ∷ l) (over_brings b n stage part [])
ended_brings n stage part command b (Some p) ih = ap (λ (l : List Out). line p.0 ∷ l) (ih (following n) p.1 _)

-- a line passes 609 bytes
long_brings : (n : ℕ) (stage : Stage) (p b : List ℕ) (x : ℕ) → Unbroken (p ++ x ∷ []) → 609 ≤ length p → bad n ∷ [] ≡ told_as (read_on n stage (lines (p ++ x ∷ b)))
long_brings n stage p b x h k =
    let m = length_push p x in
    let s = lines_start (p ++ x ∷ []) b (omega arith) h in
    let long : 609 < length ((p ++ x ∷ []) ++ s.0) = omega (arith, length-append (p ++ x ∷ []) s.0) in
    rw (← append_assoc p (x ∷ []) b, s.2, line_long ((p ++ x ∷ []) ++ s.0) long)

fed_brings : (n : ℕ) (stage : Stage) (p command b : List ℕ) (x : ℕ) (t k : Bool) → eqb x 10 ≡ t → ltb (length p) 609 ≡ k → Unbroken p → ((m : ℕ) (s : Stage) (q c : List ℕ) → Unbroken q → brought (at m s q c) b ≡ told_as (read_on m s (lines (q ++ b)))) → brought (at n stage p command) (x ∷ b) ≡ told_as (read_on n stage (lines (p ++ x ∷ b)))
fed_brings n stage p command b x true k e f h ih =
    let z : x ≡ 10 = grind (arith, nat_tests) in
    rw (z, lines_ended p b h) (ended_brings n stage p command b (placed stage (line_of p)) (λ m s c. ih m s [] c tt))
fed_brings n stage p command b x false true e f h ih =
    rw (e, f) (ih n stage (p ++ x ∷ []) command (All-push (λ y. eqb y 10 ≡ false) p x h e) ∙ ap (λ (l : List ℕ). told_as (read_on n stage (lines l))) (append_assoc p (x ∷ []) b))
fed_brings n stage p command b x false false e f h ih =
    rw (e, f) (ap (λ (l : List Out). bad n ∷ l) (over_brings b n stage p []) ∙ long_brings n stage p b x (All-push (λ y. eqb y 10 ≡ false) p x h e) (grind (arith, nat_tests)))

end_brings : (n : ℕ) (stage : Stage) (p command : List ℕ) → Unbroken p → brought (at n stage p command) [] ≡ told_as (read_on n stage (lines (p ++ [])))
end_brings n stage [] command h = refl
end_brings n stage (x ∷ p) command h =
    let e : eqb (length (x ∷ p)) 0 ≡ false = grind (arith, nat_tests) in
    let f = last_brings n stage (x ∷ p) command (placed stage (line_of (x ∷ p))) ∙ ap (λ (ts : List (List ℕ)). told_as (read_on n stage ts)) (sym (ap lines (append-nil (x ∷ p)) ∙ lines_last x p h)) in
    rw e f

all_brings : (b : List ℕ) (n : ℕ) (stage : Stage) (p command : List ℕ) → Unbroken p → brought (at n stage p command) b ≡ told_as (read_on n stage (lines (p ++ b)))
all_brings [] n stage p command h = end_brings n stage p command h
all_brings (x ∷ b) n stage p command h =
    fed_brings n stage p command b x (eqb x 10) (ltb (length p) 609) refl refl h (all_brings b)

pub reads_scripts : ReadsScripts
reads_scripts text = all_brings text 1 Start [] [] tt
