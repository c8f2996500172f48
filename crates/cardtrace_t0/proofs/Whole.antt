use Rattle.std.proofs.Common.{◌≡◌, ℕ, ◌+◌, ◌<◌, ◌≤◌, Bool, true, false, cond, ◌&&◌, ltb, leb, List, [], ◌∷◌, ◌++◌, map, length, Some, None, Option, sym, refl, ap, ◌∙◌, subst, append_assoc, append-nil, arith, length-append, ltb-true, lt-ltb, le-leb, leb-true}
use Rattle.std.specs.Option.{option_map}
use Rattle.apps.specs.Files.{Shelf}
use Rattle.apps.specs.FileValues.{files_app}
use Rattle.link.specs.Meaning.{Linked, linked}
use Rattle.link.specs.Turns.{Order, send, restart}
use Rattle.script.specs.Lines as lines
use Rattle.script.specs.Lines.{line_of, told}
use Rattle.script.specs.Orders.{follows}
use Rattle.script.specs.Readings.{line}
use Rattle.script.specs.Scripts.{Script, script, placed, before, read_on, following}
use Rattle.script.specs.Scripts as scripts
use Rattle.script.specs.Steps.{told_as, bad_part}
use Rattle.script.specs.declared.line.Settings.{Settings}
use Rattle.script.specs.declared.reader.Stage.{Stage}
use Rattle.script.specs.declared.reader.Stage.TheVariants.{Start, Marks, Turns}
use Rattle.wire.specs.MarkedLines.{rising}
use Rattle.cardtrace_t0.specs.Cards.{link_said}
use Rattle.cardtrace_t0.specs.Traces.{free, turn_lines, marks_in, turns_printed, lines_printed, bad_printed, trace}
use Rattle.cardtrace_t0.specs.Plays.{Stand, opening, over, Playing, start, opened, turned, printed}

-- Lines that may stand one after the other from a stage on.
data Ordered : Stage → List lines.Line → Type 0 where
  none : {s : Stage} → Ordered s []
  one : {s t : Stage} {l : lines.Line} {ls : List lines.Line} → follows s (told l) ≡ Some t → Ordered t ls → Ordered s (l ∷ ls)

ordered_before : (n : ℕ) (s : Stage) (o : Option lines.Line) (rest : Stage → Script) → ((t : Stage) → Ordered t (rest t).read) → Ordered s (before n (placed s o) rest).read
ordered_before n s None rest h = none
ordered_before n s (Some l) rest h = by (follows s (told l)) refl
  where
    by : (f : Option Stage) → follows s (told l) ≡ f → Ordered s (before n (option_map (λ t. (l, t)) f) rest).read
    by None e = none
    by (Some t) e = one e (h t)

ordered : (n : ℕ) (s : Stage) (ts : List (List ℕ)) → Ordered s (read_on n s ts).read
ordered n s [] = none
ordered n s (t ∷ ts) = ordered_before n s (line_of t) (λ u. read_on (following n) u ts) (λ u. ordered (following n) u ts)

-- Among turns no line marks a position.
no_marks : {s : Stage} (ls : List lines.Line) → s ≡ Turns → Ordered s ls → marks_in ls ≡ []
no_marks [] e o = refl
no_marks (lines.link s ∷ ls) e (one {t = next} f o) =
    absurd (let g : follows Turns (told (lines.link s)) ≡ Some next = subst (λ (q : Stage). follows q (told (lines.link s)) ≡ Some next) e f in let z : ◌≡◌ {A = ℕ} 0 1 = cc in omega arith)
no_marks (lines.damage k ∷ ls) e (one {t = next} f o) =
    absurd (let g : follows Turns (told (lines.damage k)) ≡ Some next = subst (λ (q : Stage). follows q (told (lines.damage k)) ≡ Some next) e f in let z : ◌≡◌ {A = ℕ} 0 1 = cc in omega arith)
no_marks (lines.send u bytes ∷ ls) e (one {t = next} f o) =
    let g : Turns ≡ next = (let h : Some Turns ≡ Some next = subst (λ (q : Stage). follows q (told (lines.send u bytes)) ≡ Some next) e f in cc) in
    no_marks ls (sym g) o
no_marks (lines.reset u ∷ ls) e (one {t = next} f o) =
    let g : Turns ≡ next = (let h : Some Turns ≡ Some next = subst (λ (q : Stage). follows q (told (lines.reset u)) ≡ Some next) e f in cc) in
    no_marks ls (sym g) o

both : (a b : Bool) → (a && b) ≡ true → (a ≡ true) × (b ≡ true)
both true b e = (refl, e)
both false b e = absurd (let z : ◌≡◌ {A = ℕ} 0 1 = cc in omega arith)

and_true : (a b : Bool) → a ≡ true → b ≡ true → (a && b) ≡ true
and_true a b e f = ap (λ (x : Bool). x && b) e ∙ f

-- A position above the last keeps the rise, and so does a front of rising positions.
rises_on : (ms : List ℕ) (k j : ℕ) → rising (ms ++ (k ∷ [])) ≡ true → k < j → rising ((ms ++ (k ∷ [])) ++ (j ∷ [])) ≡ true
rises_on [] k j e h = and_true (ltb k j) true (lt-ltb k j h) refl
rises_on (m ∷ []) k j e h = and_true (ltb m k) (ltb k j && true) (both (ltb m k) true e).0 (and_true (ltb k j) true (lt-ltb k j h) refl)
rises_on (m ∷ (n ∷ ms)) k j e h =
    let p = both (ltb m n) (rising (n ∷ (ms ++ (k ∷ [])))) e in
    and_true (ltb m n) (rising ((n ∷ (ms ++ (k ∷ []))) ++ (j ∷ []))) p.0 (rises_on (n ∷ ms) k j p.1 h)

rises_front : (ms : List ℕ) (k : ℕ) → rising (ms ++ (k ∷ [])) ≡ true → rising ms ≡ true
rises_front [] k e = refl
rises_front (m ∷ []) k e = refl
rises_front (m ∷ (n ∷ ms)) k e =
    let p = both (ltb m n) (rising (n ∷ (ms ++ (k ∷ [])))) e in
    and_true (ltb m n) (rising (n ∷ ms)) p.0 (rises_front (n ∷ ms) k p.1)

-- The positions so far, all below f.
abbrev Rises : ℕ → List ℕ → Type 0
Rises f ms = (k : ℕ) → f ≤ k → rising (ms ++ (k ∷ [])) ≡ true

bad_last : (p : Playing) (b : Option ℕ) → printed p (bad_part b) ≡ bad_printed b
bad_last p None = refl
bad_last p (Some n) = append-nil _

abbrev at : Stand → ℕ → Playing
at s n = record { stand = s; turn = n }

-- Among turns: each is played over the link.
over_turns : (l : Linked Shelf) (n : ℕ) (ls : List lines.Line) (b : Option ℕ)
    → printed (at (over l) n) (map line ls ++ bad_part b) ≡ turns_printed l n ls ++ bad_printed b
over_turns l n [] b = bad_last (at (over l) n) b
over_turns l n (lines.link s ∷ ls) b = over_turns l n ls b
over_turns l n (lines.damage k ∷ ls) b = over_turns l n ls b
over_turns l n (lines.send u bytes ∷ ls) b =
    let d = linked files_app l (send bytes) free in
    ap (λ (t : List ℕ). turn_lines n u d ++ t) (over_turns d.after (following n) ls b)
    ∙ sym (append_assoc (turn_lines n u d) (turns_printed d.after (following n) ls) (bad_printed b))
over_turns l n (lines.reset u ∷ ls) b =
    let d = linked files_app l restart free in
    ap (λ (t : List ℕ). turn_lines n u d ++ t) (over_turns d.after (following n) ls b)
    ∙ sym (append_assoc (turn_lines n u d) (turns_printed d.after (following n) ls) (bad_printed b))

-- The first turn makes the link.
made_link : (t : Settings) (ms : List ℕ) (f : ℕ) → length ms ≤ 64 → Rises f ms → opened (opening t ms) ≡ over (link_said t ms)
made_link t ms f h r =
    ap (λ (x : Bool). cond x (over (link_said t ms)) (opening t ms))
    (and_true (leb (length ms) 64) (rising ms) (le-leb (length ms) 64 h) (rises_front ms f (r f (omega arith))))

marks_then : (t : Settings) (ms : List ℕ) {s : Stage} (ls : List lines.Line) → s ≡ Turns → Ordered s ls → link_said t ms ≡ link_said t (ms ++ marks_in ls)
marks_then t ms ls e o = ap (link_said t) (sym (append-nil ms) ∙ ap (λ (x : List ℕ). ms ++ x) (sym (no_marks ls e o)))

first_turn : (t : Settings) (ms : List ℕ) (f : ℕ) (o : Order) (u : ℕ) (ls : List lines.Line) (b : Option ℕ) {s : Stage} → s ≡ Turns → Ordered s ls → length ms ≤ 64 → Rises f ms
    → let l = link_said t (ms ++ marks_in ls) in let d = linked files_app l o free in let r = turned (opened (opening t ms)) 1 u o in
    r.text ++ printed r.after (map line ls ++ bad_part b) ≡ (turn_lines 1 u d ++ turns_printed d.after (following 1) ls) ++ bad_printed b
first_turn t ms f o u ls b e od h r =
    ap (λ (s : Stand). (turned s 1 u o).text ++ printed (turned s 1 u o).after (map line ls ++ bad_part b)) (made_link t ms f h r ∙ ap over (marks_then t ms ls e od))
    ∙ ap (λ (x : List ℕ). turn_lines 1 u (linked files_app (link_said t (ms ++ marks_in ls)) o free) ++ x) (over_turns (linked files_app (link_said t (ms ++ marks_in ls)) o free).after (following 1) ls b)
    ∙ sym (append_assoc (turn_lines 1 u (linked files_app (link_said t (ms ++ marks_in ls)) o free)) (turns_printed (linked files_app (link_said t (ms ++ marks_in ls)) o free).after (following 1) ls) (bad_printed b))

-- A damage line among damage lines.
pub record Marked (f c k : ℕ) (t : Stage) : Type 0 where
  pub low : f ≤ k
  pub few : c < 64
  pub stage : t ≡ Marks (k + 1) (c + 1)

marked_so : (f c k : ℕ) (t : Stage) → follows (Marks f c) (told (lines.damage k)) ≡ Some t → Marked f c k t
marked_so f c k t e = by (leb f k && ltb c 64) refl
  where
    by : (x : Bool) → (leb f k && ltb c 64) ≡ x → Marked f c k t
    by true h =
        let q : Some (Marks (k + 1) (c + 1)) ≡ Some t = sym (ap (λ (y : Bool). cond y (Some (Marks (k + 1) (c + 1))) None) h) ∙ e in
        let p = both (leb f k) (ltb c 64) h in
        record { low = leb-true f k p.0; few = ltb-true c 64 p.1; stage = cc }
    by false h =
        let q : None ≡ Some t = sym (ap (λ (y : Bool). cond y (Some (Marks (k + 1) (c + 1))) None) h) ∙ e in
        absurd (let z : ◌≡◌ {A = ℕ} 0 1 = cc in omega arith)

-- Among damage lines: the positions are gathered until the first turn.
opening_lines : (t : Settings) (ms : List ℕ) (f c : ℕ) {s : Stage} (ls : List lines.Line) (b : Option ℕ) → s ≡ Marks f c → Ordered s ls → length ms ≡ c → c ≤ 64 → Rises f ms
    → printed (at (opening t ms) 1) (map line ls ++ bad_part b) ≡ turns_printed (link_said t (ms ++ marks_in ls)) 1 ls ++ bad_printed b
opening_lines t ms f c [] b e o n h r = bad_last (at (opening t ms) 1) b
opening_lines t ms f c (lines.link s ∷ ls) b e (one {t = next} g o) n h r =
    absurd (let q : follows (Marks f c) (told (lines.link s)) ≡ Some next = subst (λ (q : Stage). follows q (told (lines.link s)) ≡ Some next) e g in let z : ◌≡◌ {A = ℕ} 0 1 = cc in omega arith)
opening_lines t ms f c (lines.damage k ∷ ls) b e (one {t = next} g o) n h r =
    let m = marked_so f c k next (subst (λ (q : Stage). follows q (told (lines.damage k)) ≡ Some next) e g) in
    let long : length (ms ++ (k ∷ [])) ≡ c + 1 = length-append ms (k ∷ []) ∙ omega (arith, n) in
    ap (λ (x : Bool). printed (at (opening t (cond x (ms ++ (k ∷ [])) ms)) 1) (map line ls ++ bad_part b)) (lt-ltb (length ms) 64 (omega (arith, n, m.few)))
    ∙ opening_lines t (ms ++ (k ∷ [])) (k + 1) (c + 1) ls b m.stage o long (omega (arith, m.few)) (λ j low. rises_on ms k j (r k m.low) (omega arith))
    ∙ ap (λ (x : List ℕ). turns_printed (link_said t x) 1 ls ++ bad_printed b) (append_assoc ms (k ∷ []) (marks_in ls))
opening_lines t ms f c (lines.send u bytes ∷ ls) b e (one {t = next} g o) n h r =
    let q : Some Turns ≡ Some next = subst (λ (q : Stage). follows q (told (lines.send u bytes)) ≡ Some next) e g in
    let turns : Turns ≡ next = cc in
    first_turn t ms f (send bytes) u ls b (sym turns) o (omega (arith, n, h)) r
opening_lines t ms f c (lines.reset u ∷ ls) b e (one {t = next} g o) n h r =
    let q : Some Turns ≡ Some next = subst (λ (q : Stage). follows q (told (lines.reset u)) ≡ Some next) e g in
    let turns : Turns ≡ next = cc in
    first_turn t ms f restart u ls b (sym turns) o (omega (arith, n, h)) r

from_start : {s : Stage} (ls : List lines.Line) (b : Option ℕ) → s ≡ Start → Ordered s ls → printed start (map line ls ++ bad_part b) ≡ lines_printed ls ++ bad_printed b
from_start [] b e o = bad_last start b
from_start (lines.link t ∷ ls) b e (one {t = next} g o) =
    let q : Some (Marks 0 0) ≡ Some next = subst (λ (q : Stage). follows q (told (lines.link t)) ≡ Some next) e g in
    let marks : Marks 0 0 ≡ next = cc in
    opening_lines t [] 0 0 ls b (sym marks) o refl (omega arith) (λ k h. refl)
from_start (lines.damage k ∷ ls) b e (one {t = next} g o) =
    absurd (let q : follows Start (told (lines.damage k)) ≡ Some next = subst (λ (q : Stage). follows q (told (lines.damage k)) ≡ Some next) e g in let z : ◌≡◌ {A = ℕ} 0 1 = cc in omega arith)
from_start (lines.send u bytes ∷ ls) b e (one {t = next} g o) =
    absurd (let q : follows Start (told (lines.send u bytes)) ≡ Some next = subst (λ (q : Stage). follows q (told (lines.send u bytes)) ≡ Some next) e g in let z : ◌≡◌ {A = ℕ} 0 1 = cc in omega arith)
from_start (lines.reset u ∷ ls) b e (one {t = next} g o) =
    absurd (let q : follows Start (told (lines.reset u)) ≡ Some next = subst (λ (q : Stage). follows q (told (lines.reset u)) ≡ Some next) e g in let z : ◌≡◌ {A = ℕ} 0 1 = cc in omega arith)

-- A script played line by line prints its trace.
pub whole : (text : List ℕ) → printed start (told_as (script text)) ≡ trace (script text)
whole text = from_start (script text).read (script text).bad refl (ordered 1 Start (scripts.lines text))
