use Rattle.std.proofs.Common.{◌≡◌, ℕ, zero, suc, Bool, true, false, not, ◌||◌, ltb, List, [], ◌++◌, replicate, sym, refl, ap, ◌∙◌, subst, arith, lt-ltb}
use Rattle.apdu.specs.Applications.{App}
use Rattle.t0.specs.declared.settings.Settings.{Settings}
use Rattle.t0.specs.declared.card.Card.{Card}
use Rattle.t0.specs.declared.card.Kept.{Kept}
use Rattle.t0.specs.declared.card.Kept.TheVariants as kept
use Rattle.t0.specs.declared.card.Receiving.{Receiving}
use Rattle.t0.specs.declared.card.Receiving.TheVariants as receiving
use Rattle.t0.specs.declared.card.Then.{Then}
use Rattle.t0.specs.declared.card.Then.TheVariants.{Nothing, Ask, Announce, Give, Close, End}
use Rattle.t0.specs.CardValues.{meant, held_of, stage_of, pending_of, characters_of, has_some, is_some}
use Rattle.t0.specs.Cards as cards
use Rattle.t0.specs.Cards.{Held, Stage, nothing, by61, by6C, heading, taking, at_rest}
use Rattle.t0link.specs.Laws.{Between}
use Rattle.t0link.specs.Resting.{has_begun, is_by6C, resting}

or_none : (a b : Bool) → not (a || b) ≡ true → (a ≡ false) × (not b ≡ true)
or_none true b e = absurd (let z : ◌≡◌ {A = ℕ} 0 1 = cc in omega arith)
or_none false b e = (refl, e)

not_true : (a : Bool) → not a ≡ true → a ≡ false
not_true true e = sym e
not_true false e = refl

no_stage : (body : List ℕ) (r : Receiving) → has_begun r ≡ false → stage_of body r ≡ heading []
no_stage body receiving.Nothing e = refl
no_stage body (receiving.Cla cla) e = absurd (let z : ◌≡◌ {A = ℕ} 0 1 = cc in omega arith)
no_stage body (receiving.ClaIns cla ins) e = absurd (let z : ◌≡◌ {A = ℕ} 0 1 = cc in omega arith)
no_stage body (receiving.ClaInsP1 cla ins p1) e = absurd (let z : ◌≡◌ {A = ℕ} 0 1 = cc in omega arith)
no_stage body (receiving.Header h) e = absurd (let z : ◌≡◌ {A = ℕ} 0 1 = cc in omega arith)
no_stage body (receiving.Data t) e = absurd (let z : ◌≡◌ {A = ℕ} 0 1 = cc in omega arith)

no_characters : (s : Settings) (answer : List ℕ) (t : Then) → is_some t ≡ false → characters_of s answer t ≡ []
no_characters s answer Nothing e = refl
no_characters s answer (Ask ins) e = absurd (let z : ◌≡◌ {A = ℕ} 0 1 = cc in omega arith)
no_characters s answer (Announce g) e = absurd (let z : ◌≡◌ {A = ℕ} 0 1 = cc in omega arith)
no_characters s answer (Give g) e = absurd (let z : ◌≡◌ {A = ℕ} 0 1 = cc in omega arith)
no_characters s answer (Close a b) e = absurd (let z : ◌≡◌ {A = ℕ} 0 1 = cc in omega arith)
no_characters s answer (End b) e = absurd (let z : ◌≡◌ {A = ℕ} 0 1 = cc in omega arith)

no_pending : (s : Settings) (answer : List ℕ) (n : ℕ) (t : Then) → (ltb 0 n || is_some t) ≡ false → replicate n 0x60 ++ characters_of s answer t ≡ []
no_pending s answer zero t e = no_characters s answer t e
no_pending s answer (suc n) t e = absurd (let w : ◌≡◌ {A = Bool} true false = sym (ap (λ (x : Bool). x || is_some t) (above n)) ∙ e in let z : ◌≡◌ {A = ℕ} 0 1 = cc in omega arith)
  where
    above : (m : ℕ) → ltb 0 (suc m) ≡ true
    above m = lt-ltb 0 (suc m) (omega arith)

none_by6C : (answer : List ℕ) (k : Kept) → is_by6C k ≡ false → Between (held_of answer k)
none_by6C answer kept.Nothing e = tt
none_by6C answer (kept.By61 a) e = tt
none_by6C answer (kept.By6C h a) e = absurd (let z : ◌≡◌ {A = ℕ} 0 1 = cc in omega arith)

-- A card that rests means one at rest, which holds nothing by 6C.
pub rests_so : {V : Type 0} (app : App V) (c : Card V) → resting c ≡ true
    → (meant app c ≡ at_rest (app.state c.app) (held_of c.answer c.kept)) × Between (held_of c.answer c.kept)
rests_so {V} app c e =
    let first = or_none (has_begun c.receiving) (has_some c.out || is_by6C c.kept) e in
    let second = or_none (has_some c.out) (is_by6C c.kept) first.1 in (
      ap (λ (st : Stage). with_stage st) (no_stage c.body c.receiving first.0)
          ∙ ap (λ (p : List ℕ). with_pending p) (no_pending c.settings c.answer c.out.waits c.out.then second.0),
      none_by6C c.answer c.kept (not_true (is_by6C c.kept) second.1),
    )
  where
    with_stage : Stage → cards.Card app.State
    with_stage st = record { state = app.state c.app; held = held_of c.answer c.kept; stage = st; pending = pending_of c.settings c.answer c.out }

    with_pending : List ℕ → cards.Card app.State
    with_pending p = record { state = app.state c.app; held = held_of c.answer c.kept; stage = heading []; pending = p }

-- And a card that means one at rest, which holds nothing by 6C, rests.
begun_none : (body : List ℕ) (r : Receiving) → stage_of body r ≡ heading [] → has_begun r ≡ false
begun_none body receiving.Nothing e = refl
begun_none body (receiving.Cla cla) e = cc
begun_none body (receiving.ClaIns cla ins) e = cc
begun_none body (receiving.ClaInsP1 cla ins p1) e = cc
begun_none body (receiving.Header h) e = cc
begun_none body (receiving.Data t) e = cc

some_none : (s : Settings) (answer : List ℕ) (n : ℕ) (t : Then) → replicate n 0x60 ++ characters_of s answer t ≡ [] → (ltb 0 n || is_some t) ≡ false
some_none s answer (suc n) t e = cc
some_none s answer zero Nothing e = refl
some_none s answer zero (Ask ins) e = cc
some_none s answer zero (Announce g) e = cc
some_none s answer zero (Give g) e = cc
some_none s answer zero (Close a b) e = cc
some_none s answer zero (End b) e = cc

by6C_none : (answer : List ℕ) (k : Kept) → Between (held_of answer k) → is_by6C k ≡ false
by6C_none answer kept.Nothing b = refl
by6C_none answer (kept.By61 a) b = refl
by6C_none answer (kept.By6C h a) b = absurd b

pub so_rests : {V : Type 0} (app : App V) (c : Card V) (x : app.State) (h : Held) → meant app c ≡ at_rest x h → Between h → resting c ≡ true
so_rests app c x h e b =
    ap (λ (t : Bool). not (t || (has_some c.out || is_by6C c.kept))) (begun_none c.body c.receiving (ap (λ (k : cards.Card app.State). k.stage) e))
    ∙ ap (λ (t : Bool). not (t || is_by6C c.kept)) (some_none c.settings c.answer c.out.waits c.out.then (ap (λ (k : cards.Card app.State). k.pending) e))
    ∙ ap not (by6C_none c.answer c.kept (subst Between (sym (ap (λ (k : cards.Card app.State). k.held) e)) b))
