use Rattle.std.proofs.Common.{◌≡◌, ℕ, zero, suc, ◌-◌, List, [], ◌∷◌, ◌++◌, replicate, Some, sym, refl, ap, ◌∙◌, subst, arith}
use Rattle.apdu.specs.Applications.{App}
use Rattle.apdu.specs.declared.header.Header.{Header}
use Rattle.t0.specs.declared.settings.Settings.{Settings}
use Rattle.t0.specs.declared.terminal.Kind.{Kind}
use Rattle.t0.specs.declared.terminal.Phase.{Phase}
use Rattle.t0.specs.declared.terminal.Phase.TheVariants.{Procedure, Closing}
use Rattle.t0.specs.declared.terminal.Waiting.{Waiting}
use Rattle.t0.specs.declared.terminal.Want.TheVariants.{Receive}
use Rattle.t0.specs.declared.terminal.Step.TheVariants.{Next}
use Rattle.t0.specs.Procedures.{header, procedure, closes}
use Rattle.t0.specs.Dialogues.{Word, from_terminal, from_card}
use Rattle.t0.specs.Cards.{Card, Held, Stage, at_rest, headed}
use Rattle.t0.specs.Terminals.{heading_for, at_phase, procedure_byte, closed, wants, hears}
use Rattle.t0link.proofs.TalkSteps.{Place, goes, after_step, wanted_turn, Says, none, more, says_then}
use Rattle.wire.specs.declared.traced.Sender.TheVariants as by

-- A terminal with so many bytes due, in a phase.
abbrev pub due_at : Waiting → ℕ → Phase → Waiting
due_at w due p = record { header = w.header; p3 = w.p3; kind = w.kind; ne = w.ne; total = w.total; due = due; phase = p }

abbrev pub card_at : {S : Type 0} → S → Held → Stage → List ℕ → Card S
card_at x held stage pending = record { state = x; held = held; stage = stage; pending = pending }

abbrev pub ends : {S : Type 0} → Waiting → Card S → List ℕ → Place S
ends w c staged = goes (record { terminal = w; card = c; staged = staged })

abbrev pub by_card : ℕ → Word
by_card b = record { sender = by.Card; byte = b }

pub less_one : (n : ℕ) → suc n - 1 ≡ n
less_one n = omega arith

pub from_card_append : (xs ys : List ℕ) → from_card (xs ++ ys) ≡ from_card xs ++ from_card ys
from_card_append [] ys = refl
from_card_append (x ∷ xs) ys = ap (λ (ws : List Word). by_card x ∷ ws) (from_card_append xs ys)

module _ {V : Type 0} (app : App V) (s : Settings) (body : List ℕ) where
  -- The same from an equal place, or in equal words.
  pub says_from : {x : app.State} {p o q : Place app.State} {ws : List Word} → p ≡ o → Says app s body x o ws q → Says app s body x p ws q
  says_from {x} {q = q} {ws = ws} e a = subst (λ (y : Place app.State). Says app s body x y ws q) (sym e) a

  pub says_words : {x : app.State} {p q : Place app.State} {ws vs : List Word} → vs ≡ ws → Says app s body x p ws q → Says app s body x p vs q
  says_words {x} {p} {q} e a = subst (λ (y : List Word). Says app s body x p y q) (sym e) a

  pub says_to : {x : app.State} {p o q : Place app.State} {ws : List Word} → o ≡ q → Says app s body x p ws o → Says app s body x p ws q
  says_to {x} {p} {ws = ws} e a = subst (λ (y : Place app.State). Says app s body x p ws y) e a

  -- The five characters of a header.
  pub says_header : (x : app.State) (held : Held) (staged : List ℕ) (h : Header) (p3 : ℕ) (kind : Kind) (ne total : ℕ)
      → Says app s body x (ends (heading_for h p3 kind ne total) (at_rest x held) staged) (from_terminal (header h p3))
      (ends (at_phase (heading_for h p3 kind ne total) Procedure) (headed app s x held h p3) staged)
  says_header x held staged h p3 kind ne total = more refl refl (more refl refl (more refl refl (more refl refl (more refl refl none))))

  -- A character of the card.
  pub says_one : (x : app.State) (held : Held) (stage : Stage) (staged : List ℕ) (w : Waiting) (b : ℕ) (bs : List ℕ) (p : Place app.State)
      → wants w w.phase ≡ Receive
      → after_step (card_at x held stage bs) staged b (hears w w.phase b) ≡ p
      → Says app s body x (ends w (card_at x held stage (b ∷ bs)) staged) (by_card b ∷ []) p
  says_one x held stage staged w b bs p v e =
      more refl (ap (wanted_turn app s body (record { terminal = w; card = card_at x held stage (b ∷ bs); staged = staged })) v
      ∙ ap (λ (q : Place app.State). Some (record { word = by_card b; next = q })) e) none

  -- Bytes 60, and then a procedure byte on which the terminal goes on.
  after_waits : (x : app.State) (held : Held) (stage : Stage) (staged : List ℕ) (w u : Waiting) (b : ℕ) (bs : List ℕ)
      → procedure_byte (at_phase w Procedure) b ≡ Next u → (n : ℕ)
      → Says app s body x (ends (at_phase w Procedure) (card_at x held stage ((replicate n 0x60 ++ (b ∷ [])) ++ bs)) staged)
      (from_card (replicate n 0x60 ++ (b ∷ []))) (ends u (card_at x held stage bs) staged)
  after_waits x held stage staged w u b bs e zero =
      says_one x held stage staged (at_phase w Procedure) b bs (ends u (card_at x held stage bs) staged) refl (ap (after_step (card_at x held stage bs) staged b) e)
  after_waits x held stage staged w u b bs e (suc n) = more refl refl (after_waits x held stage staged w u b bs e n)

  pub says_procedure : (x : app.State) (held : Held) (stage : Stage) (staged : List ℕ) (w u : Waiting) (b : ℕ) (bs : List ℕ)
      → procedure_byte (at_phase w Procedure) b ≡ Next u
      → Says app s body x (ends (at_phase w Procedure) (card_at x held stage (procedure s b ++ bs)) staged) (from_card (procedure s b))
      (ends u (card_at x held stage bs) staged)
  says_procedure x held stage staged w u b bs e = after_waits x held stage staged w u b bs e s.waits

  -- SW1 and SW2.
  pub says_closes : (x : app.State) (held : Held) (stage : Stage) (staged : List ℕ) (w : Waiting) (sw1 sw2 : ℕ) (p : Place app.State)
      → procedure_byte (at_phase w Procedure) sw1 ≡ Next (at_phase w (Closing sw1))
      → after_step (card_at x held stage []) staged sw2 (closed (at_phase w (Closing sw1)) sw1 sw2) ≡ p
      → Says app s body x (ends (at_phase w Procedure) (card_at x held stage (closes s sw1 sw2)) staged) (from_card (closes s sw1 sw2)) p
  says_closes x held stage staged w sw1 sw2 p e f =
      says_words (from_card_append (procedure s sw1) (sw2 ∷ []))
      (says_then app s body (says_procedure x held stage staged w (at_phase w (Closing sw1)) sw1 (sw2 ∷ []) e)
      (says_one x held stage staged (at_phase w (Closing sw1)) sw2 [] p refl f))
