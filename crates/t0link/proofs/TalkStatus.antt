use Rattle.std.proofs.Common.{◌≡◌, ℕ, ◌<◌, ◌≤◌, Bool, true, false, cond, ◌&&◌, T, eqb, ltb, leb, List, [], ◌++◌, length, sym, refl, ap, ◌∙◌, inl, inr, arith}
use Rattle.std.proofs.lemmas.Bool.{ne_eqb, leb-true, eqb-false, cond-false}
use Rattle.apdu.specs.Applications.{App, opened}
use Rattle.apdu.specs.Lawful.{lawful}
use Rattle.apdu.specs.Statuses.{status_of}
use Rattle.apdu.specs.declared.status.Status.{Status}
use Rattle.apdu.proofs.Same.{status_of_lawful}
use Rattle.t0.specs.declared.settings.Settings.{Settings}
use Rattle.t0.specs.declared.terminal.Kind.{Kind}
use Rattle.t0.specs.declared.terminal.Kind.TheVariants.{Inward, Outward, Repeated, Response}
use Rattle.t0.specs.declared.terminal.Phase.TheVariants.{Procedure, Receiving, Closing}
use Rattle.t0.specs.declared.terminal.Waiting.{Waiting}
use Rattle.t0.specs.declared.terminal.Step.TheVariants.{Done}
use Rattle.t0.specs.Procedures.{moves_out, says_status}
use Rattle.t0.specs.Dialogues.{from_card}
use Rattle.t0.specs.Cards.{Held, heading, at_rest, says}
use Rattle.t0.specs.Terminals.{at_phase, place, moving, is_part, count_moved, done_with, closed}
use Rattle.t0.specs.Conversations.{done}
use Rattle.t0link.proofs.TalkSteps.{stops, after_step, Says, says_then}
use Rattle.t0link.proofs.TalkSegments.{due_at, ends, from_card_append, says_words, says_to, says_closes}
use Rattle.t0link.proofs.TalkProcedures.{Free, Sw1, awaits_sw2}
use Rattle.t0link.proofs.TalkOut.{placed, placed_opened, says_moves_out}

-- SW1 of a status is neither 61 nor 6C.
record EndsWith (b : ℕ) : Type 0 where
  sw1 : Sw1 b
  no_61 : b ≡ 0x61 → ⊥
  no_6C : b ≡ 0x6C → ⊥

by_tests : (b : ℕ) (p q r t u : Bool) → leb 0x62 b ≡ p → leb b 0x6F ≡ q → eqb b 0x6C ≡ r → leb 0x90 b ≡ t → leb b 0x9F ≡ u
    → T (cond p (cond q (cond r false true) (cond t u false)) false) → EndsWith b
by_tests b false q r t u e f g h k l = absurd l
by_tests b true true true t u e f g h k l = absurd l
by_tests b true true false t u e f g h k l =
    let lo : 0x62 ≤ b = leb-true 0x62 b e in
    let hi : b ≤ 0x6F = leb-true b 0x6F f in
    record { sw1 = inl (omega arith, hi); no_61 = λ z. omega arith; no_6C = eqb-false b 0x6C g }
by_tests b true false r false u e f g h k l = absurd l
by_tests b true false r true false e f g h k l = absurd l
by_tests b true false r true true e f g h k l =
    let lo : 0x90 ≤ b = leb-true 0x90 b h in
    record { sw1 = inr (lo, leb-true b 0x9F k); no_61 = λ z. omega arith; no_6C = λ z. omega arith }

lawful_ends : (b : ℕ) → T (lawful b) → EndsWith b
lawful_ends b l = by_tests b (leb 0x62 b) (leb b 0x6F) (eqb b 0x6C) (leb 0x90 b) (leb b 0x9F) refl refl refl refl refl l

-- A status closes a command of which no part alone moved.
closed_done : (w : Waiting) (status : Status) (count : ℕ) → is_part w w.kind ≡ false → count_moved w w.kind ≡ count
    → closed w status.sw1 status.sw2 ≡ Done (record {}) count status
closed_done w status count p n =
    let e = lawful_ends status.sw1 status.ok in
    cond-false (eqb status.sw1 0x61) _ _ (ne_eqb status.sw1 0x61 e.no_61)
    ∙ cond-false (eqb status.sw1 0x6C) _ _ (ne_eqb status.sw1 0x6C e.no_6C)
    ∙ cond-false (is_part w w.kind) _ _ p
    ∙ ap (λ (k : ℕ). done_with k (status_of status.sw1 status.sw2)) n
    ∙ ap (done_with count) (sym (status_of_lawful status.sw1 status.sw2 status.ok))

-- The kinds whose bytes come out of the card.
abbrev pub Out : Kind → Type 0
Out Inward = ⊥
Out Outward = Unit {0}
Out Repeated = Unit {0}
Out Response = Unit {0}

out_moving : (k : Kind) → Out k → (n : ℕ) → moving k n ≡ Receiving n
out_moving Inward o n = absurd o
out_moving Outward o n = refl
out_moving Repeated o n = refl
out_moving Response o n = refl

pub out_part : (k : Kind) → Out k → (w : Waiting) → is_part w k ≡ (ltb 0 w.due && ltb w.due w.total)
out_part Inward o w = absurd o
out_part Outward o w = refl
out_part Repeated o w = refl
out_part Response o w = refl

pub out_count : (k : Kind) → Out k → (w : Waiting) → count_moved w k ≡ place w
out_count Inward o w = absurd o
out_count Outward o w = refl
out_count Repeated o w = refl
out_count Response o w = refl

module _ {V : Type 0} (app : App V) (s : Settings) (body : List ℕ) (x : app.State) (held : Held) (w : Waiting) (free : Free w.header.ins) where
  -- The status ends the command.
  pub says_the_status : (staged : List ℕ) (status : Status) (count : ℕ)
      → is_part (at_phase w (Closing status.sw1)) w.kind ≡ false → count_moved (at_phase w (Closing status.sw1)) w.kind ≡ count
      → Says app s body x (ends (at_phase w Procedure) (says x held (says_status s status)) staged) (from_card (says_status s status))
      (stops (done count status) (at_rest x held) staged)
  says_the_status staged status count p n =
      says_closes app s body x held (heading []) staged w status.sw1 status.sw2 (stops (done count status) (at_rest x held) staged)
      (awaits_sw2 w status.sw1 free (lawful_ends status.sw1 status.ok).sw1)
      (ap (after_step (at_rest x held) staged status.sw2) (closed_done (at_phase w (Closing status.sw1)) status count p n))

module _ {V : Type 0} (app : App V) (s : Settings) (body : List ℕ) (x : app.State) (held : Held) (w : Waiting) (free : Free w.header.ins) where
  -- Bytes of the answer, and the status.
  pub says_answer : Out w.kind → (staged xs : List ℕ) (status : Status) → length xs ≡ w.total → 0 < length xs → length xs ≤ length staged
      → Says app s body x (ends (due_at w w.total Procedure) (says x held (moves_out s w.header.ins xs ++ says_status s status)) staged)
      (from_card (moves_out s w.header.ins xs ++ says_status s status)) (stops (done (length xs) status) (at_rest x held) (opened xs staged))
  says_answer out staged xs status e some fits =
      says_to app s body (ap (stops (done (length xs) status) (at_rest x held)) (placed_opened xs staged fits))
      (says_words app s body (from_card_append (moves_out s w.header.ins xs) (says_status s status))
      (says_then app s body
      (says_moves_out app s body x held (heading []) w free (out_moving w.kind out) (says_status s status) staged xs e some)
      (says_the_status app s body x held (due_at w 0 Procedure) free (placed staged 0 xs) status (length xs)
      (out_part w.kind out (due_at w 0 (Closing status.sw1)))
      (out_count w.kind out (due_at w 0 (Closing status.sw1)) ∙ omega arith))))
