use Rattle.std.proofs.Common.{◌≡◌, ℕ, ◌<◌, ◌≤◌, min, Bool, true, false, cond, eqb, leb, ◌⊎◌, List, [], ◌++◌, length, take, sym, refl, ap, ◌∙◌, inl, inr, arith}
use Rattle.std.proofs.lemmas.Bool.{cases_lt, eqb-true, eqb-false, le-leb, cond-true}
use Rattle.std.proofs.lemmas.List.{take_all, length-take-le, nil_from_length}
use Rattle.apdu.specs.Applications.{App, Reply, Outcome, does}
use Rattle.apdu.specs.Commands.{Command, inward}
use Rattle.t0.specs.declared.settings.Settings.{Settings}
use Rattle.t0.specs.declared.settings.Style.{Style}
use Rattle.t0.specs.declared.settings.Style.TheVariants.{Whole, Bytewise}
use Rattle.t0.specs.declared.terminal.Kind.TheVariants.{Inward, Response}
use Rattle.t0.specs.declared.terminal.Phase.TheVariants.{Procedure}
use Rattle.t0.specs.declared.terminal.Waiting.{Waiting}
use Rattle.t0.specs.declared.terminal.Token.{Token}
use Rattle.t0.specs.Procedures.{header, as_p3, get_response, mover, procedure, moves_out, closes, says_status}
use Rattle.t0.specs.Dialogues.{from_terminal, from_card, moved_in, header_of}
use Rattle.t0.specs.Cards.{Card, Held, nothing, by61, heading, taking, at_rest, says, inward_ran, fetched, runs_inward, headed}
use Rattle.t0.specs.Terminals.{heading_for, at_phase, fetches}
use Rattle.t0.specs.Conversations.{held}
use Rattle.t0link.specs.Laws.{Between}
use Rattle.t0link.proofs.TalkSteps.{Place, goes, stops, Says, none, says_then}
use Rattle.t0link.proofs.TalkSegments.{due_at, card_at, ends, says_from, says_words, says_to, says_header, says_closes}
use Rattle.t0link.proofs.TalkProcedures.{Free, free_ins, free_c0, awaits_sw2}
use Rattle.t0link.proofs.TalkIn.{says_moved_in}
use Rattle.t0link.proofs.TalkStatus.{says_the_status, says_answer}
use Rattle.t0link.proofs.TalkPassing.{Passing}
use Rattle.t0link.proofs.TalkBegun.{wanted_p3, is_done, done_with_bytes, none_wanted, headed_begun}

nothing_moved : (style : Style) (s : Settings) (ins : ℕ) → moved_in style s ins [] ≡ []
nothing_moved Whole s ins = refl
nothing_moved Bytewise s ins = refl

-- The smaller of a list's length and a number takes as much of it as the number.
smaller : (xs : List ℕ) (n : ℕ) → take (min (length xs) n) xs ≡ take n xs
smaller xs n = by_order (cases_lt n (length xs))
  where
    by_order : (n < length xs) ⊎ (length xs ≤ n) → take (min (length xs) n) xs ≡ take n xs
    by_order (inl h) = let e : min (length xs) n ≡ n = omega arith in ap (λ (k : ℕ). take k xs) e
    by_order (inr h) = take_all (min (length xs) n) xs (omega arith) ∙ sym (take_all n xs h)

-- The terminal with an inward command.
abbrev pub bringing : Command → Waiting
bringing c = heading_for (header_of c) (length c.body) Inward c.ne (length c.body)

-- What 61 leaves with the terminal, and how many bytes it then fetches.
abbrev pub token : Command → Reply → Token
token c r = record { cla = c.cla; ne = c.ne; held = length r.answer }

abbrev pub count : Command → Reply → ℕ
count c r = min (length r.answer) c.ne

module _ {V : Type 0} (app : App V) (s : Settings) (c : Command) (x : app.State) (pass : Passing c) where
  -- The card once it has the header: it runs, or asks for the data.
  abbrev begins : Bool → Card app.State
  begins empty = cond empty (runs_inward app s x (header_of c) [])
      (card_at x nothing (taking (header_of c) (length c.body) []) (procedure s (mover s.style c.ins)))

  free : Free c.ins
  free = free_ins c.cla c.ins pass.free

  brings : (staged : List ℕ) (empty : Bool) → eqb (length c.body) 0 ≡ empty
      → Says app s c.body x (ends (at_phase (bringing c) Procedure) (begins empty) staged) (moved_in s.style s c.ins c.body)
      (ends (due_at (bringing c) 0 Procedure) (inward_ran s (does app x c)) staged)
  brings staged true e =
      let n : length c.body ≡ 0 = eqb-true (length c.body) 0 e in
      let z : c.body ≡ [] = nil_from_length c.body n in
      says_words app s c.body (ap (moved_in s.style s c.ins) z ∙ nothing_moved s.style s c.ins)
      (says_from app s c.body (λ i. ends (due_at (bringing c) (n i) Procedure) (runs_inward app s x (header_of c) (sym z i)) staged) none)
  brings staged false e =
      let n = eqb-false (length c.body) 0 e in
      says_moved_in app s c.body x staged (bringing c) refl free (λ n. refl) (omega arith)

  -- The header and the data, after which the command has run.
  pub inward_opening : inward c.ins ≡ true → (kept : Held) → Between kept → (staged : List ℕ)
      → Says app s c.body x (ends (bringing c) (at_rest x kept) staged) (from_terminal (header (header_of c) (length c.body)) ++ moved_in s.style s c.ins c.body)
      (ends (due_at (bringing c) 0 Procedure) (inward_ran s (does app x c)) staged)
  inward_opening inw kept b staged =
      says_then app s c.body
      (says_to app s c.body (ap (λ (k : Card app.State). ends (at_phase (bringing c) Procedure) k staged)
      (headed_begun app s x kept b (header_of c) (length c.body) pass.free ∙ cond-true (inward c.ins) _ _ inw))
      (says_header app s c.body x kept staged (header_of c) (length c.body) Inward c.ne (length c.body)))
      (brings staged (eqb (length c.body) 0) refl)

  module _ (o : Outcome app.State) (staged : List ℕ) where
    abbrev brought : Card app.State → Place app.State
    brought k = ends (due_at (bringing c) 0 Procedure) k staged

    -- Without answer bytes: the status.
    pub inward_without : length o.reply.answer ≡ 0
        → Says app s c.body o.state (brought (says o.state nothing (says_status s o.reply.status))) (from_card (says_status s o.reply.status))
        (is_done c o nothing staged)
    inward_without e =
        says_to app s c.body (done_with_bytes c o nothing staged [] (none_wanted c.ne o.reply.answer e))
        (says_the_status app s c.body o.state nothing (due_at (bringing c) 0 Procedure) free staged o.reply.status 0 refl refl)

    -- Else 61 and the count, and the answer is held.
    pub inward_held : 0 < length o.reply.answer → length o.reply.answer ≤ 256
        → Says app s c.body o.state (brought (says o.state (by61 o.reply) (closes s 0x61 (as_p3 (length o.reply.answer)))))
        (from_card (closes s 0x61 (as_p3 (length o.reply.answer)))) (stops (held (token c o.reply)) (at_rest o.state (by61 o.reply)) staged)
    inward_held some small =
        says_closes app s c.body o.state (by61 o.reply) (heading []) staged (due_at (bringing c) 0 Procedure) 0x61 (as_p3 (length o.reply.answer))
        (stops (held (token c o.reply)) (at_rest o.state (by61 o.reply)) staged)
        (awaits_sw2 (due_at (bringing c) 0 Procedure) 0x61 free (inl (omega arith, omega arith)))
        (ap (λ (n : ℕ). stops (held (record { cla = c.cla; ne = c.ne; held = n })) (at_rest o.state (by61 o.reply)) staged) (wanted_p3 (length o.reply.answer) some small))

    -- GET RESPONSE for the smaller of the count and Ne.
    abbrev getting : Waiting
    getting = heading_for (get_response c.cla) (as_p3 (count c o.reply)) Response c.ne (count c o.reply)

    gets : 0 < (count c o.reply) → length o.reply.answer ≤ 256 → headed app s o.state (by61 o.reply) (get_response c.cla) (as_p3 (count c o.reply))
        ≡ says o.state nothing (moves_out s 0xC0 (take (count c o.reply) o.reply.answer) ++ says_status s o.reply.status)
    gets some small =
        ap (fetched s o.state (by61 o.reply)) (wanted_p3 (count c o.reply) some (omega arith))
        ∙ cond-true (leb (count c o.reply) (length o.reply.answer)) _ _ (le-leb (count c o.reply) (length o.reply.answer) (omega arith))

    pub inward_fetched : 0 < length o.reply.answer → length o.reply.answer ≤ 256 → 0 < c.ne → length o.reply.answer ≤ length staged
        → Says app s c.body o.state (goes (record { terminal = fetches (token c o.reply); card = at_rest o.state (by61 o.reply); staged = staged }))
        (from_terminal (header (get_response c.cla) (as_p3 (count c o.reply))) ++ from_card (moves_out s 0xC0 (take (count c o.reply) o.reply.answer) ++ says_status s o.reply.status))
        (is_done c o nothing staged)
    inward_fetched some small ne fits =
        let n : length (take (count c o.reply) o.reply.answer) ≡ (count c o.reply) = length-take-le (count c o.reply) o.reply.answer (omega arith) in
        says_then app s c.body
        (says_to app s c.body (ap (λ (k : Card app.State). ends (at_phase getting Procedure) k staged) (gets (omega arith) small))
        (says_header app s c.body o.state (by61 o.reply) staged (get_response c.cla) (as_p3 (count c o.reply)) Response c.ne (count c o.reply)))
        (says_to app s c.body (done_with_bytes c o nothing staged (take (count c o.reply) o.reply.answer) (smaller o.reply.answer c.ne))
        (says_answer app s c.body o.state nothing getting free_c0 tt staged (take (count c o.reply) o.reply.answer) o.reply.status n (omega arith) (omega arith)))
