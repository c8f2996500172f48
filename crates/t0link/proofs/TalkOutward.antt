use Rattle.std.proofs.Common.{◌≡◌, ℕ, ◌<◌, ◌≤◌, Bool, true, false, cond, ◌&&◌, eqb, ltb, leb, List, [], ◌++◌, length, take, sym, refl, ap, ◌∙◌, inl, arith}
use Rattle.std.proofs.lemmas.Bool.{eq-eqb, lt-ltb, eqb-true, eqb-false, leb-true, leb-false, cond-true, cond-false, and_from, and_left, and_right, le-ltb}
use Rattle.std.proofs.lemmas.List.{take_all, length-take-le}
use Rattle.apdu.specs.Applications.{App, Outcome, does}
use Rattle.apdu.specs.Commands.{Command, inward}
use Rattle.apdu.specs.declared.header.Header.{Header}
use Rattle.t0.specs.declared.settings.Settings.{Settings}
use Rattle.t0.specs.declared.terminal.Kind.TheVariants.{Outward, Repeated}
use Rattle.t0.specs.declared.terminal.Phase.TheVariants.{Procedure, Closing}
use Rattle.t0.specs.declared.terminal.Waiting.{Waiting}
use Rattle.t0.specs.declared.terminal.Step.TheVariants.{Next}
use Rattle.t0.specs.Procedures.{header, as_p3, moves_out, closes, says_status}
use Rattle.t0.specs.Dialogues.{from_terminal, from_card, header_of, after_outward}
use Rattle.t0.specs.Cards.{Card, Held, nothing, by6C, heading, at_rest, says, is_get_response, same_header, outward_ran, headed}
use Rattle.t0.specs.Terminals.{heading_for, at_phase, repeats}
use Rattle.t0link.specs.Laws.{Between}
use Rattle.t0link.proofs.TalkSteps.{Place, after_step, Says, says_then}
use Rattle.t0link.proofs.TalkSegments.{ends, says_to, says_header, says_closes}
use Rattle.t0link.proofs.TalkProcedures.{Free, free_ins, not_get_response, awaits_sw2}
use Rattle.t0link.proofs.TalkStatus.{says_the_status, says_answer}
use Rattle.t0link.proofs.TalkBegun.{wanted_p3, is_done, done_with_bytes, none_wanted, headed_begun}
use Rattle.t0link.proofs.TalkPassing.{Passing, outward_alone}

-- The terminal with an outward command.
abbrev pub asking : Command → Waiting
asking c = heading_for (header_of c) (as_p3 c.ne) Outward c.ne c.ne

module _ {V : Type 0} (app : App V) (s : Settings) (c : Command) (x : app.State) (pass : Passing c) (out : inward c.ins ≡ false) where
  has_run : (held : Held) → Between held → headed app s x held (header_of c) (as_p3 c.ne) ≡ outward_ran s (header_of c) c.ne (does app x c)
  has_run held b =
      headed_begun app s x held b (header_of c) (as_p3 c.ne) pass.free
      ∙ cond-false (inward c.ins) _ _ out
      ∙ ap (λ (n : ℕ). outward_ran s (header_of c) n (app.runs x c.cla c.ins c.p1 c.p2 [])) (wanted_p3 c.ne (outward_alone c pass out).1 pass.shape.most_wanted)
      ∙ ap (λ (l : List ℕ). outward_ran s (header_of c) c.ne (app.runs x c.cla c.ins c.p1 c.p2 l)) (sym (outward_alone c pass out).0)

  -- The header, after which the command has run.
  pub outward_opening : (held : Held) → Between held → (staged : List ℕ)
      → Says app s c.body x (ends (asking c) (at_rest x held) staged) (from_terminal (header (header_of c) (as_p3 c.ne)))
      (ends (at_phase (asking c) Procedure) (outward_ran s (header_of c) c.ne (does app x c)) staged)
  outward_opening held b staged =
      says_to app s c.body (ap (λ (k : Card app.State). ends (at_phase (asking c) Procedure) k staged) (has_run held b))
      (says_header app s c.body x held staged (header_of c) (as_p3 c.ne) Outward c.ne c.ne)

  module _ (o : Outcome app.State) (staged : List ℕ) (fits : length o.reply.answer ≤ length staged) where
    abbrev asked : Card app.State → Place app.State
    asked k = ends (at_phase (asking c) Procedure) k staged

    free : Free c.ins
    free = free_ins c.cla c.ins pass.free

    -- Without answer bytes: the status.
    without : length o.reply.answer ≡ 0
        → Says app s c.body o.state (asked (says o.state nothing (says_status s o.reply.status)))
        (from_card (says_status s o.reply.status)) (is_done c o nothing staged)
    without e =
        says_to app s c.body (done_with_bytes c o nothing staged [] (none_wanted c.ne o.reply.answer e))
        (says_the_status app s c.body o.state nothing (asking c) free staged o.reply.status 0
        (and_right (ltb 0 c.ne) (ltb c.ne c.ne) (le-ltb c.ne c.ne (omega arith))) (omega arith))

    -- With at least Ne: so many, and the status.
    enough : c.ne ≤ length o.reply.answer
        → Says app s c.body o.state (asked (says o.state nothing (moves_out s c.ins (take c.ne o.reply.answer) ++ says_status s o.reply.status)))
        (from_card (moves_out s c.ins (take c.ne o.reply.answer) ++ says_status s o.reply.status)) (is_done c o nothing staged)
    enough h =
        let n : length (take c.ne o.reply.answer) ≡ c.ne = length-take-le c.ne o.reply.answer h in
        says_answer app s c.body o.state nothing (asking c) free tt staged (take c.ne o.reply.answer) o.reply.status n
        (omega (arith, (outward_alone c pass out).1)) (omega arith)

    -- With fewer: 6C and the count, the header once more, and all of them.
    abbrev again : Waiting
    again = heading_for (header_of c) (length o.reply.answer) Repeated c.ne (length o.reply.answer)

    repeated : 0 < length o.reply.answer → length o.reply.answer < c.ne
        → repeats (at_phase (asking c) (Closing 0x6C)) Outward (length o.reply.answer) ≡ Next again
    repeated some few =
        cond-true (eqb c.ne c.ne && (ltb 0 (length o.reply.answer) && ltb (length o.reply.answer) c.ne)) _ _
        (and_from (eqb c.ne c.ne) (ltb 0 (length o.reply.answer) && ltb (length o.reply.answer) c.ne) (eq-eqb c.ne c.ne refl)
        (and_from (ltb 0 (length o.reply.answer)) (ltb (length o.reply.answer) c.ne)
        (lt-ltb 0 (length o.reply.answer) some) (lt-ltb (length o.reply.answer) c.ne few)))

    same_again : (h : Header) (n : ℕ) → (same_header h h && eqb n n) ≡ true
    same_again h n =
        and_from (same_header h h) (eqb n n)
        (and_from (eqb h.cla h.cla) (eqb h.ins h.ins && (eqb h.p1 h.p1 && eqb h.p2 h.p2)) (eq-eqb h.cla h.cla refl)
        (and_from (eqb h.ins h.ins) (eqb h.p1 h.p1 && eqb h.p2 h.p2) (eq-eqb h.ins h.ins refl)
        (and_from (eqb h.p1 h.p1) (eqb h.p2 h.p2) (eq-eqb h.p1 h.p1 refl) (eq-eqb h.p2 h.p2 refl))))
        (eq-eqb n n refl)

    answers_again : headed app s o.state (by6C (header_of c) o.reply) (header_of c) (length o.reply.answer)
        ≡ says o.state nothing (moves_out s c.ins o.reply.answer ++ says_status s o.reply.status)
    answers_again =
        cond-false (is_get_response (header_of c)) _ _ (and_left (eqb c.ins 0xC0) (eqb c.p1 0 && eqb c.p2 0) (not_get_response c.cla c.ins pass.free))
        ∙ cond-true (same_header (header_of c) (header_of c) && eqb (length o.reply.answer) (length o.reply.answer)) _ _
        (same_again (header_of c) (length o.reply.answer))

    fewer : 0 < length o.reply.answer → length o.reply.answer < c.ne
        → Says app s c.body o.state (asked (says o.state (by6C (header_of c) o.reply) (closes s 0x6C (length o.reply.answer))))
        (from_card (closes s 0x6C (length o.reply.answer))
        ++ (from_terminal (header (header_of c) (length o.reply.answer))
        ++ from_card (moves_out s c.ins o.reply.answer ++ says_status s o.reply.status)))
        (is_done c o nothing staged)
    fewer some few =
        says_then app s c.body
        (says_closes app s c.body o.state (by6C (header_of c) o.reply) (heading []) staged (asking c) 0x6C (length o.reply.answer)
        (ends again (at_rest o.state (by6C (header_of c) o.reply)) staged)
        (awaits_sw2 (asking c) 0x6C free (inl (omega arith, omega arith)))
        (ap (after_step (at_rest o.state (by6C (header_of c) o.reply)) staged (length o.reply.answer)) (repeated some few)))
        (says_then app s c.body
        (says_to app s c.body (ap (λ (k : Card app.State). ends (at_phase again Procedure) k staged) answers_again)
        (says_header app s c.body o.state (by6C (header_of c) o.reply) staged (header_of c) (length o.reply.answer) Repeated c.ne (length o.reply.answer)))
        (says_to app s c.body (done_with_bytes c o nothing staged o.reply.answer (sym (take_all c.ne o.reply.answer (omega arith))))
        (says_answer app s c.body o.state nothing again free tt staged o.reply.answer o.reply.status refl some fits)))

    by_count : (none few : Bool) → eqb (length o.reply.answer) 0 ≡ none → leb c.ne (length o.reply.answer) ≡ few
        → Says app s c.body o.state
        (asked (cond none (says o.state nothing (says_status s o.reply.status))
        (cond few (says o.state nothing (moves_out s c.ins (take c.ne o.reply.answer) ++ says_status s o.reply.status))
        (says o.state (by6C (header_of c) o.reply) (closes s 0x6C (length o.reply.answer))))))
        (cond none (from_card (says_status s o.reply.status))
        (cond few (from_card (moves_out s c.ins (take c.ne o.reply.answer) ++ says_status s o.reply.status))
        (from_card (closes s 0x6C (length o.reply.answer))
        ++ (from_terminal (header (header_of c) (length o.reply.answer))
        ++ from_card (moves_out s c.ins o.reply.answer ++ says_status s o.reply.status)))))
        (is_done c o nothing staged)
    by_count true few e f = without (eqb-true (length o.reply.answer) 0 e)
    by_count false true e f = enough (leb-true c.ne (length o.reply.answer) f)
    by_count false false e f =
        let some = eqb-false (length o.reply.answer) 0 e in
        fewer (omega arith) (leb-false c.ne (length o.reply.answer) f)

    -- What is said once an outward command has run.
    pub outward_closing : Says app s c.body o.state (asked (outward_ran s (header_of c) c.ne o))
        (after_outward s c o.reply) (is_done c o nothing staged)
    outward_closing = by_count (eqb (length o.reply.answer) 0) (leb c.ne (length o.reply.answer)) refl refl
