use Rattle.std.proofs.Common.{◌≡◌, ℕ, ◌+◌, ◌-◌, ◌<◌, ◌≤◌, Bool, true, false, cond, eqb, List, [], ◌++◌, length, take, sym, refl, ap, ◌∙◌, subst, ⊎_elim, append_assoc, append-nil, arith, length-take}
use Rattle.std.proofs.lemmas.Bool.{cases_Bool, both_ways, cond-true, cond-false, eqb-true, eqb-false}
use Rattle.apdu.specs.Applications.{App, Outcome, CarriesData, does, opened}
use Rattle.apdu.specs.Commands.{Command, inward}
use Rattle.apdu.specs.Statuses as statuses
use Rattle.wire.specs.Lines.{Damage}
use Rattle.t0.specs.declared.settings.Settings.{Settings}
use Rattle.t0.specs.declared.terminal.Phase.TheVariants.{Procedure}
use Rattle.t0.specs.declared.terminal.Waiting.{Waiting}
use Rattle.t0.specs.Procedures.{header, as_p3, get_response, moves_out, closes, says_status}
use Rattle.t0.specs.Dialogues.{Word, Dialogue, header_of, from_terminal, from_card, moved_in, after_inward, after_outward}
use Rattle.t0.specs.Delivery.{Delivered, deliver}
use Rattle.t0.specs.Cards.{Card, Held, nothing, by61, at_rest, says, inward_ran}
use Rattle.t0.specs.Terminals.{fetches, heading_for}
use Rattle.t0.specs.declared.terminal.Kind.TheVariants.{Inward}
use Rattle.t0.specs.Conversations.{Joined, Talked, done, held, talk, converse}
use Rattle.t0link.specs.Laws.{Between, ComesTo, ConversationLaw}
use Rattle.t0.specs.Conversations.{most}
use Rattle.t0link.proofs.TalkSteps.{Pair, Place, goes, stops, Says, join, talked}
use Rattle.t0link.proofs.TalkSegments.{due_at, ends, says_to}
use Rattle.t0link.proofs.TalkOver.{Over, over_then, beyond, over_says}
use Rattle.t0link.proofs.TalkWhole.{deliver_then, over_two, opening_arrived}
use Rattle.t0link.proofs.TalkEnds.{over_done, over_discarded, over_fetching}
use Rattle.t0link.proofs.TalkLengths.{allowed, length_card, closes_short, answer_short, header_then, moved_in_short, after_outward_short}
use Rattle.t0link.proofs.TalkPassing.{Passing, passing}
use Rattle.t0link.proofs.TalkBegun.{is_done, low_p3}
use Rattle.t0link.proofs.TalkOutward.{asking, outward_opening, outward_closing}
use Rattle.t0link.proofs.TalkInward.{bringing, token, count, inward_opening, inward_without, inward_held, inward_fetched}

-- A conversation over a line that ends with the command done, in the words of the law.
module _ {S : Type 0} (c : Command) (x : S) (o : Outcome S) (all opening : Delivered) (staged : List ℕ) (t : Talked S) (kept : Held)
    (between : Between kept) (first : all.arrived ≡ true → opening.arrived ≡ true)
    (over : Over (cond opening.arrived o.state x) all t
    (λ e. record {
      end = done (length (take c.ne o.reply.answer)) o.reply.status;
      card = at_rest o.state kept;
      staged = opened (take c.ne o.reply.answer) staged;
      coming = e;
      characters = [];
    })) where
  either : {P : Type 0} → (all.arrived ≡ true → P) → (all.arrived ≡ false → P) → P
  either f g = ⊎_elim f g (cases_Bool all.arrived)

  pub comes_to : ComesTo c x o all opening staged t
  comes_to =
      record {
        characters = either (λ h. ap (λ (u : Talked S). u.characters) (over.arrives h) ∙ append-nil all.characters) (λ h. (over.loses h).characters);
        coming = either (λ h. ap (λ (u : Talked S). u.coming) (over.arrives h)) (λ h. (over.loses h).coming);
        done = λ h. ap (λ (u : Talked S). u.end) (over.arrives h);
        bytes = λ h. ap (λ (u : Talked S). u.staged) (over.arrives h);
        rests = λ h. (kept, (ap (λ (u : Talked S). u.card) (over.arrives h), between));
        lost = λ h. (over.loses h).end;
        ran = λ k. either (λ h. ap (λ (u : Talked S). u.card.state) (over.arrives h)) (λ h. (over.loses h).state ∙ cond-true opening.arrived o.state x k);
        not_run = λ k. either (λ h. absurd (both_ways opening.arrived k (first h))) (λ h. (over.loses h).state ∙ cond-false opening.arrived o.state x k);
      }

-- The characters that are left over.
abbrev spare : List Word → List Word → ℕ
spare ws vs = most - (length ws + length vs)

module _ {V : Type 0} (app : App V) (s : Settings) (body : List ℕ) where
  talk_two : {x y : app.State} {j : Pair app.State} {p q : Place app.State} (op cl : List Word) → Says app s body x (goes j) op p → Says app s body y p cl q
      → length op + length cl ≤ most → (d : Damage)
      → Over (cond (deliver d op).arrived y x) (deliver d (op ++ cl)) (talk app s body most (join app s body j d)) (λ e. talked app s body (spare op cl) e q)
  talk_two {x} {y} {j} {p} {q} op cl a b h d =
      subst (λ (n : ℕ). Over (cond (deliver d op).arrived y x) (deliver d (op ++ cl)) (talk app s body n (join app s body j d)) (λ e. talked app s body (spare op cl) e q)) (allowed op cl h)
      (over_two d op cl (talk app s body (beyond op (beyond cl (spare op cl))) (join app s body j d)) (λ e. talked app s body (beyond cl (spare op cl)) e p) (λ e. talked app s body (spare op cl) e q)
      (over_says app s body a (beyond cl (spare op cl)) d) (over_says app s body b (spare op cl) (deliver d op).coming))

  talk_one : {x : app.State} {j : Pair app.State} {q : Place app.State} (ws : List Word) → Says app s body x (goes j) ws q → length ws ≤ most → (d : Damage)
      → Over x (deliver d ws) (talk app s body most (join app s body j d)) (λ e. talked app s body (spare [] ws) e q)
  talk_one {x} {j} {q} ws a h d =
      subst (λ (n : ℕ). Over x (deliver d ws) (talk app s body n (join app s body j d)) (λ e. talked app s body (spare [] ws) e q)) (allowed [] ws (omega arith))
      (over_says app s body a (spare [] ws) d)

module _ {V : Type 0} (app : App V) (s : Settings) (c : Command) (x : app.State) (kept : Held) (d : Damage) (staged : List ℕ) (pass : Passing c) (between : Between kept)
    (room : length staged ≡ 256) (short : length (does app x c).reply.answer ≤ 256) (carries : CarriesData (does app x c).reply) where
  abbrev o : Outcome app.State
  o = does app x c

  abbrev starts : Waiting → Joined app.State
  starts w = record { terminal = w; card = at_rest x kept; staged = staged; coming = d }

  -- What the law says of an opening and a closing.
  abbrev Holds : Waiting → List Word → List Word → Type 0
  Holds w op cl = ComesTo c x o (deliver d (op ++ cl)) (deliver d op) staged (converse app s c.body most (starts w))

  reached : (w : Waiting) (op cl : List Word) (n : ℕ) (after : Held) → Between after
      → Over (cond (deliver d op).arrived o.state x) (deliver d (op ++ cl)) (converse app s c.body most (starts w)) (λ e. talked app s c.body n e (is_done c o after staged))
      → Holds w op cl
  reached w op cl n after b over =
      comes_to c x o (deliver d (op ++ cl)) (deliver d op) staged (converse app s c.body most (starts w)) after b (opening_arrived d op cl) over

  -- A conversation without a fetch.
  by_one_talk : {p : Place app.State} (w : Waiting) (op cl : List Word)
      → Says app s c.body x (goes (record { terminal = w; card = at_rest x kept; staged = staged })) op p
      → Says app s c.body o.state p cl (is_done c o nothing staged) → length op + length cl ≤ most → Holds w op cl
  by_one_talk w op cl a b h =
      reached w op cl (spare op cl) nothing tt
      (over_done app s c.body most (deliver d (op ++ cl)) (talk app s c.body most (starts w))
      (length (take c.ne o.reply.answer)) o.reply.status (at_rest o.state nothing) (opened (take c.ne o.reply.answer) staged)
      (talk_two app s c.body op cl a b h d))

  outward_law : inward c.ins ≡ false → Holds (asking c) (from_terminal (header (header_of c) (as_p3 c.ne))) (after_outward s c o.reply)
  outward_law out =
      by_one_talk (asking c) (from_terminal (header (header_of c) (as_p3 c.ne))) (after_outward s c o.reply)
      (outward_opening app s c x pass out kept between staged) (outward_closing app s c x pass out o staged (omega arith))
      (omega (arith, after_outward_short s c o.reply short))

  abbrev bringing_in : List Word
  bringing_in = from_terminal (header (header_of c) (length c.body)) ++ moved_in s.style s c.ins c.body

  abbrev by_61 : List Word
  by_61 = from_card (closes s 0x61 (as_p3 (length o.reply.answer)))

  abbrev fetching : List Word
  fetching =
      from_terminal (header (get_response c.cla) (as_p3 (count c o.reply))) ++ from_card (moves_out s 0xC0 (take (count c o.reply) o.reply.answer) ++ says_status s o.reply.status)

  bringing_short : length bringing_in ≤ 5000
  bringing_short =
      omega (
        arith,
        header_then s (header (header_of c) (length c.body)) (moved_in s.style s c.ins c.body) 4351 refl
            (omega (arith, moved_in_short s s.style c.ins c.body, pass.shape.short)),
      )

  by_61_short : length by_61 ≤ 17
  by_61_short = omega (arith, length_card (closes s 0x61 (as_p3 (length o.reply.answer))), closes_short s 0x61 (as_p3 (length o.reply.answer)))

  fetching_short : length fetching ≤ most
  fetching_short =
      omega (
        arith,
        header_then s (header (get_response c.cla) (as_p3 (count c o.reply))) (from_card (moves_out s 0xC0 (take (count c o.reply) o.reply.answer) ++ says_status s o.reply.status)) 4400 refl
            (answer_short s 0xC0 (take (count c o.reply) o.reply.answer) o.reply.status (omega (arith, length-take (count c o.reply) o.reply.answer))),
      )

  module _ (inw : inward c.ins ≡ true) where
    brought : (k : Card app.State) → inward_ran s o ≡ k
        → Says app s c.body x (goes (record { terminal = bringing c; card = at_rest x kept; staged = staged })) bringing_in (ends (due_at (bringing c) 0 Procedure) k staged)
    brought k e =
        says_to app s c.body (ap (λ (k : Card app.State). ends (due_at (bringing c) 0 Procedure) k staged) e) (inward_opening app s c x pass inw kept between staged)

    without_law : eqb (length o.reply.answer) 0 ≡ true → Holds (bringing c) bringing_in (from_card (says_status s o.reply.status))
    without_law e =
        by_one_talk (bringing c) bringing_in (from_card (says_status s o.reply.status))
        (brought (says o.state nothing (says_status s o.reply.status)) (cond-true (eqb (length o.reply.answer) 0) _ _ e))
        (inward_without app s c x pass o staged (eqb-true (length o.reply.answer) 0 e))
        (omega (arith, bringing_short, length_card (says_status s o.reply.status), closes_short s o.reply.status.sw1 o.reply.status.sw2))

    module _ (e : eqb (length o.reply.answer) 0 ≡ false) where
      some : 0 < length o.reply.answer
      some = let n = eqb-false (length o.reply.answer) 0 e in omega arith

      -- The first of the two conversations, which leaves the answer held.
      is_held : Over (cond (deliver d bringing_in).arrived o.state x) (deliver d (bringing_in ++ by_61)) (talk app s c.body most (starts (bringing c)))
          (λ f. talked app s c.body (spare bringing_in by_61) f (stops (held (token c o.reply)) (at_rest o.state (by61 o.reply)) staged))
      is_held =
          talk_two app s c.body bringing_in by_61
          (brought (says o.state (by61 o.reply) (closes s 0x61 (as_p3 (length o.reply.answer)))) (cond-false (eqb (length o.reply.answer) 0) _ _ e))
          (inward_held app s c x pass o staged some short) (omega (arith, bringing_short, by_61_short)) d

      discarded : c.ne ≡ 0
          → ◌≡◌ {A = Place app.State} (stops (done 0 statuses.done) (at_rest o.state (by61 o.reply)) staged) (is_done c o (by61 o.reply) staged)
      discarded z =
          let none-taken : take 0 o.reply.answer ≡ take c.ne o.reply.answer = ap (λ (n : ℕ). take n o.reply.answer) (sym z) in
          let status : statuses.done ≡ o.reply.status = sym (carries some) in
          λ i. stops (done (length (none-taken i)) (status i)) (at_rest o.state (by61 o.reply)) (opened (none-taken i) staged)

      discard_law : eqb c.ne 0 ≡ true → Holds (bringing c) bringing_in by_61
      discard_law z =
          reached (bringing c) bringing_in by_61 (spare bringing_in by_61) (by61 o.reply) tt
          (subst (λ (q : Place app.State). Over (cond (deliver d bringing_in).arrived o.state x) (deliver d (bringing_in ++ by_61)) (converse app s c.body most (starts (bringing c)))
          (λ f. talked app s c.body (spare bringing_in by_61) f q)) (discarded (eqb-true c.ne 0 z))
          (over_discarded app s c.body most (deliver d (bringing_in ++ by_61)) (talk app s c.body most (starts (bringing c)))
          (token c o.reply) (at_rest o.state (by61 o.reply)) staged z is_held))

      fetch_law : eqb c.ne 0 ≡ false → Holds (bringing c) bringing_in (by_61 ++ fetching)
      fetch_law z =
          reached (bringing c) bringing_in (by_61 ++ fetching) (spare [] fetching) nothing tt
          (subst (λ (a : Delivered). Over (cond (deliver d bringing_in).arrived o.state x) a (converse app s c.body most (starts (bringing c)))
          (λ f. talked app s c.body (spare [] fetching) f (is_done c o nothing staged)))
          (sym (deliver_then d (bringing_in ++ by_61) fetching) ∙ ap (deliver d) (append_assoc bringing_in by_61 fetching))
          (over_then (deliver d (bringing_in ++ by_61)) (deliver (deliver d (bringing_in ++ by_61)).coming fetching) (converse app s c.body most (starts (bringing c)))
          (λ f. talk app s c.body most (record { terminal = fetches (token c o.reply); card = at_rest o.state (by61 o.reply); staged = staged; coming = f }))
          (λ f. talked app s c.body (spare [] fetching) f (is_done c o nothing staged))
          (λ h. sym (cond-true (deliver d bringing_in).arrived o.state x (opening_arrived d bringing_in by_61 h)))
          (over_fetching app s c.body most (deliver d (bringing_in ++ by_61)) (talk app s c.body most (starts (bringing c))) (token c o.reply) (at_rest o.state (by61 o.reply)) staged z is_held)
          (talk_one app s c.body fetching (inward_fetched app s c x pass o staged some short ne (omega arith)) fetching_short (deliver d (bringing_in ++ by_61)).coming)))
        where
          ne : 0 < c.ne
          ne = let n = eqb-false c.ne 0 z in omega arith

      held_law : (unwanted : Bool) → eqb c.ne 0 ≡ unwanted → Holds (bringing c) bringing_in (by_61 ++ cond unwanted [] fetching)
      held_law true z = subst (Holds (bringing c) bringing_in) (sym (append-nil by_61)) (discard_law z)
      held_law false z = fetch_law z

    inward_law : (empty : Bool) → eqb (length o.reply.answer) 0 ≡ empty
        → Holds (bringing c) bringing_in (cond empty (from_card (says_status s o.reply.status)) (by_61 ++ cond (eqb c.ne 0) [] fetching))
    inward_law true e = without_law e
    inward_law false e = held_law e (eqb c.ne 0) refl

  by_direction : (way : Bool) → inward c.ins ≡ way
      → let g : Dialogue = cond way (record { opening = bringing_in; closing = after_inward s c o.reply })
      (record { opening = from_terminal (header (header_of c) (as_p3 c.ne)); closing = after_outward s c o.reply }) in
      Holds (cond way (bringing c) (asking c)) g.opening g.closing
  by_direction true e = inward_law e (eqb (length o.reply.answer) 0) refl
  by_direction false e = outward_law e

-- The joined ends exchange exactly the dialogue.
pub conversation : {V : Type 0} (app : App V) → ConversationLaw app
conversation {V} app s bytes room c x kept d staged passes-so between full short carries =
    subst At (low_p3 (length c.body) pass.shape.short)
    (by_direction app s c x kept d staged pass between full short carries (inward c.ins) refl)
  where
    pass : Passing c
    pass = passing bytes room passes-so

    o : Outcome app.State
    o = does app x c

    -- The law with this P3 in the header of an inward command.
    said_with : ℕ → Dialogue
    said_with p = cond (inward c.ins) (record { opening = from_terminal (header (header_of c) p) ++ moved_in s.style s c.ins c.body; closing = after_inward s c o.reply })
        (record { opening = from_terminal (header (header_of c) (as_p3 c.ne)); closing = after_outward s c o.reply })

    At : ℕ → Type 0
    At p = ComesTo c x o (deliver d ((said_with p).opening ++ (said_with p).closing)) (deliver d (said_with p).opening) staged
        (converse app s c.body most (record { terminal = cond (inward c.ins) (heading_for (header_of c) p Inward c.ne (length c.body)) (asking c); card = at_rest x kept; staged = staged; coming = d }))
