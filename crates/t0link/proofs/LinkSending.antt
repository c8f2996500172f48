use Rattle.std.proofs.Common.{◌≡◌, ℕ, ◌-◌, Bool, true, false, List, [], ◌++◌, ◌||◌, length, take, drop, Ok, Err, Option, sym, refl, ap, ◌∙◌, subst, take_at}
use native.Mathlib.Nat.{sub-zero}
use Rattle.apdu.specs.Applications.{App, Outcome, does, opened}
use Rattle.apdu.specs.Commands.{Command}
use Rattle.apdu.specs.Judging.{passes, judged}
use Rattle.apdu.specs.declared.refusal.Refusal.TheVariants.{Lost}
use Rattle.apdu.specs.declared.status.Status.{Status}
use Rattle.apdu.proofs.Judging.{passes_read}
use Rattle.wire.specs.Lines.{Damage}
use Rattle.wire.specs.Records.{Grew}
use Rattle.wire.specs.declared.record.Record.{Record}
use Rattle.wire.proofs.Growing.{grew_none}
use Rattle.wire.specs.declared.traced.Traced.{Traced}
use Rattle.link.specs.Direct.{given}
use Rattle.link.specs.Meaning.{Asked, command, Linked, carried, before, after, sent, sent_as, was_reset}
use Rattle.link.specs.Results.{LinkSends, LinkResets}
use Rattle.link.specs.Turns.{Did, gives, denied}
use Rattle.t0.specs.declared.settings.Settings.{Settings}
use Rattle.t0.specs.Cards as cards
use Rattle.t0.specs.Cards.{nothing, card_reset}
use Rattle.t0.specs.CardValues.{meant}
use Rattle.t0.specs.declared.card.Card.{Card}
use Rattle.t0.specs.Delivery.{Delivered, deliver}
use Rattle.t0.specs.Wired.{Wired, wired_of, after_reset}
use Rattle.t0link.specs.Resting.{resting}
use Rattle.t0link.proofs.Rests.{so_rests}
use Rattle.t0.specs.declared.talk.WiredCard.{WiredCard}
use Rattle.t0.specs.Dialogues.{Dialogue, dialogue, whole}
use Rattle.t0link.specs.Links.{said_by, fate_of, linked_by}

module _ {V : Type 0} (app : App V) (s : Settings) (d : Damage) (x : app.State) (bytes buffer : List ℕ) (c : Command) (pass : passes c ≡ judged bytes (length buffer)) where
  abbrev o : Outcome app.State
  o = does app x c

  abbrev asked : Asked
  asked = command bytes o.reply

  abbrev part : List ℕ
  part = take c.ne o.reply.answer

  -- What the turn leaves, by whether all and whether the opening of what is said arrives.
  abbrev by_arrival : Delivered → Bool → Bool → Did (Linked app.State)
  by_arrival t all opening = elim (fate_of all opening) [
    | carried ↦ record { after = linked_by s t.coming o.state false; gave = given c o.reply; buffer = opened part buffer; characters = t.characters }
    | before ↦ record { after = linked_by s t.coming x true; gave = denied 5; buffer = buffer; characters = t.characters }
    | after ↦ record { after = linked_by s t.coming o.state true; gave = denied 5; buffer = buffer; characters = t.characters }
  ]

  abbrev by_dialogue : Dialogue → Did (Linked app.State)
  by_dialogue g = by_arrival (deliver d (whole g)) (deliver d (whole g)).arrived (deliver d g.opening).arrived

  sent_is : sent app (linked_by s d x false) bytes buffer ≡ by_dialogue (dialogue s c o.reply)
  sent_is =
      ap (sent_as app (linked_by s d x false) bytes buffer) (sym pass)
      ∙ ap (λ (k : Option Command). by_dialogue (said_by s k o.reply)) (passes_read bytes (length buffer) (sym pass))

  module _ (z : app.State) (f : Damage) (left : List ℕ) (t u : Record Traced) where
    abbrev all : Delivered
    all = deliver d (whole (dialogue s c o.reply))

    abbrev opening : Delivered
    opening = deliver d (dialogue s c o.reply).opening

    -- All arrived, and the command is done.
    pub done_so : (n : ℕ) (status : Status) → all.arrived ≡ true → z ≡ o.state → f ≡ all.coming → n ≡ length part
        → left ≡ opened part buffer → status ≡ o.reply.status → Grew t u all.characters
        → LinkSends (sent app (linked_by s d x false) bytes buffer) (linked_by s f z false) left (Ok (n, status)) t u
    done_so n status full ez ef en el es g =
        subst (λ (k : Did (Linked app.State)). LinkSends k (linked_by s f z false) left (Ok (n, status)) t u) (sym (sent_is ∙ ap (λ (b : Bool). by_arrival all b opening.arrived) full))
        (record {
          turn = record {
            after = ap (λ (k : Damage). linked_by s k z false) ef ∙ ap (λ (k : app.State). linked_by s all.coming k false) ez;
            wrote = el;
            gave = ap (λ (k : ℕ). gives (take k left) status) en ∙ ap (λ (k : List ℕ). gives (take (length part) k) status) el
                ∙ ap (λ (k : List ℕ). gives k status) (take_at part (drop (length part) buffer) (length part) refl) ∙ ap (gives part) es;
            count = en;
          };
          trace = g;
        })

    -- Not all arrived, and the link is lost.
    pub lost_so : all.arrived ≡ false → (opening.arrived ≡ true → z ≡ o.state) → (opening.arrived ≡ false → z ≡ x) → f ≡ all.coming
        → left ≡ buffer → Grew t u all.characters
        → LinkSends (sent app (linked_by s d x false) bytes buffer) (linked_by s f z true) left (Err Lost) t u
    lost_so short ran not_run ef el g =
        subst (λ (k : Did (Linked app.State)). LinkSends k (linked_by s f z true) left (Err Lost) t u) (sym (sent_is ∙ ap (λ (b : Bool). by_arrival all b opening.arrived) short))
        (by_opening opening.arrived ran not_run)
      where
        by_opening : (b : Bool) → (b ≡ true → z ≡ o.state) → (b ≡ false → z ≡ x) → LinkSends (by_arrival all false b) (linked_by s f z true) left (Err Lost) t u
        by_opening true then else = record { turn = record { after = ap (λ (k : Damage). linked_by s k z true) ef ∙ ap (λ (k : app.State). linked_by s all.coming k true) (then refl); wrote = el; gave = refl; count = refl }; trace = g }
        by_opening false then else = record { turn = record { after = ap (λ (k : Damage). linked_by s k z true) ef ∙ ap (λ (k : app.State). linked_by s all.coming k true) (else refl); wrote = el; gave = refl; count = refl }; trace = g }

-- A reset of a link that is not lost.
module _ {V M : Type 0} (app : App V) (damage : M → Damage) (w next : WiredCard V M) (b : Bool) (eb : b ≡ false)
    (e : wired_of app damage next ≡ after_reset app (wired_of app damage w)) where
  pub reset_so : (t : Record Traced) → LinkResets (was_reset app (linked_by w.card.settings (damage w.line) (app.state w.card.app) b) []) (linked_by next.card.settings (damage next.line) (app.state next.card.app) b) (Ok tt) t t
  unfolding deliver
  reset_so t =
      subst (λ (k : Bool). LinkResets (was_reset app (linked_by w.card.settings (damage w.line) (app.state w.card.app) k) []) (linked_by next.card.settings (damage next.line) (app.state next.card.app) k) (Ok tt) t t) (sym eb)
      (record { turn = record { after = ap (λ (k : Wired app.State). linked_by k.settings k.coming k.card.state false) e; gave = refl }; trace = grew_none t })

  pub reset_rests : (b || resting next.card) ≡ true
  reset_rests =
      ap (λ (k : Bool). k || resting next.card) eb
      ∙ so_rests app next.card (app.resets (app.state w.card.app)) nothing (ap (λ (k : Wired app.State). k.card) e) tt

-- A card that was reset has the application's state after a reset.
pub reset_state : {V : Type 0} (app : App V) (c d : Card V) → meant app d ≡ card_reset app (meant app c) → app.state d.app ≡ app.resets (app.state c.app)
reset_state app c d e = ap (λ (k : cards.Card app.State). k.state) e

-- The answer bytes that opened the staging, put before the rest of the answer buffer.
pub staged_out : (part zeros staged got whole : List ℕ) (n : ℕ) → n ≡ length part → staged ≡ opened part zeros → got ≡ take (n - 0) staged → got ++ drop (n - 0) whole ≡ opened part whole
staged_out part zeros staged got whole n en es eg =
    ap (λ (l : List ℕ). l ++ drop (n - 0) whole) (eg ∙ ap (λ (k : ℕ). take k staged) (sub-zero n ∙ en) ∙ ap (take (length part)) es ∙ take_at part (drop (length part) zeros) (length part) refl)
    ∙ ap (λ (k : ℕ). part ++ drop k whole) (sub-zero n ∙ en)
