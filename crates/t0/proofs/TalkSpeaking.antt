use Rattle.std.proofs.Common.{◌≡◌, ℕ, Bool, true, false, cond, List, [], ◌∷◌, get_or, Option, Some, None, Result, sym, refl, ◌∙◌, subst}
use Rattle.std.specs.declared.ops.ControlFlow.{ControlFlow}
use Rattle.wire.specs.declared.traced.Sender.TheVariants as sender
use Rattle.apdu.specs.Applications.{App}
use Rattle.wire.specs.declared.record.Record.{Record}
use Rattle.wire.specs.declared.traced.Traced.{Traced}
use Rattle.t0.specs.declared.settings.Settings.{Settings}
use Rattle.t0.specs.declared.terminal.Step.{Step}
use Rattle.t0.specs.declared.terminal.Step.TheVariants.{Next, Keep, Done, Held, Broken}
use Rattle.t0.specs.declared.terminal.Waiting.{Waiting}
use Rattle.t0.specs.declared.terminal.Want.{Want}
use Rattle.t0.specs.declared.terminal.Want.TheVariants.{Send, SendData}
use Rattle.t0.specs.declared.talk.Ended.{Ended}
use Rattle.t0.specs.declared.talk.Failure.{Failure}
use Rattle.t0.specs.Carrying.{Carries}
use Rattle.t0.specs.Cards.{spoken, next_of, rest_of}
use Rattle.t0.specs.Conversations.{Joined, Spoken, off, lost, terminal_speaks, card_speaks, by_want, by_step}
use Rattle.t0.specs.Delivery.{Delivered, tried}
use Rattle.t0.specs.Talks.{Speaks, after_of, spoke_of, kept_in}
use Rattle.t0.specs.Terminals.{hears}
use Rattle.t0.specs.Wired.{Wired, joined}

front : (b : ℕ) (pending : List ℕ) → next_of pending ≡ Some b → pending ≡ b ∷ rest_of pending
front b [] e = cc
front b (x ∷ xs) e = cc

there : (x : Bool) (b a : ℕ) → Some a ≡ cond x (Some b) None → (x ≡ true) × (a ≡ b)
there true b a e = (refl, cc)
there false b a e = (cc, cc)

module _ {V : Type 0} (app : App V) (s : Settings) where
  heard : (w : Wired app.State) (staged : List ℕ) (b : ℕ) (st : Step)
      → after_of (spoke_of st) w (kept_in st b staged) ≡ by_step app s [] w.card staged w.coming b st
  heard w staged b (Next t) = refl
  heard w staged b (Keep t i) = refl
  heard w staged b (Done r count status) = refl
  heard w staged b (Held h t) = refl
  heard w staged b Broken = refl

  -- The card's character arrived, and the terminal heard it.
  pub card_heard : (terminal : Waiting) (old new : Wired app.State) (staged left : List ℕ) (b a : ℕ) (o : Option ℕ) (r : Result (ControlFlow Ended Waiting) Failure) (before after : Record Traced)
      → new.card ≡ spoken old.card → new.settings ≡ old.settings → next_of old.card.pending ≡ Some b
      → Carries b (tried old.coming sender.Card b 4) o new.coming before after → o ≡ Some a
      → r ≡ spoke_of (hears terminal terminal.phase a) → left ≡ kept_in (hears terminal terminal.phase a) a staged
      → Speaks (card_speaks app s [] (joined terminal old staged) old.card.pending) r old new left before after
  card_heard terminal old new staged left b a o r before after ec es e k eo er el =
      subst (λ (p : List ℕ). Speaks (card_speaks app s [] (joined terminal old staged) p) r old new left before after) (sym (front b old.card.pending e))
      (subst (λ (x : Bool). Speaks (by x) r old new left before after) (sym came.0)
      (record { goes = goes; settings = es; trace = k.trace }))
    where
      t : Delivered
      t = tried old.coming sender.Card b 4

      by : Bool → Spoken app.State
      by x = record {
        characters = t.characters;
        after =
            cond x (by_step app s [] (spoken old.card) staged t.coming b (hears terminal terminal.phase b))
            (off (record { end = lost; card = spoken old.card; staged = staged; coming = t.coming; characters = [] }));
      }

      came : (t.arrived ≡ true) × (a ≡ b)
      came = there t.arrived b a (sym eo ∙ k.result)

      goes : after_of r new left ≡ by_step app s [] (spoken old.card) staged t.coming b (hears terminal terminal.phase b)
      goes = let h = heard new staged a (hears terminal terminal.phase a) in cc (h, er, el, ec, k.line, came.1)

-- The terminal sends a byte of its own, or one of the data.
module _ {V : Type 0} (app : App V) (s : Settings) (body : List ℕ) (j : Joined app.State) (w : Want) (b : ℕ) (r : Result (ControlFlow Ended Waiting) Failure) (old new : Wired app.State) (left : List ℕ) (before after : Record Traced)
    (k : Speaks (terminal_speaks app s [] j b) r old new left before after) where
  pub byte_sent : Send b ≡ w → Speaks (by_want app s body j w) r old new left before after
  byte_sent e = subst (λ (x : Want). Speaks (by_want app s body j x) r old new left before after) e k

  pub data_sent : (i : ℕ) → SendData i ≡ w → b ≡ get_or body i 0 → Speaks (by_want app s body j w) r old new left before after
  data_sent i e eb =
      subst (λ (x : Want). Speaks (by_want app s body j x) r old new left before after) e
      (subst (λ (n : ℕ). Speaks (terminal_speaks app s body j n) r old new left before after) eb k)
