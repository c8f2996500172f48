use Rattle.std.proofs.Common.{◌≡◌, ℕ, List, [], ◌∷◌, ◌++◌, get_or, set, Some, None, Option}
use Rattle.apdu.specs.Applications.{App}
use Rattle.wire.specs.Lines.{Damage}
use Rattle.t0.specs.declared.settings.Settings.{Settings}
use Rattle.t0.specs.declared.terminal.Waiting.{Waiting}
use Rattle.t0.specs.declared.terminal.Want.{Want}
use Rattle.t0.specs.declared.terminal.Want.TheVariants.{Send, SendData, Receive}
use Rattle.t0.specs.declared.terminal.Step.{Step}
use Rattle.t0.specs.declared.terminal.Step.TheVariants.{Next, Keep, Done, Held, Broken}
use Rattle.t0.specs.Dialogues.{Word}
use Rattle.t0.specs.Cards.{Card, received, spoken}
use Rattle.t0.specs.Terminals.{wants, has_sent, hears}
use Rattle.t0.specs.Conversations.{Joined, End, done, held, broken, Talked, talk}
use Rattle.wire.specs.declared.traced.Sender.TheVariants as by

-- The two ends without a line between them: the terminal, the card, and the answer bytes in their places.
pub record Pair (S : Type 0) : Type 0 where
  pub terminal : Waiting
  pub card : Card S
  pub staged : List ℕ

-- Where a conversation stands: it goes on, or it stopped.
pub data Place (S : Type 0) : Type 0 where
  goes : Pair S → Place S
  stops : End → Card S → List ℕ → Place S

-- One character, and where the conversation stands once it arrived.
pub record Turn (S : Type 0) : Type 0 where
  pub word : Word
  pub next : Place S

abbrev pub after_step : {S : Type 0} → Card S → List ℕ → ℕ → Step → Place S
after_step c staged b (Next w) = goes (record { terminal = w; card = c; staged = staged })
after_step c staged b (Keep w i) = goes (record { terminal = w; card = c; staged = set staged i b })
after_step c staged b (Done _ count status) = stops (done count status) c staged
after_step c staged b (Held _ token) = stops (held token) c staged
after_step c staged b Broken = stops broken c staged

abbrev pub card_turn : {S : Type 0} → Pair S → List ℕ → Option (Turn S)
card_turn j [] = None
card_turn j (b ∷ _) =
    Some (record {
      word = record { sender = by.Card; byte = b };
      next = after_step (spoken j.card) j.staged b (hears j.terminal j.terminal.phase b);
    })

module _ {V : Type 0} (app : App V) (s : Settings) (body : List ℕ) where
  abbrev pub terminal_turn : Pair app.State → ℕ → Option (Turn app.State)
  terminal_turn j b =
      Some (record {
        word = record { sender = by.Terminal; byte = b };
        next = goes (record { terminal = has_sent j.terminal j.terminal.phase; card = received app s j.card b; staged = j.staged });
      })

  abbrev pub wanted_turn : Pair app.State → Want → Option (Turn app.State)
  wanted_turn j (Send b) = terminal_turn j b
  wanted_turn j (SendData i) = terminal_turn j (get_or body i 0)
  wanted_turn j Receive = card_turn j j.card.pending

  -- The next character between the ends, if there is one.
  abbrev pub turn : Pair app.State → Option (Turn app.State)
  turn j = wanted_turn j (wants j.terminal j.terminal.phase)

  -- Characters one after the other, where the application is in state x before each arrives.
  pub data Says (x : app.State) : Place app.State → List Word → Place app.State → Type 0 where
    none : {p : Place app.State} → Says x p [] p
    more : {j : Pair app.State} {w : Word} {p q : Place app.State} {ws : List Word} → j.card.state ≡ x
        → turn j ≡ Some (record { word = w; next = p }) → Says x p ws q → Says x (goes j) (w ∷ ws) q

  pub says_then : {x : app.State} {p q r : Place app.State} {ws vs : List Word} → Says x p ws q → Says x q vs r → Says x p (ws ++ vs) r
  says_then none b = b
  says_then (more e t a) b = more e t (says_then a b)

  -- The conversation from where it stands, over a line.
  abbrev pub join : Pair app.State → Damage → Joined app.State
  join j d = record { terminal = j.terminal; card = j.card; staged = j.staged; coming = d }

  abbrev pub talked : ℕ → Damage → Place app.State → Talked app.State
  talked n d (goes j) = talk app s body n (join j d)
  talked n d (stops e c staged) = record { end = e; card = c; staged = staged; coming = d; characters = [] }
