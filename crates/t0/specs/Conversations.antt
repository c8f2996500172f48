use Rattle.std.specs.Prelude.{ℕ, zero, suc, cond, List, [], ◌∷◌, ◌++◌, ◌==◌, slice_index, slice_set}
use Rattle.apdu.specs.Applications.{App}
use Rattle.apdu.specs.Statuses as statuses
use Rattle.apdu.specs.declared.status.Status.{Status}
use Rattle.wire.specs.Lines.{Damage}
use Rattle.wire.specs.declared.traced.Sender.TheVariants as by
use Rattle.wire.specs.declared.traced.Traced.{Traced}
use Rattle.t0.specs.declared.settings.Settings.{Settings}
use Rattle.t0.specs.declared.terminal.Waiting.{Waiting}
use Rattle.t0.specs.declared.terminal.Token.{Token}
use Rattle.t0.specs.declared.terminal.Want.{Want}
use Rattle.t0.specs.declared.terminal.Want.TheVariants.{Send, SendData, Receive}
use Rattle.t0.specs.declared.terminal.Step.{Step}
use Rattle.t0.specs.declared.terminal.Step.TheVariants.{Next, Keep, Done, Held, Broken}
use Rattle.t0.specs.Delivery.{sent_once}
use Rattle.t0.specs.Cards.{Card, received, spoken}
use Rattle.t0.specs.Terminals.{wants, has_sent, hears, fetches}

-- The two ends joined by a line: the terminal, the card, the answer bytes received so far in their places, and the line's
-- coming damage.
pub record Joined (S : Type 0) : Type 0 where
  pub terminal : Waiting
  pub card : Card S
  pub staged : List ℕ
  pub coming : Damage

-- How a conversation ends: done, with a count of answer bytes and a status; with an answer held; with the protocol broken; or
-- lost on the line.
pub data End : Type 0 where
  done : ℕ → Status → End
  held : Token → End
  broken : End
  lost : End

-- What a conversation came to: its end, the card, the answer bytes in their places, the line's coming damage, and the
-- characters that crossed.
pub record Talked (S : Type 0) : Type 0 where
  pub end : End
  pub card : Card S
  pub staged : List ℕ
  pub coming : Damage
  pub characters : List Traced

-- The conversation ends so, and no more crosses.
abbrev pub ended : {S : Type 0} → End → Joined S → Talked S
ended e j = record { end = e; card = j.card; staged = j.staged; coming = j.coming; characters = [] }

-- These characters crossed before it.
abbrev pub before : {S : Type 0} → List Traced → Talked S → Talked S
before cs t = record { end = t.end; card = t.card; staged = t.staged; coming = t.coming; characters = cs ++ t.characters }

-- Either it goes on, or it ended.
pub data After (S : Type 0) : Type 0 where
  on : Joined S → After S
  off : Talked S → After S

-- One character between the ends, with what crossed the line for it.
pub record Spoken (S : Type 0) : Type 0 where
  pub characters : List Traced
  pub after : After S

-- More characters than any conversation has.
abbrev pub most : ℕ
most = 16384

module _ {V : Type 0} (app : App V) (s : Settings) (body : List ℕ) where
  -- The terminal sends a character, and the card sees it if it arrives.
  abbrev pub terminal_speaks : Joined app.State → ℕ → Spoken app.State
  terminal_speaks j b =
      let t = sent_once j.coming (record { sender = by.Terminal; byte = b }) in
      record {
        characters = t.characters;
        after =
            cond t.arrived
            (on (record { terminal = has_sent j.terminal j.terminal.phase; card = received app s j.card b; staged = j.staged; coming = t.coming }))
            (off (record { end = lost; card = j.card; staged = j.staged; coming = t.coming; characters = [] }));
      }

  -- What the terminal makes of a character that arrived.
  abbrev pub by_step : Card app.State → List ℕ → Damage → ℕ → Step → After app.State
  by_step c staged d b (Next w) = on (record { terminal = w; card = c; staged = staged; coming = d })
  by_step c staged d b (Keep w i) = on (record { terminal = w; card = c; staged = slice_set staged i b; coming = d })
  by_step c staged d b (Done _ count status) = off (record { end = done count status; card = c; staged = staged; coming = d; characters = [] })
  by_step c staged d b (Held _ token) = off (record { end = held token; card = c; staged = staged; coming = d; characters = [] })
  by_step c staged d b Broken = off (record { end = broken; card = c; staged = staged; coming = d; characters = [] })

  -- The card sends its next character, and the terminal hears it if it arrives. A card that has nothing to send while the
  -- terminal waits breaks the protocol.
  abbrev pub card_speaks : Joined app.State → List ℕ → Spoken app.State
  card_speaks j [] = record { characters = []; after = off (ended broken j) }
  card_speaks j (b ∷ _) =
      let t = sent_once j.coming (record { sender = by.Card; byte = b }) in
      record {
        characters = t.characters;
        after =
            cond t.arrived
            (by_step (spoken j.card) j.staged t.coming b (hears j.terminal j.terminal.phase b))
            (off (record { end = lost; card = spoken j.card; staged = j.staged; coming = t.coming; characters = [] }));
      }

  -- The terminal speaks where it wants to send, with a byte of its own or one of the data; else the card speaks.
  abbrev pub by_want : Joined app.State → Want → Spoken app.State
  by_want j (Send b) = terminal_speaks j b
  by_want j (SendData i) = terminal_speaks j (slice_index body i)
  by_want j Receive = card_speaks j j.card.pending

  -- Whose turn it is to speak is what the terminal wants.
  abbrev pub speaks : Joined app.State → Spoken app.State
  speaks j = by_want j (wants j.terminal j.terminal.phase)

  -- The conversation, for at most so many characters.
  unfoldable pub talk : ℕ → Joined app.State → Talked app.State
  talk zero j = ended broken j
  talk (suc n) j =
      let k = speaks j in
      elim k.after [ on i ↦ before k.characters (talk n i) | off t ↦ before k.characters t ]

  -- After 61 the terminal discards the held answer where Ne is 0, and reports 9000; else it fetches it.
  abbrev pub then_fetch : ℕ → Talked app.State → End → Talked app.State
  then_fetch n t (done count status) = t
  then_fetch n t (held token) =
      cond (token.ne == 0)
      (record { end = done 0 statuses.done; card = t.card; staged = t.staged; coming = t.coming; characters = t.characters })
      (before t.characters (talk n (record { terminal = fetches token; card = t.card; staged = t.staged; coming = t.coming })))
  then_fetch n t broken = t
  then_fetch n t lost = t

  -- The whole conversation of a command.
  abbrev pub converse : ℕ → Joined app.State → Talked app.State
  converse n j = then_fetch n (talk n j) (talk n j).end
