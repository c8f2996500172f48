use Rattle.std.specs.Prelude.{ℕ, List, []}
use Rattle.apdu.specs.Applications.{App}
use Rattle.wire.specs.Lines.{Damage}
use Rattle.t0.specs.declared.card.Card as code
use Rattle.t0.specs.declared.settings.Settings.{Settings}
use Rattle.t0.specs.declared.talk.WiredCard.{WiredCard}
use Rattle.t0.specs.declared.terminal.Token.{Token}
use Rattle.t0.specs.declared.terminal.Waiting.{Waiting}
use Rattle.t0.specs.CardValues.{meant}
use Rattle.t0.specs.Cards.{Card, card_reset}
use Rattle.t0.specs.Conversations.{Joined, Talked, held}

-- A card at the end of a line: the card's settings, the card, and the line's coming damage.
pub record Wired (S : Type 0) : Type 0 where
  pub settings : Settings
  pub card : Card S
  pub coming : Damage

-- What a card and a line of the code mean together, where this is what the application means and how the line damages.
abbrev pub wiring : {V M : Type 0} (app : App V) → (M → Damage) → code.Card V → M → Wired app.State
wiring app damage card line = record { settings = card.settings; card = meant app card; coming = damage line }

-- What a wired card of the code means.
abbrev pub wired_of : {V M : Type 0} (app : App V) → (M → Damage) → WiredCard V M → Wired app.State
wired_of app damage w = wiring app damage w.card w.line

-- A warm reset of the card; nothing crosses the line.
abbrev pub after_reset : {V : Type 0} (app : App V) → Wired app.State → Wired app.State
after_reset app w = record { settings = w.settings; card = card_reset app w.card; coming = w.coming }

-- The terminal joined to a wired card, with the answer bytes received so far in their places.
abbrev pub joined : {S : Type 0} → Waiting → Wired S → List ℕ → Joined S
joined terminal w staged = record { terminal = terminal; card = w.card; staged = staged; coming = w.coming }

-- A conversation that left an answer held, as it stands before more crosses.
abbrev pub left_held : {S : Type 0} → Token → Wired S → List ℕ → Talked S
left_held token w staged = record { end = held token; card = w.card; staged = staged; coming = w.coming; characters = [] }
