use Rattle.std.specs.Prelude.{[]}
use Rattle.apdu.specs.Applications.{App}
use Rattle.link.specs.Direct.{Direct}
use Rattle.link.specs.Meaning.{Linked, Crossing, carried, link_at}
use Rattle.link.specs.Turns as turns
use Rattle.link.specs.declared.direct.DirectCard.{DirectCard}
use Rattle.link.specs.declared.direct_link.DirectLink.{DirectLink}
use Rattle.link.specs.declared.turn.Order.{Order}
use Rattle.link.specs.declared.turn.Order.TheVariants.{Send, Reset}

-- The order that a value of the code means.
abbrev pub meant_order : Order → turns.Order
meant_order (Send bytes) = turns.send bytes.now
meant_order Reset = turns.restart

-- The direct card that a value of the code means.
abbrev pub meant : {V : Type 0} (app : App V) → DirectCard V → Direct app.State
meant app d = record { state = app.state d.app; told = d.told }

-- A turn that is carried with no character crossing.
abbrev pub silent : Crossing
silent = record { characters = []; fate = carried }

-- A link with no line: nothing stands between its turns, and each is carried with no character crossing.
abbrev pub quiet : {S : Type 0} → S → Linked S
quiet x = link_at {W = Unit {0}} (λ _ _. silent) (λ _ _. tt) x tt

-- The link that a value of the code means.
abbrev pub meant_link : {V : Type 0} (app : App V) → DirectLink V → Linked app.State
meant_link app d = quiet (app.state d.app)
