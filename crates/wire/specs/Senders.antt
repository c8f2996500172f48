use Rattle.std.specs.Prelude.{Bool, true, false, cond}
use Rattle.wire.specs.declared.traced.Sender.{Sender}
use Rattle.wire.specs.declared.traced.Sender.TheVariants.{Terminal, Card}
use Rattle.wire.specs.declared.traced.Traced.{Traced}

-- Whether it is the card that sent.
abbrev pub is_card : Sender → Bool
is_card Terminal = false
is_card Card = true

-- Who sent a traced character.
abbrev pub sender_of : Traced → Sender
sender_of c = cond c.by_card Card Terminal
