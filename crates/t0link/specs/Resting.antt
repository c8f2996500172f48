use Rattle.std.specs.Prelude.{Bool, true, false, not, ◌||◌}
use Rattle.t0.specs.declared.card.Card.{Card}
use Rattle.t0.specs.declared.card.Kept.{Kept}
use Rattle.t0.specs.declared.card.Kept.TheVariants as kept
use Rattle.t0.specs.declared.card.Receiving.{Receiving}
use Rattle.t0.specs.declared.card.Receiving.TheVariants as receiving
use Rattle.t0.specs.CardValues.{has_some}

-- No header has begun.
abbrev pub has_begun : Receiving → Bool
has_begun receiving.Nothing = false
has_begun (receiving.Cla cla) = true
has_begun (receiving.ClaIns cla ins) = true
has_begun (receiving.ClaInsP1 cla ins p1) = true
has_begun (receiving.Header h) = true
has_begun (receiving.Data t) = true

-- Something is held by 6C.
abbrev pub is_by6C : Kept → Bool
is_by6C kept.Nothing = false
is_by6C (kept.By61 a) = false
is_by6C (kept.By6C h a) = true

-- A card rests between commands where it has begun no header, has nothing to send, and holds nothing by 6C.
abbrev pub resting : {V : Type 0} → Card V → Bool
resting c = not (has_begun c.receiving || (has_some c.out || is_by6C c.kept))
