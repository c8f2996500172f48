use Rattle.std.specs.Prelude.{◌≡◌, ℕ, zero, suc, ◌+◌, Bool, true, false, cond, List, [], ◌∷◌, ◌++◌, ◌==◌}
use Rattle.wire.specs.Lines.{Damage, later}
use Rattle.wire.specs.Senders.{is_card}
use Rattle.wire.specs.declared.traced.Sender.{Sender}
use Rattle.wire.specs.declared.traced.Traced.{Traced}
use Rattle.t0.specs.Dialogues.{Word}

-- What sending came to: whether all arrived, the characters that crossed the line, and the line's damage still to come.
pub record Delivered : Type 0 where
  pub arrived : Bool
  pub characters : List Traced
  pub coming : Damage

-- A character on the line, and whether it was damaged.
abbrev pub traced : Sender → ℕ → Bool → Traced
traced sender b x = record { by_card = is_card sender; byte = b; damaged = x }

-- A character is sent until it arrives undamaged, at most as many times as given.
abbrev pub tried : Damage → Sender → ℕ → ℕ → Delivered
tried d sender b zero = record { arrived = false; characters = []; coming = d }
tried d sender b (suc left) =
    cond (d 0)
    (let rest = tried (later d) sender b left in
    record { arrived = rest.arrived; characters = traced sender b true ∷ rest.characters; coming = rest.coming })
    (record { arrived = true; characters = traced sender b false ∷ []; coming = later d })

-- A character has four tries.
abbrev pub sent_once : Damage → Word → Delivered
sent_once d w = tried d w.sender w.byte 4

-- One delivery after another: the second only if the first arrived.
abbrev pub then : Delivered → Delivered → Delivered
then t u = cond t.arrived (record { arrived = u.arrived; characters = t.characters ++ u.characters; coming = u.coming }) t

-- A dialogue over a line: each character in turn, until one does not arrive.
unfoldable pub deliver : Damage → List Word → Delivered
deliver d [] = record { arrived = true; characters = []; coming = d }
deliver d (w ∷ ws) = then (sent_once d w) (deliver (sent_once d w).coming ws)

-- Whether four characters running are damaged, where `n` running before them were.
abbrev pub four_running : ℕ → List Traced → Bool
four_running n [] = false
four_running n (c ∷ cs) = cond c.damaged (cond (n == 3) true (four_running (n + 1) cs)) (four_running 0 cs)

-- A dialogue is lost exactly if four characters running in its trace are damaged.
abbrev pub LostExactly : Type 0
LostExactly = (d : Damage) (ws : List Word) →
    ((deliver d ws).arrived ≡ false → four_running 0 (deliver d ws).characters ≡ true)
    × (four_running 0 (deliver d ws).characters ≡ true → (deliver d ws).arrived ≡ false)
