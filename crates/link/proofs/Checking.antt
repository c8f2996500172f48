use Rattle.std.proofs.Common.{◌≡◌, ℕ, Bool, true, false, cond, eqb, ltb, List, Some, None, Option, refl}
use Rattle.apdu.specs.Commands.{Command, command_of, reserved, inward, agrees}
use Rattle.apdu.specs.Judging.{Judged, refused, passes, judged, checked}

-- A number that is not 5 and that no row takes for another kind.
pub record Own (n : ℕ) : Type 0 where
  pub not_five : eqb n 5 ≡ false
  pub not_done : eqb n 0 ≡ false
  pub not_reset : eqb n 16 ≡ false

-- What refuses a command has such a number, and what passes is the command that was read.
pub data Checks (m : Option Command) : Judged → Type 0 where
  turned_down : (n : ℕ) → Own n → Checks m (refused n)
  let_pass : (c : Command) → m ≡ Some c → Checks m (passes c)

by_tests : (c : Command) (r f s : Bool) → Checks (Some c) (cond r (refused 2) (cond f (cond s (refused 4) (passes c)) (refused 3)))
by_tests c true f s = turned_down 2 (record { not_five = refl; not_done = refl; not_reset = refl })
by_tests c false false s = turned_down 3 (record { not_five = refl; not_done = refl; not_reset = refl })
by_tests c false true true = turned_down 4 (record { not_five = refl; not_done = refl; not_reset = refl })
by_tests c false true false = let_pass c refl

checks : (room : ℕ) (m : Option Command) → Checks m (checked room m)
checks room None = turned_down 1 (record { not_five = refl; not_done = refl; not_reset = refl })
checks room (Some c) = by_tests c (reserved c.cla c.ins) (agrees (inward c.ins) c.kind) (ltb room c.ne)

pub judges : (bytes : List ℕ) (room : ℕ) → Checks (command_of bytes) (judged bytes room)
unfolding judged
judges bytes room = checks room (command_of bytes)
