use Rattle.std.specs.Prelude.{◌≡◌, Bool, false, List, [], ◌∷◌, ◌==◌}
use Rattle.apdu.specs.Applications.{App}
use Rattle.wire.specs.Lines.{Damage}
use Rattle.wire.specs.declared.traced.Traced.{Traced}
use Rattle.link.specs.Exchange.{Exchanged, first_where}
use Rattle.link.specs.Laws.{AsDirect, loss}
use Rattle.link.specs.Meaning.{Asked, reset, played}
use Rattle.link.specs.Turns.{Call, Gave, gives, restarted, denied, gaves}
use Rattle.t0.specs.declared.settings.Settings.{Settings}
use Rattle.t0.specs.Delivery.{deliver, four_running}
use Rattle.t0.specs.Dialogues.{whole}
use Rattle.t0link.specs.Links.{said, leaves, linked_by}

-- What crosses in one turn that passes 1 to 4, on a link that stands and a line with this damage: exactly the dialogue as the
-- line delivers it, and nothing for a reset; and the turn loses the link exactly if four of its characters running are damaged.
pub record CrossesT0 (s : Settings) (d : Damage) (a : Asked) (characters : List Traced) (gone : Bool) : Type 0 where
  pub delivered : characters ≡ (deliver d (whole (said s a))).characters
  pub none_for_reset : a ≡ reset → characters ≡ []
  pub four : gone ≡ four_running 0 characters

-- No turn gave refusal 6.
abbrev pub six : Gave → Bool
six (gives _ _) = false
six restarted = false
six (denied n) = n == 6

abbrev pub NeverSix : List Gave → Type 0
NeverSix [] = Unit {0}
NeverSix (g ∷ gs) = (six g ≡ false) × NeverSix gs

-- What holds of all calls over a T=0 link with these settings, on a line with this damage, from the application's state x and a
-- card as a reset leaves it:
-- entries, buffers and states are those of the direct card that is told the turn of the loss; turn by turn the characters are
-- those above, and none for a turn refused with 1 to 4 or on a link lost before; the link is lost in exactly the first turn with
-- four damaged characters running; and no turn gives 6.
pub record OverT0 {V : Type 0} (app : App V) (s : Settings) (d : Damage) (x : app.State) (cs : List Call) : Type 0 where
  pub direct : AsDirect app (linked_by s d x false) cs
  pub exchanged : Exchanged app (leaves s) (CrossesT0 s) x d false (played app (linked_by s d x false) cs).turns
  pub lost : loss (played app (linked_by s d x false) cs) ≡ first_where (four_running 0) (played app (linked_by s d x false) cs).turns
  pub never_six : NeverSix (gaves (played app (linked_by s d x false) cs).turns)

-- The law of the T=0 link: so it is for all settings, damage, states and calls.
abbrev pub T0Law : {V : Type 0} → App V → Type 0
T0Law app = (s : Settings) (d : Damage) (x : app.State) (cs : List Call) → OverT0 app s d x cs
