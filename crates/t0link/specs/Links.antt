use Rattle.std.specs.Prelude.{Bool, cond, [], Some, None, Option}
use Rattle.apdu.specs.Applications.{App, Reply}
use Rattle.apdu.specs.Commands.{Command, command_of}
use Rattle.wire.specs.Lines.{Damage}
use Rattle.link.specs.Meaning.{Asked, command, reset, Crossing, Fate, carried, before, after, Linked, coming}
use Rattle.t0.specs.declared.settings.Settings.{Settings}
use Rattle.t0.specs.Dialogues.{Dialogue, dialogue, whole}
use Rattle.t0.specs.Delivery.{deliver}
use Rattle.t0link.specs.declared.t0_link.T0Link.{T0Link}

-- What is said for a command that was read; for one that is malformed nothing.
abbrev pub said_by : Settings → Option Command → Reply → Dialogue
said_by s None r = record { opening = []; closing = [] }
said_by s (Some c) r = dialogue s c r

-- What is said when this is asked; for a reset nothing.
abbrev pub said : Settings → Asked → Dialogue
said s (command bytes r) = said_by s (command_of bytes) r
said s reset = record { opening = []; closing = [] }

-- How a turn fares, by what the line delivers of all that is said and of the opening: it is carried where all arrive; else it
-- is lost, after the application ran where the opening arrived.
abbrev pub fate_of : Bool → Bool → Fate
fate_of all opening = cond all carried (cond opening after before)

-- What crosses the line when this is asked: the dialogue as the line delivers it.
abbrev pub crosses : Settings → Damage → Asked → Crossing
crosses s d a =
    record {
      characters = (deliver d (whole (said s a))).characters;
      fate = fate_of (deliver d (whole (said s a))).arrived (deliver d (said s a).opening).arrived;
    }

-- The line's damage that is then to come.
abbrev pub leaves : Settings → Damage → Asked → Damage
leaves s d a = (deliver d (whole (said s a))).coming

-- What a T=0 link means: the application's state, whether it is lost, and for coming turns what crosses.
abbrev pub linked_by : {S : Type 0} → Settings → Damage → S → Bool → Linked S
linked_by s d x lost = record { state = x; lost = lost; coming = coming (crosses s) (leaves s) d }

-- The link that a value of the code means, where this is what the application means and how the line damages.
abbrev pub link_of : {V M : Type 0} (app : App V) → (M → Damage) → T0Link V M → Linked app.State
link_of app damage l = linked_by l.wired.card.settings (damage l.wired.line) (app.state l.wired.card.app) l.lost
