use Rattle.std.specs.Prelude.{ℕ, min, false, List, [], ◌∷◌, None}
use Rattle.std.proofs.Math.Nat.{min-le_right}
use Rattle.apps.specs.Files.{Shelf}
use Rattle.link.specs.Meaning.{Linked}
use Rattle.link.specs.Meant.{quiet}
use Rattle.script.specs.declared.line.Protocol.{Protocol}
use Rattle.script.specs.declared.line.Protocol.TheVariants.{T0, T1}
use Rattle.script.specs.declared.line.Settings as script
use Rattle.t0.specs.declared.settings.Settings.{Settings}
use Rattle.t0link.specs.Links.{linked_by}
use Rattle.wire.specs.MarkedLines.{at_marks}

-- The card of the program: one file, 2F01, which holds 41 42, and none is current.
abbrev pub first_shelf : Shelf
first_shelf = record { files = record { id = 0x2F01; bytes = 0x41 ∷ (0x42 ∷ []) } ∷ []; current = None }

-- The card's settings that a link line says. It says at most 15 waits, so nothing is cut off here.
abbrev pub settings_said : script.Settings → Settings
settings_said s = record { waits = min s.waits 15; style = s.style; few = min-le_right s.waits 15 }

-- The link by its protocol: over T=0 with a line that damages the marked characters; for T=1 as yet the direct card.
abbrev pub link_by : Protocol → script.Settings → List ℕ → Linked Shelf
link_by T0 s marks = linked_by (settings_said s) (at_marks marks 0) first_shelf false
link_by T1 s marks = quiet first_shelf

-- The link that a link line and the positions of the damage lines say, with the card as it is at first.
abbrev pub link_said : script.Settings → List ℕ → Linked Shelf
link_said s marks = link_by s.protocol s marks
