use Rattle.std.specs.Prelude.{ℕ}
use Rattle.apdu.specs.declared.refusal.Refusal.{Refusal}
use Rattle.apdu.specs.declared.refusal.Refusal.TheVariants.{Malformed, Reserved, Direction, Room, Lost, Protocol}
use Rattle.apdu.specs.declared.refusal.SettingRefusal.{SettingRefusal}
use Rattle.apdu.specs.declared.refusal.SettingRefusal.TheVariants.{OutsideLimits}

-- The numbers of the refusals of commands and links.
abbrev pub number : Refusal → ℕ
number Malformed = 1
number Reserved = 2
number Direction = 3
number Room = 4
number Lost = 5
number Protocol = 6

-- The numbers of the refusals that an installer meets.
abbrev pub setting_number : SettingRefusal → ℕ
setting_number OutsideLimits = 7
