use Rattle.std.specs.Prelude.{Some, None, Ok, Err, Option, Result}
use Rattle.apdu.specs.Applications.{App}
use Rattle.apdu.specs.declared.refusal.SettingRefusal.{SettingRefusal}
use Rattle.apdu.specs.declared.refusal.SettingRefusal.TheVariants.{OutsideLimits}
use Rattle.apps.specs.Files.{Shelf, files_run, files_reset}
use Rattle.apps.specs.declared.files.Files.{Files}

-- What was made: a value in a state, or none where the setting was refused as outside its limits.
abbrev pub shelf_if : Result Files SettingRefusal → Option Shelf
shelf_if (Ok f) = Some f
shelf_if (Err OutsideLimits) = None

-- The files as an application. They are seen as their shelf, which is their state.
abbrev pub files_app : App Files
files_app = record { State = Shelf; state = λ f. f; runs = files_run; resets = files_reset }
