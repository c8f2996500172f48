use Rattle.std.specs.Prelude.{ℕ, Some, None, Ok, Err, Option, Result}
use Rattle.apdu.specs.declared.refusal.SettingRefusal.{SettingRefusal}
use Rattle.apdu.specs.declared.refusal.SettingRefusal.TheVariants.{OutsideLimits}
use Rattle.t0.specs.declared.settings.Settings.{Settings}
use Rattle.t0.specs.declared.settings.Style.{Style}

-- The waits and the style of settings that were made.
abbrev pub set_to : Result Settings SettingRefusal → Option (ℕ × Style)
set_to (Ok s) = Some (s.waits, s.style)
set_to (Err OutsideLimits) = None
