use Rattle.std.specs.Prelude.{List, ℤ}
use Rattle.apdu.specs.Applications.{App}
use Rattle.apps.specs.Purse.{purse_run, purse_reset}
use Rattle.apps.specs.declared.purse.Purse.{Purse}

-- A purse as an application. It is seen as the movements that it holds, which are its state.
abbrev pub purse_means : App Purse
purse_means = record { State = List ℤ; state = λ ms. ms; runs = purse_run; resets = purse_reset }
