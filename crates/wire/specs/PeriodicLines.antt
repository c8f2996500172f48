use Rattle.std.specs.Prelude.{ℕ, ◌+◌, ◌%◌, Bool, ◌&&◌, Some, None, Ok, Err, Option, Result, ◌==◌, nat_le}
use Rattle.apdu.specs.declared.refusal.SettingRefusal.{SettingRefusal}
use Rattle.apdu.specs.declared.refusal.SettingRefusal.TheVariants.{OutsideLimits}
use Rattle.wire.specs.Lines.{Damage}
use Rattle.wire.specs.declared.periodic.PeriodicLine.{PeriodicLine}

-- A period may be 2 to 255.
abbrev pub is_period : ℕ → Bool
is_period p = nat_le 2 p && nat_le p 255

-- The line damages every p-th character, counted from 1; `past` have crossed since the last that was damaged.
abbrev pub every : ℕ → ℕ → Damage
every p past k = (past + (k + 1)) % p == 0

-- What a periodic line that was made holds: its period, and how many have crossed since the last that was damaged.
abbrev pub begun : Result PeriodicLine SettingRefusal → Option (ℕ × ℕ)
begun (Ok l) = Some (l.period, l.past)
begun (Err OutsideLimits) = None
