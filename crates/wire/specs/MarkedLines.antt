use Rattle.std.specs.Prelude.{ℕ, ◌+◌, Bool, true, ◌&&◌, List, [], ◌∷◌, length, take, Some, None, Ok, Err, Option, Result, ◌==◌, nat_le, nat_lt}
use Rattle.std.specs.List.{list_any}
use Rattle.apdu.specs.declared.refusal.SettingRefusal.{SettingRefusal}
use Rattle.apdu.specs.declared.refusal.SettingRefusal.TheVariants.{OutsideLimits}
use Rattle.wire.specs.Lines.{Damage}
use Rattle.wire.specs.declared.marked.MarkedLine.{MarkedLine}

-- Each position is above the one before it.
abbrev pub rising : List ℕ → Bool
rising [] = true
rising (p ∷ []) = true
rising (p ∷ (q ∷ ps)) = nat_lt p q && rising (q ∷ ps)

-- At most 64 positions, strictly rising. (That each is at most 65,535 is in their type.)
abbrev pub are_marks : List ℕ → Bool
are_marks ps = nat_le (length ps) 64 && rising ps

-- Whether a position is marked.
abbrev pub is_marked : List ℕ → ℕ → Bool
is_marked marks p = list_any (λ q. q == p) marks

-- The line damages the characters at the marked positions, counted from 0; `at` is the position of the next one.
abbrev pub at_marks : List ℕ → ℕ → Damage
at_marks marks at k = is_marked marks (at + k)

-- The positions of a marked line.
abbrev pub marks_of : MarkedLine → List ℕ
marks_of l = take l.count l.marks

-- What a marked line that was made holds: its positions, and the position of the next character.
abbrev pub begun : Result MarkedLine SettingRefusal → Option (List ℕ × ℕ)
begun (Ok l) = Some (marks_of l, l.at)
begun (Err OutsideLimits) = None
