use Rattle.std.proofs.Common.{◌≡◌, ◌++◌, take}
use Rattle.script.specs.Hex.{hex}
use Rattle.script.proofs.text.push_hex.Given as goal

abbrev pub invariant-loop-byte : goal.invariant-loop-byte
invariant-loop-byte g l = l.text.bytes ≡ l.initial.text.bytes ++ hex (take l.byte-index l.bytes)
