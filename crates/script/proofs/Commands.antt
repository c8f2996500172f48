use Rattle.std.proofs.Common.{ℕ, ◌+◌, ◌*◌, ◌%◌, cond, ◌&&◌, eqb, leb, List, ◌++◌, length, Some, None, Option}
use Rattle.script.specs.Hex.{all_hex, pairs}

-- the command of digits of which the first have been read
abbrev pub continued : List ℕ → List ℕ → Option (List ℕ)
continued read rest =
    cond (leb (2 * length read + length rest) 600 && (eqb (length rest % 2) 0 && all_hex rest)) (Some (read ++ pairs rest)) None
