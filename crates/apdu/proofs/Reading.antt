use Rattle.std.proofs.Common.{◌≡◌, ℕ, ◌+◌, ◌-◌, ◌<◌, ◌≤◌, List, [], ◌∷◌, length, get_or, take, drop, sym, refl, ap, ◌∙◌, arith}
use Rattle.std.proofs.lemmas.List.{take_rest}
use Rattle.apdu.specs.Commands.{command_of, after_header, with_data}

command_drop : (b : List ℕ) → 4 ≤ length b → command_of b ≡ after_header (get_or b 0 0) (get_or b 1 0) (get_or b 2 0) (get_or b 3 0) (drop 4 b)
command_drop [] h = absurd (omega arith)
command_drop (x ∷ []) h = absurd (omega arith)
command_drop (x ∷ (y ∷ [])) h = absurd (omega arith)
command_drop (x ∷ (y ∷ (z ∷ []))) h = absurd (omega arith)
command_drop (x ∷ (y ∷ (z ∷ (w ∷ r)))) h = refl

-- In the terms of the slice pattern, whose `rest @ ..` is `take (length b - 4) (drop 4 b)`.
pub command_long : (b : List ℕ) → 4 ≤ length b → after_header (get_or b 0 0) (get_or b 1 0) (get_or b 2 0) (get_or b 3 0) (take (length b - 4) (drop 4 b)) ≡ command_of b
command_long b h = rw (take_rest b 4) (sym (command_drop b h))

pub after_long : (cla ins p1 p2 : ℕ) (b : List ℕ) → 2 ≤ length b → with_data cla ins p1 p2 (get_or b 0 0) (take (length b - 1) (drop 1 b)) ≡ after_header cla ins p1 p2 b
after_long cla ins p1 p2 [] h = absurd (omega arith)
after_long cla ins p1 p2 (x ∷ []) h = absurd (omega arith)
after_long cla ins p1 p2 (x ∷ (y ∷ r)) h = rw (take_rest (x ∷ (y ∷ r)) 1)
