use Rattle.std.proofs.Common.{◌≡◌, ℕ, ◌+◌, ◌<◌, ◌≤◌, List, [], ◌∷◌, ◌++◌, length, get_or, drop, set, sym, ap, ◌∙◌, arith}
use Rattle.std.proofs.lemmas.List.{append_assoc, drop_more, set_at, length-append, length-drop, length_push}
use Rattle.script.specs.Hex.{opened}

-- one more byte after those that open a memory
pub opened_push : (bs memory : List ℕ) (i v : ℕ) → length bs ≡ i → i < length memory → set (opened bs memory) i v ≡ opened (bs ++ v ∷ []) memory
opened_push bs memory i v e h =
    let k : length (bs ++ v ∷ []) ≡ i + 1 = length_push bs v ∙ ap (λ (n : ℕ). n + 1) e in
    rw (e, k, drop_more memory i 0 h) (set_at bs (get_or memory i 0) (drop (i + 1) memory) v i e ∙ sym (append_assoc bs (v ∷ []) (drop (i + 1) memory)))

pub length_opened : (bs memory : List ℕ) → length bs ≤ length memory → length (opened bs memory) ≡ length memory
length_opened bs memory h = simp (length-append, length-drop) (omega arith)
