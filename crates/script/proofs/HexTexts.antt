use Rattle.std.proofs.Common.{◌≡◌, ℕ, ◌+◌, ◌/◌, ◌%◌, ◌<◌, List, [], ◌∷◌, ◌++◌, length, get_or, take, sym, refl, ap, ◌∙◌}
use Rattle.std.proofs.lemmas.List.{append_assoc, take_more}
use Rattle.script.specs.Hex.{hex, hex_digit}

hex_append : (xs ys : List ℕ) → hex (xs ++ ys) ≡ hex xs ++ hex ys
hex_append [] ys = refl
hex_append (x ∷ xs) ys = ap (λ (l : List ℕ). hex_digit (x / 16) ∷ (hex_digit (x % 16) ∷ l)) (hex_append xs ys)

-- one byte more has been written, as two digits
pub hex_more : (start more : List ℕ) (i : ℕ) (text half all : List ℕ) (a b : ℕ) → i < length more → text ≡ start ++ hex (take i more) → a ≡ hex_digit (get_or more i 0 / 16) → half ≡ text ++ a ∷ [] → b ≡ hex_digit (get_or more i 0 % 16) → all ≡ half ++ b ∷ [] → all ≡ start ++ hex (take (i + 1) more)
hex_more start more i text half all a b h e f g k m =
    let x = get_or more i 0 in
    m ∙ rw (g, e, f, k) (append_assoc (start ++ hex (take i more)) (hex_digit (x / 16) ∷ []) (hex_digit (x % 16) ∷ []) ∙ append_assoc start (hex (take i more)) (hex (x ∷ [])))
    ∙ ap (λ (l : List ℕ). start ++ l) (sym (ap hex (take_more more i 0 h) ∙ hex_append (take i more) (x ∷ [])))
