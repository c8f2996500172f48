use Rattle.std.proofs.Common.{◌≡◌, ◌⊎◌, ℕ, Bool, true, false, List, [], ◌∷◌, length, get_or, Some, None, codes, refl, ap, ◌∙◌, inl, inr, arith}
use Rattle.std.proofs.lemmas.Slice.Eq.{bytes_eq-Decides}
use Rattle.std.specs.Str.{bytes_eq}
use Rattle.std.specs.Option.{option_map}
use Rattle.arrayvec.specs.ArrayVec.{ArrayVec}
use Rattle.script.specs.declared.line.Line.TheVariants.{Damage}
use Rattle.script.specs.Fields.{number}
use Rattle.script.specs.Lines.{after_word, apart}

-- another word, by its length and its bytes
abbrev pub IsLink : List ℕ → Type 0
IsLink w = (length w ≡ 4) × (get_or w 0 0 ≡ 108) × (get_or w 1 0 ≡ 105) × (get_or w 2 0 ≡ 110) × (get_or w 3 0 ≡ 107)

abbrev pub IsSend : List ℕ → Type 0
IsSend w = (length w ≡ 4) × (get_or w 0 0 ≡ 115) × (get_or w 1 0 ≡ 101) × (get_or w 2 0 ≡ 110) × (get_or w 3 0 ≡ 100)

abbrev pub IsReset : List ℕ → Type 0
IsReset w = (length w ≡ 5) × (get_or w 0 0 ≡ 114) × (get_or w 1 0 ≡ 101) × (get_or w 2 0 ≡ 115) × (get_or w 3 0 ≡ 101) × (get_or w 4 0 ≡ 116)

abbrev pub IsDamage : List ℕ → Type 0
IsDamage w = (length w ≡ 6) × (get_or w 0 0 ≡ 100) × (get_or w 1 0 ≡ 97) × (get_or w 2 0 ≡ 109) × (get_or w 3 0 ≡ 97) × (get_or w 4 0 ≡ 103) × (get_or w 5 0 ≡ 101)

other : (word w : List ℕ) → (word ≡ w → ⊥) → bytes_eq word w ≡ false
other word w h = by (bytes_eq word w) (bytes_eq-Decides word w).0
  where
    by : (t : Bool) → (t ≡ true → word ≡ w) → t ≡ false
    by true g = absurd (h (g refl))
    by false g = refl

abbrev pub IsKnown : List ℕ → Type 0
IsKnown w = IsLink w ⊎ (IsDamage w ⊎ (IsSend w ⊎ IsReset w))

-- a word that is none of the four says nothing
pub no_word : (word text : List ℕ) → (IsKnown word → ⊥) → None ≡ option_map apart (after_word word text)
no_word word text h =
    rw (
      other word (codes "link") (λ e. h (inl (rw e (refl, refl, refl, refl, refl)))),
      other word (codes "damage") (λ e. h (inr (inl (rw e (refl, refl, refl, refl, refl, refl, refl))))),
      other word (codes "send") (λ e. h (inr (inr (inl (rw e (refl, refl, refl, refl, refl)))))),
      other word (codes "reset") (λ e. h (inr (inr (inr (rw e (refl, refl, refl, refl, refl, refl)))))),
    ) refl

six : (w : List ℕ) → length w ≡ 6 → w ≡ get_or w 0 0 ∷ (get_or w 1 0 ∷ (get_or w 2 0 ∷ (get_or w 3 0 ∷ (get_or w 4 0 ∷ (get_or w 5 0 ∷ [])))))
six [] h = absurd (omega arith)
six (a ∷ []) h = absurd (omega arith)
six (a ∷ (b ∷ [])) h = absurd (omega arith)
six (a ∷ (b ∷ (c ∷ []))) h = absurd (omega arith)
six (a ∷ (b ∷ (c ∷ (d ∷ [])))) h = absurd (omega arith)
six (a ∷ (b ∷ (c ∷ (d ∷ (e ∷ []))))) h = absurd (omega arith)
six (a ∷ (b ∷ (c ∷ (d ∷ (e ∷ (f ∷ [])))))) h = refl
six (a ∷ (b ∷ (c ∷ (d ∷ (e ∷ (f ∷ (g ∷ w))))))) h = absurd (omega arith)

-- what the word `damage` says
pub damage_word : (word text : List ℕ) (n : ℕ) (v : ArrayVec ℕ) → IsDamage word → Some n ≡ number 0 65535 text → v.items ≡ [] → Some (Damage n, v) ≡ option_map apart (after_word word text)
damage_word word text n v h e i =
    let w : word ≡ codes "damage" = six word h.0 ∙ rw (h.1, h.2, h.3, h.4, h.5, h.6) refl in
    rw (w, ← e) (ap (λ (l : List ℕ). Some (Damage n, record { items = l })) i)
