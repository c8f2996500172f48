use Rattle.std.specs.Prelude.{◌≡◌, ℕ, zero, suc, ◌<◌, ◌≤◌, T, List, [], ◌∷◌, ◌++◌, length, take, ℤ, pos, ◌+ℤ◌, FitsSigned, nat_le, unsigned_abs, refl}
use Rattle.std.proofs.Common.{sym, subst, ⊎_elim, arith, Fits}
use Rattle.std.specs.Int.Signed.{non_neg}
use Rattle.std.specs.Int.{w32}
use Rattle.std.proofs.lemmas.List.{take-append-le, take_all, length-append}
use Rattle.std.proofs.lemmas.Int.{ints}
use Rattle.std.proofs.lemmas.Bool.{cases_lt, cond_both}
use Rattle.apps.specs.Purse.{balance, within, joined, recorded, Sound}

pub balance_push : (ms : List ℤ) (m : ℤ) → balance (ms ++ (m ∷ [])) ≡ balance ms +ℤ m
balance_push [] m = omega (arith, ints)
balance_push (n ∷ ms) m = let e = balance_push ms m in omega (arith, ints)

pub balance_joined : (ms : List ℤ) → balance (joined ms) ≡ balance ms
balance_joined [] = refl
balance_joined (m ∷ []) = refl
balance_joined (m ∷ (n ∷ ms)) = omega (arith, ints)

-- Movements of 0 have a balance of 0, and are sound; so are none.
abbrev Zeros : List ℤ → Type 0
Zeros [] = Unit {0}
Zeros (m ∷ ms) = (m ≡ pos 0) × Zeros ms

balance_zeros : (ms : List ℤ) (n : ℕ) → Zeros ms → balance (take n ms) ≡ pos 0
balance_zeros ms zero h = refl
balance_zeros [] (suc n) h = refl
balance_zeros (m ∷ ms) (suc n) h = let e = balance_zeros ms n h.1 in omega (arith, ints, h.0)

pub sound_zeros : (ms : List ℤ) → Zeros ms → Sound ms
sound_zeros ms h n = subst (λ (b : ℤ). T (within b)) (sym (balance_zeros ms n h)) tt

sound_joined : (ms : List ℤ) → Sound ms → Sound (joined ms)
sound_joined [] h k = h k
sound_joined (m ∷ []) h k = h k
sound_joined (m ∷ (n ∷ ms)) h zero = tt
sound_joined (m ∷ (n ∷ ms)) h (suc k) =
    let e : m +ℤ (n +ℤ balance (take k ms)) ≡ m +ℤ n +ℤ balance (take k ms) = omega (arith, ints) in
    subst (λ (b : ℤ). T (within b)) e (h (suc (suc k)))

-- A movement more keeps them sound where the new balance lies in its limits.
sound_push : (ms : List ℤ) (m : ℤ) → Sound ms → T (within (balance ms +ℤ m)) → Sound (ms ++ (m ∷ []))
sound_push ms m h w k =
    ⊎_elim
    (λ (l : length ms < k).
    subst
    (λ (xs : List ℤ). T (within (balance xs)))
    (sym (take_all k (ms ++ (m ∷ [])) (simp length-append (omega arith))))
    (subst (λ (b : ℤ). T (within b)) (sym (balance_push ms m)) w))
    (λ (l : k ≤ length ms). subst (λ (xs : List ℤ). T (within (balance xs))) (sym (take-append-le k ms (m ∷ []) l)) (h k))
    (cases_lt (length ms) k)

-- The whole balance of sound movements lies in its limits.
pub sound_whole : (ms : List ℤ) → Sound ms → T (within (balance ms))
sound_whole ms h = subst (λ (xs : List ℤ). T (within (balance xs))) (take_all (length ms) ms (omega arith)) (h (length ms))

-- A sum that is a balance in its limits, as cents: they are the balance, at most 1,000,000, and fit 32 bits.
pub cents_of : (s b : ℤ) → s ≡ b → T (within b) → pos (unsigned_abs s) ≡ b
cents_of s b e h = grind (arith, ints)

pub cents_limit : (s b : ℤ) → s ≡ b → T (within b) → unsigned_abs s ≤ 1000000
cents_limit s b e h = grind (arith, ints)

pub cents_fit : (s b : ℤ) → s ≡ b → T (within b) → T (non_neg s) × Fits w32 (unsigned_abs s)
cents_fit s b e h = grind (arith, ints)

-- A balance in its limits fits 32 bits with a sign.
pub fits_within : (b : ℤ) → T (within b) → FitsSigned w32 b
fits_within b h = grind (arith, ints)

-- What is recorded leaves the movements sound.
pub sound_recorded : (ms : List ℤ) (m : ℤ) → Sound ms → T (within (balance ms +ℤ m)) → Sound (recorded ms m)
sound_recorded ms m h w =
    cond_both (nat_le 32 (length ms)) (joined ms) ms (λ (xs : List ℤ). Sound (xs ++ (m ∷ [])))
    (λ _. sound_push (joined ms) m (sound_joined ms h) (subst (λ (b : ℤ). T (within (b +ℤ m))) (sym (balance_joined ms)) w))
    (λ _. sound_push ms m h w)
