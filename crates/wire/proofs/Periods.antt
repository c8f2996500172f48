use Rattle.std.proofs.Common.{◌≡◌, ℕ, ◌+◌, ◌%◌, ◌<◌, true, false, eqb, sym, ap, ◌∙◌, mod-eq_of_lt, arith, eq-eqb, ne_eqb}
use native.Mathlib.Nat.{mod_self, add-mod_left}
use Rattle.wire.specs.PeriodicLines.{every}

-- The p-th character since the last that was damaged is damaged, and the counting begins again.
pub hit : (p past : ℕ) → past + 1 ≡ p → every p past 0 ≡ true
hit p past e = eq-eqb _ 0 (ap (λ (n : ℕ). n % p) (let z : past + (0 + 1) ≡ p = omega arith in z) ∙ mod_self p)

pub hit_left : (p past k : ℕ) → past + 1 ≡ p → every p 0 k ≡ every p past (k + 1)
hit_left p past k e =
    ap (λ (n : ℕ). eqb n 0)
    (ap (λ (n : ℕ). n % p) (let z : 0 + (k + 1) ≡ k + 1 = omega arith in z) ∙ sym (add-mod_left p (k + 1))
    ∙ ap (λ (n : ℕ). n % p) (let z : p + (k + 1) ≡ past + (k + 1 + 1) = omega arith in z))

pub miss : (p past : ℕ) → past + 1 < p → every p past 0 ≡ false
miss p past h =
    ne_eqb _ 0 (λ z. let w : past + (0 + 1) ≡ 0 = sym (mod-eq_of_lt (let l : past + (0 + 1) < p = omega arith in l)) ∙ z in omega arith)

pub miss_left : (p past k : ℕ) → every p (past + 1) k ≡ every p past (k + 1)
miss_left p past k = ap (λ (n : ℕ). eqb (n % p) 0) (let z : past + 1 + (k + 1) ≡ past + (k + 1 + 1) = omega arith in z)
