use Rattle.std.proofs.Common.{◌≡◌, ℕ, suc, ◌-◌, ◌<◌, ◌≤◌, true, false, ◌&&◌, ◌||◌, eqb, leb, ◌⊎◌, refl, ◌∙◌, inl, inr, arith}
use Rattle.std.proofs.lemmas.Bool.{eq-eqb, ne_eqb, le-leb, cond-true, cond-false, and_from, or_left, or_right, or_parts, and_cases, leb-false}
use Rattle.apdu.specs.Commands.{reserved}
use Rattle.t0.specs.declared.terminal.Phase.TheVariants.{Procedure, Closing}
use Rattle.t0.specs.declared.terminal.Waiting.{Waiting}
use Rattle.t0.specs.declared.terminal.Step.TheVariants.{Next, Broken}
use Rattle.t0.specs.Procedures.{is_sw1}
use Rattle.t0.specs.Terminals.{at_phase, moving, move, procedure_byte}
use Rattle.t0link.proofs.TalkSegments.{due_at}

-- An INS that is no SW1 and not 60, nor is its inverse.
pub record Free (ins : ℕ) : Type 0 where
  pub low : (ins < 0x60) ⊎ (0x6F < ins)
  pub high : (ins < 0x90) ⊎ (0x9F < ins)

-- A byte from 61 to 6F or from 90 to 9F.
abbrev pub Sw1 : ℕ → Type 0
Sw1 b = ((0x61 ≤ b) × (b ≤ 0x6F)) ⊎ ((0x90 ≤ b) × (b ≤ 0x9F))

outside : (a b n : ℕ) → (leb a n && leb n b) ≡ false → (n < a) ⊎ (b < n)
outside a b n e = side (and_cases (leb a n) (leb n b) e)
  where
    side : (leb a n ≡ false) ⊎ (leb n b ≡ false) → (n < a) ⊎ (b < n)
    side (inl h) = inl (leb-false a n h)
    side (inr h) = inr (leb-false n b h)

-- An INS that is not reserved is free, and is not C0.
pub free_ins : (cla ins : ℕ) → reserved cla ins ≡ false → Free ins
free_ins cla ins e =
    let p = or_parts (eqb cla 0xFF || (leb 0x60 ins && leb ins 0x6F) || (leb 0x90 ins && leb ins 0x9F)) (eqb ins 0xC0) e in
    let q = or_parts (eqb cla 0xFF || (leb 0x60 ins && leb ins 0x6F)) (leb 0x90 ins && leb ins 0x9F) p.0 in
    let r = or_parts (eqb cla 0xFF) (leb 0x60 ins && leb ins 0x6F) q.0 in
    record { low = outside 0x60 0x6F ins r.1; high = outside 0x90 0x9F ins q.1 }

pub not_get_response : (cla ins : ℕ) → reserved cla ins ≡ false → eqb ins 0xC0 ≡ false
not_get_response cla ins e =
    (or_parts (eqb cla 0xFF || (leb 0x60 ins && leb ins 0x6F) || (leb 0x90 ins && leb ins 0x9F)) (eqb ins 0xC0) e).1

pub free_c0 : Free 0xC0
free_c0 = record { low = inr (omega arith); high = inr (omega arith) }

sw1_so : (b : ℕ) → Sw1 b → is_sw1 b ≡ true
sw1_so b (inl h) = or_left (leb 0x61 b && leb b 0x6F) (leb 0x90 b && leb b 0x9F) (and_from (leb 0x61 b) (leb b 0x6F) (le-leb 0x61 b h.0) (le-leb b 0x6F h.1))
sw1_so b (inr h) = or_right (leb 0x61 b && leb b 0x6F) (leb 0x90 b && leb b 0x9F) (and_from (leb 0x90 b) (leb b 0x9F) (le-leb 0x90 b h.0) (le-leb b 0x9F h.1))

moves_some : (w : Waiting) (n m : ℕ) → move (due_at w (suc n) Procedure) m ≡ Next (due_at w (suc n) (moving w.kind m))
moves_some w n m = cond-false (eqb (suc n) 0) Broken (Next (due_at w (suc n) (moving w.kind m))) (ne_eqb (suc n) 0 (λ e. omega arith))

-- INS has all bytes due moved.
pub moves_all : (w : Waiting) (n : ℕ) → Free w.header.ins
    → procedure_byte (due_at w (suc n) Procedure) w.header.ins ≡ Next (due_at w (suc n) (moving w.kind (suc n)))
moves_all w n f =
    cond-false (eqb w.header.ins 0x60) _ _ (ne_eqb w.header.ins 0x60 (λ e. omega arith))
    ∙ cond-true (eqb w.header.ins w.header.ins) _ _ (eq-eqb w.header.ins w.header.ins refl)
    ∙ moves_some w n (suc n)

-- Its inverse has one byte moved.
pub moves_one : (w : Waiting) (n : ℕ) → Free w.header.ins
    → procedure_byte (due_at w (suc n) Procedure) (255 - w.header.ins) ≡ Next (due_at w (suc n) (moving w.kind 1))
moves_one w n f =
    let i : ℕ = w.header.ins in
    cond-false (eqb (255 - i) 0x60) _ _ (ne_eqb (255 - i) 0x60 (λ e. omega arith))
    ∙ cond-false (eqb (255 - i) i) _ _ (ne_eqb (255 - i) i (λ e. omega arith))
    ∙ cond-true (eqb (255 - i) (255 - i)) _ _ (eq-eqb (255 - i) (255 - i) refl)
    ∙ moves_some w n 1

-- SW1 has SW2 awaited.
pub awaits_sw2 : (w : Waiting) (b : ℕ) → Free w.header.ins → Sw1 b
    → procedure_byte (at_phase w Procedure) b ≡ Next (at_phase w (Closing b))
awaits_sw2 w b f h =
    let i : ℕ = w.header.ins in
    cond-false (eqb b 0x60) _ _ (ne_eqb b 0x60 (λ e. omega arith))
    ∙ cond-false (eqb b i) _ _ (ne_eqb b i (λ e. omega arith))
    ∙ cond-false (eqb b (255 - i)) _ _ (ne_eqb b (255 - i) (λ e. omega arith))
    ∙ cond-true (is_sw1 b) _ _ (sw1_so b h)
