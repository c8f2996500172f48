use Rattle.std.proofs.Common.{◌≡◌, ℕ, suc, ◌+◌, ◌-◌, ◌*◌, ◌≤◌, Bool, true, false, cond, eqb, leb, List, [], ◌∷◌, ◌++◌, length, take, replicate, refl, ap, arith, length-append, length-take}
use lib.ListN.{length-replicate}
use Rattle.apdu.specs.Applications.{Reply}
use Rattle.apdu.specs.Commands.{Command}
use Rattle.apdu.specs.declared.status.Status.{Status}
use Rattle.t0.specs.declared.settings.Settings.{Settings}
use Rattle.t0.specs.declared.settings.Style.{Style}
use Rattle.t0.specs.declared.settings.Style.TheVariants.{Whole, Bytewise}
use Rattle.t0.specs.Procedures.{header, mover, procedure, one_by_one, moved_out, moves_out, closes, says_status}
use Rattle.t0.specs.Dialogues.{Word, from_terminal, from_card, one_by_one_in, moved_in, header_of, after_outward}
use Rattle.t0.specs.Conversations.{most}
use Rattle.t0link.proofs.TalkOver.{beyond}

pub length_card : (xs : List ℕ) → length (from_card xs) ≡ length xs
length_card [] = refl
length_card (x ∷ xs) = ap suc (length_card xs)

length_terminal : (xs : List ℕ) → length (from_terminal xs) ≡ length xs
length_terminal [] = refl
length_terminal (x ∷ xs) = ap suc (length_terminal xs)

beyond_length : (ws : List Word) (n : ℕ) → beyond ws n ≡ length ws + n
beyond_length [] n = omega arith
beyond_length (w ∷ ws) n = let e = beyond_length ws n in omega arith

-- The characters allowed are these, and some more.
pub allowed : (ws vs : List Word) → length ws + length vs ≤ most → beyond ws (beyond vs (most - (length ws + length vs))) ≡ most
allowed ws vs h =
    omega (arith, beyond_length ws (beyond vs (most - (length ws + length vs))), beyond_length vs (most - (length ws + length vs)))

module _ (s : Settings) where
  procedure_short : (b : ℕ) → length (procedure s b) ≤ 16
  procedure_short b =
      omega (arith, length-append (replicate s.waits 0x60) (b ∷ []), length-replicate {A = ℕ} s.waits 0x60, s.few)

  pub closes_short : (sw1 sw2 : ℕ) → length (closes s sw1 sw2) ≤ 17
  closes_short sw1 sw2 = omega (arith, length-append (procedure s sw1) (sw2 ∷ []), procedure_short sw1)

  one_by_one_short : (ins : ℕ) (xs : List ℕ) → length (one_by_one s ins xs) ≤ 17 * length xs
  one_by_one_short ins [] = omega arith
  one_by_one_short ins (x ∷ xs) =
      omega (arith, length-append (procedure s (mover s.style ins)) (x ∷ one_by_one s ins xs), procedure_short (mover s.style ins), one_by_one_short ins xs)

  moved_out_short : (style : Style) (ins : ℕ) (xs : List ℕ) → length (moved_out style s ins xs) ≤ 17 * length xs + 16
  moved_out_short Whole ins xs = omega (arith, length-append (procedure s (mover s.style ins)) xs, procedure_short (mover s.style ins))
  moved_out_short Bytewise ins xs = omega (arith, one_by_one_short ins xs)

  -- Answer bytes and a status.
  pub answer_short : (ins : ℕ) (xs : List ℕ) (status : Status) → length xs ≤ 256 → length (from_card (moves_out s ins xs ++ says_status s status)) ≤ 4400
  answer_short ins xs status h =
      omega (
        arith,
        length_card (moves_out s ins xs ++ says_status s status),
        length-append (moves_out s ins xs) (says_status s status),
        moved_out_short s.style ins xs,
        closes_short status.sw1 status.sw2,
      )

  -- A header and what follows it.
  pub header_then : (bs : List ℕ) (ws : List Word) (n : ℕ) → length bs ≡ 5 → length ws ≤ n → length (from_terminal bs ++ ws) ≤ n + 5
  header_then bs ws n e h = omega (arith, length-append (from_terminal bs) ws, length_terminal bs)

  one_by_one_in_short : (ins : ℕ) (xs : List ℕ) → length (one_by_one_in s ins xs) ≤ 17 * length xs
  one_by_one_in_short ins [] = omega arith
  one_by_one_in_short ins (x ∷ xs) =
      omega (
        arith,
        length-append (from_card (procedure s (mover s.style ins))) (from_terminal (x ∷ []) ++ one_by_one_in s ins xs),
        length_card (procedure s (mover s.style ins)),
        procedure_short (mover s.style ins),
        one_by_one_in_short ins xs,
      )

  pub moved_in_short : (style : Style) (ins : ℕ) (xs : List ℕ) → length (moved_in style s ins xs) ≤ 17 * length xs + 16
  moved_in_short Whole ins [] = omega arith
  moved_in_short Whole ins (x ∷ xs) =
      omega (
        arith,
        length-append (from_card (procedure s (mover s.style ins))) (from_terminal (x ∷ xs)),
        length_card (procedure s (mover s.style ins)),
        procedure_short (mover s.style ins),
        length_terminal xs,
      )
  moved_in_short Bytewise ins xs = omega (arith, one_by_one_in_short ins xs)

  status_short : (status : Status) → length (from_card (says_status s status)) ≤ 17
  status_short status = omega (arith, length_card (says_status s status), closes_short status.sw1 status.sw2)

  by_count : (c : Command) (r : Reply) → length r.answer ≤ 256 → (empty enough : Bool)
      → length (cond empty (from_card (says_status s r.status))
      (cond enough (from_card (moves_out s c.ins (take c.ne r.answer) ++ says_status s r.status))
      (from_card (closes s 0x6C (length r.answer))
      ++ (from_terminal (header (header_of c) (length r.answer))
      ++ from_card (moves_out s c.ins r.answer ++ says_status s r.status))))) ≤ 5000
  by_count c r h true enough = omega (arith, status_short r.status)
  by_count c r h false true =
      omega (arith, answer_short c.ins (take c.ne r.answer) r.status (omega (arith, length-take c.ne r.answer)))
  by_count c r h false false =
      omega (
        arith,
        length-append (from_card (closes s 0x6C (length r.answer))) (from_terminal (header (header_of c) (length r.answer)) ++ from_card (moves_out s c.ins r.answer ++ says_status s r.status)),
        length_card (closes s 0x6C (length r.answer)),
        closes_short 0x6C (length r.answer),
        header_then (header (header_of c) (length r.answer)) (from_card (moves_out s c.ins r.answer ++ says_status s r.status)) 4400 refl (answer_short c.ins r.answer r.status h),
      )

  pub after_outward_short : (c : Command) (r : Reply) → length r.answer ≤ 256 → length (after_outward s c r) ≤ 5000
  after_outward_short c r h = by_count c r h (eqb (length r.answer) 0) (leb c.ne (length r.answer))
