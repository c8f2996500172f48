use Rattle.std.proofs.Common.{◌≡◌, ℕ, cond, List, [], ◌∷◌, length, ℤ, pos, negsuc, ◌+ℤ◌, Some, Option, refl, ap, ◌∙◌}
use Rattle.apdu.specs.Applications.{Reply, Outcome}
use Rattle.apdu.specs.Judging.{judged}
use Rattle.apdu.specs.Statuses.{done, wrong_length, past_the_end, conditions_not_met}
use Rattle.apps.specs.Files.{File, Shelf, named, files_run, update_in}
use Rattle.apps.specs.Purse.{balance, purse_run, shown, recorded, within, accepts, refuses}
use Rattle.apps.proofs.PurseLaws.{balance_recorded}
use Rattle.t0.specs.Delivery.{deliver}
use Rattle.stack.specs.Examples.{WorkedExamples, debited, after_debit, five_hundred, one_cent}

written : (s : Shelf) (f : File) (a : ℕ) → named s.current s.files ≡ Some f → length f.bytes ≡ 256
    → (files_run s 0x00 0xD6 0x00 0xFF (a ∷ [])).reply.status ≡ done
written s f a e l = ap (λ (o : Option File). (update_in s 255 (a ∷ []) o).reply.status) e ∙ rw l

passed : (s : Shelf) (f : File) (a b : ℕ) → named s.current s.files ≡ Some f → length f.bytes ≡ 256
    → (files_run s 0x00 0xD6 0x00 0xFF (a ∷ (b ∷ []))).reply.status ≡ wrong_length
passed s f a b e l = ap (λ (o : Option File). (update_in s 255 (a ∷ (b ∷ [])) o).reply.status) e ∙ rw l

at_end : (s : Shelf) (f : File) (a : ℕ) → named s.current s.files ≡ Some f → length f.bytes ≡ 256
    → (files_run s 0x00 0xD6 0x01 0x00 (a ∷ [])).reply.status ≡ past_the_end
at_end s f a e l = ap (λ (o : Option File). (update_in s 256 (a ∷ []) o).reply.status) e ∙ rw l

-- A debit of 500 at balance 500 is accepted.
accepted : (ms : List ℤ) → balance ms ≡ pos 500 → purse_run ms 0x80 0x54 0x00 0x00 five_hundred ≡ accepts (recorded ms (negsuc 499))
accepted ms e = ap (λ (b : ℤ). cond (within (b +ℤ negsuc 499)) (accepts (recorded ms (negsuc 499))) (refuses ms conditions_not_met)) e

left : (ms : List ℤ) → balance ms ≡ pos 500 → balance (recorded ms (negsuc 499)) ≡ pos 0
left ms e = balance_recorded ms (negsuc 499) ∙ ap (λ (b : ℤ). b +ℤ negsuc 499) e

to_zero : (ms : List ℤ) → balance ms ≡ pos 500
    → debited ms five_hundred ≡ record { answer = 0x00 ∷ (0x00 ∷ (0x00 ∷ (0x00 ∷ []))); status = done }
to_zero ms e =
    ap (λ (o : Outcome (List ℤ)). o.reply) (accepted ms e)
    ∙ ap (λ (b : ℤ). answers (shown b)) (left ms e)
  where
    answers : List ℕ → Reply
    answers bytes = record { answer = bytes; status = done }

below_zero : (ms : List ℤ) → balance ms ≡ pos 500 → (debited (after_debit ms five_hundred) one_cent).status ≡ conditions_not_met
below_zero ms e =
    ap (λ (o : Outcome (List ℤ)). (debited o.state one_cent).status) (accepted ms e)
    ∙ ap (λ (b : ℤ). (cond (within (b +ℤ negsuc 0)) (accepts (recorded after (negsuc 0))) (refuses after conditions_not_met)).reply.status) (left ms e)
  where
    after : List ℤ
    after = recorded ms (negsuc 499)

pub worked : WorkedExamples
unfolding judged deliver
worked = record {
  le_00_is_256 = refl;
  lc_00_is_malformed = refl;
  last_byte_is_written = written;
  two_pass_the_end = passed;
  offset_at_the_end = at_end;
  debit_to_zero = to_zero;
  debit_below_zero = below_zero;
  read_over_t0 = refl;
  read_entry = refl;
}
