use Rattle.std.specs.Prelude.{◌≡◌, ℕ, ◌≤◌, not, ◌&&◌, ◌||◌, List, length, ℤ, pos, negsuc, ◌+ℤ◌, neg_ℤ, Ok, Err, Result, ◌==◌, refl}
use Rattle.std.proofs.Common.{arith}
use Rattle.std.proofs.lemmas.Bool.{cond_both}
use Rattle.apdu.specs.Applications.{Outcome, CarriesData}
use Rattle.apdu.specs.Statuses.{wrong_length, conditions_not_met, wrong_parameters, unknown_instruction, unknown_class}
use Rattle.apdu.specs.declared.status.Status.{Status}
use Rattle.apps.specs.Purse.{balance, within, recorded, shown, refuses, accepts, show_balance, move_by, amount_of, move_amount, purse_run}

-- Every command is accepted with some movements, or refused with a status.
module _ (ms : List ℤ) (P : Outcome (List ℤ) → Type 0) (yes : (after : List ℤ) → P (accepts after)) (no : (why : Status) → P (refuses ms why)) where
  of_move : (m : ℤ) → P (move_by ms m)
  of_move m = cond_both (within (balance ms +ℤ m)) (accepts (recorded ms m)) (refuses ms conditions_not_met) P (λ _. yes (recorded ms m)) (λ _. no conditions_not_met)

  of_amount : (way : ℕ → ℤ) (r : Result ℕ Status) → P (move_amount ms way r)
  of_amount way (Ok n) = of_move (way n)
  of_amount way (Err why) = no why

  of_show : (body : List ℕ) → P (show_balance ms body)
  of_show body = cond_both (length body == 0) (accepts ms) (refuses ms wrong_length) P (λ _. yes ms) (λ _. no wrong_length)

  pub of_run : (cla ins p1 p2 : ℕ) (body : List ℕ) → P (purse_run ms cla ins p1 p2 body)
  of_run cla ins p1 p2 body =
      cond_both (not (cla == 0x80)) _ _ P (λ _. no unknown_class)
      (λ _. cond_both (not (ins == 0x50 || ins == 0x52 || ins == 0x54)) _ _ P (λ _. no unknown_instruction)
      (λ _. cond_both (not (p1 == 0 && p2 == 0)) _ _ P (λ _. no wrong_parameters)
      (λ _. cond_both (ins == 0x50) _ _ P (λ _. of_show body)
      (λ _. cond_both (ins == 0x52) _ _ P (λ _. of_amount pos (amount_of body))
      (λ _. of_amount (λ n. neg_ℤ (pos n)) (amount_of body))))))

four_shown : (b : ℤ) → length (shown b) ≡ 4
four_shown (pos n) = refl
four_shown (negsuc n) = refl

pub short : (ms : List ℤ) (cla ins p1 p2 : ℕ) (body : List ℕ) → length (purse_run ms cla ins p1 p2 body).reply.answer ≤ 256
short ms = of_run ms (λ o. length o.reply.answer ≤ 256) (λ after. omega (arith, four_shown (balance after))) (λ _. omega arith)

pub lawful : (ms : List ℤ) (cla ins p1 p2 : ℕ) (body : List ℕ) → CarriesData (purse_run ms cla ins p1 p2 body).reply
lawful ms = of_run ms (λ o. CarriesData o.reply) (λ _ _. refl) (λ _ h. absurd (omega arith))
