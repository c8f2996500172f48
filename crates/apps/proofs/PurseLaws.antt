use Rattle.std.specs.Prelude.{◌≡◌, ℕ, not, List, [], ◌∷◌, ◌++◌, length, ℤ, pos, ◌+ℤ◌, neg_ℤ, Ok, Err, ◌==◌, ◌≢◌, nat_le}
use Rattle.std.proofs.Common.{ap, ◌∙◌, arith}
use Rattle.std.proofs.lemmas.Bool.{cond_both}
use Rattle.apdu.specs.Applications.{Outcome}
use Rattle.apdu.specs.Statuses.{done, wrong_length, conditions_not_met, wrong_data}
use Rattle.apdu.specs.declared.status.Status.{Status}
use Rattle.apps.specs.Purse.{balance, within, proper, joined, recorded, number_of, refuses, accepts, move_by, amount_of, move_amount, CreditAdds, DebitTakes}
use Rattle.apps.proofs.PurseBalances.{balance_push, balance_joined}

pub balance_recorded : (ms : List ℤ) (m : ℤ) → balance (recorded ms m) ≡ balance ms +ℤ m
balance_recorded ms m =
    cond_both (nat_le 32 (length ms)) (joined ms) ms (λ (xs : List ℤ). balance (xs ++ (m ∷ [])) ≡ balance ms +ℤ m)
    (λ _. balance_push (joined ms) m ∙ ap (λ (b : ℤ). b +ℤ m) (balance_joined ms))
    (λ _. balance_push ms m)

-- No status but 9000 is 9000.
not_done : {A : Type 0} (s : Status) → (s.sw1 ≢ 0x90) → s ≡ done → A
not_done s h e = absurd (h (ap (λ (t : Status). t.sw1) e))

-- An accepted movement changes the balance by itself.
abbrev Moves : List ℤ → ℤ → Outcome (List ℤ) → Type 0
Moves ms m o = o.reply.status ≡ done → balance o.state ≡ balance ms +ℤ m

moves : (ms : List ℤ) (m : ℤ) → Moves ms m (move_by ms m)
moves ms m =
    cond_both (within (balance ms +ℤ m)) (accepts (recorded ms m)) (refuses ms conditions_not_met) (Moves ms m)
    (λ _ _. balance_recorded ms m)
    (λ _. not_done conditions_not_met (omega arith))

amount_moves : (ms : List ℤ) (way : ℕ → ℤ) (body : List ℕ) → Moves ms (way (number_of body)) (move_amount ms way (amount_of body))
amount_moves ms way body =
    cond_both (not (length body == 4)) (Err wrong_length) _ (λ r. Moves ms (way (number_of body)) (move_amount ms way r))
    (λ _. not_done wrong_length (omega arith))
    (λ _. cond_both (not (proper (number_of body))) (Err wrong_data) (Ok (number_of body)) (λ r. Moves ms (way (number_of body)) (move_amount ms way r))
    (λ _. not_done wrong_data (omega arith))
    (λ _. moves ms (way (number_of body))))

pub credit_adds : CreditAdds
credit_adds ms body = amount_moves ms pos body

pub debit_takes : DebitTakes
debit_takes ms body = amount_moves ms (λ n. neg_ℤ (pos n)) body
