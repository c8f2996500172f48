use Rattle.std.specs.Prelude.{◌≡◌, ℕ, ◌+◌, ◌*◌, ◌/◌, ◌%◌, ◌≤◌, Bool, cond, not, ◌&&◌, ◌||◌, T, List, [], ◌∷◌, ◌++◌, length, take, ℤ, pos, negsuc, ◌+ℤ◌, ◌-ℤ◌, neg_ℤ, Ok, Err, fold, Result, ◌==◌, ◌≢◌, int_le, nat_le}
use Rattle.std.specs.Result.{result_map_both}
use Rattle.apdu.specs.Applications.{Outcome}
use Rattle.apdu.specs.Statuses.{done, wrong_length, conditions_not_met, wrong_data, wrong_parameters, unknown_instruction, unknown_class}
use Rattle.apdu.specs.declared.status.Status.{Status}

-- The state of a purse is the list of its movements in cents, the oldest first: a credit is above 0, a debit below.

-- The balance is the sum of the movements.
abbrev pub balance : List ℤ → ℤ
balance [] = pos 0
balance (m ∷ ms) = m +ℤ balance ms

-- The most cents of a balance and of an amount, and the most movements that are held.
abbrev pub limit : ℕ
limit = 1000000

abbrev pub places : ℕ
places = 32

-- A balance may be 0 to 1,000,000.
abbrev pub within : ℤ → Bool
within b = int_le (pos 0) b && int_le b (pos limit)

-- An amount may be 1 to 1,000,000.
abbrev pub proper : ℕ → Bool
proper amount = nat_le 1 amount && nat_le amount limit

-- The two oldest movements become one, their sum.
abbrev pub joined : List ℤ → List ℤ
joined [] = []
joined (m ∷ []) = m ∷ []
joined (m ∷ (n ∷ ms)) = (m +ℤ n) ∷ ms

-- One movement more, the newest. Where 32 are held, the two oldest first become one.
abbrev pub recorded : List ℤ → ℤ → List ℤ
recorded ms m = cond (nat_le places (length ms)) (joined ms) ms ++ (m ∷ [])

-- The balance lay in its limits after each movement: the first n have such a sum, for every n.
abbrev pub Sound : List ℤ → Type 0
Sound ms = (n : ℕ) → T (within (balance (take n ms)))

-- What a purse holds: at most 32 movements, after each of which the balance lay in its limits, so that no sum of them
-- overflows.
pub record Kept (ms : List ℤ) : Type 0 where
  pub few : length ms ≤ places
  pub sound : Sound ms

-- The number that bytes are, high first.
abbrev pub number_of : List ℕ → ℕ
number_of bytes = fold (λ n b. n * 256 + b) 0 bytes

-- The four bytes of a number, high first.
abbrev pub four_bytes : ℕ → List ℕ
four_bytes n = (n / 16777216 % 256) ∷ ((n / 65536 % 256) ∷ ((n / 256 % 256) ∷ ((n % 256) ∷ [])))

-- A balance in four bytes. One below 0, which no purse has, would be shown as 0.
abbrev pub shown : ℤ → List ℕ
shown (pos n) = four_bytes n
shown (negsuc _) = four_bytes 0

-- A refused command: nothing changes, and the status says why.
abbrev pub refuses : List ℤ → Status → Outcome (List ℤ)
refuses ms why = record { state = ms; reply = record { answer = []; status = why } }

-- An accepted command leaves these movements, and answers their balance.
abbrev pub accepts : List ℤ → Outcome (List ℤ)
accepts ms = record { state = ms; reply = record { answer = shown (balance ms); status = done } }

-- The balance is asked with no data.
abbrev pub show_balance : List ℤ → List ℕ → Outcome (List ℤ)
show_balance ms body = cond (length body == 0) (accepts ms) (refuses ms wrong_length)

-- A movement is recorded if the new balance lies in its limits.
abbrev pub move_by : List ℤ → ℤ → Outcome (List ℤ)
move_by ms m = cond (within (balance ms +ℤ m)) (accepts (recorded ms m)) (refuses ms conditions_not_met)

-- The amount that data are: four bytes of 1 to 1,000,000; else the status that refuses them.
abbrev pub amount_of : List ℕ → Result ℕ Status
amount_of body =
    cond (not (length body == 4)) (Err wrong_length)
    (cond (not (proper (number_of body))) (Err wrong_data)
    (Ok (number_of body)))

-- The same amount, as a movement.
abbrev pub amount_in : List ℕ → Result ℤ Status
amount_in body = result_map_both pos (λ why. why) (amount_of body)

-- An amount makes the movement that `way` says.
abbrev pub move_amount : List ℤ → (ℕ → ℤ) → Result ℕ Status → Outcome (List ℤ)
move_amount ms way (Ok amount) = move_by ms (way amount)
move_amount ms way (Err why) = refuses ms why

-- A credit moves by plus the amount.
abbrev pub credit : List ℤ → List ℕ → Outcome (List ℤ)
credit ms body = move_amount ms pos (amount_of body)

-- A debit moves by minus the amount.
abbrev pub debit : List ℤ → List ℕ → Outcome (List ℤ)
debit ms body = move_amount ms (λ amount. neg_ℤ (pos amount)) (amount_of body)

-- What a purse makes of a command: the checks of CLA, INS, P1 and P2 in this order, then INS 50 asks for the balance, 52
-- credits and 54 debits.
abbrev pub purse_run : List ℤ → ℕ → ℕ → ℕ → ℕ → List ℕ → Outcome (List ℤ)
purse_run ms cla ins p1 p2 body =
    cond (not (cla == 0x80)) (refuses ms unknown_class)
    (cond (not (ins == 0x50 || ins == 0x52 || ins == 0x54)) (refuses ms unknown_instruction)
    (cond (not (p1 == 0 && p2 == 0)) (refuses ms wrong_parameters)
    (cond (ins == 0x50) (show_balance ms body)
    (cond (ins == 0x52) (credit ms body)
    (debit ms body)))))

-- A reset changes nothing.
abbrev pub purse_reset : List ℤ → List ℤ
purse_reset ms = ms

-- Laws, for every list of movements. Joining the two oldest movements leaves the balance as it is.
abbrev pub JoiningKeeps : Type 0
JoiningKeeps = (ms : List ℤ) → balance (joined ms) ≡ balance ms

-- After an accepted credit the balance is the old one plus the amount.
abbrev pub CreditAdds : Type 0
CreditAdds = (ms : List ℤ) (body : List ℕ) → (purse_run ms 0x80 0x52 0 0 body).reply.status ≡ done
    → balance (purse_run ms 0x80 0x52 0 0 body).state ≡ balance ms +ℤ pos (number_of body)

-- After an accepted debit the balance is the old one minus the amount.
abbrev pub DebitTakes : Type 0
DebitTakes = (ms : List ℤ) (body : List ℕ) → (purse_run ms 0x80 0x54 0 0 body).reply.status ≡ done
    → balance (purse_run ms 0x80 0x54 0 0 body).state ≡ balance ms -ℤ pos (number_of body)

-- A command that is not accepted changes nothing.
abbrev pub RefusalKeeps : Type 0
RefusalKeeps = (ms : List ℤ) (cla ins p1 p2 : ℕ) (body : List ℕ) → ((purse_run ms cla ins p1 p2 body).reply.status ≢ done)
    → (purse_run ms cla ins p1 p2 body).state ≡ ms

-- What is kept stays kept, whatever a command's bytes and its data.
abbrev pub RunsKeepKept : Type 0
RunsKeepKept = (ms : List ℤ) (cla ins p1 p2 : ℕ) (body : List ℕ) → Kept ms → Kept (purse_run ms cla ins p1 p2 body).state

-- So it does over a reset.
abbrev pub ResetsKeepKept : Type 0
ResetsKeepKept = (ms : List ℤ) → Kept ms → Kept (purse_reset ms)
