use Rattle.std.proofs.Common.{ℕ, ◌||◌, ◌&&◌, not, List, length, ℤ, pos, ◌+ℤ◌, neg_ℤ, Ok, Err, Result, refl, sym}
use Rattle.std.specs.Prelude.{◌==◌}
use Rattle.std.proofs.lemmas.Bool.{cond_both}
use Rattle.apdu.specs.Applications.{Outcome}
use Rattle.apdu.specs.Statuses.{wrong_length, conditions_not_met}
use Rattle.apdu.specs.declared.status.Status.{Status}
use Rattle.apps.specs.Purse.{balance, within, recorded, Kept, refuses, accepts, move_by, amount_of, move_amount, purse_run, RunsKeepKept}
use Rattle.apps.proofs.PursePlaces.{kept_recorded}

-- What a command leaves of movements that are kept is kept.
module _ (ms : List ℤ) (kept : Kept ms) where
  abbrev Keeps : Outcome (List ℤ) → Type 0
  Keeps o = Kept o.state

  move_keeps : (m : ℤ) → Keeps (move_by ms m)
  move_keeps m =
      cond_both (within (balance ms +ℤ m)) (accepts (recorded ms m)) (refuses ms conditions_not_met) Keeps
      (λ w. kept_recorded ms (recorded ms m) m kept (sym w) refl)
      (λ _. kept)

  amount_keeps : (way : ℕ → ℤ) (r : Result ℕ Status) → Keeps (move_amount ms way r)
  amount_keeps way (Ok n) = move_keeps (way n)
  amount_keeps way (Err why) = kept

  run_keeps : (cla ins p1 p2 : ℕ) (body : List ℕ) → Keeps (purse_run ms cla ins p1 p2 body)
  run_keeps cla ins p1 p2 body =
      cond_both (not (cla == 0x80)) _ _ Keeps (λ _. kept)
      (λ _. cond_both (not (ins == 0x50 || ins == 0x52 || ins == 0x54)) _ _ Keeps (λ _. kept)
      (λ _. cond_both (not (p1 == 0 && p2 == 0)) _ _ Keeps (λ _. kept)
      (λ _. cond_both (ins == 0x50) _ _ Keeps (λ _. cond_both (length body == 0) (accepts ms) (refuses ms wrong_length) Keeps (λ _. kept) (λ _. kept))
      (λ _. cond_both (ins == 0x52) _ _ Keeps (λ _. amount_keeps pos (amount_of body))
      (λ _. amount_keeps (λ n. neg_ℤ (pos n)) (amount_of body))))))

pub runs_keep_kept : RunsKeepKept
runs_keep_kept ms cla ins p1 p2 body kept = run_keeps ms kept cla ins p1 p2 body
