use Rattle.std.proofs.Common.{◌≡◌, ℕ, List, Some, None, Ok, Err, Option, Result, refl}
use Rattle.apdu.specs.declared.refusal.Refusal.{Refusal}
use Rattle.apdu.specs.declared.status.Status.{Status}
use Rattle.link.specs.Results.{turn_gave}
use Rattle.script.specs.Traces.{turn_line, outcome_of, data_of}
use Rattle.cardtrace.specs.Traces.{entry_line}

-- The line of a turn's result is that of what the turn gave.
pub result_entry : (turn program : ℕ) (r : Result (Option (ℕ × Status)) Refusal) (answer : List ℕ)
    → turn_line turn program (outcome_of r) (data_of r answer) ≡ entry_line turn program (turn_gave r answer)
result_entry turn program (Ok (Some p)) answer = refl
result_entry turn program (Ok None) answer = refl
result_entry turn program (Err e) answer = refl
