use Rattle.std.proofs.Common.{ℕ, ◌^◌, ◌<◌, ◌≤◌, Bool, List, length, decimal, arith}
use Rattle.std.proofs.lemmas.Fmt.{length-decimal-le}
use Rattle.std.proofs.lemmas.List.{length-append}
use Rattle.wire.specs.declared.traced.Sender.{Sender}
use Rattle.script.specs.declared.trace.Outcome.{Outcome}
use Rattle.script.specs.Traces.{character_line, outcome_text, turn_line, bad_line}
use Rattle.script.proofs.Lengths.{length_hex, byte_length}

number_length : (n : ℕ) → n < 2 ^ 64 → length (decimal n) ≤ 20
number_length n h = length-decimal-le 20 n (omega arith) (omega arith) h

-- a line of a trace has at most 546 bytes
pub bad_length : (n : ℕ) → n < 2 ^ 64 → length (bad_line n) ≤ 546
bad_length n h = let a = number_length n h in simp length-append (omega arith)

pub character_length : (turn : ℕ) (sender : Sender) (byte : ℕ) (damaged : Bool) → turn < 2 ^ 64 → length (character_line turn sender byte damaged) ≤ 546
character_length turn sender byte damaged h = let a = number_length turn h in simp length-append (omega arith)

pub turn_length : (turn program : ℕ) (o : Outcome) (bytes : List ℕ) → turn < 2 ^ 64 → program < 256 → length (outcome_text o) ≤ 5 → length bytes ≤ 256 → length (turn_line turn program o bytes) ≤ 546
turn_length turn program o bytes h k s m =
    let a = number_length turn h in
    let b = byte_length program (omega arith) in
    let d = length_hex bytes in
    simp length-append (omega arith)
