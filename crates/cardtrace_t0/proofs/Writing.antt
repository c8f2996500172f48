use Rattle.std.proofs.Common.{◌≡◌, ℕ, ◌+◌, ◌<◌, List, [], ◌∷◌, ◌++◌, length, get_or, take, Some, None, Ok, Err, Option, Result, sym, refl, ap, ◌∙◌, append_assoc, append-nil}
use Rattle.std.proofs.lemmas.List.{take_more}
use Rattle.apdu.specs.declared.refusal.Refusal.{Refusal}
use Rattle.apdu.specs.declared.status.Status.{Status}
use Rattle.link.specs.Results.{turn_gave}
use Rattle.script.specs.Traces.{character_line, turn_line, outcome_of, data_of}
use Rattle.wire.specs.Senders.{sender_of}
use Rattle.wire.specs.declared.traced.Traced.{Traced}
use Rattle.cardtrace_t0.specs.Traces.{character_lines, entry_line}

lines_append : (turn : ℕ) (cs ds : List Traced) → character_lines turn (cs ++ ds) ≡ character_lines turn cs ++ character_lines turn ds
lines_append turn [] ds = refl
lines_append turn (c ∷ cs) ds =
    ap (λ (t : List ℕ). character_line turn (sender_of c) c.byte c.damaged ++ t) (lines_append turn cs ds)
    ∙ sym (append_assoc (character_line turn (sender_of c) c.byte c.damaged) (character_lines turn cs) (character_lines turn ds))

-- One character more.
pub lines_more : (turn : ℕ) (cs : List Traced) (i : ℕ) (d : Traced) (items old before line : List ℕ) → i < length cs → items ≡ before ++ line
    → line ≡ character_line turn (sender_of (get_or cs i d)) (get_or cs i d).byte (get_or cs i d).damaged
    → before ≡ old ++ character_lines turn (take i cs)
    → items ≡ old ++ character_lines turn (take (i + 1) cs)
lines_more turn cs i d items old before line h e el f =
    e ∙ ap (λ (t : List ℕ). t ++ line) f ∙ append_assoc old (character_lines turn (take i cs)) line
    ∙ ap (λ (t : List ℕ). old ++ (character_lines turn (take i cs) ++ t)) (el ∙ sym (append-nil _))
    ∙ ap (λ (t : List ℕ). old ++ t) (sym (ap (character_lines turn) (take_more cs i d h) ∙ lines_append turn (take i cs) (get_or cs i d ∷ [])))

-- The line of a turn's result is that of what the turn gave.
pub result_entry : (turn program : ℕ) (r : Result (Option (ℕ × Status)) Refusal) (answer : List ℕ)
    → turn_line turn program (outcome_of r) (data_of r answer) ≡ entry_line turn program (turn_gave r answer)
result_entry turn program (Ok (Some p)) answer = refl
result_entry turn program (Ok None) answer = refl
result_entry turn program (Err e) answer = refl
