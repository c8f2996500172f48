use Rattle.std.proofs.Common.{◌≡◌, ℕ, ◌≤◌, List, ◌++◌, length, Some, Option, Result, ap, ◌∙◌, append_assoc}
use Rattle.std.specs.Borrow.{Bor}
use Rattle.std.specs.Slice.{IsGetRangeResult}
use Rattle.apdu.specs.declared.refusal.Refusal.{Refusal}
use Rattle.apdu.specs.declared.status.Status.{Status}
use Rattle.link.specs.Results.{turn_gave}
use Rattle.link.specs.Turns.{Did}
use Rattle.script.specs.Traces.{turn_line, outcome_of, data_of}
use Rattle.wire.specs.Records.{noted}
use Rattle.wire.specs.declared.traced.Traced.{Traced}
use Rattle.cardtrace_t0.specs.Traces.{character_lines, entry_line, turn_lines}
use Rattle.cardtrace_t0.proofs.Holding.{all_held}
use Rattle.cardtrace_t0.proofs.Writing.{result_entry}

-- The lines of a turn's characters and its own line are what the turn prints.
pub turn_text : {M : Type 0} (d : Did M) (items mid old line : List ℕ) (blank places : List Traced) (lent : Option (Bor (List Traced))) (cs : Bor (List Traced)) (n turn program : ℕ)
    (r : Result (Option (ℕ × Status)) Refusal) (answer : List ℕ) → length blank ≤ 65536
    → n ≡ (noted (record { places = blank; count = 0 }) d.characters).count
    → places ≡ (noted (record { places = blank; count = 0 }) d.characters).places
    → IsGetRangeResult places 0 n lent → lent ≡ Some cs
    → mid ≡ old ++ character_lines turn cs.now
    → line ≡ turn_line turn program (outcome_of r) (data_of r answer) → turn_gave r answer ≡ d.gave
    → items ≡ mid ++ line → items ≡ old ++ turn_lines turn program d
turn_text d items mid old line blank places lent cs n turn program r answer few en ep el es em eline eg e =
    let own = eline ∙ result_entry turn program r answer ∙ ap (entry_line turn program) eg in
    e ∙ ap (λ (t : List ℕ). mid ++ t) own
    ∙ ap (λ (t : List ℕ). t ++ entry_line turn program d.gave) (em ∙ ap (λ (l : List Traced). old ++ character_lines turn l) (all_held blank places d.characters cs n lent few en ep el es))
    ∙ append_assoc old (character_lines turn d.characters) (entry_line turn program d.gave)
