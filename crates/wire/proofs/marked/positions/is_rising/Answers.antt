use Rattle.std.proofs.Common.{ltb, rules, tests}
use Rattle.std.proofs.lemmas.List.Sorted.{answers_always}
use Rattle.wire.proofs.Marks.{rising_answer}
use Rattle.wire.proofs.marked.positions.is_rising.Goals as goal

pub returns : goal.returns
returns c =
    rising_answer c.args.positions.now c.is_sorted_by.result
    (c.is_sorted_by.ensures.cases ltb (answers_always _ _ _ (λ f a r g k. search (rules, tests))))
