use Rattle.std.proofs.Common.{◌≡◌, ap, ◌∙◌, w32, SFits, rules}
use Rattle.std.proofs.lemmas.Int.{to_z-of_z}
use Rattle.apps.specs.Purse.{balance}
use Rattle.apps.proofs.PurseSums.{run_fits, run_whole}
use Rattle.apps.proofs.PurseBalances.{sound_whole, cents_of, cents_limit, cents_fit}
use Rattle.apps.proofs.PurseLaws.{credit_adds, debit_takes}
use Rattle.apps.proofs.PurseKept.{runs_keep_kept}
use Rattle.apps.proofs.purse.Purse.balance.Goals as goal
use Rattle.apps.proofs.purse.Purse.balance.Goals.{After-sum-sum}

pub sum-sum-requires-clause-fits : goal.sum-sum-requires-clause-fits
sum-sum-requires-clause-fits c =
    λ p seen from. run_fits p _ _ (c.iter.ensures.runs p seen) (ap (λ it. it.rest.now) from ∙ c.iter.ensures.rest ∙ c.deref.ensures.0) c.self.invariant.sound

summed : (c : After-sum-sum) → c.sum-sum.result ≡ balance c.self.inside.movements.items
summed c =
    let h = c.sum-sum.ensures.runs tt in
    h.3 ∙ run_whole h.0 _ _ (c.iter.ensures.runs h.0 h.0.seen) (ap (λ it. it.rest.now) h.1 ∙ c.iter.ensures.rest ∙ c.deref.ensures.0) h.2

pub overflow_cast-result : goal.overflow_cast-result
overflow_cast-result c =
    let f : SFits w32 c.sum-sum.result = search rules in
    simp to_z-of_z (cents_fit _ _ (summed c) (sound_whole _ c.self.invariant.sound))

pub returns-clause-value : goal.returns-clause-value
returns-clause-value c =
    let f : SFits w32 c.sum-sum.result = search rules in
    simp to_z-of_z (cents_of _ _ (summed c) (sound_whole _ c.self.invariant.sound) ∙ ap balance c.self.view_is)

pub returns-clause-limits : goal.returns-clause-limits
returns-clause-limits c =
    let f : SFits w32 c.sum-sum.result = search rules in
    simp to_z-of_z (cents_limit _ _ (summed c) (sound_whole _ c.self.invariant.sound))

pub returns-clause-credit : goal.returns-clause-credit
returns-clause-credit c = credit_adds

pub returns-clause-debit : goal.returns-clause-debit
returns-clause-debit c = debit_takes

pub returns-clause-runs : goal.returns-clause-runs
returns-clause-runs c = runs_keep_kept
