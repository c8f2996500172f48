use Rattle.std.proofs.Common.{◌≡◌, true, List, ◌++◌, [], ◌∷◌, length, get_or, pos, ◌+ℤ◌, ◌<◌, ◌≤◌, sym, ap, ◌∙◌, arith, w32, SFits, rules, ℤ}
use Rattle.std.proofs.lemmas.Int.{to_z-of_z}
use Rattle.std.proofs.lemmas.Bool.{eqb-true, eqb-false}
use Rattle.apps.specs.Purse.{balance, within, recorded}
use Rattle.apps.proofs.PursePlaces.{placed, placed_free, placed_full, two_oldest_fit, kept_recorded, moved}
use Rattle.apps.proofs.purse.Purse.record.Goals as goal
use Rattle.apps.proofs.purse.Purse.record.Goals.{After-push, then-is_full, else-is_full}

pub overflow_add-deref_mut : goal.overflow_add-deref_mut
overflow_add-deref_mut c =
    let f : SFits w32 (get_or c.deref_mut.result.now 0 (pos 0)) = search rules in
    let g : SFits w32 c.remove-oldest.result = search rules in
    let e : length c.self.inside.movements.items ≡ 32 = eqb-true _ _ (sym c.if-is_full.ensures.value) in
    let l : 2 ≤ length c.self.inside.movements.items = omega arith in
    simp to_z-of_z (two_oldest_fit c.self.inside.movements.items _ _ _ l c.self.invariant.sound c.remove-oldest.ensures.value c.remove-oldest.ensures.items c.deref_mut.ensures.value)

placing : (c : After-push) → c.if-is_full.self-inside.movements.items ≡ placed c.self.inside.movements.items
placing c = elim c.if-is_full.branch [
  | then-is_full w ↦
      let l : length c.self.inside.movements.items ≡ 32 = eqb-true _ _ (sym w.if-is_full.ensures.value) in
      let f : SFits w32 (get_or w.deref_mut.result.now 0 (pos 0)) = search rules in
      let g : SFits w32 w.remove-oldest.result = search rules in
      let h : SFits w32 (get_or w.deref_mut.result.now 0 (pos 0) +ℤ w.remove-oldest.result) =
      two_oldest_fit c.self.inside.movements.items _ _ _ (omega arith) c.self.invariant.sound w.remove-oldest.ensures.value w.remove-oldest.ensures.items w.deref_mut.ensures.value in
      rw w.self-inside-is (simp to_z-of_z (placed_full _ _ _ _ l w.remove-oldest.ensures.value w.remove-oldest.ensures.items w.deref_mut.ensures.value))
  | else-is_full w ↦ let l : length c.self.inside.movements.items < 32 = let n = eqb-false (length c.self.inside.movements.items) 32 (sym w.if-is_full.ensures.value) in let k = c.self.invariant.few in omega arith in rw w.self-inside-is (placed_free _ l)
]

allowed : (c : After-push) → true ≡ within (balance c.args.self.now +ℤ c.args.movement)
allowed c = simp (to_z-of_z w32 c.args.movement c.ranges.movement) at c.if-not-allows.ensures

after : (c : After-push) → c.push.new.self.items ≡ recorded c.self.inside.movements.items c.args.movement
after c =
    simp (to_z-of_z w32 c.args.movement c.ranges.movement) at c.push.ensures.items ∙ ap (λ (ms : List ℤ). ms ++ c.args.movement ∷ []) (placing c)

pub invariant_of-self : goal.invariant_of-self
invariant_of-self c = kept_recorded _ _ c.args.movement c.self.invariant (allowed c ∙ ap (λ (ms : List ℤ). within (balance ms +ℤ c.args.movement)) (sym c.self.view_is)) (after c)

pub returns : goal.returns
returns c =
    let d = (goal.at.returns c).After-push in
    moved c.args.self.now _ c.args.movement _ (allowed d) (after d ∙ ap (λ (ms : List ℤ). recorded ms c.args.movement) c.self.view_is) c.balance.ensures.value
