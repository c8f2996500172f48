use Rattle.std.proofs.Common.{ℕ, Bool, take, sym, ap, ◌∙◌, add-zero}
use native.Mathlib.Nat.{sub-zero}
use Rattle.wire.specs.Lines.{carried}
use Rattle.wire.specs.MarkedLines.{at_marks, marks_of, is_marked}
use Rattle.wire.specs.declared.marked.MarkedLine.{MarkedLine}
use Rattle.wire.proofs.Marks.{next_at, next_past, marks_low}
use Rattle.wire.proofs.marked.positions.MarkedLineLine.carry.Goals as goal
use Rattle.wire.proofs.marked.positions.MarkedLineLine.carry.Goals.{then-self-lt65536, else-self-lt65536}

pub returns-then-damaged : goal.returns-then-damaged
returns-then-damaged c =
    let l : MarkedLine = c.args.self.now in
    record {
      gave = ap (λ (d : Bool). carried d c.args.byte) (sym c.if-damaged.true ∙ c.is_marked-damaged.ensures ∙ ap (λ (n : ℕ). is_marked (take n l.marks) l.at) (sub-zero l.count) ∙ ap (is_marked (marks_of l)) (sym (add-zero l.at)));
      left = λ k. elim c.if-self-lt65536.branch [
        | then-self-lt65536 w ↦ ap (λ (m : MarkedLine). at_marks (marks_of m) m.at k) w.self-is ∙ next_at (marks_of l) l.at k
        | else-self-lt65536 w ↦ ap (λ (m : MarkedLine). at_marks (marks_of m) m.at k) w.self-is ∙ next_past (marks_of l) l.at k (marks_low l.marks l.count l.low) w.if-self-lt65536.false
      ];
    }

pub returns-else-damaged : goal.returns-else-damaged
returns-else-damaged c =
    let l : MarkedLine = c.args.self.now in
    record {
      gave = ap (λ (d : Bool). carried d c.args.byte) (sym c.if-damaged.false ∙ c.is_marked-damaged.ensures ∙ ap (λ (n : ℕ). is_marked (take n l.marks) l.at) (sub-zero l.count) ∙ ap (is_marked (marks_of l)) (sym (add-zero l.at)));
      left = λ k. elim c.if-self-lt65536.branch [
        | then-self-lt65536 w ↦ ap (λ (m : MarkedLine). at_marks (marks_of m) m.at k) w.self-is ∙ next_at (marks_of l) l.at k
        | else-self-lt65536 w ↦ ap (λ (m : MarkedLine). at_marks (marks_of m) m.at k) w.self-is ∙ next_past (marks_of l) l.at k (marks_low l.marks l.count l.low) w.if-self-lt65536.false
      ];
    }
