use Rattle.std.proofs.Common.{◌+◌, ◌<◌, sym, ap, ◌∙◌, arith, lt-ltb}
use lib.Seq.{set_out}
use Rattle.wire.specs.declared.record.Record.{Record}
use Rattle.wire.proofs.Growing.{grew_one}
use Rattle.wire.proofs.record.Record.note.Goals as goal
use Rattle.wire.proofs.record.Record.note.Goals.{then-at-self, else-at-self}

pub returns : goal.returns
returns g c =
    let T : Type 0 = g.row.T.Denot in
    let r : Record T = c.args.self.now in
    let below : r.count < 0xFFFF_FFFF = omega arith in
    elim c.if-at-self.branch [
      | then-at-self w ↦ grew_one r c.if-at-self.self _ c.args.item (lt-ltb _ _ below) (ap (λ (q : Record T). q.places.now) w.self-is) (ap (λ (q : Record T). q.places.ghost_name) w.self-is) (ap (λ (q : Record T). q.count + 1) w.self-is)
      | else-at-self w ↦ let o = set_out r.places.now r.count c.args.item w.if-at-self.false in
          grew_one r c.if-at-self.self _ c.args.item (lt-ltb _ _ below) (ap (λ (q : Record T). q.places.now) w.self-is ∙ sym o) (ap (λ (q : Record T). q.places.ghost_name) w.self-is) (ap (λ (q : Record T). q.count + 1) w.self-is)
    ]
