use Rattle.std.specs.Prelude.{◌≡◌, ℕ, cond, Some, None, Option}
use Rattle.wire.specs.Lines.{Damage}
use Rattle.wire.specs.Records.{Grew}
use Rattle.wire.specs.declared.record.Record.{Record}
use Rattle.wire.specs.declared.traced.Traced.{Traced}
use Rattle.t0.specs.Delivery.{Delivered}

-- A character was carried as `t` says: it arrived or not, the line goes on so, and the trace grew by what crossed.
pub record Carries (byte : ℕ) (t : Delivered) (r : Option ℕ) (d : Damage) (before after : Record Traced) : Type 0 where
  pub result : r ≡ cond t.arrived (Some byte) None
  pub line : d ≡ t.coming
  pub trace : Grew before after t.characters
