use Rattle.std.specs.Prelude.{ℕ, Bool, true, false, cond, ◌==◌, nat_le}

-- SW1 of a lawful status: from 62 to 6F but not 6C, or from 90 to 9F.
abbrev pub lawful : ℕ → Bool
lawful sw1 =
    cond (nat_le 0x62 sw1) (cond (nat_le sw1 0x6F) (cond (sw1 == 0x6C) false true) (cond (nat_le 0x90 sw1) (nat_le sw1 0x9F) false)) false
