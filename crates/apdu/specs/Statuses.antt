use Rattle.std.specs.Prelude.{ℕ, Bool, true, false, T, Some, None, Option}
use Rattle.apdu.specs.Lawful.{lawful}
use Rattle.apdu.specs.declared.status.Status.{Status}

-- The status of two bytes of which the first is lawful.
abbrev pub coded : (sw1 sw2 : ℕ) → T (lawful sw1) → Status
coded sw1 sw2 h = record { sw1 = sw1; sw2 = sw2; ok = h }

abbrev pub coded_if : (sw1 sw2 : ℕ) (test : Bool) → (T test → T (lawful sw1)) → Option Status
coded_if sw1 sw2 true shown = Some (coded sw1 sw2 (shown tt))
coded_if sw1 sw2 false shown = None

-- The status of two bytes, or none where SW1 is not lawful.
abbrev pub status_of : ℕ → ℕ → Option Status
status_of sw1 sw2 = coded_if sw1 sw2 (lawful sw1) (λ h. h)

-- 9000: done.
abbrev pub done : Status
done = coded 0x90 0x00 tt

-- 6700: wrong length.
abbrev pub wrong_length : Status
wrong_length = coded 0x67 0x00 tt

-- 6985: the conditions of use are not met. 6986: no current file.
abbrev pub conditions_not_met : Status
conditions_not_met = coded 0x69 0x85 tt

abbrev pub no_current_file : Status
no_current_file = coded 0x69 0x86 tt

-- 6A80: wrong data. 6A82: no such file. 6A86: wrong P1 P2.
abbrev pub wrong_data : Status
wrong_data = coded 0x6A 0x80 tt

abbrev pub file_not_found : Status
file_not_found = coded 0x6A 0x82 tt

abbrev pub wrong_parameters : Status
wrong_parameters = coded 0x6A 0x86 tt

-- 6B00: an offset past the end.
abbrev pub past_the_end : Status
past_the_end = coded 0x6B 0x00 tt

-- 6D00: unknown INS. 6E00: unknown CLA.
abbrev pub unknown_instruction : Status
unknown_instruction = coded 0x6D 0x00 tt

abbrev pub unknown_class : Status
unknown_class = coded 0x6E 0x00 tt
