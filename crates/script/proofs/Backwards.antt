use Rattle.std.proofs.Common.{◌≡◌, ℕ, zero, suc, ◌+◌, ◌*◌, ◌/◌, ◌%◌, ◌^◌, ◌<◌, ◌≤◌, true, false, eqb, leb, List, [], ◌∷◌, ◌++◌, length, get_or, Some, decimal, sym, refl, ap, ◌∙◌, arith}
use Rattle.std.proofs.lemmas.Fmt.{digits_decimal, digits_value-decimal, decimal_nonempty, first_decimal, decimal_digit}
use Rattle.std.proofs.lemmas.Bool.Decides.{nat_tests}
use Rattle.std.specs.List.{AllByRecursion}
use Rattle.script.specs.declared.line.Protocol.{Protocol}
use Rattle.script.specs.declared.line.Protocol.TheVariants.{T0, T1}
use Rattle.t0.specs.declared.settings.Style.{Style}
use Rattle.t0.specs.declared.settings.Style.TheVariants.{Whole, Bytewise}
use Rattle.script.specs.declared.line.Settings.{Settings}
use Rattle.script.specs.Fields.{split, is_digit, all_digits, well_led, number}
use Rattle.script.specs.Hex.{hex, hex_digit, hex_value, is_hex, all_hex, pairs, command_of}
use Rattle.script.specs.Links.{protocol_of, style_of, settings_of}
use Rattle.script.specs.Lines.{link, damage, send, reset, line_of, protocol_text, style_text, Within}
use Rattle.script.specs.Laws.{ReadsAsPrinted}
use Rattle.script.proofs.Inversions.{own}
use Rattle.script.proofs.Hexes.{and_left, and_right, command_fine}
use Rattle.script.proofs.Lengths.{length_hex}
use Rattle.script.proofs.LineLaws.{settings_text}

-- no comma among the bytes
abbrev Plain : List ℕ → Type 0
Plain p = AllByRecursion (λ b. eqb b 44 ≡ false) p

split_at : (p b : List ℕ) → Plain p → split (p ++ 44 ∷ b) ≡ Some (p, b)
split_at [] b h = refl
split_at (x ∷ p) b h = rw (h.0, split_at p b h.1)

plain_digits : (cs : List ℕ) → all_digits cs ≡ true → Plain cs
plain_digits [] e = tt
plain_digits (c ∷ cs) e =
    let a = and_left (is_digit c) (all_digits cs) e in
    (grind (arith, nat_tests), plain_digits cs (and_right (is_digit c) (all_digits cs) e))

plain_decimal : (n : ℕ) → n < 2 ^ 64 → Plain (decimal n)
plain_decimal n h = plain_digits (decimal n) (digits_decimal own n h)

led_by : (cs : List ℕ) → 0 < length cs → 48 < get_or cs 0 0 → well_led cs ≡ true
led_by [] h k = absurd (omega arith)
led_by (c ∷ []) h k = refl
led_by (c ∷ (d ∷ cs)) h k = grind (arith, nat_tests)

led_decimal : (n : ℕ) → n < 2 ^ 64 → well_led (decimal n) ≡ true
led_decimal zero h = rw (decimal_digit 0 (omega arith))
led_decimal (suc n) h = led_by (decimal (suc n)) (decimal_nonempty (suc n) h) (first_decimal (suc n) (omega arith) h)

number_back : (low high n : ℕ) → high < 2 ^ 64 → low ≤ n → n ≤ high → number low high (decimal n) ≡ Some n
number_back low high n h k m =
    let s : n < 2 ^ 64 = omega arith in
    let a : leb low n ≡ true = grind (arith, nat_tests) in
    let b : leb n high ≡ true = grind (arith, nat_tests) in
    rw (led_decimal n s, digits_decimal own n s, digits_value-decimal own n s, a, b)

digit_fine : (d : ℕ) → d < 16 → (is_hex (hex_digit d) ≡ true) × (hex_value (hex_digit d) ≡ d)
digit_fine d h = (grind (arith, nat_tests), grind (arith, nat_tests))

hex_fine : (bs : List ℕ) → AllByRecursion (λ b. b < 256) bs → (all_hex (hex bs) ≡ true) × (pairs (hex bs) ≡ bs)
hex_fine [] h = (refl, refl)
hex_fine (b ∷ bs) h =
    let f = digit_fine (b / 16) (omega arith) in
    let g = digit_fine (b % 16) (omega arith) in
    let ih = hex_fine bs h.1 in
    let m : (b / 16) * 16 + b % 16 ≡ b = omega arith in
    (rw (f.0, g.0, ih.0), rw (f.1, g.1, ih.1, m))

command_back : (bs : List ℕ) → length bs ≤ 300 → AllByRecursion (λ b. b < 256) bs → command_of (hex bs) ≡ Some bs
command_back bs h k =
    let n = length_hex bs in
    let f = hex_fine bs k in
    sym (command_fine (hex bs) (omega arith) (omega arith) f.0) ∙ ap Some f.1

protocol_back : (p : Protocol) → protocol_of (protocol_text p) ≡ Some p
protocol_back T0 = refl
protocol_back T1 = refl

style_back : (p : Style) → style_of (style_text p) ≡ Some p
style_back Whole = refl
style_back Bytewise = refl

plain_protocol : (p : Protocol) → Plain (protocol_text p)
plain_protocol T0 = (refl, tt)
plain_protocol T1 = (refl, tt)

settings_back : (s : Settings) → Within (link s) → settings_of (settings_text s) ≡ Some s
settings_back s w =
    let style = style_text s.style in
    let waits = decimal s.waits ++ 44 ∷ style in
    let ifsd = decimal s.ifsd ++ 44 ∷ waits in
    let ifsc = decimal s.ifsc ++ 44 ∷ ifsd in
    rw (
      split_at (protocol_text s.protocol) ifsc (plain_protocol s.protocol),
      protocol_back s.protocol,
      split_at (decimal s.ifsc) ifsd (plain_decimal s.ifsc (omega arith)),
      number_back 1 254 s.ifsc (omega arith) w.0 w.1,
      split_at (decimal s.ifsd) waits (plain_decimal s.ifsd (omega arith)),
      number_back 1 254 s.ifsd (omega arith) w.2 w.3,
      split_at (decimal s.waits) style (plain_decimal s.waits (omega arith)),
      number_back 0 15 s.waits (omega arith) (omega arith) w.4,
      style_back s.style,
    )

pub reads_as_printed : ReadsAsPrinted
unfolding line_of
reads_as_printed (link s) w = rw (settings_back s w)
reads_as_printed (damage k) w = rw (number_back 0 65535 k (omega arith) (omega arith) w)
reads_as_printed (send u bytes) w =
    rw (split_at (decimal u) (hex bytes) (plain_decimal u (omega arith)), number_back 0 255 u (omega arith) (omega arith) w.0, command_back bytes w.1 w.2)
reads_as_printed (reset u) w = rw (number_back 0 255 u (omega arith) (omega arith) w)
