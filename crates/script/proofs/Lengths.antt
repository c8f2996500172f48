use Rattle.std.proofs.Common.{◌≡◌, ℕ, ◌*◌, ◌<◌, ◌≤◌, List, [], ◌∷◌, length, Some, None, decimal, Option, refl, ap, arith}
use Rattle.std.proofs.lemmas.Fmt.{length-decimal-le}
use Rattle.std.proofs.lemmas.List.{length-append}
use Rattle.script.specs.declared.line.Protocol.{Protocol}
use Rattle.script.specs.declared.line.Protocol.TheVariants.{T0, T1}
use Rattle.t0.specs.declared.settings.Style.{Style}
use Rattle.t0.specs.declared.settings.Style.TheVariants.{Whole, Bytewise}
use Rattle.script.specs.declared.line.Settings.{Settings}
use Rattle.script.specs.Hex.{hex}
use Rattle.script.specs.Lines.{Line, link, damage, send, reset, line_of, printed, protocol_text, style_text, Within}
use Rattle.script.proofs.LineLaws.{line_inv}

pub length_hex : (bs : List ℕ) → length (hex bs) ≡ 2 * length bs
length_hex [] = refl
length_hex (b ∷ bs) = omega (arith, length_hex bs)

pub length_protocol : (p : Protocol) → length (protocol_text p) ≡ 1
length_protocol T0 = refl
length_protocol T1 = refl

pub length_style : (p : Style) → length (style_text p) ≡ 1
length_style Whole = refl
length_style Bytewise = refl

pub byte_length : (n : ℕ) → n < 1000 → length (decimal n) ≤ 3
byte_length n h = length-decimal-le 3 n (omega arith) (omega arith) (omega arith)

pub link_short : (s : Settings) → s.ifsc < 256 → s.ifsd < 256 → s.waits < 256 → length (printed (link s)) ≤ 609
link_short s f g h =
    let a = length_protocol s.protocol in
    let b = length_style s.style in
    let c = byte_length s.ifsc (omega arith) in
    let d = byte_length s.ifsd (omega arith) in
    let e = byte_length s.waits (omega arith) in
    simp length-append (omega arith)

pub send_short : (u : ℕ) (bytes : List ℕ) → u < 256 → length bytes ≤ 300 → length (printed (send u bytes)) ≤ 609
send_short u bytes h k =
    let a = byte_length u (omega arith) in
    let b = length_hex bytes in
    simp length-append (omega arith)

-- the longest line has 609 bytes
pub printed_short : (l : Line) → Within l → length (printed l) ≤ 609
printed_short (link s) w = link_short s (omega arith) (omega arith) (omega arith)
printed_short (damage k) w =
    let a = length-decimal-le 5 k (omega arith) (omega arith) (omega arith) in
    simp length-append (omega arith)
printed_short (send u bytes) w = send_short u bytes (omega arith) w.1
printed_short (reset u) w =
    let a = byte_length u (omega arith) in
    simp length-append (omega arith)

none_by : (o : Option Line) → ((l : Line) → o ≡ Some l → ⊥) → o ≡ None
none_by None h = refl
none_by (Some l) h = absurd (h l refl)

-- a longer line is bad
pub line_long : (text : List ℕ) → 609 < length text → line_of text ≡ None
line_long text h =
    none_by (line_of text) (λ l e.
    let f = line_inv text l e in
    let g = printed_short l f.1 in
    omega (arith, g, ap length f.0))
