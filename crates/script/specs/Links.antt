use Rattle.std.specs.Prelude.{ℕ, cond, List, Some, None, codes, Option}
use Rattle.std.specs.Str.{bytes_eq}
use Rattle.script.specs.declared.line.Protocol.{Protocol}
use Rattle.script.specs.declared.line.Protocol.TheVariants.{T0, T1}
use Rattle.t0.specs.declared.settings.Style.{Style}
use Rattle.t0.specs.declared.settings.Style.TheVariants.{Whole, Bytewise}
use Rattle.script.specs.declared.line.Settings.{Settings}
use Rattle.script.specs.Fields.{and_then, split, number}

-- T is `0` or `1`.
abbrev pub protocol_of : List ℕ → Option Protocol
protocol_of text = cond (bytes_eq text (codes "0")) (Some T0) (cond (bytes_eq text (codes "1")) (Some T1) None)

-- S is `w` or `b`.
abbrev pub style_of : List ℕ → Option Style
style_of text = cond (bytes_eq text (codes "w")) (Some Whole) (cond (bytes_eq text (codes "b")) (Some Bytewise) None)

-- The fields of a link line after its word: T, IFSC and IFSD from 1 to 254, N from 0 to 15, and S.
abbrev pub settings_of : List ℕ → Option Settings
settings_of text =
    and_then (split text) (λ t. and_then (protocol_of t.0) (λ protocol.
    and_then (split t.1) (λ c. and_then (number 1 254 c.0) (λ ifsc.
    and_then (split c.1) (λ d. and_then (number 1 254 d.0) (λ ifsd.
    and_then (split d.1) (λ n. and_then (number 0 15 n.0) (λ waits.
    and_then (style_of n.1) (λ style.
    Some (record { protocol = protocol; ifsc = ifsc; ifsd = ifsd; waits = waits; style = style }))))))))))
