use Rattle.std.specs.Prelude.{ℕ, ◌<◌, ◌≤◌, cond, List, [], ◌∷◌, ◌++◌, length, Some, None, codes, decimal, Option}
use Rattle.std.specs.Option.{option_map}
use Rattle.std.specs.List.{AllByRecursion}
use Rattle.std.specs.Str.{bytes_eq}
use Rattle.arrayvec.specs.ArrayVec.{ArrayVec}
use Rattle.script.specs.declared.line.Protocol.{Protocol}
use Rattle.script.specs.declared.line.Protocol.TheVariants.{T0, T1}
use Rattle.t0.specs.declared.settings.Style.{Style}
use Rattle.t0.specs.declared.settings.Style.TheVariants.{Whole, Bytewise}
use Rattle.script.specs.declared.line.Settings.{Settings}
use Rattle.script.specs.declared.line.Line as code
use Rattle.script.specs.declared.line.Line.TheVariants.{Link, Damage, Send, Reset}
use Rattle.script.specs.Fields.{and_then, split, number}
use Rattle.script.specs.Hex.{hex, command_of, opened}
use Rattle.script.specs.Links.{settings_of}

-- A line of a script: the link's settings, a position of damage, a turn of a program with the bytes of its command, or a reset by a program.
pub data Line : Type 0 where
  link : Settings → Line
  damage : ℕ → Line
  send : ℕ → List ℕ → Line
  reset : ℕ → Line

-- `send,u,HEX` after its word: u from 0 to 255, and the command.
abbrev pub send_of : List ℕ → Option Line
send_of text =
    and_then (split text) (λ u. and_then (number 0 255 u.0) (λ program.
    and_then (command_of u.1) (λ bytes. Some (send program bytes))))

-- The kind of a line is said by its word, the text before its first comma: `link,T,IFSC,IFSD,N,S`, `damage,k` with k from 0 to 65535, `send,u,HEX`, `reset,u` with u from 0 to 255.
abbrev pub after_word : List ℕ → List ℕ → Option Line
after_word word text =
    cond (bytes_eq word (codes "link")) (option_map link (settings_of text))
    (cond (bytes_eq word (codes "damage")) (option_map damage (number 0 65535 text))
    (cond (bytes_eq word (codes "send")) (send_of text)
    (cond (bytes_eq word (codes "reset")) (option_map reset (number 0 255 text)) None)))

-- What one line says, taken alone; a text that is not so formed, or passes a limit, says nothing.
unfoldable pub line_of : List ℕ → Option Line
line_of text = and_then (split text) (λ p. after_word p.0 p.1)

-- T as it is written.
abbrev pub protocol_text : Protocol → List ℕ
protocol_text T0 = codes "0"
protocol_text T1 = codes "1"

-- S as it is written.
abbrev pub style_text : Style → List ℕ
style_text Whole = codes "w"
style_text Bytewise = codes "b"

-- A line as it is written, without its LF.
abbrev pub printed : Line → List ℕ
printed (link s) =
    codes "link," ++ (protocol_text s.protocol ++ (44 ∷ (decimal s.ifsc ++ (44 ∷ (decimal s.ifsd ++ (44 ∷ (decimal s.waits ++ (44 ∷ style_text s.style))))))))
printed (damage k) = codes "damage," ++ decimal k
printed (send u bytes) = codes "send," ++ (decimal u ++ (44 ∷ hex bytes))
printed (reset u) = codes "reset," ++ decimal u

-- A line as the code holds it: the bytes of a command lie apart.
abbrev pub told : Line → code.Line
told (link s) = Link s
told (damage k) = Damage k
told (send u bytes) = Send u (length bytes)
told (reset u) = Reset u

-- The bytes that a line sends: only a send has any.
abbrev pub command_in : Line → List ℕ
command_in (link s) = []
command_in (damage k) = []
command_in (send u bytes) = bytes
command_in (reset u) = []

-- A line as the code holds it, and its command.
abbrev pub apart : Line → code.Line × ArrayVec ℕ
apart l = (told l, record { items = command_in l })

-- The memory of commands after a line: the command of a send opens it, and any other line, or a bad one, leaves it as it was.
abbrev pub held : Option Line → List ℕ → List ℕ
held None memory = memory
held (Some (link s)) memory = memory
held (Some (damage k)) memory = memory
held (Some (send u bytes)) memory = opened bytes memory
held (Some (reset u)) memory = memory

-- The limits of a line.
abbrev pub Within : Line → Type 0
Within (link s) = (1 ≤ s.ifsc) × (s.ifsc ≤ 254) × (1 ≤ s.ifsd) × (s.ifsd ≤ 254) × (s.waits ≤ 15)
Within (damage k) = k ≤ 65535
Within (send u bytes) = (u ≤ 255) × (length bytes ≤ 300) × AllByRecursion (λ b. b < 256) bytes
Within (reset u) = u ≤ 255
