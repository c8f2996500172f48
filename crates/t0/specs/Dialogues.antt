use Rattle.std.specs.Prelude.{ℕ, min, cond, List, [], ◌∷◌, ◌++◌, length, take, ◌==◌, nat_le}
use Rattle.apdu.specs.Applications.{Reply}
use Rattle.apdu.specs.Commands.{Command, inward}
use Rattle.wire.specs.declared.traced.Sender.{Sender}
use Rattle.wire.specs.declared.traced.Sender.TheVariants as by
use Rattle.apdu.specs.declared.header.Header.{Header}
use Rattle.t0.specs.declared.settings.Settings.{Settings}
use Rattle.t0.specs.declared.settings.Style.{Style}
use Rattle.t0.specs.declared.settings.Style.TheVariants.{Whole, Bytewise}
use Rattle.t0.specs.Procedures.{header, as_p3, get_response, mover, procedure, moves_out, closes, says_status}

-- A character of a dialogue: its sender, the card or the terminal, and its byte.
pub record Word : Type 0 where
  pub sender : Sender
  pub byte : ℕ

abbrev pub from_terminal : List ℕ → List Word
from_terminal [] = []
from_terminal (b ∷ bs) = record { sender = by.Terminal; byte = b } ∷ from_terminal bs

abbrev pub from_card : List ℕ → List Word
from_card [] = []
from_card (b ∷ bs) = record { sender = by.Card; byte = b } ∷ from_card bs

-- Data that the terminal moves in, one byte after each procedure byte.
abbrev pub one_by_one_in : Settings → ℕ → List ℕ → List Word
one_by_one_in s ins [] = []
one_by_one_in s ins (x ∷ xs) = from_card (procedure s (mover s.style ins)) ++ (from_terminal (x ∷ []) ++ one_by_one_in s ins xs)

-- Data that the terminal moves in: none without data; all after one procedure byte, or one by one.
abbrev pub moved_in : Style → Settings → ℕ → List ℕ → List Word
moved_in Whole s ins [] = []
moved_in Whole s ins (x ∷ xs) = from_card (procedure s (mover s.style ins)) ++ from_terminal (x ∷ xs)
moved_in Bytewise s ins xs = one_by_one_in s ins xs

-- The header of a command, without P3.
abbrev pub header_of : Command → Header
header_of c = record { cla = c.cla; ins = c.ins; p1 = c.p1; p2 = c.p2 }

-- After an outward command ran: the status alone, where there is no answer; the first Ne bytes and the status, where there
-- are as many; else 6C and the count, the header again with that count, the bytes and the status.
abbrev pub after_outward : Settings → Command → Reply → List Word
after_outward s c r =
    cond (length r.answer == 0) (from_card (says_status s r.status))
    (cond (nat_le c.ne (length r.answer))
    (from_card (moves_out s c.ins (take c.ne r.answer) ++ says_status s r.status))
    (from_card (closes s 0x6C (length r.answer))
    ++ (from_terminal (header (header_of c) (length r.answer))
    ++ from_card (moves_out s c.ins r.answer ++ says_status s r.status))))

-- After an inward command ran: the status alone, where there is no answer; else 61 and the count, and, unless Ne is 0, GET
-- RESPONSE for the smaller of the count and Ne, as many bytes and the status.
abbrev pub after_inward : Settings → Command → Reply → List Word
after_inward s c r =
    cond (length r.answer == 0) (from_card (says_status s r.status))
    (from_card (closes s 0x61 (as_p3 (length r.answer)))
    ++ cond (c.ne == 0) []
    (let n = min (length r.answer) c.ne in
    from_terminal (header (get_response c.cla) (as_p3 n))
    ++ from_card (moves_out s 0xC0 (take n r.answer) ++ says_status s r.status)))

-- A dialogue: what is said until the application runs, and what is said then.
pub record Dialogue : Type 0 where
  pub opening : List Word
  pub closing : List Word

-- The dialogue of a command that gets this reply.
abbrev pub dialogue : Settings → Command → Reply → Dialogue
dialogue s c r =
    cond (inward c.ins)
    (record {
      opening = from_terminal (header (header_of c) (as_p3 (length c.body))) ++ moved_in s.style s c.ins c.body;
      closing = after_inward s c r;
    })
    (record { opening = from_terminal (header (header_of c) (as_p3 c.ne)); closing = after_outward s c r })

abbrev pub whole : Dialogue → List Word
whole d = d.opening ++ d.closing
