use Rattle.std.specs.Prelude.{ℕ, ◌+◌, ◌-◌, min, Bool, false, cond, ◌&&◌, length, Some, None, Option, ◌==◌, nat_le, nat_lt}
use Rattle.apdu.specs.Commands.{Command, inward, wanted}
use Rattle.apdu.specs.Statuses.{status_of}
use Rattle.apdu.specs.declared.status.Status.{Status}
use Rattle.apdu.specs.declared.header.Header.{Header}
use Rattle.t0.specs.declared.terminal.Kind.{Kind}
use Rattle.t0.specs.declared.terminal.Kind.TheVariants.{Inward, Outward, Repeated, Response}
use Rattle.t0.specs.declared.terminal.Phase.{Phase}
use Rattle.t0.specs.declared.terminal.Phase.TheVariants.{Heading, Procedure, Sending, Receiving, Closing}
use Rattle.t0.specs.declared.terminal.Waiting.{Waiting}
use Rattle.t0.specs.declared.terminal.Token.{Token}
use Rattle.t0.specs.declared.terminal.Want.{Want}
use Rattle.t0.specs.declared.terminal.Want.TheVariants.{Send, SendData, Receive}
use Rattle.t0.specs.declared.terminal.Step.{Step}
use Rattle.t0.specs.declared.terminal.Step.TheVariants.{Next, Keep, Done, Held, Broken}
use Rattle.t0.specs.Procedures.{as_p3, get_response, is_sw1}
use Rattle.t0.specs.Dialogues.{header_of}

-- A terminal that begins a header.
abbrev pub heading_for : Header → ℕ → Kind → ℕ → ℕ → Waiting
heading_for h p3 kind ne total = record { header = h; p3 = p3; kind = kind; ne = ne; total = total; due = total; phase = Heading 0 }

-- A command that was read and passes: P3 is Lc for an inward one, Le for an outward one.
abbrev pub sends : Command → Waiting
sends c =
    cond (inward c.ins) (heading_for (header_of c) (as_p3 (length c.body)) Inward c.ne (length c.body))
    (heading_for (header_of c) (as_p3 c.ne) Outward c.ne c.ne)

-- The terminal in this phase.
abbrev pub at_phase : Waiting → Phase → Waiting
at_phase w p = record { header = w.header; p3 = w.p3; kind = w.kind; ne = w.ne; total = w.total; due = w.due; phase = p }

-- One byte fewer is due.
abbrev pub one_fewer : Waiting → Phase → Waiting
one_fewer w p = record { header = w.header; p3 = w.p3; kind = w.kind; ne = w.ne; total = w.total; due = w.due - 1; phase = p }

-- The place of the next byte that moves.
abbrev pub place : Waiting → ℕ
place w = w.total - w.due

-- The characters of the header by their number; past the fourth it is P3.
abbrev pub header_byte : Waiting → ℕ → ℕ
header_byte w n =
    cond (n == 0) w.header.cla (cond (n == 1) w.header.ins (cond (n == 2) w.header.p1 (cond (n == 3) w.header.p2 w.p3)))

-- What the terminal wants.
abbrev pub wants : Waiting → Phase → Want
wants w (Heading n) = Send (header_byte w n)
wants w Procedure = Receive
wants w (Sending n) = SendData (place w)
wants w (Receiving n) = Receive
wants w (Closing sw1) = Receive

-- The terminal once it has sent what it wanted to send; nothing changes where it wanted to receive.
abbrev pub has_sent : Waiting → Phase → Waiting
has_sent w (Heading n) = at_phase w (cond (nat_lt n 4) (Heading (n + 1)) Procedure)
has_sent w Procedure = w
has_sent w (Sending n) = one_fewer w (cond (nat_le n 1) Procedure (Sending (n - 1)))
has_sent w (Receiving n) = w
has_sent w (Closing sw1) = w

-- The phase in which so many bytes move.
abbrev pub moving : Kind → ℕ → Phase
moving Inward n = Sending n
moving Outward n = Receiving n
moving Repeated n = Receiving n
moving Response n = Receiving n

-- A procedure byte that has bytes moved: with nothing due the protocol is broken.
abbrev pub move : Waiting → ℕ → Step
move w n = cond (w.due == 0) Broken (Next (at_phase w (moving w.kind n)))

-- A procedure byte: 60 waits, INS moves all bytes due, its inverse moves one, SW1 awaits SW2; any other is unknown.
abbrev pub procedure_byte : Waiting → ℕ → Step
procedure_byte w b =
    cond (b == 0x60) (Next w)
    (cond (b == w.header.ins) (move w w.due)
    (cond (b == 255 - w.header.ins) (move w 1)
    (cond (is_sw1 b) (Next (at_phase w (Closing b))) Broken)))

-- 61 is for the inward command itself: the answer is held, and 00 counts as 256.
abbrev pub holds : Waiting → Kind → ℕ → Step
holds w Inward count = Held (record {}) (record { cla = w.header.cla; ne = w.ne; held = wanted count })
holds w Outward count = Broken
holds w Repeated count = Broken
holds w Response count = Broken

-- 6C is for an outward command that it first meets, before any byte moved, with a count from 1 and below Ne: the header is
-- repeated with that count.
abbrev pub repeats : Waiting → Kind → ℕ → Step
repeats w Inward count = Broken
repeats w Outward count =
    cond (w.due == w.total && (nat_lt 0 count && nat_lt count w.total))
    (Next (heading_for w.header count Repeated w.ne count)) Broken
repeats w Repeated count = Broken
repeats w Response count = Broken

-- A status ends an inward command, and an outward one unless only a part of its bytes moved.
abbrev pub is_part : Waiting → Kind → Bool
is_part w Inward = false
is_part w Outward = nat_lt 0 w.due && nat_lt w.due w.total
is_part w Repeated = nat_lt 0 w.due && nat_lt w.due w.total
is_part w Response = nat_lt 0 w.due && nat_lt w.due w.total

-- How many bytes of the answer moved: none for an inward command.
abbrev pub count_moved : Waiting → Kind → ℕ
count_moved w Inward = 0
count_moved w Outward = place w
count_moved w Repeated = place w
count_moved w Response = place w

-- A lawful status ends the command; any other breaks the protocol.
abbrev pub done_with : ℕ → Option Status → Step
done_with count None = Broken
done_with count (Some status) = Done (record {}) count status

-- A status that is neither 61 nor 6C: it ends the command with the count of bytes that moved.
abbrev pub ends : Waiting → ℕ → ℕ → Step
ends w sw1 sw2 = cond (is_part w w.kind) Broken (done_with (count_moved w w.kind) (status_of sw1 sw2))

-- SW2 after SW1.
abbrev pub closed : Waiting → ℕ → ℕ → Step
closed w sw1 sw2 =
    cond (sw1 == 0x61) (holds w w.kind sw2) (cond (sw1 == 0x6C) (repeats w w.kind sw2) (ends w sw1 sw2))

-- What the terminal makes of a character; while it sends, it ignores one.
abbrev pub hears : Waiting → Phase → ℕ → Step
hears w (Heading n) b = Next w
hears w Procedure b = procedure_byte w b
hears w (Sending n) b = Next w
hears w (Receiving n) b = Keep (one_fewer w (cond (nat_le n 1) Procedure (Receiving (n - 1)))) (place w)
hears w (Closing sw1) b = closed w sw1 b

-- What the token asks for: the smaller of the held count and Ne.
abbrev pub fetches : Token → Waiting
fetches t =
    let n = min t.held t.ne in
    heading_for (get_response t.cla) (as_p3 n) Response t.ne n
