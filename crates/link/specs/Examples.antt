use Rattle.std.specs.Prelude.{◌≡◌, ℕ, zero, suc, ◌+◌, true, false, List, [], ◌∷◌, Some, None}
use Rattle.apdu.specs.Applications.{App}
use Rattle.apdu.specs.Statuses.{done}
use Rattle.link.specs.Direct.{direct}
use Rattle.link.specs.Exchange.{crossings_trace, asked_of}
use Rattle.link.specs.Laws.{loss, states}
use Rattle.link.specs.Meaning.{Linked, Asked, Crossing, Fate, carried, before, after, played}
use Rattle.link.specs.Meant.{quiet}
use Rattle.link.specs.Rows.{rows}
use Rattle.link.specs.Turns.{send, restart, Gave, gives, restarted, denied, Entry, Call, alone, run, Went, journal, answers, whole_trace}
use Rattle.link.specs.declared.row.Row.{Row}
use Rattle.link.specs.declared.turn.Turn.{Turn}

-- An application that counts its runs, and answers its count and 7 with status 9000; a reset begins at 0.
abbrev pub counter : App ℕ
counter = record {
  State = ℕ;
  state = λ x. x;
  runs = λ x cla ins p1 p2 body. record { state = x + 1; reply = record { answer = x ∷ 7 ∷ []; status = done } };
  resets = λ x. 0;
}

-- A link on which turns are carried, but for the one after n others, in which it is lost with this fate. The count is at 5.
abbrev pub failing : ℕ → Fate → List Asked → List Crossing
failing n f [] = []
failing zero f (a ∷ more) = record { characters = []; fate = f } ∷ []
failing (suc n) f (a ∷ more) = record { characters = []; fate = carried } ∷ failing n f more

abbrev pub link_failing : ℕ → Fate → Linked ℕ
link_failing n f = record { state = 5; lost = false; coming = failing n f }

-- A link with no line, the count at 5.
abbrev pub link_quiet : Linked ℕ
link_quiet = quiet 5

-- 00 B0 00 00 02: an outward command with Ne 2.
abbrev pub read_two : List ℕ
read_two = 0x00 ∷ 0xB0 ∷ 0x00 ∷ 0x00 ∷ 0x02 ∷ []

abbrev pub says : ℕ → Gave → Entry
says p g = record { program = p; gave = g }

abbrev pub answered : ℕ → Gave
answered count = gives (count ∷ 7 ∷ []) done

-- Two reads of program 1, and between them a reset of program 2; the first has a buffer of three bytes.
abbrev pub reset_between : List Call
reset_between = alone 1 (send read_two) (0 ∷ 0 ∷ 9 ∷ []) ∷ alone 2 restart [] ∷ alone 1 (send read_two) (0 ∷ 0 ∷ []) ∷ []

-- Two reads, an empty command, a read with a buffer of one byte, a reset.
abbrev pub past_loss : List Call
past_loss =
    alone 1 (send read_two) (0 ∷ 0 ∷ []) ∷ alone 1 (send read_two) (0 ∷ 0 ∷ []) ∷ alone 1 (send []) [] ∷ alone 1 (send read_two) (0 ∷ []) ∷ alone 1 restart [] ∷ []

-- A turn of program 3 with this tag, and its command from this place on.
abbrev pub turn_at : ℕ → ℕ → ℕ → Turn
turn_at tag start n = record { tag = tag; program = 3; start = start; length = n }

-- A run of two reads on three bytes of data, with this many free places in the journal: the second finds one byte left.
abbrev pub two_reads : ℕ → List Call
two_reads places = run (turn_at 0 0 5 ∷ turn_at 0 0 5 ∷ []) read_two (0 ∷ 0 ∷ 9 ∷ []) places ∷ []

-- A run of a read, a turn with tag 2, a read whose place passes the end of the command bytes, and a reset.
abbrev pub odd_turns : List Call
odd_turns = run (turn_at 0 0 5 ∷ turn_at 2 0 5 ∷ turn_at 0 1 5 ∷ turn_at 1 0 0 ∷ []) read_two (0 ∷ 0 ∷ 9 ∷ []) 4 ∷ []

abbrev pub two_resets : List Call
two_resets = alone 1 restart [] ∷ alone 1 restart [] ∷ []

-- A link that tells of a turn otherwise once another follows it. It is over no transport, and does not tell true.
abbrev pub fickle : List Asked → List Crossing
fickle [] = []
fickle (a ∷ []) = record { characters = []; fate = carried } ∷ []
fickle (a ∷ b ∷ more) =
    record { characters = record { by_card = true; byte = 1; damaged = false } ∷ []; fate = carried } ∷ record { characters = []; fate = carried } ∷ []

abbrev pub link_fickle : Linked ℕ
link_fickle = record { state = 5; lost = false; coming = fickle }

-- The turns that calls leave.
abbrev pub turns_over : Linked ℕ → List Call → List (Went (Linked ℕ))
turns_over l cs = (played counter l cs).turns

-- A row of program 3: its kind, SW1, SW2, and the place and length of its answer.
abbrev pub row : ℕ → ℕ → ℕ → ℕ → ℕ → Row
row kind high low place n = record { program = 3; kind = kind; sw1 = high; sw2 = low; place = place; length = n }

-- What the definitions say of these, worked out.
pub record Examples : Type 0 where
  -- a reset between two reads: the count begins at 0 again, and bytes past the answer stay
  pub reset_entries : journal (turns_over link_quiet reset_between) ≡ says 1 (answered 5) ∷ says 2 restarted ∷ says 1 (answered 0) ∷ []
  pub reset_buffers : answers (turns_over link_quiet reset_between) ≡ (5 ∷ 7 ∷ 9 ∷ []) ∷ [] ∷ (0 ∷ 7 ∷ []) ∷ []
  -- a loss in the second of five turns: it gives 5, and later turns give 1 or 4 where these refuse, else 5
  pub loss_entries : journal (turns_over (link_failing 1 after) past_loss)
      ≡ says 1 (answered 5) ∷ says 1 (denied 5) ∷ says 1 (denied 1) ∷ says 1 (denied 4) ∷ says 1 (denied 5) ∷ []
  pub loss_buffers : answers (turns_over (link_failing 1 after) past_loss) ≡ (5 ∷ 7 ∷ []) ∷ (0 ∷ 0 ∷ []) ∷ [] ∷ (0 ∷ []) ∷ [] ∷ []
  pub loss_turn : loss (played counter (link_failing 1 after) past_loss) ≡ Some 1
  pub no_loss_turn : loss (played counter link_quiet past_loss) ≡ None
  -- lost after the application ran, it ran once in that turn; lost before, not at all; and never again
  pub states_lost_after : states (turns_over (link_failing 1 after) past_loss) ≡ 6 ∷ 7 ∷ 7 ∷ 7 ∷ 7 ∷ []
  pub states_lost_before : states (turns_over (link_failing 1 before) past_loss) ≡ 6 ∷ 6 ∷ 6 ∷ 6 ∷ 6 ∷ []
  -- a reset that is lost gives 5, and the application may have been reset
  pub lost_reset_entries : journal (turns_over (link_failing 1 after) reset_between) ≡ says 1 (answered 5) ∷ says 2 (denied 5) ∷ says 1 (denied 5) ∷ []
  pub lost_reset_states : states (turns_over (link_failing 1 after) reset_between) ≡ 6 ∷ 0 ∷ 0 ∷ []
  -- the direct card that is told the turn of the loss gives the same entries
  pub direct_entries : journal (direct counter 5 (Some 1) past_loss).turns ≡ journal (turns_over (link_failing 1 after) past_loss)
  -- a run with two turns and one free place takes no turn
  pub full_journal_entries : journal (turns_over link_quiet (two_reads 1)) ≡ []
  pub full_journal_data : (played counter link_quiet (two_reads 1)).buffers ≡ (0 ∷ 0 ∷ 9 ∷ []) ∷ []
  -- with two free places it does: the first read takes up two of the three bytes, and the second is refused for want of room
  pub short_rest_entries : journal (turns_over link_quiet (two_reads 2)) ≡ says 3 (answered 5) ∷ says 3 (denied 4) ∷ []
  pub short_rest_data : (played counter link_quiet (two_reads 2)).buffers ≡ (5 ∷ 7 ∷ 9 ∷ []) ∷ []
  pub short_rest_rows : rows 0 (turns_over link_quiet (two_reads 2)) ≡ row 0 0x90 0x00 0 2 ∷ row 4 0 0 2 0 ∷ []
  -- tag 2 and a place past the end are malformed commands
  pub odd_entries : journal (turns_over link_quiet odd_turns) ≡ says 3 (answered 5) ∷ says 3 (denied 1) ∷ says 3 (denied 1) ∷ says 3 restarted ∷ []
  pub odd_rows : rows 0 (turns_over link_quiet odd_turns) ≡ row 0 0x90 0x00 0 2 ∷ row 1 0 0 2 0 ∷ row 1 0 0 2 0 ∷ row 16 0 0 2 0 ∷ []
  -- the fickle link told of one character, and none crossed
  pub fickle_crossed : whole_trace (turns_over link_fickle two_resets) ≡ []
  pub fickle_told : crossings_trace (fickle (asked_of counter 5 false (turns_over link_fickle two_resets))) ≡ record { by_card = true; byte = 1; damaged = false } ∷ []
