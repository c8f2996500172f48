use Rattle.std.specs.Prelude.{◌≡◌, ℕ, min, List, length, take, Some, None, Ok, Err, Option, Result}
use Rattle.apdu.specs.Applications.{App, does, opened}
use Rattle.apdu.specs.Commands.{Command}
use Rattle.apdu.specs.Refusals.{number}
use Rattle.apdu.specs.declared.refusal.Refusal.{Refusal}
use Rattle.apdu.specs.declared.status.Status.{Status}
use Rattle.wire.specs.Records.{Grew}
use Rattle.wire.specs.declared.record.Record.{Record}
use Rattle.wire.specs.declared.traced.Traced.{Traced}
use Rattle.link.specs.Turns.{Gave, gives, restarted, denied, Did, taken}

-- What the result of a send and the answer buffer after it say that the turn gave.
abbrev pub gave_of : Result (ℕ × Status) Refusal → List ℕ → Gave
gave_of (Ok p) buffer = gives (take p.0 buffer) p.1
gave_of (Err e) buffer = denied (number e)

-- The count of answer bytes in the result of a send; a refusal has none.
abbrev pub count_of : Result (ℕ × Status) Refusal → ℕ
count_of (Ok p) = p.0
count_of (Err e) = 0

-- What the result of a reset says that the turn gave.
abbrev pub reset_gave : Result (Unit {0}) Refusal → Gave
reset_gave (Ok _) = restarted
reset_gave (Err e) = denied (number e)

-- What the result of a turn and the answer buffer after it say that the turn gave.
abbrev pub turn_gave : Result (Option (ℕ × Status)) Refusal → List ℕ → Gave
turn_gave (Ok (Some p)) buffer = gives (take p.0 buffer) p.1
turn_gave (Ok None) buffer = restarted
turn_gave (Err e) buffer = denied (number e)

-- The count of answer bytes in the result of a turn; a reset and a refusal have none.
abbrev pub turn_count : Result (Option (ℕ × Status)) Refusal → ℕ
turn_count (Ok (Some p)) = p.0
turn_count (Ok None) = 0
turn_count (Err e) = 0

-- The answer bytes that a command is to have of its answer: the first Ne, as far as there is room.
abbrev pub wanted_of : Command → ℕ → List ℕ → List ℕ
wanted_of c room answer = take (min c.ne room) answer

-- All that one run of an application on a command did: its state then, each byte of the answer buffer, the count of answer
-- bytes that open it, and the status.
pub record Answers {V : Type 0} (app : App V) (x : app.State) (c : Command) (buffer : List ℕ) (z : app.State) (left : List ℕ) (r : ℕ × Status) : Type 0 where
  pub state : z ≡ (does app x c).state
  pub wrote : left ≡ opened (wanted_of c (length buffer) (does app x c).reply.answer) buffer
  pub count : r.0 ≡ length (wanted_of c (length buffer) (does app x c).reply.answer)
  pub status : r.1 ≡ (does app x c).reply.status

-- All that a send did is what `d` says: what took the turn, each byte of the answer buffer, and the result.
pub record Sends {M : Type 0} (d : Did M) (m : M) (buffer : List ℕ) (r : Result (ℕ × Status) Refusal) : Type 0 where
  pub after : m ≡ d.after
  pub wrote : buffer ≡ d.buffer
  pub gave : gave_of r buffer ≡ d.gave
  pub count : count_of r ≡ taken d.gave

-- All that a reset did is what `d` says.
pub record Resets {M : Type 0} (d : Did M) (m : M) (r : Result (Unit {0}) Refusal) : Type 0 where
  pub after : m ≡ d.after
  pub gave : reset_gave r ≡ d.gave

-- All that a turn, a send or a reset, did is what `d` says: what took it, each byte of the answer buffer, and the result.
pub record Takes {M : Type 0} (d : Did M) (m : M) (buffer : List ℕ) (r : Result (Option (ℕ × Status)) Refusal) : Type 0 where
  pub after : m ≡ d.after
  pub wrote : buffer ≡ d.buffer
  pub gave : turn_gave r buffer ≡ d.gave
  pub count : turn_count r ≡ taken d.gave

-- All that a send over a link did is what `d` says, and the trace grew by the characters that crossed.
pub record LinkSends {M : Type 0} (d : Did M) (m : M) (buffer : List ℕ) (r : Result (ℕ × Status) Refusal) (t u : Record Traced) : Type 0 where
  pub turn : Sends d m buffer r
  pub trace : Grew t u d.characters

-- All that a reset over a link did is what `d` says, and the trace grew by the characters that crossed.
pub record LinkResets {M : Type 0} (d : Did M) (m : M) (r : Result (Unit {0}) Refusal) (t u : Record Traced) : Type 0 where
  pub turn : Resets d m r
  pub trace : Grew t u d.characters

-- All that a turn over a link did is what `d` says, and the trace grew by the characters that crossed.
pub record LinkTakes {M : Type 0} (d : Did M) (m : M) (buffer : List ℕ) (r : Result (Option (ℕ × Status)) Refusal) (t u : Record Traced) : Type 0 where
  pub turn : Takes d m buffer r
  pub trace : Grew t u d.characters
