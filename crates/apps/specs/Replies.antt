use Rattle.std.specs.Prelude.{ℕ, List, [], Ok, Err, Result}
use Rattle.apdu.specs.Applications.{Reply, Outcome}
use Rattle.apdu.specs.Statuses.{done}
use Rattle.apdu.specs.declared.status.Status.{Status}

-- What a result says of a command: it answers the bytes that `bytes` reads off it, with 9000, or it is refused with this
-- status alone.
abbrev pub replied : {T : Type 0} → (T → List ℕ) → Result T Status → Reply
replied bytes (Ok answer) = record { answer = bytes answer; status = done }
replied bytes (Err why) = record { answer = []; status = why }

-- What a command gives: the state that it leaves, and the reply of its result.
abbrev pub gives : {S T : Type 0} → S → (T → List ℕ) → Result T Status → Outcome S
gives state bytes result = record { state = state; reply = replied bytes result }
