use Rattle.std.specs.Prelude.{ℕ, cond, Ok, Err, Result, ◌==◌, nat_lt}
use Rattle.apdu.specs.Judging.{Judged, refused, passes}
use Rattle.apdu.specs.Refusals.{number}
use Rattle.apdu.specs.Statuses.{done}
use Rattle.t0.specs.declared.terminal.Waiting.{Waiting}
use Rattle.apdu.specs.declared.refusal.Refusal.{Refusal}
use Rattle.apdu.specs.declared.status.Status.{Status}
use Rattle.t0.specs.declared.terminal.Ready.{Ready}
use Rattle.t0.specs.declared.terminal.Holding.{Holding}
use Rattle.t0.specs.declared.terminal.Token.{Token}
use Rattle.t0.specs.Terminals.{sends, fetches}

-- What a command comes to at the terminal: it is being sent, or it is refused with a number.
pub data Start : Type 0 where
  sending : Waiting → Start
  not_sent : ℕ → Start

abbrev pub start_of : Judged → Start
start_of (refused n) = not_sent n
start_of (passes c) = sending (sends c)

-- What the code gives for a command: the terminal that sends it, or the one that is ready as before, and why.
abbrev pub started : Result Waiting (Ready × Refusal) → Start
started (Ok w) = sending w
started (Err (_, e)) = not_sent (number e)

-- A fetch is for an answer of which some is wanted; else nothing is spent.
abbrev pub fetched_by : Token → Holding → Result Waiting (Holding × Token)
fetched_by t h = cond (t.ne == 0) (Err (h, t)) (Ok (fetches t))

-- A discard is for an answer of which none is wanted, and reports 9000; else nothing is spent.
abbrev pub discarded_by : Token → Holding → Result (Ready × Status) (Holding × Token)
discarded_by t h = cond (nat_lt 0 t.ne) (Err (h, t)) (Ok (record {}, done))
