use Rattle.std.specs.Prelude.{◌≡◌, ℕ, ◌<◌, ◌≤◌, List, ◌++◌, length, drop}
use Rattle.apdu.specs.Commands.{Command}
use Rattle.apdu.specs.Statuses.{done}
use Rattle.apdu.specs.declared.status.Status.{Status}

-- What an application replies to a command: answer bytes and a status.
pub record Reply : Type 0 where
  pub answer : List ℕ
  pub status : Status

-- What a run gives: the new state and the reply.
pub record Outcome (S : Type 0) : Type 0 where
  pub state : S
  pub reply : Reply

-- What the values V of an application mean: a type of states, the state that a value is in, what a run makes of a state,
-- CLA, INS, P1, P2 and data, and what a reset makes of a state. Both follow from these alone; Ne is not handed over.
pub record App (V : Type 0) : Type 1 where
  pub State : Type 0
  pub state : V → State
  pub runs : State → ℕ → ℕ → ℕ → ℕ → List ℕ → Outcome State
  pub resets : State → State

-- The application runs on a command that was read.
abbrev pub does : {V : Type 0} (app : App V) → app.State → Command → Outcome app.State
does app x c = app.runs x c.cla c.ins c.p1 c.p2 c.body

-- An answer fills the first bytes of its buffer; the others stay.
abbrev pub opened : List ℕ → List ℕ → List ℕ
opened answer buffer = answer ++ drop (length answer) buffer

-- The rule on the statuses of answers with bytes: such an answer has status 9000.
abbrev pub CarriesData : Reply → Type 0
CarriesData r = 0 < length r.answer → r.status ≡ done

-- What every application owes for a command's data, which are at most 255 bytes: at most 256 answer bytes, and the rule above.
abbrev pub ShortAnswers : {V : Type 0} → App V → Type 0
ShortAnswers app = (x : app.State) (cla ins p1 p2 : ℕ) (body : List ℕ) → length body ≤ 255
    → length (app.runs x cla ins p1 p2 body).reply.answer ≤ 256

abbrev pub LawfulAnswers : {V : Type 0} → App V → Type 0
LawfulAnswers app = (x : app.State) (cla ins p1 p2 : ℕ) (body : List ℕ) → length body ≤ 255
    → CarriesData (app.runs x cla ins p1 p2 body).reply
