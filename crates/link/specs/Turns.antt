use Rattle.std.specs.Prelude.{ℕ, suc, ◌+◌, Bool, false, cond, List, [], ◌∷◌, ◌++◌, length, take, drop, Some, None, Option, ◌==◌, nat_le, nat_lt}
use Rattle.apdu.specs.declared.status.Status.{Status}
use Rattle.wire.specs.declared.traced.Traced.{Traced}
use Rattle.link.specs.declared.turn.Turn.{Turn}

-- What a turn orders: that a command be sent, given as bytes, or a warm reset.
pub data Order : Type 0 where
  send : List ℕ → Order
  restart : Order

-- A command is a place in lent bytes; past their end it is no command at all.
abbrev pub placed : List ℕ → ℕ → ℕ → List ℕ
placed commands start n = cond (nat_le (start + n) (length commands)) (take n (drop start commands)) []

-- Tag 0 sends, tag 1 resets, any other is a malformed command.
abbrev pub ordered : List ℕ → Turn → Order
ordered commands t =
    cond (t.tag == 0) (send (placed commands t.start t.length)) (cond (t.tag == 1) restart (send []))

-- What a turn gave: data bytes and a status, the word reset, or a refusal's number.
pub data Gave : Type 0 where
  gives : List ℕ → Status → Gave
  restarted : Gave
  denied : ℕ → Gave

-- An entry of the journal: the program's number with what its turn gave.
pub record Entry : Type 0 where
  pub program : ℕ
  pub gave : Gave

-- What a turn leaves: whatever took it, as it then is, what it gave, its answer buffer, and the characters that crossed.
pub record Did (M : Type 0) : Type 0 where
  pub after : M
  pub gave : Gave
  pub buffer : List ℕ
  pub characters : List Traced

-- One turn as it went: the program, its order, the answer buffer handed to it, and what it left.
pub record Went (M : Type 0) : Type 0 where
  pub program : ℕ
  pub order : Order
  pub handed : List ℕ
  pub did : Did M

-- A call: one turn alone with an answer buffer of its own; or a run, with its turns, the lent command bytes, the data buffer
-- and the number of free places in its journal.
pub data Call : Type 0 where
  alone : ℕ → Order → List ℕ → Call
  run : List Turn → List ℕ → List ℕ → ℕ → Call

-- What calls left: every turn of all of them in one list, the whole data buffer of every run, and what took them.
pub record Played (M : Type 0) : Type 0 where
  pub turns : List (Went M)
  pub buffers : List (List ℕ)
  pub end : M

-- What the turns of a run left: the turns, the data buffer in two parts, taken up and still free, and what took them.
pub record Ran (M : Type 0) : Type 0 where
  pub turns : List (Went M)
  pub used : List ℕ
  pub free : List ℕ
  pub end : M

-- How many bytes of the data buffer a turn takes up.
abbrev pub taken : Gave → ℕ
taken (gives bytes _) = length bytes
taken restarted = 0
taken (denied _) = 0

-- How turns follow one another, whatever takes them: `act` says what one turn leaves.
module _ {M : Type 0} (act : M → Order → List ℕ → Did M) where
  -- One turn.
  abbrev pub one : M → ℕ → Order → List ℕ → Went M
  one m program o buffer = record { program = program; order = o; handed = buffer; did = act m o buffer }

  -- A turn of a run, then what the others leave: its data bytes are taken up, and the rest of the buffer is theirs.
  abbrev pub before_others : Went M → Ran M → Ran M
  before_others w r =
      record { turns = w ∷ r.turns; used = take (taken w.did.gave) w.did.buffer ++ r.used; free = r.free; end = r.end }

  -- The turns of a run: each has as its answer buffer the rest of the data buffer from the first free byte on.
  abbrev pub ran : M → List ℕ → List ℕ → List Turn → Ran M
  ran m commands space [] = record { turns = []; used = []; free = space; end = m }
  ran m commands space (t ∷ ts) =
      let d = act m (ordered commands t) space in
      before_others (one m t.program (ordered commands t) space)
      (ran d.after commands (drop (taken d.gave) d.buffer) ts)

  -- Turns of a run, then further ones on what these left free.
  abbrev pub ran_on : Ran M → Ran M → Ran M
  ran_on p q = record { turns = p.turns ++ q.turns; used = p.used ++ q.used; free = q.free; end = q.end }

  -- One call. A run whose journal has fewer free places than it has turns takes no turn and changes nothing.
  abbrev pub called : M → Call → Played M
  called m (alone program o buffer) =
      record { turns = one m program o buffer ∷ []; buffers = []; end = (act m o buffer).after }
  called m (run ts commands space places) =
      cond (nat_lt places (length ts)) (record { turns = []; buffers = space ∷ []; end = m })
      (let r = ran m commands space ts in record { turns = r.turns; buffers = (r.used ++ r.free) ∷ []; end = r.end })

  -- Calls one after the other.
  abbrev pub then : Played M → Played M → Played M
  then p q = record { turns = p.turns ++ q.turns; buffers = p.buffers ++ q.buffers; end = q.end }

  abbrev pub calls : M → List Call → Played M
  calls m [] = record { turns = []; buffers = []; end = m }
  calls m (c ∷ cs) = then (called m c) (calls (called m c).end cs)

-- What the turns gave; their entries, which are the journal; their answer buffers after them.
abbrev pub gaves : {M : Type 0} → List (Went M) → List Gave
gaves [] = []
gaves (w ∷ ws) = w.did.gave ∷ gaves ws

abbrev pub journal : {M : Type 0} → List (Went M) → List Entry
journal [] = []
journal (w ∷ ws) = record { program = w.program; gave = w.did.gave } ∷ journal ws

abbrev pub answers : {M : Type 0} → List (Went M) → List (List ℕ)
answers [] = []
answers (w ∷ ws) = w.did.buffer ∷ answers ws

-- The characters of all turns, in order.
abbrev pub whole_trace : {M : Type 0} → List (Went M) → List Traced
whole_trace [] = []
whole_trace (w ∷ ws) = w.did.characters ++ whole_trace ws

-- How many bytes of the data buffer turns take up.
abbrev pub all_taken : {M : Type 0} → List (Went M) → ℕ
all_taken [] = 0
all_taken (w ∷ ws) = taken w.did.gave + all_taken ws

-- Whether a turn gave refusal 5.
abbrev pub five : Gave → Bool
five (gives _ _) = false
five restarted = false
five (denied n) = n == 5

abbrev pub later : Option ℕ → Option ℕ
later None = None
later (Some n) = Some (suc n)

-- The turn of the loss, if there is one: how many turns stand before the first that gave 5.
abbrev pub turn_of_loss : List Gave → Option ℕ
turn_of_loss [] = None
turn_of_loss (g ∷ gs) = cond (five g) (Some 0) (later (turn_of_loss gs))
