use Rattle.std.specs.Prelude.{◌≡◌, ℕ, zero, suc, ◌≤◌, false, ◌⊎◌, List, [], ◌∷◌, ◌++◌, length, take, drop, Some, None, Option}
use Rattle.apdu.specs.Applications.{App, does}
use Rattle.apdu.specs.Commands.{Command, command_of}
use Rattle.link.specs.Direct.{Direct, direct}
use Rattle.link.specs.Meaning.{Linked, linked, played}
use Rattle.link.specs.Rows.{rows, entries_of}
use Rattle.link.specs.Turns.{Order, send, restart, Went, Call, alone, run, Played, ran, ran_on, called, calls, ordered, taken, gaves, journal, answers, turn_of_loss}
use Rattle.link.specs.declared.turn.Turn.{Turn}

-- The turn of the loss of calls that were played.
abbrev pub loss : {M : Type 0} → Played M → Option ℕ
loss p = turn_of_loss (gaves p.turns)

-- Two plays have equal entries, equal answer buffers after every turn, and equal data buffers after every run.
pub record Same {M N : Type 0} (p : Played M) (q : Played N) : Type 0 where
  pub entries : journal p.turns ≡ journal q.turns
  pub buffers : answers p.turns ≡ answers q.turns
  pub spaces : p.buffers ≡ q.buffers

-- The application's state after each turn, over a link and at the direct card.
abbrev pub states : {S : Type 0} → List (Went (Linked S)) → List S
states [] = []
states (w ∷ ws) = w.did.after.state ∷ states ws

abbrev pub direct_states : {S : Type 0} → List (Went (Direct S)) → List S
direct_states [] = []
direct_states (w ∷ ws) = w.did.after.state ∷ direct_states ws

-- What the turns ordered.
abbrev pub orders : {M : Type 0} → List (Went M) → List Order
orders [] = []
orders (w ∷ ws) = w.order ∷ orders ws

-- Every one of them is z.
abbrev pub AllAre : {S : Type 0} → S → List S → Type 0
AllAre z [] = Unit {0}
AllAre z (x ∷ xs) = (x ≡ z) × AllAre z xs

-- The state before turn n, of a card that begins with x and has these states after its turns.
abbrev pub state_before : {S : Type 0} → S → List S → ℕ → S
state_before x xs zero = x
state_before x [] (suc n) = x
state_before x (y ∷ ys) (suc n) = state_before y ys n

-- The order of turn n, counted from 0; there is none past the end, and what stands there is never asked.
abbrev pub order_at : List Order → ℕ → Order
order_at [] n = restart
order_at (o ∷ os) zero = o
order_at (o ∷ os) (suc n) = order_at os n

-- The application's state once an order is done: it ran once on the command, or was reset.
abbrev pub run_read : {V : Type 0} (app : App V) → app.State → Option Command → app.State
run_read app x None = x
run_read app x (Some c) = (does app x c).state

abbrev pub done_once : {V : Type 0} (app : App V) → app.State → Order → app.State
done_once app x (send bytes) = run_read app x (command_of bytes)
done_once app x restart = app.resets x

-- A link that is lost in turn n: after every turn before it the application has the direct card's state. There is one state z,
-- the state before that turn or that state with that turn done once, and after every turn from the loss on the application's
-- state is z.
pub record Fell {V : Type 0} (app : App V) (x : app.State) (n : ℕ) (asked : List Order) (have direct : List app.State) : Type 0 where
  pub same : take n have ≡ take n direct
  pub z : app.State
  pub which : (z ≡ state_before x direct n) ⊎ (z ≡ done_once app (state_before x direct n) (order_at asked n))
  pub stays : AllAre z (drop n have)

-- The states of an application behind a link beside the direct card's, by the turn of the loss; with no loss they are equal.
abbrev pub States : {V : Type 0} (app : App V) → app.State → Option ℕ → List Order → List app.State → List app.State → Type 0
States app x None asked have direct = have ≡ direct
States app x (Some n) asked have direct = Fell app x n asked have direct

-- Calls played over a link are those of the direct card that is told that link's turn of the loss: entries, buffers, states.
pub record AsDirect {V : Type 0} (app : App V) (l : Linked app.State) (cs : List Call) : Type 0 where
  pub same : Same (played app l cs) (direct app l.state (loss (played app l cs)) cs)
  pub state : States app l.state (loss (played app l cs)) (orders (played app l cs).turns) (states (played app l cs).turns) (direct_states (direct app l.state (loss (played app l cs)) cs).turns)

-- The law of the direct card: it holds for every link that is not lost, whatever will cross its line, and for every calls.
abbrev pub DirectLaw : {V : Type 0} → App V → Type 0
DirectLaw app = (l : Linked app.State) → l.lost ≡ false → (cs : List Call) → AsDirect app l cs

-- Two links have equal entries and buffers exactly when neither is lost, or both at the same turn.
pub record AgreesExactly {V : Type 0} (app : App V) (l m : Linked app.State) (cs : List Call) : Type 0 where
  pub if : loss (played app l cs) ≡ loss (played app m cs) → Same (played app l cs) (played app m cs)
  pub only : Same (played app l cs) (played app m cs) → loss (played app l cs) ≡ loss (played app m cs)

-- Agreement: so do any two links that are not lost, with the application in the same state.
abbrev pub Agreement : {V : Type 0} → App V → Type 0
Agreement app = (l m : Linked app.State) → l.lost ≡ false → m.lost ≡ false → l.state ≡ m.state → (cs : List Call) → AgreesExactly app l m cs

-- A run of some turns and then others is the run of the first, then of the others on what these left free.
abbrev pub RunLaw : {V : Type 0} → App V → Type 0
RunLaw app = (l : Linked app.State) (commands space : List ℕ) (ts us : List Turn)
    → let r = ran (linked app) l commands space ts in
    ran (linked app) l commands space (ts ++ us) ≡ ran_on (linked app) r (ran (linked app) r.end commands r.free us)

-- The turns of a run as calls of their own, each alone with the answer buffer that the run handed to it.
abbrev pub each_alone : {M : Type 0} → List (Went M) → List Call
each_alone [] = []
each_alone (w ∷ ws) = alone w.program w.order w.handed ∷ each_alone ws

-- A turn of a run went as it was given: its program, the order that its tag and place say, and as its answer buffer the rest of
-- the data buffer.
pub record WentAs {M : Type 0} (commands space : List ℕ) (t : Turn) (w : Went M) : Type 0 where
  pub program : w.program ≡ t.program
  pub order : w.order ≡ ordered commands t
  pub handed : w.handed ≡ space

-- So did each of them in order, and the data bytes of one are taken up before the next has the rest.
abbrev pub SharedOut : {M : Type 0} → List ℕ → List ℕ → List Turn → List (Went M) → Type 0
SharedOut commands space [] [] = Unit {0}
SharedOut commands space [] (w ∷ ws) = ⊥
SharedOut commands space (t ∷ ts) [] = ⊥
SharedOut commands space (t ∷ ts) (w ∷ ws) =
    WentAs commands space t w × SharedOut commands (drop (taken w.did.gave) w.did.buffer) ts ws

-- The data buffer after turns that began with it free: the data bytes of each in order, then what is left.
abbrev pub pieced : {M : Type 0} → List ℕ → List (Went M) → List ℕ
pieced space [] = space
pieced space (w ∷ ws) = take (taken w.did.gave) w.did.buffer ++ pieced (drop (taken w.did.gave) w.did.buffer) ws

-- A run that left this is its turns alone, with the buffers shared out.
pub record Alone {V : Type 0} (app : App V) (l : Linked app.State) (ts : List Turn) (commands space : List ℕ) (p : Played (Linked app.State)) : Type 0 where
  pub shared : SharedOut commands space ts p.turns
  pub turns : (calls (linked app) l (each_alone p.turns)).turns ≡ p.turns
  pub end : (calls (linked app) l (each_alone p.turns)).end ≡ p.end
  pub space_after : p.buffers ≡ pieced space p.turns ∷ []

-- So is every run whose journal has a free place for each turn.
abbrev pub AloneLaw : {V : Type 0} → App V → Type 0
AloneLaw app = (l : Linked app.State) (ts : List Turn) (commands space : List ℕ) (places : ℕ) → length ts ≤ places
    → Alone app l ts commands space (called (linked app) l (run ts commands space places))

-- The rows of a run and the whole data buffer that it left give its entries, refused or not.
abbrev pub RowsLaw : {V : Type 0} → App V → Type 0
RowsLaw app = (l : Linked app.State) (ts : List Turn) (commands space left : List ℕ) (places : ℕ)
    → let p = called (linked app) l (run ts commands space places) in
    left ∷ [] ≡ p.buffers → entries_of left (rows 0 p.turns) ≡ Some (journal p.turns)
