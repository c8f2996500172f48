use Rattle.std.specs.Prelude.{ℕ, Bool, true, false, cond, List, [], ◌∷◌, length, take}
use Rattle.apdu.specs.Applications.{App, Reply, does, opened}
use Rattle.apdu.specs.Judging.{Judged, refused, passes, judged}
use Rattle.wire.specs.declared.traced.Traced.{Traced}
use Rattle.link.specs.Direct.{given}
use Rattle.link.specs.Turns.{Order, send, restart, Gave, restarted, denied, Did, Call, Played, calls}

-- What a link is asked in a turn: to carry a command, given as its bytes with the reply that the application gives it, or a
-- warm reset.
pub data Asked : Type 0 where
  command : List ℕ → Reply → Asked
  reset : Asked

-- How a turn fares on the line: it is carried, or the link is lost in it, before the application ran (or was reset) or after.
pub data Fate : Type 0 where
  carried : Fate
  before : Fate
  after : Fate

-- What crosses the line in one turn: its characters, and how the turn fares.
pub record Crossing : Type 0 where
  pub characters : List Traced
  pub fate : Fate

-- What a link means: the application's state, whether the link is lost, and what will cross for each of a list of coming
-- turns. What crosses follows from what is asked, and never from the application's state.
pub record Linked (S : Type 0) : Type 0 where
  pub state : S
  pub lost : Bool
  pub coming : List Asked → List Crossing

-- The first crossing, and the others; where nothing is told, the turn is carried and no character crosses.
abbrev pub first : List Crossing → Crossing
first [] = record { characters = []; fate = carried }
first (c ∷ _) = c

abbrev pub rest : List Crossing → List Crossing
rest [] = []
rest (_ ∷ cs) = cs

-- What crosses when this is asked now.
abbrev pub crossed : {S : Type 0} → Linked S → Asked → Crossing
crossed l a = first (l.coming (a ∷ []))

-- The link once this was asked of it, with the application's state and whether it is lost.
abbrev pub onward : {S : Type 0} → Linked S → Asked → S → Bool → Linked S
onward l a x b = record { state = x; lost = b; coming = λ more. rest (l.coming (a ∷ more)) }

-- A refusal with this number that changes nothing; no character crosses.
abbrev pub unmoved : {S : Type 0} → Linked S → List ℕ → ℕ → Did (Linked S)
unmoved l buffer n = record { after = l; gave = denied n; buffer = buffer; characters = [] }

-- A turn by its fate. Carried: it leaves the application in the state x, gave g and wrote its buffer. Lost: it gave 5 and left
-- its buffer as it was, with the application in its old state (lost before) or in the state x (lost after).
abbrev pub by_fate : {S : Type 0} → Linked S → Asked → S → Gave → List ℕ → List ℕ → Crossing → Did (Linked S)
by_fate l a x g written buffer c = elim c.fate [
  | carried ↦ record { after = onward l a x false; gave = g; buffer = written; characters = c.characters }
  | before ↦ record { after = onward l a l.state true; gave = denied 5; buffer = buffer; characters = c.characters }
  | after ↦ record { after = onward l a x true; gave = denied 5; buffer = buffer; characters = c.characters }
]

-- A command of which refusals 1 to 4 were tried: on a lost link it gives 5 and changes nothing; else it goes by its fate, and
-- where it is carried the application has run once, and the first Ne answer bytes open the answer buffer, whose rest stays.
abbrev pub sent_as : {V : Type 0} (app : App V) → Linked app.State → List ℕ → List ℕ → Judged → Did (Linked app.State)
sent_as app l bytes buffer (refused n) = unmoved l buffer n
sent_as app l bytes buffer (passes c) =
    let o = does app l.state c in
    cond l.lost (unmoved l buffer 5)
    (by_fate l (command bytes o.reply) o.state (given c o.reply) (opened (take c.ne o.reply.answer) buffer) buffer (crossed l (command bytes o.reply)))

-- All that a send of these bytes over a link does.
abbrev pub sent : {V : Type 0} (app : App V) → Linked app.State → List ℕ → List ℕ → Did (Linked app.State)
sent app l bytes buffer = sent_as app l bytes buffer (judged bytes (length buffer))

-- All that a reset over a link does: on a lost link it gives 5 and changes nothing; else it goes by its fate, and where it is
-- carried the application was reset. It has no answer.
abbrev pub was_reset : {V : Type 0} (app : App V) → Linked app.State → List ℕ → Did (Linked app.State)
was_reset app l buffer =
    cond l.lost (unmoved l buffer 5) (by_fate l reset (app.resets l.state) restarted buffer buffer (crossed l reset))

-- One turn over a link.
abbrev pub linked : {V : Type 0} (app : App V) → Linked app.State → Order → List ℕ → Did (Linked app.State)
linked app l (send bytes) buffer = sent app l bytes buffer
linked app l restart buffer = was_reset app l buffer

-- Calls played over a link.
abbrev pub played : {V : Type 0} (app : App V) → Linked app.State → List Call → Played (Linked app.State)
played app l cs = calls (linked app) l cs

-- The coming turns of a transport: something stands between turns, `cross` says what crosses when it is asked a turn, and
-- `next` what then stands.
module _ {W : Type 0} (cross : W → Asked → Crossing) (next : W → Asked → W) where
  abbrev pub coming : W → List Asked → List Crossing
  coming w [] = []
  coming w (a ∷ more) = cross w a ∷ coming (next w a) more

  -- A link over that transport, not lost, with the application in the state x.
  abbrev pub link_at : {S : Type 0} → S → W → Linked S
  link_at x w = record { state = x; lost = false; coming = coming w }
