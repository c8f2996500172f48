use Rattle.std.specs.Prelude.{◌≡◌, ℕ, ◌<◌, Bool, true, false, cond, ◌||◌, List, [], ◌∷◌, ◌++◌, length, Some, None, Option}
use Rattle.apdu.specs.Applications.{App, does}
use Rattle.apdu.specs.Judging.{Judged, refused, passes, judged}
use Rattle.wire.specs.declared.traced.Traced.{Traced}
use Rattle.link.specs.Meaning.{Linked, Asked, command, reset, Crossing, Fate, carried, before, after, link_at, played}
use Rattle.link.specs.Turns.{Order, send, restart, Did, Went, Call, alone, run, ordered, five, later, whole_trace}
use Rattle.link.specs.declared.turn.Turn.{Turn}

-- What a turn asks of the line, with the application in the state x: nothing where 1 to 4 refuse it, else a command with the
-- reply that the application gives it, or a reset.
abbrev pub asks_judged : {V : Type 0} (app : App V) → app.State → List ℕ → Judged → Option Asked
asks_judged app x bytes (refused n) = None
asks_judged app x bytes (passes c) = Some (command bytes (does app x c).reply)

abbrev pub asks : {V : Type 0} (app : App V) → app.State → Order → List ℕ → Option Asked
asks app x (send bytes) buffer = asks_judged app x bytes (judged bytes (length buffer))
asks app x restart buffer = Some reset

-- Turn by turn: on a link that was lost before no character crosses. Nor does one in a turn refused with 1 to 4, and such a turn
-- does not lose the link and uses nothing up. In every other turn P holds of what stood between the turns, what was asked, the
-- characters that crossed, and whether this turn lost the link.
module _ {V W : Type 0} (app : App V) (next : W → Asked → W) (P : W → Asked → List Traced → Bool → Type 0) where
  abbrev pub Here : W → Bool → Did (Linked app.State) → Option Asked → Type 0
  Here w true d a = d.characters ≡ []
  Here w false d None = (d.characters ≡ []) × (five d.gave ≡ false)
  Here w false d (Some a) = P w a d.characters (five d.gave)

  -- What stands after the turn.
  abbrev pub stands_then : W → Bool → Option Asked → W
  stands_then w true a = w
  stands_then w false None = w
  stands_then w false (Some a) = next w a

  abbrev pub Exchanged : app.State → W → Bool → List (Went (Linked app.State)) → Type 0
  Exchanged x w lost [] = Unit {0}
  Exchanged x w lost (t ∷ ts) =
      let a = asks app x t.order t.handed in
      Here w lost t.did a × Exchanged t.did.after.state (stands_then w lost a) (lost || five t.did.gave) ts

-- Whether a turn of this fate loses the link.
abbrev pub loses : Fate → Bool
loses carried = false
loses before = true
loses after = true

-- What crossed is what the transport says, and the link was lost exactly where it says so.
pub record Crosses {W : Type 0} (cross : W → Asked → Crossing) (w : W) (a : Asked) (cs : List Traced) (gone : Bool) : Type 0 where
  pub characters : cs ≡ (cross w a).characters
  pub lost : gone ≡ loses (cross w a).fate

-- The first turn whose characters pass a test, if there is one: how many turns stand before it.
abbrev pub first_where : {M : Type 0} → (List Traced → Bool) → List (Went M) → Option ℕ
first_where test [] = None
first_where test (w ∷ ws) = cond (test w.did.characters) (Some 0) (later (first_where test ws))

-- The characters of crossings, in order.
abbrev pub crossings_trace : List Crossing → List Traced
crossings_trace [] = []
crossings_trace (c ∷ cs) = c.characters ++ crossings_trace cs

-- What turns ask of the line while the link stands, with the application in the state x.
abbrev pub put_first : Option Asked → List Asked → List Asked
put_first None more = more
put_first (Some a) more = a ∷ more

abbrev pub asked_of : {V : Type 0} (app : App V) → app.State → Bool → List (Went (Linked app.State)) → List Asked
asked_of app x true ws = []
asked_of app x false [] = []
asked_of app x false (t ∷ ts) =
    put_first (asks app x t.order t.handed) (asked_of app t.did.after.state (five t.did.gave) ts)

-- Told true: the characters of turns over a link are those that the link told of the coming turns.
abbrev pub ToldTrue : {V : Type 0} (app : App V) → Linked app.State → List (Went (Linked app.State)) → Type 0
ToldTrue app l ws = whole_trace ws ≡ crossings_trace (l.coming (asked_of app l.state false ws))

-- Every link over a transport tells true, for all calls.
abbrev pub ToldLaw : {V W : Type 0} → App V → (W → Asked → Crossing) → (W → Asked → W) → Type 0
ToldLaw {V} {W} app cross next = (x : app.State) (w : W) (cs : List Call) → ToldTrue app (link_at cross next x w) (played app (link_at cross next x w) cs).turns

-- And turn by turn what crosses is what its transport says.
abbrev pub ExchangeLaw : {V W : Type 0} → App V → (W → Asked → Crossing) → (W → Asked → W) → Type 0
ExchangeLaw {V} {W} app cross next =
    (x : app.State) (w : W) (cs : List Call) → Exchanged app next (Crosses cross) x w false (played app (link_at cross next x w) cs).turns

-- What holds of every order of calls.
abbrev pub EachOrdered : (Order → Type 0) → List ℕ → List Turn → Type 0
EachOrdered P commands [] = Unit {0}
EachOrdered P commands (t ∷ ts) = P (ordered commands t) × EachOrdered P commands ts

abbrev pub AllOrders : (Order → Type 0) → List Call → Type 0
AllOrders P [] = Unit {0}
AllOrders P (alone p o b ∷ cs) = P o × AllOrders P cs
AllOrders P (run ts commands space places ∷ cs) = EachOrdered P commands ts × AllOrders P cs

-- Bytes are numbers below 256; so are those of the commands of all calls.
abbrev pub Bytes : List ℕ → Type 0
Bytes [] = Unit {0}
Bytes (x ∷ xs) = (x < 256) × Bytes xs

abbrev pub BytesOrder : Order → Type 0
BytesOrder (send bytes) = Bytes bytes
BytesOrder restart = Unit {0}

abbrev pub BytesCalls : List Call → Type 0
BytesCalls [] = Unit {0}
BytesCalls (alone p o b ∷ cs) = BytesOrder o × BytesCalls cs
BytesCalls (run ts commands space places ∷ cs) = Bytes commands × BytesCalls cs
