use Rattle.std.proofs.Common.{◌≡◌, ℕ, suc, Bool, true, false, cond, List, [], ◌∷◌, ◌++◌, Some, None, Option, sym, refl, ap, ◌∙◌, subst, append_assoc, append-nil}
use Rattle.std.proofs.lemmas.Bool.{true≢false, false≢true}
use Rattle.apdu.specs.Applications.{App}
use Rattle.wire.specs.Lines.{Damage}
use Rattle.wire.specs.declared.traced.Traced.{Traced}
use Rattle.t0.specs.declared.settings.Settings.{Settings}
use Rattle.t0.specs.declared.terminal.Want.{Want}
use Rattle.t0.specs.declared.terminal.Want.TheVariants.{Send, SendData, Receive}
use Rattle.t0.specs.declared.terminal.Step.{Step}
use Rattle.t0.specs.declared.terminal.Step.TheVariants.{Next, Keep, Done, Held, Broken}
use Rattle.t0.specs.Dialogues.{Word}
use Rattle.t0.specs.Delivery.{Delivered, sent_once, then, deliver}
use Rattle.t0.specs.Cards.{Card, spoken}
use Rattle.t0.specs.Terminals.{wants, hears}
use Rattle.t0.specs.Conversations.{lost, Talked, before, After, on, off, Spoken, by_step, card_speaks, by_want, speaks, talk}
use Rattle.t0link.proofs.TalkSteps.{Pair, Place, goes, stops, Turn, after_step, card_turn, wanted_turn, turn, Says, none, more, join, talked}
use Rattle.wire.specs.declared.traced.Sender.TheVariants as by

-- Where a conversation stands, over a line.
abbrev lifted : {S : Type 0} → Damage → Place S → After S
lifted d (goes j) = on (record { terminal = j.terminal; card = j.card; staged = j.staged; coming = d })
lifted d (stops e c staged) = off (record { end = e; card = c; staged = staged; coming = d; characters = [] })

-- What one turn comes to over a line, where `c` is the card if it is lost.
abbrev outcome : {S : Type 0} → Delivered → Place S → Card S → List ℕ → Spoken S
outcome t p c staged =
    record {
      characters = t.characters;
      after = cond t.arrived (lifted t.coming p)
          (off (record { end = lost; card = c; staged = staged; coming = t.coming; characters = [] }));
    }

abbrev Crosses : {S : Type 0} → Pair S → Damage → Spoken S → Turn S → Type 0
Crosses {S} j d k t = (c : Card S) × (c.state ≡ j.card.state) × (k ≡ outcome (sent_once d t.word) t.next c j.staged)

abbrev IfTurn : {S : Type 0} → Pair S → Damage → Spoken S → Option (Turn S) → Type 0
IfTurn j d k None = Unit {0}
IfTurn j d k (Some t) = Crosses j d k t

module _ {V : Type 0} (app : App V) (s : Settings) (body : List ℕ) where
  heard : (c : Card app.State) (staged : List ℕ) (d : Damage) (b : ℕ) (t : Step) → by_step app s body c staged d b t ≡ lifted d (after_step c staged b t)
  heard c staged d b (Next w) = refl
  heard c staged d b (Keep w i) = refl
  heard c staged d b (Done r count status) = refl
  heard c staged d b (Held r token) = refl
  heard c staged d b Broken = refl

  card_crosses : (j : Pair app.State) (d : Damage) (pending : List ℕ)
      → IfTurn j d (card_speaks app s body (join app s body j d) pending) (card_turn j pending)
  card_crosses j d [] = tt
  card_crosses j d (b ∷ bs) = (spoken j.card, refl, crossed)
    where
      t : Delivered
      t = sent_once d (record { sender = by.Card; byte = b })

      crossed : card_speaks app s body (join app s body j d) (b ∷ bs)
          ≡ outcome (sent_once d (record { sender = by.Card; byte = b })) (after_step (spoken j.card) j.staged b (hears j.terminal j.terminal.phase b)) (spoken j.card) j.staged
      crossed =
          ap (λ (a : After app.State). record { characters = t.characters; after = cond t.arrived a (off (record { end = lost; card = spoken j.card; staged = j.staged; coming = t.coming; characters = [] })) })
          (heard (spoken j.card) j.staged t.coming b (hears j.terminal j.terminal.phase b))

  crosses : (j : Pair app.State) (d : Damage) (v : Want) → IfTurn j d (by_want app s body (join app s body j d) v) (wanted_turn app s body j v)
  crosses j d (Send b) = (j.card, refl, refl)
  crosses j d (SendData i) = (j.card, refl, refl)
  crosses j d Receive = card_crosses j d j.card.pending

  turn_crosses : (j : Pair app.State) (d : Damage) (t : Turn app.State) → turn app s body j ≡ Some t → Crosses j d (speaks app s body (join app s body j d)) t
  turn_crosses j d t e =
      subst (IfTurn j d (speaks app s body (join app s body j d))) e (crosses j d (wants j.terminal j.terminal.phase))

-- A conversation that was lost before all of these characters arrived, while the application was in state x.
pub record Loses {S : Type 0} (x : S) (all : Delivered) (t : Talked S) : Type 0 where
  pub end : t.end ≡ lost
  pub state : t.card.state ≡ x
  pub coming : t.coming ≡ all.coming
  pub characters : t.characters ≡ all.characters

-- A conversation over a line, that goes on as said once these characters have arrived, and else is lost in state x.
pub record Over {S : Type 0} (x : S) (all : Delivered) (t : Talked S) (next : Damage → Talked S) : Type 0 where
  pub arrives : all.arrived ≡ true → t ≡ before all.characters (next all.coming)
  pub loses : all.arrived ≡ false → Loses x all t

abbrev pub made : Bool → List Traced → Damage → Delivered
made a cs e = record { arrived = a; characters = cs; coming = e }

before_before : {S : Type 0} (cs ds : List Traced) (t : Talked S) → before cs (before ds t) ≡ before (cs ++ ds) t
before_before {S} cs ds t =
    ap (λ (x : List Traced). record { end = t.end; card = t.card; staged = t.staged; coming = t.coming; characters = x })
    (sym (append_assoc cs ds t.characters))

loses_before : {S : Type 0} {x : S} (cs : List Traced) (u : Delivered) (t a : Talked S) → a ≡ before cs t → Loses x u t
    → Loses x (made u.arrived (cs ++ u.characters) u.coming) a
loses_before {S} {x} cs u t a e l =
    let P : Talked S → Type 0 = Loses x (made u.arrived (cs ++ u.characters) u.coming) in
    subst P (sym e) (record { end = l.end; state = l.state; coming = l.coming; characters = ap (λ (y : List Traced). cs ++ y) l.characters })

over_joined : {S : Type 0} {z y : S} (a : Bool) (cs : List Traced) (e : Damage) (u : Delivered) (t : Talked S) (mid next : Damage → Talked S)
    → (a ≡ true → y ≡ z) → Over z (made a cs e) t mid → Over y u (mid e) next → Over z (then (made a cs e) u) t next
over_joined {S} true cs e u t mid next same o v =
    record {
      arrives = λ h. o.arrives refl ∙ ap (before cs) (v.arrives h) ∙ before_before cs u.characters (next u.coming);
      loses = λ h. loses_before cs u (mid e) t (o.arrives refl) (subst (λ (x : S). Loses x u (mid e)) (same refl) (v.loses h));
    }
over_joined false cs e u t mid next same o v =
    record { arrives = λ h. absurd (false≢true h); loses = λ h. o.loses refl }

-- Characters and then others, where the state is the same once the first have arrived.
pub over_then : {S : Type 0} {z y : S} (a u : Delivered) (t : Talked S) (mid next : Damage → Talked S)
    → (a.arrived ≡ true → y ≡ z) → Over z a t mid → Over y u (mid a.coming) next → Over z (then a u) t next
over_then a u t mid next same o v = over_joined a.arrived a.characters a.coming u t mid next same o v

-- So many characters more.
abbrev pub beyond : List Word → ℕ → ℕ
beyond [] n = n
beyond (w ∷ ws) n = suc (beyond ws n)

module _ {V : Type 0} (app : App V) (s : Settings) (body : List ℕ) where
  abbrev went : ℕ → Spoken app.State → Talked app.State
  went n k = elim k.after [ on i ↦ before k.characters (talk app s body n i) | off t ↦ before k.characters t ]

  went_on : (n : ℕ) (cs : List Traced) (e : Damage) (p : Place app.State)
      → went n (record { characters = cs; after = lifted e p }) ≡ before cs (talked app s body n e p)
  went_on n cs e (goes j) = refl
  went_on n cs e (stops x c staged) = refl

  over_outcome : (n : ℕ) (a : Bool) (cs : List Traced) (e : Damage) (p : Place app.State) (c : Card app.State) (staged : List ℕ) (x : app.State)
      → c.state ≡ x → Over x (made a cs e) (went n (outcome (made a cs e) p c staged)) (λ d. talked app s body n d p)
  over_outcome n true cs e p c staged x h =
      record { arrives = λ _. went_on n cs e p; loses = λ z. absurd (true≢false z) }
  over_outcome n false cs e p c staged x h =
      record { arrives = λ z. absurd (false≢true z); loses = λ _. record { end = refl; state = h; coming = refl; characters = append-nil cs } }

  over_turn : (n : ℕ) (j : Pair app.State) (d : Damage) (w : Word) (p : Place app.State) (x : app.State) → j.card.state ≡ x
      → turn app s body j ≡ Some (record { word = w; next = p })
      → Over x (sent_once d w) (talk app s body (suc n) (join app s body j d)) (λ e. talked app s body n e p)
  unfolding talk
  over_turn n j d w p x h e =
      let k = turn_crosses app s body j d (record { word = w; next = p }) e in
      let t : Delivered = sent_once d w in
      subst (λ (y : Spoken app.State). Over x (sent_once d w) (went n y) (λ e. talked app s body n e p)) (sym k.2)
      (over_outcome n t.arrived t.characters t.coming p k.0 j.staged x (k.1 ∙ h))

  -- Characters over a line.
  pub over_says : {x : app.State} {p q : Place app.State} {ws : List Word} → Says app s body x p ws q → (n : ℕ) (d : Damage)
      → Over x (deliver d ws) (talked app s body (beyond ws n) d p) (λ e. talked app s body n e q)
  unfolding deliver
  over_says none n d = record { arrives = λ _. refl; loses = λ z. absurd (true≢false z) }
  over_says {x} {q = q} (more {j = j} {w = w} {p = p} {ws = ws} h e a) n d =
      over_then (sent_once d w) (deliver (sent_once d w).coming ws) (talk app s body (suc (beyond ws n)) (join app s body j d))
      (λ f. talked app s body (beyond ws n) f p) (λ f. talked app s body n f q) (λ _. refl)
      (over_turn (beyond ws n) j d w p x h e) (over_says a n (sent_once d w).coming)
