use Rattle.std.proofs.Common.{◌≡◌, ℕ, Bool, true, false, cond, eqb, List, [], ◌∷◌, ◌++◌, length, take, Some, None, Option, sym, refl, ap, ◌∙◌, subst, true≢false}
use Rattle.wire.specs.declared.traced.Traced.{Traced}
use Rattle.apdu.specs.Applications.{App, does, opened}
use Rattle.apdu.specs.Commands.{Command, command_of}
use Rattle.apdu.specs.Judging.{Judged, judged}
use Rattle.link.specs.Direct.{directly, given}
use Rattle.link.specs.Exchange.{asks, asks_judged, Here, stands_then, Exchanged, loses, Crosses, first_where, crossings_trace, put_first, asked_of, ToldLaw, ExchangeLaw, AllOrders}
use Rattle.link.specs.Meaning.{Linked, Asked, command, reset, Crossing, Fate, carried, before, after, by_fate, sent_as, linked, played, coming, link_at}
use Rattle.link.specs.Turns.{Order, send, restart, Gave, restarted, denied, Did, Went, Call, five, later, gaves, turn_of_loss, whole_trace}
use Rattle.link.proofs.Checking.{Checks, turned_down, let_pass, judges}
use Rattle.link.proofs.Goes.{fallen, card_at, Stays, stays}
use Rattle.link.proofs.Orders.{Chain, none, next, chain, every_order}

module _ {V W : Type 0} (app : App V) (cross : W → Asked → Crossing) (step : W → Asked → W) (P : W → Asked → List Traced → Bool → Type 0) (Okay : Order → Type 0) where
  abbrev S : Type 0
  S = app.State

  -- on a lost link nothing crosses
  nothing : (z x : S) (c : List Asked → List Crossing) (w : W) {l n : Linked S} {ws : List (Went (Linked S))} → l ≡ fallen z c → Chain (linked app) Okay l ws n →
      Exchanged app step P x w true ws
  nothing z x c w e none = tt
  nothing z x c w {l} e (next p o b h j) =
      let s = subst (λ (k : Linked S). Stays app z c x b (linked app k o b) (directly app (card_at x (Some 0)) o b)) (sym e) (stays app z c x o b) in
      (s.characters, nothing z (linked app l o b).after.state c w s.link j)

  module _ (Inv : W → Type 0) (Fit : Asked → Type 0) where
    -- what a turn on a link that stands makes of it
    data Met (x : S) (w : W) (o : Order) (b : List ℕ) : Did (Linked S) → Type 0 where
      not_asked : (n : ℕ) → eqb n 5 ≡ false → asks app x o b ≡ None →
          Met x w o b (record { after = link_at cross step x w; gave = denied n; buffer = b; characters = [] })
      passed : (a : Asked) (y : S) (g : Gave) (v : List ℕ) → Fit a → asks app x o b ≡ Some a → five g ≡ false → loses (cross w a).fate ≡ false →
          Met x w o b (record { after = link_at cross step y (step w a); gave = g; buffer = v; characters = (cross w a).characters })
      fell : (a : Asked) (z : S) → Fit a → asks app x o b ≡ Some a → loses (cross w a).fate ≡ true →
          Met x w o b (record { after = fallen z (coming cross step (step w a)); gave = denied 5; buffer = b; characters = (cross w a).characters })

    fated : (x : S) (w : W) (o : Order) (b : List ℕ) (a : Asked) (y : S) (g : Gave) (v : List ℕ) (f : Fate) → f ≡ (cross w a).fate → Fit a → asks app x o b ≡ Some a → five g ≡ false →
        Met x w o b (by_fate (link_at cross step x w) a y g v b (record { characters = (cross w a).characters; fate = f }))
    fated x w o b a y g v carried e t k h = passed a y g v t k h (sym (ap loses e))
    fated x w o b a y g v before e t k h = fell a x t k (sym (ap loses e))
    fated x w o b a y g v after e t k h = fell a y t k (sym (ap loses e))

    module _ (fits : (x : S) (bytes : List ℕ) (c : Command) → Okay (send bytes) → command_of bytes ≡ Some c → Fit (command bytes (does app x c).reply)) (fits-reset : Fit reset)
        (turn : (w : W) (a : Asked) → Inv w → Fit a → P w a (cross w a).characters (loses (cross w a).fate) × (loses (cross w a).fate ≡ false → Inv (step w a))) where
      met_sent : (x : S) (w : W) (bytes b : List ℕ) (q : Judged) → Okay (send bytes) → judged bytes (length b) ≡ q → Checks (command_of bytes) q →
          Met x w (send bytes) b (sent_as app (link_at cross step x w) bytes b q)
      met_sent x w bytes b _ h e (turned_down n k) = not_asked n k.not_five (ap (asks_judged app x bytes) e)
      met_sent x w bytes b _ h e (let_pass c r) =
          let a = command bytes (does app x c).reply in
          fated x w (send bytes) b a (does app x c).state (given c (does app x c).reply) (opened (take c.ne (does app x c).reply.answer) b) (cross w a).fate refl
          (fits x bytes c h r) (ap (asks_judged app x bytes) e) refl

      met : (x : S) (w : W) (o : Order) (b : List ℕ) → Okay o → Met x w o b (linked app (link_at cross step x w) o b)
      met x w (send bytes) b h = met_sent x w bytes b (judged bytes (length b)) h refl (judges bytes (length b))
      met x w restart b h = fated x w restart b reset (app.resets x) restarted b (cross w reset).fate refl fits-reset refl refl

      abbrev Rest : List (Went (Linked S)) → Did (Linked S) → W → Option Asked → Bool → Type 0
      Rest ws d w a f = Here app step P w false d a × Exchanged app step P d.after.state (stands_then app step P w false a) f ws

      stepped : (ws : List (Went (Linked S))) (x : S) (w : W) (o : Order) (b : List ℕ) (d : Did (Linked S)) → Inv w → Met x w o b d →
          ((y : S) (v : W) → d.after ≡ link_at cross step y v → Inv v → Exchanged app step P y v false ws) →
          ((z y : S) (c : List Asked → List Crossing) (v : W) → d.after ≡ fallen z c → Exchanged app step P y v true ws) →
          Rest ws d w (asks app x o b) (five d.gave)
      stepped ws x w o b _ i (not_asked n k e) on off =
          subst (λ (a : Option Asked). Rest ws (record { after = link_at cross step x w; gave = denied n; buffer = b; characters = [] }) w a (eqb n 5)) (sym e)
          ((refl, k), subst (λ (f : Bool). Exchanged app step P x w f ws) (sym k) (on x w refl i))
      stepped ws x w o b _ i (passed a y g v t e h k) on off =
          let r = turn w a i t in
          subst (λ (a' : Option Asked). Rest ws (record { after = link_at cross step y (step w a); gave = g; buffer = v; characters = (cross w a).characters }) w a' (five g)) (sym e) (
            subst (P w a (cross w a).characters) (k ∙ sym h) r.0,
            subst (λ (f : Bool). Exchanged app step P y (step w a) f ws) (sym h) (on y (step w a) refl (r.1 k)),
          )
      stepped ws x w o b _ i (fell a z t e k) on off =
          let r = turn w a i t in
          subst (λ (a' : Option Asked). Rest ws (record { after = fallen z (coming cross step (step w a)); gave = denied 5; buffer = b; characters = (cross w a).characters }) w a' true) (sym e)
          (subst (P w a (cross w a).characters) k r.0, off z z (coming cross step (step w a)) (step w a) refl)

      exchanged : (x : S) (w : W) {l n : Linked S} {ws : List (Went (Linked S))} → l ≡ link_at cross step x w → Inv w → Chain (linked app) Okay l ws n →
          Exchanged app step P x w false ws
      exchanged x w e i none = tt
      exchanged x w {l} e i (next p o b {ws} h j) =
          stepped ws x w o b (linked app l o b) i (subst (λ (k : Linked S). Met x w o b (linked app k o b)) (sym e) (met x w o b h))
          (λ y v q i'. exchanged y v q i' j) (λ z y c v q. nothing z y c v q j)

      pub exchange : (x : S) (w : W) (cs : List Call) → Inv w → AllOrders Okay cs → Exchanged app step P x w false (played app (link_at cross step x w) cs).turns
      exchange x w cs i h = exchanged x w refl i (chain (linked app) Okay cs (link_at cross step x w) h)

-- where the link is lost exactly by the turns that pass a test, the turn of the loss is the first that does
module _ {V W : Type 0} (app : App V) (step : W → Asked → W) (P : W → Asked → List Traced → Bool → Type 0) (test : List Traced → Bool) (empty : test [] ≡ false)
    (exact : (w : W) (a : Asked) (cs : List Traced) (gone : Bool) → P w a cs gone → gone ≡ test cs) where
  both : (f q : Bool) (t u : Option ℕ) → f ≡ q → (f ≡ false → t ≡ u) → cond f (Some 0) (later t) ≡ cond q (Some 0) (later u)
  both true true t u e h = refl
  both false false t u e h = ap later (h refl)
  both true false t u e h = absurd (true≢false e)
  both false true t u e h = absurd (true≢false (sym e))

  tests : (w : W) (d : Did (Linked app.State)) (a : Option Asked) → Here app step P w false d a → five d.gave ≡ test d.characters
  tests w d None h = h.1 ∙ (sym empty ∙ ap test (sym h.0))
  tests w d (Some a) h = exact w a d.characters (five d.gave) h

  pub first_lost : (x : app.State) (w : W) (ws : List (Went (Linked app.State))) → Exchanged app step P x w false ws → turn_of_loss (gaves ws) ≡ first_where test ws
  first_lost x w [] h = refl
  first_lost x w (t ∷ ts) h =
      let a = asks app x t.order t.handed in
      both (five t.did.gave) (test t.did.characters) (turn_of_loss (gaves ts)) (first_where test ts) (tests w t.did a h.0)
      (λ e. first_lost t.did.after.state (stands_then app step P w false a) ts
      (subst (λ (f : Bool). Exchanged app step P t.did.after.state (stands_then app step P w false a) f ts) e h.1))

-- the characters of all turns are those of the coming turns
module _ {V W : Type 0} (app : App V) (cross : W → Asked → Crossing) (step : W → Asked → W) where
  no_more : (x : app.State) (w : W) (ws : List (Went (Linked app.State))) → Exchanged app step (Crosses cross) x w true ws → whole_trace ws ≡ []
  no_more x w [] h = refl
  no_more x w (t ∷ ts) h = rw h.0 (no_more t.did.after.state w ts h.1)

  put : (w : W) (d : Did (Linked app.State)) (a : Option Asked) (more : List Asked) (cs : List Traced) → Here app step (Crosses cross) w false d a →
      cs ≡ crossings_trace (coming cross step (stands_then app step (Crosses cross) w false a) more) →
      d.characters ++ cs ≡ crossings_trace (coming cross step w (put_first a more))
  put w d None more cs h e = rw h.0 e
  put w d (Some a) more cs h e = cc (h.characters, e)

  abbrev Tells : List (Went (Linked app.State)) → app.State → W → Bool → Type 0
  Tells ws x w lost = Exchanged app step (Crosses cross) x w lost ws → whole_trace ws ≡ crossings_trace (coming cross step w (asked_of app x lost ws))

  tells : (lost : Bool) (ws : List (Went (Linked app.State))) (x : app.State) (w : W) → Tells ws x w lost
  tells true ws x w h = no_more x w ws h
  tells false [] x w h = refl
  tells false (t ∷ ts) x w h =
      let a = asks app x t.order t.handed in
      put w t.did a (asked_of app t.did.after.state (five t.did.gave) ts) (whole_trace ts) h.0
      (tells (five t.did.gave) ts t.did.after.state (stands_then app step (Crosses cross) w false a) h.1)

  -- Turn by turn what crosses is what the transport says.
  pub exchange_law : ExchangeLaw app cross step
  exchange_law x w cs =
      exchange app cross step (Crosses cross) (λ o. Unit {0}) (λ v. Unit {0}) (λ a. Unit {0}) (λ x bytes c h r. tt) tt
      (λ v a i t. (record { characters = refl; lost = refl }, λ e. tt)) x w cs tt (every_order (λ o. Unit {0}) (λ o. tt) cs)

  pub told_law : ToldLaw app cross step
  told_law x w cs = tells false (played app (link_at cross step x w) cs).turns x w (exchange_law x w cs)
