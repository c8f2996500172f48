use Rattle.std.proofs.Common.{◌≡◌, ℕ, List, [], ◌∷◌, Some, None, Option, sym, refl, ap, ◌∙◌, subst}
use Rattle.apdu.specs.Applications.{App}
use Rattle.link.specs.Direct.{Direct, over, nearer, settled, directly}
use Rattle.link.specs.Laws.{states, direct_states, orders, AllAre, States}
use Rattle.link.specs.Meaning.{Linked, Asked, Crossing, linked}
use Rattle.link.specs.Turns.{Order, Gave, denied, Did, Went, gaves, later, turn_of_loss}
use Rattle.link.proofs.Goes.{standing, fallen, card_at, Goes, on, off, goes, Stays, stays}
use Rattle.link.proofs.Beside.{told_later, told_over, told_nearer, Along, none, next}

module _ {V : Type 0} (app : App V) where
  abbrev S : Type 0
  S = app.State

  abbrev Ws : Type 0
  Ws = List (Went (Linked S))

  abbrev Ds : Type 0
  Ds = List (Went (Direct S))

  -- past the loss the state stays
  rests : (z : S) (c : List Asked → List Crossing) (x : S) {l : Linked S} {d : Direct S} {ws : Ws} {ds : Ds} {m : Linked S} {e : Direct S} →
      l ≡ fallen z c → d ≡ card_at x (Some 0) → Along app l d ws ds m e → AllAre z (states ws)
  rests z c x p q none = tt
  rests z c x {l} {d} p q (next n o b h j) =
      let s = subst (λ (k : Linked S). Stays app z c x b (linked app k o b) (directly app d o b)) (sym p)
      (subst (λ (k : Direct S). Stays app z c x b (linked app (fallen z c) o b) (directly app k o b)) (sym q) (stays app z c x o b)) in
      (ap (λ (k : Linked S). k.state) s.link, rests z c x s.link s.card j)

  -- one more turn before, done by both
  further : (x y : S) (t : Option ℕ) (o : Order) (os : List Order) (xs ys : List S) → States app y t os xs ys → States app x (later t) (o ∷ os) (y ∷ xs) (y ∷ ys)
  further x y None o os xs ys h = ap (λ (k : List S). y ∷ k) h
  further x y (Some n) o os xs ys h = record { same = ap (λ (k : List S). y ∷ k) h.same; z = h.z; which = h.which; stays = h.stays }

  stepped : (gs : List Gave) (os : List Order) (xs ys : List S) (x : S) (t : Option ℕ) (o : Order) (b : List ℕ) (a : Did (Linked S)) (d : Did (Direct S)) →
      Goes app x o b a → directly app (card_at x t) o b ≡ d → t ≡ turn_of_loss (a.gave ∷ gs) →
      ((y : S) (c : List Asked → List Crossing) (u : Option ℕ) → a.after ≡ standing y c → d.after ≡ card_at y u → u ≡ turn_of_loss gs → States app y u os xs ys) →
      ((z : S) (c : List Asked → List Crossing) → a.after ≡ fallen z c → d.after ≡ card_at x (Some 0) → AllAre z xs) →
      States app x t (o ∷ os) (a.after.state ∷ xs) (d.after.state ∷ ys)
  stepped gs os xs ys x t o b _ d (on y c g w ch h p) q k ih off-ih =
      let r : settled (card_at x t) y g w ≡ d = sym (p t (ap over k ∙ told_over g gs h)) ∙ q in
      let n : nearer t ≡ turn_of_loss gs = ap nearer k ∙ told_nearer g gs h in
      let i = further x y (nearer t) o os xs ys (ih y c (nearer t) refl (sym (ap (λ (v : Did (Direct S)). v.after) r)) n) in
      subst (λ (v : Did (Direct S)). States app x t (o ∷ os) (y ∷ xs) (v.after.state ∷ ys)) r
      (subst (λ (u : Option ℕ). States app x u (o ∷ os) (y ∷ xs) (y ∷ ys)) (ap later n ∙ (sym (told_later g gs h) ∙ sym k)) i)
  stepped gs os xs ys x t o b _ d (off z c ch which p) q k ih off-ih =
      let r : settled (card_at x (Some 0)) x (denied 5) b ≡ d = sym p ∙ (ap (λ (s : Option ℕ). directly app (card_at x s) o b) (sym k) ∙ q) in
      subst (λ (u : Option ℕ). States app x u (o ∷ os) (z ∷ xs) (d.after.state ∷ ys)) (sym k)
      (record { same = refl; z = z; which = which; stays = (refl, off-ih z c refl (sym (ap (λ (v : Did (Direct S)). v.after) r))) })

  pub held : (x : S) (c : List Asked → List Crossing) (t : Option ℕ) {l : Linked S} {d : Direct S} {ws : Ws} {ds : Ds} {m : Linked S} {e : Direct S} →
      l ≡ standing x c → d ≡ card_at x t → t ≡ turn_of_loss (gaves ws) → Along app l d ws ds m e → States app x t (orders ws) (states ws) (direct_states ds)
  held x c t p q k none = subst (λ (u : Option ℕ). States app x u [] [] []) (sym k) refl
  held x c t {l} {d} p q k (next n o b {ws} {ds} h j) =
      stepped (gaves ws) (orders ws) (states ws) (direct_states ds) x t o b (linked app l o b) (directly app d o b)
      (subst (λ (v : Linked S). Goes app x o b (linked app v o b)) (sym p) (goes app x c o b))
      (ap (λ (v : Direct S). directly app v o b) (sym q)) k (λ y f u a b i. held y f u a b i j) (λ z f a b. rests z f x a b j)
