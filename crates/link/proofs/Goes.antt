use Rattle.std.proofs.Common.{◌≡◌, ℕ, true, false, ◌⊎◌, List, [], ◌∷◌, length, take, Some, Option, sym, refl, ap, ◌∙◌, inl, inr}
use Rattle.wire.specs.declared.traced.Traced.{Traced}
use Rattle.apdu.specs.Applications.{App, does, opened}
use Rattle.apdu.specs.Commands.{Command, command_of}
use Rattle.apdu.specs.Judging.{Judged, refused, passes, judged}
use Rattle.link.specs.Direct.{Direct, over, settled, direct_send, directly, given}
use Rattle.link.specs.Laws.{done_once, run_read}
use Rattle.link.specs.Meaning.{Linked, Asked, command, reset, Crossing, Fate, carried, before, after, by_fate, crossed, sent_as, rest, linked}
use Rattle.link.specs.Turns.{Order, send, restart, Gave, restarted, denied, Did, five}
use Rattle.link.proofs.Checking.{Checks, turned_down, let_pass, judges}

module _ {S : Type 0} where
  abbrev pub standing : S → (List Asked → List Crossing) → Linked S
  standing x c = record { state = x; lost = false; coming = c }

  abbrev pub fallen : S → (List Asked → List Crossing) → Linked S
  fallen x c = record { state = x; lost = true; coming = c }

  abbrev pub card_at : S → Option ℕ → Direct S
  card_at x t = record { state = x; told = t }

module _ {V : Type 0} (app : App V) where
  abbrev S : Type 0
  S = app.State

  -- how a turn goes on a link that stands, beside the direct card: done by both alike, or lost
  pub data Goes (x : S) (o : Order) (b : List ℕ) : Did (Linked S) → Type 0 where
    on : (y : S) (c : List Asked → List Crossing) (g : Gave) (w : List ℕ) (ch : List Traced) → five g ≡ false →
        ((t : Option ℕ) → over t ≡ false → directly app (card_at x t) o b ≡ settled (card_at x t) y g w) →
        Goes x o b (record { after = standing y c; gave = g; buffer = w; characters = ch })
    off : (z : S) (c : List Asked → List Crossing) (ch : List Traced) → (z ≡ x) ⊎ (z ≡ done_once app x o) →
        directly app (card_at x (Some 0)) o b ≡ settled (card_at x (Some 0)) x (denied 5) b →
        Goes x o b (record { after = fallen z c; gave = denied 5; buffer = b; characters = ch })

  fates : (x : S) (c : List Asked → List Crossing) (o : Order) (a : Asked) (y : S) (g : Gave) (w b : List ℕ) (ch : List Traced) (f : Fate) →
      five g ≡ false → y ≡ done_once app x o →
      ((t : Option ℕ) → over t ≡ false → directly app (card_at x t) o b ≡ settled (card_at x t) y g w) →
      directly app (card_at x (Some 0)) o b ≡ settled (card_at x (Some 0)) x (denied 5) b →
      Goes x o b (by_fate (standing x c) a y g w b (record { characters = ch; fate = f }))
  fates x c o a y g w b ch carried h k p q = on y (λ more. rest (c (a ∷ more))) g w ch h p
  fates x c o a y g w b ch before h k p q = off x (λ more. rest (c (a ∷ more))) ch (inl refl) q
  fates x c o a y g w b ch after h k p q = off y (λ more. rest (c (a ∷ more))) ch (inr k) q

  not_over : (x : S) (cm : Command) (b : List ℕ) (t : Option ℕ) → over t ≡ false →
      direct_send app (card_at x t) b (passes cm)
      ≡ settled (card_at x t) (does app x cm).state (given cm (does app x cm).reply) (opened (take cm.ne (does app x cm).reply.answer) b)
  not_over x cm b t h = rw h

  goes_sent : (x : S) (c : List Asked → List Crossing) (bytes b : List ℕ) (q : Judged) → judged bytes (length b) ≡ q → Checks (command_of bytes) q →
      Goes x (send bytes) b (sent_as app (standing x c) bytes b q)
  goes_sent x c bytes b _ e (turned_down n h) = on x c (denied n) b [] h.not_five (λ t k. ap (direct_send app (card_at x t) b) e)
  goes_sent x c bytes b _ e (let_pass cm r) =
      let k = crossed (standing x c) (command bytes (does app x cm).reply) in
      fates x c (send bytes) (command bytes (does app x cm).reply) (does app x cm).state (given cm (does app x cm).reply)
      (opened (take cm.ne (does app x cm).reply.answer) b) b k.characters k.fate refl (sym (ap (run_read app x) r))
      (λ t h. ap (direct_send app (card_at x t) b) e ∙ not_over x cm b t h)
      (ap (direct_send app (card_at x (Some 0)) b) e)

  pub goes : (x : S) (c : List Asked → List Crossing) (o : Order) (b : List ℕ) → Goes x o b (linked app (standing x c) o b)
  goes x c (send bytes) b = goes_sent x c bytes b (judged bytes (length b)) refl (judges bytes (length b))
  goes x c restart b =
      let k = crossed (standing x c) reset in
      fates x c restart reset (app.resets x) restarted b b k.characters k.fate refl refl (λ t h. rw h) refl

  -- on a link that is lost every turn leaves link and state, and the direct card past the loss gives the same
  pub record Stays (z : S) (c : List Asked → List Crossing) (x : S) (b : List ℕ) (a : Did (Linked S)) (d : Did (Direct S)) : Type 0 where
    pub link : a.after ≡ fallen z c
    pub card : d.after ≡ card_at x (Some 0)
    pub gave : a.gave ≡ d.gave
    pub buffer : a.buffer ≡ d.buffer
    pub characters : a.characters ≡ []

  stays_sent : (z : S) (c : List Asked → List Crossing) (x : S) (bytes b : List ℕ) (q : Judged) →
      Stays z c x b (sent_as app (fallen z c) bytes b q) (direct_send app (card_at x (Some 0)) b q)
  stays_sent z c x bytes b (refused n) = record { link = refl; card = refl; gave = refl; buffer = refl; characters = refl }
  stays_sent z c x bytes b (passes cm) = record { link = refl; card = refl; gave = refl; buffer = refl; characters = refl }

  pub stays : (z : S) (c : List Asked → List Crossing) (x : S) (o : Order) (b : List ℕ) →
      Stays z c x b (linked app (fallen z c) o b) (directly app (card_at x (Some 0)) o b)
  stays z c x (send bytes) b = stays_sent z c x bytes b (judged bytes (length b))
  stays z c x restart b = record { link = refl; card = refl; gave = refl; buffer = refl; characters = refl }
