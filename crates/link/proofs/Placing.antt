use Rattle.std.proofs.Common.{◌≡◌, ℕ, Bool, true, false, cond, eqb, List, length, take, drop, refl, ap, take_at}
use Rattle.apdu.specs.Applications.{App, does, opened}
use Rattle.apdu.specs.Commands.{command_of}
use Rattle.apdu.specs.Judging.{Judged, judged}
use Rattle.wire.specs.declared.traced.Traced.{Traced}
use Rattle.link.specs.Direct.{given}
use Rattle.link.specs.Meaning.{Linked, Asked, command, reset, Fate, carried, before, after, by_fate, crossed, sent_as, linked}
use Rattle.link.specs.Turns.{Order, send, restart, Gave, gives, restarted, denied, Did, taken}
use Rattle.link.proofs.Checking.{Checks, turned_down, let_pass, judges}

-- Data bytes open the buffer, and a refusal has a number that no row takes for another kind.
abbrev pub Placed : Gave → List ℕ → Type 0
Placed (gives bytes s) buffer = take (length bytes) buffer ≡ bytes
Placed restarted buffer = Unit {0}
Placed (denied n) buffer = (eqb n 0 ≡ false) × (eqb n 16 ≡ false)

module _ {V : Type 0} (app : App V) where
  abbrev Sound : Did (Linked app.State) → Type 0
  Sound d = Placed d.gave d.buffer

  fated : (l : Linked app.State) (a : Asked) (x : app.State) (g : Gave) (w b : List ℕ) (ch : List Traced) (f : Fate) → Placed g w → Sound (by_fate l a x g w b (record { characters = ch; fate = f }))
  fated l a x g w b ch carried h = h
  fated l a x g w b ch before h = (refl, refl)
  fated l a x g w b ch after h = (refl, refl)

  unless : (b : Bool) (d e : Did (Linked app.State)) → Sound d → Sound e → Sound (cond b d e)
  unless true d e h k = h
  unless false d e h k = k

  sound_sent : (l : Linked app.State) (bytes b : List ℕ) (q : Judged) → Checks (command_of bytes) q → Sound (sent_as app l bytes b q)
  sound_sent l bytes b _ (turned_down n h) = (h.not_done, h.not_reset)
  sound_sent l bytes b _ (let_pass c h) =
      let o = does app l.state c in
      let k = crossed l (command bytes o.reply) in
      let part = take c.ne o.reply.answer in
      unless l.lost _ _ (refl, refl)
      (fated l (command bytes o.reply) o.state (given c o.reply) (opened part b) b k.characters k.fate (take_at part (drop (length part) b) (length part) refl))

  -- What a turn over a link gave stands in the buffer that it left.
  pub sound : (l : Linked app.State) (o : Order) (b : List ℕ) → Sound (linked app l o b)
  sound l (send bytes) b = sound_sent l bytes b (judged bytes (length b)) (judges bytes (length b))
  sound l restart b = unless l.lost _ _ (refl, refl) (fated l reset (app.resets l.state) restarted b b (crossed l reset).characters (crossed l reset).fate tt)

-- So the bytes that it takes up are that many.
pub long : (g : Gave) (b : List ℕ) → Placed g b → length (take (taken g) b) ≡ taken g
long (gives bytes s) b h = ap length h
long restarted b h = refl
long (denied n) b h = refl
