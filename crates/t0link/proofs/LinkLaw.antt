use Rattle.std.proofs.Common.{◌≡◌, ℕ, Bool, true, false, not, eqb, ltb, List, [], length, take, Some, None, Option, sym, refl, ◌∙◌, subst}
use Rattle.std.proofs.lemmas.Bool.{cond_both}
use Rattle.apdu.specs.Applications.{App, does, opened}
use Rattle.apdu.specs.Commands.{Command, command_of, reserved, inward, agrees}
use Rattle.apdu.specs.Judging.{Judged, refused, passes, checked, judged}
use Rattle.wire.specs.Lines.{Damage}
use Rattle.wire.specs.declared.traced.Traced.{Traced}
use Rattle.link.specs.Exchange.{Exchanged, loses}
use Rattle.link.specs.Direct.{given}
use Rattle.link.specs.Meaning as meaning
use Rattle.link.specs.Meaning.{Asked, command, reset, Linked, Fate, carried, before, after, by_fate, sent_as, played, linked}
use Rattle.link.specs.Turns.{Order, send, restart, Call, Went, Did, Gave, restarted, gaves}
use Rattle.link.proofs.Agreeing.{direct_law}
use Rattle.link.proofs.Exchanges.{exchange, first_lost}
use Rattle.link.proofs.Orders.{Chain, none, next, chain, every_order}
use Rattle.t0.specs.declared.settings.Settings.{Settings}
use Rattle.t0.specs.Delivery.{deliver, four_running}
use Rattle.t0.specs.Dialogues.{whole}
use Rattle.t0link.specs.Links.{said, fate_of, crosses, leaves, linked_by}
use Rattle.t0link.specs.LinkLaws.{CrossesT0, six, NeverSix, T0Law}
use Rattle.t0link.proofs.TalkLost.{scanned}

loses_by : (all opening : Bool) → loses (fate_of all opening) ≡ not all
loses_by true opening = refl
loses_by false true = refl
loses_by false false = refl

nothing_said : (d : Damage) → (deliver d []).characters ≡ []
unfolding deliver
nothing_said d = refl

crossed : (s : Settings) (d : Damage) (a : Asked) → CrossesT0 s d a (crosses s d a).characters (loses (crosses s d a).fate)
crossed s d a = record {
  delivered = refl;
  none_for_reset = λ e. subst (λ (k : Asked). (deliver d (whole (said s k))).characters ≡ []) (sym e) (nothing_said d);
  four = loses_by (deliver d (whole (said s a))).arrived (deliver d (said s a).opening).arrived ∙ sym (scanned d (whole (said s a)));
}

module _ {V : Type 0} (app : App V) (s : Settings) (d : Damage) (x : app.State) (cs : List Call) where
  exchanged : Exchanged app (leaves s) (CrossesT0 s) x d false (played app (linked_by s d x false) cs).turns
  exchanged =
      exchange app (crosses s) (leaves s) (CrossesT0 s) (λ (o : Order). Unit {0}) (λ (w : Damage). Unit {0}) (λ (a : Asked). Unit {0}) (λ y bytes c h r. tt) tt
      (λ w a i t. (crossed s w a, λ e. tt)) x d cs tt (every_order (λ (o : Order). Unit {0}) (λ o. tt) cs)

-- No refusal of a command is 6, and no fate gives it.
abbrev NotSix : Judged → Type 0
NotSix (refused n) = eqb n 6 ≡ false
NotSix (passes c) = Unit {0}

checked_not_six : (room : ℕ) (o : Option Command) → NotSix (checked room o)
checked_not_six room None = refl
checked_not_six room (Some c) =
    cond_both (reserved c.cla c.ins) _ _ NotSix (λ _. refl)
    (λ _. cond_both (agrees (inward c.ins) c.kind) _ _ NotSix
    (λ _. cond_both (ltb room c.ne) _ _ NotSix (λ _. refl) (λ _. tt)) (λ _. refl))

judged_not_six : (bytes : List ℕ) (room : ℕ) → NotSix (judged bytes room)
unfolding judged
judged_not_six bytes room = checked_not_six room (command_of bytes)

module _ {V : Type 0} (app : App V) where
  fate_not_six : (l : Linked app.State) (a : Asked) (y : app.State) (g : Gave) (w b : List ℕ) (cs : List Traced) (f : Fate) → six g ≡ false
      → six (by_fate l a y g w b (record { characters = cs; fate = f })).gave ≡ false
  fate_not_six l a y g w b cs carried h = h
  fate_not_six l a y g w b cs before h = refl
  fate_not_six l a y g w b cs after h = refl

  sent_not_six : (l : Linked app.State) (bytes b : List ℕ) (q : Judged) → NotSix q → six (sent_as app l bytes b q).gave ≡ false
  sent_not_six l bytes b (refused n) h = h
  sent_not_six l bytes b (passes c) h =
      cond_both l.lost _ _ (λ (d : Did (Linked app.State)). six d.gave ≡ false) (λ _. refl)
      (λ _. fate_not_six l (command bytes (does app l.state c).reply) (does app l.state c).state (given c (does app l.state c).reply) (opened (take c.ne (does app l.state c).reply.answer) b) b _ (meaning.crossed l (command bytes (does app l.state c).reply)).fate refl)

  turn_not_six : (l : Linked app.State) (o : Order) (b : List ℕ) → six (linked app l o b).gave ≡ false
  turn_not_six l (send bytes) b = sent_not_six l bytes b (judged bytes (length b)) (judged_not_six bytes (length b))
  turn_not_six l restart b =
      cond_both l.lost _ _ (λ (d : Did (Linked app.State)). six d.gave ≡ false) (λ _. refl)
      (λ _. fate_not_six l reset (app.resets l.state) restarted b b _ (meaning.crossed l reset).fate refl)

  chain_not_six : {l m : Linked app.State} {ws : List (Went (Linked app.State))} → Chain (linked app) (λ (o : Order). Unit {0}) l ws m → NeverSix (gaves ws)
  chain_not_six none = tt
  chain_not_six {l} (next p o b h j) = (turn_not_six l o b, chain_not_six j)

pub t0_law : {V : Type 0} (app : App V) → T0Law app
t0_law app s d x cs = record {
  direct = direct_law app (linked_by s d x false) refl cs;
  exchanged = exchanged app s d x cs;
  lost = first_lost app (leaves s) (CrossesT0 s) (four_running 0) refl (λ w a characters gone h. h.four) x d (played app (linked_by s d x false) cs).turns (exchanged app s d x cs);
  never_six = chain_not_six app (chain (linked app) (λ (o : Order). Unit {0}) cs (linked_by s d x false) (every_order (λ (o : Order). Unit {0}) (λ o. tt) cs));
}
