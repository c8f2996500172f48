use Rattle.std.proofs.Common.{◌≡◌, ℕ, ◌<◌, ◌≤◌, Bool, true, false, cond, ◌&&◌, eqb, ltb, leb, List, [], length, take, sym, refl, ap, ◌∙◌, arith, length-take}
use Rattle.std.proofs.lemmas.Bool.{ne_eqb, ltb-true, ltb-false, le-leb, lt-ltb, cond-false, cond-true, and_left}
use Rattle.std.proofs.lemmas.List.{nil_from_length}
use Rattle.apdu.specs.Applications.{App, Outcome, opened}
use Rattle.apdu.specs.Commands.{Command, reserved, inward, wanted}
use Rattle.apdu.specs.declared.header.Header.{Header}
use Rattle.t0.specs.declared.settings.Settings.{Settings}
use Rattle.t0.specs.Procedures.{mover, procedure, as_p3}
use Rattle.t0.specs.Cards.{Held, nothing, by61, by6C, at_rest, is_get_response, taking, runs_inward, runs_outward, answered, begun, headed}
use Rattle.t0.specs.Conversations.{done}
use Rattle.t0link.specs.Laws.{Between}
use Rattle.t0link.proofs.TalkSteps.{Place, stops}
use Rattle.t0link.proofs.TalkProcedures.{not_get_response}

wanted_back : (n : ℕ) (z : Bool) → ltb n 256 ≡ z → 0 < n → n ≤ 256 → wanted (cond z n 0) ≡ n
wanted_back n true e h k =
    cond-false (eqb n 0) 256 (cond (leb n 255) n 256) (ne_eqb n 0 (λ z. omega arith))
    ∙ cond-true (leb n 255) n 256 (le-leb n 255 (let l = ltb-true n 256 e in omega arith))
wanted_back n false e h k = let l = ltb-false n 256 e in omega arith

-- P3 is read back as the count that it stands for.
pub wanted_p3 : (n : ℕ) → 0 < n → n ≤ 256 → wanted (as_p3 n) ≡ n
wanted_p3 n h k = wanted_back n (ltb n 256) refl h k

-- A count below 256 is P3 itself.
pub low_p3 : (n : ℕ) → n ≤ 255 → n ≡ as_p3 n
low_p3 n h = sym (cond-true (ltb n 256) n 0 (lt-ltb n 256 (omega arith)))

-- Where a command stands that is done with these answer bytes.
abbrev pub is_done : {S : Type 0} → Command → Outcome S → Held → List ℕ → Place S
is_done c o held staged =
    stops (done (length (take c.ne o.reply.answer)) o.reply.status) (at_rest o.state held) (opened (take c.ne o.reply.answer) staged)

-- Where these are the bytes wanted, the command is done with them.
pub done_with_bytes : {S : Type 0} (c : Command) (o : Outcome S) (held : Held) (staged xs : List ℕ) → xs ≡ take c.ne o.reply.answer
    → ◌≡◌ {A = Place S} (stops (done (length xs) o.reply.status) (at_rest o.state held) (opened xs staged)) (is_done c o held staged)
done_with_bytes c o held staged xs e =
    ap (λ (l : List ℕ). stops (done (length l) o.reply.status) (at_rest o.state held) (opened l staged)) e

-- None are wanted of none.
pub none_wanted : (n : ℕ) (xs : List ℕ) → length xs ≡ 0 → [] ≡ take n xs
none_wanted n xs e = sym (nil_from_length (take n xs) (omega (arith, length-take n xs)))

module _ {V : Type 0} (app : App V) (s : Settings) where
  not_held : (x : app.State) (held : Held) → Between held → (h : Header) (p3 : ℕ) → answered app s x held h p3 ≡ begun app s x h p3
  not_held x nothing b h p3 = refl
  not_held x (by61 r) b h p3 = refl
  not_held x (by6C g r) b h p3 = absurd b

  -- A header that is not reserved begins a command, whatever the card holds between commands.
  pub headed_begun : (x : app.State) (held : Held) → Between held → (h : Header) (p3 : ℕ) → reserved h.cla h.ins ≡ false
      → headed app s x held h p3 ≡ cond (inward h.ins) (cond (eqb p3 0) (runs_inward app s x h [])
      (record { state = x; held = nothing; stage = taking h p3 []; pending = procedure s (mover s.style h.ins) }))
      (runs_outward app s x h p3)
  headed_begun x held b h p3 e =
      cond-false (is_get_response h) _ _ (and_left (eqb h.ins 0xC0) (eqb h.p1 0 && eqb h.p2 0) (not_get_response h.cla h.ins e))
      ∙ not_held x held b h p3
      ∙ cond-false (reserved h.cla h.ins) _ _ e
