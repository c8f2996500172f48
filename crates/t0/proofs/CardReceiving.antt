use Rattle.std.proofs.Common.{◌≡◌, ℕ, zero, suc, false, ◌||◌, ltb, List, [], ◌++◌, replicate, sym, refl, ap, ◌∙◌, arith}
use Rattle.std.proofs.lemmas.Bool.{lt-ltb, or_left, true≢false}
use Rattle.apdu.specs.Applications.{App}
use Rattle.t0.specs.declared.settings.Settings.{Settings}
use Rattle.t0.specs.declared.card.Card.{Card as Value}
use Rattle.t0.specs.declared.card.Receiving.{Receiving}
use Rattle.t0.specs.declared.card.Then.{Then}
use Rattle.t0.specs.declared.card.Then.TheVariants.{Nothing, Ask, Announce, Give, Close, End}
use Rattle.t0.specs.Cards.{by_pending, at_stage, received}
use Rattle.t0.specs.CardValues.{characters_of, is_some, has_some, stage_of, meant}

-- With nothing to send, nothing is pending.
idle_at : (s : Settings) (memory : List ℕ) (waits : ℕ) (then : Then) → (ltb 0 waits || is_some then) ≡ false → replicate waits 0x60 ++ characters_of s memory then ≡ []
idle_at s memory zero Nothing e = refl
idle_at s memory zero (Ask ins) e = absurd (true≢false e)
idle_at s memory zero (Announce g) e = absurd (true≢false e)
idle_at s memory zero (Give g) e = absurd (true≢false e)
idle_at s memory zero (Close sw1 sw2) e = absurd (true≢false e)
idle_at s memory zero (End sw2) e = absurd (true≢false e)
idle_at s memory (suc n) then e = absurd (true≢false (sym (or_left (ltb 0 (suc n)) (is_some then) (lt-ltb 0 (suc n) (omega arith))) ∙ e))

module _ {V : Type 0} (app : App V) (c : Value V) (byte : ℕ) where
  -- A character that is not ignored goes to what is being received.
  pub goes_to : (r : Receiving) → has_some c.out ≡ false → c.receiving ≡ r
      → at_stage app c.settings (meant app c) (stage_of c.body r) byte ≡ received app c.settings (meant app c) byte
  goes_to r e f =
      ap (λ (x : Receiving). at_stage app c.settings (meant app c) (stage_of c.body x) byte) (sym f)
      ∙ ap (λ (ps : List ℕ). by_pending app c.settings (meant app c) ps byte) (sym (idle_at c.settings c.answer c.out.waits c.out.then e))
