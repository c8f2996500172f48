use Rattle.std.proofs.Common.{◌≡◌, ℕ, ◌+◌, ◌-◌, Bool, true, false, cond, List, length, take, drop, None, Some, sym, refl, ap, ◌∙◌, arith}
use Rattle.std.specs.Prelude.{◌==◌}
use Rattle.std.proofs.lemmas.List.{take_at}
use Rattle.std.proofs.lemmas.Bool.{cond-false, eqb-false, ne_eqb}
use Rattle.apdu.specs.Applications.{Outcome, Reply, opened}
use Rattle.apdu.specs.declared.header.Header.{Header}
use Rattle.apdu.specs.declared.status.Status.{Status}
use Rattle.t0.specs.declared.settings.Settings.{Settings}
use Rattle.t0.specs.declared.card.Answer.{Answer}
use Rattle.t0.specs.Cards.{Card, by61, by6C, says, outward_ran, inward_ran}
use Rattle.t0.specs.CardValues.{answer_of, served, written}
use Rattle.t0.specs.Procedures.{as_p3, closes}

-- What a run left: the state, the memory, the count and the status are those of this outcome.
pub record Ran {S : Type 0} (o : Outcome S) (x : S) (memory old : List ℕ) (n : ℕ) (sw : Status) : Type 0 where
  pub state : x ≡ o.state
  pub answer : memory ≡ opened o.reply.answer old
  pub count : n ≡ length o.reply.answer
  pub status : sw ≡ o.reply.status

same_reply : (answer : List ℕ) (status : Status) (r : Reply) → answer ≡ r.answer → status ≡ r.status → record { answer = answer; status = status } ≡ r
same_reply answer status r e f = ap (λ (l : List ℕ). record { answer = l; status = status }) e ∙ ap (λ (t : Status). record { answer = r.answer; status = t }) f

-- A reply whose answer bytes opened the memory.
filled : (r : Reply) (n : ℕ) (status : Status) (memory old : List ℕ) → memory ≡ opened r.answer old → (n ≡ 0 → ⊥) → n ≡ length r.answer → status ≡ r.status
    → record { answer = take (n - 1 + 1) memory; status = status } ≡ r
filled r n status memory old m z e f =
    same_reply (take (n - 1 + 1) memory) status r
    (ap (take (n - 1 + 1)) m ∙ take_at r.answer (drop (length r.answer) old) (n - 1 + 1) (let k : length r.answer ≡ n - 1 + 1 = omega arith in k)) f

-- The answer of an application that wrote so many bytes.
some_of : (none : Bool) (a b : Answer) → cond none None (Some a) ≡ Some b → (none ≡ false) × (a ≡ b)
some_of true a b e = absurd (let z : ◌≡◌ {A = ℕ} 0 1 = cc in omega arith)
some_of false a b e = (refl, cc)

is_written : (n : ℕ) (status : Status) (a : Answer) → written n status ≡ Some a → (n ≡ 0 → ⊥) × (record { last = n - 1; status = status } ≡ a)
is_written n status a e =
    let k = some_of (n == 0) (record { last = n - 1; status = status }) a e in (eqb-false n 0 k.0, k.1)

module _ {S : Type 0} (o : Outcome S) (x : S) (memory old : List ℕ) (n : ℕ) (status : Status) (a : Answer)
    (r : Ran o x memory old n status) (w : written n status ≡ Some a) (s : Settings) (c : Card S) where
  replied : answer_of memory a ≡ o.reply
  replied = ap (answer_of memory) (sym (is_written n status a w).1) ∙ filled o.reply n status memory old r.answer (is_written n status a w).0 r.count r.status

  some : (length o.reply.answer == 0) ≡ false
  some = ne_eqb (length o.reply.answer) 0 (λ e. (is_written n status a w).0 (r.count ∙ e))

  -- An outward command that ran with an answer.
  pub outward_so : (h : Header) (k : ℕ) → c ≡ served s x h.ins k (answer_of memory a) (by6C h (answer_of memory a)) → c ≡ outward_ran s h k o
  outward_so h k e =
      e
      ∙ ap (λ (y : S). served s y h.ins k (answer_of memory a) (by6C h (answer_of memory a))) r.state
      ∙ ap (λ (t : Reply). served s o.state h.ins k t (by6C h t)) replied
      ∙ sym (cond-false (length o.reply.answer == 0) _ _ some)

  -- An inward command that ran with an answer.
  pub inward_so : (p3 : ℕ) → p3 ≡ as_p3 (a.last + 1) → c ≡ says x (by61 (answer_of memory a)) (closes s 0x61 p3) → c ≡ inward_ran s o
  inward_so p3 p e =
      e
      ∙ ap (λ (y : S). says y (by61 (answer_of memory a)) (closes s 0x61 p3)) r.state
      ∙ ap (λ (t : Reply). says o.state (by61 t) (closes s 0x61 p3)) replied
      ∙ ap (λ (q : ℕ). says o.state (by61 o.reply) (closes s 0x61 q)) (p ∙ ap as_p3 counted)
      ∙ sym (cond-false (length o.reply.answer == 0) _ _ some)
    where
      counted : a.last + 1 ≡ length o.reply.answer
      counted = omega (arith, r.count, (is_written n status a w).0, ap (λ (b : Answer). b.last) (is_written n status a w).1)
