use Rattle.std.proofs.Common.{◌≡◌, ℕ, Bool, true, false, T, Some, None, Option, refl, ap, ◌∙◌, subst}
use Rattle.apdu.specs.Lawful.{lawful}
use Rattle.apdu.specs.Statuses.{coded, coded_if, status_of}
use Rattle.apdu.specs.declared.status.Status.{Status}

one_proof : (t : Bool) (h k : T t) → h ≡ k
one_proof true h k = refl
one_proof false h k = absurd h

-- A status is its two bytes: the fact beside them has one proof.
pub coded_same : (a b : ℕ) (h k : T (lawful a)) → coded a b h ≡ coded a b k
coded_same a b h k = ap (λ (e : T (lawful a)). coded a b e) (one_proof (lawful a) h k)

coded_if_true : (a b : ℕ) (t : Bool) (f : T t → T (lawful a)) (h : T (lawful a)) → T t → Some (coded a b h) ≡ coded_if a b t f
coded_if_true a b true f h k = ap Some (coded_same a b h (f tt))
coded_if_true a b false f h k = absurd k

pub status_of_lawful : (a b : ℕ) (h : T (lawful a)) → Some (coded a b h) ≡ status_of a b
status_of_lawful a b h = coded_if_true a b (lawful a) (λ k. k) h h

-- Two statuses with equal bytes are equal.
pub status_same : (s t : Status) → s.sw1 ≡ t.sw1 → s.sw2 ≡ t.sw2 → s ≡ t
status_same s t e f =
    let P : (a : ℕ) → Type 0 = λ a. (h : T (lawful a)) → s ≡ coded a s.sw2 h in
    let go : P t.sw1 = subst P e (λ h. coded_same s.sw1 s.sw2 s.ok h) in
    go t.ok ∙ ap (λ (b : ℕ). coded t.sw1 b t.ok) f
