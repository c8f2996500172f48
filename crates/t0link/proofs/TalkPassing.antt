use Rattle.std.proofs.Common.{◌≡◌, ℕ, ◌+◌, ◌<◌, ◌≤◌, Bool, true, false, cond, eqb, ltb, leb, List, [], ◌∷◌, length, get_or, take, Some, None, Option, sym, refl, ap, ◌∙◌, subst, arith, length-take}
use Rattle.std.proofs.lemmas.Bool.{leb-true, eqb-true, eqb-false, false≢true}
use Rattle.apdu.specs.Commands.{Command, command_of, after_header, reserved, inward, agrees, wanted}
use Rattle.apdu.specs.Judging.{refused, passes, checked, judged}
use Rattle.apdu.specs.declared.command.Case.{Case}
use Rattle.apdu.specs.declared.command.Case.TheVariants.{One, Two, Three, Four}

-- What a command that was read has: at most 255 data bytes, Ne at most 256, and in case 2 no data and Ne above 0.
pub record Shaped (c : Command) : Type 0 where
  pub short : length c.body ≤ 255
  pub most_wanted : c.ne ≤ 256
  pub alone : c.kind ≡ Two → (c.body ≡ []) × (0 < c.ne)

-- What a command that passes has besides: it is not reserved, and its case agrees with its direction.
pub record Passing (c : Command) : Type 0 where
  pub free : reserved c.cla c.ins ≡ false
  pub agree : agrees (inward c.ins) c.kind ≡ true
  pub shape : Shaped c

abbrev WhenRead : Option Command → Type 0
WhenRead None = Unit {0}
WhenRead (Some c) = Shaped c

abbrev is_two : Case → Type 0
is_two One = ⊥
is_two Two = Unit {0}
is_two Three = ⊥
is_two Four = ⊥

two : {k : Case} → k ≡ Two → is_two k
two e = subst is_two (sym e) tt

some_wanted : (le : ℕ) (z small : Bool) → eqb le 0 ≡ z → leb le 255 ≡ small → (0 < cond z 256 (cond small le 256)) × (cond z 256 (cond small le 256) ≤ 256)
some_wanted le true small e f = (omega arith, omega arith)
some_wanted le false true e f = let n = eqb-false le 0 e in let m = leb-true le 255 f in (omega arith, omega arith)
some_wanted le false false e f = (omega arith, omega arith)

pub wanted_bounds : (le : ℕ) → (0 < wanted le) × (wanted le ≤ 256)
wanted_bounds le = some_wanted le (eqb le 0) (leb le 255) refl refl

data_shaped : (cla ins p1 p2 lc : ℕ) (body : List ℕ) (z few three four : Bool) → leb lc 255 ≡ few → eqb (length body) lc ≡ three
    → WhenRead (cond z None (cond few (cond three (Some (record { kind = Three; cla = cla; ins = ins; p1 = p1; p2 = p2; body = body; ne = 0 }))
    (cond four (Some (record { kind = Four; cla = cla; ins = ins; p1 = p1; p2 = p2; body = take lc body; ne = wanted (get_or body lc 0) })) None)) None))
data_shaped cla ins p1 p2 lc body true few three four e f = tt
data_shaped cla ins p1 p2 lc body false false three four e f = tt
data_shaped cla ins p1 p2 lc body false true true four e f =
    record { short = omega (arith, leb-true lc 255 e, eqb-true (length body) lc f); most_wanted = omega arith; alone = λ k. absurd (two k) }
data_shaped cla ins p1 p2 lc body false true false true e f =
    record { short = omega (arith, leb-true lc 255 e, length-take lc body); most_wanted = (wanted_bounds (get_or body lc 0)).1; alone = λ k. absurd (two k) }
data_shaped cla ins p1 p2 lc body false true false false e f = tt

after_shaped : (cla ins p1 p2 : ℕ) (after : List ℕ) → WhenRead (after_header cla ins p1 p2 after)
after_shaped cla ins p1 p2 [] = record { short = omega arith; most_wanted = omega arith; alone = λ k. absurd (two k) }
after_shaped cla ins p1 p2 (le ∷ []) = record { short = omega arith; most_wanted = (wanted_bounds le).1; alone = λ k. (refl, (wanted_bounds le).0) }
after_shaped cla ins p1 p2 (lc ∷ (x ∷ xs)) =
    data_shaped cla ins p1 p2 lc (x ∷ xs) (eqb lc 0) (leb lc 255) (eqb (length (x ∷ xs)) lc) (eqb (length (x ∷ xs)) (lc + 1)) refl refl

read_shaped : (bytes : List ℕ) → WhenRead (command_of bytes)
read_shaped [] = tt
read_shaped (_ ∷ []) = tt
read_shaped (_ ∷ (_ ∷ [])) = tt
read_shaped (_ ∷ (_ ∷ (_ ∷ []))) = tt
read_shaped (cla ∷ (ins ∷ (p1 ∷ (p2 ∷ after)))) = after_shaped cla ins p1 p2 after

by_tests : (c : Command) (r a late : Bool) → reserved c.cla c.ins ≡ r → agrees (inward c.ins) c.kind ≡ a → Shaped c → {d : Command}
    → cond r (refused 2) (cond a (cond late (refused 4) (passes c)) (refused 3)) ≡ passes d → Passing d
by_tests c true a late e f s h = absurd (let z : ◌≡◌ {A = ℕ} 0 1 = cc in omega arith)
by_tests c false false late e f s h = absurd (let z : ◌≡◌ {A = ℕ} 0 1 = cc in omega arith)
by_tests c false true true e f s h = absurd (let z : ◌≡◌ {A = ℕ} 0 1 = cc in omega arith)
by_tests c false true false e f s {d} h =
    let same : c ≡ d = cc in
    subst Passing same (record { free = e; agree = f; shape = s })

was_checked : (o : Option Command) (room : ℕ) {d : Command} → WhenRead o → checked room o ≡ passes d → Passing d
was_checked None room s h = absurd (let z : ◌≡◌ {A = ℕ} 0 1 = cc in omega arith)
was_checked (Some c) room s h =
    by_tests c (reserved c.cla c.ins) (agrees (inward c.ins) c.kind) (ltb room c.ne) refl refl s h

-- A command that passes the refusals.
pub passing : (bytes : List ℕ) (room : ℕ) {d : Command} → judged bytes room ≡ passes d → Passing d
unfolding judged
passing bytes room h = was_checked (command_of bytes) room (read_shaped bytes) h

outward_two : (k : Case) → agrees false k ≡ true → k ≡ Two
outward_two One e = absurd (false≢true e)
outward_two Two e = refl
outward_two Three e = absurd (false≢true e)
outward_two Four e = absurd (false≢true e)

-- An outward command has no data, and Ne above 0.
pub outward_alone : (c : Command) → Passing c → inward c.ins ≡ false → (c.body ≡ []) × (0 < c.ne)
outward_alone c p e =
    p.shape.alone (outward_two c.kind (ap (λ (way : Bool). agrees way c.kind) (sym e) ∙ p.agree))
