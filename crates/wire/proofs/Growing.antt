use Rattle.std.proofs.Common.{◌≡◌, ℕ, ◌+◌, Bool, true, false, cond, ltb, List, [], ◌∷◌, ◌++◌, set, sym, refl, ap, ◌∙◌, subst}
use Rattle.wire.specs.declared.record.Record.{Record}
use Rattle.wire.specs.Records.{Kept, Grew, kept, one_more, noted}

noted_append : {T : Type 0} (k : Kept T) (xs ys : List T) → noted k (xs ++ ys) ≡ noted (noted k xs) ys
noted_append k [] ys = refl
noted_append k (x ∷ xs) ys = noted_append (one_more k x) xs ys

pub grew_none : {T : Type 0} (r : Record T) → Grew r r []
grew_none r = record { held = refl; same = refl }

-- Items noted after others.
pub grew_then : {T : Type 0} {r q p : Record T} {xs ys : List T} → Grew r q xs → Grew q p ys → Grew r p (xs ++ ys)
grew_then {T} {r} {q} {p} {xs} {ys} a b =
    record { held = b.held ∙ ap (λ (k : Kept T). noted k ys) a.held ∙ sym (noted_append (kept r) xs ys); same = b.same ∙ a.same }

-- One item noted where the count has not reached its limit.
pub grew_one : {T : Type 0} (r j : Record T) (n : ℕ) (x : T) → ltb r.count 0xFFFF_FFFF ≡ true
    → j.places.now ≡ set r.places.now r.count x → j.places.ghost_name ≡ r.places.ghost_name → n ≡ r.count + 1
    → Grew r (record { places = j.places; count = n }) (x ∷ [])
grew_one {T} r j n x t s m e =
    record { held = subst (λ (b : Bool). record { places = j.places.now; count = n } ≡ cond b (record { places = set r.places.now r.count x; count = r.count + 1 }) (kept r)) (sym t) both; same = m }
  where
    both : ◌≡◌ {A = Kept T} (record { places = j.places.now; count = n }) (record { places = set r.places.now r.count x; count = r.count + 1 })
    both = cc

-- At its limit nothing changes.
pub grew_full : {T : Type 0} (r : Record T) (x : T) → ltb r.count 0xFFFF_FFFF ≡ false → Grew r r (x ∷ [])
grew_full {T} r x t =
    record { held = subst (λ (b : Bool). kept r ≡ cond b (record { places = set r.places.now r.count x; count = r.count + 1 }) (kept r)) (sym t) refl; same = refl }
