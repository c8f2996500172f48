use Rattle.std.proofs.Common.{◌≡◌, ℕ, ◌+◌, ◌<◌, ◌≤◌, true, cond, T, List, [], ◌∷◌, ◌++◌, length, get_or, take, drop, set, ℤ, pos, ◌+ℤ◌, Ok, nat_le, sym, refl, ap, ◌∙◌, subst, arith, w32, SFits}
use Rattle.std.proofs.lemmas.List.{take_at, length-append}
use Rattle.std.proofs.lemmas.Bool.{cond-true, cond-false, cond_both, le-leb, lt-leb, leb-true, leb-false}
use Rattle.std.proofs.lemmas.Int.{ints}
use Rattle.std.specs.List.{remove, refill}
use Rattle.apdu.specs.Statuses.{conditions_not_met}
use Rattle.apps.specs.Purse.{balance, within, joined, recorded, shown, four_bytes, Sound, Kept, accepts, refuses, move_by}
use Rattle.apps.specs.Replies.{gives}
use Rattle.apps.proofs.PurseBalances.{fits_within, sound_recorded}

-- What makes place for a movement: where 32 are held, the two oldest become one.
abbrev pub placed : List ℤ → List ℤ
placed xs = cond (nat_le 32 (length xs)) (joined xs) xs

-- A place is free.
pub placed_free : (xs : List ℤ) → length xs < 32 → xs ≡ placed xs
placed_free xs h = sym (cond-false _ (joined xs) xs (lt-leb 32 (length xs) h))

-- No place is free: the oldest is taken off, and added to the next.
pub placed_full : (xs rest ys : List ℤ) (o : ℤ) → length xs ≡ 32 → o ≡ get_or xs 0 o → rest ≡ remove xs 0 → ys ≡ rest
    → refill (length rest) rest (set ys 0 (get_or ys 0 (pos 0) +ℤ o)) ≡ placed xs
placed_full [] rest ys o h e r s = absurd (omega arith)
placed_full (x ∷ []) rest ys o h e r s = absurd (omega arith)
placed_full (x ∷ (y ∷ zs)) rest ys o h e r s =
    let t : take (length zs) (zs ++ drop (length zs) zs) ≡ zs = take_at zs _ (length zs) refl in
    let q : y +ℤ x ≡ x +ℤ y = omega (arith, ints) in
    let p = cond-true (nat_le 32 (length (x ∷ (y ∷ zs)))) (joined (x ∷ (y ∷ zs))) (x ∷ (y ∷ zs)) (le-leb 32 (length (x ∷ (y ∷ zs))) (omega arith)) in
    rw (s, r, e) (ap (λ (xs : List ℤ). (y +ℤ x) ∷ xs) t ∙ ap (λ (z : ℤ). z ∷ zs) q ∙ sym p)

pub two_oldest_fit : (xs rest ys : List ℤ) (o : ℤ) → 2 ≤ length xs → Sound xs → o ≡ get_or xs 0 o → rest ≡ remove xs 0 → ys ≡ rest
    → SFits w32 (get_or ys 0 (pos 0) +ℤ o)
two_oldest_fit [] rest ys o h sound e r s = absurd (omega arith)
two_oldest_fit (x ∷ []) rest ys o h sound e r s = absurd (omega arith)
two_oldest_fit (x ∷ (y ∷ zs)) rest ys o h sound e r s =
    let q : x +ℤ (y +ℤ pos 0) ≡ y +ℤ x = omega (arith, ints) in
    rw (s, r, e) (subst (λ (b : ℤ). SFits w32 b) q (fits_within (x +ℤ (y +ℤ pos 0)) (sound 2)))

length_joined : (ms : List ℤ) → 32 ≤ length ms → length (joined ms) + 1 ≡ length ms
length_joined [] h = absurd (omega arith)
length_joined (m ∷ []) h = absurd (omega arith)
length_joined (m ∷ (n ∷ ms)) h = omega arith

length_placed : (ms : List ℤ) → length ms ≤ 32 → length (placed ms) + 1 ≤ 32
length_placed ms h =
    cond_both (nat_le 32 (length ms)) (joined ms) ms (λ (xs : List ℤ). length xs + 1 ≤ 32)
    (λ t. let l : 32 ≤ length ms = leb-true 32 (length ms) t in omega (arith, length_joined ms l))
    (λ t. let l : length ms < 32 = leb-false 32 (length ms) t in omega arith)

-- What is recorded is kept.
pub kept_recorded : (ms after : List ℤ) (m : ℤ) → Kept ms → true ≡ within (balance ms +ℤ m) → after ≡ recorded ms m → Kept after
kept_recorded ms after m kept w e =
    rw e (record { few = simp length-append (length_placed ms kept.few); sound = sound_recorded ms m kept.sound (subst T w tt) })

-- An accepted movement leaves what is recorded, and answers its balance.
pub moved : (ms after : List ℤ) (m : ℤ) (cents : ℕ) → true ≡ within (balance ms +ℤ m) → after ≡ recorded ms m → pos cents ≡ balance after
    → gives after four_bytes (Ok cents) ≡ move_by ms m
moved ms after m cents w e b =
    let s : four_bytes cents ≡ shown (balance (recorded ms m)) = ap shown (b ∙ ap balance e) in
    rw (e, s) (sym (cond-true (within (balance ms +ℤ m)) (accepts (recorded ms m)) (refuses ms conditions_not_met) (sym w)))
