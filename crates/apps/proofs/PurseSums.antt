use Rattle.std.proofs.Common.{◌≡◌, ℕ, suc, ◌<◌, ◌≤◌, true, List, [], ◌∷◌, map, length, get_or, take, ℤ, pos, ◌+ℤ◌, Some, None, Option, Bor, sym, refl, ap, ◌∙◌, subst, arith, w32, SFits}
use Rattle.std.specs.List.{fold}
use Rattle.std.specs.Option.{option_map}
use Rattle.std.specs.Iterator.Runs.{Run, ItemsMapTo}
use Rattle.std.proofs.lemmas.Int.{ints}
use Rattle.apps.specs.Purse.{balance, Sound}
use Rattle.apps.proofs.PurseBalances.{fits_within}

-- Items that read a list from its front are that front.
front : (xs : List ℤ) (items : List (Bor ℤ)) → length items ≤ length xs
    → ((k : ℕ) (d : Bor ℤ) (e : ℤ) → k < length items → (get_or items k d).now ≡ get_or xs k e)
    → map (λ (y : Bor ℤ). y.now) items ≡ take (length items) xs
front xs [] h r = refl
front [] (y ∷ ys) h r = absurd (omega arith)
front (x ∷ xs) (y ∷ ys) h r =
    let q : y.now ≡ x = r 0 y x (omega arith) in
    let f = front xs ys (omega arith) (λ k d e l. r (suc k) d e (omega arith)) in
    cc

same_at : (o : Option (Bor ℤ)) (x : Bor ℤ) (y : ℤ) → option_map (λ (z : Bor ℤ). z) o ≡ Some x → option_map (λ (z : Bor ℤ). z.now) o ≡ Some y → x.now ≡ y
same_at None x y a b = absurd (cc)
same_at (Some z) x y a b =
    let p : z ≡ x = cc in
    let q : z.now ≡ y = cc in
    sym (ap (λ (w : Bor ℤ). w.now) p) ∙ q

total : (items : List (Bor ℤ)) (n : ℤ) → fold (λ (a : ℤ) (x : Bor ℤ). a +ℤ x.now) n items ≡ n +ℤ balance (map (λ (y : Bor ℤ). y.now) items)
total [] n = omega (arith, ints)
total (y ∷ ys) n = let e = total ys (n +ℤ y.now) in omega (arith, ints)

from_none : (items : List (Bor ℤ)) → fold (λ (a : ℤ) (x : Bor ℤ). a +ℤ x.now) (pos 0) items ≡ balance (map (λ (y : Bor ℤ). y.now) items)
from_none items = let e = total items (pos 0) in omega (arith, ints)

-- A run over movements adds up the first of them, and all of them where it is whole.
module _ {S : Type 0} {steps : S → Option (Bor ℤ) → S → Type 0} (p : Run steps) (rest ms : List ℤ) (h : ItemsMapTo p (λ (y : Bor ℤ). y.now) rest) (e : rest ≡ ms) where
  pub run_fits : Sound ms → SFits w32 (fold (λ (a : ℤ) (x : Bor ℤ). a +ℤ x.now) (pos 0) p.items)
  run_fits sound =
      let f = front rest p.items (omega (arith, h.0, p.long))
      (λ k d e l. same_at (p.at k) (get_or p.items k d) (get_or rest k e) (p.reads k d (omega (arith, p.long))) (h.2 k e (omega (arith, p.long)))) in
      let q = f ∙ ap (take (length p.items)) e in
      subst (λ (b : ℤ). SFits w32 b) (sym (from_none p.items ∙ ap balance q)) (fits_within (balance (take (length p.items) ms)) (sound (length p.items)))

  pub run_whole : p.whole ≡ true → fold (λ (a : ℤ) (x : Bor ℤ). a +ℤ x.now) (pos 0) p.items ≡ balance ms
  run_whole w = from_none p.items ∙ ap balance (h.4 w ∙ e)
