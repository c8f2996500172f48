use Rattle.std.proofs.Common.{◌≡◌, ℕ, ◌+◌, ◌-◌, min, List, [], ◌∷◌, ◌++◌, length, take, drop, Some, None, Ok, Err, Option, Result, sym, refl, ap, ◌∙◌, subst, append-nil, arith, length-drop}
use borrow.Rule.Slice.PartMut.{put_mid}
use Rattle.std.proofs.lemmas.List.{drop_all, take_rest, take_min, drop_min}
use Rattle.apdu.specs.declared.refusal.Refusal.{Refusal}
use Rattle.apdu.specs.declared.status.Status.{Status}
use Rattle.wire.specs.Records.{Grew}
use Rattle.wire.specs.declared.record.Record.{Record}
use Rattle.wire.specs.declared.traced.Traced.{Traced}
use Rattle.link.specs.Results.{Takes, LinkTakes, turn_gave, turn_count}
use Rattle.link.specs.Rows.{row_of, row_of_result}
use Rattle.link.specs.Runs.{TurnRuns}
use Rattle.link.specs.Turns.{Gave, gives, restarted, denied, Did, taken}
use Rattle.link.specs.declared.row.Row.{Row}

-- A row is as long as what its turn takes up.
row_length : (program place : ℕ) (g : Gave) → (row_of program place g).length ≡ taken g
row_length program place (gives bytes s) = refl
row_length program place restarted = refl
row_length program place (denied n) = refl

-- The row of a result is the row of what it says that the turn gave.
row_is : (program place : ℕ) (r : Result (Option (ℕ × Status)) Refusal) (left : List ℕ) → turn_count r ≡ taken (turn_gave r left)
    → row_of_result program place r ≡ row_of program place (turn_gave r left)
row_is program place (Ok (Some p)) left h =
    ap (λ (n : ℕ). record { program = program; kind = 0; sw1 = p.1.sw1; sw2 = p.1.sw2; place = place; length = n }) h
row_is program place (Ok None) left h = refl
row_is program place (Err e) left h = refl

-- The rest of a buffer from a place on, which may lie past its end, lent and put back.
pub rest_lent : (free start : ℕ) (space : List ℕ) → start ≡ min free (length space) → take (length space - start) (drop start space) ≡ drop free space
rest_lent free start space e = take_rest space start ∙ ap (λ (k : ℕ). drop k space) e ∙ drop_min free space

pub rest_back : (free start : ℕ) (space left : List ℕ) → start ≡ min free (length space)
    → put_mid start (length space - start) space left ≡ take free space ++ left
rest_back free start space left e =
    ap (λ (z : List ℕ). take start space ++ (left ++ z)) (drop_all (length space - start) (drop start space) (omega (arith, length-drop start space)))
    ∙ ap (λ (z : List ℕ). take start space ++ z) (append-nil left)
    ∙ ap (λ (k : ℕ). take k space ++ left) e ∙ ap (λ (z : List ℕ). z ++ left) (take_min free space)

-- What a turn left, and its row.
module _ {M : Type 0} (d : Did M) (m : M) (left : List ℕ) (r : Result (Option (ℕ × Status)) Refusal) (program place : ℕ) (row : Row) where
  -- The row of a turn is that of what it gave.
  row_taken : Takes d m left r → row ≡ row_of_result program place r → row ≡ row_of program place d.gave
  row_taken h e = e ∙ row_is program place r left (h.count ∙ ap taken (sym h.gave)) ∙ ap (row_of program place) h.gave

  -- A turn of a run.
  pub turn_runs : (t u : Record Traced) (space final : List ℕ) (j k : Record Row)
      → LinkTakes d m left r t u → row ≡ row_of_result program place r → final ≡ take place space ++ left → Grew j k (row ∷ [])
      → TurnRuns d program place space m final (place + row.length) j k t u
  turn_runs t u space final j k h e ef n =
      record {
        after = h.turn.after;
        wrote = ef ∙ ap (λ (z : List ℕ). take place space ++ z) h.turn.wrote;
        used = ap (λ (x : Row). place + x.length) (row_taken h.turn e) ∙ ap (λ (z : ℕ). place + z) (row_length program place d.gave);
        journal = subst (λ (x : Row). Grew j k (x ∷ [])) (row_taken h.turn e) n;
        trace = h.trace;
      }
