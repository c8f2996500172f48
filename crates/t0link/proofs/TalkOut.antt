use Rattle.std.proofs.Common.{◌≡◌, ℕ, suc, ◌+◌, ◌-◌, ◌<◌, ◌≤◌, cond, leb, List, [], ◌∷◌, ◌++◌, length, set, sym, refl, ap, ◌∙◌, subst, append_assoc, arith}
use Rattle.std.proofs.lemmas.Bool.{lt-leb, cond-false}
use Rattle.std.proofs.lemmas.List.{set_at, length_push}
use Rattle.apdu.specs.Applications.{App, opened}
use Rattle.t0.specs.declared.settings.Settings.{Settings}
use Rattle.t0.specs.declared.settings.Style.{Style}
use Rattle.t0.specs.declared.settings.Style.TheVariants.{Whole, Bytewise}
use Rattle.t0.specs.declared.terminal.Phase.{Phase}
use Rattle.t0.specs.declared.terminal.Phase.TheVariants.{Procedure, Receiving}
use Rattle.t0.specs.declared.terminal.Waiting.{Waiting}
use Rattle.t0.specs.declared.terminal.Step.TheVariants.{Next}
use Rattle.t0.specs.Procedures.{mover, procedure, one_by_one, moved_out, moves_out}
use Rattle.t0.specs.Dialogues.{from_card}
use Rattle.t0.specs.Cards.{Card, Held, Stage}
use Rattle.t0.specs.Terminals.{moving, procedure_byte, hears}
use Rattle.t0link.proofs.TalkSteps.{after_step, Says, none, says_then}
use Rattle.t0link.proofs.TalkProcedures.{Free, moves_all, moves_one}
use Rattle.t0link.proofs.TalkSegments.{less_one, due_at, card_at, ends, from_card_append, says_from, says_words, says_one, says_procedure}

-- Bytes written from a place on.
abbrev pub placed : List ℕ → ℕ → List ℕ → List ℕ
placed staged i [] = staged
placed staged i (x ∷ xs) = placed (set staged i x) (i + 1) xs

-- One byte of the answer moved.
kept : {S : Type 0} (w : Waiting) (due n : ℕ) (c : Card S) (staged : List ℕ) (b : ℕ) (left : ℕ) (p : Phase) (i : ℕ)
    → due - 1 ≡ left → cond (leb n 1) Procedure (Receiving (n - 1)) ≡ p → w.total - due ≡ i
    → after_step c staged b (hears (due_at w due (Receiving n)) (Receiving n) b) ≡ ends (due_at w left p) c (set staged i b)
kept w due n c staged b left p i e f g = λ k. ends (due_at w (e k) (f k)) c (set staged (g k) b)

receiving_more : (n : ℕ) → cond (leb (suc (suc n)) 1) Procedure (Receiving (suc (suc n) - 1)) ≡ Receiving (suc n)
receiving_more n =
    cond-false (leb (suc (suc n)) 1) Procedure (Receiving (suc (suc n) - 1)) (lt-leb (suc (suc n)) 1 (omega arith))
    ∙ ap Receiving (less_one (suc n))

module _ {V : Type 0} (app : App V) (s : Settings) (body : List ℕ) (x : app.State) (held : Held) (stage : Stage) (w : Waiting) where
  -- All bytes due, one after the other.
  says_bytes : (bs staged : List ℕ) (i b : ℕ) (xs : List ℕ) → i + suc (length xs) ≡ w.total
      → Says app s body x (ends (due_at w (suc (length xs)) (Receiving (suc (length xs)))) (card_at x held stage ((b ∷ xs) ++ bs)) staged) (from_card (b ∷ xs))
      (ends (due_at w 0 Procedure) (card_at x held stage bs) (placed staged i (b ∷ xs)))
  says_bytes bs staged i b [] e =
      says_one app s body x held stage staged (due_at w 1 (Receiving 1)) b bs _ refl
      (kept w 1 1 (card_at x held stage bs) staged b 0 Procedure i refl refl (omega arith))
  says_bytes bs staged i b (y ∷ ys) e =
      says_then app s body
      (says_one app s body x held stage staged (due_at w (suc (suc (length ys))) (Receiving (suc (suc (length ys))))) b ((y ∷ ys) ++ bs) _ refl
      (kept w (suc (suc (length ys))) (suc (suc (length ys))) (card_at x held stage ((y ∷ ys) ++ bs)) staged b (suc (length ys)) (Receiving (suc (length ys))) i
      (less_one (suc (length ys))) (receiving_more (length ys)) (omega arith)))
      (says_bytes bs (set staged i b) (i + 1) y ys (omega arith))

  -- One byte after each procedure byte.
  says_one_by_one : (ins : ℕ) → ((n : ℕ) → procedure_byte (due_at w (suc n) Procedure) (mover s.style ins) ≡ Next (due_at w (suc n) (Receiving 1)))
      → (bs staged : List ℕ) (i : ℕ) (xs : List ℕ) → i + length xs ≡ w.total
      → Says app s body x (ends (due_at w (length xs) Procedure) (card_at x held stage (one_by_one s ins xs ++ bs)) staged) (from_card (one_by_one s ins xs))
      (ends (due_at w 0 Procedure) (card_at x held stage bs) (placed staged i xs))
  says_one_by_one ins moves bs staged i [] e = none
  says_one_by_one ins moves bs staged i (b ∷ xs) e =
      says_from app s body (ap (λ (l : List ℕ). ends (due_at w (suc (length xs)) Procedure) (card_at x held stage l) staged) (append_assoc (procedure s m) (b ∷ one_by_one s ins xs) bs))
      (says_words app s body (from_card_append (procedure s m) (b ∷ one_by_one s ins xs))
      (says_then app s body
      (says_procedure app s body x held stage staged (due_at w (suc (length xs)) Procedure) (due_at w (suc (length xs)) (Receiving 1)) m (b ∷ (one_by_one s ins xs ++ bs)) (moves (length xs)))
      (says_then app s body
      (says_one app s body x held stage staged (due_at w (suc (length xs)) (Receiving 1)) b (one_by_one s ins xs ++ bs) _ refl
      (kept w (suc (length xs)) 1 (card_at x held stage (one_by_one s ins xs ++ bs)) staged b (length xs) Procedure i (less_one (length xs)) refl (omega arith)))
      (says_one_by_one ins moves bs (set staged i b) (i + 1) xs (omega arith)))))
    where
      m : ℕ
      m = mover s.style ins

  -- The procedure byte has bytes received.
  module _ (free : Free w.header.ins) (outward : (n : ℕ) → moving w.kind n ≡ Receiving n) where
    receives_all : (n : ℕ) → procedure_byte (due_at w (suc n) Procedure) w.header.ins ≡ Next (due_at w (suc n) (Receiving (suc n)))
    receives_all n = moves_all w n free ∙ ap (λ (p : Phase). Next (due_at w (suc n) p)) (outward (suc n))

    receives_one : (style : Style) → s.style ≡ style → style ≡ Bytewise → (n : ℕ)
        → procedure_byte (due_at w (suc n) Procedure) (mover s.style w.header.ins) ≡ Next (due_at w (suc n) (Receiving 1))
    receives_one style e f n =
        ap (λ (t : Style). procedure_byte (due_at w (suc n) Procedure) (mover t w.header.ins)) (e ∙ f)
        ∙ moves_one w n free ∙ ap (λ (p : Phase). Next (due_at w (suc n) p)) (outward 1)

    abbrev Moves : List ℕ → List ℕ → List ℕ → List ℕ → Type 0
    Moves bs staged xs out =
        Says app s body x (ends (due_at w (length xs) Procedure) (card_at x held stage (out ++ bs)) staged) (from_card out)
        (ends (due_at w 0 Procedure) (card_at x held stage bs) (placed staged 0 xs))

    whole_out : (bs staged : List ℕ) (b : ℕ) (ys : List ℕ) → suc (length ys) ≡ w.total → Moves bs staged (b ∷ ys) (procedure s w.header.ins ++ (b ∷ ys))
    whole_out bs staged b ys e =
        says_from app s body (ap (λ (l : List ℕ). ends (due_at w (suc (length ys)) Procedure) (card_at x held stage l) staged) (append_assoc (procedure s w.header.ins) (b ∷ ys) bs))
        (says_words app s body (from_card_append (procedure s w.header.ins) (b ∷ ys))
        (says_then app s body
        (says_procedure app s body x held stage staged (due_at w (suc (length ys)) Procedure) (due_at w (suc (length ys)) (Receiving (suc (length ys)))) w.header.ins ((b ∷ ys) ++ bs) (receives_all (length ys)))
        (says_bytes bs staged 0 b ys (omega arith))))

    by_style : (style : Style) → s.style ≡ style → (bs staged : List ℕ) (b : ℕ) (ys : List ℕ) → suc (length ys) ≡ w.total
        → Moves bs staged (b ∷ ys) (moves_out s w.header.ins (b ∷ ys))
    by_style Whole e bs staged b ys t =
        subst (Moves bs staged (b ∷ ys)) (sym (ap (λ (y : Style). moved_out y s w.header.ins (b ∷ ys)) e ∙ ap (λ (y : Style). procedure s (mover y w.header.ins) ++ (b ∷ ys)) e))
        (whole_out bs staged b ys t)
    by_style Bytewise e bs staged b ys t =
        subst (Moves bs staged (b ∷ ys)) (sym (ap (λ (y : Style). moved_out y s w.header.ins (b ∷ ys)) e))
        (says_one_by_one w.header.ins (receives_one Bytewise e refl) bs staged 0 (b ∷ ys) (omega arith))

    -- Bytes that the card moves out, in its style.
    pub says_moves_out : (bs staged : List ℕ) (xs : List ℕ) → length xs ≡ w.total → 0 < length xs
        → Says app s body x (ends (due_at w w.total Procedure) (card_at x held stage (moves_out s w.header.ins xs ++ bs)) staged) (from_card (moves_out s w.header.ins xs))
        (ends (due_at w 0 Procedure) (card_at x held stage bs) (placed staged 0 xs))
    says_moves_out bs staged [] t h = absurd (omega arith)
    says_moves_out bs staged (b ∷ ys) t h =
        subst (λ (n : ℕ). Says app s body x (ends (due_at w n Procedure) (card_at x held stage (moves_out s w.header.ins (b ∷ ys) ++ bs)) staged) (from_card (moves_out s w.header.ins (b ∷ ys)))
        (ends (due_at w 0 Procedure) (card_at x held stage bs) (placed staged 0 (b ∷ ys)))) t
        (by_style s.style refl bs staged b ys t)

placed_after : (p : List ℕ) (i : ℕ) (xs rest : List ℕ) → length p ≡ i → length xs ≤ length rest → placed (p ++ rest) i xs ≡ p ++ opened xs rest
placed_after p i [] rest e h = refl
placed_after p i (y ∷ xs) [] e h = absurd (omega arith)
placed_after p i (y ∷ xs) (r ∷ rs) e h =
    ap (λ (l : List ℕ). placed l (i + 1) xs) (set_at p r rs y i e ∙ sym (append_assoc p (y ∷ []) rs))
    ∙ placed_after (p ++ (y ∷ [])) (i + 1) xs rs (length_push p y ∙ ap (λ (n : ℕ). n + 1) e) (omega arith)
    ∙ append_assoc p (y ∷ []) (opened xs rs)

-- Bytes written from the first place on open the memory.
pub placed_opened : (xs staged : List ℕ) → length xs ≤ length staged → placed staged 0 xs ≡ opened xs staged
placed_opened xs staged h = placed_after [] 0 xs staged refl h
