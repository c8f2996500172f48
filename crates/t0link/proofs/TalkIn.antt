use Rattle.std.proofs.Common.{◌≡◌, ℕ, suc, ◌-◌, ◌<◌, cond, leb, List, [], ◌∷◌, ◌++◌, length, get_or, sym, refl, ap, ◌∙◌, subst, append_assoc, append-nil, arith, length-append}
use Rattle.std.proofs.lemmas.Bool.{lt-leb, le-leb, cond-true, cond-false}
use Rattle.std.proofs.lemmas.List.{get_or_at}
use Rattle.apdu.specs.Applications.{App}
use Rattle.t0.specs.declared.settings.Settings.{Settings}
use Rattle.t0.specs.declared.settings.Style.{Style}
use Rattle.t0.specs.declared.settings.Style.TheVariants.{Whole, Bytewise}
use Rattle.t0.specs.declared.terminal.Phase.{Phase}
use Rattle.t0.specs.declared.terminal.Phase.TheVariants.{Procedure, Sending}
use Rattle.t0.specs.declared.terminal.Waiting.{Waiting}
use Rattle.t0.specs.declared.terminal.Step.TheVariants.{Next}
use Rattle.t0.specs.Procedures.{mover, procedure}
use Rattle.t0.specs.Dialogues.{Word, from_card, from_terminal, one_by_one_in, moved_in}
use Rattle.t0.specs.Cards.{Card, nothing, taking, runs_inward, asks_next, data_so_far}
use Rattle.t0.specs.Terminals.{moving, procedure_byte}
use Rattle.t0link.proofs.TalkSteps.{terminal_turn, Says, none, more, says_then}
use Rattle.t0link.proofs.TalkProcedures.{Free, moves_all, moves_one}
use Rattle.t0link.proofs.TalkSegments.{less_one, due_at, card_at, ends, says_from, says_words, says_to, says_procedure}

sending_more : (n : ℕ) → cond (leb (suc (suc n)) 1) Procedure (Sending (suc (suc n) - 1)) ≡ Sending (suc n)
sending_more n =
    cond-false (leb (suc (suc n)) 1) Procedure (Sending (suc (suc n) - 1)) (lt-leb (suc (suc n)) 1 (omega arith))
    ∙ ap Sending (less_one (suc n))

module _ {V : Type 0} (app : App V) (s : Settings) (body : List ℕ) (x : app.State) (staged : List ℕ) (w : Waiting) (all : length body ≡ w.total) where
  abbrev takes : List ℕ → List ℕ → Card app.State
  takes done pending = card_at x nothing (taking w.header (length body) done) pending

  -- The card once this byte has come too.
  abbrev took : List ℕ → ℕ → Card app.State
  took done b = data_so_far app s (takes done []) w.header (length body) (done ++ (b ∷ []))

  more_to_come : (done : List ℕ) (b y : ℕ) (ys : List ℕ) → body ≡ done ++ (b ∷ (y ∷ ys)) → took done b ≡ takes (done ++ (b ∷ [])) (asks_next app s s.style w.header.ins)
  more_to_come done b y ys e =
      cond-false (leb (length body) (length (done ++ (b ∷ [])))) _ _
      (lt-leb (length body) (length (done ++ (b ∷ []))) (omega (arith, ap length e, length-append done (b ∷ (y ∷ ys)), length-append done (b ∷ []))))

  all_came : (done : List ℕ) (b : ℕ) → body ≡ done ++ (b ∷ []) → took done b ≡ runs_inward app s x w.header body
  all_came done b e =
      cond-true (leb (length body) (length (done ++ (b ∷ [])))) _ _ (le-leb (length body) (length (done ++ (b ∷ []))) (omega (arith, ap length e)))
      ∙ ap (runs_inward app s x w.header) (sym e)

  -- One byte of data.
  sends_one : (due n : ℕ) (done : List ℕ) (b : ℕ) (rest : List ℕ) (left : ℕ) (p : Phase) (c : Card app.State) → body ≡ done ++ (b ∷ rest) → length (b ∷ rest) ≡ due
      → due - 1 ≡ left → cond (leb n 1) Procedure (Sending (n - 1)) ≡ p → took done b ≡ c
      → Says app s body x (ends (due_at w due (Sending n)) (takes done []) staged) (from_terminal (b ∷ [])) (ends (due_at w left p) c staged)
  sends_one due n done b rest left p c e d f g k =
      says_to app s body (λ i. ends (due_at w (f i) (g i)) (k i) staged)
      (more refl (ap (terminal_turn app s body (record { terminal = due_at w due (Sending n); card = takes done []; staged = staged })) byte) none)
    where
      place : w.total - due ≡ length done
      place = omega (arith, ap length e, length-append done (b ∷ rest))

      byte : get_or body (w.total - due) 0 ≡ b
      byte = ap (λ (i : ℕ). get_or body i 0) place ∙ ap (λ (l : List ℕ). get_or l (length done) 0) e ∙ get_or_at done b rest 0 (length done) refl

  next_byte : (done : List ℕ) (b : ℕ) (rest : List ℕ) → body ≡ done ++ (b ∷ rest) → body ≡ (done ++ (b ∷ [])) ++ rest
  next_byte done b rest e = e ∙ sym (append_assoc done (b ∷ []) rest)

  -- All data after one procedure byte.
  says_data : s.style ≡ Whole → (done : List ℕ) (b : ℕ) (xs : List ℕ) → body ≡ done ++ (b ∷ xs)
      → Says app s body x (ends (due_at w (suc (length xs)) (Sending (suc (length xs)))) (takes done []) staged) (from_terminal (b ∷ xs))
      (ends (due_at w 0 Procedure) (runs_inward app s x w.header body) staged)
  says_data st done b [] e = sends_one 1 1 done b [] 0 Procedure (runs_inward app s x w.header body) e refl refl refl (all_came done b e)
  says_data st done b (y ∷ ys) e =
      says_then app s body
      (sends_one (suc (suc (length ys))) (suc (suc (length ys))) done b (y ∷ ys) (suc (length ys)) (Sending (suc (length ys))) (takes (done ++ (b ∷ [])) []) e refl
      (less_one (suc (length ys))) (sending_more (length ys))
      (more_to_come done b y ys e ∙ ap (λ (t : Style). takes (done ++ (b ∷ [])) (asks_next app s t w.header.ins)) st))
      (says_data st (done ++ (b ∷ [])) y ys (next_byte done b (y ∷ ys) e))

  abbrev MovesOne : Phase → Type 0
  MovesOne p = (n : ℕ) → procedure_byte (due_at w (suc n) Procedure) (mover s.style w.header.ins) ≡ Next (due_at w (suc n) p)

  asks : (done : List ℕ) (n : ℕ) (p : Phase)
      → procedure_byte (due_at w (suc n) Procedure) (mover s.style w.header.ins) ≡ Next (due_at w (suc n) p)
      → Says app s body x (ends (due_at w (suc n) Procedure) (takes done (procedure s (mover s.style w.header.ins))) staged) (from_card (procedure s (mover s.style w.header.ins)))
      (ends (due_at w (suc n) p) (takes done []) staged)
  asks done n p e =
      says_from app s body (ap (λ (l : List ℕ). ends (due_at w (suc n) Procedure) (takes done l) staged) (sym (append-nil (procedure s (mover s.style w.header.ins)))))
      (says_procedure app s body x nothing (taking w.header (length body) done) staged (due_at w (suc n) Procedure) (due_at w (suc n) p) (mover s.style w.header.ins) [] e)

  -- One byte after each procedure byte.
  says_data_one_by_one : s.style ≡ Bytewise → MovesOne (Sending 1) → (done : List ℕ) (b : ℕ) (xs : List ℕ) → body ≡ done ++ (b ∷ xs)
      → Says app s body x (ends (due_at w (suc (length xs)) Procedure) (takes done (procedure s (mover s.style w.header.ins))) staged) (one_by_one_in s w.header.ins (b ∷ xs))
      (ends (due_at w 0 Procedure) (runs_inward app s x w.header body) staged)
  says_data_one_by_one st moves done b [] e =
      says_then app s body (asks done 0 (Sending 1) (moves 0))
      (sends_one 1 1 done b [] 0 Procedure (runs_inward app s x w.header body) e refl refl refl (all_came done b e))
  says_data_one_by_one st moves done b (y ∷ ys) e =
      says_then app s body (asks done (suc (length ys)) (Sending 1) (moves (suc (length ys))))
      (says_then app s body
      (sends_one (suc (suc (length ys))) 1 done b (y ∷ ys) (suc (length ys)) Procedure (takes (done ++ (b ∷ [])) (procedure s (mover s.style w.header.ins))) e refl
      (less_one (suc (length ys))) refl
      (more_to_come done b y ys e ∙ ap (λ (t : Style). takes (done ++ (b ∷ [])) (asks_next app s t w.header.ins)) st))
      (says_data_one_by_one st moves (done ++ (b ∷ [])) y ys (next_byte done b (y ∷ ys) e)))

  module _ (free : Free w.header.ins) (inwards : (n : ℕ) → moving w.kind n ≡ Sending n) where
    sends_all : s.style ≡ Whole → (n : ℕ)
        → procedure_byte (due_at w (suc n) Procedure) (mover s.style w.header.ins) ≡ Next (due_at w (suc n) (Sending (suc n)))
    sends_all e n =
        ap (λ (t : Style). procedure_byte (due_at w (suc n) Procedure) (mover t w.header.ins)) e
        ∙ moves_all w n free ∙ ap (λ (p : Phase). Next (due_at w (suc n) p)) (inwards (suc n))

    sends_next : s.style ≡ Bytewise → MovesOne (Sending 1)
    sends_next e n =
        ap (λ (t : Style). procedure_byte (due_at w (suc n) Procedure) (mover t w.header.ins)) e
        ∙ moves_one w n free ∙ ap (λ (p : Phase). Next (due_at w (suc n) p)) (inwards 1)

    abbrev MovesIn : ℕ → List Word → Type 0
    MovesIn due ws =
        Says app s body x (ends (due_at w due Procedure) (takes [] (procedure s (mover s.style w.header.ins))) staged) ws
        (ends (due_at w 0 Procedure) (runs_inward app s x w.header body) staged)

    by_style : (style : Style) → s.style ≡ style → (b : ℕ) (xs : List ℕ) → body ≡ b ∷ xs → MovesIn (suc (length xs)) (moved_in s.style s w.header.ins (b ∷ xs))
    by_style Whole e b xs f =
        says_words app s body (ap (λ (y : Style). moved_in y s w.header.ins (b ∷ xs)) e)
        (says_then app s body (asks [] (length xs) (Sending (suc (length xs))) (sends_all e (length xs))) (says_data e [] b xs f))
    by_style Bytewise e b xs f =
        says_words app s body (ap (λ (y : Style). moved_in y s w.header.ins (b ∷ xs)) e)
        (says_data_one_by_one e (sends_next e) [] b xs f)

    from_first : (xs : List ℕ) → body ≡ xs → 0 < length xs → MovesIn (length xs) (moved_in s.style s w.header.ins xs)
    from_first [] e h = absurd (omega arith)
    from_first (b ∷ xs) e h = by_style s.style refl b xs e

    -- Data that the terminal moves in, in the card's style; then the command has run.
    pub says_moved_in : 0 < length body
        → Says app s body x (ends (due_at w w.total Procedure) (card_at x nothing (taking w.header (length body) []) (procedure s (mover s.style w.header.ins))) staged)
        (moved_in s.style s w.header.ins body) (ends (due_at w 0 Procedure) (runs_inward app s x w.header body) staged)
    says_moved_in h = subst (λ (n : ℕ). MovesIn n (moved_in s.style s w.header.ins body)) all (from_first body refl h)
