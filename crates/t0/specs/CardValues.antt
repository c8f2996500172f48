use Rattle.std.specs.Prelude.{◌≡◌, ℕ, ◌+◌, ◌-◌, ◌==◌, Option, Some, None, Bool, true, false, cond, ◌||◌, List, [], ◌∷◌, ◌++◌, length, take, drop, replicate, nat_le, nat_lt, slice_index}
use Rattle.apdu.specs.Applications.{App, Reply}
use Rattle.apdu.specs.declared.status.Status.{Status}
use Rattle.t0.specs.declared.settings.Settings.{Settings}
use Rattle.t0.specs.declared.settings.Style.{Style}
use Rattle.t0.specs.declared.settings.Style.TheVariants.{Whole, Bytewise}
use Rattle.t0.specs.declared.card.Answer.{Answer}
use Rattle.t0.specs.declared.card.Card.{Card}
use Rattle.t0.specs.declared.card.Giving.{Giving}
use Rattle.t0.specs.declared.card.Kept.{Kept}
use Rattle.t0.specs.declared.card.Kept.TheVariants as kept
use Rattle.t0.specs.declared.card.Out.{Out}
use Rattle.t0.specs.declared.card.Receiving.{Receiving}
use Rattle.t0.specs.declared.card.Receiving.TheVariants as receiving
use Rattle.t0.specs.declared.card.Then.{Then}
use Rattle.t0.specs.declared.card.Then.TheVariants.{Nothing, Ask, Announce, Give, Close, End}
use Rattle.t0.specs.Cards as cards
use Rattle.t0.specs.Cards.{says, Held, Stage, nothing, by61, by6C, heading, taking}
use Rattle.t0.specs.Procedures.{mover, one_by_one, moves_out, closes, says_status}

-- Answer bytes that move after the first of them: at once, or one by one.
abbrev pub others : Style → Settings → ℕ → List ℕ → List ℕ
others Whole s ins xs = xs
others Bytewise s ins xs = one_by_one s ins xs

-- What follows the next answer byte in memory: the others up to the last one, and the status.
abbrev pub given_rest : Settings → List ℕ → Giving → List ℕ
given_rest s answer g =
    others s.style s g.ins (drop (g.at + 1) (take (g.last + 1) answer)) ++ says_status s g.status

-- The characters after the bytes 60: none; the procedure byte that asks for data; the procedure byte of answer bytes, the next
-- answer byte and what follows it; these two without the procedure byte; SW1 and SW2; SW2.
abbrev pub characters_of : Settings → List ℕ → Then → List ℕ
characters_of s answer Nothing = []
characters_of s answer (Ask ins) = mover s.style ins ∷ []
characters_of s answer (Announce g) = mover s.style g.ins ∷ (slice_index answer g.at ∷ given_rest s answer g)
characters_of s answer (Give g) = slice_index answer g.at ∷ given_rest s answer g
characters_of s answer (Close sw1 sw2) = sw1 ∷ (sw2 ∷ [])
characters_of s answer (End sw2) = sw2 ∷ []

-- The characters that are still to be sent: so many bytes 60 and those.
abbrev pub pending_of : Settings → List ℕ → Out → List ℕ
pending_of s answer out = replicate out.waits 0x60 ++ characters_of s answer out.then

-- Whether any character follows the bytes 60.
abbrev pub is_some : Then → Bool
is_some Nothing = false
is_some (Ask ins) = true
is_some (Announce g) = true
is_some (Give g) = true
is_some (Close sw1 sw2) = true
is_some (End sw2) = true

-- Whether any character is still to be sent.
abbrev pub has_some : Out → Bool
has_some out = nat_lt 0 out.waits || is_some out.then

-- An answer that lies in memory: the bytes from the first place up to the last one, and the status.
abbrev pub answer_of : List ℕ → Answer → Reply
answer_of memory a = record { answer = take (a.last + 1) memory; status = a.status }

-- The answer of an application that wrote so many bytes: none for no byte.
abbrev pub written : ℕ → Status → Option Answer
written n status = cond (n == 0) None (Some (record { last = n - 1; status = status }))

-- What is held, where answers lie in memory.
abbrev pub held_of : List ℕ → Kept → Held
held_of memory kept.Nothing = nothing
held_of memory (kept.By61 a) = by61 (answer_of memory a)
held_of memory (kept.By6C h a) = by6C h (answer_of memory a)

-- What is being received, where the data so far open the memory.
abbrev pub stage_of : List ℕ → Receiving → Stage
stage_of memory receiving.Nothing = heading []
stage_of memory (receiving.Cla cla) = heading (cla ∷ [])
stage_of memory (receiving.ClaIns cla ins) = heading (cla ∷ (ins ∷ []))
stage_of memory (receiving.ClaInsP1 cla ins p1) = heading (cla ∷ (ins ∷ (p1 ∷ [])))
stage_of memory (receiving.Header h) = heading (h.cla ∷ (h.ins ∷ (h.p1 ∷ (h.p2 ∷ []))))
stage_of memory (receiving.Data t) = taking t.header t.lc (take t.have memory)

-- The card that a value of the code means.
abbrev pub meant : {V : Type 0} (app : App V) → Card V → cards.Card app.State
meant app c = record {
  state = app.state c.app;
  held = held_of c.answer c.kept;
  stage = stage_of c.body c.receiving;
  pending = pending_of c.settings c.answer c.out;
}

-- The card becomes what this step makes of it, under its settings, which stay.
pub record Becomes {V : Type 0} (app : App V) (old new : Card V) (step : Settings → cards.Card app.State → cards.Card app.State) : Type 0 where
  pub card : meant app new ≡ step old.settings (meant app old)
  pub settings : new.settings ≡ old.settings

-- So many bytes are wanted of an answer: with as many or more, that many and the status, and nothing is held; else 6C and the
-- count, and this is held.
abbrev pub served : {S : Type 0} → Settings → S → ℕ → ℕ → Reply → Held → cards.Card S
served s x ins n r held =
    cond (nat_le n (length r.answer))
    (says x nothing (moves_out s ins (take n r.answer) ++ says_status s r.status))
    (says x held (closes s 0x6C (length r.answer)))
