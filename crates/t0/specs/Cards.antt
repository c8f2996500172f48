use Rattle.std.specs.Prelude.{ℕ, Bool, cond, ◌&&◌, List, [], ◌∷◌, ◌++◌, length, take, Some, None, Option, ◌==◌, nat_le}
use Rattle.apdu.specs.Applications.{App, Outcome, Reply}
use Rattle.apdu.specs.Commands.{wanted, reserved, inward}
use Rattle.apdu.specs.declared.header.Header.{Header}
use Rattle.t0.specs.declared.settings.Settings.{Settings}
use Rattle.t0.specs.declared.settings.Style.{Style}
use Rattle.t0.specs.declared.settings.Style.TheVariants.{Whole, Bytewise}
use Rattle.t0.specs.Procedures.{as_p3, mover, procedure, moves_out, closes, says_status}

-- What the card holds: nothing; an answer with its status after 61; or after 6C, for this header.
pub data Held : Type 0 where
  nothing : Held
  by61 : Reply → Held
  by6C : Header → Reply → Held

-- What the card is receiving: the characters of a header; or, for a header with this Lc, data.
pub data Stage : Type 0 where
  heading : List ℕ → Stage
  taking : Header → ℕ → List ℕ → Stage

-- A T=0 card: the application's state, what it holds, what it is receiving, and the characters that it will still send
-- before it receives again.
pub record Card (S : Type 0) : Type 0 where
  pub state : S
  pub held : Held
  pub stage : Stage
  pub pending : List ℕ

-- A card between commands.
abbrev pub at_rest : {S : Type 0} → S → Held → Card S
at_rest x held = record { state = x; held = held; stage = heading []; pending = [] }

-- The command is over once these characters are sent.
abbrev pub says : {S : Type 0} → S → Held → List ℕ → Card S
says x held bytes = record { state = x; held = held; stage = heading []; pending = bytes }

-- The next character that the card sends, if it has one to send, and the card then.
abbrev pub next_of : List ℕ → Option ℕ
next_of [] = None
next_of (b ∷ _) = Some b

abbrev pub rest_of : List ℕ → List ℕ
rest_of [] = []
rest_of (_ ∷ bs) = bs

abbrev pub spoken : {S : Type 0} → Card S → Card S
spoken c = record { state = c.state; held = c.held; stage = c.stage; pending = rest_of c.pending }

-- GET RESPONSE: INS C0 with P1 P2 00 00, of any CLA.
abbrev pub is_get_response : Header → Bool
is_get_response h = h.ins == 0xC0 && (h.p1 == 0 && h.p2 == 0)

abbrev pub same_header : Header → Header → Bool
same_header g h = g.cla == h.cla && (g.ins == h.ins && (g.p1 == h.p1 && g.p2 == h.p2))

-- An outward command that ran, where P3 wants so many bytes: without answer bytes the status; with as many or more, that many
-- and the status; else 6C and the count, and the answer is held for this header.
abbrev pub outward_ran : {S : Type 0} → Settings → Header → ℕ → Outcome S → Card S
outward_ran s h n o =
    cond (length o.reply.answer == 0) (says o.state nothing (says_status s o.reply.status))
    (cond (nat_le n (length o.reply.answer))
    (says o.state nothing (moves_out s h.ins (take n o.reply.answer) ++ says_status s o.reply.status))
    (says o.state (by6C h o.reply) (closes s 0x6C (length o.reply.answer))))

-- An inward command that ran: without answer bytes the status; else 61 and the count, and the answer is held.
abbrev pub inward_ran : {S : Type 0} → Settings → Outcome S → Card S
inward_ran s o =
    cond (length o.reply.answer == 0) (says o.state nothing (says_status s o.reply.status))
    (says o.state (by61 o.reply) (closes s 0x61 (as_p3 (length o.reply.answer))))

-- GET RESPONSE with what is held by 61: the bytes wanted and the held status, and the rest is dropped; for more than is held
-- 6C and the held count, and it stays held. With nothing held by 61 it gets 6985, and an answer held by 6C is dropped.
abbrev pub fetched : {S : Type 0} → Settings → S → Held → ℕ → Card S
fetched s x nothing n = says x nothing (closes s 0x69 0x85)
fetched s x (by61 r) n =
    cond (nat_le n (length r.answer))
    (says x nothing (moves_out s 0xC0 (take n r.answer) ++ says_status s r.status))
    (says x (by61 r) (closes s 0x6C (length r.answer)))
fetched s x (by6C g r) n = says x nothing (closes s 0x69 0x85)

module _ {V : Type 0} (app : App V) (s : Settings) where
  -- The application runs a command after its data, or after its header.
  abbrev pub runs_inward : app.State → Header → List ℕ → Card app.State
  runs_inward x h body = inward_ran s (app.runs x h.cla h.ins h.p1 h.p2 body)

  abbrev pub runs_outward : app.State → Header → ℕ → Card app.State
  runs_outward x h p3 = outward_ran s h (wanted p3) (app.runs x h.cla h.ins h.p1 h.p2 [])

  -- A header that nothing held answers drops what is held. A reserved one gets 6D00. An inward one with data asks for it, and
  -- without data runs, as does an outward one.
  abbrev pub begun : app.State → Header → ℕ → Card app.State
  begun x h p3 =
      cond (reserved h.cla h.ins) (says x nothing (closes s 0x6D 0x00))
      (cond (inward h.ins)
      (cond (p3 == 0) (runs_inward x h [])
      (record { state = x; held = nothing; stage = taking h p3 []; pending = procedure s (mover s.style h.ins) }))
      (runs_outward x h p3))

  -- An answer held by 6C is moved, and dropped, for the same header with P3 the held count, without a run.
  abbrev pub answered : app.State → Held → Header → ℕ → Card app.State
  answered x nothing h p3 = begun x h p3
  answered x (by61 r) h p3 = begun x h p3
  answered x (by6C g r) h p3 =
      cond (same_header g h && p3 == length r.answer)
      (says x nothing (moves_out s h.ins r.answer ++ says_status s r.status))
      (begun x h p3)

  -- A whole header.
  abbrev pub headed : app.State → Held → Header → ℕ → Card app.State
  headed x held h p3 = cond (is_get_response h) (fetched s x held (wanted p3)) (answered x held h p3)

  abbrev pub heads : Card app.State → List ℕ → Card app.State
  heads c bs = record { state = c.state; held = c.held; stage = heading bs; pending = [] }

  -- The characters of a header so far: with the fifth it is whole.
  abbrev pub header_so_far : Card app.State → List ℕ → Card app.State
  header_so_far c [] = heads c []
  header_so_far c (cla ∷ []) = heads c (cla ∷ [])
  header_so_far c (cla ∷ (ins ∷ [])) = heads c (cla ∷ (ins ∷ []))
  header_so_far c (cla ∷ (ins ∷ (p1 ∷ []))) = heads c (cla ∷ (ins ∷ (p1 ∷ [])))
  header_so_far c (cla ∷ (ins ∷ (p1 ∷ (p2 ∷ [])))) = heads c (cla ∷ (ins ∷ (p1 ∷ (p2 ∷ []))))
  header_so_far c (cla ∷ (ins ∷ (p1 ∷ (p2 ∷ (p3 ∷ _))))) =
      headed c.state c.held (record { cla = cla; ins = ins; p1 = p1; p2 = p2 }) p3

  -- Between two bytes of data the card asks for the next one where they come one by one.
  abbrev pub asks_next : Style → ℕ → List ℕ
  asks_next Whole ins = []
  asks_next Bytewise ins = procedure s (mover s.style ins)

  -- The data so far: with the last byte the command runs.
  abbrev pub data_so_far : Card app.State → Header → ℕ → List ℕ → Card app.State
  data_so_far c h lc xs =
      cond (nat_le lc (length xs)) (runs_inward c.state h xs)
      (record { state = c.state; held = c.held; stage = taking h lc xs; pending = asks_next s.style h.ins })

  abbrev pub at_stage : Card app.State → Stage → ℕ → Card app.State
  at_stage c (heading bs) b = header_so_far c (bs ++ (b ∷ []))
  at_stage c (taking h lc xs) b = data_so_far c h lc (xs ++ (b ∷ []))

  -- A character that comes while the card has some to send is ignored.
  abbrev pub by_pending : Card app.State → List ℕ → ℕ → Card app.State
  by_pending c [] b = at_stage c c.stage b
  by_pending c (_ ∷ _) b = c

  -- What the card makes of a character.
  abbrev pub received : Card app.State → ℕ → Card app.State
  received c b = by_pending c c.pending b

-- A warm reset resets the application and drops what is held and what was begun.
abbrev pub card_reset : {V : Type 0} (app : App V) → Card app.State → Card app.State
card_reset app c = at_rest (app.resets c.state) nothing
