use Rattle.std.specs.Prelude.{ℕ, zero, suc, Bool, true, false, cond, List, [], length, take, Some, None, Option}
use Rattle.apdu.specs.Commands.{Command}
use Rattle.apdu.specs.Judging.{Judged, refused, passes, judged}
use Rattle.apdu.specs.Applications.{App, Reply, does, opened}
use Rattle.link.specs.Turns.{Order, send, restart, Gave, gives, restarted, denied, Did, Call, Played, calls}

-- The direct card: the application's state, and how many turns are told to come before the loss, if one comes.
pub record Direct (S : Type 0) : Type 0 where
  pub state : S
  pub told : Option ℕ

-- Whether the loss has come.
abbrev pub over : Option ℕ → Bool
over None = false
over (Some zero) = true
over (Some (suc n)) = false

-- One turn nearer to the loss.
abbrev pub nearer : Option ℕ → Option ℕ
nearer None = None
nearer (Some zero) = Some zero
nearer (Some (suc n)) = Some n

-- A turn that leaves this state, gave this and left its buffer so. No character crosses.
abbrev pub settled : {S : Type 0} → Direct S → S → Gave → List ℕ → Did (Direct S)
settled d x g buffer = record { after = record { state = x; told = nearer d.told }; gave = g; buffer = buffer; characters = [] }

-- What a command that was done gave: the first Ne answer bytes, or all if fewer, and the status.
abbrev pub given : Command → Reply → Gave
given c r = gives (take c.ne r.answer) r.status

-- Refusals 1 to 4 refuse a command; from the loss on it gives 5 and changes nothing; else the application runs once, and the
-- first Ne answer bytes open the answer buffer, whose rest stays.
abbrev pub direct_send : {V : Type 0} (app : App V) → Direct app.State → List ℕ → Judged → Did (Direct app.State)
direct_send app d buffer (refused n) = settled d d.state (denied n) buffer
direct_send app d buffer (passes c) =
    let o = does app d.state c in
    cond (over d.told) (settled d d.state (denied 5) buffer)
    (settled d o.state (given c o.reply) (opened (take c.ne o.reply.answer) buffer))

-- A reset resets the application; from the loss on it gives 5 and changes nothing.
abbrev pub direct_reset : {V : Type 0} (app : App V) → Direct app.State → List ℕ → Did (Direct app.State)
direct_reset app d buffer =
    cond (over d.told) (settled d d.state (denied 5) buffer) (settled d (app.resets d.state) restarted buffer)

-- One turn at the direct card.
abbrev pub directly : {V : Type 0} (app : App V) → Direct app.State → Order → List ℕ → Did (Direct app.State)
directly app d (send bytes) buffer = direct_send app d buffer (judged bytes (length buffer))
directly app d restart buffer = direct_reset app d buffer

-- Calls at the direct card that begins with the state x and is told the turn of the loss, if any.
abbrev pub direct : {V : Type 0} (app : App V) → app.State → Option ℕ → List Call → Played (Direct app.State)
direct app x told cs = calls (directly app) (record { state = x; told = told }) cs
