use Rattle.std.specs.Prelude.{◌≡◌, ℕ, Ok, Err, Result, List, [], slice_set}
use Rattle.std.specs.declared.ops.ControlFlow.{ControlFlow}
use Rattle.std.specs.declared.ops.ControlFlow.TheVariants.{Continue, Break}
use Rattle.apdu.specs.declared.refusal.Refusal.{Refusal}
use Rattle.apdu.specs.declared.refusal.Refusal.TheVariants as refusal
use Rattle.apdu.specs.declared.status.Status.{Status}
use Rattle.wire.specs.Records.{Grew}
use Rattle.wire.specs.declared.record.Record.{Record}
use Rattle.wire.specs.declared.traced.Traced.{Traced}
use Rattle.t0.specs.Conversations.{End, done, held, broken, lost, Talked, After, on, off, Spoken}
use Rattle.t0.specs.Wired.{Wired, joined}
use Rattle.t0.specs.declared.talk.Ended.{Ended}
use Rattle.t0.specs.declared.talk.Ended.TheVariants.{Done, Held}
use Rattle.t0.specs.declared.talk.Failure.{Failure}
use Rattle.t0.specs.declared.talk.Failure.TheVariants.{Broken, Lost}
use Rattle.t0.specs.declared.terminal.Step.{Step}
use Rattle.t0.specs.declared.terminal.Step.TheVariants.{Next, Keep}
use Rattle.t0.specs.declared.terminal.Step.TheVariants as step
use Rattle.t0.specs.declared.terminal.Waiting.{Waiting}

-- The refusal of a turn that fails: the sixth where the protocol is broken, the fifth where the line lost it.
abbrev pub refusal_of : Failure → Refusal
refusal_of Broken = refusal.Protocol
refusal_of Lost = refusal.Lost

-- How the code says that a conversation ended.
abbrev pub end_of : Result Ended Failure → End
end_of (Ok (Done count status)) = done count status
end_of (Ok (Held _ token)) = held token
end_of (Err Broken) = broken
end_of (Err Lost) = lost

-- What a step of the terminal comes to: the conversation goes on, ends or fails.
abbrev pub spoke_of : Step → Result (ControlFlow Ended Waiting) Failure
spoke_of (Next w) = Ok (Continue w)
spoke_of (Keep w i) = Ok (Continue w)
spoke_of (step.Done _ count status) = Ok (Break (Done count status))
spoke_of (step.Held holding token) = Ok (Break (Held holding token))
spoke_of step.Broken = Err Broken

-- The answer bytes after a step: a byte of the answer goes to its place.
abbrev pub kept_in : Step → ℕ → List ℕ → List ℕ
kept_in (Next w) b staged = staged
kept_in (Keep w i) b staged = slice_set staged i b
kept_in (step.Done _ count status) b staged = staged
kept_in (step.Held holding token) b staged = staged
kept_in step.Broken b staged = staged

-- What one character came to, with the ends and the line as they then are.
abbrev pub after_of : {S : Type 0} → Result (ControlFlow Ended Waiting) Failure → Wired S → List ℕ → After S
after_of (Ok (Continue terminal)) w staged = on (joined terminal w staged)
after_of (Ok (Break e)) w staged = off (record { end = end_of (Ok e); card = w.card; staged = staged; coming = w.coming; characters = [] })
after_of (Err e) w staged = off (record { end = end_of (Err e); card = w.card; staged = staged; coming = w.coming; characters = [] })

-- One character between the ends went as `k` says; the card's settings stay.
pub record Speaks {S : Type 0} (k : Spoken S) (r : Result (ControlFlow Ended Waiting) Failure) (old new : Wired S) (left : List ℕ) (before after : Record Traced) : Type 0 where
  pub goes : after_of r new left ≡ k.after
  pub settings : new.settings ≡ old.settings
  pub trace : Grew before after k.characters

-- A conversation went as `t` says; the card's settings stay.
pub record Talks {S : Type 0} (t : Talked S) (r : Result Ended Failure) (old new : Wired S) (left : List ℕ) (before after : Record Traced) : Type 0 where
  pub end : end_of r ≡ t.end
  pub card : new.card ≡ t.card
  pub staged : left ≡ t.staged
  pub line : new.coming ≡ t.coming
  pub settings : new.settings ≡ old.settings
  pub trace : Grew before after t.characters

-- How a command is settled by the end of its conversation: an answer that is still held breaks the protocol.
abbrev pub settled : End → Result (ℕ × Status) Failure
settled (done count status) = Ok (count, status)
settled (held token) = Err Broken
settled broken = Err Broken
settled lost = Err Lost

-- A command's whole conversation went as `t` says; the card's settings stay.
pub record Converses {S : Type 0} (t : Talked S) (r : Result (ℕ × Status) Failure) (old new : Wired S) (left : List ℕ) (before after : Record Traced) : Type 0 where
  pub end : r ≡ settled t.end
  pub card : new.card ≡ t.card
  pub staged : left ≡ t.staged
  pub line : new.coming ≡ t.coming
  pub settings : new.settings ≡ old.settings
  pub trace : Grew before after t.characters
