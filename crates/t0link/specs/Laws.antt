use Rattle.std.specs.Prelude.{◌≡◌, ℕ, ◌≤◌, true, false, List, length, take}
use Rattle.apdu.specs.Applications.{App, Outcome, CarriesData, does, opened}
use Rattle.apdu.specs.Commands.{Command}
use Rattle.apdu.specs.Judging.{judged, passes}
use Rattle.wire.specs.Lines.{Damage}
use Rattle.t0.specs.declared.settings.Settings.{Settings}
use Rattle.t0.specs.Dialogues.{dialogue, whole}
use Rattle.t0.specs.Delivery.{Delivered, deliver}
use Rattle.t0.specs.Cards.{Held, nothing, by61, by6C, at_rest}
use Rattle.t0.specs.Terminals.{sends}
use Rattle.t0.specs.Conversations.{Joined, Talked, End, done, lost, converse, most}

-- Between commands the card holds nothing, or an answer that the terminal discarded after 61; never one by 6C.
abbrev pub Between : Held → Type 0
Between nothing = Unit {0}
Between (by61 r) = Unit {0}
Between (by6C h r) = ⊥

-- What the conversation of a command comes to, where `all` is its dialogue as the line delivers it, `opening` the part until
-- the application runs, and `o` what the run gives. The characters that cross are those of `all`. Where all arrive, the
-- command is done with the first Ne answer bytes and the status, the bytes stand in their places, and the card rests with
-- the new state. Where not all arrive, the link is lost, and the application has run exactly if the opening arrived.
pub record ComesTo {S : Type 0} (c : Command) (x : S) (o : Outcome S) (all opening : Delivered) (staged : List ℕ) (t : Talked S) : Type 0 where
  pub characters : t.characters ≡ all.characters
  pub coming : t.coming ≡ all.coming
  pub done : all.arrived ≡ true → t.end ≡ Rattle.t0.specs.Conversations.done (length (take c.ne o.reply.answer)) o.reply.status
  pub bytes : all.arrived ≡ true → t.staged ≡ opened (take c.ne o.reply.answer) staged
  pub rests : all.arrived ≡ true → (h : Held) × ((t.card ≡ at_rest o.state h) × Between h)
  pub lost : all.arrived ≡ false → t.end ≡ Rattle.t0.specs.Conversations.lost
  pub ran : opening.arrived ≡ true → t.card.state ≡ o.state
  pub not_run : opening.arrived ≡ false → t.card.state ≡ x

-- The joined ends exchange exactly the dialogue as the line delivers it, for every application, settings, command that passes
-- the refusals, state, damage and memory for the answer.
abbrev pub ConversationLaw : {V : Type 0} → App V → Type 0
ConversationLaw app = (s : Settings) (bytes : List ℕ) (room : ℕ) (c : Command) (x : app.State) (h : Held) (d : Damage) (staged : List ℕ)
    → judged bytes room ≡ passes c → Between h → length staged ≡ 256
    → length (does app x c).reply.answer ≤ 256 → CarriesData (does app x c).reply
    → let o = does app x c in
    ComesTo c x o (deliver d (whole (dialogue s c o.reply))) (deliver d (dialogue s c o.reply).opening) staged
    (converse app s c.body most (record { terminal = sends c; card = at_rest x h; staged = staged; coming = d }))
