use Rattle.std.proofs.Common.{◌≡◌, ℕ, List, [], length, Ok, sym, ap}
use Rattle.apdu.specs.Applications.{App, does}
use Rattle.apdu.specs.Commands.{Command}
use Rattle.apdu.specs.Judging.{passes, judged}
use Rattle.apdu.specs.declared.status.Status.{Status}
use Rattle.apdu.proofs.Judging.{passes_room}
use Rattle.wire.specs.declared.record.Record.{Record}
use Rattle.wire.specs.declared.traced.Traced.{Traced}
use Rattle.wire.proofs.Growing.{grew_none}
use Rattle.link.specs.Meaning.{sent}
use Rattle.link.specs.Meant.{quiet}
use Rattle.link.specs.Results.{Answers, LinkSends}
use Rattle.link.proofs.Sending.{done_sends}

-- Over a link with no line a command that passes is done.
pub quiet_sends : {V : Type 0} (app : App V) (x z : app.State) (c : Command) (bytes buffer left : List ℕ) (r : ℕ × Status) (t : Record Traced)
    → passes c ≡ judged bytes (length buffer) → Answers app x c buffer z left r
    → LinkSends (sent app (quiet x) bytes buffer) (quiet z) left (Ok r) t t
quiet_sends app x z c bytes buffer left r t e h =
    rw (sym e) (record {
      turn = done_sends app x z c buffer left r (passes_room bytes (length buffer) (sym e)) h (quiet (does app x c).state) (quiet z) [] (ap quiet h.state);
      trace = grew_none t;
    })
