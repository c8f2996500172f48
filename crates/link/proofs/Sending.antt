use Rattle.std.proofs.Common.{◌≡◌, ℕ, ◌≤◌, false, List, [], length, take, drop, Ok, Option, sym, refl, ap, ◌∙◌, arith, take_at}
use Rattle.apdu.specs.Applications.{App, opened, does}
use Rattle.apdu.specs.Commands.{Command}
use Rattle.apdu.specs.Judging.{passes, judged}
use Rattle.apdu.specs.declared.status.Status.{Status}
use Rattle.apdu.proofs.Judging.{passes_room}
use Rattle.wire.specs.declared.traced.Traced.{Traced}
use Rattle.link.specs.Direct.{Direct, directly, nearer, over, given}
use Rattle.link.specs.Results.{Answers, Sends, wanted_of}
use Rattle.link.specs.Turns.{gives, send}

-- A command that was done, where its answer fits: what an application's run did is what the turn left.
pub done_sends : {V : Type 0} (app : App V) (x z : app.State) (c : Command) (buffer left : List ℕ) (r : ℕ × Status)
    → c.ne ≤ length buffer → Answers app x c buffer z left r
    → {M : Type 0} (m n : M) (cs : List Traced) → n ≡ m
    → Sends (record { after = m; gave = given c (does app x c).reply; buffer = opened (take c.ne (does app x c).reply.answer) buffer; characters = cs }) n left (Ok r)
done_sends app x z c buffer left r room h {M} m n cs e =
    record {
      after = e;
      wrote = wrote;
      gave = ap (λ (k : ℕ). gives (take k left) r.1) count ∙ ap (λ (l : List ℕ). gives (take (length part) l) r.1) wrote
          ∙ ap (λ (l : List ℕ). gives l r.1) (take_at part (drop (length part) buffer) (length part) refl)
          ∙ ap (λ (t : Status). gives part t) h.status;
      count = count;
    }
  where
    part : List ℕ
    part = take c.ne (does app x c).reply.answer

    all : wanted_of c (length buffer) (does app x c).reply.answer ≡ part
    all = ap (λ (k : ℕ). take k (does app x c).reply.answer) (omega arith)

    wrote : left ≡ opened part buffer
    wrote = h.wrote ∙ ap (λ (l : List ℕ). opened l buffer) all

    count : r.0 ≡ length part
    count = h.count ∙ ap length all

-- At the direct card, where no loss has come.
pub direct_sends : {V : Type 0} (app : App V) (d : Direct app.State) (c : Command) (x z : app.State) (told : Option ℕ) (bytes buffer left : List ℕ) (r : ℕ × Status)
    → passes c ≡ judged bytes (length buffer) → over d.told ≡ false → x ≡ d.state → told ≡ nearer d.told → Answers app x c buffer z left r
    → Sends (directly app d (send bytes) buffer) (record { state = z; told = told }) left (Ok r)
direct_sends app d c x z told bytes buffer left r ej eo ex et h =
    let room : c.ne ≤ length buffer = passes_room bytes (length buffer) (sym ej) in
    let known : Answers app d.state c buffer z left r = rw (sym ex) h in
    let after : Direct app.State = record { state = (does app d.state c).state; told = nearer d.told } in
    let same : record { state = z; told = told } ≡ after = cc (known.state, et) in
    rw (sym ej) (rw eo (done_sends app d.state z c buffer left r room known after (record { state = z; told = told }) [] same))
