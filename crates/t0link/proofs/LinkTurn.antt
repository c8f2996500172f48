use Rattle.std.proofs.Common.{◌≡◌, ℕ, ◌-◌, ◌≤◌, Bool, true, false, ◌||◌, List, ◌++◌, length, take, drop, replicate, Ok, Err, Result, sym, refl, ap, ◌∙◌, subst, arith, length-take}
use Rattle.std.specs.Result.{IsErrAnd}
use Rattle.std.proofs.lemmas.Result.{err_from_is_err_and}
use Rattle.apdu.specs.Applications.{App, Outcome, ShortAnswers, LawfulAnswers, does}
use Rattle.apdu.specs.Commands.{Command}
use Rattle.apdu.specs.Judging.{passes, judged}
use Rattle.apdu.specs.declared.refusal.Refusal.{Refusal}
use Rattle.apdu.specs.declared.status.Status.{Status}
use Rattle.apdu.proofs.Judging.{passes_room}
use Rattle.wire.specs.Lines.{Damage}
use Rattle.wire.specs.Records.{Grew}
use Rattle.wire.specs.declared.record.Record.{Record}
use Rattle.wire.specs.declared.traced.Traced.{Traced}
use Rattle.link.specs.Meaning.{Linked, sent}
use Rattle.link.specs.Results.{LinkSends}
use Rattle.t0.specs.declared.settings.Settings.{Settings}
use Rattle.t0.specs.declared.talk.Failure.{Failure}
use Rattle.t0.specs.declared.talk.Failure.TheVariants.{Lost}
use Rattle.t0.specs.declared.talk.WiredCard.{WiredCard}
use Rattle.t0.specs.CardValues.{held_of}
use Rattle.t0.specs.Cards.{Card}
use Rattle.t0.specs.Conversations.{Talked, converse, most}
use Rattle.t0.specs.Delivery.{Delivered, deliver}
use Rattle.t0.specs.Dialogues.{dialogue, whole}
use Rattle.t0.specs.Talks.{Converses, settled, refusal_of}
use Rattle.t0.specs.Terminals.{sends}
use Rattle.t0.specs.Wired.{wired_of, joined}
use Rattle.t0link.specs.Laws.{ComesTo}
use Rattle.t0link.specs.Links.{linked_by}
use Rattle.t0link.specs.Resting.{resting}
use Rattle.t0link.proofs.LinkSending.{done_so, lost_so, staged_out}
use Rattle.t0link.proofs.Rests.{rests_so, so_rests}
use Rattle.t0link.proofs.TalkLaw.{conversation}
use Rattle.t0link.proofs.TalkPassing.{passing}

same_done : (n m : ℕ) (s t : Status) → ◌≡◌ {A = Result (ℕ × Status) Failure} (Ok (n, s)) (Ok (m, t)) → (n ≡ m) × (s ≡ t)
same_done n m s t e = let p : ◌≡◌ {A = ℕ × Status} (n, s) (m, t) = cc in (ap (λ (x : ℕ × Status). x.0) p, ap (λ (x : ℕ × Status). x.1) p)

same_failure : (e f : Failure) → ◌≡◌ {A = Result (ℕ × Status) Failure} (Err e) (Err f) → e ≡ f
same_failure e f q = cc

not_done : {X : Type 0} (p : ℕ × Status) (e : Failure) → ◌≡◌ {A = Result (ℕ × Status) Failure} (Ok p) (Err e) → X
not_done p e q = absurd (let z : ◌≡◌ {A = ℕ} 0 1 = cc in omega arith)

module _ {V M : Type 0} (app : App V) (damage : M → Damage) where
  -- What a link of these parts means.
  abbrev pub means : WiredCard V M → Bool → Linked app.State
  means w lost = linked_by w.card.settings (damage w.line) (app.state w.card.app) lost

  -- The conversation of a command that passes, with the answer bytes in a memory of zeros.
  abbrev pub talked : WiredCard V M → Command → Talked app.State
  talked w c = converse app w.card.settings c.body most (joined (sends c) (wired_of app damage w) (replicate 256 0))

  -- A turn that passes 1 to 4, on a link that was not lost, and what its conversation came to.
  pub record Turn (w after : WiredCard V M) (lost : Bool) (bytes buffer staged : List ℕ) (c : Command) (r : Result (ℕ × Status) Failure) (t u : Record Traced) : Type 0 where
    pub short : ShortAnswers app
    pub lawful : LawfulAnswers app
    pub pass : passes c ≡ judged bytes (length buffer)
    pub stood : lost ≡ false
    pub rests : (lost || resting w.card) ≡ true
    pub went : Converses (talked w c) r (wired_of app damage w) (wired_of app damage after) staged t u

  module _ (w after : WiredCard V M) (lost : Bool) (bytes buffer staged : List ℕ) (c : Command) (t u : Record Traced) where
    abbrev s : Settings
    s = w.card.settings

    abbrev d : Damage
    d = damage w.line

    abbrev x : app.State
    x = app.state w.card.app

    abbrev o : Outcome app.State
    o = does app x c

    abbrev part : List ℕ
    part = take c.ne o.reply.answer

    abbrev all : Delivered
    all = deliver d (whole (dialogue s c o.reply))

    module _ {r : Result (ℕ × Status) Failure} (turn : Turn w after lost bytes buffer staged c r t u) where
      few : length c.body ≤ 255
      few = (passing bytes (length buffer) (sym turn.pass)).shape.short

      answer_few : length o.reply.answer ≤ 256
      answer_few = turn.short x c.cla c.ins c.p1 c.p2 c.body few

      stands : resting w.card ≡ true
      stands = sym (ap (λ (b : Bool). b || resting w.card) turn.stood) ∙ turn.rests

      came : ComesTo c x o all (deliver d (dialogue s c o.reply).opening) (replicate 256 0) (talked w c)
      came =
          subst (λ (k : Card app.State). ComesTo c x o all (deliver d (dialogue s c o.reply).opening) (replicate 256 0) (converse app s c.body most (record { terminal = sends c; card = k; staged = replicate 256 0; coming = d })))
          (sym (rests_so app w.card stands).0)
          (conversation app s bytes (length buffer) c x (held_of w.card.answer w.card.kept) d (replicate 256 0) (sym turn.pass) (rests_so app w.card stands).1 refl answer_few (turn.lawful x c.cla c.ins c.p1 c.p2 c.body few))

    -- A conversation that was done: all arrived, and it has the bytes and the status.
    record Well (count : ℕ) (status : Status) : Type 0 where
      arrived : all.arrived ≡ true
      counts : count ≡ length part
      says : status ≡ o.reply.status

    module _ (count : ℕ) (status : Status) (turn : Turn w after lost bytes buffer staged c (Ok (count, status)) t u) where
      well : Well count status
      well = by all.arrived refl
        where
          by : (b : Bool) → all.arrived ≡ b → Well count status
          by true a = let p = same_done count (length part) status o.reply.status (turn.went.end ∙ ap settled ((came turn).done a)) in record { arrived = a; counts = p.0; says = p.1 }
          by false a = not_done (count, status) Lost (turn.went.end ∙ ap settled ((came turn).lost a))

      pub rests_again : resting after.card ≡ true
      rests_again =
          let r = (came turn).rests well.arrived in
          so_rests app after.card o.state r.0 (turn.went.card ∙ r.1.0) r.1.1

      -- The bytes fit the answer buffer, and came in the memory for them.
      pub fits : count ≤ length buffer
      fits = omega (arith, well.counts, passes_room bytes (length buffer) (sym turn.pass), length-take c.ne o.reply.answer)

      pub fits_staged : count ≤ 256
      fits_staged = omega (arith, well.counts, answer_few turn, length-take c.ne o.reply.answer)

      -- The turn is done.
      pub turn_done : (got left : List ℕ) → got ≡ take (count - 0) staged → left ≡ got ++ drop (count - 0) buffer
          → LinkSends (sent app (means w lost) bytes buffer) (means after false) left (Ok (count, status)) t u
      turn_done got left eg el =
          subst (λ (v : Bool). LinkSends (sent app (means w v) bytes buffer) (means after false) left (Ok (count, status)) t u) (sym turn.stood)
          (
          let r = (came turn).rests well.arrived in
          subst (λ (q : Settings). LinkSends (sent app (means w false) bytes buffer) (linked_by q (damage after.line) (app.state after.card.app) false) left (Ok (count, status)) t u) (sym turn.went.settings)
          (done_so app s d x bytes buffer c turn.pass (app.state after.card.app) (damage after.line) left t u count status well.arrived
          (ap (λ (q : Card app.State). q.state) (turn.went.card ∙ r.1.0)) (turn.went.line ∙ (came turn).coming) well.counts
          (el ∙ staged_out part (replicate 256 0) staged got buffer count well.counts (turn.went.staged ∙ (came turn).bytes well.arrived) eg)
          well.says (subst (λ (l : List Traced). Grew t u l) (came turn).characters turn.went.trace)))

    -- The turn fails: the line lost it, since our own ends never break the protocol.
    pub turn_failed : (e : Failure) (r : Result (ℕ × Status) Refusal) → IsErrAnd r (λ f. f ≡ refusal_of e) → Turn w after lost bytes buffer staged c (Err e) t u
        → LinkSends (sent app (means w lost) bytes buffer) (means after true) buffer r t u
    turn_failed e r is turn =
        subst (λ (v : Bool). LinkSends (sent app (means w v) bytes buffer) (means after true) buffer r t u) (sym turn.stood)
        (subst (λ (q : Settings). LinkSends (sent app (means w false) bytes buffer) (linked_by q (damage after.line) (app.state after.card.app) true) buffer r t u) (sym turn.went.settings)
        (subst (λ (q : Result (ℕ × Status) Refusal). LinkSends (sent app (means w false) bytes buffer) (linked_by s (damage after.line) (app.state after.card.app) true) buffer q t u) (sym gave)
        (lost_so app s d x bytes buffer c turn.pass (app.state after.card.app) (damage after.line) buffer t u (not_arrived all.arrived refl).0
        (λ a. ap (λ (q : Card app.State). q.state) turn.went.card ∙ (came turn).ran a) (λ a. ap (λ (q : Card app.State). q.state) turn.went.card ∙ (came turn).not_run a)
        (turn.went.line ∙ (came turn).coming) refl (subst (λ (l : List Traced). Grew t u l) (came turn).characters turn.went.trace))))
      where
        not_arrived : (b : Bool) → all.arrived ≡ b → (all.arrived ≡ false) × (e ≡ Lost)
        not_arrived true a = not_done (length part, o.reply.status) e (sym (turn.went.end ∙ ap settled ((came turn).done a)))
        not_arrived false a = (a, same_failure e Lost (turn.went.end ∙ ap settled ((came turn).lost a)))

        gave : r ≡ Err (refusal_of Lost)
        gave =
            let p = err_from_is_err_and r is in
            p.1 ∙ ap (λ (f : Refusal). Err f) (p.2 ∙ ap refusal_of (not_arrived all.arrived refl).1)
