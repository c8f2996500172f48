use Rattle.std.proofs.Common.{◌≡◌, ℕ, Bool, true, false, cond, eqb, Ok, Result, List, [], sym, refl, ap, ◌∙◌, subst, append-nil}
use Rattle.apdu.specs.Applications.{App}
use Rattle.apdu.specs.Statuses as statuses
use Rattle.apdu.specs.declared.status.Status.{Status}
use Rattle.wire.specs.declared.record.Record.{Record}
use Rattle.wire.specs.declared.traced.Traced.{Traced}
use Rattle.wire.proofs.Growing.{grew_then}
use Rattle.t0.specs.declared.settings.Settings.{Settings}
use Rattle.t0.specs.declared.terminal.Waiting.{Waiting}
use Rattle.t0.specs.declared.terminal.Holding.{Holding}
use Rattle.t0.specs.declared.terminal.Token.{Token}
use Rattle.t0.specs.declared.talk.Ended.{Ended}
use Rattle.t0.specs.declared.talk.Ended.TheVariants.{Held}
use Rattle.t0.specs.declared.talk.Failure.{Failure}
use Rattle.t0.specs.Conversations.{Talked, done, held, talk, before, then_fetch, converse, most}
use Rattle.t0.specs.Talks.{Talks, Converses, end_of}
use Rattle.t0.specs.Terminals.{fetches}
use Rattle.t0.specs.Wired.{Wired, joined, left_held}

module _ {V : Type 0} (app : App V) (s : Settings) (body : List ℕ) where
  -- A conversation that ends with an answer held is followed by what is done with it.
  fetch_before : (t : Talked app.State) (token : Token) (w : Wired app.State) → w.card ≡ t.card → w.coming ≡ t.coming
      → then_fetch app s body most t (held token) ≡ before t.characters (then_fetch app s body most (left_held token w t.staged) (held token))
  fetch_before t token w ec ed = by (eqb token.ne 0) ∙ ap (λ (x : Talked app.State). before t.characters (then_fetch app s body most x (held token))) same
    where
      from : Talked app.State
      from = talk app s body most (record { terminal = fetches token; card = t.card; staged = t.staged; coming = t.coming })

      by : (x : Bool) →
          cond x (record { end = done 0 statuses.done; card = t.card; staged = t.staged; coming = t.coming; characters = t.characters }) (before t.characters from)
          ≡ before t.characters (cond x (record { end = done 0 statuses.done; card = t.card; staged = t.staged; coming = t.coming; characters = [] }) (before [] from))
      by true = ap (λ (cs : List Traced). record { end = done 0 statuses.done; card = t.card; staged = t.staged; coming = t.coming; characters = cs }) (sym (append-nil t.characters))
      by false = refl

      same : ◌≡◌ {A = Talked app.State} (record { end = held token; card = t.card; staged = t.staged; coming = t.coming; characters = [] }) (left_held token w t.staged)
      same = cc (ec, ed)

-- So is a command's whole conversation, where the first of its conversations ends with an answer held.
pub was_held : {V : Type 0} (app : App V) (body : List ℕ) (start v : Waiting) (staged got left : List ℕ) (old middle new : Wired app.State) (e : Ended) (holding : Holding) (token : Token) (r : Result (ℕ × Status) Failure) (first between last : Record Traced)
    → start ≡ v → e ≡ Held holding token
    → Talks (talk app old.settings body most (joined start old staged)) (Ok e) old middle got first between
    → Converses (then_fetch app middle.settings body most (left_held token middle got) (held token)) r middle new left between last
    → Converses (converse app old.settings body most (joined v old staged)) r old new left first last
was_held app body start v staged got left old middle new e holding token r first between last es ee k h =
    subst (λ (x : Waiting). Converses (converse app old.settings body most (joined x old staged)) r old new left first last) es
    (subst (λ (x : Talked app.State). Converses x r old new left first last) (sym is)
    (record { end = g.end; card = g.card; staged = g.staged; line = g.line; settings = h.settings ∙ k.settings; trace = grew_then k.trace g.trace }))
  where
    t : Talked app.State
    t = talk app old.settings body most (joined start old staged)

    is : then_fetch app old.settings body most t t.end ≡ before t.characters (then_fetch app old.settings body most (left_held token middle t.staged) (held token))
    is = ap (then_fetch app old.settings body most t) (sym k.end ∙ ap (λ (x : Ended). end_of (Ok x)) ee) ∙ fetch_before app old.settings body t token middle k.card k.line

    g : Converses (then_fetch app old.settings body most (left_held token middle t.staged) (held token)) r middle new left between last
    g =
        subst (λ (l : List ℕ). Converses (then_fetch app old.settings body most (left_held token middle l) (held token)) r middle new left between last) k.staged
        (subst (λ (x : Settings). Converses (then_fetch app x body most (left_held token middle got) (held token)) r middle new left between last) k.settings h)
