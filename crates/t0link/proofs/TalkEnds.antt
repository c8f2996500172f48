use Rattle.std.proofs.Common.{◌≡◌, ℕ, true, false, eqb, List, [], sym, ap, ◌∙◌, subst, append-nil}
use Rattle.std.proofs.lemmas.Bool.{cond-true, cond-false}
use Rattle.apdu.specs.Applications.{App}
use Rattle.apdu.specs.Statuses as statuses
use Rattle.apdu.specs.declared.status.Status.{Status}
use Rattle.wire.specs.Lines.{Damage}
use Rattle.wire.specs.declared.traced.Traced.{Traced}
use Rattle.t0.specs.declared.settings.Settings.{Settings}
use Rattle.t0.specs.declared.terminal.Token.{Token}
use Rattle.t0.specs.Delivery.{Delivered}
use Rattle.t0.specs.Cards.{Card}
use Rattle.t0.specs.Terminals.{fetches}
use Rattle.t0.specs.Conversations.{End, done, held, Talked, before, talk, then_fetch}
use Rattle.t0link.proofs.TalkOver.{Loses, Over}

module _ {V : Type 0} (app : App V) (s : Settings) (body : List ℕ) where
  -- What follows a conversation that ended so.
  abbrev after_end : ℕ → End → Card app.State → List ℕ → Damage → List Traced → Talked app.State
  after_end n end c staged e cs = then_fetch app s body n (record { end = end; card = c; staged = staged; coming = e; characters = cs }) end

  over_ended : {z : app.State} (n : ℕ) (all : Delivered) (t : Talked app.State) (end : End) (c : Card app.State) (staged : List ℕ) (next : Damage → Talked app.State)
      → ((e : Damage) (cs : List Traced) → after_end n end c staged e cs ≡ before cs (next e))
      → Over z all t (λ e. record { end = end; card = c; staged = staged; coming = e; characters = [] })
      → Over z all (then_fetch app s body n t t.end) next
  over_ended {z} n all t end c staged next follows o =
      record {
        arrives = λ h. ap (λ (u : Talked app.State). then_fetch app s body n u u.end) (o.arrives h)
            ∙ ap (after_end n end c staged all.coming) (append-nil all.characters) ∙ follows all.coming all.characters;
        loses = λ h. subst (Loses z all) (sym (ap (then_fetch app s body n t) (o.loses h).end)) (o.loses h);
      }

  -- After a command that is done, nothing.
  pub over_done : {z : app.State} (n : ℕ) (all : Delivered) (t : Talked app.State) (count : ℕ) (status : Status) (c : Card app.State) (staged : List ℕ)
      → Over z all t (λ e. record { end = done count status; card = c; staged = staged; coming = e; characters = [] })
      → Over z all (then_fetch app s body n t t.end) (λ e. record { end = done count status; card = c; staged = staged; coming = e; characters = [] })
  over_done n all t count status c staged o =
      over_ended n all t (done count status) c staged (λ e. record { end = done count status; card = c; staged = staged; coming = e; characters = [] })
      (λ e cs. ap (λ (x : List Traced). record { end = done count status; card = c; staged = staged; coming = e; characters = x }) (sym (append-nil cs))) o

  -- With Ne 0 the held answer is discarded, and 9000 reported.
  pub over_discarded : {z : app.State} (n : ℕ) (all : Delivered) (t : Talked app.State) (token : Token) (c : Card app.State) (staged : List ℕ)
      → eqb token.ne 0 ≡ true → Over z all t (λ e. record { end = held token; card = c; staged = staged; coming = e; characters = [] })
      → Over z all (then_fetch app s body n t t.end) (λ e. record { end = done 0 statuses.done; card = c; staged = staged; coming = e; characters = [] })
  over_discarded n all t token c staged ne o =
      over_ended n all t (held token) c staged (λ e. record { end = done 0 statuses.done; card = c; staged = staged; coming = e; characters = [] })
      (λ e cs. cond-true (eqb token.ne 0) _ _ ne
      ∙ ap (λ (x : List Traced). record { end = done 0 statuses.done; card = c; staged = staged; coming = e; characters = x }) (sym (append-nil cs))) o

  -- Else it is fetched.
  pub over_fetching : {z : app.State} (n : ℕ) (all : Delivered) (t : Talked app.State) (token : Token) (c : Card app.State) (staged : List ℕ)
      → eqb token.ne 0 ≡ false → Over z all t (λ e. record { end = held token; card = c; staged = staged; coming = e; characters = [] })
      → Over z all (then_fetch app s body n t t.end) (λ e. talk app s body n (record { terminal = fetches token; card = c; staged = staged; coming = e }))
  over_fetching n all t token c staged ne o =
      over_ended n all t (held token) c staged (λ e. talk app s body n (record { terminal = fetches token; card = c; staged = staged; coming = e }))
      (λ e cs. cond-false (eqb token.ne 0) _ _ ne) o
