use Rattle.std.proofs.Common.{◌≡◌, ℕ, suc, ◌+◌, ◌-◌, ◌<◌, ◌≤◌, Ok, Err, Result, List, [], ◌++◌, sym, refl, ap, ◌∙◌, subst, append_assoc, append-nil, arith}
use Rattle.std.specs.declared.ops.ControlFlow.{ControlFlow}
use Rattle.std.specs.declared.ops.ControlFlow.TheVariants.{Continue, Break}
use Rattle.std.specs.Result.{IsErrAnd}
use Rattle.std.proofs.lemmas.Result.{err_from_is_err_and}
use Rattle.apdu.specs.Applications.{App}
use Rattle.wire.specs.Records.{Grew}
use Rattle.wire.specs.declared.record.Record.{Record}
use Rattle.wire.specs.declared.traced.Traced.{Traced}
use Rattle.wire.proofs.Growing.{grew_none, grew_then}
use Rattle.t0.specs.declared.settings.Settings.{Settings}
use Rattle.t0.specs.declared.terminal.Waiting.{Waiting}
use Rattle.t0.specs.declared.talk.Ended.{Ended}
use Rattle.t0.specs.declared.talk.Failure.{Failure}
use Rattle.t0.specs.declared.talk.Failure.TheVariants.{Broken}
use Rattle.t0.specs.Conversations.{Joined, Spoken, After, on, off, Talked, ended, broken, before, speaks, talk, most}
use Rattle.t0.specs.Talks.{Speaks, Talks, after_of, end_of}
use Rattle.t0.specs.Wired.{Wired, joined}

before_before : {S : Type 0} (cs ds : List Traced) (t : Talked S) → before cs (before ds t) ≡ before (cs ++ ds) t
before_before cs ds t =
    ap (λ (l : List Traced). record { end = t.end; card = t.card; staged = t.staged; coming = t.coming; characters = l }) (sym (append_assoc cs ds t.characters))

module _ {V : Type 0} (app : App V) (body : List ℕ) where
  -- A conversation after so many characters: what crossed, and what the whole comes to from where the ends are now.
  pub record SoFar (full : Talked app.State) (start now : Wired app.State) (terminal : Waiting) (staged : List ℕ) (i : ℕ) (t₀ t₁ : Record Traced) : Type 0 where
    pub characters : List Traced
    pub grew : Grew t₀ t₁ characters
    pub settings : now.settings ≡ start.settings
    pub rest : full ≡ before characters (talk app start.settings body (most - i) (joined terminal now staged))

  -- Before the first.
  pub begins : (start : Wired app.State) (terminal : Waiting) (staged : List ℕ) (t : Record Traced)
      → SoFar (talk app start.settings body most (joined terminal start staged)) start start terminal staged 0 t t
  begins start terminal staged t = record { characters = []; grew = grew_none t; settings = refl; rest = refl }

  -- One character more, by what it came to.
  by_after : Settings → ℕ → List Traced → After app.State → Talked app.State
  by_after s n cs (on i) = before cs (talk app s body n i)
  by_after s n cs (off t) = before cs t

  talk_more : (s : Settings) (n : ℕ) (j : Joined app.State) → talk app s body (suc n) j ≡ by_after s n (speaks app s body j).characters (speaks app s body j).after
  unfolding talk by_after
  talk_more s n j = which (speaks app s body j).after
    where
      which : (a : After app.State) →
          (elim a [ on i ↦ before (speaks app s body j).characters (talk app s body n i) | off t ↦ before (speaks app s body j).characters t ])
          ≡ by_after s n (speaks app s body j).characters a
      which (on i) = refl
      which (off t) = refl

  talk_none : (s : Settings) (j : Joined app.State) → talk app s body 0 j ≡ ended broken j
  unfolding talk
  talk_none s j = refl

  module _ (full : Talked app.State) (start now : Wired app.State) (terminal : Waiting) (staged : List ℕ) (i : ℕ) (t₀ t₁ : Record Traced)
      (so_far : SoFar full start now terminal staged i t₀ t₁) where
    module _ (t₂ : Record Traced) (next : Wired app.State) (left : List ℕ) (small : i < most) where
      abbrev said : Settings → Spoken app.State
      said s = speaks app s body (joined terminal now staged)

      spoke_as : (r : Result (ControlFlow Ended Waiting) Failure) → Speaks (said now.settings) r now next left t₁ t₂ → Speaks (said start.settings) r now next left t₁ t₂
      spoke_as r k = subst (λ (s : Settings). Speaks (said s) r now next left t₁ t₂) so_far.settings k

      unrolled : (a : After app.State) → a ≡ (said start.settings).after → full ≡ before so_far.characters (by_after start.settings (most - (i + 1)) (said start.settings).characters a)
      unrolled a e =
          so_far.rest ∙ ap (before so_far.characters) (ap (λ (n : ℕ). talk app start.settings body n (joined terminal now staged)) (let z : most - i ≡ suc (most - (i + 1)) = omega arith in z)
          ∙ talk_more start.settings (most - (i + 1)) (joined terminal now staged) ∙ ap (by_after start.settings (most - (i + 1)) (said start.settings).characters) (sym e))

      -- The conversation goes on.
      pub goes_on : (r : ControlFlow Ended Waiting) (v : Waiting) → r ≡ Continue v → Speaks (said now.settings) (Ok r) now next left t₁ t₂ → SoFar full start next v left (i + 1) t₀ t₂
      unfolding by_after
      goes_on r v is h =
          let k = spoke_as (Ok (Continue v)) (subst (λ (x : ControlFlow Ended Waiting). Speaks (said now.settings) (Ok x) now next left t₁ t₂) is h) in
          record {
            characters = so_far.characters ++ (said start.settings).characters;
            grew = grew_then so_far.grew k.trace;
            settings = k.settings ∙ so_far.settings;
            rest = unrolled (on (joined v next left)) k.goes ∙ before_before so_far.characters (said start.settings).characters (talk app start.settings body (most - (i + 1)) (joined v next left));
          }

      off_so : (r : Result (ControlFlow Ended Waiting) Failure) (e : Result Ended Failure)
          → after_of r next left ≡ off (record { end = end_of e; card = next.card; staged = left; coming = next.coming; characters = [] })
          → Speaks (said now.settings) r now next left t₁ t₂ → Talks full e start next left t₀ t₂
      unfolding by_after
      off_so r e is h =
          let k = spoke_as r h in
          let last : Talked app.State = record { end = end_of e; card = next.card; staged = left; coming = next.coming; characters = [] } in
          let so : full ≡ before (so_far.characters ++ (said start.settings).characters) last =
          unrolled (off last) (sym is ∙ k.goes) ∙ before_before so_far.characters (said start.settings).characters last in
          subst (λ (t : Talked app.State). Talks t e start next left t₀ t₂) (sym so)
          (record {
            end = refl;
            card = refl;
            staged = refl;
            line = refl;
            settings = k.settings ∙ so_far.settings;
            trace = subst (λ (l : List Traced). Grew t₀ t₂ l) (sym (append-nil (so_far.characters ++ (said start.settings).characters))) (grew_then so_far.grew k.trace);
          })

      -- It ends.
      pub breaks : (r : ControlFlow Ended Waiting) (e : Ended) → r ≡ Break e → Speaks (said now.settings) (Ok r) now next left t₁ t₂ → Talks full (Ok e) start next left t₀ t₂
      breaks r e is = off_so (Ok r) (Ok e) (ap (λ (x : ControlFlow Ended Waiting). after_of (Ok x) next left) is)

      -- It fails.
      pub fails : (e : Failure) (r : Result Ended Failure) → IsErrAnd r (λ f. f ≡ e) → Speaks (said now.settings) (Err e) now next left t₁ t₂ → Talks full r start next left t₀ t₂
      fails e r is h =
          let p = err_from_is_err_and r is in
          subst (λ (x : Result Ended Failure). Talks full x start next left t₀ t₂) (ap (λ (f : Failure). Err f) (sym p.2) ∙ sym p.1) (off_so (Err e) (Err e) refl h)

    -- No character is left.
    pub runs_out : most ≤ i → Talks full (Err Broken) start now staged t₀ t₁
    runs_out long =
        let j = joined terminal now staged in
        let so : full ≡ before so_far.characters (ended broken j) =
        so_far.rest ∙ ap (before so_far.characters) (ap (λ (n : ℕ). talk app start.settings body n j) (let z : most - i ≡ 0 = omega arith in z) ∙ talk_none start.settings j) in
        subst (λ (t : Talked app.State). Talks t (Err Broken) start now staged t₀ t₁) (sym so)
        (record {
          end = refl;
          card = refl;
          staged = refl;
          line = refl;
          settings = so_far.settings;
          trace = subst (λ (l : List Traced). Grew t₀ t₁ l) (sym (append-nil so_far.characters)) so_far.grew;
        })
