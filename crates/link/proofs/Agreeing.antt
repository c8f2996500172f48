use Rattle.std.proofs.Common.{◌≡◌, Bool, List, [], ◌∷◌, sym, refl, ap, ◌∙◌, subst}
use Rattle.apdu.specs.Applications.{App}
use Rattle.link.specs.Direct.{direct}
use Rattle.link.specs.Laws.{loss, AsDirect, DirectLaw, AgreesExactly, Agreement}
use Rattle.link.specs.Meaning.{Linked, Asked, Crossing, played}
use Rattle.link.specs.Turns.{Gave, Entry, Went, Call, gaves, journal, turn_of_loss}
use Rattle.link.proofs.Goes.{standing, card_at}
use Rattle.link.proofs.Beside.{stand, plays, same_journal, same_answers}
use Rattle.link.proofs.States.{held}

entry_gaves : List Entry → List Gave
entry_gaves [] = []
entry_gaves (e ∷ es) = e.gave ∷ entry_gaves es

of_journal : {M : Type 0} (ws : List (Went M)) → gaves ws ≡ entry_gaves (journal ws)
unfolding entry_gaves
of_journal [] = refl
of_journal (w ∷ ws) = ap (λ (k : List Gave). w.did.gave ∷ k) (of_journal ws)

module _ {V : Type 0} (app : App V) where
  abbrev S : Type 0
  S = app.State

  as_direct : (x : S) (c : List Asked → List Crossing) (cs : List Call) → AsDirect app (standing x c) cs
  as_direct x c cs =
      let t = loss (played app (standing x c) cs) in
      let k = plays app cs (standing x c) (card_at x t) (stand x c t (gaves (played app (standing x c) cs).turns) refl) in
      record {
        same = record { entries = same_journal app k.along; buffers = same_answers app k.along; spaces = k.space };
        state = held app x c t refl refl refl k.along;
      }

  pub direct_law : DirectLaw app
  direct_law l h cs =
      subst (λ (b : Bool). AsDirect app (record { state = l.state; lost = b; coming = l.coming }) cs) (sym h) (as_direct l.state l.coming cs)

  agrees : (l m : Linked S) (cs : List Call) → AsDirect app l cs → AsDirect app m cs → l.state ≡ m.state → AgreesExactly app l m cs
  agrees l m cs a b e = record {
    if = λ h.
        let f : direct app l.state (loss (played app l cs)) cs ≡ direct app m.state (loss (played app m cs)) cs = cc (h, e) in
        record { entries = cc (a.same.entries, b.same.entries, f); buffers = cc (a.same.buffers, b.same.buffers, f); spaces = cc (a.same.spaces, b.same.spaces, f) };
    only = λ s. ap turn_of_loss (of_journal (played app l cs).turns ∙ (ap entry_gaves s.entries ∙ sym (of_journal (played app m cs).turns)));
  }

  pub agreement : Agreement app
  agreement l m h k e cs = agrees l m cs (direct_law l h cs) (direct_law m k cs) e
