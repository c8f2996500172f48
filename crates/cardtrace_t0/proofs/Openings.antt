use Rattle.std.proofs.Common.{◌≡◌, ℕ, ◌≤◌, min, Bool, true, false, cond, leb, List, Some, None, Ok, Err, Option, Result, sym, refl, ap, ◌∙◌, subst, arith, le-leb}
use Rattle.std.specs.Result.{result_ok}
use Rattle.apdu.specs.declared.refusal.SettingRefusal.{SettingRefusal}
use native.Mathlib.Bridge.{le_prop}
use native.Mathlib.Nat.{min-le_right}
use Rattle.apps.specs.Files.{Shelf}
use Rattle.link.specs.Meaning.{Linked}
use Rattle.script.specs.declared.line.Protocol.{Protocol}
use Rattle.script.specs.declared.line.Protocol.TheVariants.{T0}
use Rattle.script.specs.declared.line.Settings as script
use Rattle.t0.specs.declared.settings.Settings.{Settings}
use Rattle.t0.specs.declared.settings.Style.{Style}
use Rattle.t0link.specs.Links.{linked_by}
use Rattle.t0.specs.Limits.{set_to}
use Rattle.wire.specs.MarkedLines.{are_marks, at_marks, marks_of, begun}
use Rattle.wire.specs.declared.marked.MarkedLine.{MarkedLine}
use Rattle.cardtrace_t0.specs.Cards.{first_shelf, settings_said, link_by, link_said}
use Rattle.cardtrace_t0.specs.Plays.{over}

-- Settings are their waits and their style: the fact beside them has one proof.
settings_same : (s t : Settings) → s.waits ≡ t.waits → s.style ≡ t.style → s ≡ t
settings_same s t e f =
    let P : ℕ → Type 0 = λ a. (h : a ≤ 15) → s ≡ record { waits = a; style = s.style; few = h } in
    let go : P t.waits = subst P e (λ h. ap (λ (k : s.waits ≤ 15). record { waits = s.waits; style = s.style; few = k }) (le_prop s.few h)) in
    go t.few ∙ ap (λ (y : Style). record { waits = t.waits; style = y; few = t.few }) f

-- What a marked line that was made holds.
line_made : (r : Result MarkedLine SettingRefusal) (line : MarkedLine) (marks : List ℕ) → begun r ≡ cond (are_marks marks) (Some (marks, 0)) None → Some line ≡ result_ok r
    → ◌≡◌ {A = Option (List ℕ × ℕ)} (Some (marks_of line, line.at)) (cond (are_marks marks) (Some (marks, 0)) None)
line_made (Ok l) line marks e f =
    let g : line ≡ l = cc in
    let h : ◌≡◌ {A = Option (List ℕ × ℕ)} (Some (marks_of line, line.at)) (Some (marks_of l, l.at)) = ap (λ (x : MarkedLine). Some (marks_of x, x.at)) g in
    h ∙ e
line_made (Err x) line marks e f = cc

-- A link that was made of what a link line and damage lines said.
pub opens : (l : Linked Shelf) (s : script.Settings) (settings : Settings) (made : Result MarkedLine SettingRefusal) (set : Result Settings SettingRefusal) (line : MarkedLine) (marks : List ℕ) (m : ℕ) (x : Shelf)
    → begun made ≡ cond (are_marks marks) (Some (marks, 0)) None → Some line ≡ result_ok made
    → set_to set ≡ cond (leb m 15) (Some (m, s.style)) None → set ≡ Ok settings
    → m ≡ min s.waits 15 → s.protocol ≡ T0 → x ≡ first_shelf
    → l ≡ linked_by settings (at_marks (marks_of line) line.at) x false
    → Some (over l) ≡ cond (are_marks marks) (Some (over (link_said s marks))) None
opens l s settings made set line marks m x em ed es et en ep ex el = by (are_marks marks) refl
  where
    low : leb m 15 ≡ true
    low = le-leb m 15 (omega (arith, en, min-le_right s.waits 15))

    said : settings ≡ settings_said s
    said =
        let q : ◌≡◌ {A = Option (ℕ × Style)} (Some (settings.waits, settings.style)) (Some (m, s.style)) = ap set_to (sym et) ∙ es ∙ ap (λ (b : Bool). cond b (Some (m, s.style)) None) low in
        let p : ◌≡◌ {A = ℕ × Style} (settings.waits, settings.style) (m, s.style) = cc in
        settings_same settings (settings_said s) (ap (λ (k : ℕ × Style). k.0) p ∙ en) (ap (λ (k : ℕ × Style). k.1) p)

    by : (b : Bool) → are_marks marks ≡ b → Some (over l) ≡ cond b (Some (over (link_said s marks))) None
    by true t =
        let q : ◌≡◌ {A = Option (List ℕ × ℕ)} (Some (marks_of line, line.at)) (Some (marks, 0)) = line_made made line marks em ed ∙ ap (λ (b : Bool). cond b (Some (marks, 0)) None) t in
        let p : ◌≡◌ {A = List ℕ × ℕ} (marks_of line, line.at) (marks, 0) = cc in
        ap (λ (k : Linked Shelf). Some (over k)) (el ∙ ap (λ (k : Settings). linked_by k (at_marks (marks_of line) line.at) x false) said
        ∙ ap (λ (k : List ℕ × ℕ). linked_by (settings_said s) (at_marks k.0 k.1) x false) p
        ∙ ap (λ (y : Shelf). linked_by (settings_said s) (at_marks marks 0) y false) ex
        ∙ sym (ap (λ (k : Protocol). link_by k s marks) ep))
    by false t =
        let q : ◌≡◌ {A = Option (List ℕ × ℕ)} (Some (marks_of line, line.at)) None = line_made made line marks em ed ∙ ap (λ (b : Bool). cond b (Some (marks, 0)) None) t in
        absurd (let z : ◌≡◌ {A = ℕ} 0 1 = cc in omega arith)
