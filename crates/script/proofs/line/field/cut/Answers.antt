use Rattle.std.proofs.Common.{◌≡◌, ap, sym, ◌∙◌, rules, tests}
use Rattle.std.specs.List.{position}
use Rattle.std.specs.Option.{option_map}
use Rattle.std.proofs.lemmas.Iterator.{YieldsList-from_slice}
use Rattle.std.proofs.lemmas.Iterator.Search.{position_from_yields_List}
use Rattle.script.proofs.Splits.{comma, parts, split_position, split_parts}
use Rattle.script.proofs.line.field.cut.Goals as goal

pub returns-in_err-comma : goal.returns-in_err-comma
returns-in_err-comma c =
    let e : c.position.result ≡ position comma c.args.text.now = position_from_yields_List comma _ _ c.position.result c.position.ensures.ran (YieldsList-from_slice c.args.text.now cc) (λ x b q k. search (rules, tests)) in
    rw c.from_residual.ensures (sym (split_position c.args.text.now c.position.result e ∙ ap (option_map (parts c.args.text.now)) c.in_err-comma.was))

pub returns : goal.returns
returns c =
    let e : c.position.result ≡ position comma c.args.text.now = position_from_yields_List comma _ _ c.position.result c.position.ensures.ran (YieldsList-from_slice c.args.text.now cc) (λ x b q k. search (rules, tests)) in
    split_parts c.args.text.now c.position.result c.in_ok-comma.comma e c.in_ok-comma.was
