use Rattle.std.proofs.Common.{sym, rules, tests}
use Rattle.std.proofs.lemmas.Iterator.{YieldsList-from_slice}
use Rattle.std.proofs.lemmas.Iterator.Search.{all_from_yields_List}
use Rattle.script.specs.Fields.{is_digit}
use Rattle.script.proofs.line.field.is_numeral.Goals as goal

pub returns-then-is_well_led : goal.returns-then-is_well_led
returns-then-is_well_led c =
    rw (sym c.if-is_well_led.ensures) (all_from_yields_List is_digit _ _ c.all.result c.all.ensures.ran (YieldsList-from_slice c.args.text.now cc) (λ x b q k. search (rules, tests)))
