use Rattle.std.proofs.Common.{◌≡◌, ◌&&◌, ◌<◌, cond, leb, Bool, true, false, refl, Some, None, sym, ◌∙◌, arith, rules}
use Rattle.std.specs.Bool.{then_some}
use Rattle.script.proofs.Numbers.{le_cmp, parsed, unparsed, refused_utf8, number_long}
use Rattle.script.proofs.line.field.read_number.Goals as goal

pub returns-then-text-gt-DIGITS_MAX : goal.returns-then-text-gt-DIGITS_MAX
returns-then-text-gt-DIGITS_MAX c =
    let h : c.args.high < 65536 = search rules in
    sym (number_long c.args.low c.args.high c.args.text.now (omega arith) h)

pub returns-in_err-ok : goal.returns-in_err-ok
returns-in_err-ok c =
    absurd (refused_utf8 _ _ c.args.text.now c.from_utf8.result (sym c.if-not-is_numeral.ensures) c.from_utf8.ensures.cases (sym c.ok.ensures.value ∙ c.in_err-ok.was))

pub returns-in_err-number : goal.returns-in_err-number
returns-in_err-number c =
    let h : c.args.high < 65536 = search rules in
    let t : c.in_ok-ok.field-0.now ≡ c.args.text.now = search rules in
    c.from_residual-in_err-number.ensures ∙ sym (unparsed c.args.low c.args.high c.args.text.now c.in_ok-ok.field-0.now c.parse.result (sym c.if-not-is_numeral.ensures) t c.parse.ensures.value.0 h (sym c.ok-2.ensures.value ∙ c.in_err-number.was))

pub returns : goal.returns
returns c =
    let t : c.in_ok-ok.field-0.now ≡ c.args.text.now = search rules in
    let n = parsed c.args.low c.args.high c.args.text.now c.in_ok-ok.field-0.now c.parse.result c.in_ok-number.number (sym c.if-not-is_numeral.ensures) t c.parse.ensures.value.0 (sym c.ok-2.ensures.value ∙ c.in_ok-number.was) in
    let b : c.contains.result ≡ leb c.args.low c.in_ok-number.number && leb c.in_ok-number.number c.args.high = c.contains.ensures.value ∙ rw (c.new.ensures.start, c.new.ensures.end, c.new.ensures.exhausted, le_cmp c.args.low c.in_ok-number.number, le_cmp c.in_ok-number.number c.args.high) refl in
    c.then_some.ensures ∙ rw (b, n) (by (leb c.args.low c.in_ok-number.number && leb c.in_ok-number.number c.args.high))
  where
    by : (t : Bool) → then_some t c.in_ok-number.number ≡ cond t (Some c.in_ok-number.number) None
    by true = refl
    by false = refl
