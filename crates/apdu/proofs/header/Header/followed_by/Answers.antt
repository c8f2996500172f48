use Rattle.std.proofs.Common.{◌∙◌, arith, rules}
use Rattle.std.proofs.lemmas.Bool.Decides.{nat_tests}
use Rattle.apdu.proofs.Reading.{after_long}
use Rattle.apdu.proofs.header.Header.followed_by.Goals as goal

pub returns-then-body-lc : goal.returns-then-body-lc
returns-then-body-lc c =
    grind (arith, nat_tests) ∙ after_long c.args.self.cla c.args.self.ins c.args.self.p1 c.args.self.p2 c.args.rest.now (search rules)

pub returns-then-body-lc-2 : goal.returns-then-body-lc-2
returns-then-body-lc-2 c =
    grind (arith, nat_tests) ∙ after_long c.args.self.cla c.args.self.ins c.args.self.p1 c.args.self.p2 c.args.rest.now (omega arith)
