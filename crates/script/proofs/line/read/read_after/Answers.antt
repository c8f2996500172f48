use Rattle.std.proofs.Common.{arith}
use Rattle.std.proofs.lemmas.Bool.Decides.{nat_tests}
use Rattle.script.proofs.Words.{no_word, damage_word}
use Rattle.script.proofs.line.read.read_after.Goals as goal
use Rattle.script.proofs.line.read.read_after.Goals.{in_default-via-then-word-lt4, in_default-via-else-word-lt4+then-word-lt5+in-108+in-105+in-110+in_default-1, in_default-via-else-word-lt4+then-word-lt5+in-108+in-105+in_default-1, in_default-via-else-word-lt4+then-word-lt5+in-108+in_default-1, in_default-via-else-word-lt4+then-word-lt5+in-115+in-101+in-110+in_default-1, in_default-via-else-word-lt4+then-word-lt5+in-115+in-101+in_default-1, in_default-via-else-word-lt4+then-word-lt5+in-115+in_default-1, in_default-via-else-word-lt4+then-word-lt5+in_default-1, in_default-via-else-word-lt4+else-word-lt5+then-word-lt6+in-114+in-101+in-115+in-101-word-11+in_default-1, in_default-via-else-word-lt4+else-word-lt5+then-word-lt6+in-114+in-101+in-115+in_default-1, in_default-via-else-word-lt4+else-word-lt5+then-word-lt6+in-114+in-101+in_default-1, in_default-via-else-word-lt4+else-word-lt5+then-word-lt6+in-114+in_default-1, in_default-via-else-word-lt4+else-word-lt5+then-word-lt6+in_default-1, in_default-via-else-word-lt4+else-word-lt5+else-word-lt6+then-word-lt7+in-100+in-97+in-109+in-97-word-16+in-103+in_default-1, in_default-via-else-word-lt4+else-word-lt5+else-word-lt6+then-word-lt7+in-100+in-97+in-109+in-97-word-16+in_default-1, in_default-via-else-word-lt4+else-word-lt5+else-word-lt6+then-word-lt7+in-100+in-97+in-109+in_default-1, in_default-via-else-word-lt4+else-word-lt5+else-word-lt6+then-word-lt7+in-100+in-97+in_default-1, in_default-via-else-word-lt4+else-word-lt5+else-word-lt6+then-word-lt7+in-100+in_default-1, in_default-via-else-word-lt4+else-word-lt5+else-word-lt6+then-word-lt7+in_default-1, in_default-via-else-word-lt4+else-word-lt5+else-word-lt6+else-word-lt7}

pub returns-in_default : goal.returns-in_default
returns-in_default c =
    elim c.in_default.branch [
      | in_default-via-then-word-lt4 w ↦ no_word c.args.word.now c.args.text.now (λ h. grind (arith, nat_tests))
      | in_default-via-else-word-lt4+then-word-lt5+in-108+in-105+in-110+in_default-1 w ↦ no_word c.args.word.now c.args.text.now (λ h. grind (arith, nat_tests))
      | in_default-via-else-word-lt4+then-word-lt5+in-108+in-105+in_default-1 w ↦ no_word c.args.word.now c.args.text.now (λ h. grind (arith, nat_tests))
      | in_default-via-else-word-lt4+then-word-lt5+in-108+in_default-1 w ↦ no_word c.args.word.now c.args.text.now (λ h. grind (arith, nat_tests))
      | in_default-via-else-word-lt4+then-word-lt5+in-115+in-101+in-110+in_default-1 w ↦ no_word c.args.word.now c.args.text.now (λ h. grind (arith, nat_tests))
      | in_default-via-else-word-lt4+then-word-lt5+in-115+in-101+in_default-1 w ↦ no_word c.args.word.now c.args.text.now (λ h. grind (arith, nat_tests))
      | in_default-via-else-word-lt4+then-word-lt5+in-115+in_default-1 w ↦ no_word c.args.word.now c.args.text.now (λ h. grind (arith, nat_tests))
      | in_default-via-else-word-lt4+then-word-lt5+in_default-1 w ↦ no_word c.args.word.now c.args.text.now (λ h. grind (arith, nat_tests))
      | in_default-via-else-word-lt4+else-word-lt5+then-word-lt6+in-114+in-101+in-115+in-101-word-11+in_default-1 w ↦ no_word c.args.word.now c.args.text.now (λ h. grind (arith, nat_tests))
      | in_default-via-else-word-lt4+else-word-lt5+then-word-lt6+in-114+in-101+in-115+in_default-1 w ↦ no_word c.args.word.now c.args.text.now (λ h. grind (arith, nat_tests))
      | in_default-via-else-word-lt4+else-word-lt5+then-word-lt6+in-114+in-101+in_default-1 w ↦ no_word c.args.word.now c.args.text.now (λ h. grind (arith, nat_tests))
      | in_default-via-else-word-lt4+else-word-lt5+then-word-lt6+in-114+in_default-1 w ↦ no_word c.args.word.now c.args.text.now (λ h. grind (arith, nat_tests))
      | in_default-via-else-word-lt4+else-word-lt5+then-word-lt6+in_default-1 w ↦ no_word c.args.word.now c.args.text.now (λ h. grind (arith, nat_tests))
      | in_default-via-else-word-lt4+else-word-lt5+else-word-lt6+then-word-lt7+in-100+in-97+in-109+in-97-word-16+in-103+in_default-1 w ↦ no_word c.args.word.now c.args.text.now (λ h. grind (arith, nat_tests))
      | in_default-via-else-word-lt4+else-word-lt5+else-word-lt6+then-word-lt7+in-100+in-97+in-109+in-97-word-16+in_default-1 w ↦ no_word c.args.word.now c.args.text.now (λ h. grind (arith, nat_tests))
      | in_default-via-else-word-lt4+else-word-lt5+else-word-lt6+then-word-lt7+in-100+in-97+in-109+in_default-1 w ↦ no_word c.args.word.now c.args.text.now (λ h. grind (arith, nat_tests))
      | in_default-via-else-word-lt4+else-word-lt5+else-word-lt6+then-word-lt7+in-100+in-97+in_default-1 w ↦ no_word c.args.word.now c.args.text.now (λ h. grind (arith, nat_tests))
      | in_default-via-else-word-lt4+else-word-lt5+else-word-lt6+then-word-lt7+in-100+in_default-1 w ↦ no_word c.args.word.now c.args.text.now (λ h. grind (arith, nat_tests))
      | in_default-via-else-word-lt4+else-word-lt5+else-word-lt6+then-word-lt7+in_default-1 w ↦ no_word c.args.word.now c.args.text.now (λ h. grind (arith, nat_tests))
      | in_default-via-else-word-lt4+else-word-lt5+else-word-lt6+else-word-lt7 w ↦ no_word c.args.word.now c.args.text.now (λ h. grind (arith, nat_tests))
    ]

pub returns-in_ok-read_number-in-damage : goal.returns-in_ok-read_number-in-damage
returns-in_ok-read_number-in-damage c =
    damage_word c.args.word.now c.args.text.now c.in_ok-read_number-in-damage.field-0 c.new-in-damage.result
    (omega arith, omega arith, omega arith, omega arith, omega arith, omega arith, omega arith) c.in_ok-read_number-in-damage.ensures c.new-in-damage.ensures
