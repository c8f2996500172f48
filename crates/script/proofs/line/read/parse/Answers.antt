use Rattle.std.proofs.Common.{rules}
use Rattle.script.specs.Lines.{line_of}
use Rattle.script.proofs.line.read.parse.Goals as goal

pub returns-in_err-word : goal.returns-in_err-word
unfolding line_of
returns-in_err-word c = search rules

pub returns : goal.returns
unfolding line_of
returns c = search rules
