use Rattle.script.proofs.ScriptLaws.{reads_scripts}
use Rattle.script.proofs.laws.reading_stands.Goals as goal

pub returns : goal.returns
returns c = reads_scripts
