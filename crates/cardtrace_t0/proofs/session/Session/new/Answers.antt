use Rattle.cardtrace_t0.proofs.Stepping.{traces_scripts}
use Rattle.cardtrace_t0.proofs.session.Session.new.Goals as goal

pub returns-clause-whole : goal.returns-clause-whole
returns-clause-whole c = traces_scripts
