use Rattle.apdu.proofs.Same.{status_of_lawful}
use Rattle.apdu.proofs.status.Status.new.Goals as goal

pub returns-then-is_lawful : goal.returns-then-is_lawful
returns-then-is_lawful c = status_of_lawful _ _ _
