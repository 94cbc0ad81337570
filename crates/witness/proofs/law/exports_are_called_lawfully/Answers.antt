use Rattle.witness.proofs.Lawful.{is_lawful_before, is_lawful}
use Rattle.witness.proofs.law.exports_are_called_lawfully.Goals as goal

pub returns : goal.returns
returns c = record { before = is_lawful_before; whole = is_lawful }
