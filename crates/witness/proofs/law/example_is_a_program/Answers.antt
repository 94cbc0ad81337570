use Rattle.witness.proofs.Program.{is_program, is_low, dying_is_program, dying_is_low}
use Rattle.witness.proofs.Spelling.{is_spelt}
use Rattle.witness.proofs.law.example_is_a_program.Goals as goal

pub returns : goal.returns
returns c = record { program = is_program; low = is_low; spelled = is_spelt; dying_program = dying_is_program; dying_low = dying_is_low }
