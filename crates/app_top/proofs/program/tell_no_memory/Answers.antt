use Rattle.app_top.specs.Refusal.{line_of}
use Rattle.app_top.specs.declared.refusal.Refusal.TheVariants as refusals
use Rattle.app_top.proofs.ProgramLemmas.{partly_told}
use Rattle.app_top.proofs.program.tell_no_memory.Goals as goal

pub returns-clause-partly : goal.returns-clause-partly
returns-clause-partly g c =
    partly_told (line_of refusals.Memory) (g.E.Sink.state c.args.err.now) (g.E.Sink.state c.write.new.self) c.write.result c.write.ensures
