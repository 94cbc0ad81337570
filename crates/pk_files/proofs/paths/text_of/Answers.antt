use Rattle.pk_files.proofs.ReadLemmas.{function_utf8}
use Rattle.pk_files.proofs.paths.text_of.Goals as goal

pub unreachable-requires : goal.unreachable-requires
unreachable-requires c = absurd (c.in-Err.ensures.cases.0 (function_utf8 c.args.name.now c.requires))
