use Rattle.pk_files.proofs.LineText.{line_utf8}
use Rattle.pk_files.proofs.lines.text_of.Goals as goal

pub unreachable-requires : goal.unreachable-requires
unreachable-requires c = absurd (c.in-Err.ensures.cases.0 (line_utf8 c.args.bytes.now c.requires))
