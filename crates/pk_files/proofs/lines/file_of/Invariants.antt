use Rattle.std.proofs.Common.{◌≡◌, ◌++◌, drop}
use Rattle.mc_cmd.specs.Lines.{file_text}
use Rattle.pk_files.proofs.lines.file_of.Given as goal

abbrev pub invariant-loop-line : goal.invariant-loop-line
invariant-loop-line l = l.bytes.items ++ file_text (drop l.line-index l.line-items) ≡ file_text l.line-items
