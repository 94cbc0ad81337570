use Rattle.std.proofs.Common.{◌≡◌, ◌++◌, drop}
use Rattle.std.specs.List.{filter_map}
use Rattle.pk_files.specs.Paths.{function_named}
use Rattle.pk_files.proofs.paths.functions_among.Given as goal

abbrev pub invariant-loop-file : goal.invariant-loop-file
invariant-loop-file l = l.names ++ filter_map function_named (drop l.file-index l.file-items) ≡ filter_map function_named l.file-items
