use Rattle.std.proofs.Common.{◌≡◌, ◌+◌, ◌*◌, ◌++◌, map}
use Rattle.std.specs.List.{flat_map}
use Rattle.wm_ast.specs.Spelling.{body_of}
use Rattle.wm_gen.specs.Shortest.{body_bytes, unsigned}
use Rattle.wm_gen.specs.Workload.{after_draws, functions}
use Rattle.wm_gen.proofs.generating.code.Given as goal

abbrev pub invariant-loop-index : goal.invariant-loop-index
invariant-loop-index l = record {
  state : l.draws.state ≡ after_draws l.number (3 * l.index);
  bytes : l.bytes.items ≡ unsigned (l.size + 1) ++ flat_map body_bytes (map body_of (functions l.number l.index));
}
