use Rattle.std.proofs.Common.{◌≡◌, ◌≤◌, string_bytes, drop}
use Rattle.mc_nbt.specs.View.{view}
use Rattle.mc_cmd.specs.Fill.{behind, fill_from, fill}
use Rattle.mc_cmd.specs.View.{pattern_view}
use Rattle.mc_parse.proofs.filling.fill_parts.Given as goal

abbrev pub invariant-loop-part : goal.invariant-loop-part
invariant-loop-part l = record {
  same : behind (string_bytes l.out) (fill_from l.place (pattern_view (drop l.part-index l.parts)) (view l.tree)) ≡ fill (pattern_view l.parts) (view l.tree);
  few : l.place ≤ l.part-index;
}
