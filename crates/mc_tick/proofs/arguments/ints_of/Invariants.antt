use Rattle.std.proofs.Common.{◌≡◌, ◌++◌, map, drop, true}
use Rattle.std.specs.List.{list_all}
use Rattle.mc_nbt.specs.Tree.{int}
use Rattle.mc_nbt.specs.Value.{is_value}
use Rattle.mc_nbt.specs.Word.{is_int}
use Rattle.mc_cmd.specs.Pack.{ints_of}
use Rattle.mc_tick.proofs.arguments.ints_of.Given as goal

abbrev pub invariant-loop-arg : goal.invariant-loop-arg
invariant-loop-arg l = record {
  ints : map int l.ints.items ++ ints_of (drop l.arg-index l.args) ≡ ints_of l.args;
  fit : list_all is_int l.ints.items ≡ true;
  values : list_all is_value l.args ≡ list_all is_value (drop l.arg-index l.args);
}
