use Rattle.std.proofs.Common.{◌≡◌, map, drop}
use Rattle.std.specs.List.{list_all}
use Rattle.mc_cmd.specs.Tidy.{sub_is_tidy}
use Rattle.mc_cmd.specs.View.{sub_view}
use Rattle.mc_tidy.proofs.command.are_tidy_subs.Given as goal

abbrev pub invariant-loop-sub : goal.invariant-loop-sub
invariant-loop-sub l = list_all (sub_is_tidy l.names.ns) (map sub_view l.subs) ≡ list_all (sub_is_tidy l.names.ns) (map sub_view (drop l.sub-index l.subs))
