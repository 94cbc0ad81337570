use Rattle.std.proofs.Common.{◌≡◌, ◌++◌, [], string_bytes, map, drop}
use Rattle.mc_cmd.specs.Grammar.{subs_text}
use Rattle.mc_cmd.specs.View.{sub_view}
use Rattle.mc_cmd.proofs.spelling.print_subs.Given as goal

abbrev pub invariant-loop-sub : goal.invariant-loop-sub
invariant-loop-sub l = string_bytes l.out ++ subs_text (map sub_view (drop l.sub-index l.subs)) [] ≡ string_bytes l.initial.out ++ subs_text (map sub_view l.subs) []
