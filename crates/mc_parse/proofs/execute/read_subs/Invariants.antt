use Rattle.std.proofs.Common.{◌≡◌, suc, length, map}
use Rattle.mc_cmd.specs.Grammar.{subs_read}
use Rattle.mc_cmd.specs.View.{sub_view}
use Rattle.mc_parse.proofs.ExecuteLemmas.{behind}
use Rattle.mc_parse.proofs.execute.read_subs.Given as goal

abbrev pub invariant-loop-left : goal.invariant-loop-left
invariant-loop-left l = behind (map sub_view l.subs.items) (subs_read l.left l.rest) ≡ subs_read (suc (length l.t)) l.t

abbrev pub decreases-loop-left : goal.decreases-loop-left
decreases-loop-left l = l.left
