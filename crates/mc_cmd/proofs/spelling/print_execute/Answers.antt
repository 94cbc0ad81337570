use Rattle.std.proofs.Common.{append_assoc, map}
use Rattle.mc_cmd.specs.Grammar.{simple_text}
use Rattle.mc_cmd.specs.View.{simple_view, sub_view}
use Rattle.mc_cmd.proofs.SpellingLemmas.{wrote, subs_then}
use Rattle.mc_cmd.proofs.spelling.print_execute.Goals as goal

pub returns : goal.returns
returns c = wrote _ _ _ _ (rw (c.in_ok-print_subs.ensures, c.in_ok-word.ensures, subs_then (map sub_view c.args.subs.now) (simple_text (simple_view c.args.run.now))) (simp append_assoc)) c.print_simple.ensures
