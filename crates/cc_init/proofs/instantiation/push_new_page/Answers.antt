use Rattle.std.proofs.Common.{List, [], ◌∷◌}
use Rattle.cc_line.specs.Key.{key_table}
use Rattle.cc_line.specs.Sight.{in_rest}
use Rattle.cc_line.specs.State.{at_key, ints}
use Rattle.cc_line.specs.Step.{Act, set_site}
use Rattle.cc_init.proofs.GlobalLemmas.{act_pushed, act_told}
use Rattle.cc_init.proofs.instantiation.push_new_page.Goals as goal

pub returns : goal.returns
returns c =
    let table : List Act = set_site (at_key in_rest key_table) (ints c.args.words.items) ∷ [] in
    act_told _ _ _ table _ _ (act_pushed _ _ _ _ c.in_ok-push.ensures.items c.table.ensures) c.in_ok-push_act.ensures c.append_page.ensures
