use Rattle.std.proofs.Common.{map, sym, ◌∙◌, arith, rules}
use Rattle.std.proofs.lemmas.Grind.{common_steps}
use Rattle.mc_nbt.specs.View.{view, entry}
use Rattle.mc_nbt.proofs.EditLemmas.{put_found_none, find_none, added}
use Rattle.pk_entries.proofs.build.put.Goals as goal

pub returns-in-Some : goal.returns-in-Some
returns-in-Some c =
    let es = map entry c.args.fields.items in
    c.with_value.ensures
    ∙ sym (put_found_none c.args.key (view c.args.value) es c.in-Some.at (search rules) (grind (arith, common_steps, rules)))

pub returns-in_ok-longer-in-None : goal.returns-in_ok-longer-in-None
returns-in_ok-longer-in-None c =
    added c.args.key c.args.key c.args.value c.args.fields.items c.in_ok-longer-in-None.longer.items c.rank_of_key-at.result
    (find_none c.args.key (map entry c.args.fields.items) (search rules)) (search rules) (search rules) c.in_ok-longer-in-None.ensures
