use Rattle.std.proofs.Common.{◌≡◌, ◌∙◌, ap, length, arith}
use Rattle.cc_line.specs.Key.{key_list}
use Rattle.cc_line.specs.State.{ints}
use Rattle.pk_sight.proofs.IntLemmas.{one_field}
use Rattle.pk_sight.proofs.frame_list.list_alone.Goals as goal

pub returns-in-len2-up : goal.returns-in-len2-up
returns-in-len2-up c zs e =
    let one : length c.entries.result.now ≡ 1 = ap length c.entries.ensures ∙ one_field c.args.map.now key_list (ints zs) e in
    omega (arith, one, c.in-len2-up.len_at_least)
