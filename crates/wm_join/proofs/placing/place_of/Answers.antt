use Rattle.std.proofs.Common.{get_or, ap, ◌∙◌, arith}
use Rattle.std.proofs.lemmas.Option.{slice_get-get_or}
use Rattle.wm_join.specs.Numbering.{total}
use Rattle.wm_join.proofs.PlaceLaws.{total_take, total_before}
use Rattle.wm_join.proofs.placing.place_of.Goals as goal

pub total-requires : goal.total-requires
total-requires c =
    let e = ap total c.split_at.ensures.front in
    let l = total_take c.args.counts.now c.args.k in
    omega arith

pub invariant_of-result : goal.invariant_of-result
invariant_of-result c =
    let e = ap total c.split_at.ensures.front in
    let l = total_before c.args.counts.now c.args.k (get_or c.args.counts.now c.args.k 0) (slice_get-get_or c.args.counts.now c.args.k 0 c.requires.number) in
    record { within = omega arith }

pub returns : goal.returns
returns c = record {
  first = c.total.ensures ∙ ap total c.split_at.ensures.front;
  count = slice_get-get_or c.args.counts.now c.args.k 0 c.requires.number;
  all = c.total-2.ensures;
}
