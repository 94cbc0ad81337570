use Rattle.std.proofs.Common.{◌≡◌, ◌≤◌, ◌∙◌, length, take, drop, ap, ap₂, arith}
use Rattle.wm_view.specs.View.{frame_view}
use Rattle.pk_sight.proofs.ShownLemmas.{told_none, told_some}
use Rattle.mc_inspect.proofs.Holding.{frame_answer, no_frame, values_enough}
use Rattle.mc_inspect.proofs.frames.frame_at.Goals as goal

pub returns-in_default : goal.returns-in_default
returns-in_default c = no_frame c.args.func c.args.spot.now c.args.kinds.now c.args.places.now _ (grind arith) (told_none _ _ _ c.in_default.is c.in_ok-values.ensures)

pub split-requires : goal.split-requires
split-requires c =
    let enough : length c.args.spot.now.locals ≤ length c.in-Some.values =
    values_enough c.args.func c.args.spot.now c.args.kinds.now c.args.places.now _ (grind arith) c.in-Some.values _ (told_some _ _ _ _ c.in-Some.is c.in_ok-values.ensures) in
    let same : length c.as_slice-3.result.now ≡ length c.in-Some.values = ap length c.as_slice-3.ensures in
    let count : c.len.result ≡ length c.args.spot.now.locals = c.len.ensures in
    omega arith

pub returns : goal.returns
returns c =
    frame_answer c.args.func c.args.spot.now c.args.kinds.now c.args.places.now _ (grind arith) c.in-Some.values _
    (told_some _ _ _ _ c.in-Some.is c.in_ok-values.ensures) c.in_ok-frame.frame
    (c.in_ok-frame.ensures ∙ ap₂ (λ n vs. frame_view c.args.func (take n vs) (drop n vs)) c.len.ensures c.as_slice-3.ensures)
    c.where_sized.result c.where_sized.ensures
