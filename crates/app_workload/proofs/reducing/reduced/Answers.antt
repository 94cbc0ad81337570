use Rattle.std.proofs.Common.{◌≡◌, sym, Some}
use Rattle.std.specs.Prelude.{option_map}
use Rattle.wm_reduce.specs.Shown.{shown}
use Rattle.app_workload.specs.Reduced.{reduced, told_of}
use Rattle.app_workload.specs.steps.Reducing.{comes_to, moved_told}
use Rattle.app_workload.proofs.PlayingLemmas.{if_ok}
use Rattle.app_workload.proofs.ReducingLemmas.{main_called, reduced_is, steps_are}
use Rattle.app_workload.proofs.reducing.reduced.Goals as goal

pub returns-in-Ok : goal.returns-in-Ok
returns-in-Ok c =
    let s = shown c.in_ok-reduction.reduction in
    let t = shown c.call.new.self in
    let called = main_called c.args.typed.now s t c.in_ok-reduction.ensures c.in-Ok.ensures in
    if_ok (λ moved. option_map told_of (comes_to t 100000000) ≡ Some (moved_told moved)) (λ moved. moved_told moved ≡ reduced c.args.typed.now) c.end.result
    (λ moved h. reduced_is c.args.typed.now s t called.1 100000000 moved c.in_ok-reduction.ensures called.2 called.3 (sym steps_are) h) c.end.ensures
