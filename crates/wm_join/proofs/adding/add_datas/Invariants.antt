use Rattle.std.proofs.Common.{◌≡◌, ◌++◌, map, drop}
use Rattle.wm_join.specs.steps.Parts.{data_with}
use Rattle.wm_join.proofs.adding.add_datas.Given as goal

abbrev pub invariant-loop-segment : goal.invariant-loop-segment
invariant-loop-segment l = l.found ++ map (data_with l.numbers) (drop l.segment-index l.datas) ≡ l.initial.found ++ map (data_with l.numbers) l.datas
