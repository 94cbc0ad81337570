use Rattle.mc_cmd.specs.Packing.{pack_view}
use Rattle.app_workload.specs.steps.Reducing.{moved_told}
use Rattle.app_workload.proofs.TellingLemmas.{all_told}
use Rattle.app_workload.proofs.lines.workload_lines.Goals as goal

pub returns : goal.returns
returns c =
    all_told c.args.bytes c.function_count-functions.result c.args.typed.now (pack_view c.args.pack) c.in_ok-played.played (moved_told c.in_ok-moved.moved) c.in_ok-reduction.reduction c.five_lines.result
    c.in_ok-played.ensures c.function_count-functions.ensures c.in_ok-moved.ensures c.in_ok-reduction.ensures c.five_lines.ensures
