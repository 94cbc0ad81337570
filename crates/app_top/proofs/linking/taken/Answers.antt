use Rattle.app_top.proofs.JoinLemmas.{source_taken}
use Rattle.app_top.proofs.linking.taken.Goals as goal

pub returns : goal.returns
returns c = source_taken c.args.wasm.now c.in_ok-module.module c.accepted.result c.in_ok-module.ensures.answer c.accepted.ensures.same c.accepted.ensures.told
