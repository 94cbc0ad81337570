use Rattle.cc_cut.proofs.ExitLemmas.{front_path, whole_path}
use Rattle.cc_cut.proofs.exit.block_path.Goals as goal

pub returns-then-level-path : goal.returns-then-level-path
returns-then-level-path c = front_path c.args.path.now c.split_at.result.0.now c.args.level.now.lead c.split_at.ensures.front

pub returns-else-level-path : goal.returns-else-level-path
returns-else-level-path c = whole_path c.args.path.now c.args.level.now.lead c.if-level-path.false
