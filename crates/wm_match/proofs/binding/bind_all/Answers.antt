use Rattle.wm_match.proofs.ModuleLaws.{short_module}
use Rattle.wm_match.proofs.binding.bind_all.Goals as goal

pub bind_module-requires-clause-short : goal.bind_module-requires-clause-short
bind_module-requires-clause-short c = short_module c.args.libs.now c.args.main.now c.loop-k.k c.module_of-m.result.now c.requires.short c.module_of-m.ensures
