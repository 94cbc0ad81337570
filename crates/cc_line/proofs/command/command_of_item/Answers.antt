use Rattle.cc_line.proofs.CallLemmas.{fill_said}
use Rattle.cc_line.proofs.ItemViewLemmas.{fill_shows}
use Rattle.cc_line.proofs.command.command_of_item.Goals as goal

pub returns-in-Fill : goal.returns-in-Fill
returns-in-Fill c = rw (c.in-Fill.is, fill_shows c.in-Fill.when c.in-Fill.name c.in-Fill.site c.in-Fill.steps) (fill_said _ _ _ _ _ _ c.fill.ensures)
