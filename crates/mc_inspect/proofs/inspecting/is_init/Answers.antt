use Rattle.std.proofs.Common.{ap}
use Rattle.cc_line.specs.View.{piece_view}
use Rattle.mc_inspect.proofs.inspecting.is_init.Goals as goal

pub returns-in-Init : goal.returns-in-Init
returns-in-Init c = (_, ap piece_view c.in-Init.is)
