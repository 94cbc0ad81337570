use Rattle.cc_line.proofs.CallLemmas.{printed}
use Rattle.cc_line.proofs.printing.print_table.Goals as goal

pub returns : goal.returns
returns c = printed _ _ _ c.in_ok-table_command.ensures c.print_command.ensures
