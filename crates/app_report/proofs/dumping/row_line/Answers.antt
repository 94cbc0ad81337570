use Rattle.std.proofs.Common.{◌∙◌, sym}
use Rattle.app_report.proofs.RowsLemmas.{row_line-shown}
use Rattle.app_report.proofs.dumping.row_line.Goals as goal

pub returns : goal.returns
returns c = c.in_ok-line.ensures ∙ row_line-shown c.args.address c.args.row.now (sym c.if-is_zero.false ∙ c.is_zero.ensures)
