use Rattle.std.proofs.Common.{rules}
use Rattle.app_report.proofs.RowsLemmas.{padded_address}
use Rattle.app_report.proofs.dumping.line_at.Goals as goal

pub returns : goal.returns
returns c = search (rules, padded_address)
