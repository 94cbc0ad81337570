use Rattle.std.specs.Prelude.{codes, string_bytes}
use Rattle.app_words.specs.Lines.{ended_line}
use Rattle.app_report.proofs.RowsLemmas.{in_pieces}
use Rattle.app_report.proofs.printing.with_end.Goals as goal

pub returns : goal.returns
returns c = in_pieces (string_bytes c.args.text) c.args.globals.now c.args.rows.now (ended_line (codes "end")) (string_bytes c.push_str.new.self) (string_bytes c.push_str-2.new.self) (string_bytes c.push_str-3.new.self) c.in_ok-push_str.ensures.bytes c.in_ok-push_str-2.ensures.bytes c.in_ok-push_str-3.ensures.bytes
