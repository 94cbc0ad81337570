use Rattle.pk_files.proofs.LinesLemmas.{none_too_long}
use Rattle.pk_files.proofs.lines.is_line.Goals as goal

pub returns-in-Err-TooLong : goal.returns-in-Err-TooLong
returns-in-Err-TooLong c = none_too_long c.args.bytes.now (rw c.in-Err-TooLong.field-0-is at c.in-Err-TooLong.ensures)
