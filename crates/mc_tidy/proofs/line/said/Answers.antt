use Rattle.std.proofs.Common.{refl}
use Rattle.mc_tidy.proofs.TidyLemmas.{refused_too_long}
use Rattle.mc_tidy.proofs.line.said.Goals as goal

pub returns-in-Err-TooLong : goal.returns-in-Err-TooLong
returns-in-Err-TooLong c = refused_too_long c.args.text.now c.args.text.now c.in-Err-TooLong.field-0 c.in-Err-TooLong.ensures c.in-Err-TooLong.field-0-is refl
