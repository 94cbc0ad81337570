use Rattle.std.proofs.Common.{◌<◌, sym, ap, length}
use Rattle.mc_cmd.specs.Grammar.{most}
use Rattle.app_words.specs.Script.{foreign_said}
use Rattle.app_words.proofs.ScriptLemmas.{said_too_long}
use Rattle.app_words.proofs.reading.read_foreign.Goals as goal

pub returns-in-Err-TooLong : goal.returns-in-Err-TooLong
returns-in-Err-TooLong c =
    let long : most < length c.args.t.now = rw c.in-Err-TooLong.field-0-is at c.in-Err-TooLong.ensures in
    ap foreign_said (sym (said_too_long c.args.t.now long))
