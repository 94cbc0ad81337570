use Rattle.std.proofs.Common.{length}
use Rattle.mc_cmd.specs.Pack.{play}
use Rattle.mc_together.specs.Together.{own, together}
use Rattle.mc_together.proofs.EventLemmas.{as_alone}
use Rattle.mc_together.proofs.AnswerLemmas.{answer_same, memory_same, globals_same}
use Rattle.mc_together.proofs.ProgramLemmas.{foreign_to_all, own_lawful}
use Rattle.mc_together.proofs.law.each_pack_answers_as_alone.Goals as goal

pub returns-clause-alone : goal.returns-clause-alone
returns-clause-alone c = λ ps ok es f k p at.
    let m = as_alone ps ok k p at es (foreign_to_all ps es f) in
    let w = (together ps es).world in
    let v = (play p (own (length ps) k es)).world in
    record {
      answer = answer_same p.index.ns w v m.world;
      memory = memory_same p.index.ns w v m.world;
      globals = globals_same p.index.ns w v m.world;
      part = m.world;
      used = m.used;
      cut = m.cut;
    }

pub returns-clause-lawful : goal.returns-clause-lawful
returns-clause-lawful c = own_lawful
