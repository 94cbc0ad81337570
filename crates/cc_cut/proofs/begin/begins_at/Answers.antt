use Rattle.std.proofs.Common.{sym, ◌∙◌, map}
use Rattle.wm_place.specs.Stop.{level_told}
use Rattle.cc_cut.proofs.StopLemmas.{behind_last}
use Rattle.cc_cut.proofs.begin.begins_at.Goals as goal

pub returns-in-Some : goal.returns-in-Some
returns-in-Some c = c.ends_piece.ensures ∙ sym (behind_last c.args.before.now c.in-Some.instr.now c.args.path.now (map level_told c.args.levels.now) (sym c.in-Some.ensures.value))
