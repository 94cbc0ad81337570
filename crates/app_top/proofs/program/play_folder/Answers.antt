use Rattle.std.proofs.Common.{refl, Ok, Err, inr}
use Rattle.app_top.specs.Refusal.{of_play}
use Rattle.app_top.proofs.ProgramLemmas.{err_is}
use Rattle.app_top.proofs.program.play_folder.Goals as goal

pub returns-in_err-play : goal.returns-in_err-play
returns-in_err-play g c =
    inr (record {
      pack = c.in_ok-pack.pack;
      read = c.in_ok-pack.ensures;
      end = Err c.in_err-play.field-0.0;
      played = c.in_err-play.ensures;
      is_end = err_is c.from_residual-in_err-play.result (of_play c.in_err-play.field-0.0) c.from_residual-in_err-play.ensures;
    })

pub returns : goal.returns
returns g c =
    inr (record {
      pack = c.in_ok-pack.pack;
      read = c.in_ok-pack.ensures;
      end = Ok tt;
      played = c.in_ok-play.ensures;
      is_end = refl;
    })
