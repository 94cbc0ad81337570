use Rattle.std.proofs.Common.{refl, Ok, Err, inr}
use Rattle.app_top.specs.Refusal.{of_play}
use Rattle.app_top.proofs.ProgramLemmas.{err_is}
use Rattle.app_top.proofs.inspecting.inspect_folder.Goals as goal

pub returns-in_err-play_with : goal.returns-in_err-play_with
returns-in_err-play_with g c =
    inr (record {
      pack = c.in_ok-pack.pack;
      read = c.in_ok-pack.ensures;
      end = Err c.in_err-play_with.field-0.0;
      played = c.in_err-play_with.ensures;
      is_end = err_is c.from_residual-in_err-play_with.result (of_play c.in_err-play_with.field-0.0) c.from_residual-in_err-play_with.ensures;
    })

pub returns : goal.returns
returns g c =
    inr (record {
      pack = c.in_ok-pack.pack;
      read = c.in_ok-pack.ensures;
      end = Ok tt;
      played = c.in_ok-play_with.ensures;
      is_end = refl;
    })
