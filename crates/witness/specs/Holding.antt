-- A folder that holds a pack of the example.
use Rattle.std.specs.Prelude.{Some, codes}
use Rattle.std.specs.FinMap.{empty}
use Rattle.mc_cmd.specs.Packing.{Written}
use Rattle.pk_files.specs.Held.{Holds}
use Rattle.pk_files.specs.Put.{pack_files, put_all}
use Rattle.pk_files.specs.Told.{Told, pack_told, told_of}
use Rattle.witness.specs.Played.{IsPlayed}

-- the files of the pack, put where there was no file, say a pack, of which comes what comes of the pack
pub record IsHeld (w : Written) : Type 0 where
  pub pack : Told
  pub holds : Holds (put_all (Some empty) (pack_files (codes "out") (told_of w))) (codes "out") pack
  pub played : IsPlayed (pack_told pack)
