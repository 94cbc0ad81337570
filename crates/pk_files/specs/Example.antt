-- A worked pack: two functions, and no export.
use Rattle.std.specs.Prelude.{[], ◌∷◌, codes}
use Rattle.pk_files.specs.Told.{Told}

abbrev pub worked_pack : Told
worked_pack = record {
  index = record { ns = codes "wk"; exports = [] };
  functions = (codes "load", []) ∷ (codes "tick", [] ∷ []) ∷ [];
}
