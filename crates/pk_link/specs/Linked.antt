-- The pack that a module is linked into.
use Rattle.std.specs.Prelude.{◌≡◌, ◌≤◌, ◌+◌, ℕ, length, map, sum, Some}
use Rattle.std.specs.List.{AllByRecursion}
use Rattle.wm_ast.specs.declared.module.Module.{Module}
use Rattle.wm_ast.specs.declared.limit.TheConstants.{MAX_EXPORTS, MAX_EXPORT_SIZE}
use Rattle.mc_cmd.specs.Form.{Text}
use Rattle.mc_cmd.specs.Chain.{Texts, Functions}
use Rattle.mc_cmd.specs.Layout.{full_name}
use Rattle.mc_cmd.specs.Lines.{IsShort}
use Rattle.mc_cmd.specs.Pack.{export_weight}
use Rattle.mc_cmd.specs.Tidy.{Tidy}
use Rattle.mc_cmd.specs.Packing.{Written, index_view, pack_view}
use Rattle.mc_cmd.specs.declared.TheConstants.{PIECE}
use Rattle.cc_line.specs.Key.{PieceId}
use Rattle.cc_sched.specs.Names.{piece_name, routine_name}
use Rattle.cc_sched.specs.Pieces.{turn_weight}
use Rattle.pk_agree.specs.Agree.{Agrees}
use Rattle.pk_agree.specs.Resume.{Resumable}
use Rattle.pk_agree.specs.Stepwise.{Stepwise}
use Rattle.mc_cmd.specs.Weight.{Weighs}

-- the lines weigh at most PIECE, with all that they run and a turn beside them
abbrev pub PieceIsLight : Functions → Texts → Type 0
PieceIsLight functions ts = (k : ℕ) × Weighs functions ts k × (k + turn_weight ≤ PIECE)

-- A pack of the namespace that agrees with the module over every schedule and piece after piece, and can be resumed.
-- Each of its functions can be stored in a file, and so can its index.
pub record IsPackFor (ns : Text) (m : Module) (pack : Written) : Type 0 where
  pub namespace : pack.index.ns ≡ ns
  pub agrees : Agrees m (pack_view pack)
  pub stepwise : Stepwise m (pack_view pack)
  pub resumable : Resumable m (pack_view pack)
  pub functions : AllByRecursion (λ e. IsShort e.1) pack.functions
  -- each line names only what is the pack's
  pub tidy : AllByRecursion (λ e. Tidy ns e.1) pack.functions
  -- each piece is light, and runs no function on the way that runs itself
  pub pieces : (id : PieceId) (ts : Texts) → (pack_view pack).functions (full_name ns (piece_name id)) ≡ Some ts
      → PieceIsLight (pack_view pack).functions ts
  -- and so is each function that has the lines of a piece
  pub routines : (id : PieceId) (ts : Texts)
      → (pack_view pack).functions (full_name ns (routine_name id)) ≡ Some ts
      → PieceIsLight (pack_view pack).functions ts
  pub few : length (index_view pack.index).exports ≤ MAX_EXPORTS
  pub light : sum (map export_weight (index_view pack.index).exports) ≤ MAX_EXPORT_SIZE
