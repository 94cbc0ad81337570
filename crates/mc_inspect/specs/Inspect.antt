-- What is seen of a world in which a pack runs, and what `inspect` answers.
use Rattle.std.specs.Prelude.{◌≡◌, ℕ, ◌∷◌, [], pos, Option, Some, None, Result, Ok, Err}
use Rattle.mc_nbt.specs.Tree.{int, key, select}
use Rattle.mc_cmd.specs.Form.{Text}
use Rattle.mc_cmd.specs.World.{World, tree_in}
use Rattle.wm_ast.specs.declared.module.Module.{Module}
use Rattle.wm_ast.specs.Configuration.{Config}
use Rattle.wm_valid.specs.Height.{Low}
use Rattle.wm_flat.specs.Program.{IsProgram}
use Rattle.wm_view.specs.declared.view.Inspection.{Inspection}
use Rattle.wm_view.specs.View.{view}
use Rattle.cc_line.specs.Key.{key_state, PieceId, body_piece, init_piece, shared_piece, end_piece}
use Rattle.cc_line.specs.Running.{NextPiece}
use Rattle.cc_line.specs.Sight.{in_io, store_id}
use Rattle.cc_entries.specs.Law.{NameTells}
use Rattle.pk_agree.specs.Resume.{StandsFor}
use Rattle.mc_inspect.specs.declared.fault.InspectFault.{InspectFault}
use Rattle.mc_inspect.specs.declared.fault.InspectFault.TheVariants as faults

-- ---- where the pack is

-- the state of the pack is that of a job that runs
abbrev pub IsRunning : Text → World → Type 0
IsRunning ns w = select (tree_in w (store_id ns in_io)) (key key_state ∷ []) ≡ Some (int (pos 1))

-- a piece of instantiation is next
abbrev pub IsStarting : Text → World → Type 0
IsStarting ns w = (j : ℕ) × NextPiece w ns (init_piece j)

-- a piece's number in its name: which one it is of its function, of instantiation, of the shared ones, or of the ends
abbrev pub number_of : PieceId → ℕ
number_of (body_piece f j) = j
number_of (init_piece j) = j
number_of (shared_piece j) = j
number_of (end_piece w) = w

-- a piece of this number is next, or, where there is no number, none is
abbrev pub NextNumber : Text → World → Option ℕ → Type 0
NextNumber ns w None = (i : PieceId) → NameTells i → NextPiece w ns i → ⊥
NextNumber ns w (Some j) = (i : PieceId) × NameTells i × NextPiece w ns i × (number_of i ≡ j)

-- ---- what is seen

-- the world stands for a configuration that shows this
pub record IsSeen (m : Module) (ns : Text) (w : World) (v : Inspection) : Type 0 where
  pub config : Config
  pub stands : StandsFor m ns w config
  pub shown : view config ≡ v

-- it stands for none
abbrev pub IsNowhere : Module → Text → World → Type 0
IsNowhere m ns w = (c : Config) → StandsFor m ns w c → ⊥

-- What `inspect` answers. Where the pack doesn't run, it tells that; else where it is being instantiated, that; else what
-- a configuration shows for which the world stands; and where it stands for none, the number of the piece that is next.
-- Want of memory may be told of any world.
abbrev pub IsAnswer : Module → Text → World → Result Inspection InspectFault → Type 0
IsAnswer m ns w (Ok v) = IsRunning ns w × (IsStarting ns w → ⊥) × IsSeen m ns w v
IsAnswer m ns w (Err faults.NotRunning) = IsRunning ns w → ⊥
IsAnswer m ns w (Err faults.Starting) = IsRunning ns w × IsStarting ns w
IsAnswer m ns w (Err (faults.NoPlace j)) =
    IsRunning ns w × (IsStarting ns w → ⊥) × IsNowhere m ns w × NextNumber ns w j
IsAnswer m ns w (Err faults.Memory) = Unit {0}

-- ---- it is one

-- the configurations for which a world stands show the same
abbrev pub ViewsAreOne : Type 0
ViewsAreOne = (m : Module) → IsProgram m → Low m → (ns : Text) (w : World) (c d : Config)
    → StandsFor m ns w c → StandsFor m ns w d → view c ≡ view d
