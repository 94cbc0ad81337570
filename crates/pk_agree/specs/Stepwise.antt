-- When a pack does what a module does piece after piece: what drives it are calls, and turns that run one piece each, and
-- with the last one of a job the piece that ends it.
use Rattle.std.specs.Prelude.{◌≡◌, ℕ, ◌+◌, List, [], ◌∷◌, Option, true, codes, slice_get}
use Rattle.std.specs.List.{AllByRecursion}
use Rattle.mc_nbt.specs.declared.value.Value.{Value}
use Rattle.mc_cmd.specs.declared.TheConstants.{PIECE}
use Rattle.mc_cmd.specs.Layout.{Answer, answer}
use Rattle.mc_cmd.specs.Pack.{Index, IsCallOf, Pack, Standing, after_chain, chain_in, happen, loaded}
use Rattle.mc_cmd.specs.Pack as packs
use Rattle.wm_ast.specs.declared.module.Module.{Module}
use Rattle.pk_agree.specs.Agree.{AreExports, IsTrueOf, function_exports}
use Rattle.pk_agree.specs.Job.{AfterCall, Job, first_job}

-- a call of an exported function by its place in the index, or a turn
pub data Move : Type 0 where
  call : ℕ → List Value → Move
  turn : Move

-- a call is one of an export, and a turn may always be
abbrev pub IsLawfulMove : Index → Move → Type 0
IsLawfulMove index (call k args) = IsCallOf (slice_get index.exports k) args
IsLawfulMove index turn = Unit {0}

abbrev pub LawfulMoves : Index → List Move → Type 0
LawfulMoves index moves = AllByRecursion (IsLawfulMove index) moves

-- A turn is the chain of `h_next`, which runs the one piece that the world names, and behind it one that ends the job,
-- where such a piece is next then, with the quota PIECE.
abbrev pub turned : Pack → Standing → Standing
turned pack s = after_chain s 0 PIECE (chain_in pack (codes "h_next") PIECE s.world)

-- what a move does
abbrev pub after_move : Pack → Standing → Move → Standing
after_move pack s (call k args) = happen pack s (packs.call k args)
after_move pack s turn = turned pack s

abbrev pub after_moves : Pack → List Move → Standing → Standing
after_moves pack [] s = s
after_moves pack (x ∷ xs) s = after_moves pack xs (after_move pack s x)

-- A turn is one credit, and stands in the place of a tick.
abbrev pub turned_job : Job → Job
turned_job j = record j { credit = j.credit + 1; ticked = true }

-- what a move makes of the job, by the answer before it
abbrev pub JobAfterMove : Module → Option Answer → Job → Move → Job → Type 0
JobAfterMove m a j (call k args) i = AfterCall m a j k args i
JobAfterMove m a j turn i = i ≡ turned_job j

-- moves lead from a standing of the pack and a job to this job
abbrev pub JobAfterMoves : Module → Pack → Standing → Job → List Move → Job → Type 0
JobAfterMoves m pack s j [] i = i ≡ j
JobAfterMoves m pack s j (x ∷ xs) i =
    (h : Job) × JobAfterMove m (answer pack.index.ns s.world) j x h × JobAfterMoves m pack (after_move pack s x) h xs i

-- A pack agrees with a module piece after piece: its index lists the module's function exports, and after each lawful
-- list of moves it stands at a job of which all holds that agreement says. So each step of the reduction is over after
-- at most sixteen turns.
pub record Stepwise (m : Module) (pack : Pack) : Type 0 where
  pub exports : AreExports m (function_exports m) pack.index.exports
  pub always : (moves : List Move) → LawfulMoves pack.index moves
      → (j : Job) × JobAfterMoves m pack (loaded pack) (first_job m) moves j
      × IsTrueOf m pack (after_moves pack moves (loaded pack)) j
