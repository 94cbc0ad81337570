-- What `inspect` answers, from what was found.
use Rattle.std.proofs.Common.{◌≡◌, ℕ, Option, Some, None, sym, subst, ◌∙◌}
use Rattle.std.specs.Prelude.{IfOk, MatchOption, Result, Ok, Err}
use Rattle.mc_nbt.specs.declared.memory.Memory.{Memory}
use Rattle.mc_cmd.specs.Form.{Text}
use Rattle.mc_cmd.specs.World.{World}
use Rattle.wm_ast.specs.declared.module.Module.{Module}
use Rattle.wm_valid.specs.Checked.{IsTyped}
use Rattle.wm_valid.specs.Height.{Low}
use Rattle.wm_flat.specs.Program.{IsProgram}
use Rattle.wm_view.specs.declared.view.Inspection.{Inspection}
use Rattle.wm_place.proofs.LevelLemmas.{some_of}
use Rattle.cc_line.specs.declared.leaf.PieceId as programs
use Rattle.cc_line.specs.Key.{PieceId, init_piece, id_tree, key_next}
use Rattle.cc_line.specs.Running.{NextPiece}
use Rattle.cc_line.specs.State.{State}
use Rattle.cc_entries.specs.Law.{NameTells}
use Rattle.cc_entries.proofs.Telling.{names_tell}
use Rattle.cc_simulate.specs.Stands.{Running}
use Rattle.cc_simulate.specs.Uses.{uses_bytes}
use Rattle.pk_sight.specs.Shown.{IsStateOf}
use Rattle.mc_inspect.specs.declared.fault.InspectFault.TheVariants as faults
use Rattle.mc_inspect.specs.declared.reading.Reading.{Reading}
use Rattle.mc_inspect.specs.Inspect.{IsAnswer, IsNowhere, IsRunning, IsSeen, IsStarting}
use Rattle.mc_inspect.specs.steps.Found.{Places}
use Rattle.mc_inspect.specs.steps.Read.{IsRead, NamesAt}
use Rattle.mc_inspect.proofs.Somewhere.{nowhere_unnamed, nowhere_unplaced, seen_placed}

pub program_of : (m : Module) → IsTyped m → IsProgram m
program_of m t = record { valid = t.valid; profile = t.profile; numbers = t.numbers }

-- ---- of a world that shows a state

pub found_answer : (m : Module) (ns : Text) (w : World) (x : Reading) (i : PieceId) (r : Result (Option Inspection) Memory) → IsProgram m → Low m
    → IsRead ns w x → NameTells i → NextPiece w ns i → ((p : State) → IsStateOf ns w p → Running (uses_bytes m) p)
    → IfOk r (Places m x i) → IfOk r (λ o. MatchOption o (IsNowhere m ns w) (λ v. IsSeen m ns w v))
found_answer m ns w x i (Err e) program low read told next runs h = tt
found_answer m ns w x i (Ok None) program low read told next runs h = nowhere_unplaced m program ns w low x read i told next h
found_answer m ns w x i (Ok (Some v)) program low read told next runs h = seen_placed m program ns w low x read i told next runs v h

-- ---- of the piece that is next

-- one that isn't of instantiation
pub not_starting : (ns : Text) (w : World) (i : PieceId) → NameTells i → NextPiece w ns i → ((j : ℕ) → i ≡ init_piece j → ⊥) → IsStarting ns w → ⊥
not_starting ns w i told next never z =
    never z.0 (names_tell i (init_piece z.0) told tt (some_of (id_tree i) (id_tree (init_piece z.0)) (sym next ∙ z.1)))

-- none
pub unnamed_answer : (m : Module) (ns ms : Text) (w : World) (o : Option programs.PieceId) → IsTyped m → ms ≡ ns → IsRunning ms w
    → o ≡ None → NamesAt w ms key_next o → IsAnswer m ns w (Err (faults.NoPlace None))
unnamed_answer m ns ms w o typed same running none named =
    subst (λ (n : Text). IsAnswer m n w (Err (faults.NoPlace None))) same (go o none named)
  where
    go : (o : Option programs.PieceId) → o ≡ None → NamesAt w ms key_next o → IsAnswer m ms w (Err (faults.NoPlace None))
    go None e h = (running, (λ z. h (init_piece z.0) tt z.1), nowhere_unnamed m (program_of m typed) ms w h, h)
    go (Some i) e h = absurd cc
