-- Which frames the callers of a function show that wait with entries.
use Rattle.std.specs.Prelude.{◌≡◌, ℕ, List, [], reverse}
use Rattle.wm_ast.specs.declared.module.Module.{Module}
use Rattle.wm_ast.specs.declared.module.ValType.{ValType}
use Rattle.wm_flat.specs.Flat.{Activation}
use Rattle.wm_view.specs.declared.view.FrameView.{FrameView}
use Rattle.wm_view.specs.Seen.{frames_round, waiting_frame}
use Rattle.cc_line.specs.Running.{Kept}
use Rattle.cc_move.specs.Calls.{gives_of}
use Rattle.cc_simulate.specs.Callers.{Waits, Waiting}

-- ---- all callers

-- callers of the function wait with these entries, and show these frames, the outermost first
pub record CallersShown (m : Module) (n : ℕ) (bs : List Kept) (fs : List FrameView) : Type 0 where
  pub callers : List Activation
  pub waiting : Waiting m n callers bs
  pub shown : fs ≡ frames_round callers []

-- so it is for each function that gives this
abbrev pub ShowCallers : Module → List ValType → List Kept → List FrameView → Type 0
ShowCallers m gives bs fs = (n : ℕ) → gives_of m n ≡ reverse gives → CallersShown m n bs fs

-- none of them has callers that wait so
abbrev pub HaveNoCallers : Module → List ValType → List Kept → Type 0
HaveNoCallers m gives bs =
    (n : ℕ) (cs : List Activation) → gives_of m n ≡ reverse gives → Waiting m n cs bs → ⊥

-- ---- one caller

-- a caller of the function waits with this entry, and shows this frame
pub record WaitsShown (m : Module) (n : ℕ) (b : Kept) (f : FrameView) : Type 0 where
  pub caller : Activation
  pub waits : Waits m n caller b
  pub shown : f ≡ waiting_frame caller

-- so it is for each function that gives this; and a caller with this entry is of the frame's function, which gives those
pub record CallerShown (m : Module) (gives : List ValType) (b : Kept) (f : FrameView) (own : List ValType)
    : Type 0 where
  pub each : (n : ℕ) → gives_of m n ≡ reverse gives → WaitsShown m n b f
  pub only : (n : ℕ) (c : Activation) → Waits m n c b → c.func ≡ f.func
  pub own_is : gives_of m f.func ≡ reverse own

-- none of them has a caller that waits so
abbrev pub HasNoCaller : Module → List ValType → Kept → Type 0
HasNoCaller m gives b = (n : ℕ) (c : Activation) → gives_of m n ≡ reverse gives → Waits m n c b → ⊥
