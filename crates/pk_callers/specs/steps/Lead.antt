-- Callers that wait with some entries, before all of them are gone through.
use Rattle.std.specs.Prelude.{◌≡◌, ℕ, List, [], ◌∷◌, ◌++◌, reverse}
use Rattle.wm_ast.specs.declared.module.Module.{Module}
use Rattle.wm_ast.specs.declared.module.ValType.{ValType}
use Rattle.wm_flat.specs.Flat.{Activation}
use Rattle.wm_view.specs.declared.view.FrameView.{FrameView}
use Rattle.wm_view.specs.Seen.{frames_round}
use Rattle.cc_line.specs.Running.{Kept}
use Rattle.cc_move.specs.Calls.{gives_of}
use Rattle.cc_simulate.specs.Callers.{Waiting}

-- Callers with these entries, the innermost first, wait for a function that gives this, and these are their frames; the
-- function of the last of them gives those.
pub record Lead (m : Module) (gives : List ValType) (ys : List Kept) (fs : List FrameView) (own : List ValType)
    : Type 0 where
  pub some : (n : ℕ) → gives_of m n ≡ reverse gives → (k : ℕ) × (gives_of m k ≡ reverse own)
  -- who waits for such a function is the caller with all entries
  pub onward : (n k : ℕ) → gives_of m n ≡ reverse gives → gives_of m k ≡ reverse own → (ds : List Activation) (bs : List Kept) → Waiting m k ds bs
      → (cs : List Activation) × Waiting m n cs (bs ++ reverse ys) × (frames_round cs [] ≡ frames_round ds [] ++ reverse fs)
  -- and there is no other way to wait with them, over one entry at least
  pub back : (n : ℕ) (cs : List Activation) (b : Kept) (bs : List Kept) → gives_of m n ≡ reverse gives → Waiting m n cs ((b ∷ bs) ++ reverse ys)
      → (k : ℕ) × (ds : List Activation) × (gives_of m k ≡ reverse own) × Waiting m k ds (b ∷ bs)

-- the same of entries in their order
pub record IsLed (m : Module) (gives : List ValType) (bs : List Kept) (fs : List FrameView) (own : List ValType)
    : Type 0 where
  pub inner : List Kept
  pub turned : bs ≡ reverse inner
  pub lead : Lead m gives inner fs own
