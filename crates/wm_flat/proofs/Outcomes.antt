-- What becomes of a configuration: that it is only one thing, and what moves tell of it.
use Rattle.std.proofs.Common.{◌≡◌, ℕ, suc, ◌+◌, List, reverse, Option, Some, None, refl, sym, ap, subst, ◌∙◌}
use Rattle.std.proofs.Common.{arith}
use Rattle.mc_nbt.specs.declared.value.Value.{Value}
use Rattle.wm_ast.specs.declared.answer.TrapKind.{TrapKind}
use Rattle.wm_ast.specs.declared.module.Module.{Module}
use Rattle.wm_ast.specs.After.{after, one_more, IsNext, Outcome, Ends, Traps, Runs, HasOutcome}
use Rattle.wm_ast.specs.Configuration.{Items, Config}
use Rattle.wm_ast.specs.Instance.{first_store, start_term, first_config, call_config}
use Rattle.wm_ast.specs.Step.{Progress, Ended, Trapped}
use Rattle.wm_ast.specs.Store.{Store}
use Rattle.wm_flat.specs.Flat.{over, fails, term_of, config_of, first_flat, call_flat}
use Rattle.wm_flat.specs.Runs.{State, config, moved, Leads}
use Rattle.wm_flat.proofs.Consequences.{over_stays, ends_with, trap_after}

abbrev outcome : Progress → Outcome
outcome (Ended vs s) = Ends vs s
outcome (Trapped k s) = Traps k s
outcome _ = Runs

module _ (m : Module) (c : Config) where
  -- what was over after some steps, and after some others
  both_over : (n k : ℕ) (p q : Progress) → after m c n ≡ p → after m c k ≡ q → one_more m p ≡ p → one_more m q ≡ q
      → outcome p ≡ outcome q
  both_over n k p q e h u v =
      let z : n + k ≡ k + n = omega arith in
      ap outcome (sym (over_stays m c p n k e u) ∙ ap (after m c) z ∙ over_stays m c q k n h v)

  pub one_outcome : (x y : Outcome) → HasOutcome m c x → HasOutcome m c y → x ≡ y
  one_outcome (Ends vs s) (Ends ws t) h g = both_over h.0 g.0 (Ended vs s) (Ended ws t) h.1 g.1 refl refl
  one_outcome (Ends vs s) (Traps k t) h g = both_over h.0 g.0 (Ended vs s) (Trapped k t) h.1 g.1 refl refl
  one_outcome (Ends vs s) Runs h g = absurd (subst IsNext h.1 (g h.0))
  one_outcome (Traps k s) (Ends ws t) h g = both_over h.0 g.0 (Trapped k s) (Ended ws t) h.1 g.1 refl refl
  one_outcome (Traps k s) (Traps j t) h g = both_over h.0 g.0 (Trapped k s) (Trapped j t) h.1 g.1 refl refl
  one_outcome (Traps k s) Runs h g = absurd (subst IsNext h.1 (g h.0))
  one_outcome Runs (Ends ws t) h g = absurd (subst IsNext g.1 (h g.0))
  one_outcome Runs (Traps j t) h g = absurd (subst IsNext g.1 (h g.0))
  one_outcome Runs Runs h g = refl

-- the configuration with which a call begins
pub call_is : (s : Store) (f : ℕ) (arguments : List Value)
    → config_of s (call_flat f arguments) ≡ call_config s f arguments
call_is s f arguments = refl

start_is : (o : Option ℕ) → term_of (first_flat o) ≡ start_term o
start_is None = refl
start_is (Some f) = refl

module _ (m : Module) where
  pub end_is : (n : ℕ) (c d : State) (vs : List Value) → Leads m n c d → moved m d ≡ over vs
      → HasOutcome m (config c) (Ends (reverse vs) d.store)
  end_is n c d vs h e = (n + 0, ends_with m n 0 c d vs h e)

  pub trap_is : (n i : ℕ) (k : TrapKind) (c d : State) → Leads m n c d → moved m d ≡ fails i k
      → HasOutcome m (config c) (Traps k d.store)
  trap_is n i k c d h e = (n + i + suc 0, trap_after m n i 0 k c d h e)

  -- the configuration with which a program begins
  pub first_is : config_of (first_store m) (first_flat m.start) ≡ first_config m
  first_is = ap (λ (is : Items). record { store = first_store m; term = is }) (start_is m.start)
