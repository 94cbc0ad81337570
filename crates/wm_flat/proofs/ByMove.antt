-- One step of the reduction by one move, for views of the machine that leave places out: a term has none.
use Rattle.std.proofs.Common.{◌≡◌, List, reverse, ap, ◌∙◌}
use Rattle.mc_nbt.specs.declared.value.Value.{Value}
use Rattle.wm_ast.specs.declared.answer.TrapKind.{TrapKind}
use Rattle.wm_ast.specs.declared.module.Module.{Module}
use Rattle.wm_ast.specs.After.{settled}
use Rattle.wm_ast.specs.Configuration.{Items}
use Rattle.wm_ast.specs.Step.{Next, Ended, Trapped, step}
use Rattle.wm_ast.specs.Store.{Store}
use Rattle.wm_flat.specs.Flat.{Flat, goes, fails, over, term_of, config_of, move}
use Rattle.wm_flat.proofs.Consequences.{agrees_with}

module _ (m : Module) (s : Store) (c : Flat) where
  -- a move to d is a step to whatever has the term of d
  pub one_step : (s' : Store) (d e : Flat) → move m s c ≡ goes 1 s' d → term_of d ≡ term_of e
      → step m (config_of s c) ≡ Next (config_of s' e)
  one_step s' d e w t =
      let h = agrees_with m s c (goes 1 s' d) w in
      h.1 ∙ ap Next h.2 ∙ ap (λ (is : Items). Next (record { store = s'; term = is })) t

  -- a move of no step leads to the same term
  pub no_step : (s' : Store) (d : Flat) → move m s c ≡ goes 0 s' d → config_of s c ≡ config_of s' d
  no_step s' d w = agrees_with m s c (goes 0 s' d) w

  pub trap_step : (k : TrapKind) → move m s c ≡ fails 0 k → step m (config_of s c) ≡ Trapped k s
  trap_step k w = let h = agrees_with m s c (fails 0 k) w in ap (step m) h.2 ∙ h.3

  pub end_step : (vs : List Value) → move m s c ≡ over vs
      → settled m (Next (config_of s c)) ≡ Ended (reverse vs) s
  end_step vs w = agrees_with m s c (over vs) w
