-- That a move of the machine is so many steps of the reduction.
use Rattle.std.specs.Prelude.{◌≡◌, ℕ, zero, suc, reverse}
use Rattle.wm_ast.specs.declared.module.Module.{Module}
use Rattle.wm_ast.specs.After.{settled}
use Rattle.wm_ast.specs.Configuration.{Config}
use Rattle.wm_ast.specs.Step.{Next, Ended, Trapped, Stuck, step}
use Rattle.wm_ast.specs.Store.{Store}
use Rattle.wm_flat.specs.Flat.{Moved, goes, fails, over, none, config_of}

-- so many steps lead from the one configuration to the other
abbrev pub Reach : Module → ℕ → Config → Config → Type 0
Reach m zero c d = c ≡ d
Reach m (suc n) c d = (e : Config) × (step m c ≡ Next e) × Reach m n e d

-- From the configuration c, which has this store, the reduction does what the move tells.
abbrev pub Steps : Module → Store → Config → Moved → Type 0
Steps m s c (goes n s' f) = Reach m n c (config_of s' f)
Steps m s c (fails n k) = (d : Config) × (d.store ≡ s) × Reach m n c d × (step m d ≡ Trapped k s)
Steps m s c (over vs) = settled m (Next c) ≡ Ended (reverse vs) s
Steps m s c none = Unit {0}

-- after some steps no rule fits
abbrev pub IsStuck : Module → Config → Type 0
IsStuck m c = (n : ℕ) × (d : Config) × Reach m n c d × (step m d ≡ Stuck)
