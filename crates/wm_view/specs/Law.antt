-- The law of views, which the contract of a public function cites.
use Rattle.std.specs.Prelude.{◌≡◌}
use Rattle.wm_ast.specs.Store.{Store}
use Rattle.wm_flat.specs.Flat.{Flat, config_of}
use Rattle.wm_view.specs.View.{view}
use Rattle.wm_view.specs.Seen.{seen}

-- the term for which a configuration of the machine stands shows what its activations show
abbrev pub ViewsAgree : Type 0
ViewsAgree = (s : Store) (c : Flat) → view (config_of s c) ≡ seen c
