-- Standings of which the state has all of a store: all but that of a memory that still grows.
use Rattle.std.specs.Prelude.{List}
use Rattle.wm_ast.specs.declared.module.Module.{Module}
use Rattle.wm_ast.specs.Store.{Store}
use Rattle.wm_flat.specs.Flat.{Activation}
use Rattle.cc_line.specs.State.{State}
use Rattle.cc_simulate.specs.Stands.{Standing, HasStore}
use Rattle.cc_simulate.specs.Stored.{Stored}

abbrev pub IsWhole : (m : Module) (cs : List Activation) (a : Activation) (s : State) → Standing m cs a s → Type 0
IsWhole m cs a s x = (st : Store) → Stored m st s → HasStore m st s x

abbrev pub Whole : Module → List Activation → Activation → State → Type 0
Whole m cs a s = (x : Standing m cs a s) × IsWhole m cs a s x
