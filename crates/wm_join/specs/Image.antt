-- What a configuration of linked modules is as one of the joined module.
use Rattle.std.specs.Prelude.{◌≡◌, ℕ, length, map, Option, option_map}
use Rattle.mc_nbt.specs.declared.value.Value.{Value}
use Rattle.wm_ast.specs.declared.module.Space.TheVariants as spaces
use Rattle.wm_ast.specs.After as one_after
use Rattle.wm_ast.specs.Code.{call}
use Rattle.wm_ast.specs.Configuration as one
use Rattle.wm_ast.specs.Step as one_step
use Rattle.wm_ast.specs.Store as one_store
use Rattle.wm_match.specs.declared.library.Binding.{Binding}
use Rattle.wm_match.specs.Program.{Program, modules}
use Rattle.wm_match.specs.Space.{own_count}
use Rattle.wm_join.specs.Joined.{item_number, renumbering, main_number}
use Rattle.wm_join.specs.LinkedAfter.{Outcome, Ends, Traps, Runs}
use Rattle.wm_join.specs.LinkedConfiguration.{Item, value, instruction, invoke, label, frame, Items, empty, more, Config}
use Rattle.wm_join.specs.LinkedStep.{Progress, Next, Ended, Trapped, Stuck}
use Rattle.wm_join.specs.LinkedStore.{Store}
use Rattle.wm_join.specs.Numbering.{joined_lists}
use Rattle.wm_join.specs.Renumbered.{renumbered_op, renumbered}

-- the store has as many globals of each module as the module
abbrev pub HasGlobals : Program → Store → Type 0
HasGlobals p s = map (length {A = Value}) s.globals ≡ map (own_count spaces.Global) (modules p)

module _ (p : Program) where
  -- an element of the table: the number of the function among the joined ones
  abbrev pub image_element : Option Binding → Option ℕ
  image_element e = option_map (item_number p spaces.Func) e

  -- a store: the globals stand one after the other
  abbrev pub image_store : Store → one_store.Store
  image_store s = record {
    globals = joined_lists s.globals;
    memory = s.memory;
    table = map image_element s.table;
  }

  abbrev mutual
    -- an item that stands in a frame whose function is of the module of number k
    pub image_item : ℕ → Item → one.Item
    image_item k (value v) = one.value v
    image_item k (instruction i) = one.instruction (renumbered_op (renumbering p k) i)
    image_item k (invoke f) = one.instruction (call (item_number p spaces.Func f))
    image_item k (label n again body) = one.label n (renumbered (renumbering p k) again) (image_items k body)
    image_item k (frame n f locals body) =
        one.frame n (item_number p spaces.Func f) locals (image_items f.module body)

    -- a term of such items
    pub image_items : ℕ → Items → one.Items
    image_items k empty = one.empty
    image_items k (more i is) = one.more (image_item k i) (image_items k is)

  -- a configuration
  abbrev pub image_config : Config → one.Config
  image_config c = record { store = image_store c.store; term = image_items (main_number p) c.term }

  -- what a configuration comes to
  abbrev pub image_progress : Progress → one_step.Progress
  image_progress (Next c) = one_step.Next (image_config c)
  image_progress (Ended vs s) = one_step.Ended vs (image_store s)
  image_progress (Trapped k s) = one_step.Trapped k (image_store s)
  image_progress Stuck = one_step.Stuck

  -- what becomes of a configuration
  abbrev pub image_outcome : Outcome → one_after.Outcome
  image_outcome (Ends vs s) = one_after.Ends vs (image_store s)
  image_outcome (Traps k s) = one_after.Traps k (image_store s)
  image_outcome Runs = one_after.Runs
