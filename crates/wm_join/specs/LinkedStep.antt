-- One step of linked modules: as `Step` of `wm_ast`, row by row, but that each index is read in the module of the
-- innermost frame, and an imported item is the one that the import is bound to.
use Rattle.std.specs.Prelude.{ℕ, zero, suc, ◌&&◌, List, [], ◌∷◌, ◌++◌, length, drop, reverse}
use Rattle.std.specs.Prelude.{Option, Some, None, slice_get, nat_lt, if◌then◌else◌, ℤ}
use Rattle.std.specs.Int.{w32, cast_unsigned}
use Rattle.mc_nbt.specs.declared.value.Value.{Value}
use Rattle.mc_nbt.specs.declared.value.Value.TheVariants.{I32}
use Rattle.wm_ast.specs.declared.answer.TrapKind.{TrapKind}
use Rattle.wm_ast.specs.declared.answer.TrapKind.TheVariants.{UndefinedElement, UninitializedElement, TypeMismatch}
use Rattle.wm_ast.specs.declared.answer.TrapKind.TheVariants.{StackExhausted}
use Rattle.wm_ast.specs.declared.limit.TheConstants.{MAX_FRAMES}
use Rattle.wm_ast.specs.declared.module.Func.{Func}
use Rattle.wm_ast.specs.declared.module.FuncType.{FuncType}
use Rattle.wm_ast.specs.declared.module.Module.{Module}
use Rattle.wm_ast.specs.declared.module.Space.TheVariants as spaces
use Rattle.wm_ast.specs.Code.{Op, block, loop, if_else, br, br_if, br_table, return, call, call_indirect, Code, nil, cons}
use Rattle.wm_ast.specs.Simple.{Executed, done, repeats, fault, unfit, if_nonzero, simple}
use Rattle.wm_ast.specs.Step.{arity, top, chosen}
use Rattle.wm_ast.specs.Store.{Callee}
use Rattle.wm_ast.specs.Types.{function_type, same_types}
use Rattle.wm_match.specs.declared.library.Binding.{Binding}
use Rattle.wm_match.specs.Program.{Program, module_at}
use Rattle.wm_match.specs.Space.{stands_for}
use Rattle.wm_join.specs.Joined.{main_number}
use Rattle.wm_join.specs.LinkedConfiguration.{Item, value, instruction, invoke, label, frame, Items, empty, more, Config}
use Rattle.wm_join.specs.LinkedConfiguration.{items_of, append, after_values}
use Rattle.wm_join.specs.LinkedStore.{Store, own_store, with_own, with_memories, type_at, callee_of}

-- what the next item comes to
pub data Effect : Type 0 where
  -- the store, the locals, the operands that are left, and what stands in the place of the item
  becomes : Store → List Value → List Value → Items → Effect
  -- a branch out of so many further labels, and a return, with the operands before it
  branches : ℕ → List Value → Effect
  returns : List Value → Effect
  traps : TrapKind → Effect
  no_rule : Effect

-- what a sequence comes to
pub data Reduct : Type 0 where
  -- it is values alone
  values : List Value → Reduct
  rewritten : Store → List Value → Items → Reduct
  branching : ℕ → List Value → Reduct
  returning : List Value → Reduct
  trapping : TrapKind → Reduct
  irreducible : Reduct

-- Calls through the table (4.4.5.11).

-- what the element at an index leads to
pub data Target : Type 0 where
  function : Binding → Target
  refused : TrapKind → Target
  -- the type, the module or the function isn't there
  unknown : Target

-- the function, where it has the type, as types are written
abbrev pub of_type : FuncType → Binding → Option FuncType → Target
of_type t f None = unknown
of_type t f (Some u) =
    if same_types u.params t.params && same_types u.results t.results then function f else refused TypeMismatch

-- the type of the function in the module that defines it, and which it is
abbrev pub checked : Module → FuncType → Binding → Option Func → Target
checked m t f None = unknown
checked m t f (Some g) = of_type t f (function_type m g)

-- the same, by the module that defines it
abbrev pub checked_in : FuncType → Binding → Option Module → Target
checked_in t f None = unknown
checked_in t f (Some m) = checked m t f (slice_get m.funcs f.index)

-- first that the index is within the table, then that the element isn't empty, then the type
abbrev pub element : Program → FuncType → Option (Option Binding) → Target
element p t None = refused UndefinedElement
element p t (Some None) = refused UninitializedElement
element p t (Some (Some f)) = checked_in t f (module_at p f.module)

-- the same, by the type that is asked for
abbrev pub target_of : Program → Option FuncType → Option (Option Binding) → Target
target_of p None found = unknown
target_of p (Some t) found = element p t found

-- what the element at the index leads to, for a call in the module of number k of the type of index n
abbrev pub target : Program → ℕ → Store → ℕ → ℤ → Target
target p k s n i = target_of p (type_at p k n) (slice_get s.table (cast_unsigned w32 i))

-- the modules, the number of the one whose function the innermost frame is of, the number of frames round the item, the
-- store, and the locals of the innermost frame
module _ (p : Program) (here depth : ℕ) (s : Store) (locals : List Value) where
  -- what an instruction without a body comes to (4.4.1 to 4.4.5): values stand in its place, or it itself
  abbrev pub effect_of : Op → Executed → Effect
  effect_of i (done own locals' vs) = becomes (with_own here s own) locals' vs empty
  effect_of i (repeats own vs) = becomes (with_own here s own) locals vs (more (instruction i) empty)
  effect_of i (fault k) = traps k
  effect_of i unfit = no_rule

  -- Calls (4.4.7.1).

  -- the frame of a call over these arguments
  abbrev pub called : Binding → Callee → List Value → Item
  called f c us =
      frame
      (arity c.gives) f
      (reverse us ++ c.zeros)
      (more (label (arity c.gives) nil (items_of c.body)) empty)

  -- a call over these arguments, where there are so many
  abbrev pub enter_over : Binding → Callee → List Value → Option (List Value) → Effect
  enter_over f c vs None = no_rule
  enter_over f c vs (Some us) = becomes s locals (drop (length c.takes) vs) (more (called f c us) empty)

  -- a call; how many frames may stand round it is a limit of the implementation (7.2.3), and those of all modules count
  abbrev pub enter : Binding → List Value → Option Callee → Effect
  enter f vs None = no_rule
  enter f vs (Some c) =
      if nat_lt depth MAX_FRAMES then enter_over f c vs (top (length c.takes) vs) else traps StackExhausted

  -- the call of what an index stands for
  abbrev pub enter_named : List Value → Option Binding → Effect
  enter_named vs None = no_rule
  enter_named vs (Some f) = enter f vs (callee_of p f)

  -- `invoke` stands in the place of a call through the table
  abbrev pub enter_target : List Value → Target → Effect
  enter_target vs (function f) = becomes s locals vs (more (invoke f) empty)
  enter_target vs (refused k) = traps k
  enter_target vs unknown = no_rule

  -- an instruction over these operands
  abbrev pub op_step : Op → List Value → Effect
  -- 4.4.5.3, 4.4.5.4, 4.4.5.5
  op_step (block ty body) vs = becomes s locals vs (more (label (arity ty) nil (items_of body)) empty)
  op_step (loop ty body) vs = becomes s locals vs (more (label 0 (cons (loop ty body) nil) (items_of body)) empty)
  op_step (if_else ty first second) (I32 c ∷ vs) =
      becomes s locals vs (more (label (arity ty) nil (items_of (if_nonzero c first second))) empty)
  -- 4.4.5.6, 4.4.5.7, 4.4.5.8, 4.4.5.9
  op_step (br l) vs = branches l vs
  op_step (br_if l) (I32 c ∷ vs) = becomes s locals vs (if_nonzero c (more (instruction (br l)) empty) empty)
  op_step (br_table ls l) (I32 i ∷ vs) = becomes s locals vs (more (instruction (br (chosen ls l i))) empty)
  op_step return vs = returns vs
  -- 4.4.5.10, 4.4.5.11
  op_step (call f) vs = enter_named vs (stands_for p spaces.Func here f)
  op_step (call_indirect n) (I32 i ∷ vs) = enter_target vs (target p here s n i)
  op_step i vs = effect_of i (simple (with_memories p) (own_store here s) locals i vs)

-- what a branch or a return takes along stands over the other operands, and then what follows
abbrev pub lands : Store → List Value → List Value → Items → Option (List Value) → Effect
lands s locals vs is None = no_rule
lands s locals vs is (Some us) = becomes s locals vs (after_values us is)

-- a label, by what its body comes to (4.4.6)
abbrev pub at_label : Store → List Value → ℕ → Code → List Value → Reduct → Effect
at_label s locals n again vs (values ws) = becomes s locals vs (after_values ws empty)
at_label s locals n again vs (rewritten s' own is) = becomes s' own vs (more (label n again is) empty)
at_label s locals n again vs (branching zero ws) = lands s locals vs (items_of again) (top n ws)
at_label s locals n again vs (branching (suc l) ws) = branches l ws
at_label s locals n again vs (returning ws) = returns ws
at_label s locals n again vs (trapping k) = traps k
at_label s locals n again vs irreducible = no_rule

-- a frame, by what its body comes to (4.4.7.2); no branch leaves a frame
abbrev pub at_frame : Store → List Value → ℕ → Binding → List Value → Reduct → Effect
at_frame s locals n f vs (values ws) = becomes s locals vs (after_values ws empty)
at_frame s locals n f vs (rewritten s' own is) = becomes s' locals vs (more (frame n f own is) empty)
at_frame s locals n f vs (branching l ws) = no_rule
at_frame s locals n f vs (returning ws) = lands s locals vs empty (top n ws)
at_frame s locals n f vs (trapping k) = traps k
at_frame s locals n f vs irreducible = no_rule

-- a sequence, by what its next item comes to and what stands behind it
abbrev pub go_on : Items → Effect → Reduct
go_on rest (becomes s locals vs is) = rewritten s locals (after_values vs (append is rest))
go_on rest (branches l vs) = branching l vs
go_on rest (returns vs) = returning vs
go_on rest (traps k) = trapping k
go_on rest no_rule = irreducible

-- what a configuration comes to: another one, an end with values, a trap, or nothing, where no rule fits
pub data Progress : Type 0 where
  Next : Config → Progress
  Ended : List Value → Store → Progress
  Trapped : TrapKind → Store → Progress
  Stuck : Progress

-- at a trap the store stays
abbrev pub progress : Store → Reduct → Progress
progress s (values vs) = Ended (reverse vs) s
progress s (rewritten s' locals is) = Next (record { store = s'; term = is })
progress s (branching l vs) = Stuck
progress s (returning vs) = Stuck
progress s (trapping k) = Trapped k s
progress s irreducible = Stuck

module _ (p : Program) where
  -- a sequence, by the module of the innermost frame, the number of frames round it, the store, the locals of the
  -- innermost frame, and the values that stand before it
  abbrev pub items_step : Items → ℕ → ℕ → Store → List Value → List Value → Reduct
  items_step empty here depth s locals vs = values vs
  items_step (more (value v) is) here depth s locals vs = items_step is here depth s locals (v ∷ vs)
  items_step (more (instruction i) is) here depth s locals vs = go_on is (op_step p here depth s locals i vs)
  items_step (more (invoke f) is) here depth s locals vs =
      go_on is (enter p here depth s locals f vs (callee_of p f))
  items_step (more (label n again body) is) here depth s locals vs =
      go_on is (at_label s locals n again vs (items_step body here depth s locals []))
  items_step (more (frame n f own body) is) here depth s locals vs =
      go_on is (at_frame s locals n f vs (items_step body f.module (suc depth) s own []))

  -- what the term of a configuration comes to; outside of all frames indices are read in the main module
  abbrev pub reduct : Config → Reduct
  reduct c = items_step c.term (main_number p) 0 c.store [] []

  -- one step
  abbrev pub step : Config → Progress
  step c = progress c.store (reduct c)
