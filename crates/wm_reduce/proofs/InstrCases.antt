-- What is left of instructions where no arm of the code names them.
use Rattle.std.proofs.Common.{◌≡◌, ℕ, List, Option, refl, sym, subst, rules}
use Rattle.mc_nbt.specs.declared.value.Value.{Value}
use Rattle.wm_ast.specs.declared.module.ValType.{ValType}
use Rattle.wm_ast.specs.declared.module.Module.{Module}
use Rattle.wm_ast.specs.declared.operation.NumOp.{NumOp}
use Rattle.wm_ast.specs.declared.operation.LoadOp.{LoadOp}
use Rattle.wm_ast.specs.declared.operation.StoreOp.{StoreOp}
use Rattle.wm_ast.specs.declared.instruction.Instr.{Instr, ind-Instr, roll-Instr, fold-roll-Instr, map-Instr, the_lemmas}
use Rattle.wm_ast.specs.declared.instruction.Instr.TheOpen.{Instr-F}
use Rattle.wm_ast.specs.declared.instruction.Instr.TheVariants as i
use Rattle.wm_ast.specs.Code.{Op}
use Rattle.wm_ast.specs.Simple.{simple, unfit}
use Rattle.wm_ast.specs.Store.{Store}
use Rattle.wm_ast.specs.View.{op_from, op_of}
use Rattle.wm_reduce.specs.steps.Plain.{IsPlain}

-- the instruction with one level seen
abbrev level : Instr-F Instr → Op
level x = op_from (map-Instr Instr Op op_of x)

by_level : (P : Instr → Op → Type 0) → ((x : Instr-F Instr) → P (roll-Instr x) (level x)) → (d : Instr) → P d (op_of d)
by_level P f = ind-Instr (λ d. P d (op_of d)) (λ x y e. subst (λ (o : Op). P (roll-Instr x) o) (sym (fold-roll-Instr Op op_from x)) (f x))

-- no instruction of control, and no constant
pub record IsNoControl (d : Instr) : Type 0 where
  pub block : (ty : Option ValType) (body : List Instr) → d ≡ i.Block ty body → ⊥
  pub loop : (ty : Option ValType) (body : List Instr) → d ≡ i.Loop ty body → ⊥
  pub choice : (ty : Option ValType) (first second : List Instr) → d ≡ i.If ty first second → ⊥
  pub br : (l : ℕ) → d ≡ i.Br l → ⊥
  pub br_if : (l : ℕ) → d ≡ i.BrIf l → ⊥
  pub br_table : (ls : List ℕ) (l : ℕ) → d ≡ i.BrTable ls l → ⊥
  pub return : d ≡ i.Return → ⊥
  pub call : (f : ℕ) → d ≡ i.Call f → ⊥
  pub call_indirect : (t : ℕ) → d ≡ i.CallIndirect t → ⊥
  pub const : (v : Value) → d ≡ i.Const v → ⊥

plain_at : (x : Instr-F Instr) → IsNoControl (roll-Instr x) → IsPlain (level x)
plain_at (Instr-F.Block ty body) o = absurd (o.block ty body (search (rules, the_lemmas)))
plain_at (Instr-F.Loop ty body) o = absurd (o.loop ty body (search (rules, the_lemmas)))
plain_at (Instr-F.If ty first second) o = absurd (o.choice ty first second (search (rules, the_lemmas)))
plain_at (Instr-F.Br l) o = absurd (o.br l (search (rules, the_lemmas)))
plain_at (Instr-F.BrIf l) o = absurd (o.br_if l (search (rules, the_lemmas)))
plain_at (Instr-F.BrTable ls l) o = absurd (o.br_table ls l (search (rules, the_lemmas)))
plain_at Instr-F.Return o = absurd (o.return (search (rules, the_lemmas)))
plain_at (Instr-F.Call f) o = absurd (o.call f (search (rules, the_lemmas)))
plain_at (Instr-F.CallIndirect t) o = absurd (o.call_indirect t (search (rules, the_lemmas)))
plain_at (Instr-F.Const v) o = absurd (o.const v (search (rules, the_lemmas)))
plain_at _ o = tt

pub is_plain : (d : Instr) → IsNoControl d → IsPlain (op_of d)
is_plain = by_level (λ d o. IsNoControl d → IsPlain o) plain_at

-- none of the instructions that the code executes
pub record IsOther (d : Instr) : Type 0 where
  pub unreachable : d ≡ i.Unreachable → ⊥
  pub nop : d ≡ i.Nop → ⊥
  pub drop_one : d ≡ i.DropOne → ⊥
  pub select : d ≡ i.Select → ⊥
  pub local_get : (x : ℕ) → d ≡ i.LocalGet x → ⊥
  pub local_set : (x : ℕ) → d ≡ i.LocalSet x → ⊥
  pub local_tee : (x : ℕ) → d ≡ i.LocalTee x → ⊥
  pub global_get : (x : ℕ) → d ≡ i.GlobalGet x → ⊥
  pub global_set : (x : ℕ) → d ≡ i.GlobalSet x → ⊥
  pub num : (op : NumOp) → d ≡ i.Num op → ⊥
  pub load : (op : LoadOp) (align offset : ℕ) → d ≡ i.Load op align offset → ⊥
  pub store : (op : StoreOp) (align offset : ℕ) → d ≡ i.Store op align offset → ⊥
  pub memory_size : d ≡ i.MemorySize → ⊥
  pub memory_grow : d ≡ i.MemoryGrow → ⊥
  pub memory_fill : d ≡ i.MemoryFill → ⊥
  pub memory_copy : d ≡ i.MemoryCopy → ⊥

module _ (m : Module) (s : Store) (own vs : List Value) where
  unfit_at : (x : Instr-F Instr) → IsOther (roll-Instr x) → simple m s own (level x) vs ≡ unfit
  unfit_at Instr-F.Unreachable o = absurd (o.unreachable (search (rules, the_lemmas)))
  unfit_at Instr-F.Nop o = absurd (o.nop (search (rules, the_lemmas)))
  unfit_at Instr-F.DropOne o = absurd (o.drop_one (search (rules, the_lemmas)))
  unfit_at Instr-F.Select o = absurd (o.select (search (rules, the_lemmas)))
  unfit_at (Instr-F.LocalGet x) o = absurd (o.local_get x (search (rules, the_lemmas)))
  unfit_at (Instr-F.LocalSet x) o = absurd (o.local_set x (search (rules, the_lemmas)))
  unfit_at (Instr-F.LocalTee x) o = absurd (o.local_tee x (search (rules, the_lemmas)))
  unfit_at (Instr-F.GlobalGet x) o = absurd (o.global_get x (search (rules, the_lemmas)))
  unfit_at (Instr-F.GlobalSet x) o = absurd (o.global_set x (search (rules, the_lemmas)))
  unfit_at (Instr-F.Num op) o = absurd (o.num op (search (rules, the_lemmas)))
  unfit_at (Instr-F.Load op align offset) o = absurd (o.load op align offset (search (rules, the_lemmas)))
  unfit_at (Instr-F.Store op align offset) o = absurd (o.store op align offset (search (rules, the_lemmas)))
  unfit_at Instr-F.MemorySize o = absurd (o.memory_size (search (rules, the_lemmas)))
  unfit_at Instr-F.MemoryGrow o = absurd (o.memory_grow (search (rules, the_lemmas)))
  unfit_at Instr-F.MemoryFill o = absurd (o.memory_fill (search (rules, the_lemmas)))
  unfit_at Instr-F.MemoryCopy o = absurd (o.memory_copy (search (rules, the_lemmas)))
  unfit_at _ o = refl

  pub is_unfit : (d : Instr) → IsOther d → simple m s own (op_of d) vs ≡ unfit
  is_unfit = by_level (λ d o. IsOther d → simple m s own o vs ≡ unfit) unfit_at
