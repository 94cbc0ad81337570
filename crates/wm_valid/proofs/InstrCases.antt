-- What the checks find at the instructions that no arm of the code names.
use Rattle.std.proofs.Common.{◌≡◌, ℕ, List, Option, None, refl, sym, subst, rules}
use Rattle.std.specs.Prelude.{option_map}
use Rattle.mc_nbt.specs.declared.value.Value.{Value}
use Rattle.wm_ast.specs.declared.module.ValType.{ValType}
use Rattle.wm_ast.specs.declared.operation.NumOp.{NumOp}
use Rattle.wm_ast.specs.declared.operation.LoadOp.{LoadOp}
use Rattle.wm_ast.specs.declared.operation.StoreOp.{StoreOp}
use Rattle.wm_ast.specs.declared.instruction.Instr.{Instr, ind-Instr, roll-Instr, fold-roll-Instr, map-Instr, the_lemmas}
use Rattle.wm_ast.specs.declared.instruction.Instr.TheOpen.{Instr-F}
use Rattle.wm_ast.specs.declared.instruction.Instr.TheVariants as i
use Rattle.wm_ast.specs.Code.{Op}
use Rattle.wm_ast.specs.View.{op_from, op_of}
use Rattle.wm_valid.specs.Typing.{Context, Scope}
use Rattle.wm_valid.specs.Arrows.{◌>>=◌, by_arrow, arrow_of, change}
use Rattle.wm_valid.specs.steps.Checking.{Shape, applied, simple_op}

-- the instruction with one level seen
abbrev level : Instr-F Instr → Op
level x = op_from (map-Instr Instr Op op_of x)

by_level : (P : Instr → Op → Type 0) → ((x : Instr-F Instr) → P (roll-Instr x) (level x)) → (d : Instr) → P d (op_of d)
by_level P f = ind-Instr (λ d. P d (op_of d)) (λ x y e. subst (λ (o : Op). P (roll-Instr x) o) (sym (fold-roll-Instr Op op_from x)) (f x))

-- none of the instructions that have one type whatever the labels
pub record IsOther (d : Instr) : Type 0 where
  pub nop : d ≡ i.Nop → ⊥
  pub call : (f : ℕ) → d ≡ i.Call f → ⊥
  pub local_get : (x : ℕ) → d ≡ i.LocalGet x → ⊥
  pub local_set : (x : ℕ) → d ≡ i.LocalSet x → ⊥
  pub local_tee : (x : ℕ) → d ≡ i.LocalTee x → ⊥
  pub global_get : (x : ℕ) → d ≡ i.GlobalGet x → ⊥
  pub global_set : (x : ℕ) → d ≡ i.GlobalSet x → ⊥
  pub load : (op : LoadOp) (align offset : ℕ) → d ≡ i.Load op align offset → ⊥
  pub store : (op : StoreOp) (align offset : ℕ) → d ≡ i.Store op align offset → ⊥
  pub memory_size : d ≡ i.MemorySize → ⊥
  pub memory_grow : d ≡ i.MemoryGrow → ⊥
  pub memory_copy : d ≡ i.MemoryCopy → ⊥
  pub memory_fill : d ≡ i.MemoryFill → ⊥
  pub const : (v : Value) → d ≡ i.Const v → ⊥
  pub num : (op : NumOp) → d ≡ i.Num op → ⊥

no_arrow_at : (S : Scope) (x : Instr-F Instr) → IsOther (roll-Instr x) → arrow_of (level x) S ≡ None
no_arrow_at S Instr-F.Nop o = absurd (o.nop (search (rules, the_lemmas)))
no_arrow_at S (Instr-F.Call f) o = absurd (o.call f (search (rules, the_lemmas)))
no_arrow_at S (Instr-F.LocalGet x) o = absurd (o.local_get x (search (rules, the_lemmas)))
no_arrow_at S (Instr-F.LocalSet x) o = absurd (o.local_set x (search (rules, the_lemmas)))
no_arrow_at S (Instr-F.LocalTee x) o = absurd (o.local_tee x (search (rules, the_lemmas)))
no_arrow_at S (Instr-F.GlobalGet x) o = absurd (o.global_get x (search (rules, the_lemmas)))
no_arrow_at S (Instr-F.GlobalSet x) o = absurd (o.global_set x (search (rules, the_lemmas)))
no_arrow_at S (Instr-F.Load op align offset) o = absurd (o.load op align offset (search (rules, the_lemmas)))
no_arrow_at S (Instr-F.Store op align offset) o = absurd (o.store op align offset (search (rules, the_lemmas)))
no_arrow_at S Instr-F.MemorySize o = absurd (o.memory_size (search (rules, the_lemmas)))
no_arrow_at S Instr-F.MemoryGrow o = absurd (o.memory_grow (search (rules, the_lemmas)))
no_arrow_at S Instr-F.MemoryCopy o = absurd (o.memory_copy (search (rules, the_lemmas)))
no_arrow_at S Instr-F.MemoryFill o = absurd (o.memory_fill (search (rules, the_lemmas)))
no_arrow_at S (Instr-F.Const v) o = absurd (o.const v (search (rules, the_lemmas)))
no_arrow_at S (Instr-F.Num op) o = absurd (o.num op (search (rules, the_lemmas)))
no_arrow_at S _ o = refl

pub no_arrow : (S : Scope) (d : Instr) → IsOther d → arrow_of (op_of d) S ≡ None
no_arrow S = by_level (λ d o. IsOther d → arrow_of o S ≡ None) (no_arrow_at S)

-- none of the instructions that have types of any number, or that depend on the labels or the table
pub record IsArrow (d : Instr) : Type 0 where
  pub unreachable : d ≡ i.Unreachable → ⊥
  pub br : (l : ℕ) → d ≡ i.Br l → ⊥
  pub br_if : (l : ℕ) → d ≡ i.BrIf l → ⊥
  pub br_table : (ls : List ℕ) (l : ℕ) → d ≡ i.BrTable ls l → ⊥
  pub return : d ≡ i.Return → ⊥
  pub call_indirect : (n : ℕ) → d ≡ i.CallIndirect n → ⊥
  pub drop_one : d ≡ i.DropOne → ⊥
  pub select : d ≡ i.Select → ⊥

checked_at : (C : Context) (s : Shape) (x : Instr-F Instr) → IsArrow (roll-Instr x) → simple_op (level x) C s ≡ (arrow_of (level x) C.scope >>= applied s)
checked_at C s Instr-F.Unreachable a = absurd (a.unreachable (search (rules, the_lemmas)))
checked_at C s (Instr-F.Br l) a = absurd (a.br l (search (rules, the_lemmas)))
checked_at C s (Instr-F.BrIf l) a = absurd (a.br_if l (search (rules, the_lemmas)))
checked_at C s (Instr-F.BrTable ls l) a = absurd (a.br_table ls l (search (rules, the_lemmas)))
checked_at C s Instr-F.Return a = absurd (a.return (search (rules, the_lemmas)))
checked_at C s (Instr-F.CallIndirect n) a = absurd (a.call_indirect n (search (rules, the_lemmas)))
checked_at C s Instr-F.DropOne a = absurd (a.drop_one (search (rules, the_lemmas)))
checked_at C s Instr-F.Select a = absurd (a.select (search (rules, the_lemmas)))
checked_at C s _ a = refl

pub checked_by_arrow : (C : Context) (s : Shape) (d : Instr) → IsArrow d → simple_op (op_of d) C s ≡ (arrow_of (op_of d) C.scope >>= applied s)
checked_by_arrow C s = by_level (λ d o. IsArrow d → simple_op o C s ≡ (arrow_of o C.scope >>= applied s)) (checked_at C s)

-- none of the instructions whose change isn't told by one type
pub record IsPlainChange (d : Instr) : Type 0 where
  pub block : (ty : Option ValType) (body : List Instr) → d ≡ i.Block ty body → ⊥
  pub loop : (ty : Option ValType) (body : List Instr) → d ≡ i.Loop ty body → ⊥
  pub if_else : (ty : Option ValType) (first second : List Instr) → d ≡ i.If ty first second → ⊥
  pub br_if : (l : ℕ) → d ≡ i.BrIf l → ⊥
  pub call_indirect : (n : ℕ) → d ≡ i.CallIndirect n → ⊥
  pub drop_one : d ≡ i.DropOne → ⊥
  pub select : d ≡ i.Select → ⊥

changed_at : (S : Scope) (x : Instr-F Instr) → IsPlainChange (roll-Instr x) → change (level x) S ≡ option_map by_arrow (arrow_of (level x) S)
changed_at S (Instr-F.Block ty body) a = absurd (a.block ty body (search (rules, the_lemmas)))
changed_at S (Instr-F.Loop ty body) a = absurd (a.loop ty body (search (rules, the_lemmas)))
changed_at S (Instr-F.If ty first second) a = absurd (a.if_else ty first second (search (rules, the_lemmas)))
changed_at S (Instr-F.BrIf l) a = absurd (a.br_if l (search (rules, the_lemmas)))
changed_at S (Instr-F.CallIndirect n) a = absurd (a.call_indirect n (search (rules, the_lemmas)))
changed_at S Instr-F.DropOne a = absurd (a.drop_one (search (rules, the_lemmas)))
changed_at S Instr-F.Select a = absurd (a.select (search (rules, the_lemmas)))
changed_at S _ a = refl

pub changed_by_arrow : (S : Scope) (d : Instr) → IsPlainChange d → change (op_of d) S ≡ option_map by_arrow (arrow_of (op_of d) S)
changed_by_arrow S = by_level (λ d o. IsPlainChange d → change o S ≡ option_map by_arrow (arrow_of o S)) (changed_at S)
