-- The view of an instruction forgets nothing.
use Rattle.std.proofs.Common.{◌≡◌, List, [], ◌∷◌, map, refl, sym, ap, subst, ◌∙◌, rules}
use Rattle.wm_ast.specs.declared.instruction.Instr.{Instr, ind-Instr, roll-Instr, fold-roll-Instr, map-Instr, the_lemmas}
use Rattle.wm_ast.specs.declared.instruction.Instr.TheVariants as i
use Rattle.wm_ast.specs.declared.instruction.Instr.TheOpen.{Instr-F}
use Rattle.wm_ast.specs.Code.{Op, unreachable, nop, block, loop, if_else, br, br_if, br_table, return, call, call_indirect, drop_one, select, local_get, local_set, local_tee, global_get, global_set, load, store, memory_size, memory_grow, memory_copy, memory_fill, const, num, float, mul64, Code, nil, cons}
use Rattle.wm_ast.specs.View.{code_from, op_from, op_of, code_of, instr_of, instrs_of}

abbrev Back : Instr → Type 0
Back d = instr_of (op_of d) ≡ d

abbrev Seen : Type 0
Seen = (d : Instr) × Back d

listed : (ys : List Seen) → instrs_of (code_from (map op_of (map (λ (y : Seen). y.0) ys))) ≡ map (λ (y : Seen). y.0) ys
listed [] = refl
listed (y ∷ ys) = ap (λ d. d ∷ instrs_of (code_from (map op_of (map (λ (z : Seen). z.0) ys)))) y.1 ∙ ap (λ (l : List Instr). y.0 ∷ l) (listed ys)

-- at one level, whose parts are known
level : (y : Instr-F Seen) → Back (roll-Instr (map-Instr Seen Instr (λ e. e.0) y))
level (Instr-F.Block ty body) =
    ap instr_of (fold-roll-Instr Op op_from (map-Instr Seen Instr (λ e. e.0) (Instr-F.Block ty body)))
    ∙ ap (i.Block ty) (listed body) ∙ sym (i.rolls-Block ty (map (λ (e : Seen). e.0) body))
level (Instr-F.Loop ty body) =
    ap instr_of (fold-roll-Instr Op op_from (map-Instr Seen Instr (λ e. e.0) (Instr-F.Loop ty body)))
    ∙ ap (i.Loop ty) (listed body) ∙ sym (i.rolls-Loop ty (map (λ (e : Seen). e.0) body))
level (Instr-F.If ty first second) =
    ap instr_of (fold-roll-Instr Op op_from (map-Instr Seen Instr (λ e. e.0) (Instr-F.If ty first second)))
    ∙ ap (λ (l : List Instr). i.If ty l (instrs_of (code_from (map op_of (map (λ (e : Seen). e.0) second))))) (listed first)
    ∙ ap (i.If ty (map (λ (e : Seen). e.0) first)) (listed second)
    ∙ sym (i.rolls-If ty (map (λ (e : Seen). e.0) first) (map (λ (e : Seen). e.0) second))
level Instr-F.Unreachable = search (rules, the_lemmas)
level Instr-F.Nop = search (rules, the_lemmas)
level (Instr-F.Br l) = search (rules, the_lemmas)
level (Instr-F.BrIf l) = search (rules, the_lemmas)
level (Instr-F.BrTable ls l) = search (rules, the_lemmas)
level Instr-F.Return = search (rules, the_lemmas)
level (Instr-F.Call f) = search (rules, the_lemmas)
level (Instr-F.CallIndirect t) = search (rules, the_lemmas)
level Instr-F.DropOne = search (rules, the_lemmas)
level Instr-F.Select = search (rules, the_lemmas)
level (Instr-F.LocalGet x) = search (rules, the_lemmas)
level (Instr-F.LocalSet x) = search (rules, the_lemmas)
level (Instr-F.LocalTee x) = search (rules, the_lemmas)
level (Instr-F.GlobalGet x) = search (rules, the_lemmas)
level (Instr-F.GlobalSet x) = search (rules, the_lemmas)
level (Instr-F.Load op align offset) = search (rules, the_lemmas)
level (Instr-F.Store op align offset) = search (rules, the_lemmas)
level Instr-F.MemorySize = search (rules, the_lemmas)
level Instr-F.MemoryGrow = search (rules, the_lemmas)
level Instr-F.MemoryCopy = search (rules, the_lemmas)
level Instr-F.MemoryFill = search (rules, the_lemmas)
level (Instr-F.Const v) = search (rules, the_lemmas)
level (Instr-F.Num op) = search (rules, the_lemmas)
level (Instr-F.Float opcode) = search (rules, the_lemmas)
level Instr-F.Mul64 = search (rules, the_lemmas)

view_back : (d : Instr) → instr_of (op_of d) ≡ d
view_back = ind-Instr Back (λ x y e. subst (λ (z : Instr-F Instr). Back (roll-Instr z)) e (level y))

-- a view and back
pub views_back : (is : List Instr) → instrs_of (code_of is) ≡ is
views_back [] = refl
views_back (d ∷ is) = ap (λ z. z ∷ instrs_of (code_of is)) (view_back d) ∙ ap (λ (l : List Instr). d ∷ l) (views_back is)

-- instructions that are the same plain data are the same
pub same_views : (is js : List Instr) → code_of is ≡ code_of js → is ≡ js
same_views is js e = sym (views_back is) ∙ ap instrs_of e ∙ views_back js

-- plain data seen as instructions, and viewed
mutual
  view_forth : (o : Op) → op_of (instr_of o) ≡ o
  view_forth (block ty body) = search (rules, the_lemmas, views_forth body)
  view_forth (loop ty body) = search (rules, the_lemmas, views_forth body)
  view_forth (if_else ty first second) = search (rules, the_lemmas, views_forth first, views_forth second)
  view_forth unreachable = search (rules, the_lemmas)
  view_forth nop = search (rules, the_lemmas)
  view_forth (br l) = search (rules, the_lemmas)
  view_forth (br_if l) = search (rules, the_lemmas)
  view_forth (br_table ls l) = search (rules, the_lemmas)
  view_forth return = search (rules, the_lemmas)
  view_forth (call f) = search (rules, the_lemmas)
  view_forth (call_indirect t) = search (rules, the_lemmas)
  view_forth drop_one = search (rules, the_lemmas)
  view_forth select = search (rules, the_lemmas)
  view_forth (local_get x) = search (rules, the_lemmas)
  view_forth (local_set x) = search (rules, the_lemmas)
  view_forth (local_tee x) = search (rules, the_lemmas)
  view_forth (global_get x) = search (rules, the_lemmas)
  view_forth (global_set x) = search (rules, the_lemmas)
  view_forth (load op align offset) = search (rules, the_lemmas)
  view_forth (store op align offset) = search (rules, the_lemmas)
  view_forth memory_size = search (rules, the_lemmas)
  view_forth memory_grow = search (rules, the_lemmas)
  view_forth memory_copy = search (rules, the_lemmas)
  view_forth memory_fill = search (rules, the_lemmas)
  view_forth (const v) = search (rules, the_lemmas)
  view_forth (num op) = search (rules, the_lemmas)
  view_forth (float opcode) = search (rules, the_lemmas)
  view_forth mul64 = search (rules, the_lemmas)

  pub views_forth : (c : Code) → code_of (instrs_of c) ≡ c
  views_forth nil = refl
  views_forth (cons o os) = ap (λ i. cons i (code_of (instrs_of os))) (view_forth o) ∙ ap (cons o) (views_forth os)
