use Rattle.std.proofs.Common.{refl, sym, ap, rules}
use Rattle.wm_ast.specs.declared.instruction.Instr.{the_lemmas}
use Rattle.wm_ast.specs.Code.{drop_one, select, local_get, local_set, local_tee, global_get, global_set, num, load, store}
use Rattle.std.specs.Prelude.{slice_get}
use Rattle.wm_ast.specs.Simple.{got}
use Rattle.wm_reduce.specs.TermView.{store_of}
use Rattle.wm_reduce.proofs.InstrCases.{is_unfit}
use Rattle.wm_reduce.proofs.StepLaws.{ok, by_op, by_result}
use Rattle.wm_reduce.proofs.simple.execute.Goals as goal

pub returns-in-DropOne : goal.returns-in-DropOne
returns-in-DropOne c = by_op c.args.m.now (store_of c.args.storage.now) c.args.locals.now.items c.args.values.now c.drop_one.result _ _ _ c.args.instr.now _ drop_one c.in-DropOne.is (search (rules, the_lemmas)) (c.drop_one.ensures c.args.m.now (store_of c.args.storage.now) c.args.locals.now.items)

pub returns-in-Select : goal.returns-in-Select
returns-in-Select c = ok c.select.result _ _ (λ x h. by_op c.args.m.now (store_of c.args.storage.now) c.args.locals.now.items c.args.values.now x _ _ _ c.args.instr.now _ select c.in-Select.is (search (rules, the_lemmas)) (h c.args.m.now (store_of c.args.storage.now) c.args.locals.now.items)) c.select.ensures

pub returns-in-LocalGet : goal.returns-in-LocalGet
returns-in-LocalGet c =
    ok c.get_from.result _ _ (λ x h. by_op c.args.m.now (store_of c.args.storage.now) c.args.locals.now.items c.args.values.now x _ _ _ c.args.instr.now _ (local_get c.in-LocalGet.x) c.in-LocalGet.is (search (rules, the_lemmas)) (by_result (store_of c.args.storage.now) c.args.locals.now.items x _ _ _ (ap (λ all. got c.args.m.now (store_of c.args.storage.now) c.args.locals.now.items c.args.values.now (slice_get all c.in-LocalGet.x)) (sym c.as_slice.ensures.value)) (h c.args.m.now (store_of c.args.storage.now) c.args.locals.now.items))) c.get_from.ensures

pub returns-in-GlobalGet : goal.returns-in-GlobalGet
returns-in-GlobalGet c =
    ok c.get_from-in-GlobalGet.result _ _ (λ x h. by_op c.args.m.now (store_of c.args.storage.now) c.args.locals.now.items c.args.values.now x _ _ _ c.args.instr.now _ (global_get c.in-GlobalGet.x) c.in-GlobalGet.is (search (rules, the_lemmas)) (by_result (store_of c.args.storage.now) c.args.locals.now.items x _ _ _ (ap (λ all. got c.args.m.now (store_of c.args.storage.now) c.args.locals.now.items c.args.values.now (slice_get all c.in-GlobalGet.x)) (sym c.as_slice-in-GlobalGet.ensures.value)) (h c.args.m.now (store_of c.args.storage.now) c.args.locals.now.items))) c.get_from-in-GlobalGet.ensures

pub returns-in-LocalSet : goal.returns-in-LocalSet
returns-in-LocalSet c = by_op c.args.m.now (store_of c.args.storage.now) c.args.locals.now.items c.args.values.now c.set_local.result _ _ _ c.args.instr.now _ (local_set c.in-LocalSet.x) c.in-LocalSet.is (search (rules, the_lemmas)) (c.set_local.ensures c.args.m.now (store_of c.args.storage.now))

pub returns-in-LocalTee : goal.returns-in-LocalTee
returns-in-LocalTee c = ok c.tee_local.result _ _ (λ x h. by_op c.args.m.now (store_of c.args.storage.now) c.args.locals.now.items c.args.values.now x _ _ _ c.args.instr.now _ (local_tee c.in-LocalTee.x) c.in-LocalTee.is (search (rules, the_lemmas)) (h c.args.m.now (store_of c.args.storage.now))) c.tee_local.ensures

pub returns-in-GlobalSet : goal.returns-in-GlobalSet
returns-in-GlobalSet c = by_op c.args.m.now (store_of c.args.storage.now) c.args.locals.now.items c.args.values.now c.set_global.result _ _ _ c.args.instr.now _ (global_set c.in-GlobalSet.x) c.in-GlobalSet.is (search (rules, the_lemmas)) (c.set_global.ensures c.args.m.now (store_of c.args.storage.now) c.args.locals.now.items refl)

pub returns-in-Num : goal.returns-in-Num
returns-in-Num c = ok c.operate.result _ _ (λ x h. by_op c.args.m.now (store_of c.args.storage.now) c.args.locals.now.items c.args.values.now x _ _ _ c.args.instr.now _ (num c.in-Num.op) c.in-Num.is (search (rules, the_lemmas)) (h c.args.m.now (store_of c.args.storage.now) c.args.locals.now.items)) c.operate.ensures

pub returns-in-Load : goal.returns-in-Load
returns-in-Load c = ok c.load_value.result _ _ (λ x h. by_op c.args.m.now (store_of c.args.storage.now) c.args.locals.now.items c.args.values.now x _ _ _ c.args.instr.now _ (load c.in-Load.op c.in-Load.align c.in-Load.offset) c.in-Load.is (search (rules, the_lemmas)) (h c.args.m.now (store_of c.args.storage.now) c.args.locals.now.items c.in-Load.align refl)) c.load_value.ensures

pub returns-in-Store : goal.returns-in-Store
returns-in-Store c = by_op c.args.m.now (store_of c.args.storage.now) c.args.locals.now.items c.args.values.now c.store_value.result _ _ _ c.args.instr.now _ (store c.in-Store.op c.in-Store.align c.in-Store.offset) c.in-Store.is (search (rules, the_lemmas)) (c.store_value.ensures c.args.m.now (store_of c.args.storage.now) c.args.locals.now.items c.in-Store.align refl)

pub returns-in_default : goal.returns-in_default
returns-in_default c = is_unfit c.args.m.now (store_of c.args.storage.now) c.args.locals.now.items c.args.values.now c.args.instr.now (record {
  unreachable = c.in_default.not-Unreachable;
  nop = c.in_default.not-Nop;
  drop_one = c.in_default.not-DropOne;
  select = c.in_default.not-Select;
  local_get = c.in_default.not-LocalGet;
  local_set = c.in_default.not-LocalSet;
  local_tee = c.in_default.not-LocalTee;
  global_get = c.in_default.not-GlobalGet;
  global_set = c.in_default.not-GlobalSet;
  num = c.in_default.not-Num;
  load = c.in_default.not-Load;
  store = c.in_default.not-Store;
  memory_size = c.in_default.not-MemorySize;
  memory_grow = c.in_default.not-MemoryGrow;
  memory_fill = c.in_default.not-MemoryFill;
  memory_copy = c.in_default.not-MemoryCopy;
})
