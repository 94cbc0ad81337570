use Rattle.std.proofs.Common.{ℕ, List, subst}
use Rattle.wm_ast.specs.declared.module.Space.TheVariants as spaces
use Rattle.wm_match.specs.Cause.{program}
use Rattle.wm_join.specs.steps.Numbers.{AreIndices}
use Rattle.wm_join.specs.steps.Places.{IsPlace}
use Rattle.wm_join.proofs.NumberLaws.{part_is, part_count, numbers_are}
use Rattle.wm_join.proofs.numbers.numbers_of.Goals as goal

pub indices_of-requires-clause-parts : goal.indices_of-requires-clause-parts
indices_of-requires-clause-parts c =
    part_count c.args.libs.now c.args.main.now c.args.bindings.now c.requires.binds c.args.k c.requires.number
    c.index-bindings-k.result c.as_slice-part.result.now c.index-bindings-k.is c.as_slice-part.ensures
    c.module_of-m.result.now c.module_of-m.ensures

pub indices_of-requires-2-clause-parts : goal.indices_of-requires-2-clause-parts
indices_of-requires-2-clause-parts c =
    part_count c.args.libs.now c.args.main.now c.args.bindings.now c.requires.binds c.args.k c.requires.number
    c.index-bindings-k.result c.as_slice-part.result.now c.index-bindings-k.is c.as_slice-part.ensures
    c.module_of-m.result.now c.module_of-m.ensures

pub indices_of-requires-3-clause-parts : goal.indices_of-requires-3-clause-parts
indices_of-requires-3-clause-parts c =
    part_count c.args.libs.now c.args.main.now c.args.bindings.now c.requires.binds c.args.k c.requires.number
    c.index-bindings-k.result c.as_slice-part.result.now c.index-bindings-k.is c.as_slice-part.ensures
    c.module_of-m.result.now c.module_of-m.ensures

pub returns : goal.returns
returns c =
    numbers_are (program c.args.libs.now c.args.main.now c.args.bindings.now) c.args.k c.module_of-m.result.now c.module_of-m.ensures c.as_slice-part.result.now
    (part_is c.args.libs.now c.args.main.now c.args.bindings.now c.requires.binds c.args.k c.requires.number c.index-bindings-k.result c.as_slice-part.result.now c.index-bindings-k.is c.as_slice-part.ensures)
    c.args.counts.now c.requires.counts
    (record {
      types = c.place_of.result;
      functions = c.in_ok-indices_of.field-0;
      tables = c.in_ok-indices_of-2.field-0;
      memories = c.in_ok-indices_of-3.field-0;
      globals = c.place_of-2.result;
    })
    (subst (λ (l : List ℕ). IsPlace l c.args.k c.place_of.result) c.as_slice.ensures.value c.place_of.ensures)
    (subst (λ (l : List ℕ). AreIndices l spaces.Func c.args.k c.module_of-m.result.now c.as_slice-part.result.now c.in_ok-indices_of.field-0) c.as_slice-2.ensures.value c.in_ok-indices_of.ensures)
    (subst (λ (l : List ℕ). AreIndices l spaces.Table c.args.k c.module_of-m.result.now c.as_slice-part.result.now c.in_ok-indices_of-2.field-0) c.as_slice-3.ensures.value c.in_ok-indices_of-2.ensures)
    (subst (λ (l : List ℕ). AreIndices l spaces.Memory c.args.k c.module_of-m.result.now c.as_slice-part.result.now c.in_ok-indices_of-3.field-0) c.as_slice-4.ensures.value c.in_ok-indices_of-3.ensures)
    (subst (λ (l : List ℕ). IsPlace l c.args.k c.place_of-2.result) c.as_slice-5.ensures.value c.place_of-2.ensures)
