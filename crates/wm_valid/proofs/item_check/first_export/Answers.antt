use Rattle.std.proofs.Common.{ℕ, List, length, get_or, arith, rules, refl, Some, ◌≡◌, ap, sym, ◌∙◌}
use Rattle.std.specs.Prelude.{slice_get}
use Rattle.std.proofs.lemmas.Option.{slice_get_read}
use Rattle.wm_ast.specs.declared.module.Export.{Export}
use Rattle.wm_valid.specs.Valid.{IsValidExport, IsThere}
use Rattle.wm_valid.specs.steps.Names.{Earlier}
use Rattle.wm_valid.proofs.FirstLaws.{one_more, at_end}
use Rattle.wm_valid.proofs.NameLaws.{one_seen, stale, fresh}
use Rattle.wm_valid.proofs.item_check.first_export.Goals as goal

pub returns-then-not-is_there : goal.returns-then-not-is_there
returns-then-not-is_there c = (
  λ all. let read : slice_get c.args.m.now.exports c.loop-index.index ≡ Some c.export-item.result = slice_get_read c.args.m.now.exports (length c.args.m.now.exports) c.loop-index.index c.export-item.result refl (omega (arith, ap length c.loop-index.invariant.items)) (c.export-item.is ∙ ap (λ (l : List Export). get_or l c.loop-index.index c.export-item.result) c.loop-index.invariant.items) in
      let there : IsThere c.args.m.now c.export-item.result.space c.export-item.result.index = (all c.export-item.result read).there in
      absurd (search rules),
  c.loop-index.invariant.valid,
)

pub returns-then-not-branch : goal.returns-then-not-branch
returns-then-not-branch c = (
  λ all. let read : slice_get c.args.m.now.exports c.loop-index.index ≡ Some c.export-item.result = slice_get_read c.args.m.now.exports (length c.args.m.now.exports) c.loop-index.index c.export-item.result refl (omega (arith, ap length c.loop-index.invariant.items)) (c.export-item.is ∙ ap (λ (l : List Export). get_or l c.loop-index.index c.export-item.result) c.loop-index.invariant.items) in
      let earlier : Earlier c.args.m.now.exports c.loop-index.index c.as_str.result.now = stale c.args.m.now.exports c.loop-index.index c.loop-index.names c.as_str.result c.in_ok-insert.field-0 c.in_ok-insert.ensures.added c.if-not-branch.true c.loop-index.invariant.names in
      (all c.export-item.result read).new earlier.place earlier.export earlier.before earlier.there (earlier.same ∙ c.as_str.ensures),
  c.loop-index.invariant.valid,
)

pub loop-index-preserved : goal.loop-index-preserved
loop-index-preserved c = record {
  items = c.loop-index.invariant.items;
  valid = one_more c.args.m.now.exports c.as_slice-export-items.result.now (λ (n : ℕ) (e : Export). IsValidExport c.args.m.now n e) c.loop-index.index c.export-item.result c.loop-index.invariant.items c.export-item.is
      (record {
        there = search rules;
        new = λ k e before at same. fresh c.args.m.now.exports c.loop-index.index c.loop-index.names c.as_str.result c.in_ok-insert.field-0 c.in_ok-insert.ensures.added c.if-not-branch.false c.loop-index.invariant.names
            (record { place = k; export = e; before = before; there = at; same = same ∙ sym c.as_str.ensures });
      }) c.loop-index.invariant.valid;
  names = one_seen c.args.m.now.exports c.loop-index.index c.loop-index.names c.insert.new.self c.as_str.result c.export-item.result
      (slice_get_read c.args.m.now.exports (length c.args.m.now.exports) c.loop-index.index c.export-item.result refl (omega (arith, ap length c.loop-index.invariant.items)) (c.export-item.is ∙ ap (λ (l : List Export). get_or l c.loop-index.index c.export-item.result) c.loop-index.invariant.items))
      c.as_str.ensures c.in_ok-insert.ensures.updates c.loop-index.invariant.names;
}

pub returns : goal.returns
returns c = at_end c.args.m.now.exports c.as_slice-export-items.result.now (λ (n : ℕ) (e : Export). IsValidExport c.args.m.now n e) c.loop-index.index c.loop-index.invariant.items (omega arith) c.loop-index.invariant.valid
