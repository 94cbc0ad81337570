use Rattle.std.proofs.Common.{◌≡◌, ◌∙◌, ap, sym, ℕ, length, map, Option, refl, arith}
use Rattle.std.proofs.lemmas.List.{length-map}
use Rattle.std.proofs.lemmas.Option.{slice_get_read}
use Rattle.wm_ast.specs.Instance.{placed}
use Rattle.wm_ast.specs.Profile.{constant_offset, element_code}
use Rattle.wm_ast.specs.Store.{overwritten}
use Rattle.wm_ast.specs.View.{code_of}
use Rattle.wm_reduce.proofs.SegmentLaws.{element_more, element_size, fits_at, some_index}
use Rattle.wm_reduce.proofs.instance.write_elements.Goals as goal
use Rattle.wm_reduce.proofs.instance.write_elements.Goals.{in-Some+in_ok-funcs, in_default}

pub put-requires : goal.put-requires
put-requires c =
    let e = c.elem-item.result in
    let there = slice_get_read c.args.elems.now (length c.args.elems.now) c.loop-elem.elem-index e refl c.loop-elem-test.true c.elem-item.is in
    let o : c.constant_offset.result ≡ constant_offset (element_code e) = c.constant_offset.ensures ∙ ap (λ is. constant_offset (code_of is)) c.as_slice.ensures in
    let f = fits_at c.constant_offset.result (constant_offset (element_code e)) c.in-Some.offset (length e.funcs) (length c.args.table.now.items) c.in-Some.is o (c.requires c.loop-elem.elem-index e there) in
    let b : length c.as_slice-in-Some-2.result.now ≡ length e.funcs =
    ap length (c.as_slice-in-Some-2.ensures.value ∙ c.in_ok-funcs.ensures ∙ ap (map some_index) c.as_slice-in-Some.ensures) ∙ length-map e.funcs some_index in
    let s = c.loop-elem.invariant.size in
    omega arith

pub loop-elem-preserved : goal.loop-elem-preserved
loop-elem-preserved c =
    let e = c.elem-item.result in
    let there = slice_get_read c.args.elems.now (length c.args.elems.now) c.loop-elem.elem-index e refl c.loop-elem-test.true c.elem-item.is in
    let o : c.constant_offset.result ≡ constant_offset (element_code e) = c.constant_offset.ensures ∙ ap (λ is. constant_offset (code_of is)) c.as_slice.ensures in
    let n : c.match-constant_offset.table.items ≡ placed c.constant_offset.result (map some_index e.funcs) c.loop-elem.table.items = elim c.match-constant_offset.branch [
      | in-Some+in_ok-funcs w ↦ ap (λ t. t.items) w.table-is ∙ w.put.ensures
          ∙ ap (overwritten c.loop-elem.table.items w.in-Some.offset) (w.as_slice-in-Some-2.ensures.value ∙ w.in_ok-funcs.ensures ∙ ap (map some_index) w.as_slice-in-Some.ensures)
          ∙ ap (λ (x : Option ℕ). placed x (map some_index e.funcs) c.loop-elem.table.items) (sym w.in-Some.is)
      | in_default w ↦ ap (λ t. t.items) w.table-is ∙ ap (λ (x : Option ℕ). placed x (map some_index e.funcs) c.loop-elem.table.items) (sym w.in_default.is)
    ] in
    record {
      same = element_more c.args.elems.now c.loop-elem.table.items c.match-constant_offset.table.items c.args.table.now.items c.loop-elem.elem-index e c.constant_offset.result c.loop-elem-test.true c.elem-item.is o n c.loop-elem.invariant.same;
      size = element_size e c.loop-elem.table.items c.match-constant_offset.table.items c.constant_offset.result (length c.args.table.now.items) o n c.loop-elem.invariant.size (c.requires c.loop-elem.elem-index e there);
    }
