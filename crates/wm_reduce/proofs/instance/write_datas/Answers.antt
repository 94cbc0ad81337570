use Rattle.std.proofs.Common.{◌≡◌, ◌∙◌, ap, sym, List, ℕ, length, Option, refl, arith}
use Rattle.std.proofs.lemmas.List.{drop_all}
use Rattle.std.proofs.lemmas.Option.{slice_get_read}
use Rattle.wm_ast.specs.declared.module.Data.{Data}
use Rattle.wm_ast.specs.Instance.{with_datas, placed}
use Rattle.wm_ast.specs.Profile.{constant_offset, data_code}
use Rattle.wm_ast.specs.Store.{overwritten}
use Rattle.wm_ast.specs.View.{code_of}
use Rattle.wm_reduce.proofs.SegmentLaws.{data_more, data_size, fits_at}
use Rattle.wm_reduce.proofs.instance.write_datas.Goals as goal
use Rattle.wm_reduce.proofs.instance.write_datas.Goals.{in-Some, in_default}

pub put-requires : goal.put-requires
put-requires c =
    let d = c.data-item.result in
    let there = slice_get_read c.args.datas.now (length c.args.datas.now) c.loop-data.data-index d refl c.loop-data-test.true c.data-item.is in
    let o : c.constant_offset.result ≡ constant_offset (data_code d) = c.constant_offset.ensures ∙ ap (λ is. constant_offset (code_of is)) c.as_slice.ensures in
    let f = fits_at c.constant_offset.result (constant_offset (data_code d)) c.in-Some.offset (length d.bytes) (length c.args.memory.now) c.in-Some.is o (c.requires c.loop-data.data-index d there) in
    let b = ap length c.as_slice-in-Some.ensures in
    let s = c.loop-data.invariant.size in
    omega arith

pub loop-data-preserved : goal.loop-data-preserved
loop-data-preserved c =
    let d = c.data-item.result in
    let there = slice_get_read c.args.datas.now (length c.args.datas.now) c.loop-data.data-index d refl c.loop-data-test.true c.data-item.is in
    let o : c.constant_offset.result ≡ constant_offset (data_code d) = c.constant_offset.ensures ∙ ap (λ is. constant_offset (code_of is)) c.as_slice.ensures in
    let n : c.match-constant_offset.memory ≡ placed c.constant_offset.result d.bytes c.loop-data.memory = elim c.match-constant_offset.branch [
      | in-Some w ↦ w.memory-is ∙ w.put.ensures ∙ ap (overwritten c.loop-data.memory w.in-Some.offset) w.as_slice-in-Some.ensures ∙ ap (λ (x : Option ℕ). placed x d.bytes c.loop-data.memory) (sym w.in-Some.is)
      | in_default w ↦ w.memory-is ∙ ap (λ (x : Option ℕ). placed x d.bytes c.loop-data.memory) (sym w.in_default.is)
    ] in
    record {
      same = data_more c.args.datas.now c.loop-data.memory c.match-constant_offset.memory c.args.memory.now c.loop-data.data-index d c.constant_offset.result c.loop-data-test.true c.data-item.is o n c.loop-data.invariant.same;
      size = data_size d c.loop-data.memory c.match-constant_offset.memory c.constant_offset.result (length c.args.memory.now) o n c.loop-data.invariant.size (c.requires c.loop-data.data-index d there);
    }

pub returns : goal.returns
returns c =
    ap (λ (l : List Data). with_datas l c.loop-data.memory) (sym (drop_all c.loop-data.data-index c.args.datas.now c.loop-data-test.false)) ∙ c.loop-data.invariant.same
