use Rattle.std.proofs.Common.{refl, ◌∙◌}
use Rattle.cc_cut.specs.Index.{index_at}
use Rattle.cc_cut.specs.Law.{widths}
use Rattle.cc_body.specs.steps.Emission.{Ground}
use Rattle.cc_body.specs.steps.Sizing.{shape_at}
use Rattle.cc_body.proofs.CompileLemmas.{typed_made}
use Rattle.cc_body.proofs.compiling.typed_parts.Goals as goal

pub returns : goal.returns
returns c =
    let g : Ground = record {
      program = c.module.result.now;
      func = c.args.func;
      results = c.body_results.result;
      size = c.args.shape.size;
      locals = c.args.locals.now;
      heights = c.as_slice.result.now;
      find = index_at c.in_ok-indices.indices;
      shape = shape_at c.args.shapes.now;
    } in
    typed_made c.args.m.now g c.args.shape (widths c.args.ty.now.results) _ _ c.module.ensures.same c.in_ok-indices.ensures c.requires.shapes (c.as_slice.ensures.value ∙ c.in_ok-heights.ensures) refl c.body_results.ensures c.in_ok-parts.ensures
