-- The lists of instructions of the example stand for its code.
use Rattle.std.proofs.Common.{◌≡◌}
use Rattle.wm_ast.specs.View.{code_of}
use Rattle.wm_ast.proofs.ViewLaws.{views_forth}
use Rattle.witness.specs.Example.{Bodies, bodies, code, run, lower, start, spin, fail, first, offset}

pub record AreSeen (b : Bodies) : Type 0 where
  pub run : code_of b.run ≡ code run
  pub lower : code_of b.lower ≡ code lower
  pub start : code_of b.start ≡ code start
  pub spin : code_of b.spin ≡ code spin
  pub fail : code_of b.fail ≡ code fail
  pub first : code_of b.first ≡ code first
  pub offset : code_of b.offset ≡ code offset

pub are_seen : AreSeen bodies
are_seen = record {
  run = views_forth (code run);
  lower = views_forth (code lower);
  start = views_forth (code start);
  spin = views_forth (code spin);
  fail = views_forth (code fail);
  first = views_forth (code first);
  offset = views_forth (code offset);
}
