use Rattle.std.proofs.Common.{◌≡◌, ◌++◌, drop, max}
use Rattle.cc_body.specs.Parts.{most_takers_of, parts_by}
use Rattle.cc_pieces.specs.Parts.{parts_view}
use Rattle.cc_body.specs.Placers.{most_placers_of}
use Rattle.cc_body.proofs.compiling.compile.Given as goal

abbrev pub invariant-loop-index : goal.invariant-loop-index
invariant-loop-index l = record {
  parts : parts_view l.parts.items ++ parts_by l.m l.index (drop l.index l.m.funcs) ≡ parts_by l.m 0 l.m.funcs;
  takers : max l.takers (most_takers_of l.m (drop l.index l.m.funcs)) ≡ most_takers_of l.m l.m.funcs;
  placers : max l.placers (most_placers_of l.m l.index (drop l.index l.m.funcs)) ≡ most_placers_of l.m 0 l.m.funcs;
}
