-- What the lines of operations on numbers of 64 bits are.
use Rattle.wm_ast.specs.Operator.{operator_of}
use Rattle.cc_access.proofs.KnownLines.{loads_by_lines, stores_by_lines}
use Rattle.cc_bits64.proofs.FitLemmas.{all_fit, all_most}
use Rattle.cc_i64.proofs.Measures.{operator_fits, operator_weighs}
use Rattle.cc_body.proofs.NumberLines.{NumbersAreLines}

pub numbers_are_lines : NumbersAreLines
numbers_are_lines = record {
  pairs_fit = λ op a f. operator_fits (operator_of op) a f;
  pairs_weigh = λ op a. operator_weighs (operator_of op) a;
  bits_fit = all_fit;
  bits_weigh = all_most;
  loads = loads_by_lines;
  stores = stores_by_lines;
}
