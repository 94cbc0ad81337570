use Rattle.std.proofs.Common.{◌≡◌, map, take, Some}
use Rattle.cc_table.specs.Target.{element_number}
use Rattle.cc_table.proofs.target.call_numbers.Given as goal

abbrev pub invariant-loop-element : goal.invariant-loop-element
invariant-loop-element l = l.numbers.items ≡ map (λ e. element_number l.m l.ty (Some e)) (take l.element-index l.table)
