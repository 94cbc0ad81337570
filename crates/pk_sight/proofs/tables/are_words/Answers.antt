use Rattle.std.proofs.Common.{arith, refl, sym}
use Rattle.std.specs.Prelude.{pos}
use Rattle.mc_nbt.specs.Tree.{int}
use Rattle.cc_line.proofs.TableLemmas.{values_none}
use Rattle.pk_sight.proofs.TableLemmas.{next_same, other_length, whole_same}
use Rattle.pk_sight.proofs.tables.are_words.Goals as goal

pub returns-then-numbers-columns : goal.returns-then-numbers-columns
returns-then-numbers-columns c = (λ e. absurd cc, λ e. absurd (other_length int _ c.args.columns c.args.numbers.now c.if-numbers-columns.true e))

pub loop-column-init : goal.loop-column-init
loop-column-init c = (λ e. sym (values_none _), λ e. refl)

pub loop-column-preserved : goal.loop-column-preserved
loop-column-preserved c = next_same int _ c.loop-column.column c.args.numbers.now (pos 0) (omega arith) c.loop-column.same c.is_word-same.result c.loop-column.invariant c.is_word-same.ensures

pub returns : goal.returns
returns c = whole_same int _ c.loop-column.column c.args.columns c.args.numbers.now c.loop-column.same (omega arith) (omega arith) c.loop-column.invariant
