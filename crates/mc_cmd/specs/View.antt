-- The plain data that the code's lines stand for.
use Rattle.std.specs.Prelude.{List, map, true, false}
use Rattle.mc_nbt.specs.View.{parts, view}
use Rattle.mc_cmd.specs.declared.line.Line.{Line}
use Rattle.mc_cmd.specs.declared.line.Line.TheVariants as lines
use Rattle.mc_cmd.specs.declared.line.CmdKind.{CmdKind}
use Rattle.mc_cmd.specs.declared.line.CmdKind.TheVariants as kinds
use Rattle.mc_cmd.specs.declared.line.Simple.{Simple}
use Rattle.mc_cmd.specs.declared.line.Simple.TheVariants as simples
use Rattle.mc_cmd.specs.declared.line.Op.{Op}
use Rattle.mc_cmd.specs.declared.line.Op.TheVariants as ops
use Rattle.mc_cmd.specs.declared.line.Cmp.{Cmp}
use Rattle.mc_cmd.specs.declared.line.Cmp.TheVariants as cmps
use Rattle.mc_cmd.specs.declared.line.Range.{Range}
use Rattle.mc_cmd.specs.declared.line.Range.TheVariants as ranges
use Rattle.mc_cmd.specs.declared.line.Test.{Test}
use Rattle.mc_cmd.specs.declared.line.Test.TheVariants as tests
use Rattle.mc_cmd.specs.declared.line.Sub.{Sub}
use Rattle.mc_cmd.specs.declared.line.Sub.TheVariants as subs
use Rattle.mc_cmd.specs.declared.pattern.PatternPart.{PatternPart}
use Rattle.mc_cmd.specs.declared.pattern.PatternPart.TheVariants as pieces
use Rattle.mc_cmd.specs.Command as spec

abbrev pub op_view : Op → spec.Op
op_view ops.Assign = spec.assign
op_view ops.Add = spec.add
op_view ops.Subtract = spec.subtract
op_view ops.Multiply = spec.multiply
op_view ops.Divide = spec.divide
op_view ops.Remainder = spec.remainder
op_view ops.Lower = spec.lower
op_view ops.Raise = spec.raise
op_view ops.Swap = spec.swap

abbrev pub cmp_view : Cmp → spec.Cmp
cmp_view cmps.Less = spec.less
cmp_view cmps.LessEqual = spec.less_equal
cmp_view cmps.Equal = spec.equal
cmp_view cmps.GreaterEqual = spec.greater_equal
cmp_view cmps.Greater = spec.greater

abbrev pub range_view : Range → spec.Range
range_view (ranges.One n) = spec.exactly n
range_view (ranges.From n) = spec.from n
range_view (ranges.To n) = spec.up_to n
range_view (ranges.Both n m) = spec.between n m

abbrev pub simple_view : Simple → spec.Simple
simple_view (simples.ObjectiveAdd o) = spec.objective_add o
simple_view (simples.ScoreSet h o z) = spec.score_set h o z
simple_view (simples.ScoreAdd h o z) = spec.score_add h o z
simple_view (simples.ScoreRemove h o z) = spec.score_remove h o z
simple_view (simples.ScoreGet h o) = spec.score_get h o
simple_view (simples.ScoreOp h o f i q) = spec.score_op h o (op_view f) i q
simple_view (simples.ScoreReset h o) = spec.score_reset h o
simple_view (simples.DataGet i p) = spec.data_get i (parts p)
simple_view (simples.SetValue i p v) = spec.set_value i (parts p) (view v)
simple_view (simples.SetFrom i p j q) = spec.set_from i (parts p) j (parts q)
simple_view (simples.AppendValue i p v) = spec.append_value i (parts p) (view v)
simple_view (simples.AppendFrom i p j q) = spec.append_from i (parts p) j (parts q)
simple_view (simples.DataRemove i p) = spec.data_remove i (parts p)
simple_view (simples.Function f) = spec.call f
simple_view (simples.FunctionWith f i p) = spec.call_with f i (parts p)
simple_view (simples.Return z) = spec.return_value z
simple_view simples.ChainLength = spec.chain_length

abbrev pub test_view : Test → spec.Test
test_view (tests.Compare h o c i q) = spec.scores_compare h o (cmp_view c) i q
test_view (tests.Matches h o r) = spec.score_matches h o (range_view r)
test_view (tests.Stored i p) = spec.path_selects i (parts p)

abbrev pub sub_view : Sub → spec.Sub
sub_view (subs.Test true t) = spec.unless_test (test_view t)
sub_view (subs.Test false t) = spec.if_test (test_view t)
sub_view (subs.StoreScore h o) = spec.store_score h o
sub_view (subs.StoreData i p) = spec.store_data i (parts p)

abbrev pub cmd_view : CmdKind → spec.Cmd
cmd_view (kinds.Simple s) = spec.plain (simple_view s)
cmd_view (kinds.Execute ss s) = spec.execute (map sub_view ss.items) (simple_view s)

abbrev pub part_view : PatternPart → spec.PatternPart
part_view (pieces.Literal l) = spec.literal l
part_view (pieces.Name n) = spec.hole n

abbrev pub pattern_view : List PatternPart → List spec.PatternPart
pattern_view = map part_view

abbrev pub line_view : Line → spec.Line
line_view lines.Nothing = spec.nothing
line_view (lines.Plain c) = spec.command (cmd_view c)
line_view (lines.Macro ps) = spec.pattern (pattern_view ps)
