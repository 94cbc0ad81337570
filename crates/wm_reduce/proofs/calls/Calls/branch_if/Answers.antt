use Rattle.std.proofs.Common.{◌∷◌, ap, ◌∙◌, ℤ}
use Rattle.mc_nbt.specs.declared.value.Value.TheVariants.{I32}
use Rattle.std.specs.Int.{w32, cast_unsigned}
use Rattle.wm_reduce.proofs.Numbers.{zero_is}
use Rattle.wm_ast.specs.View.{code_of}
use Rattle.wm_reduce.specs.TermView.{seen, seen_calls}
use Rattle.wm_reduce.proofs.Moves.{if_zero, if_nonzero}
use Rattle.wm_reduce.proofs.SeenLaws.{to_same}
use Rattle.wm_reduce.proofs.calls.Calls.branch_if.Goals as goal

pub returns-then-condition-eq0 : goal.returns-then-condition-eq0
returns-then-condition-eq0 c = λ m s.
    to_same s _ _ c.go_on.result c.go_on.ensures
    (if_zero m s (seen_calls c.args.self.callers) (seen c.args.self.current) c.args.label (code_of c.args.rest.now) c.pop_i32.new.values
    (c.in-Some.ensures.0 ∙ ap (λ (z : ℤ). I32 z ∷ c.pop_i32.new.values) (zero_is c.in-Some.condition c.in-Some.ensures.1 c.if-condition-eq0.true)))

pub returns : goal.returns
returns c = λ m s.
    to_same s _ _ c.go_on-taken.result c.go_on-taken.ensures
    (if_nonzero m s (seen_calls c.args.self.callers) (seen c.args.self.current) c.args.label (code_of c.args.rest.now) c.in-Some.condition c.pop_i32.new.values
    (λ e. c.if-condition-eq0.false (ap (cast_unsigned w32) e)) c.in-Some.ensures.0)
