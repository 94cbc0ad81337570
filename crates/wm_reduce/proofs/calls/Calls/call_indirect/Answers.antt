use Rattle.std.proofs.Common.{ℕ, refl, ap, ◌∙◌}
use Rattle.std.specs.Int.{w32, cast_unsigned}
use Rattle.wm_reduce.proofs.Numbers.{back}
use Rattle.wm_ast.specs.View.{code_of}
use Rattle.std.specs.Prelude.{slice_get}
use Rattle.wm_ast.specs.Step.{target_of}
use Rattle.wm_reduce.proofs.SeenLaws.{to_same, through_table, refused_call}
use Rattle.wm_reduce.proofs.calls.Calls.call_indirect.Goals as goal

pub returns-in-Function : goal.returns-in-Function
returns-in-Function c = λ s e.
    to_same s _ _ c.go_on.result c.go_on.ensures
    (through_table c.args.m.now s c.args.self c.args.ty (code_of c.args.rest.now) c.in-Some.index c.pop_i32.new.values c.args.table.now c.in-Some.ensures.0 e c.in-Function.func
    (c.in-Function.ensures ∙ ap (λ (n : ℕ). target_of c.args.m.now (slice_get c.args.m.now.types c.args.ty) (slice_get c.args.table.now n)) (c.cast_unsigned.ensures ∙ ap (cast_unsigned w32) (back c.in-Some.index c.in-Some.ensures.1))))

pub returns-in-Refused : goal.returns-in-Refused
returns-in-Refused c = λ s e. (
  refused_call c.args.m.now s c.args.self c.args.ty (code_of c.args.rest.now) c.in-Some.index c.pop_i32.new.values c.args.table.now c.in-Some.ensures.0 e c.in-Refused.trap
      (c.in-Refused.ensures ∙ ap (λ (n : ℕ). target_of c.args.m.now (slice_get c.args.m.now.types c.args.ty) (slice_get c.args.table.now n)) (c.cast_unsigned.ensures ∙ ap (cast_unsigned w32) (back c.in-Some.index c.in-Some.ensures.1))),
  refl,
)
