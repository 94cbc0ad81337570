use Rattle.std.proofs.Common.{◌∷◌, ap, ◌∙◌, ℤ}
use Rattle.mc_nbt.specs.declared.value.Value.TheVariants.{I32}
use Rattle.std.specs.Int.{w32, cast_unsigned}
use Rattle.wm_reduce.proofs.Numbers.{zero_is}
use Rattle.wm_ast.specs.View.{code_of}
use Rattle.wm_reduce.specs.declared.calls.Label.TheVariants.{Behind}
use Rattle.wm_reduce.specs.TermView.{seen, seen_calls}
use Rattle.wm_reduce.proofs.Moves.{choose_zero, choose_nonzero}
use Rattle.wm_reduce.proofs.SeenLaws.{into_block}
use Rattle.wm_reduce.proofs.calls.Calls.choose.Goals as goal

pub returns-then-condition-eq0 : goal.returns-then-condition-eq0
returns-then-condition-eq0 c = λ m s.
    into_block m s _ (record c.args.self { current = record c.args.self.current { values = c.pop_i32.new.values } }) c.in_ok-second.second
    (Behind c.args.ty) c.args.no c.args.rest c.in_ok-second.ensures
    (choose_zero m s (seen_calls c.args.self.callers) (seen c.args.self.current) c.args.ty (code_of c.args.yes.now) (code_of c.args.no.now) (code_of c.args.rest.now) c.pop_i32.new.values
    (c.in-Some.ensures.0 ∙ ap (λ (z : ℤ). I32 z ∷ c.pop_i32.new.values) (zero_is c.in-Some.condition c.in-Some.ensures.1 c.if-condition-eq0.true)))

pub returns : goal.returns
returns c = λ m s.
    into_block m s _ (record c.args.self { current = record c.args.self.current { values = c.pop_i32.new.values } }) c.in_ok-first.first
    (Behind c.args.ty) c.args.yes c.args.rest c.in_ok-first.ensures
    (choose_nonzero m s (seen_calls c.args.self.callers) (seen c.args.self.current) c.args.ty (code_of c.args.yes.now) (code_of c.args.no.now) (code_of c.args.rest.now) c.in-Some.condition c.pop_i32.new.values
    (λ e. c.if-condition-eq0.false (ap (cast_unsigned w32) e)) c.in-Some.ensures.0)
