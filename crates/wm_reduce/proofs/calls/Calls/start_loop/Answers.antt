use Rattle.wm_ast.specs.View.{code_of}
use Rattle.wm_reduce.specs.declared.calls.Label.TheVariants.{Again}
use Rattle.wm_reduce.specs.TermView.{seen, seen_calls}
use Rattle.wm_reduce.proofs.Moves.{loop_step}
use Rattle.wm_reduce.proofs.SeenLaws.{into_block}
use Rattle.wm_reduce.proofs.calls.Calls.start_loop.Goals as goal

pub returns : goal.returns
returns c = λ m s.
    into_block m s _ c.args.self c.in_ok-entered.entered (Again c.args.start) c.args.start.body c.args.rest c.in_ok-entered.ensures
    (loop_step m s (seen_calls c.args.self.callers) (seen c.args.self.current) c.args.start.ty (code_of c.args.start.body.now) (code_of c.args.rest.now))
