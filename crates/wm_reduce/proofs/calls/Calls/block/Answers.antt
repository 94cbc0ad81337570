use Rattle.wm_ast.specs.View.{code_of}
use Rattle.wm_reduce.specs.declared.calls.Label.TheVariants.{Behind}
use Rattle.wm_reduce.specs.TermView.{seen, seen_calls}
use Rattle.wm_reduce.proofs.Moves.{block_step}
use Rattle.wm_reduce.proofs.SeenLaws.{into_block}
use Rattle.wm_reduce.proofs.calls.Calls.block.Goals as goal

pub returns : goal.returns
returns c = λ m s.
    into_block m s _ c.args.self c.in_ok-entered.entered (Behind c.args.ty) c.args.body c.args.rest c.in_ok-entered.ensures
    (block_step m s (seen_calls c.args.self.callers) (seen c.args.self.current) c.args.ty (code_of c.args.body.now) (code_of c.args.rest.now))
