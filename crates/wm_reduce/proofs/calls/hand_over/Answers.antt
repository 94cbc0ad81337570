use Rattle.wm_reduce.proofs.SeenLaws.{hand_out, hand_to}
use Rattle.wm_reduce.proofs.calls.hand_over.Goals as goal

pub returns-in-None : goal.returns-in-None
returns-in-None c = λ m s a e k v. hand_out m s a c.args.callers c.args.results e k v c.in-None.ensures.0

pub returns : goal.returns
returns c = λ m s a e k v.
    hand_to m s a c.args.callers c.args.results e k v c.in-Some.caller c.pop.new.self c.push_all.new.self c.in-Some.ensures c.in_ok-push_all-in-Some.ensures
