use Rattle.std.proofs.Common.{rules, ℕ, Vec, Global, ap, sym, ◌∙◌}
use Rattle.cc_cut.proofs.ExitLemmas.{last_raised, none_raised}
use Rattle.cc_cut.proofs.exit.path_behind.Goals.{in-Some+in_ok-next+in_ok-push, in_default}
use Rattle.cc_cut.proofs.exit.path_behind.Goals as goal

pub returns : goal.returns
returns c = elim c.match-pop.branch [
  | in-Some+in_ok-next+in_ok-push w ↦
      last_raised c.args.path.now c.pop.new.self.items c.match-pop.to.items w.in-Some.position w.in_ok-next.next (sym c.in_ok-to.ensures.items ∙ w.in-Some.ensures.items) (search rules)
      (ap (λ (v : Vec ℕ Global). v.items) w.to-is ∙ w.in_ok-push.ensures.items)
  | in_default w ↦
      none_raised c.args.path.now c.pop.new.self.items c.match-pop.to.items (sym c.in_ok-to.ensures.items ∙ w.in_default.ensures.items) (sym c.in_ok-to.ensures.len ∙ w.in_default.ensures.cases.0)
      (ap (λ (v : Vec ℕ Global). v.items) w.to-is)
]
