use Rattle.std.proofs.Common.{ℕ, List, ◌++◌, ap, ◌∙◌}
use Rattle.wm_place.specs.Stop.{visit_told}
use Rattle.cc_cut.specs.steps.Exits.{visit_paths, indices_in}
use Rattle.cc_cut.proofs.MakingLemmas.{put_back}
use Rattle.cc_cut.proofs.making.add_to_last.Goals as goal

pub returns-in_ok-push : goal.returns-in_ok-push
returns-in_ok-push c =
    let xs : List ℕ = indices_in c.args.indices.now (visit_paths (visit_told c.args.stop)) in
    put_back c.args.cuts.now.items c.pop.new.self.items c.push.new.self.items c.in-Some.cut c.from_vec.result xs c.in-Some.ensures.items
    (c.from_vec.ensures ∙ (c.in_ok-add_exits.ensures ∙ ap (λ (l : List ℕ). l ++ xs) c.into_vec-exits.ensures)) c.in_ok-push.ensures.items
