use Rattle.std.proofs.Common.{List, ◌∙◌}
use Rattle.wm_place.specs.Visit.{Visit, function_visits}
use Rattle.cc_cut.proofs.MakingLemmas.{wide_made, function_made}
use Rattle.cc_cut.proofs.making.function_cuts.Goals as goal

pub returns : goal.returns
returns c =
    let vs : List Visit = function_visits c.args.m.now c.args.func in
    wide_made (λ s. s.spent) (λ s. s.count) (λ s. s.func) (λ s. s.indices.now) (λ s. s.cuts.items) vs _ c.walk.new.visitor c.in_ok-walk.ensures c.new.ensures.items
    ∙ function_made c.args.m.now c.args.func c.in_ok-indices.indices c.in_ok-indices.ensures
