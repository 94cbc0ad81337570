use Rattle.std.proofs.Common.{List, ◌∙◌}
use Rattle.wm_place.specs.Visit.{Visit, function_visits}
use Rattle.cc_cut.specs.Piece.{pieces, index_from}
use Rattle.cc_cut.proofs.MakingLemmas.{folds_number, nothing_in}
use Rattle.cc_cut.proofs.making.function_indices.Goals as goal

pub returns : goal.returns
returns c =
    let vs : List Visit = function_visits c.args.m.now c.args.func in
    λ path. folds_number (λ s. s.spent) (λ s. s.count) (λ s. s.indices) vs _ c.walk.new.visitor c.in_ok-walk.ensures path ∙ nothing_in c.new.result (index_from 1 (pieces vs) path) path c.new.ensures.empty
