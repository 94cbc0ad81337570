use Rattle.std.proofs.Common.{◌≡◌, None}
use Rattle.std.specs.Prelude.{MatchOption}
use Rattle.std.proofs.lemmas.Result.{IfOk-weaker}
use Rattle.cc_cut.specs.Piece.{function_pieces}
use Rattle.cc_spots.specs.Spot.{IsSpot}
use Rattle.cc_spots.specs.steps.Search.{numbered, chosen}
use Rattle.cc_spots.proofs.CutLaws.{NoCut, found_in}
use Rattle.cc_spots.proofs.spot.cut_spot.Goals as goal

pub returns : goal.returns
returns c =
    IfOk-weaker c.search.result (λ o. o ≡ chosen c.args.m.now c.as_slice-locals.result.now c.in_ok-size.size None (numbered c.args.index (function_pieces c.args.m.now c.args.func)))
    (λ o. MatchOption o (NoCut c.args.m.now c.args.func c.args.index) (IsSpot c.args.m.now c.args.func c.args.index))
    (λ o h. found_in c.args.m.now c.module-module.result.now c.args.func c.args.index c.in-Some.f.now c.in_ok-scope.field-0 c.in-Some-2.scope c.as_slice-locals.result.now c.in_ok-size.size o c.module-module.ensures.same c.in-Some.ensures.value
    c.in_ok-scope.ensures c.in-Some-2.is c.as_slice-locals.ensures.value c.in_ok-size.ensures h) c.search.ensures
