-- What is known of the places of a piece: little lies above their locals, and a `br_table` there has few labels.
use Rattle.std.proofs.Common.{◌≡◌, refl, subst, ℕ, zero, suc, ◌+◌, ◌≤◌, inl, inr, List, [], ◌∷◌, ◌++◌, take, Option, Some, arith}
use Rattle.std.specs.List.{AllByRecursion, Contains}
use Rattle.wm_ast.specs.declared.module.Func.{Func}
use Rattle.wm_ast.specs.declared.module.Module.{Module}
use Rattle.wm_ast.specs.declared.module.ValType.{ValType}
use Rattle.wm_ast.specs.Types.{run_types}
use Rattle.wm_valid.specs.Height.{Low}
use Rattle.wm_flat.specs.Program.{IsProgram}
use Rattle.wm_place.specs.Kinds.{Body, function_body}
use Rattle.wm_place.specs.Visit.{Visit, visits, body_visits}
use Rattle.wm_place.proofs.KindLemmas.{Typed}
use Rattle.cc_cut.specs.Law.{width, widths}
use Rattle.cc_cut.specs.Piece.{Piece, places_in, function_pieces, pieces}
use Rattle.cc_cut.proofs.CutLemmas.{Has, has, all_visits}
use Rattle.cc_cut.proofs.ListLemmas.{In, among}
use Rattle.cc_body.specs.Layout.{place_above, top_place}
use Rattle.cc_body.proofs.Bounds.{labels_at, places_among, top_low}
use Rattle.cc_body.proofs.TableLabels.{FewLabels}

-- where these are the locals
pub record IsPlaced (locals : List ValType) (v : Visit) : Type 0 where
  pub labels : FewLabels v.rest
  pub room : top_place locals v ≤ 8000

abbrev pub AllPlaced : List ValType → List Visit → Type 0
AllPlaced locals vs = AllByRecursion (IsPlaced locals) vs

all_placed : (locals : List ValType) (vs : List Visit) → ((v : Visit) → In v vs → IsPlaced locals v) → AllPlaced locals vs
all_placed locals [] h = tt
all_placed locals (v ∷ vs) h = (h v (inl refl), all_placed locals vs (λ w i. h w (inr i)))

pub pieces_placed : (m : Module) → IsProgram m → Low m → (n : ℕ) (b : Body) → function_body m n ≡ Some b → (q : Piece) → Contains (function_pieces m n) q → AllPlaced b.scope.locals (places_in q)
pieces_placed m program low n b e q h =
    let x : Has m n b = has m program.valid n b e in
    subst (λ (y : Body). Contains (pieces (visits y.scope y.sequence)) q → AllPlaced y.scope.locals (places_in q)) x.is
    (λ h.
    let f : Func = x.function in
    let t : Typed m n f = x.typed in
    let vs : List Visit = all_visits m n f t in
    let locals : List ValType = t.type.params ++ run_types f.locals in
    let there : In q (pieces vs) = among (pieces vs) q h in
    all_placed locals (places_in q)
    (λ v i.
    let w : In v vs = places_among vs 0 q v there i in
    let room : top_place locals v ≤ 4096 = top_low m program n f x.at t low v w in
    record { labels = labels_at m program n f x.at t v w; room = omega arith }))
    (subst (λ (o : Option Body). Contains (pieces (body_visits o)) q) e h)

-- the place above some of the operands is below the one above all of them
take_widths : (n : ℕ) (ts : List ValType) → widths (take n ts) ≤ widths ts
take_widths zero ts = omega arith
take_widths (suc n) [] = omega arith
take_widths (suc n) (t ∷ ts) = let h : widths (take n ts) ≤ widths ts = take_widths n ts in let r : width t + widths (take n ts) ≤ width t + widths ts = omega arith in r

pub low_above : (locals : List ValType) (v : Visit) (n : ℕ) → top_place locals v ≤ 8000 → place_above locals v.kinds n ≤ 8000
low_above locals v n h =
    let u : widths (take n v.kinds) ≤ widths v.kinds = take_widths n v.kinds in
    let room : widths locals + widths v.kinds ≤ 8000 = h in
    let r : widths locals + widths (take n v.kinds) ≤ 8000 = omega arith in
    r
