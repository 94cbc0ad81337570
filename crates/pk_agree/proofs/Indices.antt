-- The indices of the pieces of a function are below those of the pieces that restore its frame. And the numbers of the
-- pieces that fetch arguments: those that are named are there.
use Rattle.std.proofs.Common.{◌≡◌, ℕ, suc, ◌+◌, ◌*◌, ◌/◌, ◌≤◌, ◌<◌, length, Option, Some, Bool, true, ap, sym, subst, arith}
use Rattle.std.specs.Prelude.{slice_get, if◌then◌else◌}
use Rattle.std.proofs.lemmas.Option.{slice_get_within}
use Rattle.wm_ast.specs.declared.module.Func.{Func}
use Rattle.wm_ast.specs.declared.module.Module.{Module}
use Rattle.wm_flat.specs.Program.{IsProgram}
use Rattle.wm_place.specs.Kinds.{Body}
use Rattle.wm_place.specs.Visit.{body_visits}
use Rattle.wm_place.proofs.KindLemmas.{Typed, typed_function}
use Rattle.cc_cut.specs.Piece.{Piece, pieces, function_pieces}
use Rattle.cc_cut.proofs.CutLemmas.{all_visits}
use Rattle.cc_pieces.specs.Restoring.{first_restore}
use Rattle.cc_pieces.specs.Fetching.{are_many, args_of_fetch, fetches}
use Rattle.cc_body.proofs.Bounds.{pieces_low}

-- the index of the piece at a position
pub index_few : (m : Module) → IsProgram m → (n : ℕ) (f : Func) → slice_get m.funcs n ≡ Some f → (position : ℕ) (q : Piece)
    → slice_get (function_pieces m n) position ≡ Some q → suc position < first_restore
index_few m p n f at position q e =
    let t : Typed m n f = typed_function m n f p.valid at in
    let long : length (function_pieces m n) ≡ length (pieces (all_visits m n f t)) =
    ap (λ (o : Option Body). length (pieces (body_visits o))) t.body in
    let few : length (pieces (all_visits m n f t)) ≤ 900000 = pieces_low m p n f at t in
    let within : position < length (function_pieces m n) = slice_get_within (function_pieces m n) position q e in
    omega arith

-- where arguments are left to fetch, a piece fetches them
pub fetch_within : (k params count : ℕ) → are_many params ≡ true → count ≡ params → args_of_fetch * k < count
    → k < fetches params
fetch_within k params count many same left =
    let e : fetches params ≡ (params + 303) / args_of_fetch = ap (λ (b : Bool). if b then (params + 303) / args_of_fetch else 0) many in
    let n : k < (params + 303) / args_of_fetch = omega arith in
    subst (λ x. k < x) (sym e) n
