-- What the index of a cut tells.
use Rattle.std.proofs.Common.{◌≡◌, ℕ, suc, ◌+◌, ◌<◌, ◌≤◌, List, [], length, Some, None, sym, ap, ap₂, ◌∙◌, arith}
use Rattle.std.specs.Prelude.{slice_get, option_map}
use Rattle.std.specs.List.{Contains}
use Rattle.std.proofs.lemmas.Option.{slice_get_within}
use Rattle.wm_ast.specs.declared.module.Func.{Func}
use Rattle.wm_ast.specs.declared.module.FuncType.{FuncType}
use Rattle.wm_ast.specs.declared.module.Module.{Module}
use Rattle.wm_ast.specs.declared.operator.BinaryOp.{BinaryOp}
use Rattle.wm_ast.specs.Types.{function_type}
use Rattle.wm_valid.proofs.OperandLaws.{bind_some}
use Rattle.wm_flat.specs.Program.{IsProgram}
use Rattle.wm_place.specs.Kinds.{body_of}
use Rattle.cc_line.specs.Key.{group_shared}
use Rattle.cc_cut.specs.declared.table.Cut.{Cut}
use Rattle.cc_cut.specs.Cuts.{function_cuts}
use Rattle.cc_cut.specs.Piece.{Piece, function_pieces}
use Rattle.cc_cut.proofs.LawLemmas.{by_body, cuts_are_of_pieces}
use Rattle.cc_cut.proofs.ListLemmas.{among, get_in, some_of}
use Rattle.cc_pieces.specs.Restoring.{first_restore}
use Rattle.cc_body.specs.Behind.{call_before, division_before}
use Rattle.cc_body.proofs.Bounds.{functions_are_few, pieces_few}
use Rattle.cc_simulate.specs.Callers.{IsPieceOf}
use Rattle.cc_simulate.proofs.Divisions.{before_no_call}
use Rattle.cc_simulate.proofs.Ways.{cuts_have_pieces}
use Rattle.cc_told.specs.Law.{IndicesTellCuts}

-- where a cut stands among those of its function
indexed : (m : Module) (n : ℕ) (c : Cut) → Contains (function_cuts m n) c → (k : ℕ) × (slice_get (function_cuts m n) k ≡ Some c) × (c.index ≡ suc k)
indexed m n c h =
    let i = get_in (function_cuts m n) c (among (function_cuts m n) c h) in (
      i.0,
      i.1,
      by_body m n (λ cs. slice_get cs i.0 ≡ Some c → c.index ≡ suc i.0) (λ e. absurd cc)
          (λ b e k. ap (λ (x : Cut). x.index) ((cuts_are_of_pieces m n b e i.0).1 c k).2) i.1,
    )

pub indices_tell_cuts : IndicesTellCuts
indices_tell_cuts m n c d x y e =
    let p = indexed m n c x in
    let q = indexed m n d y in
    let i : c.index ≡ suc p.0 = p.2 in
    let j : d.index ≡ suc q.0 = q.2 in
    let k : p.0 ≡ q.0 = omega arith in
    some_of c d (sym p.1 ∙ ap (slice_get (function_cuts m n)) k ∙ q.1)

-- two cuts of one function with one index have one piece
pub piece_told : (m : Module) (n k : ℕ) (c d : Cut) (q r : Piece) → IsPieceOf m n c q → IsPieceOf m k d r → n ≡ k → c.index ≡ d.index → q ≡ r
piece_told m n k c d q r x y func e =
    let i : c.index ≡ suc x.position = x.is_index in
    let j : d.index ≡ suc y.position = y.is_index in
    let same : x.position ≡ y.position = omega arith in
    some_of q r (sym x.is_piece ∙ ap₂ (λ (f p : ℕ). slice_get (function_pieces m f) p) func same ∙ y.is_piece)

-- so none is behind both a call and a division
pub never_both : (m : Module) (n k : ℕ) (c d : Cut) (q r : Piece) (t : FuncType) (op : BinaryOp) → IsPieceOf m n c q → IsPieceOf m k d r → n ≡ k → c.index ≡ d.index
    → call_before m q.cut ≡ Some t → division_before r.cut ≡ Some op → ⊥
never_both m n k c d q r t op x y func e call division =
    let none : None ≡ Some t = sym (before_no_call m r.cut op division) ∙ ap (λ (p : Piece). call_before m p.cut) (sym (piece_told m n k c d q r x y func e)) ∙ call in
    cc

-- a function that has a cut is there
pub func_low : (m : Module) → IsProgram m → (n : ℕ) (c : Cut) → Contains (function_cuts m n) c → n < group_shared
func_low m program n c =
    by_body m n (λ cs. Contains cs c → n < group_shared) (λ h. absurd (among [] c h))
    (λ b e h.
    let w = bind_some (slice_get m.funcs n) (λ (f : Func). option_map (body_of m f) (function_type m f)) b e in
    let low : n < length m.funcs = slice_get_within m.funcs n w.0 w.1 in
    let few : length m.funcs ≤ 8192 = functions_are_few m program in
    omega arith)

-- indices count from 1, and are few
pub index_low : (m : Module) → IsProgram m → (n : ℕ) (c : Cut) → Contains (function_cuts m n) c → (0 < c.index) × (c.index < first_restore)
index_low m program n c h =
    let q = cuts_have_pieces m n c h in
    let is : c.index ≡ suc q.1.position = q.1.is_index in
    let low : q.1.position < length (function_pieces m n) = slice_get_within (function_pieces m n) q.1.position q.0 q.1.is_piece in
    let few : length (function_pieces m n) ≤ 900000 = pieces_few m program n in
    (omega arith, omega arith)
