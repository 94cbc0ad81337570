-- The call behind which a place stands.
use Rattle.std.proofs.Common.{◌≡◌, suc, ◌-◌, List, [], ◌∷◌, length, Some, option_map, sym, ap, ◌∙◌, arith}
use Rattle.std.specs.Prelude.{slice_get}
use Rattle.wm_ast.specs.declared.instruction.Instr.{Instr}
use Rattle.wm_ast.specs.View.{code_of, op_of}
use Rattle.cc_body.specs.Behind.{last_op}

-- the last instruction before it
pub last_told : (xs : List Instr) (x : Instr) → slice_get xs (length xs - 1) ≡ Some x → last_op (code_of xs) ≡ Some (op_of x)
last_told [] x e = absurd cc
last_told (y ∷ []) x e = let same : Some y ≡ Some x = e in ap (option_map op_of) same
last_told (y ∷ (z ∷ zs)) x e =
    let same : length (y ∷ (z ∷ zs)) - 1 ≡ suc (length (z ∷ zs) - 1) = omega arith in
    last_told (z ∷ zs) x (ap (slice_get (y ∷ (z ∷ zs))) (sym same) ∙ e)
