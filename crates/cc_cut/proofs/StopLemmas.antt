-- What the code reads of a place.
use Rattle.std.proofs.Common.{◌≡◌, get_or, ℕ, suc, ◌+◌, ◌-◌, ◌<◌, ◌≤◌, List, [], ◌∷◌, length, map, reverse, false, Bool, Option, Some, None, option_map, sym, ap, ◌∙◌, arith}
use Rattle.std.specs.Prelude.{slice_get}
use Rattle.std.proofs.lemmas.List.{get_or-reverse, length-reverse, length-map}
use Rattle.std.proofs.lemmas.Option.{slice_get-map, slice_get-get_or}
use Rattle.wm_ast.specs.declared.instruction.Instr.{Instr}
use Rattle.wm_ast.specs.View.{code_of, op_of}
use Rattle.wm_place.specs.declared.walking.Level.{Level}
use Rattle.wm_place.specs.Stop.{level_told}
use Rattle.wm_place.specs.Visit.{Around}
use Rattle.cc_cut.specs.Cost.{ends_piece}
use Rattle.cc_cut.specs.Way.{labelled}
use Rattle.cc_cut.specs.Piece.{begins_at}

from_end : {A : Type 0} (xs : List A) (i : ℕ) → i < length xs → slice_get (reverse xs) i ≡ slice_get xs (length xs - 1 - i)
from_end [] i h = absurd (omega arith)
from_end (x ∷ xs) i h =
    slice_get-get_or (reverse (x ∷ xs)) i x (omega (arith, length-reverse (x ∷ xs)))
    ∙ (ap Some (get_or-reverse (x ∷ xs) i x h) ∙ sym (slice_get-get_or (x ∷ xs) (length (x ∷ xs) - 1 - i) x (omega arith)))

-- the block of the label
labelled_at : (ls : List Level) (l at : ℕ) → l < length ls → at ≡ length ls - (l + 1) → labelled (map level_told ls) l ≡ option_map level_told (slice_get ls at)
labelled_at ls l at h e =
    let size : length (map level_told ls) ≡ length ls = length-map ls level_told in
    let same : length (map level_told ls) - 1 - l ≡ at = omega arith in
    from_end (map level_told ls) l (omega arith) ∙ (ap (slice_get (map level_told ls)) same ∙ slice_get-map level_told ls at)

-- the block that is read
pub labelled_is : (ls : List Level) (l at : ℕ) (x : Level) → l + 1 ≤ length ls → at ≡ length ls - (l + 1) → x ≡ get_or ls at x → Some (level_told x) ≡ labelled (map level_told ls) l
labelled_is ls l at x h e is =
    ap (λ (y : Level). Some (level_told y)) is ∙ (ap (option_map level_told) (sym (slice_get-get_or ls at x (omega arith))) ∙ sym (labelled_at ls l at (omega arith) e))

-- the last instruction before a place
pub behind_last : (xs : List Instr) (x : Instr) (path : List ℕ) (blocks : List Around) → slice_get xs (length xs - 1) ≡ Some x → begins_at (code_of xs) path blocks ≡ ends_piece (op_of x)
behind_last [] x path blocks e = absurd cc
behind_last (y ∷ []) x path blocks e = let same : Some y ≡ Some x = e in ap (λ (o : Option Instr). at_most o) same
  where
    at_most : Option Instr → Bool
    at_most None = false
    at_most (Some z) = ends_piece (op_of z)
behind_last (y ∷ (z ∷ zs)) x path blocks e =
    let same : length (y ∷ (z ∷ zs)) - 1 ≡ suc (length (z ∷ zs) - 1) = omega arith in
    behind_last (z ∷ zs) x path blocks (ap (slice_get (y ∷ (z ∷ zs))) (sym same) ∙ e)
