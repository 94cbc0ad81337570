-- Small bodies and their cuts, as the definitions give them.
use Rattle.std.proofs.Common.{◌≡◌, ℕ, List, [], ◌∷◌, None, refl}
use Rattle.wm_ast.specs.declared.module.ValType.{ValType}
use Rattle.wm_ast.specs.declared.module.ValType.TheVariants.{I32}
use Rattle.wm_ast.specs.Code.{block, loop, if_else, br, br_if, local_get, local_set, Code, nil, cons}
use Rattle.wm_valid.specs.Typing.{Scope}
use Rattle.wm_place.specs.Spot.{body_sequence}
use Rattle.wm_place.specs.Visit.{visits}
use Rattle.cc_cut.specs.declared.table.Cut.{Cut}
use Rattle.cc_cut.specs.Cuts.{cuts_in}

-- two locals, and nothing else that a body may name
abbrev bare : Scope
bare = record { types = []; functions = []; tables = []; memories = []; globals = []; locals = I32 ∷ I32 ∷ [] }

abbrev cuts : Code → List Cut
cuts code = cuts_in 7 bare (visits bare (body_sequence None code))

-- what a cut is expected to be
abbrev at : ℕ → List ℕ → List ValType → List ℕ → Cut
at index place layout exits = record { func = 7; index = index; place = place; layout = layout; exits = exits }

-- a loop in a block, which it leaves or begins anew; what follows the branch isn't reached
abbrev looped : Code
looped = cons (block None (cons (loop None (cons (local_get 0) (cons (br_if 1) (cons (br 0) nil)))) nil)) nil

looped_cuts : cuts looped ≡ at 1 (0 ∷ []) [] (2 ∷ []) ∷ at 2 (0 ∷ 0 ∷ 0 ∷ []) [] (4 ∷ 2 ∷ []) ∷ at 3 (0 ∷ 1 ∷ []) [] (4 ∷ []) ∷ at 4 (1 ∷ []) [] [] ∷ []
looped_cuts = refl

-- two arms over an operand, which stays under them
abbrev chosen : Code
chosen = cons (local_get 0) (cons (local_get 1) (cons (if_else None nil nil) (cons (local_set 0) nil)))

chosen_cuts : cuts chosen ≡ at 1 (0 ∷ []) [] (2 ∷ 3 ∷ []) ∷ at 2 (2 ∷ 1 ∷ 0 ∷ []) (I32 ∷ []) (3 ∷ []) ∷ at 3 (3 ∷ []) (I32 ∷ []) [] ∷ []
chosen_cuts = refl
