-- The operands that stand at a place of a body, by typed prefixes of sequences (3.3.6). The last operand stands first.
use Rattle.std.specs.Prelude.{◌≡◌, ℕ, zero, suc, Bool, true, false, List, [], ◌∷◌, ◌++◌, Option, Some, None, reverse}
use Rattle.std.specs.Prelude.{slice_get}
use Rattle.wm_ast.specs.declared.module.ValType.{ValType}
use Rattle.wm_ast.specs.declared.module.ValType.TheVariants.{I32}
use Rattle.wm_ast.specs.declared.module.FuncType.{FuncType}
use Rattle.wm_ast.specs.declared.module.Func.{Func}
use Rattle.wm_ast.specs.declared.module.Module.{Module}
use Rattle.wm_ast.specs.Code.{Op, unreachable, block, loop, if_else, br, br_table, return, Code, nil, cons}
use Rattle.wm_ast.specs.View.{code_of}
use Rattle.wm_ast.specs.Types.{results_of, function_type}
use Rattle.wm_valid.specs.Typing.{Context, under_label, TypesCode, body_context}

-- what follows in the same sequence isn't reached
abbrev pub is_jump : Op → Bool
is_jump unreachable = true
is_jump (br l) = true
is_jump (br_table ls l) = true
is_jump return = true
is_jump _ = false

-- no jump stands directly in the sequence
abbrev pub HasNoJump : Code → Type 0
HasNoJump nil = Unit {0}
HasNoJump (cons i is) = (is_jump i ≡ false) × HasNoJump is

-- so many first instructions
abbrev pub front : ℕ → Code → Code
front zero c = nil
front (suc n) nil = nil
front (suc n) (cons i is) = cons i (front n is)

-- what follows them, where there are so many
abbrev pub after_front : ℕ → Code → Option Code
after_front zero c = Some c
after_front (suc n) nil = None
after_front (suc n) (cons i is) = after_front n is

-- From operands `a` on, so many instructions lead to operands `b`, with no jump among them, and `rest` follows them.
pub record TypesFront (n : ℕ) (c : Code) (C : Context) (a b : List ValType) (rest : Code) : Type 0 where
  pub follows : after_front n c ≡ Some rest
  pub no_jump : HasNoJump (front n c)
  pub typed : TypesCode (front n c) C a b

-- the first arm of an `if` has the number 0, and the second the number 1
abbrev pub arm : ℕ → Code → Code → Option Code
arm zero first second = Some first
arm (suc zero) first second = Some second
arm (suc (suc n)) first second = None

-- What holds of the sequence in an instruction that stands over these operands, and over others under the blocks round
-- it; of an `if`, of the arm of this number.
abbrev pub Inside : Op → ℕ → Context → List ValType → List ValType
    → (Code → Context → List ValType → Type 0) → (Code → Context → List ValType → Type 0) → Type 0
Inside (block ty body) n C own under Body Arm = Body body (under_label (results_of ty) C) (own ++ under)
Inside (loop ty body) n C own under Body Arm = Body body (under_label [] C) (own ++ under)
Inside (if_else ty first second) n C own under Body Arm =
    (kept : List ValType) × (taken : Code) × (own ≡ I32 ∷ kept) × (arm n first second ≡ Some taken)
    × Arm taken (under_label (results_of ty) C) (kept ++ under)
Inside _ n C own under Body Arm = ⊥

-- The path leads to a place that is reached. There `rest` follows in its sequence, and these operands stand, those
-- under the blocks round it included.
-- A path has the position of an instruction in each sequence, after that of an `if` the number of the arm, and last the
-- position of the place.
-- The sequence begins over operands `a` of its own, and others under the blocks round it.
abbrev pub LeadsTo : List ℕ → Code → Context → List ValType → List ValType → Code → List ValType → Type 0
LeadsTo [] c C a under rest ts = ⊥
LeadsTo (n ∷ []) c C a under rest ts = (own : List ValType) × TypesFront n c C a own rest × (ts ≡ own ++ under)
LeadsTo (n ∷ m ∷ path) c C a under rest ts =
    (own : List ValType) × (i : Op) × (is : Code) × TypesFront n c C a own (cons i is)
    × Inside i m C own under
    (λ body D below. LeadsTo (m ∷ path) body D [] below rest ts)
    (λ body D below. LeadsTo path body D [] below rest ts)

-- the path leads to a place of the function's body that is reached, where `rest` follows and these operands stand
abbrev pub IsReached : Module → Func → List ℕ → Code → List ValType → Type 0
IsReached m f path rest ts =
    (t : FuncType) × (function_type m f ≡ Some t)
    × LeadsTo path (code_of f.body) (body_context m f t) [] [] rest ts

-- the operands at a place of the function's body that is reached, that of an instruction or the end of a sequence
abbrev pub OperandsAt : Module → Func → List ℕ → List ValType → Type 0
OperandsAt m f path ts = (rest : Code) × IsReached m f path rest ts

-- The operands at a place of the function of this index, the lowest first. There are none exactly where there is no
-- such function or place, or the place isn't reached.
abbrev pub AreKinds : Module → ℕ → List ℕ → Option (List ValType) → Type 0
AreKinds m n path (Some kinds) = (f : Func) × (slice_get m.funcs n ≡ Some f) × OperandsAt m f path (reverse kinds)
AreKinds m n path None = (f : Func) (ts : List ValType) → slice_get m.funcs n ≡ Some f → OperandsAt m f path ts → ⊥
