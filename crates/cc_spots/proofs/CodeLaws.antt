-- What the code reads of instructions.
use Rattle.std.proofs.Common.{◌≡◌, ℕ, suc, ◌+◌, ◌<◌, ◌≤◌, List, [], ◌∷◌, ◌++◌, length, drop, get_or, Some, None, refl, sym, ap, ◌∙◌, arith, append_assoc, append-nil, Option}
use Rattle.mc_nbt.specs.declared.value.Value.{Value}
use Rattle.wm_ast.specs.declared.instruction.Instr.{Instr}
use Rattle.wm_ast.specs.declared.module.FuncType.{FuncType}
use Rattle.wm_ast.specs.declared.module.Module.{Module}
use Rattle.wm_ast.specs.declared.module.ValType.{ValType}
use Rattle.wm_ast.specs.declared.operator.BinaryOp.{BinaryOp}
use Rattle.wm_ast.specs.Code.{Op, const, Code, nil, cons, constant_of}
use Rattle.wm_ast.specs.View.{code_of, op_of}
use Rattle.wm_valid.proofs.HeightLaws.{split}
use Rattle.wm_place.specs.Visit.{Visit}
use Rattle.wm_view.specs.Seen.{constants, first_opcode, size}
use Rattle.wm_view.specs.Seen as seen
use Rattle.cc_body.specs.Behind.{call_before, division_before}
use Rattle.cc_spots.specs.declared.spot.CutSpot.{CutSpot}
use Rattle.cc_spots.specs.Spot.{left_round, left_at, spot_shown}
use Rattle.cc_spots.specs.steps.Search.{behind_constants, opcode_of_first}

-- ---- the constants with which code begins

some_is : (v w : Value) → Some v ≡ Some w → v ≡ w
some_is v w e = cc

constant_first : (i : Op) (is : Code) (v : Value) → constant_of i ≡ Some v → constants (cons i is) ≡ v ∷ constants is
constant_first (const w) is v e = ap (λ (x : Value). x ∷ constants is) (some_is w v e)
constant_first _ is v e = absurd cc

other_first : (i : Op) (is : Code) → constant_of i ≡ None → constants (cons i is) ≡ []
other_first (const w) is e = absurd cc
other_first _ is e = refl

-- one more is read
pub one_more : (code : List Instr) (n : ℕ) (x : Instr) (v : Value) (so_far now : List Value) → n < length code → x ≡ get_or code n x → constant_of (op_of x) ≡ Some v → now ≡ so_far ++ v ∷ []
    → so_far ++ constants (code_of (drop n code)) ≡ constants (code_of code) → now ++ constants (code_of (drop (n + 1) code)) ≡ constants (code_of code)
one_more code n x v so_far now short is e k h =
    let rest : List Value = constants (code_of (drop (n + 1) code)) in
    let opened : constants (code_of (drop n code)) ≡ v ∷ rest =
    ap (λ (l : List Instr). constants (code_of l)) (split code n x short is) ∙ constant_first (op_of x) (code_of (drop (n + 1) code)) v e in
    ap (λ (l : List Value). l ++ rest) k
    ∙ (append_assoc so_far (v ∷ []) rest ∙ (ap (λ (l : List Value). so_far ++ l) (sym opened) ∙ h))

-- behind the last one
pub no_more : (code : List Instr) (n : ℕ) (x : Instr) (so_far : List Value) → n < length code → x ≡ get_or code n x → constant_of (op_of x) ≡ None
    → so_far ++ constants (code_of (drop n code)) ≡ constants (code_of code) → so_far ≡ constants (code_of code)
no_more code n x so_far short is e h =
    let opened : constants (code_of (drop n code)) ≡ [] =
    ap (λ (l : List Instr). constants (code_of l)) (split code n x short is) ∙ other_first (op_of x) (code_of (drop (n + 1) code)) e in
    sym (append-nil so_far) ∙ (ap (λ (l : List Value). so_far ++ l) (sym opened) ∙ h)

-- ---- what stands behind them

pub behind_is : (code : List Instr) → code_of (drop (length (constants (code_of code))) code) ≡ behind_constants (code_of code)
behind_is [] = refl
behind_is (x ∷ xs) = by_op (op_of x) refl (behind_is xs)
  where
    by_op : (i : Op) → op_of x ≡ i → code_of (drop (length (constants (code_of xs))) xs) ≡ behind_constants (code_of xs)
        → code_of (drop (length (constants (cons i (code_of xs)))) (x ∷ xs)) ≡ behind_constants (cons i (code_of xs))
    by_op (const v) e deeper = deeper
    by_op _ e deeper = ap (λ (i : Op). cons i (code_of xs)) e

pub few_constants : (code : List Instr) → length (constants (code_of code)) ≤ length code
few_constants [] = omega arith
few_constants (x ∷ xs) = by_op (op_of x) (few_constants xs)
  where
    by_op : (i : Op) → length (constants (code_of xs)) ≤ length xs → length (constants (cons i (code_of xs))) ≤ length (x ∷ xs)
    by_op (const v) h = omega arith
    by_op _ h = omega arith

pub size_is : (code : List Instr) → size (code_of code) ≡ length code
size_is [] = refl
size_is (x ∷ xs) = ap suc (size_is xs)

pub first_is : (c : Code) → opcode_of_first (behind_constants c) ≡ first_opcode c
first_is nil = refl
first_is (cons (const v) is) = first_is is
first_is (cons _ is) = refl

pub left_is : (c : Code) → size (behind_constants c) ≡ seen.behind_constants c
left_is nil = refl
left_is (cons (const v) is) = left_is is
left_is (cons _ is) = refl

-- ---- all that is seen of a place

abbrev made : List ValType → List ValType → ℕ → List Value → Option ℕ → List ℕ → Option FuncType → Option BinaryOp → CutSpot
made locals kinds places values next left call division = record {
  locals = locals;
  kinds = kinds;
  size = places;
  constants = values;
  next = next;
  left = left;
  call = call;
  division = division;
}

pub shown_is : (m : Module) (locals : List ValType) (places : ℕ) (v : Visit) (behind : Code) (own kinds : List ValType) (values : List Value) (next : Option ℕ) (left : List ℕ) (call : Option FuncType) (division : Option BinaryOp)
    → behind ≡ behind_constants v.rest → own ≡ locals → kinds ≡ v.kinds → values ≡ constants v.rest → next ≡ opcode_of_first behind → left ≡ left_round v.blocks ++ size behind ∷ [] → call ≡ call_before m v → division ≡ division_before v
    → made own kinds places values next left call division ≡ spot_shown m locals places v
shown_is m locals places v behind own kinds values next left call division e own_is kinds_are values_are next_is left_are call_is division_is =
    ap (λ (l : List ValType). made l kinds places values next left call division) own_is
    ∙ (ap (λ (l : List ValType). made locals l places values next left call division) kinds_are
    ∙ (ap (λ (l : List Value). made locals v.kinds places l next left call division) values_are
    ∙ (ap (λ (o : Option ℕ). made locals v.kinds places (constants v.rest) o left call division) (next_is ∙ (ap opcode_of_first e ∙ first_is v.rest))
    ∙ (ap (λ (l : List ℕ). made locals v.kinds places (constants v.rest) (first_opcode v.rest) l call division) (left_are ∙ ap (λ (k : ℕ). left_round v.blocks ++ k ∷ []) (ap size e ∙ left_is v.rest))
    ∙ (ap (λ (o : Option FuncType). made locals v.kinds places (constants v.rest) (first_opcode v.rest) (left_at v) o division) call_is
    ∙ ap (λ (o : Option BinaryOp). made locals v.kinds places (constants v.rest) (first_opcode v.rest) (left_at v) (call_before m v) o) division_is)))))
