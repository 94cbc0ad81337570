-- Typing by one stack of operands with unknowns, as a validator keeps it. It goes down the instructions, and the last
-- operand stands first.
use Rattle.std.specs.Prelude.{ℕ, Bool, true, false, ◌&&◌, if◌then◌else◌, List, [], ◌∷◌, Option, Some, None, slice_get}
use Rattle.wm_ast.specs.declared.module.FuncType.{FuncType}
use Rattle.wm_ast.specs.declared.module.Limits.{Limits}
use Rattle.wm_ast.specs.declared.module.ValType.{ValType}
use Rattle.wm_ast.specs.declared.module.ValType.TheVariants.{I32}
use Rattle.wm_ast.specs.Code.{Op, unreachable, block, loop, if_else, br, br_if, br_table, return, call_indirect}
use Rattle.wm_ast.specs.Code.{drop_one, select, Code, nil, cons}
use Rattle.wm_ast.specs.Operation.{Arrow}
use Rattle.wm_ast.specs.Types.{results_of, same_type, same_types}
use Rattle.wm_valid.specs.Typing.{Context, under_label}
use Rattle.wm_valid.specs.Arrows.{◌>>=◌, arrow, indirect, placed, arrow_of}

-- the operands that stand, each of a known or an unknown type, and whether any may stand below them
pub record Shape : Type 0 where
  pub known : List (Option ValType)
  pub open' : Bool

-- these operands, the last first, over any others or over none
abbrev pub over : List (Option ValType) → Bool → Shape
over ks o = record { known = ks; open' = o }

-- at the start of a body
abbrev pub bare : Shape
bare = over [] false

-- behind a branch
abbrev pub anything : Shape
anything = over [] true

-- the last operand, and the others
abbrev pub popped : List (Option ValType) → Bool → Option (Option ValType × Shape)
popped [] true = Some (None, anything)
popped [] false = None
popped (k ∷ ks) o = Some (k, over ks o)

-- the last operand, whatever its type, and the others
abbrev pub take_any : Shape → Option (Option ValType × Shape)
take_any s = popped s.known s.open'

-- what is left, where the operand may be of this type
abbrev pub of_type : ValType → Option ValType → Shape → Option Shape
of_type t None r = Some r
of_type t (Some u) r = if same_type u t then Some r else None

-- without the last operand, which has to be of this type
abbrev pub take_one : ValType → Shape → Option Shape
take_one t s = take_any s >>= λ x. of_type t x.0 x.1

-- without operands of these types
abbrev pub take_all : List ValType → Shape → Option Shape
take_all [] s = Some s
take_all (t ∷ ts) s = take_one t s >>= take_all ts

-- one more operand
abbrev pub push : Option ValType → Shape → Shape
push k s = over (k ∷ s.known) s.open'

-- more operands, of these types
abbrev pub push_all : List ValType → Shape → Shape
push_all [] s = s
push_all (t ∷ ts) s = push (Some t) (push_all ts s)

-- nothing is known to be left
abbrev pub left : List (Option ValType) → Option (Unit {0})
left [] = Some tt
left (k ∷ ks) = None

-- just operands of these types may stand
abbrev pub ends_with : List ValType → Shape → Option (Unit {0})
ends_with ts s = take_all ts s >>= λ r. left r.known

-- one operand that is both of these
abbrev pub agreed : Option ValType → Option ValType → Option (Option ValType)
agreed None k = Some k
agreed (Some t) None = Some (Some t)
agreed (Some t) (Some u) = if same_type t u then Some (Some t) else None

-- a label that stands takes these types
abbrev pub takes : List ValType → Option (List ValType) → Bool
takes ts None = false
takes ts (Some us) = same_types us ts

-- these labels take these types
abbrev pub each_takes : List ℕ → List (List ValType) → List ValType → Bool
each_takes [] labels ts = true
each_takes (l ∷ ls) labels ts = takes ts (slice_get labels l) && each_takes ls labels ts

-- the operands behind an instruction that takes and gives these
abbrev pub applied : Shape → Arrow → Option Shape
applied s g = take_all g.takes s >>= λ r. Some (push_all g.gives r)

-- a branch that takes these types
abbrev pub branched : List ValType → Shape → Option Shape
branched ts s = take_all ts s >>= λ r. Some anything

-- a body that gives these types
abbrev pub ended : List ValType → Option Shape → Option (Unit {0})
ended ts body = body >>= ends_with ts

-- the operands behind `select`: a condition and two operands of one type give one of these
abbrev pub selected : Shape → Option Shape
selected s =
    take_one I32 s
    >>= λ r. take_any r
    >>= λ x. take_any x.1
    >>= λ y. agreed y.0 x.0
    >>= λ k. Some (push k y.1)

-- a branch to one of these labels or to the default
abbrev pub tabled : List ℕ → ℕ → List (List ValType) → Shape → Option Shape
tabled ls l labels s = slice_get labels l >>= λ ts. if each_takes ls labels ts then branched (I32 ∷ ts) s else None

-- a call through the table, of a function of the type of this index
abbrev pub called_by_table : List Limits → List FuncType → ℕ → Shape → Option Shape
called_by_table tables types n s = indirect tables types n >>= λ g. applied s (placed g)

-- the operands behind an instruction that is no block
abbrev pub simple_op : Op → Context → Shape → Option Shape
simple_op unreachable C s = Some anything
simple_op (br l) C s = slice_get C.labels l >>= λ ts. branched ts s
simple_op (br_table ls l) C s = tabled ls l C.labels s
-- where the branch isn't taken, its values stay
simple_op (br_if l) C s = slice_get C.labels l >>= λ ts. applied s (arrow (I32 ∷ ts) ts)
simple_op (call_indirect n) C s = called_by_table C.scope.tables C.scope.types n s
simple_op return C s = branched C.results s
simple_op drop_one C s = take_any s >>= λ x. Some x.1
simple_op select C s = selected s
simple_op i C s = arrow_of i C.scope >>= applied s

abbrev mutual
  -- the operands behind an instruction, or none where it has no typing over these
  pub check_op : Op → Context → Shape → Option Shape
  check_op (block ty body) C s =
      ended (results_of ty) (check_code body (under_label (results_of ty) C) bare)
      >>= λ e. Some (push_all (results_of ty) s)
  check_op (loop ty body) C s =
      ended (results_of ty) (check_code body (under_label [] C) bare)
      >>= λ e. Some (push_all (results_of ty) s)
  check_op (if_else ty first second) C s =
      take_one I32 s
      >>= λ r. ended (results_of ty) (check_code first (under_label (results_of ty) C) bare)
      >>= λ d. ended (results_of ty) (check_code second (under_label (results_of ty) C) bare)
      >>= λ e. Some (push_all (results_of ty) r)
  check_op i C s = simple_op i C s

  -- the operands behind a sequence
  pub check_code : Code → Context → Shape → Option Shape
  check_code nil C s = Some s
  check_code (cons i is) C s = check_op i C s >>= check_code is C

-- a body that gives these types
abbrev pub check_body : Code → Context → List ValType → Option (Unit {0})
check_body c C ts = ended ts (check_code c C bare)
