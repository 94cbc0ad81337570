-- What stands at a place: the blocks round it, and what stands before it and behind it in its sequence.
use Rattle.std.specs.Prelude.{◌≡◌, ℕ, List, [], ◌∷◌, length, Option, Some, None, option_map}
use Rattle.wm_ast.specs.declared.module.ValType.{ValType}
use Rattle.wm_ast.specs.Code.{Op, block, loop, if_else, Code, nil, cons}
use Rattle.wm_ast.specs.Types.{results_of}
use Rattle.wm_valid.specs.Place.{front, after_front, arm}
use Rattle.wm_valid.specs.Arrows.{◌>>=◌}
use Rattle.wm_place.specs.Place.{Step, in_block, in_arm, Place, place}

-- A block, a loop or an `if` round a place. A function's body is as a block of its own (4.4.7), which has no place.
pub record Level : Type 0 where
  -- the place of the instruction
  pub place : Option Place
  -- what stands before it and behind it in its sequence
  pub before : Code
  pub op : Op
  pub rest : Code

abbrev pub level : Option Place → Code → Op → Code → Level
level p before op rest = record { place = p; before = before; op = op; rest = rest }

-- the operands that a branch to the label of a block takes along (3.3.5), the last one first
abbrev pub label_of : Op → List ValType
label_of (block ty body) = results_of ty
label_of (if_else ty first second) = results_of ty
label_of _ = []

-- how many these are: the arity of the label (4.2.12)
abbrev pub arity_of : Op → ℕ
arity_of op = length (label_of op)

-- the continuation of the label: a branch to a loop begins it anew
abbrev pub again_of : Op → Code
again_of (loop ty body) = cons (loop ty body) nil
again_of _ = nil

-- what a block gives at its end
abbrev pub gives_of : Op → List ValType
gives_of (block ty body) = results_of ty
gives_of (loop ty body) = results_of ty
gives_of (if_else ty first second) = results_of ty
gives_of _ = []

-- the labels that code inside these blocks names, the innermost first
abbrev pub labels_at : List Level → List (List ValType)
labels_at [] = []
labels_at (lv ∷ lvs) = label_of lv.op ∷ labels_at lvs

-- what stands at the end of the sequence in the innermost of these blocks
abbrev pub ends_at : List Level → List ValType
ends_at [] = []
ends_at (lv ∷ lvs) = gives_of lv.op

-- a sequence with the blocks round it, the innermost first
pub record Sequence : Type 0 where
  pub levels : List Level
  pub code : Code

abbrev pub sequence : List Level → Code → Sequence
sequence levels code = record { levels = levels; code = code }

-- the body of a function that gives this
abbrev pub body_sequence : Option ValType → Code → Sequence
body_sequence gives body = sequence (level None nil (block gives body) nil ∷ []) body

-- what stands at a place
pub record Spot : Type 0 where
  pub levels : List Level
  pub before : Code
  pub code : Code

abbrev pub spot : List Level → Code → Code → Spot
spot levels before code = record { levels = levels; before = before; code = code }

-- a sequence and one instruction more
abbrev pub followed_by : Code → Op → Code
followed_by nil i = cons i nil
followed_by (cons j js) i = cons j (followed_by js i)

-- a sequence parted at a position
abbrev pub parted : ℕ → Sequence → Option Spot
parted n q = option_map (λ rest. spot q.levels (front n q.code) rest) (after_front n q.code)

-- the sequence in the block or loop that stands next at a place
abbrev pub block_of : Place → List Level → Code → Op → Code → Option Sequence
block_of p lvs before (block ty body) rest = Some (sequence (level (Some p) before (block ty body) rest ∷ lvs) body)
block_of p lvs before (loop ty body) rest = Some (sequence (level (Some p) before (loop ty body) rest ∷ lvs) body)
block_of p lvs before _ rest = None

-- the sequence that is an arm of the `if` that stands next at a place
abbrev pub arm_of : ℕ → Place → List Level → Code → Op → Code → Option Sequence
arm_of k p lvs before (if_else ty first second) rest =
    option_map (sequence (level (Some p) before (if_else ty first second) rest ∷ lvs)) (arm k first second)
arm_of k p lvs before _ rest = None

-- the sequence that a step leads to
abbrev pub step_in : Step → Place → List Level → Code → Op → Code → Option Sequence
step_in (in_block n) p lvs before i rest = block_of p lvs before i rest
step_in (in_arm n k) p lvs before i rest = arm_of k p lvs before i rest

abbrev pub step_from : Step → Place → List Level → Code → Code → Option Sequence
step_from s p lvs before nil = None
step_from s p lvs before (cons i rest) = step_in s p lvs before i rest

-- the position of the instruction that a step goes into
abbrev pub position_of : Step → ℕ
position_of (in_block n) = n
position_of (in_arm n k) = n

-- a step, after these
abbrev pub step_at : Step → List Step → Spot → Option Sequence
step_at s steps x = step_from s (place steps (position_of s)) x.levels x.before x.code

-- the sequence that steps lead to, the last of them first
abbrev pub sequence_at : Sequence → List Step → Option Sequence
sequence_at body [] = Some body
sequence_at body (s ∷ steps) = sequence_at body steps >>= parted (position_of s) >>= step_at s steps

-- what stands at a place of the body, if it is one
abbrev pub spot_at : Sequence → Place → Option Spot
spot_at body p = sequence_at body p.steps >>= parted p.position

-- the block has its place, and this stands there
abbrev pub Stands : Sequence → Level → List Level → Type 0
Stands body lv outer = (p : Place)
    → lv.place ≡ Some p → spot_at body p ≡ Some (spot outer lv.before (cons lv.op lv.rest))

-- the same of each of these blocks
abbrev pub AllStand : Sequence → List Level → Type 0
AllStand body [] = Unit {0}
AllStand body (lv ∷ lvs) = Stands body lv lvs × AllStand body lvs
