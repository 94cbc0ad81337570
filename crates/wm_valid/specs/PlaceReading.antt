-- The operands at a place, and the height of a sequence, computed from what instructions make of the operands.
use Rattle.std.specs.Prelude.{ℕ, ◌+◌, ◌-◌, max, List, [], ◌∷◌, length, drop, Option, Some, None}
use Rattle.wm_ast.specs.declared.module.ValType.{ValType}
use Rattle.wm_ast.specs.Code.{Op, block, loop, if_else, Code, nil, cons}
use Rattle.wm_valid.specs.Place.{front, after_front, arm}
use Rattle.wm_valid.specs.Typing.{Scope}
use Rattle.wm_valid.specs.Arrows.{◌>>=◌, Change, changed, change}

-- the operands after a sequence, where no jump stands in it
abbrev pub run : Code → Scope → List ValType → Option (List ValType)
run nil S ts = Some ts
run (cons i is) S ts = change i S >>= λ e. run is S (changed e ts)

-- the operands, where so many instructions stand
abbrev pub within : Option Code → Option (List ValType) → Option (List ValType)
within None found = None
within (Some rest) found = found

-- goes into the arm
abbrev pub into_arm : Option Code → (Code → Option (List ValType)) → Option (List ValType)
into_arm None Arm = None
into_arm (Some c) Arm = Arm c

-- the operands inside a sequence that begins over these
abbrev pub Inward : Type 0
Inward = Code → List ValType → Option (List ValType)

-- goes into an instruction that stands over these operands
abbrev pub into_op : Op → ℕ → List ValType → Inward → Inward → Option (List ValType)
into_op (block ty body) n ts Body Arm = Body body ts
into_op (loop ty body) n ts Body Arm = Body body ts
into_op (if_else ty first second) n ts Body Arm = into_arm (arm n first second) (λ c. Arm c (drop 1 ts))
into_op _ n ts Body Arm = None

-- goes into the first instruction of a sequence
abbrev pub into_code : Code → ℕ → List ValType → Inward → Inward → Option (List ValType)
into_code nil n ts Body Arm = None
into_code (cons i is) n ts Body Arm = into_op i n ts Body Arm

-- goes into the first of what follows, where there is any and it is reached
abbrev pub into : Option Code → Option (List ValType) → ℕ → Inward → Inward → Option (List ValType)
into None found n Body Arm = None
into (Some rest) None n Body Arm = None
into (Some rest) (Some ts) n Body Arm = into_code rest n ts Body Arm

-- the operands at the place that the path leads to, where it is reached
abbrev pub operands_at : List ℕ → Code → Scope → List ValType → Option (List ValType)
operands_at [] c S ts = None
operands_at (n ∷ []) c S ts = within (after_front n c) (run (front n c) S ts)
operands_at (n ∷ m ∷ path) c S ts =
    into (after_front n c) (run (front n c) S ts) m
    (λ body us. operands_at (m ∷ path) body S us)
    (λ body us. operands_at path body S us)

-- the operands at the place that the rest of a path leads to, from the front of a sequence on
abbrev pub continued : List ℕ → Code → Scope → List ValType → Option (List ValType)
continued [] rest S ts = Some ts
continued (m ∷ path) rest S ts =
    into_code rest m ts
    (λ body us. operands_at (m ∷ path) body S us)
    (λ body us. operands_at path body S us)

-- how many operands there are after a change
abbrev pub counted : Change → ℕ → ℕ
counted e n = length e.gives + (n - e.takes)

-- what comes behind a change of so many operands, and 0 where nothing behind is reached
abbrev pub behind : Option Change → ℕ → (ℕ → ℕ) → ℕ
behind None n rest = 0
behind (Some e) n rest = rest (counted e n)

abbrev mutual
  -- the greatest number of operands over which a reached instruction inside this one stands
  pub op_height : Op → Scope → ℕ → ℕ
  op_height (block ty body) S n = code_height body S n
  op_height (loop ty body) S n = code_height body S n
  op_height (if_else ty first second) S n = max (code_height first S (n - 1)) (code_height second S (n - 1))
  op_height _ S n = 0

  -- the greatest number of operands over which a reached instruction of a sequence stands, where so many stand at its
  -- start
  pub code_height : Code → Scope → ℕ → ℕ
  code_height nil S n = 0
  code_height (cons i is) S n = max n (max (op_height i S n) (behind (change i S) n (λ k. code_height is S k)))
