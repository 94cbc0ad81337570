-- Places of a function's body: each instruction has one, and the end of each sequence. They need no types, and are
-- there whether they are reached or not.
use Rattle.std.specs.Prelude.{◌≡◌, ℕ, suc, ◌<◌, ◌⊎◌, List, [], ◌∷◌, ◌++◌, Option, None, option_map}
use Rattle.wm_ast.specs.Code.{Op, block, loop, if_else, Code, nil, cons}
use Rattle.wm_valid.specs.Place.{after_front, arm}
use Rattle.wm_valid.specs.Arrows.{◌>>=◌}

-- a step into the block or the loop at this position of a sequence, or into an arm of the `if` there, which is 0 for
-- the first and 1 for the second
pub data Step : Type 0 where
  in_block : ℕ → Step
  in_arm : ℕ → ℕ → Step

-- The place of the instruction at this position of its sequence, or of the sequence's end. The steps lead to the
-- sequence, the last one first.
pub record Place : Type 0 where
  pub steps : List Step
  pub position : ℕ

abbrev pub place : List Step → ℕ → Place
place steps position = record { steps = steps; position = position }

-- the first place of a body
abbrev pub first_place : Place
first_place = place [] 0

-- the place behind an instruction
abbrev pub next : Place → Place
next p = place p.steps (suc p.position)

-- the first place inside a block or a loop
abbrev pub inside : Place → Place
inside p = place (in_block p.position ∷ p.steps) 0

-- the first place of an arm of an `if`
abbrev pub inside_arm : ℕ → Place → Place
inside_arm k p = place (in_arm p.position k ∷ p.steps) 0

-- ---- all places

abbrev mutual
  -- the places inside an instruction
  pub places_inside : List Step → ℕ → Op → List Place
  places_inside steps n (block ty body) = places_from (in_block n ∷ steps) 0 body
  places_inside steps n (loop ty body) = places_from (in_block n ∷ steps) 0 body
  places_inside steps n (if_else ty first second) =
      places_from (in_arm n 0 ∷ steps) 0 first ++ places_from (in_arm n 1 ∷ steps) 0 second
  places_inside steps n _ = []

  -- the places of a sequence, from this position on, where this code follows
  pub places_from : List Step → ℕ → Code → List Place
  places_from steps n nil = place steps n ∷ []
  places_from steps n (cons i is) = place steps n ∷ (places_inside steps n i ++ places_from steps (suc n) is)

-- the places of a body, in the order of its text
abbrev pub places : Code → List Place
places body = places_from [] 0 body

-- ---- the paths of positions that tell places

-- the positions of steps, before a path
abbrev pub lead : List Step → List ℕ → List ℕ
lead [] path = path
lead (in_block n ∷ steps) path = lead steps (n ∷ path)
lead (in_arm n k ∷ steps) path = lead steps (n ∷ k ∷ path)

-- The path of a place has the position of an instruction in each sequence from the body's on, after that of an `if` the
-- number of the arm, and last the position of the place.
abbrev pub path_of : Place → List ℕ
path_of p = lead p.steps (p.position ∷ [])

-- goes on in the instruction that stands first, or in the arm of this number where that is an `if`
abbrev pub into_op : {A : Type 0} → Op → ℕ → (Code → Option A) → (Code → Option A) → Option A
into_op (block ty body) k Body Arm = Body body
into_op (loop ty body) k Body Arm = Body body
into_op (if_else ty first second) k Body Arm = arm k first second >>= Arm
into_op _ k Body Arm = None

abbrev pub into_code : {A : Type 0} → Code → ℕ → (Code → Option A) → (Code → Option A) → Option A
into_code nil k Body Arm = None
into_code (cons i is) k Body Arm = into_op i k Body Arm

-- the place in this sequence that a path tells, after these steps
abbrev pub place_from : List Step → List ℕ → Code → Option Place
place_from steps [] c = None
place_from steps (n ∷ []) c = option_map (λ rest. place steps n) (after_front n c)
place_from steps (n ∷ k ∷ path) c =
    after_front n c
    >>= λ rest. into_code rest k
    (λ body. place_from (in_block n ∷ steps) (k ∷ path) body)
    (λ body. place_from (in_arm n k ∷ steps) path body)

-- the place of the body that a path tells, if any
abbrev pub place_of : Code → List ℕ → Option Place
place_of body path = place_from [] path body

-- A path stands before another, by the first numbers that differ. It stands before each path that begins with it.
abbrev pub IsBefore : List ℕ → List ℕ → Type 0
IsBefore [] [] = ⊥
IsBefore [] (j ∷ q) = Unit {0}
IsBefore (i ∷ p) [] = ⊥
IsBefore (i ∷ p) (j ∷ q) = (i < j) ⊎ ((i ≡ j) × IsBefore p q)
