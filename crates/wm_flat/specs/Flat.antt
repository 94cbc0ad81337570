-- A machine that does the same as the reduction on terms with labels and frames nested in each other, and has none: its
-- configuration is a list of activations, each with the blocks that it is in. In all lists the innermost stands first,
-- and so does the last operand.
use Rattle.std.specs.Prelude.{ℕ, zero, suc, List, [], ◌∷◌, ◌++◌, length, drop, reverse, Option, Some, None}
use Rattle.std.specs.Prelude.{nat_lt, ◌==◌, if◌then◌else◌}
use Rattle.mc_nbt.specs.declared.value.Value.{Value}
use Rattle.mc_nbt.specs.declared.value.Value.TheVariants.{I32}
use Rattle.wm_ast.specs.declared.answer.TrapKind.{TrapKind}
use Rattle.wm_ast.specs.declared.answer.TrapKind.TheVariants.{StackExhausted}
use Rattle.wm_ast.specs.declared.limit.TheConstants.{MAX_FRAMES}
use Rattle.wm_ast.specs.declared.module.Module.{Module}
use Rattle.wm_ast.specs.Code.{Op, block, loop, if_else, br, br_if, br_table, return, call, call_indirect, const}
use Rattle.wm_ast.specs.Code.{Code, nil, cons}
use Rattle.wm_ast.specs.Configuration.{Item, instruction, label, frame, Items, empty, more, Config, items_of, append}
use Rattle.wm_ast.specs.Configuration.{after_values}
use Rattle.wm_ast.specs.Simple.{Executed, done, repeats, fault, unfit, if_nonzero, simple}
use Rattle.wm_ast.specs.Step.{arity, top, chosen, Target, function, refused, unknown, target}
use Rattle.wm_ast.specs.Store.{Store, Callee, callee_of}

-- A block that the next instruction stands in: its place in the function's body, what stands before it in its
-- sequence, the instruction itself, and what stands behind it. A place is a path: the position of an instruction in
-- each sequence, after that of an `if` the number of the arm, and last the position of the place.
pub record Block : Type 0 where
  pub place : List ℕ
  pub before : Code
  pub op : Op
  pub rest : Code

-- a block, and the operands under it in its sequence
pub record Level : Type 0 where
  pub block : Block
  pub values : List Value

-- A call that hasn't returned: the index of the function and the number of its results, the place of the next
-- instruction in its body, what stands before it in its sequence, and what is left of this from there on; the locals,
-- the blocks round it, and the operands of its sequence. A body is as a block that stands round it.
pub record Activation : Type 0 where
  pub func : ℕ
  pub results : ℕ
  pub place : List ℕ
  pub before : Code
  pub code : Code
  pub locals : List Value
  pub levels : List Level
  pub values : List Value

-- a configuration of the machine, but for its store
pub data Flat : Type 0 where
  -- a call from outside, of a function over these arguments
  starting : ℕ → List Value → Flat
  -- the callers, and the activation that goes on
  running : List Activation → Activation → Flat
  -- the end, with these results
  finished : List Value → Flat

-- Places.

-- a sequence, and another one behind it
abbrev pub join : Code → Code → Code
join nil js = js
join (cons i is) js = cons i (join is js)

-- the place behind an instruction
abbrev pub next : List ℕ → List ℕ
next [] = []
next (i ∷ []) = suc i ∷ []
next (i ∷ j ∷ p) = i ∷ next (j ∷ p)

-- what stands before the place behind an instruction
abbrev pub with_op : Code → Op → Code
with_op before i = join before (cons i nil)

-- how many values a branch to a block takes along, and what it goes on with
abbrev pub count_of : Op → ℕ
count_of (block ty body) = arity ty
count_of (if_else ty first second) = arity ty
count_of _ = 0

abbrev pub again_of : Op → Code
again_of (loop ty body) = cons (loop ty body) nil
again_of _ = nil

-- where a branch to a block goes on, and what stands before that: behind it, or at the loop itself
abbrev pub resume_place : Op → List ℕ → List ℕ
resume_place (loop ty body) p = p
resume_place _ p = next p

abbrev pub resume_before : Op → Code → Code
resume_before (loop ty body) before = before
resume_before i before = with_op before i

-- The term.

-- items in the place of what is inside a block
abbrev pub wrap : Level → Items → Items
wrap lv is =
    after_values lv.values
    (more (label (count_of lv.block.op) (again_of lv.block.op) is) (items_of lv.block.rest))

-- items inside all these blocks
abbrev pub plug : List Level → Items → Items
plug [] is = is
plug (lv ∷ lvs) is = plug lvs (wrap lv is)

-- the body of an activation's frame, with items before what is left
abbrev pub body_with : Activation → Items → Items
body_with a is = plug a.levels (after_values a.values (append is (items_of a.code)))

-- an activation's frame, with items before what is left
abbrev pub frame_with : Activation → Items → Item
frame_with a is = frame a.results a.func a.locals (body_with a is)

-- a frame inside those of its callers
abbrev pub around : List Activation → Item → Items
around [] f = more f empty
around (c ∷ cs) f = around cs (frame_with c (more f empty))

abbrev pub term_of : Flat → Items
term_of (starting f vs) = after_values vs (more (instruction (call f)) empty)
term_of (running cs a) = around cs (frame_with a empty)
term_of (finished vs) = after_values vs empty

-- the configuration that this one stands for
abbrev pub config_of : Store → Flat → Config
config_of s c = record { store = s; term = term_of c }

-- Moves.

-- what a configuration moves to
pub data Moved : Type 0 where
  -- another one, by so many steps of the reduction
  goes : ℕ → Store → Flat → Moved
  -- a trap, by the step after so many
  fails : ℕ → TrapKind → Moved
  -- nothing: it has ended with these results
  over : List Value → Moved
  -- nothing: no rule fits
  none : Moved

-- an activation behind its instruction, with these locals and operands
abbrev pub past : Activation → Op → Code → List Value → List Value → Activation
past a i is locals vs =
    record a { place = next a.place; before = with_op a.before i; code = is; locals = locals; values = vs }

-- an activation behind one of its blocks, inside those round this one
abbrev pub behind : Activation → Block → List Level → List Value → Activation
behind a b lvs vs =
    record a { place = next b.place; before = with_op b.before b.op; code = b.rest; levels = lvs; values = vs }

-- an activation where a branch to one of its blocks goes on
abbrev pub resumed : Activation → Block → List Level → List Value → Activation
resumed a b lvs vs = record a {
  place = resume_place b.op b.place;
  before = resume_before b.op b.before;
  code = join (again_of b.op) b.rest;
  levels = lvs;
  values = vs;
}

-- the block that is an activation's next instruction, over these operands
abbrev pub level_at : Activation → Op → Code → List Value → Level
level_at a i is vs = record { block = record { place = a.place; before = a.before; op = i; rest = is }; values = vs }

-- an activation inside the block that is its next instruction, at the first place of this sequence; of an `if`, in the
-- arm of this number
abbrev pub inner : Activation → Op → Code → List Value → List ℕ → Code → Activation
inner a i is vs first body = record a {
  place = a.place ++ first;
  before = nil;
  code = body;
  levels = level_at a i is vs ∷ a.levels;
  values = [];
}

-- the block that a function's body is as
abbrev pub body_block : Callee → Block
body_block c = record { place = []; before = nil; op = block c.gives c.body; rest = nil }

-- the activation of a function over its arguments
abbrev pub opened : ℕ → Callee → List Value → Activation
opened f c us = record {
  func = f;
  results = arity c.gives;
  place = 0 ∷ [];
  before = nil;
  code = c.body;
  locals = reverse us ++ c.zeros;
  levels = record { block = body_block c; values = [] } ∷ [];
  values = [];
}

-- the results of a call go to its caller, or outside
abbrev pub handed : Store → List Activation → List Value → Moved
handed s [] us = goes 1 s (finished us)
handed s (c ∷ cs) us = goes 1 s (running cs (record c { values = us ++ c.values }))

abbrev pub handed_some : Store → List Activation → Option (List Value) → Moved
handed_some s cs None = none
handed_some s cs (Some us) = handed s cs us

-- a call, after so many steps, of callers that its arguments were taken from
abbrev pub opens : ℕ → Store → List Activation → ℕ → Callee → Option (List Value) → Moved
opens n s cs f c None = none
opens n s cs f c (Some us) = goes (suc n) s (running cs (opened f c us))

-- a call by the first activation, after so many steps
abbrev pub calls : ℕ → Store → List Activation → Activation → ℕ → List Value → Option Callee → Moved
calls n s cs a f vs None = none
calls n s cs a f vs (Some c) =
    if nat_lt (suc (length cs)) MAX_FRAMES
    then opens n s (record a { values = drop (length c.takes) vs } ∷ cs) f c (top (length c.takes) vs)
    else fails n StackExhausted

-- a call from outside takes all the values
abbrev pub starts : Store → ℕ → List Value → Option Callee → Moved
starts s f vs None = none
starts s f vs (Some c) = if length vs == length c.takes then goes 1 s (running [] (opened f c vs)) else none

module _ (m : Module) (s : Store) (cs : List Activation) (a : Activation) where
  -- a branch, after so many steps
  abbrev pub carried : ℕ → Level → List Level → Option (List Value) → Moved
  carried n lv lvs None = none
  carried n lv lvs (Some us) = goes n s (running cs (resumed a lv.block lvs (us ++ lv.values)))

  -- a branch out of so many further blocks, after so many steps
  abbrev pub jump : ℕ → ℕ → List Value → List Level → Moved
  jump n l vs [] = none
  jump n zero vs (lv ∷ lvs) = carried n lv lvs (top (count_of lv.block.op) vs)
  jump n (suc l) vs (lv ∷ lvs) = jump n l vs lvs

  -- the end of a block, or of the body
  abbrev pub leave : List Level → Moved
  leave [] = handed s cs a.values
  leave (lv ∷ lvs) = goes 1 s (running cs (behind a lv.block lvs (a.values ++ lv.values)))

  -- an instruction without a body that goes to no other place
  abbrev pub does : Op → Code → Executed → Moved
  does i is (done s' locals vs) = goes 1 s' (running cs (past a i is locals vs))
  does i is (repeats s' vs) = goes 1 s' (running cs (record a { values = vs; code = cons i is }))
  does i is (fault k) = fails 0 k
  does i is unfit = none

  -- a block
  abbrev pub inside : Op → Code → List Value → List ℕ → Code → Moved
  inside i is vs first body = goes 1 s (running cs (inner a i is vs first body))

  -- a call through the table
  abbrev pub calls_target : Op → Code → List Value → Target → Moved
  calls_target i is vs (function f) = calls 1 s cs (past a i is a.locals vs) f vs (callee_of m f)
  calls_target i is vs (refused k) = fails 0 k
  calls_target i is vs unknown = none

  -- an instruction over these operands, and what stands behind it; a constant is no step
  abbrev pub op_move : Op → List Value → Code → Moved
  op_move (const v) vs is = goes 0 s (running cs (past a (const v) is a.locals (v ∷ vs)))
  op_move (block ty body) vs is = inside (block ty body) is vs (0 ∷ []) body
  op_move (loop ty body) vs is = inside (loop ty body) is vs (0 ∷ []) body
  op_move (if_else ty first second) (I32 c ∷ vs) is =
      inside (if_else ty first second) is vs (if_nonzero c (0 ∷ 0 ∷ []) (1 ∷ 0 ∷ [])) (if_nonzero c first second)
  op_move (br l) vs is = jump 1 l vs a.levels
  op_move (br_if l) (I32 c ∷ vs) is =
      if_nonzero c (jump 2 l vs a.levels) (goes 1 s (running cs (past a (br_if l) is a.locals vs)))
  op_move (br_table ls l) (I32 i ∷ vs) is = jump 2 (chosen ls l i) vs a.levels
  op_move return vs is = handed_some s cs (top a.results vs)
  op_move (call f) vs is = calls 0 s cs (past a (call f) is a.locals vs) f vs (callee_of m f)
  op_move (call_indirect n) (I32 i ∷ vs) is = calls_target (call_indirect n) is vs (target m s n i)
  op_move i vs is = does i is (simple m s a.locals i vs)

  -- what is left of the sequence
  abbrev pub code_move : Code → Moved
  code_move nil = leave a.levels
  code_move (cons i is) = op_move i a.values is

-- one move
abbrev pub move : Module → Store → Flat → Moved
move m s (starting f vs) = starts s f vs (callee_of m f)
move m s (running cs a) = code_move m s cs a a.code
move m s (finished vs) = over vs

-- the first configuration of a program, by its start function
abbrev pub first_flat : Option ℕ → Flat
first_flat None = finished []
first_flat (Some f) = starting f []

-- a call from outside, over arguments of which the first one stands first
abbrev pub call_flat : ℕ → List Value → Flat
call_flat f arguments = starting f (reverse arguments)
