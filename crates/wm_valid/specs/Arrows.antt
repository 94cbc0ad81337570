-- What instructions take and give, as functions of what a body may name: the one table besides the rules of `Typing`.
use Rattle.std.specs.Prelude.{ℕ, ◌^◌, nat_le, Bool, true, false, if◌then◌else◌, List, [], ◌∷◌, ◌++◌, length, drop}
use Rattle.std.specs.Prelude.{reverse, Option, Some, None, option_map, slice_get}
use Rattle.wm_ast.specs.declared.module.FuncType.{FuncType}
use Rattle.wm_ast.specs.declared.module.Limits.{Limits}
use Rattle.wm_ast.specs.declared.module.ValType.{ValType}
use Rattle.wm_ast.specs.declared.module.ValType.TheVariants.{I32}
use Rattle.wm_ast.specs.Code.{Op, nop, block, loop, if_else, br_if, call, call_indirect, drop_one, select, local_get}
use Rattle.wm_ast.specs.Code.{local_set, local_tee, global_get, global_set, load, store, memory_size, memory_grow}
use Rattle.wm_ast.specs.Code.{memory_copy, memory_fill, const, num}
use Rattle.wm_ast.specs.Operation.{Arrow, num_type, load_type, load_width, store_type, store_width}
use Rattle.wm_ast.specs.Types.{results_of, const_type}
use Rattle.wm_valid.specs.Typing.{GlobalType, Scope}

infixl 10 ◌>>=◌
-- goes on with what was found
abbrev pub ◌>>=◌ : {A B : Type 0} → Option A → (A → Option B) → Option B
None >>= f = None
(Some x) >>= f = f x

-- takes these and gives those
abbrev pub arrow : List ValType → List ValType → Arrow
arrow ts us = record { takes = ts; gives = us }

-- index 0 names one
abbrev pub has_first : {A : Type 0} → List A → Bool
has_first [] = false
has_first (x ∷ xs) = true

-- an instruction on memory
abbrev pub on_memory : List Limits → Arrow → Option Arrow
on_memory memories g = if has_first memories then Some g else None

-- an access to memory with this alignment, of this width
abbrev pub access : List Limits → ℕ → ℕ → Arrow → Option Arrow
access memories align width g = if nat_le (2 ^ align) width then on_memory memories g else None

-- a call of a function of this type
abbrev pub call_type : Option FuncType → Option Arrow
call_type o = o >>= λ t. Some (arrow (reverse t.params) (reverse t.results))

-- a call of a function by its index
abbrev pub called : List (Option FuncType) → ℕ → Option Arrow
called functions f = slice_get functions f >>= call_type

-- a call through the table of a function of the type of this index, but for the place in the table
abbrev pub indirect : List Limits → List FuncType → ℕ → Option Arrow
indirect tables types n = if has_first tables then call_type (slice_get types n) else None

-- with the place in the table, which is the last operand
abbrev pub placed : Arrow → Arrow
placed g = arrow (I32 ∷ g.takes) g.gives

-- a global that is set
abbrev pub set_type : GlobalType → Option Arrow
set_type g = if g.mutable then Some (arrow (g.holds ∷ []) []) else None

-- a global that is set, by its index
abbrev pub set_by : List GlobalType → ℕ → Option Arrow
set_by globals x = slice_get globals x >>= set_type

-- what an instruction takes and gives that has one type whatever the operands and labels, or none where it has none
abbrev pub arrow_of : Op → Scope → Option Arrow
arrow_of nop S = Some (arrow [] [])
arrow_of (call f) S = called S.functions f
arrow_of (local_get x) S = slice_get S.locals x >>= λ t. Some (arrow [] (t ∷ []))
arrow_of (local_set x) S = slice_get S.locals x >>= λ t. Some (arrow (t ∷ []) [])
arrow_of (local_tee x) S = slice_get S.locals x >>= λ t. Some (arrow (t ∷ []) (t ∷ []))
arrow_of (global_get x) S = slice_get S.globals x >>= λ g. Some (arrow [] (g.holds ∷ []))
arrow_of (global_set x) S = set_by S.globals x
arrow_of (load op align offset) S =
    access S.memories align (load_width op) (arrow (I32 ∷ []) (load_type op ∷ []))
arrow_of (store op align offset) S =
    access S.memories align (store_width op) (arrow (store_type op ∷ I32 ∷ []) [])
arrow_of memory_size S = on_memory S.memories (arrow [] (I32 ∷ []))
arrow_of memory_grow S = on_memory S.memories (arrow (I32 ∷ []) (I32 ∷ []))
arrow_of memory_copy S = on_memory S.memories (arrow (I32 ∷ I32 ∷ I32 ∷ []) [])
arrow_of memory_fill S = on_memory S.memories (arrow (I32 ∷ I32 ∷ I32 ∷ []) [])
arrow_of (const v) S = Some (arrow [] (const_type v ∷ []))
arrow_of (num op) S = Some (num_type op)
arrow_of _ S = None

-- how many operands are taken away, and which are put in their place
pub record Change : Type 0 where
  pub takes : ℕ
  pub gives : List ValType

abbrev pub changes : ℕ → List ValType → Change
changes takes gives = record { takes = takes; gives = gives }

-- the operands after it
abbrev pub changed : Change → List ValType → List ValType
changed e ts = e.gives ++ drop e.takes ts

-- that of an instruction that takes and gives these
abbrev pub by_arrow : Arrow → Change
by_arrow g = changes (length g.takes) g.gives

-- What an instruction makes of the operands, in typed code. A jump has no change: what follows it isn't reached.
abbrev pub change : Op → Scope → Option Change
change (block ty body) S = Some (changes 0 (results_of ty))
change (loop ty body) S = Some (changes 0 (results_of ty))
change (if_else ty first second) S = Some (changes 1 (results_of ty))
-- where the branch isn't taken, its values stay
change (br_if l) S = Some (changes 1 [])
change drop_one S = Some (changes 1 [])
-- the first of the two operands stays
change select S = Some (changes 2 [])
change (call_indirect n) S = option_map (λ g. by_arrow (placed g)) (indirect S.tables S.types n)
change i S = option_map by_arrow (arrow_of i S)
