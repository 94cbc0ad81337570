-- What a program runs over (4.2): the store, which its instructions change, and the functions, which they don't. A
-- module of the profile has no imports and only one instance, so what the module declares is read in the module itself.
use Rattle.std.specs.Prelude.{ℕ, ◌+◌, ◌/◌, min, List, [], ◌∷◌, ◌++◌, length, take, drop, reverse, filter_map}
use Rattle.std.specs.Prelude.{Option, Some, None, option_map, option_and_then, slice_get, pos, nat_lt, if◌then◌else◌}
use Rattle.mc_nbt.specs.declared.value.Value.{Value}
use Rattle.mc_nbt.specs.declared.value.Value.TheVariants as values
use Rattle.wm_ast.specs.declared.limit.TheConstants.{PAGES}
use Rattle.wm_ast.specs.declared.module.ValType.{ValType}
use Rattle.wm_ast.specs.declared.module.ValType.TheVariants.{I32, I64, F32, F64}
use Rattle.wm_ast.specs.declared.module.FuncType.{FuncType}
use Rattle.wm_ast.specs.declared.module.Func.{Func}
use Rattle.wm_ast.specs.declared.module.Limits.{Limits}
use Rattle.wm_ast.specs.declared.module.Module.{Module}
use Rattle.wm_ast.specs.Code.{Code}
use Rattle.wm_ast.specs.Types.{run_types, function_type}
use Rattle.wm_ast.specs.View.{code_of}

-- The store (4.2.3): the values of the globals (4.2.9), the bytes of the memory (4.2.8), and the elements of the table
-- (4.2.7), each the index of a function or empty. There are no bytes where there is no memory, and no elements where
-- there is no table.
pub record Store : Type 0 where
  pub globals : List Value
  pub memory : List ℕ
  pub table : List (Option ℕ)

-- Lists, from a position on.

-- so many items, or none where they reach beyond the end
abbrev pub items_at : {A : Type 0} → List A → ℕ → ℕ → Option (List A)
items_at xs position count =
    if nat_lt (length xs) (position + count) then None else Some (take count (drop position xs))

-- others in the place of as many items
abbrev pub overwritten : {A : Type 0} → List A → ℕ → List A → List A
overwritten xs position others = take position xs ++ (others ++ drop (position + length others) xs)

-- Memory (4.2.8).

-- how many bytes a page has
abbrev pub page_size : ℕ
page_size = 65536

-- how many pages there are
abbrev pub page_count : List ℕ → ℕ
page_count memory = length memory / page_size

-- the most pages that the profile has, and that a declared maximum allows
abbrev pub within : Option ℕ → ℕ
within None = PAGES
within (Some most) = min most PAGES

-- the most pages that a memory of these limits may have
abbrev pub most_pages_of : Option Limits → ℕ
most_pages_of None = 0
most_pages_of (Some l) = within l.max

-- the most pages that the module's memory may have
abbrev pub most_pages : Module → ℕ
most_pages m = most_pages_of (slice_get m.mems 0)

-- Functions (4.2.6).

-- A function, for its callers: the types of its arguments, the last one first, the type of its result, where it has
-- one, the values with which its locals begin, and its body.
pub record Callee : Type 0 where
  pub takes : List ValType
  pub gives : Option ValType
  pub zeros : List Value
  pub body : Code

-- the one type of the results, or none; a valid function type has no more (3.2.2)
abbrev pub one_result : List ValType → Option (Option ValType)
one_result [] = Some None
one_result (t ∷ []) = Some (Some t)
one_result (t ∷ u ∷ ts) = None

-- the zero of a type (4.4.7.1); the profile has no floats
abbrev pub zero_of : ValType → Option Value
zero_of I32 = Some (values.I32 (pos 0))
zero_of I64 = Some (values.I64 (pos 0))
zero_of F32 = None
zero_of F64 = None

-- a function of this type and with this result
abbrev pub callee : Func → FuncType → Option ValType → Callee
callee f t result = record {
  takes = reverse t.params;
  gives = result;
  zeros = filter_map zero_of (run_types f.locals);
  body = code_of f.body;
}

-- the function of this index, where there is one, and its type is there and valid
abbrev pub callee_of : Module → ℕ → Option Callee
callee_of m n =
    option_and_then
    (λ f. option_and_then (λ t. option_map (callee f t) (one_result t.results)) (function_type m f))
    (slice_get m.funcs n)
