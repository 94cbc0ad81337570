-- Why a module isn't in the profile: the first cause, in order.
use Rattle.std.specs.Prelude.{ℕ, suc, ◌-◌, ◌^◌, List, [], ◌∷◌, min, find, position, nat_lt, Option, Some, None}
use Rattle.std.specs.Prelude.{option_map}
use Rattle.std.specs.Option.{option_or}
use Rattle.wm_ast.specs.declared.item.Item.{Item}
use Rattle.wm_ast.specs.declared.item.Item.TheVariants.{Types, Imports, Functions, Globals, Elements, Datas}
use Rattle.wm_ast.specs.declared.module.Import.{Import}
use Rattle.wm_ast.specs.declared.module.Module.{Module}
use Rattle.wm_ast.specs.ItemIndex.{ItemIndex}
use Rattle.wm_ast.specs.Profile.{has_float_type, has_float_import, has_float_global, has_float_element, has_float_data}
use Rattle.wm_ast.specs.Profile.{has_float_function, has_mul64_global, has_mul64_element, has_mul64_data}
use Rattle.wm_ast.specs.Profile.{has_mul64_function, Limit, limits, is_element_beyond, is_data_beyond}
use Rattle.wm_profile.specs.declared.fault.ProfileFault.{ProfileFault}
use Rattle.wm_profile.specs.declared.fault.ProfileFault.TheVariants as faults

-- an item of this kind, where there is one
abbrev pub at : Item → Option ℕ → Option ItemIndex
at item index = option_map (λ n. record { item = item; index = n }) index

-- the first segment or function with a float type or a float instruction, in the order elements, datas, functions
abbrev pub first_float_after_globals : Module → Option ItemIndex
first_float_after_globals m =
    option_or (at Elements (position has_float_element m.elems))
    (option_or (at Datas (position has_float_data m.datas))
    (at Functions (position has_float_function m.funcs)))

-- the first item with one, in the order types, imports, globals, and then those
abbrev pub first_float : Module → Option ItemIndex
first_float m =
    option_or (at Types (position has_float_type m.types))
    (option_or (at Imports (position has_float_import m.imports))
    (option_or (at Globals (position has_float_global m.globals))
    (first_float_after_globals m)))

-- the first segment or function with an `i64.mul`, in the order elements, datas, functions
abbrev pub first_mul64_after_globals : Module → Option ItemIndex
first_mul64_after_globals m =
    option_or (at Elements (position has_mul64_element m.elems))
    (option_or (at Datas (position has_mul64_data m.datas))
    (at Functions (position has_mul64_function m.funcs)))

-- the first item with one, in the order globals, and then those
abbrev pub first_mul64 : Module → Option ItemIndex
first_mul64 m = option_or (at Globals (position has_mul64_global m.globals)) (first_mul64_after_globals m)

-- A limit that is exceeded: its number, the count that exceeds it, and the most that it may be.
pub record Excess : Type 0 where
  pub which : ℕ
  pub found : ℕ
  pub most : ℕ

-- how a limit of this number is exceeded, if it is: by the first count that does
abbrev pub excess_of : ℕ → Limit → Option Excess
excess_of n l = option_map (λ count. record { which = n; found = count; most = l.most }) (find (nat_lt l.most) l.counts)

-- the first limit that is exceeded, where the first of them has this number
abbrev pub first_excess : ℕ → List Limit → Option Excess
first_excess n [] = None
first_excess n (l ∷ ls) = option_or (excess_of n l) (first_excess (suc n) ls)

-- the first segment that reaches beyond the declared least size of its table or memory, elements before datas
abbrev pub first_beyond : Module → Option ItemIndex
first_beyond m =
    option_or (at Elements (position (is_element_beyond m) m.elems)) (at Datas (position (is_data_beyond m) m.datas))

-- the first import, where there is one
abbrev pub import_fault : List Import → Option ProfileFault
import_fault [] = None
import_fault (i ∷ is) = Some (faults.Import 0)

abbrev pub float_at : ItemIndex → ProfileFault
float_at p = faults.Float p.item p.index

abbrev pub mul64_at : ItemIndex → ProfileFault
mul64_at p = faults.Mul64 p.item p.index

abbrev pub beyond_at : ItemIndex → ProfileFault
beyond_at p = faults.SegmentOutside p.item p.index

-- a count above 2^64 - 1 is told as 2^64 - 1
abbrev pub over : Excess → ProfileFault
over e = faults.Limit e.which (min e.found (2 ^ 64 - 1)) e.most

-- the first cause for which a module isn't in the profile, in the order imports, floats, `i64.mul`, limits, segments
abbrev pub first_fault : Module → Option ProfileFault
first_fault m =
    option_or (import_fault m.imports)
    (option_or (option_map float_at (first_float m))
    (option_or (option_map mul64_at (first_mul64 m))
    (option_or (option_map over (first_excess 1 (limits m)))
    (option_map beyond_at (first_beyond m)))))
