-- Loads and stores of all widths, made of those of i32. An address stands in a place. A load leaves its result from
-- that place on, and a store takes its value from the next one on: of an i64 the low half, and then the high half.
use Rattle.std.specs.Prelude.{ℕ, suc, ◌+◌, List, [], ◌∷◌, pos, negsuc, Bool, nat_le, if◌then◌else◌, codes}
use Rattle.mc_cmd.specs.Command.{up_to}
use Rattle.wm_ast.specs.declared.operation.LoadOp.{LoadOp}
use Rattle.wm_ast.specs.declared.operation.LoadOp.TheVariants.{I32Load, I64Load, I32Load8S, I32Load8U, I32Load16S}
use Rattle.wm_ast.specs.declared.operation.LoadOp.TheVariants.{I32Load16U, I64Load8S, I64Load8U, I64Load16S}
use Rattle.wm_ast.specs.declared.operation.LoadOp.TheVariants.{I64Load16U, I64Load32S, I64Load32U}
use Rattle.wm_ast.specs.declared.operation.StoreOp.{StoreOp}
use Rattle.wm_ast.specs.declared.operation.StoreOp.TheVariants.{I32Store, I64Store, I32Store8, I32Store16, I64Store8}
use Rattle.wm_ast.specs.declared.operation.StoreOp.TheVariants.{I64Store16, I64Store32}
use Rattle.cc_line.specs.Place.{scratch}
use Rattle.cc_line.specs.Step.{load_place, set_place, in_range, Cond, holds, Step, run_act, when}
use Rattle.cc_line.specs.Item.{Items, no_more, join, steps_items}
use Rattle.cc_mem.specs.Address.{no_offset}
use Rattle.cc_mem.specs.Load.{load_items as load_word}
use Rattle.cc_mem.specs.Store.{store_items as store_word}

-- ---- the half at the address, and the one behind it

-- the load of an i32 that gives the low half of a load's result
abbrev pub low_load : LoadOp → LoadOp
low_load I64Load = I32Load
low_load I64Load8S = I32Load8S
low_load I64Load8U = I32Load8U
low_load I64Load16S = I32Load16S
low_load I64Load16U = I32Load16U
low_load I64Load32S = I32Load
low_load I64Load32U = I32Load
low_load op = op

-- the store of an i32 that writes the low half of a store's value
abbrev pub low_store : StoreOp → StoreOp
low_store I64Store = I32Store
low_store I64Store8 = I32Store8
low_store I64Store16 = I32Store16
low_store I64Store32 = I32Store
low_store op = op

-- The offset of the word behind the one at an offset. From 2^24 on no offset leads into the
-- memory, and such a one is kept.
abbrev pub next_offset : ℕ → ℕ
next_offset offset = if nat_le no_offset offset then offset else offset + 4

-- ---- the high half of a narrow load

-- zeros
abbrev pub zero_steps : ℕ → List Step
zero_steps a = run_act (set_place (suc a) (pos 0)) ∷ []

-- the sign of the low half
abbrev pub is_signed : List Cond
is_signed = holds (in_range (scratch (codes "#u")) (up_to (negsuc 0))) ∷ []

abbrev pub sign_steps : ℕ → List Step
sign_steps a =
    run_act (load_place (codes "#u") a)
    ∷ (run_act (set_place (suc a) (pos 0)) ∷ (when is_signed (set_place (suc a) (negsuc 0)) ∷ []))

-- what follows a load of the low half
abbrev pub high_steps : LoadOp → ℕ → List Step
high_steps I64Load8S a = sign_steps a
high_steps I64Load16S a = sign_steps a
high_steps I64Load32S a = sign_steps a
high_steps I64Load8U a = zero_steps a
high_steps I64Load16U a = zero_steps a
high_steps I64Load32U a = zero_steps a
high_steps _ a = []

-- ---- loads

-- what goes before it: of eight bytes the high half is loaded first, where the whole load traps if it does
abbrev pub before_load : Bool → LoadOp → ℕ → ℕ → Items
before_load sure I64Load a offset = load_word sure I32Load a (next_offset offset) (suc a)
before_load sure _ a offset = no_more

-- of the address in the place a, with this offset; `sure` says that the memory has a page in any case
abbrev pub load_items : Bool → LoadOp → ℕ → ℕ → Items
load_items sure op a offset =
    join (before_load sure op a offset) (join (load_word sure (low_load op) a offset a) (steps_items (high_steps op a)))

-- ---- stores

-- of eight bytes the high half is written first, where the whole store traps if it does
abbrev pub before_store : Bool → StoreOp → ℕ → ℕ → Items
before_store sure I64Store a offset = store_word sure I32Store a (next_offset offset) (suc (suc a))
before_store sure _ a offset = no_more

abbrev pub store_items : Bool → StoreOp → ℕ → ℕ → Items
store_items sure op a offset =
    join (before_store sure op a offset) (store_word sure (low_store op) a offset (suc a))
