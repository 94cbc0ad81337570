-- Loads and stores at an address that is known to lie in the memory, and in one word, or in two whole ones. They need
-- no test, no macro line and no window.
use Rattle.std.specs.Prelude.{ℕ, suc, ◌+◌, ◌-◌, ◌*◌, ◌/◌, ◌%◌, List, [], ◌∷◌, pos, Option, Some, None, Bool, ◌&&◌}
use Rattle.std.specs.Prelude.{if◌then◌else◌, nat_lt, nat_le, nat_eq, codes}
use Rattle.mc_nbt.specs.Tree.{place}
use Rattle.mc_cmd.specs.Command.{Op, assign, subtract, add, multiply, divide, remainder}
use Rattle.wm_ast.specs.declared.operation.LoadOp.{LoadOp}
use Rattle.wm_ast.specs.declared.operation.LoadOp.TheVariants.{I32Load, I64Load, I32Load8S, I32Load8U, I32Load16S}
use Rattle.wm_ast.specs.declared.operation.LoadOp.TheVariants.{I32Load16U}
use Rattle.wm_ast.specs.declared.operation.StoreOp.{StoreOp}
use Rattle.wm_ast.specs.declared.operation.StoreOp.TheVariants.{I32Store, I64Store, I32Store8, I32Store16}
use Rattle.wm_ast.specs.Operation.{load_width, store_width}
use Rattle.cc_line.specs.Key.{key_memory}
use Rattle.cc_line.specs.Sight.{in_memory}
use Rattle.cc_line.specs.State.{Site}
use Rattle.cc_line.specs.Step.{Step, run_act, combine, load_place, keep_place, load_site, keep_site, place_to_site}
use Rattle.cc_line.specs.Step.{site_to_place}
use Rattle.cc_line.specs.Item.{Items, no_more, join, steps_items}
use Rattle.cc_mem.specs.Address.{no_offset}
use Rattle.cc_mem.specs.Load.{at_u, scale}
use Rattle.cc_mem.specs.Store.{at_s, at_y, at_z}
use Rattle.cc_access.specs.Access.{low_load, low_store, high_steps, load_items, store_items}

-- ---- where

-- the byte of its word at which an address is
abbrev pub byte_in : ℕ → ℕ
byte_in address = address % 4

-- the path to its word
abbrev pub word_path : ℕ → Site
word_path address = record {
  store = in_memory;
  name = key_memory;
  parts = place (pos (address / 65536)) ∷ (place (pos (address / 4 % 16384)) ∷ []);
}

-- whether so many bytes from a byte of a word on lie within it, or are two words
abbrev pub in_words : ℕ → ℕ → Bool
in_words width byte = if nat_eq width 8 then nat_eq byte 0 else nat_le (byte + width) 4

-- whether so many bytes from an address on are so, and lie within a memory of at least so many pages
abbrev pub is_known : ℕ → ℕ → ℕ → Bool
is_known least width address =
    nat_lt address no_offset && (nat_le (address + width) (65536 * least) && in_words width (byte_in address))

-- ---- loads

-- of a word an operation by a scale, and then one by another
abbrev pub part_steps : ℕ → Op → ℕ → Op → ℕ → ℕ → List Step
part_steps address op first last second r =
    run_act (load_site (codes "#u") (word_path address))
    ∷ (run_act (combine at_u op (scale first))
    ∷ (run_act (combine at_u last (scale second)) ∷ (run_act (keep_place r (codes "#u")) ∷ [])))

-- a load of an i32 into the place r
abbrev pub word_steps : LoadOp → ℕ → ℕ → List Step
word_steps I32Load8U address r = part_steps address divide (byte_in address) remainder 1 r
word_steps I32Load8S address r = part_steps address multiply (3 - byte_in address) divide 3 r
word_steps I32Load16U address r = part_steps address divide (byte_in address) remainder 2 r
word_steps I32Load16S address r = part_steps address multiply (2 - byte_in address) divide 2 r
word_steps _ address r = run_act (site_to_place r (word_path address)) ∷ []

-- the high half of eight bytes
abbrev pub high_word : LoadOp → ℕ → ℕ → Items
high_word I64Load address a = steps_items (word_steps I32Load (address + 4) (suc a))
high_word _ address a = no_more

-- a load into the places from a on
abbrev pub known_load : LoadOp → ℕ → ℕ → Items
known_load op address a =
    join (high_word op address a)
    (join (steps_items (word_steps (low_load op) address a)) (steps_items (high_steps op a)))

-- ---- stores

-- the low bytes of the value, less those that stand there, as often as their place says, are added to the word
abbrev pub change_steps : ℕ → ℕ → ℕ → List Step
change_steps width address v =
    run_act (load_place (codes "#s") v)
    ∷ (run_act (load_site (codes "#u") (word_path address))
    ∷ (run_act (combine at_y assign at_u)
    ∷ (run_act (combine at_y divide (scale (byte_in address)))
    ∷ (run_act (combine at_y remainder (scale width))
    ∷ (run_act (combine at_z assign at_s)
    ∷ (run_act (combine at_z remainder (scale width))
    ∷ (run_act (combine at_z subtract at_y)
    ∷ (run_act (combine at_z multiply (scale (byte_in address)))
    ∷ (run_act (combine at_u add at_z) ∷ (run_act (keep_site (word_path address) (codes "#u")) ∷ []))))))))))

-- a store of an i32 from the place v
abbrev pub put_steps : StoreOp → ℕ → ℕ → List Step
put_steps I32Store8 address v = change_steps 1 address v
put_steps I32Store16 address v = change_steps 2 address v
put_steps _ address v = run_act (place_to_site (word_path address) v) ∷ []

-- the high half of eight bytes
abbrev pub high_put : StoreOp → ℕ → ℕ → Items
high_put I64Store address v = steps_items (put_steps I32Store (address + 4) (suc v))
high_put _ address v = no_more

-- a store from the place behind a on
abbrev pub known_store : StoreOp → ℕ → ℕ → Items
known_store op address a = join (high_put op address (suc a)) (steps_items (put_steps (low_store op) address (suc a)))

-- ---- by what is known of the address

-- the address of an access, where the operand, without sign, is known, and no test is needed
abbrev pub known_address : ℕ → ℕ → Option ℕ → ℕ → Option ℕ
known_address least width None offset = None
known_address least width (Some operand) offset =
    if is_known least width (operand + offset) then Some (operand + offset) else None

-- a load at an address that may be known
abbrev pub loads_at : Option ℕ → Bool → LoadOp → ℕ → ℕ → Items
loads_at None sure op a offset = load_items sure op a offset
loads_at (Some address) sure op a offset = known_load op address a

abbrev pub stores_at : Option ℕ → Bool → StoreOp → ℕ → ℕ → Items
stores_at None sure op a offset = store_items sure op a offset
stores_at (Some address) sure op a offset = known_store op address a

-- a load where the memory has at least so many pages, and the operand, without sign, may be known
abbrev pub loads_by : ℕ → Option ℕ → Bool → LoadOp → ℕ → ℕ → Items
loads_by least known sure op a offset =
    loads_at (known_address least (load_width op) known offset) sure op a offset

abbrev pub stores_by : ℕ → Option ℕ → Bool → StoreOp → ℕ → ℕ → Items
stores_by least known sure op a offset =
    stores_at (known_address least (store_width op) known offset) sure op a offset
