-- Instantiation: a piece that makes the places that are scores, the lists of what there is none of, and what accesses
-- to a memory need; pieces that append the globals, so many each; and a piece for each page of the memory. Behind the
-- last one the start function is called; or without one the job ends.
use Rattle.std.specs.Prelude.{ℕ, zero, suc, ◌+◌, ◌-◌, ◌*◌, ◌/◌, List, [], ◌∷◌, ◌++◌, length, take, drop, ℤ, pos, negsuc, nat_lt}
use Rattle.std.specs.Prelude.{replicate, if◌then◌else◌, Bool, true, false, Option, Some, None, slice_get, codes}
use Rattle.std.specs.Str.{bytes_eq}
use Rattle.mc_nbt.specs.Tree.{int, list, no_items, compound, no_fields}
use Rattle.mc_nbt.specs.declared.value.Value.{Value}
use Rattle.mc_cmd.specs.Form.{Text}
use Rattle.wm_ast.specs.declared.module.Limits.{Limits}
use Rattle.wm_ast.specs.declared.module.Module.{Module}
use Rattle.wm_ast.specs.Instance.{first_store}
use Rattle.wm_ast.specs.Store.{page_size}
use Rattle.wm_flat.specs.FlatTyping.{least_pages}
use Rattle.cc_line.specs.declared.table.Table.{Table}
use Rattle.cc_line.specs.declared.table.Table.TheVariants as tables
use Rattle.cc_line.specs.Sight.{in_io, in_memory, in_rest}
use Rattle.cc_line.specs.Key.{key_low, key_high, key_and, key_raised, key_left, key_right_signed, key_right}
use Rattle.cc_line.specs.Key.{key_turn_left, key_turn_right, score_two, score_thirty_two, score_half_word, score_least}
use Rattle.cc_line.specs.Table.{table_tree}
use Rattle.cc_line.specs.Key.{key_state, key_memory, key_globals, key_below, key_end, key_next, key_args, key_table}
use Rattle.cc_line.specs.Key.{body_piece, init_piece, id_tree, score_window, score_four, score_page_words, scale_of}
use Rattle.cc_line.specs.Place.{score_places, scratch}
use Rattle.cc_line.specs.Routine.{value_ints}
use Rattle.cc_line.specs.State.{at_key, ints}
use Rattle.cc_line.specs.Step.{Act, open_place, set_spot, set_site, copy_site, append_value_to, append_site}
use Rattle.cc_line.specs.Item.{Items, no_more}
use Rattle.cc_sched.specs.Sched.{end_rounds}
use Rattle.cc_call.specs.Acts.{acts_then}
use Rattle.cc_page.specs.Pages.{page_tree, pages_of}
use Rattle.cc_mem.specs.Standing.{stem_byte, stem_top, stem_half, stem_rest}
use Rattle.cc_mem.specs.Address.{filling_site, filling_at}
use Rattle.cc_pieces.specs.Parts.{Part, part}
use Rattle.cc_body.specs.Storage.{global_site}
use Rattle.cc_simulate.specs.Uses.{uses_bytes}

-- so many places, from this one on
abbrev pub open_acts : ℕ → ℕ → List Act
open_acts i zero = []
open_acts i (suc n) = open_place i ∷ open_acts (suc i) n

-- the constants that routines use
abbrev pub number_acts : List Act
number_acts =
    set_spot (scratch score_two) (pos 2)
    ∷ (set_spot (scratch score_thirty_two) (pos 32)
    ∷ (set_spot (scratch score_half_word) (pos 65536)
    ∷ (set_spot (scratch score_least) (negsuc 2147483647) ∷ [])))

-- the tables of bytes, each under its key
abbrev pub byte_tables : List (Text × Table)
byte_tables =
    (key_low, tables.LowByte)
    ∷ ((key_high, tables.HighByte) ∷ ((key_and, tables.ByteAnd) ∷ ((key_raised, tables.RaisedAnd) ∷ [])))

-- those of shifts
abbrev pub shift_tables : List (Text × Table)
shift_tables =
    (key_left, tables.ShiftLeft)
    ∷ ((key_right_signed, tables.ShiftRightSigned)
    ∷ ((key_right, tables.ShiftRight)
    ∷ ((key_turn_left, tables.RotateLeft) ∷ ((key_turn_right, tables.RotateRight) ∷ []))))

-- the tables that stand: those of bytes are large, and stand only where something looks bytes up
abbrev pub standing_tables : Bool → List (Text × Table)
standing_tables true = byte_tables ++ shift_tables
standing_tables false = shift_tables

abbrev pub table_act : Text → Table → Act
table_act k t = set_site (at_key in_rest k) (table_tree t)

abbrev pub table_acts : List (Text × Table) → List Act
table_acts [] = []
table_acts (p ∷ ps) = table_act p.0 p.1 ∷ table_acts ps

-- no globals, no pages and no frames below
abbrev pub list_acts : List Act
list_acts =
    set_site (at_key in_memory key_globals) (list no_items)
    ∷ (set_site (at_key in_memory key_memory) (list no_items)
    ∷ (set_site (at_key in_rest key_below) (list no_items) ∷ []))

-- the lists, and what stands for routines from now on
abbrev pub settle_acts : Bool → List Act
settle_acts bytes = list_acts ++ (number_acts ++ table_acts (standing_tables bytes))

-- the job ends, and the rounds of its tick
abbrev pub finish_acts : List Act
finish_acts = copy_site (at_key in_io key_state) (at_key in_rest key_end) ∷ (end_rounds ∷ [])

-- a function is called that takes no arguments
abbrev pub start_acts : ℕ → List Act
start_acts f =
    set_site (at_key in_rest key_args) (list no_items)
    ∷ (set_site (at_key in_rest key_next) (id_tree (body_piece f 0)) ∷ [])

-- the start function is called, where there is one
abbrev pub leave_acts : Option ℕ → List Act
leave_acts None = finish_acts
leave_acts (Some f) = start_acts f

-- the ints of a global, from the k-th one on
abbrev pub ints_acts : ℕ → ℕ → List ℤ → List Act
ints_acts x k [] = []
ints_acts x k (z ∷ zs) = set_site (global_site x k) (int z) ∷ ints_acts x (suc k) zs

-- globals, from this one on: each is appended as zeros, as many as it has ints, which are set then
abbrev pub globals_acts : ℕ → List Value → List Act
globals_acts x [] = []
globals_acts x (v ∷ vs) =
    append_value_to (at_key in_memory key_globals) (ints (replicate (length (value_ints v)) (pos 0)))
    ∷ (ints_acts x 0 (value_ints v) ++ globals_acts (suc x) vs)

-- so many are appended by one piece
abbrev pub globals_of_piece : ℕ
globals_of_piece = 140

-- the pieces that append globals; they come behind the first piece
abbrev pub global_pieces : Module → ℕ
global_pieces m = (length m.globals + 139) / globals_of_piece

-- ---- memory

-- a standing score
abbrev pub constant_act : Text → ℕ → Act
constant_act h n = set_spot (scratch h) (pos n)

-- the constants of accesses
abbrev pub constants_acts : List Act
constants_acts =
    constant_act score_four 4
    ∷ constant_act score_page_words 16384
    ∷ constant_act (scale_of stem_byte 0) 1
    ∷ constant_act (scale_of stem_byte 1) 256
    ∷ constant_act (scale_of stem_byte 2) 65536
    ∷ constant_act (scale_of stem_byte 3) 16777216
    ∷ constant_act (scale_of stem_top 0) 16777216
    ∷ constant_act (scale_of stem_top 1) 65536
    ∷ constant_act (scale_of stem_top 2) 256
    ∷ constant_act (scale_of stem_top 3) 1
    ∷ constant_act (scale_of stem_half 0) 65536
    ∷ constant_act (scale_of stem_half 1) 256
    ∷ constant_act (scale_of stem_half 2) 1
    ∷ constant_act (scale_of stem_rest 1) 16777216
    ∷ constant_act (scale_of stem_rest 2) 65536
    ∷ constant_act (scale_of stem_rest 3) 256
    ∷ []

-- the first page is the window, before it stands
abbrev pub window_acts : List Act
window_acts =
    constant_act score_window 0
    ∷ (set_site filling_site (compound no_fields)
    ∷ (set_site (filling_at (codes "i")) (int (pos 0))
    ∷ (set_site (filling_at (codes "p")) (int (pos 0)) ∷ (set_site (filling_at (codes "r")) (int (pos 0)) ∷ []))))

-- what accesses need, where there is a memory
abbrev pub memory_acts : List Limits → List Act
memory_acts [] = []
memory_acts (l ∷ ls) = constants_acts ++ window_acts

-- the pages of the memory, with the bytes of its segments
abbrev pub first_pages : Module → List (List ℕ)
first_pages m = pages_of (least_pages (slice_get m.mems 0)) (first_store m).memory

-- the bytes of the page of this number
abbrev pub page_bytes : List ℕ → ℕ → List ℕ
page_bytes bytes i = take page_size (drop (page_size * i) bytes)

-- the page of this number has the bytes of the one before it
abbrev pub is_repeated : List ℕ → ℕ → Bool
is_repeated bytes zero = false
is_repeated bytes (suc i) = bytes_eq (page_bytes bytes i) (page_bytes bytes (suc i))

abbrev pub append_page : Act
append_page = append_site (at_key in_memory key_memory) (at_key in_rest key_table)

-- A page is laid down, and appended from there. One that has the bytes of the page before it stands there still.
abbrev pub page_acts : Bool → Option (List ℕ) → List Act
page_acts repeated None = []
page_acts true (Some ms) = append_page ∷ []
page_acts false (Some ms) = set_site (at_key in_rest key_table) (page_tree ms) ∷ (append_page ∷ [])

-- ---- all of it

-- how many pieces come behind the first one
abbrev pub later_pieces : Module → ℕ
later_pieces m = global_pieces m + least_pages (slice_get m.mems 0)

-- behind the piece of this number: the next one, or what comes behind all of them
abbrev pub onward_acts : Module → ℕ → List Act
onward_acts m k =
    if nat_lt k (later_pieces m)
    then set_site (at_key in_rest key_next) (id_tree (init_piece (suc k))) ∷ []
    else leave_acts m.start

-- what the piece appends that comes behind the first one and so many others
abbrev pub later_acts : Module → ℕ → List Act
later_acts m k =
    if nat_lt k (global_pieces m)
    then
    globals_acts (globals_of_piece * k)
    (take globals_of_piece (drop (globals_of_piece * k) (first_store m).globals))
    else
    page_acts (is_repeated (first_store m).memory (k - global_pieces m))
    (slice_get (first_pages m) (k - global_pieces m))

-- the pieces of instantiation, without their charges
abbrev pub init_acts : Module → ℕ → List Act
init_acts m zero =
    open_acts 0 score_places ++ (settle_acts (uses_bytes m) ++ (memory_acts m.mems ++ onward_acts m 0))
init_acts m (suc k) = later_acts m k ++ onward_acts m (suc k)

abbrev pub init_items : Module → ℕ → Items
init_items m k = acts_then (init_acts m k) no_more

-- the first so many of the pieces, with their charges
abbrev pub init_parts : Module → ℕ → List Part
init_parts m zero = []
init_parts m (suc k) = init_parts m k ++ part (init_piece k) (init_items m k) ∷ []
