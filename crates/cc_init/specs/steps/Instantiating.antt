-- The pieces of instantiation, as the code makes them: of what it finds in the module first.
use Rattle.std.specs.Prelude.{◌≡◌, ℕ, zero, suc, ◌+◌, ◌-◌, ◌*◌, List, [], ◌∷◌, ◌++◌, take, drop, replicate, filter_map}
use Rattle.std.specs.Prelude.{ℤ, pos, Bool, true, false, Option, Some, None, option_map, slice_get, unwrap_or, if◌then◌else◌, nat_lt}
use Rattle.mc_nbt.specs.declared.value.Value.{Value}
use Rattle.wm_ast.specs.declared.module.Module.{Module}
use Rattle.wm_ast.specs.Instance.{first_store, first_value}
use Rattle.wm_ast.specs.Profile.{pages}
use Rattle.wm_ast.specs.Storage.{number_of}
use Rattle.cc_line.specs.Sight.{in_io, in_memory, in_rest}
use Rattle.cc_line.specs.Key.{key_end, key_globals, key_next, key_state, key_table}
use Rattle.cc_line.specs.Key.{body_piece, id_tree, init_piece}
use Rattle.cc_line.specs.Place.{score_places}
use Rattle.cc_line.specs.State.{at_key, ints}
use Rattle.cc_line.specs.Step.{Act, append_value_to, copy_site, set_site}
use Rattle.cc_page.specs.Pages.{pages_of, signed_word}
use Rattle.cc_simulate.specs.Uses.{uses_bytes}
use Rattle.cc_init.specs.Init.{constants_acts, global_pieces, globals_acts, globals_of_piece, leave_acts, open_acts}
use Rattle.cc_init.specs.Init.{append_page, is_repeated, page_acts, settle_acts, window_acts}
use Rattle.cc_init.specs.declared.start.Start.{Start}

-- ---- what is found in a module

-- The first values of its globals, how many pieces append them, the pages of its memory, where it has one, and its
-- bytes; its start function, where it has one; and whether it looks bytes up.
pub record IsStart (m : Module) (s : Start) : Type 0 where
  pub values : s.values.items ≡ filter_map first_value m.globals
  pub global_pieces : s.global_pieces ≡ global_pieces m
  pub pages : s.pages ≡ option_map pages (slice_get m.mems 0)
  pub bytes : s.bytes.items ≡ (first_store m).memory
  pub function : s.function ≡ m.start
  pub uses_bytes : s.uses_bytes ≡ uses_bytes m

-- how many pieces come behind the first one
abbrev pub later_pieces : Start → ℕ
later_pieces s = s.global_pieces + unwrap_or s.pages 0

-- the words of the page of this number, where there is one
abbrev pub first_page : Start → ℕ → Option (List ℕ)
first_page s k = slice_get (pages_of (unwrap_or s.pages 0) s.bytes.items) k

-- the signed word of four bytes
abbrev pub word : List ℕ → ℤ
word bytes = signed_word (number_of bytes)

-- ---- acts

-- a global of so many ints, which are zeros
abbrev pub append_zeros : ℕ → Act
append_zeros n = append_value_to (at_key in_memory key_globals) (ints (replicate n (pos 0)))

abbrev pub to_piece : ℕ → Act
to_piece k = set_site (at_key in_rest key_next) (id_tree (init_piece k))

abbrev pub to_function : ℕ → Act
to_function f = set_site (at_key in_rest key_next) (id_tree (body_piece f 0))

abbrev pub to_end : Act
to_end = copy_site (at_key in_io key_state) (at_key in_rest key_end)

-- what accesses need, where there is a memory
abbrev pub standing_acts : Option ℕ → List Act
standing_acts None = []
standing_acts (Some n) = constants_acts ++ window_acts

-- the globals behind those of so many pieces
abbrev pub appending_acts : List Value → ℕ → List Act
appending_acts vs k = globals_acts (globals_of_piece * k) (take globals_of_piece (drop (globals_of_piece * k) vs))

-- a page of these words; where it is the one before it once more, it stands laid down still
abbrev pub words_acts : Bool → List ℤ → List Act
words_acts true words = append_page ∷ []
words_acts false words = set_site (at_key in_rest key_table) (ints words) ∷ (append_page ∷ [])

-- a page, where there is one of this number
abbrev pub paging_acts : Start → ℕ → List Act
paging_acts s k = page_acts (is_repeated s.bytes.items k) (first_page s k)

-- ---- pieces

-- to the next piece, where there is one
abbrev pub onward_acts : Start → ℕ → List Act
onward_acts s k = if nat_lt k (later_pieces s) then to_piece (suc k) ∷ [] else leave_acts s.function

abbrev pub first_acts : Start → List Act
first_acts s =
    open_acts 0 score_places ++ (settle_acts s.uses_bytes ++ (standing_acts s.pages ++ onward_acts s 0))

-- what the piece appends that comes behind the first one and so many others
abbrev pub appended_acts : Start → ℕ → List Act
appended_acts s k =
    if nat_lt k s.global_pieces then appending_acts s.values.items k else paging_acts s (k - s.global_pieces)

abbrev pub later_acts : Start → ℕ → List Act
later_acts s k = appended_acts s k ++ onward_acts s (suc k)

abbrev pub piece_acts : Start → ℕ → List Act
piece_acts s zero = first_acts s
piece_acts s (suc k) = later_acts s k
