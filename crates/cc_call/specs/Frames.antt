-- Frames of calls: which acts save a caller's frame, hand the arguments over, make the frame of the function that is
-- called, hand its results back, and restore the caller's.
use Rattle.std.specs.Prelude.{ℕ, zero, suc, ◌+◌, ◌-◌, List, [], ◌∷◌, ◌++◌, replicate, take, min, ℤ, pos, negsuc}
use Rattle.std.specs.Prelude.{if◌then◌else◌, nat_lt, codes}
use Rattle.std.specs.Fmt.{decimal}
use Rattle.mc_nbt.specs.Tree.{key, list, no_items, place}
use Rattle.mc_cmd.specs.Form.{Text}
use Rattle.mc_cmd.specs.Command.{from}
use Rattle.wm_ast.specs.declared.limit.TheConstants.{MAX_FRAMES}
use Rattle.cc_line.specs.Sight.{in_io, in_rest}
use Rattle.cc_line.specs.Key.{key_state, key_result, key_list, key_below, key_entry, key_next, key_end, score_trap}
use Rattle.cc_line.specs.Key.{PieceId, shared_piece, end_piece, id_tree}
use Rattle.cc_line.specs.Place.{score_places, scratch}
use Rattle.cc_line.specs.Running.{Kept, bare_entry}
use Rattle.cc_line.specs.State.{Site, at_key, ints}
use Rattle.cc_line.specs.Step.{Act, set_spot, set_place, copy_place, load_place, keep_place, load_site, keep_site}
use Rattle.cc_line.specs.Step.{place_to_site, site_to_place, set_site, copy_site, append_value_to, append_site}
use Rattle.cc_line.specs.Step.{erase_site, make_list, save_list, restore_list, in_range, Cond, holds, Step, run_act}
use Rattle.cc_line.specs.Step.{when}
use Rattle.cc_line.specs.Step.{stop_when}

-- ---- paths

-- the entry that is being made, and what stands in it under a key
abbrev pub entry_site : Site
entry_site = at_key in_rest key_entry

abbrev pub entry_at : Text → Site
entry_at k = record { store = in_rest; name = key_entry; parts = key k ∷ [] }

-- the frames below, the last of them, and what stands in it under a key
abbrev pub below_site : Site
below_site = at_key in_rest key_below

abbrev pub last_site : Site
last_site = record { store = in_rest; name = key_below; parts = place (negsuc 0) ∷ [] }

abbrev pub last_at : Text → Site
last_at k = record { store = in_rest; name = key_below; parts = place (negsuc 0) ∷ (key k ∷ []) }

abbrev pub next_site : Site
next_site = at_key in_rest key_next

-- ---- pieces that calls need besides those of bodies

-- the piece that ends the job with so many ints of results
abbrev pub done_piece : ℕ → PieceId
done_piece w = end_piece w

-- the piece that makes the frame of a function whose arguments stand in the first places
abbrev pub first_opening : ℕ
first_opening = 10016

abbrev pub opening_piece : ℕ → PieceId
opening_piece f = shared_piece (first_opening + f)

abbrev pub next_acts : PieceId → List Act
next_acts p = set_site next_site (id_tree p) ∷ []

-- ---- the limit of frames

-- as many frames stand as may: the outermost has an entry below it, so there are as many entries as frames
abbrev pub is_deep : List Cond
is_deep = holds (in_range (scratch (codes "#d")) (from (pos MAX_FRAMES))) ∷ []

-- the number of a trap for too many frames
abbrev pub deep_trap : ℕ
deep_trap = 8

-- a call traps where no further frame may stand
abbrev pub depth_steps : List Step
depth_steps =
    run_act (load_site (codes "#d") below_site)
    ∷ (when is_deep (set_spot (scratch score_trap) (pos deep_trap)) ∷ (stop_when is_deep ∷ []))

-- ---- the caller's frame is saved

-- so many places that are scores are saved of a frame whose first z places are in use
abbrev pub saved : ℕ → ℕ
saved z = min z score_places

-- of a frame whose first z places are in use the places that a call keeps: these where all are scores, else all
abbrev pub kept_places : ℕ → List ℤ → List ℤ
kept_places z places = if nat_lt score_places z then places else take z places

abbrev pub kept : ℕ → PieceId → List ℤ → Kept
kept z follows places = record { places = kept_places z places; follows = follows }

-- so many places, from this one on, into the entry
abbrev pub save_acts : ℕ → ℕ → List Act
save_acts i zero = []
save_acts i (suc n) = place_to_site (entry_at (decimal i)) i ∷ save_acts (suc i) n

-- the further places, where such are in use
abbrev pub save_list_acts : ℕ → List Act
save_list_acts z = if nat_lt score_places z then save_list (entry_at key_list) ∷ [] else []

-- the frame, whose first z places are in use, goes below, with the piece that follows the call
abbrev pub push_acts : ℕ → PieceId → List Act
push_acts z follows =
    set_site entry_site (bare_entry follows (saved z))
    ∷ (save_acts 0 (saved z) ++ (save_list_acts z ++ (append_site below_site entry_site ∷ [])))

-- ---- the arguments

-- so many numbers from place z on become the first places, from the j-th on
abbrev pub pass_acts : ℕ → ℕ → ℕ → List Act
pass_acts z j zero = []
pass_acts z j (suc n) = copy_place j (z + j) ∷ pass_acts z (suc j) n

-- ---- the new frame

-- zeros in so many places, from this one on
abbrev pub zero_acts : ℕ → ℕ → List Act
zero_acts i zero = []
zero_acts i (suc n) = set_place i (pos 0) ∷ zero_acts (suc i) n

-- The frame of a function, with so many places of parameters, so many of all locals, and so many in all, whose
-- arguments stand in the first places: its list, zeros for the other locals, and the piece that is next.
abbrev pub opening_acts : ℕ → ℕ → ℕ → PieceId → List Act
opening_acts params locals size first =
    make_list (replicate (size - score_places) (pos 0))
    ∷ (zero_acts params (min locals score_places - params) ++ next_acts first)

-- ---- the results

-- the scores that hold a result on its way, its low half first
abbrev pub result_score : ℕ → Text
result_score zero = codes "#r"
result_score (suc k) = codes "#q"

-- so many numbers from place i on become results, from the k-th on
abbrev pub hand_acts : ℕ → ℕ → ℕ → List Act
hand_acts zero i k = []
hand_acts (suc n) i k = load_place (result_score k) i ∷ hand_acts n (suc i) (suc k)

-- a return of so many ints below the place h: they are handed over, and the piece is next that follows the call
abbrev pub return_acts : ℕ → ℕ → List Act
return_acts n h = hand_acts n (h - n) 0 ++ (copy_site next_site (last_at (codes "p")) ∷ [])

-- so many results, from the k-th on, become places from i on
abbrev pub take_acts : ℕ → ℕ → ℕ → List Act
take_acts zero i k = []
take_acts (suc n) i k = keep_place i (result_score k) ∷ take_acts n (suc i) (suc k)

-- ---- the caller's frame is restored

-- so many places, from this one on, from the last entry
abbrev pub load_acts : ℕ → ℕ → List Act
load_acts i zero = []
load_acts i (suc n) = site_to_place i (last_at (decimal i)) ∷ load_acts (suc i) n

-- the further places: those that were saved, or as many zeros as the frame has
abbrev pub restore_list_acts : ℕ → ℕ → List Act
restore_list_acts z size =
    if nat_lt score_places z
    then restore_list (last_at key_list) ∷ []
    else make_list (replicate (size - score_places) (pos 0)) ∷ []

-- A frame of so many places, of which z were in use, stands again, with so many ints of results behind these; its entry
-- is gone, and this piece is next.
abbrev pub restore_acts : ℕ → ℕ → ℕ → PieceId → List Act
restore_acts z results size next =
    restore_list_acts z size
    ++ (load_acts 0 (saved z) ++ (take_acts results z 0 ++ (erase_site last_site ∷ next_acts next)))

-- ---- the outermost frame

-- no frame is below but an entry that has no places, so that a return leads to the end of the job
abbrev pub base : ℕ → Kept
base w = record { places = []; follows = done_piece w }

abbrev pub base_acts : ℕ → List Act
base_acts w = set_site below_site (list no_items) ∷ (append_value_to below_site (bare_entry (done_piece w) 0) ∷ [])

-- an element of the result
abbrev pub result_site : Site
result_site = at_key in_io key_result

abbrev pub result_at : ℕ → Site
result_at k = record { store = in_io; name = key_result; parts = place (pos k) ∷ [] }

-- so many results, from the k-th on, are told
abbrev pub tell_acts : ℕ → ℕ → List Act
tell_acts zero k = []
tell_acts (suc n) k = keep_site (result_at k) (result_score k) ∷ tell_acts n (suc k)

-- the job ends with so many ints of results
abbrev pub done_acts : ℕ → List Act
done_acts w =
    set_site result_site (ints (replicate w (pos 0)))
    ∷ (tell_acts w 0 ++ (copy_site (at_key in_io key_state) (at_key in_rest key_end) ∷ []))
