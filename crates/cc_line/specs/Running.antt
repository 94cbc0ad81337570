-- The places of a running pack: what a world says of the job that the pack of a namespace is at.
use Rattle.std.specs.Prelude.{◌≡◌, ℕ, ◌+◌, ◌-◌, ◌*◌, List, [], ◌∷◌, ◌++◌, length, map, take, drop, ℤ, pos, Option, Some}
use Rattle.std.specs.Prelude.{None}
use Rattle.std.specs.Prelude.{Bool, false, not, ◌&&◌, if◌then◌else◌, nat_eq, nat_lt, min, replicate, option_and_then}
use Rattle.std.specs.Prelude.{slice_get, codes}
use Rattle.std.specs.Fmt.{decimal}
use Rattle.mc_nbt.specs.Tree.{Tree, int, string, list, compound, compound_of, of_fields, put, list_of, Part, key, place}
use Rattle.mc_nbt.specs.Tree.{select}
use Rattle.mc_cmd.specs.Form.{Text}
use Rattle.mc_cmd.specs.World.{World, tree_in, or_zero}
use Rattle.cc_line.specs.Sight.{in_io, in_rest, store_id}
use Rattle.cc_line.specs.Place.{score_places, place_name, Home, in_score, in_list, home}
use Rattle.cc_line.specs.Key.{key_state, key_below, key_next, key_follows, key_args, key_fail, key_templates, key_sched}
use Rattle.cc_line.specs.Key.{key_list}
use Rattle.cc_line.specs.Key.{score_trap, PieceId, body_piece, id_tree}
use Rattle.cc_line.specs.State.{ints, slot, frame_path}

-- what a path of the pack's own storage selects
abbrev pub kept_at : World → Text → List Part → Option Tree
kept_at w ns ps = select (tree_in w (store_id ns in_rest)) ps

abbrev pub an_int : Tree → Option ℤ
an_int (int z) = Some z
an_int (string b) = None
an_int (list ts) = None
an_int (compound fs) = None

-- ---- the innermost frame

abbrev pub slot_at : World → Text → Home → Option ℤ
slot_at w ns (in_score i) = w.scores (place_name i) ns
slot_at w ns (in_list k) = option_and_then an_int (kept_at w ns (slot k))

-- the number in place i of the innermost frame
abbrev pub slot_of : World → Text → ℕ → Option ℤ
slot_of w ns i = slot_at w ns (home i)

-- the places of a frame with so many parameters and locals, and at most so many operands: two for each
abbrev pub frame_size : ℕ → ℕ → ℕ
frame_size n h = 2 * n + 2 * h

-- ---- the frames below

-- a frame below: its places, and the piece that follows the call that it waits for
pub record Kept : Type 0 where
  pub places : List ℤ
  pub follows : PieceId

abbrev pub with_field : Tree → Text → Tree → Tree
with_field (compound fs) k u = compound_of (put k u (of_fields fs))
with_field t k u = t

-- one key for each of the first places, named by its number
abbrev pub with_places : ℕ → List ℤ → Tree → Tree
with_places i [] t = t
with_places i (z ∷ zs) t = with_places (1 + i) zs (with_field t (decimal i) (int z))

-- the further ones in a list, where there are such
abbrev pub with_rest : List ℤ → Tree → Tree
with_rest zs t = if nat_lt score_places (length zs) then with_field t key_list (ints (drop score_places zs)) else t

-- the piece that follows, and how many of the first places are saved
abbrev pub bare_entry : PieceId → ℕ → Tree
bare_entry i n = compound_of ((codes "p", id_tree i) ∷ ((codes "z", int (pos n)) ∷ []))

abbrev pub entry_tree : Kept → Tree
entry_tree b = with_rest b.places
    (with_places 0 (take score_places b.places) (bare_entry b.follows (min (length b.places) score_places)))

-- the frames below as a list, the outermost first
abbrev pub below_tree : List Kept → Tree
below_tree bs = list_of (map entry_tree bs)

-- the frames below the innermost one are these
abbrev pub Below : World → Text → List Kept → Type 0
Below w ns bs = kept_at w ns (key key_below ∷ []) ≡ Some (below_tree bs)

-- ---- pieces

-- the piece that is run next; the one that a routine in pieces makes the next one when it is done
abbrev pub NextPiece : World → Text → PieceId → Type 0
NextPiece w ns i = kept_at w ns (key key_next ∷ []) ≡ Some (id_tree i)

abbrev pub FollowingPiece : World → Text → PieceId → Type 0
FollowingPiece w ns i = kept_at w ns (key key_follows ∷ []) ≡ Some (id_tree i)

-- ---- the job

abbrev pub is_int_of : ℕ → Option Tree → Bool
is_int_of n (Some (int (pos k))) = nat_eq k n
is_int_of n o = false

-- the job is instantiation: its trap makes the state 4, and it hasn't made the state 0
abbrev pub is_starting : World → Text → Bool
is_starting w ns =
    is_int_of 4 (kept_at w ns (key key_fail ∷ []))
    && not (is_int_of 0 (select (tree_in w (store_id ns in_io)) (key key_state ∷ [])))

-- the number of the trap that a piece has recorded, or 0
abbrev pub trapped : World → Text → ℤ
trapped w ns = or_zero (w.scores score_trap ns)

-- ---- the scheduler's own places

-- the scores whose holders begin with `#h_`, by the rest of the holder, and what stands under the scheduler's key
pub record Sched : Type 0 where
  pub scores : Text → Option ℤ
  pub kept : Option Tree

abbrev pub sched : World → Text → Sched
sched w ns = record { scores = λ h. w.scores (codes "#h_" ++ h) ns; kept = kept_at w ns (key key_sched ∷ []) }

-- ---- new frames

-- the list part of a new frame of so many places: zeros for those that are no scores
abbrev pub template : ℕ → Tree
template n = ints (replicate (n - score_places) (pos 0))

-- for each function the list part of a new frame stands
abbrev pub HasTemplates : World → Text → List ℕ → Type 0
HasTemplates w ns sizes = (f n : ℕ) → slice_get sizes f ≡ Some n
    → kept_at w ns (key key_templates ∷ (place (pos f) ∷ [])) ≡ Some (template n)

-- no frame stands
pub record NoFrame (w : World) (ns : Text) : Type 0 where
  pub below : Below w ns []
  pub places : kept_at w ns frame_path ≡ Some (ints [])

-- a call of a function from outside begins: no frame stands, no trap is recorded, the next piece is the one that makes
-- the first frame, and the ints of the arguments stand where it takes them
pub record Begins (w : World) (ns : Text) (f : ℕ) (args : List ℤ) : Type 0 where
  pub frames : NoFrame w ns
  pub untrapped : trapped w ns ≡ pos 0
  pub next : NextPiece w ns (body_piece f 0)
  pub given : kept_at w ns (key key_args ∷ []) ≡ Some (ints args)
