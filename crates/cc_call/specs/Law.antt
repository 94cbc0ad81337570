-- What the acts of calls and returns leave, which the contracts of public functions cite.
use Rattle.std.specs.Prelude.{◌≡◌, ◌≤◌, ◌<◌, ℕ, suc, ◌+◌, ◌-◌, List, [], ◌∷◌, ◌++◌, length, take, drop, replicate, ℤ}
use Rattle.std.specs.Prelude.{pos, Some, Bool, true, false, ◌||◌, nat_lt, codes}
use Rattle.std.specs.Str.{bytes_eq}
use Rattle.mc_nbt.specs.Tree.{Tree, depth}
use Rattle.mc_cmd.specs.Form.{Text}
use Rattle.wm_ast.specs.declared.limit.TheConstants.{MAX_FRAMES}
use Rattle.cc_line.specs.Sight.{Store, in_io, in_memory, in_rest}
use Rattle.cc_line.specs.Key.{key_state, key_result, key_below, key_entry, key_next, key_follows, key_end, score_trap}
use Rattle.cc_line.specs.Key.{is_work, PieceId, id_tree}
use Rattle.cc_line.specs.Place.{score_places}
use Rattle.cc_line.specs.Running.{Kept, below_tree}
use Rattle.cc_line.specs.State.{State, ints, with_score}
use Rattle.cc_line.specs.Step.{Act, flow, run_steps, Ready}
use Rattle.cc_call.specs.Acts.{after_acts, ActsReady}
use Rattle.cc_call.specs.Fetch.{fetch_acts, making_acts}
use Rattle.cc_call.specs.Frames.{kept, push_acts, pass_acts, opening_acts, result_score, return_acts, restore_acts}
use Rattle.cc_call.specs.Frames.{base, base_acts, done_acts, deep_trap, depth_steps}

-- the frames below are these
abbrev pub IsBelow : List Kept → State → Type 0
IsBelow bs s = s.keys in_rest key_below ≡ Some (below_tree bs)

-- results stand in their scores, from the k-th on
abbrev pub AreHanded : ℕ → List ℤ → State → Type 0
AreHanded k [] s = Unit {0}
AreHanded k (z ∷ zs) s = (s.scores (result_score k) ≡ Some z) × AreHanded (suc k) zs s

-- the keys that calls and returns write
abbrev pub is_call_key : Store → Text → Bool
is_call_key in_io k = false
is_call_key in_memory k = false
is_call_key in_rest k = bytes_eq key_below k || (bytes_eq key_entry k || bytes_eq key_next k)

abbrev pub SameKeys : State → State → Type 0
SameKeys s t = (r : Store) (k : Text) → is_call_key r k ≡ false → t.keys r k ≡ s.keys r k

-- ---- the limit of frames

-- Where fewer frames stand than may, a call goes on, and else it records its trap, and ends its list. Nothing else is
-- changed but a scratch score.
abbrev pub DepthIsTested : Type 0
DepthIsTested = (bs : List Kept) (s : State) → IsBelow bs s → Ready depth_steps s
    × (length bs < MAX_FRAMES → (z : ℤ) × (k : ℕ)
    × (run_steps depth_steps s ≡ flow false (with_score s (codes "#d") z) k))
    × (MAX_FRAMES ≤ length bs → (z : ℤ) × (k : ℕ)
    × (run_steps depth_steps s ≡ flow true (with_score (with_score s (codes "#d") z) score_trap (pos deep_trap)) k))

-- ---- what acts lead to

-- acts find what they need, and lead to a state of which this holds
pub record ActsLead (acts : List Act) (s : State) (P : State → Type 0) : Type 0 where
  pub ready : ActsReady acts s
  pub there : P (after_acts acts s)

-- the caller's frame stands below, with the piece that follows
pub record Pushed (z : ℕ) (follows : PieceId) (bs : List Kept) (s t : State) : Type 0 where
  pub places : t.places ≡ s.places
  pub scores : t.scores ≡ s.scores
  pub below : IsBelow (bs ++ kept z follows s.places ∷ []) t
  pub named : t.keys in_rest key_next ≡ s.keys in_rest key_next
  pub keys : SameKeys s t

abbrev pub FramesArePushed : Type 0
FramesArePushed = (z : ℕ) (follows : PieceId) (bs : List Kept) (s : State) → z ≤ length s.places
    → score_places ≤ length s.places → IsBelow bs s → ActsLead (push_acts z follows) s (Pushed z follows bs s)

-- numbers from place z on are the first places, and nothing else is changed
pub record Passed (z n : ℕ) (s t : State) : Type 0 where
  pub places : t.places ≡ take n (drop z s.places) ++ drop n s.places
  pub scores : t.scores ≡ s.scores
  pub keys : t.keys ≡ s.keys

abbrev pub ArgumentsArePassed : Type 0
ArgumentsArePassed = (z n : ℕ) (s : State) → z + n ≤ length s.places → ActsLead (pass_acts z 0 n) s (Passed z n s)

-- a frame of this size has these arguments, zeros, and anything, and a piece is next
pub record Opened (args : List ℤ) (zeros size : ℕ) (first : PieceId) (s t : State) : Type 0 where
  pub junk : List ℤ
  pub places : t.places ≡ (args ++ replicate zeros (pos 0)) ++ junk
  pub sized : length t.places ≡ size
  pub scores : t.scores ≡ s.scores
  pub named : t.keys in_rest key_next ≡ Some (id_tree first)
  pub below : t.keys in_rest key_below ≡ s.keys in_rest key_below
  pub keys : SameKeys s t

-- the arguments are scores, and all locals fit the frame
abbrev pub FramesAreOpened : Type 0
FramesAreOpened = (args junk : List ℤ) (zeros size : ℕ) (first : PieceId) (s : State) → s.places ≡ args ++ junk
    → length args ≤ score_places → score_places ≤ length s.places → score_places ≤ size → length args + zeros ≤ size
    → ActsLead (opening_acts (length args) (length args + zeros) size first) s (Opened args zeros size first s)

-- the keys that the making of a frame writes whose arguments are fetched
abbrev pub is_making_key : Store → Text → Bool
is_making_key in_io k = false
is_making_key in_memory k = false
is_making_key in_rest k = bytes_eq key_next k || bytes_eq key_follows k

-- a frame of this size has zeros behind the places of its parameters, and anything; the piece is next that followed
pub record Made (params zeros size : ℕ) (next first : PieceId) (s t : State) : Type 0 where
  pub front : List ℤ
  pub junk : List ℤ
  pub places : t.places ≡ front ++ (replicate zeros (pos 0) ++ junk)
  pub front_length : length front ≡ params
  pub sized : length t.places ≡ size
  pub scores : t.scores ≡ s.scores
  pub named : t.keys in_rest key_next ≡ Some (id_tree next)
  pub follows : t.keys in_rest key_follows ≡ Some (id_tree first)
  pub keys : (r : Store) (k : Text) → is_making_key r k ≡ false → t.keys r k ≡ s.keys r k

abbrev pub FramesAreMade : Type 0
FramesAreMade = (params zeros size : ℕ) (next first : PieceId) (s : State)
    → s.keys in_rest key_follows ≡ Some (id_tree next)
    → score_places ≤ length s.places → score_places ≤ size → params + zeros ≤ size
    → ActsLead (making_acts params (params + zeros) size first) s (Made params zeros size next first s)

-- so many numbers of the last frame below, from place z on, are places from the j-th on, and nothing else is changed
pub record Fetched (z j n : ℕ) (b : Kept) (s t : State) : Type 0 where
  pub places : t.places ≡ take j s.places ++ (take n (drop z b.places) ++ drop (j + n) s.places)
  pub scores : t.scores ≡ s.scores
  pub keys : t.keys ≡ s.keys

abbrev pub ArgumentsAreFetched : Type 0
ArgumentsAreFetched = (z j n : ℕ) (bs : List Kept) (b : Kept) (s : State) → IsBelow (bs ++ b ∷ []) s
    → z + n ≤ length b.places → j + n ≤ length s.places → ActsLead (fetch_acts z j n) s (Fetched z j n b s)

-- the results are handed over, and the piece is next that follows the call
pub record Handed (zs : List ℤ) (follows : PieceId) (s t : State) : Type 0 where
  pub places : t.places ≡ s.places
  pub results : AreHanded 0 zs t
  pub named : t.keys in_rest key_next ≡ Some (id_tree follows)
  pub below : t.keys in_rest key_below ≡ s.keys in_rest key_below
  pub keys : SameKeys s t
  pub trap : t.scores score_trap ≡ s.scores score_trap
  pub scores : (h : Text) → is_work h ≡ false → t.scores h ≡ s.scores h

-- so many ints below the place h are results, of a frame that has an entry below it
abbrev pub ResultsAreHanded : Type 0
ResultsAreHanded = (n h : ℕ) (bs : List Kept) (b : Kept) (s : State) → n ≤ 2 → n ≤ h → h ≤ length s.places
    → IsBelow (bs ++ b ∷ []) s
    → ActsLead (return_acts n h) s (Handed (take n (drop (h - n) s.places)) b.follows s)

-- what a call keeps of a frame of this size of which it needs z places again
pub record IsKept (z size : ℕ) (places : List ℤ) : Type 0 where
  pub low : nat_lt score_places z ≡ false → z ≤ length places
  pub high : nat_lt score_places z ≡ true → length places ≡ size

-- the frame stands again, with its results, and a piece is next
pub record Restored (z size : ℕ) (zs : List ℤ) (bs : List Kept) (b : Kept) (next : PieceId) (s t : State) : Type 0 where
  pub junk : List ℤ
  pub places : t.places ≡ (take z b.places ++ zs) ++ junk
  pub sized : length t.places ≡ size
  pub scores : t.scores ≡ s.scores
  pub named : t.keys in_rest key_next ≡ Some (id_tree next)
  pub below : IsBelow bs t
  pub keys : SameKeys s t

abbrev pub FramesAreRestored : Type 0
FramesAreRestored = (z size : ℕ) (zs : List ℤ) (bs : List Kept) (b : Kept) (next : PieceId) (s : State)
    → IsBelow (bs ++ b ∷ []) s → IsKept z size b.places → AreHanded 0 zs s → length zs ≤ 2 → z + length zs ≤ size
    → score_places ≤ size → score_places ≤ length s.places
    → ActsLead (restore_acts z (length zs) size next) s (Restored z size zs bs b next s)

-- no frame is below but the base
pub record Based (w : ℕ) (s t : State) : Type 0 where
  pub places : t.places ≡ s.places
  pub scores : t.scores ≡ s.scores
  pub below : IsBelow (base w ∷ []) t
  pub named : t.keys in_rest key_next ≡ s.keys in_rest key_next
  pub keys : SameKeys s t

abbrev pub BasesAreMade : Type 0
BasesAreMade = (w : ℕ) (s : State) → ActsLead (base_acts w) s (Based w s)

-- the keys that the end of a job writes
abbrev pub is_told_key : Store → Text → Bool
is_told_key in_io k = bytes_eq key_state k || bytes_eq key_result k
is_told_key in_memory k = false
is_told_key in_rest k = false

-- the results are told, and the state is that in which the job ends
pub record Done (zs : List ℤ) (s t : State) : Type 0 where
  pub places : t.places ≡ s.places
  pub scores : t.scores ≡ s.scores
  pub result : t.keys in_io key_result ≡ Some (ints zs)
  pub state : t.keys in_io key_state ≡ s.keys in_rest key_end
  pub keys : (r : Store) (k : Text) → is_told_key r k ≡ false → t.keys r k ≡ s.keys r k

abbrev pub JobsAreEnded : Type 0
JobsAreEnded = (zs : List ℤ) (end : Tree) (s : State) → AreHanded 0 zs s → length zs ≤ 2
    → s.keys in_rest key_end ≡ Some end → depth end ≤ 63 → ActsLead (done_acts (length zs)) s (Done zs s)

-- all of these laws
pub record CallsWork : Type 0 where
  pub depth : DepthIsTested
  pub push : FramesArePushed
  pub pass : ArgumentsArePassed
  pub opening : FramesAreOpened
  pub making : FramesAreMade
  pub fetch : ArgumentsAreFetched
  pub hand : ResultsAreHanded
  pub restore : FramesAreRestored
  pub base : BasesAreMade
  pub done : JobsAreEnded
