-- When a state of a pack stands for a configuration of the machine, and where a piece leads.
use Rattle.std.specs.Prelude.{◌≡◌, ◌≤◌, ◌<◌, ℕ, suc, ◌+◌, ◌-◌, ◌*◌, List, ◌++◌, length, take, drop, replicate, ℤ, pos}
use Rattle.std.specs.Prelude.{negsuc}
use Rattle.std.specs.Prelude.{Some, Bool, true, false, ◌||◌, ◌∷◌, []}
use Rattle.std.specs.List.{Contains}
use Rattle.std.specs.Str.{bytes_eq}
use Rattle.mc_nbt.specs.Tree.{Tree, int, depth}
use Rattle.mc_nbt.specs.declared.value.Value.{Value}
use Rattle.mc_nbt.specs.declared.value.Value.TheVariants as values
use Rattle.mc_cmd.specs.Form.{Text}
use Rattle.wm_ast.specs.declared.answer.TrapKind.{TrapKind}
use Rattle.wm_ast.specs.declared.module.Module.{Module}
use Rattle.wm_ast.specs.declared.operator.BinaryOp.{BinaryOp}
use Rattle.wm_ast.specs.Store.{Store, Callee, callee_of}
use Rattle.wm_valid.specs.Typing.{HasFirst}
use Rattle.wm_place.specs.Visit.{Visit}
use Rattle.wm_flat.specs.Flat.{Activation, running, opened, handed, fails, move}
use Rattle.wm_flat.specs.FlatTyping.{types_of}
use Rattle.wm_flat.specs.Operands.{operands}
use Rattle.wm_flat.specs.Runs.{Leads}
use Rattle.cc_line.specs.Sight.{in_io, in_memory, in_rest}
use Rattle.cc_line.specs.Key.{key_state, key_result, key_next, key_follows, key_below, key_entry, key_end, key_args}
use Rattle.cc_line.specs.Key.{key_filling, is_work_key, is_work, score_trap, score_window, PieceId, body_piece, id_tree}
use Rattle.cc_line.specs.Place.{is_scratch, score_places}
use Rattle.cc_line.specs.Running.{Kept}
use Rattle.cc_line.specs.State.{ints}
use Rattle.cc_line.specs.Routine.{value_ints, trap_number}
use Rattle.cc_line.specs.Standing as lasting
use Rattle.cc_call.specs.Frames.{base, done_piece, opening_piece}
use Rattle.cc_call.specs.Law.{IsBelow, AreHanded}
use Rattle.cc_bulk.specs.Grow.{score_missing}
use Rattle.cc_div64.specs.Law as divisions
use Rattle.cc_cut.specs.declared.table.Cut.{Cut}
use Rattle.cc_cut.specs.Cuts.{function_cuts}
use Rattle.cc_cut.specs.Law.{rank, widths}
use Rattle.cc_cut.specs.Piece.{Piece}
use Rattle.cc_move.specs.Calls.{with_results, gives_of}
use Rattle.cc_move.specs.Standing.{StandsAt}
use Rattle.cc_move.specs.Law.{at}
use Rattle.cc_line.specs.Sight as sights
use Rattle.cc_line.specs.State as states
use Rattle.cc_pieces.specs.Restoring.{restore_piece}
use Rattle.cc_pieces.specs.Dividing.{dividing_piece, most_left}
use Rattle.cc_pieces.specs.Entry.{args_of_piece, taker}
use Rattle.cc_pieces.specs.Fetching.{are_many, args_of_fetch, most_fetches, fetch_piece}
use Rattle.cc_pieces.specs.Growing.{grower_piece, most_runs, runs_for}
use Rattle.cc_pieces.specs.Placing.{placer}
use Rattle.cc_body.specs.Behind.{division_before}
use Rattle.cc_body.specs.Layout.{frame_size}
use Rattle.cc_body.specs.Placers.{function_placers}
use Rattle.cc_simulate.specs.Callers.{IsPieceOf, Waits, Waiting}
use Rattle.cc_simulate.specs.Frame.{local_ints, stack_ints, Frame}
use Rattle.cc_simulate.specs.Stored.{Stored, StoredBut}
use Rattle.cc_simulate.specs.Uses.{uses_bytes}

-- the job runs, no trap is recorded, the state in which the job ends is told, and what routines use stands: the tables
-- of bytes where they are needed
pub record Running (bytes : Bool) (s : states.State) : Type 0 where
  pub trap : s.scores score_trap ≡ Some (pos 0)
  pub state : s.keys in_io key_state ≡ Some (int (pos 1))
  pub ending : (t : Tree) × (s.keys in_rest key_end ≡ Some t) × (depth t ≤ 63)
  pub standing : lasting.Standing bytes s

-- and these frames are below
pub record RunsOver (bytes : Bool) (bs : List Kept) (s : states.State) : Type 0 where
  pub trap : s.scores score_trap ≡ Some (pos 0)
  pub state : s.keys in_io key_state ≡ Some (int (pos 1))
  pub ending : (t : Tree) × (s.keys in_rest key_end ≡ Some t) × (depth t ≤ 63)
  pub standing : lasting.Standing bytes s
  pub below : IsBelow bs s

-- which keys a piece of a function may write
abbrev pub is_written : sights.Store → Text → Bool
is_written in_io k = bytes_eq key_state k || bytes_eq key_result k
is_written in_rest k =
    bytes_eq key_next k
    || (bytes_eq key_follows k || (bytes_eq key_below k || (bytes_eq key_entry k || is_work_key in_rest k)))
is_written in_memory k = false

-- whether a key has the globals, the memory, or what fills the lines of accesses to it
abbrev pub is_stored : sights.Store → Text → Bool
is_stored in_memory k = true
is_stored in_io k = false
is_stored in_rest k = bytes_eq key_filling k

-- what acts of a frame leave as it is: all other keys, and the scores that are neither places nor anyone's
pub record ChangesFrameAlone (s t : states.State) : Type 0 where
  pub keys : (r : sights.Store) (k : Text) → is_written r k ≡ false → t.keys r k ≡ s.keys r k
  pub scores : (h : Text) → is_scratch h ≡ true → is_work h ≡ false → bytes_eq score_trap h ≡ false
      → t.scores h ≡ s.scores h

-- what a piece of a body leaves as it is: the same, but that it may change the globals, the memory and its window
pub record ChangesStoreAlone (s t : states.State) : Type 0 where
  pub keys : (r : sights.Store) (k : Text) → is_written r k ≡ false → is_stored r k ≡ false → t.keys r k ≡ s.keys r k
  pub scores : (h : Text) → is_scratch h ≡ true → is_work h ≡ false → bytes_eq score_trap h ≡ false
      → bytes_eq score_window h ≡ false → t.scores h ≡ s.scores h

-- the job is over, and no piece is next: its state is the one in which it ends, and the result has these values
pub record Finished (vs : List Value) (s : states.State) : Type 0 where
  pub state : s.keys in_io key_state ≡ s.keys in_rest key_end
  pub result : s.keys in_io key_result ≡ Some (ints (stack_ints vs))
  pub few : length vs ≤ 1
  pub trap : s.scores score_trap ≡ Some (negsuc 0)

module _ (m : Module) where
  -- the results of the outermost call are handed over, and the piece is next that ends the job with them
  pub record Ending (vs : List Value) (s : states.State) : Type 0 where
    pub named : s.keys in_rest key_next ≡ Some (id_tree (done_piece (length (stack_ints vs))))
    pub results : AreHanded 0 (stack_ints vs) s
    pub few : length vs ≤ 1
    pub has_scores : score_places ≤ length s.places
    pub calm : RunsOver (uses_bytes m) (base (length (stack_ints vs)) ∷ []) s

  -- The state names the piece of a cut, and the frame of the activation that stands there, over these callers.
  pub record At (cs : List Activation) (a : Activation) (s : states.State) : Type 0 where
    pub cut : Cut
    pub is_cut : Contains (function_cuts m a.func) cut
    pub visit : Visit
    pub stands : StandsAt m a visit
    pub place : visit.path ≡ cut.place
    pub named : s.keys in_rest key_next ≡ Some (id_tree (body_piece a.func cut.index))
    pub frame : Frame (frame_size m a.func) a.locals (operands a) s.places
    pub below : List Kept
    pub waiting : Waiting m a.func cs below
    pub calm : RunsOver (uses_bytes m) below s

  -- A call has begun of few arguments: the state names the piece that makes the frame of the activation, and
  -- they are the first places.
  pub record Opening (cs : List Activation) (a : Activation) (s : states.State) : Type 0 where
    pub callee : Callee
    pub is_callee : callee_of m a.func ≡ Some callee
    pub args : List Value
    pub types : types_of args ≡ callee.takes
    pub is_opened : a ≡ opened a.func callee args
    pub named : s.keys in_rest key_next ≡ Some (id_tree (opening_piece a.func))
    pub junk : List ℤ
    pub places : s.places ≡ stack_ints args ++ junk
    pub few : are_many (length (stack_ints args)) ≡ false
    pub has_scores : score_places ≤ length s.places
    pub below : List Kept
    pub waiting : Waiting m a.func cs below
    pub calm : RunsOver (uses_bytes m) below s

  -- A call has ended: the state names the piece that restores the caller's frame, and has the results that it waited
  -- for.
  pub record Restoring (cs : List Activation) (c : Activation) (us : List Value) (s : states.State) : Type 0 where
    pub callee : ℕ
    pub types : types_of us ≡ gives_of m callee
    pub few : length us ≤ 1
    pub entry : Kept
    pub waits : Waits m callee c entry
    pub named : s.keys in_rest key_next ≡ Some (id_tree (restore_piece c.func waits.cut.index))
    pub results : AreHanded 0 (stack_ints us) s
    pub has_scores : score_places ≤ length s.places
    pub below : List Kept
    pub waiting : Waiting m c.func cs below
    pub calm : RunsOver (uses_bytes m) (below ++ entry ∷ []) s

  -- A call has begun of many arguments: they stand in the entry of its caller, above what the caller
  -- has again behind the call.
  pub record Passing (cs : List Activation) (c a : Activation) (s : states.State) : Type 0 where
    pub callee : Callee
    pub is_callee : callee_of m a.func ≡ Some callee
    pub args : List Value
    pub types : types_of args ≡ callee.takes
    pub is_opened : a ≡ opened a.func callee args
    pub entry : Kept
    pub waits : Waits m a.func c entry
    pub takes : length (stack_ints args) ≡ widths waits.type.params
    pub many : are_many (widths waits.type.params) ≡ true
    pub given : take (length (stack_ints args))
        (drop (length (local_ints c.locals ++ stack_ints (operands c))) entry.places) ≡ stack_ints args
    pub has_scores : score_places ≤ length s.places
    pub below : List Kept
    pub waiting : Waiting m c.func cs below
    pub calm : RunsOver (uses_bytes m) (below ++ entry ∷ []) s

  -- Its frame is still to be made: the state names the piece that makes it, and then the one that fetches the first
  -- arguments.
  pub record Making (cs : List Activation) (c a : Activation) (s : states.State) : Type 0 where
    pub passing : Passing cs c a s
    pub named : s.keys in_rest key_next ≡ Some (id_tree (opening_piece a.func))
    pub follows : s.keys in_rest key_follows ≡ Some (id_tree (fetch_piece c.func passing.waits.cut.index 0))

  -- The frame has the first of its arguments, which the first k pieces have fetched, and its other locals: the state
  -- names the piece that fetches the next ones, and then the body's first piece.
  pub record Fetching (cs : List Activation) (c a : Activation) (k : ℕ) (s : states.State) : Type 0 where
    pub passing : Passing cs c a s
    pub named : s.keys in_rest key_next ≡ Some (id_tree (fetch_piece c.func passing.waits.cut.index k))
    pub follows : s.keys in_rest key_follows ≡ Some (id_tree (body_piece a.func 1))
    pub some_left : args_of_fetch * k < length (stack_ints passing.args)
    pub missing : List ℤ
    pub junk : List ℤ
    pub places : s.places
        ≡ (take (args_of_fetch * k) (stack_ints passing.args) ++ missing) ++ (local_ints passing.callee.zeros ++ junk)
    pub counted : args_of_fetch * k + length missing ≡ length (stack_ints passing.args)
    pub sized : length s.places ≡ frame_size m a.func

  -- A branch has been taken whose value is on its way: the state names the piece that puts it to its places, and then
  -- the cut to which the branch leads. The frame has all other operands.
  pub record Placing (cs : List Activation) (a : Activation) (s : states.State) : Type 0 where
    pub cut : Cut
    pub is_cut : Contains (function_cuts m a.func) cut
    pub visit : Visit
    pub stands : StandsAt m a visit
    pub place : visit.path ≡ cut.place
    pub value : Value
    pub others : List Value
    pub parts : operands a ≡ value ∷ others
    pub spot : ℕ
    pub is_next : spot ≡ length (local_ints a.locals ++ stack_ints others)
    pub in_frame : spot < function_placers m a.func
    pub named : s.keys in_rest key_next ≡ Some (id_tree (placer (length (value_ints value)) spot))
    pub follows : s.keys in_rest key_follows ≡ Some (id_tree (body_piece a.func cut.index))
    pub handed : AreHanded 0 (value_ints value) s
    pub frame : Frame (frame_size m a.func) a.locals others s.places
    pub below : List Kept
    pub waiting : Waiting m a.func cs below
    pub calm : RunsOver (uses_bytes m) below s

  -- The machine has made a step by which its memory grows, or may not, but so many pages of zeros are still to be
  -- appended: the state names the piece that appends them, and then the cut behind.
  pub record Growing (cs : List Activation) (a : Activation) (s : states.State) : Type 0 where
    pub has_memory : HasFirst m.mems
    pub cut : Cut
    pub is_cut : Contains (function_cuts m a.func) cut
    pub visit : Visit
    pub stands : StandsAt m a visit
    pub place : visit.path ≡ cut.place
    pub missing : ℕ
    pub told : s.scores score_missing ≡ Some (pos missing)
    pub named : s.keys in_rest key_next ≡ Some (id_tree grower_piece)
    pub follows : s.keys in_rest key_follows ≡ Some (id_tree (body_piece a.func cut.index))
    pub frame : Frame (frame_size m a.func) a.locals (operands a) s.places
    pub below : List Kept
    pub waiting : Waiting m a.func cs below
    pub calm : RunsOver (uses_bytes m) below s

  -- The machine has divided two numbers of 64 bits, but so many runs of turns are still to be made: the state
  -- names the piece that makes them, or, where none is left, the one that puts the answer to its places. The
  -- frame has all other operands.
  pub record Dividing (cs : List Activation) (a : Activation) (s : states.State) : Type 0 where
    pub cut : Cut
    pub is_cut : Contains (function_cuts m a.func) cut
    pub piece : Piece
    pub is_piece : IsPieceOf m a.func cut piece
    pub op : BinaryOp
    pub behind : division_before piece.cut ≡ Some op
    pub visit : Visit
    pub stands : StandsAt m a visit
    pub place : visit.path ≡ cut.place
    pub answer : ℤ
    pub others : List Value
    pub parts : operands a ≡ values.I64 answer ∷ others
    pub left : ℕ
    pub few : left ≤ most_left
    pub division : divisions.Dividing op answer left s
    pub named : s.keys in_rest key_next ≡ Some (id_tree (dividing_piece a.func cut.index left))
    pub frame : Frame (frame_size m a.func) a.locals others s.places
    pub below : List Kept
    pub waiting : Waiting m a.func cs below
    pub calm : RunsOver (uses_bytes m) below s

  -- The state stands for an activation over these callers: at a cut, at its beginning, behind a call that has ended,
  -- before a cut whose value is on its way, before one for which the memory still grows, or before one behind a
  -- division that goes on. At its beginning its arguments have been passed, or are to be fetched.
  pub data Standing (cs : List Activation) (a : Activation) (s : states.State) : Type 0 where
    at_cut : At cs a s → Standing cs a s
    opening : Opening cs a s → Standing cs a s
    making : (c : Activation) (ds : List Activation) → Making ds c a s → cs ≡ c ∷ ds → Standing cs a s
    fetching : (c : Activation) (ds : List Activation) (k : ℕ) → Fetching ds c a k s → cs ≡ c ∷ ds → Standing cs a s
    restoring : (c : Activation) (us : List Value) → Restoring cs c us s → a ≡ with_results c us → Standing cs a s
    placing : Placing cs a s → Standing cs a s
    growing : Growing cs a s → Standing cs a s
    dividing : Dividing cs a s → Standing cs a s

  -- the piece that it names
  abbrev pub name_of : {cs : List Activation} {a : Activation} {s : states.State} → Standing cs a s → PieceId
  name_of {a = a} (at_cut p) = body_piece a.func p.cut.index
  name_of {a = a} (opening p) = opening_piece a.func
  name_of {a = a} (making c ds p e) = opening_piece a.func
  name_of (fetching c ds k p e) = fetch_piece c.func p.passing.waits.cut.index k
  name_of (restoring c us p e) = restore_piece c.func p.waits.cut.index
  name_of (placing p) = placer (length (value_ints p.value)) p.spot
  name_of (growing p) = grower_piece
  name_of {a = a} (dividing p) = dividing_piece a.func p.cut.index p.left

  -- How much of a step is gone by: nothing where a frame is still to be made or restored, or a value to be put to its
  -- place; then the pieces that have fetched arguments, or the fewer runs that append what pages are missing, or of
  -- turns that are left; and behind all of these the rank of the cut.
  abbrev pub rank_of : {cs : List Activation} {a : Activation} {s : states.State} → Standing cs a s → ℕ
  rank_of (at_cut p) = most_fetches + suc (rank p.visit)
  rank_of (opening p) = 0
  rank_of (making c ds p e) = 0
  rank_of (fetching c ds k p e) = suc k
  rank_of (restoring c us p e) = 0
  rank_of (placing p) = 0
  rank_of (growing p) = most_runs - runs_for p.missing
  rank_of (dividing p) = most_left - p.left

  -- what the state has of a store: all of it, but for the pages that are still to be appended
  abbrev pub HasStore : Store → {cs : List Activation} → {a : Activation} → (s : states.State) → Standing cs a s
      → Type 0
  HasStore st s (growing p) = StoredBut m p.missing st s
  HasStore st s _ = Stored m st s

  -- Where a piece leads from an activation, over these callers and this store: after some steps to a state that stands
  -- for another one, over the store that there is then, which it reaches with at least one step or by a higher rank; to
  -- the end of the outermost call; or to a trap.
  pub data Arrives (r : ℕ) (st : Store) (cs : List Activation) (a : Activation) (s : states.State) : Type 0 where
    to_standing : (n : ℕ) (now : Store) (ds : List Activation) (b : Activation) → Leads m n (at st cs a) (at now ds b)
        → (x : Standing ds b s) → HasStore now s x → r < 16 * n + rank_of x → Arrives r st cs a s
    to_end : (n : ℕ) (now : Store) (b : Activation) (vs : List Value) → Leads m n (at st cs a) (at now [] b)
        → Stored m now s → move m now (running [] b) ≡ handed now [] vs → Ending vs s → Arrives r st cs a s
    to_trap : (n i : ℕ) (now : Store) (ds : List Activation) (b : Activation) (k : TrapKind)
        → Leads m n (at st cs a) (at now ds b) → Stored m now s → move m now (running ds b) ≡ fails i k
        → s.scores score_trap ≡ Some (pos (trap_number k)) → s.keys in_io key_state ≡ Some (int (pos 1))
        → Arrives r st cs a s

  -- A call from outside begins: the state names the first piece of the function, and has the arguments, the first one
  -- first.
  pub record Entering (func : ℕ) (args : List Value) (s : states.State) : Type 0 where
    pub named : s.keys in_rest key_next ≡ Some (id_tree (body_piece func 0))
    pub given : s.keys in_rest key_args ≡ Some (ints (local_ints args))
    pub has_scores : score_places ≤ length s.places
    pub runs : Running (uses_bytes m) s

  -- The frame is made, but for the first so many whole pieces of arguments and one: the state names the shared piece
  -- that takes the last of these, and the cut that follows them all. So many zeros stand behind the arguments.
  pub record Taking (func : ℕ) (args : List Value) (zeros k : ℕ) (s : states.State) : Type 0 where
    pub named : s.keys in_rest key_next ≡ Some (id_tree (taker k))
    pub follows : s.keys in_rest key_follows ≡ Some (id_tree (body_piece func 1))
    pub given : s.keys in_rest key_args ≡ Some (ints (local_ints args))
    pub whole : args_of_piece * (k + 1) ≤ length (local_ints args)
    pub front : List ℤ
    pub junk : List ℤ
    pub made : s.places
        ≡ front ++ (drop (args_of_piece * (k + 1)) (local_ints args) ++ (replicate zeros (pos 0) ++ junk))
    pub front_length : length front ≡ args_of_piece * (k + 1)
    pub sized : length s.places ≡ frame_size m func
    pub calm : RunsOver (uses_bytes m) (base (widths (gives_of m func)) ∷ []) s
