-- Where the ways out of a place lead: to cuts, to the next place of the piece, to the end of the call.
use Rattle.std.proofs.Common.{◌≡◌, ℕ, suc, ◌+◌, ◌-◌, ◌*◌, ◌≤◌, ◌<◌, inl, inr, List, [], ◌∷◌, ◌++◌, length, take, drop, reverse, Bool, true, false, cond, Option, Some, None, refl, sym, ap, ◌∙◌, subst, arith, append_assoc, pos, ℤ}
use Rattle.std.specs.Prelude.{max, nat_lt, slice_get}
use Rattle.std.specs.List.{Contains}
use Rattle.std.proofs.lemmas.Bool.{ltb-false}
use Rattle.std.proofs.lemmas.List.{length-append, reverse-reverse, take-append-le}
use Rattle.std.proofs.Math.Nat.{le-max_left, le-max_right}
use Rattle.std.proofs.Math.Seq.{drop-append_seam}
use Rattle.mc_nbt.specs.Tree.{int}
use Rattle.mc_nbt.specs.declared.value.Value.{Value}
use Rattle.mc_nbt.specs.declared.value.Value.TheVariants as values
use Rattle.wm_ast.specs.declared.answer.TrapKind.{TrapKind}
use Rattle.wm_ast.specs.declared.module.ValType.{ValType}
use Rattle.wm_ast.specs.declared.module.Func.{Func}
use Rattle.wm_ast.specs.declared.module.FuncType.{FuncType}
use Rattle.wm_ast.specs.declared.module.Module.{Module}
use Rattle.wm_ast.specs.Code.{Op, Code, cons}
use Rattle.wm_ast.specs.declared.operator.Operator.{Operator}
use Rattle.wm_ast.specs.Step.{top, arity}
use Rattle.wm_ast.specs.Store.{Store}
use Rattle.wm_ast.specs.Types.{results_of, function_type}
use Rattle.wm_valid.specs.Typing.{Scope}
use Rattle.wm_flat.specs.Flat.{Activation, running, goes, fails, handed, jump, op_move, code_move, move}
use Rattle.wm_flat.specs.FlatTyping.{types_of, TypedState, IsMoved}
use Rattle.wm_flat.specs.Operands.{under, operands}
use Rattle.wm_flat.specs.Program.{IsProgram}
use Rattle.wm_flat.specs.Runs.{Leads}
use Rattle.wm_flat.proofs.Consequences.{makes_one, leads_on, leads_nowhere}
use Rattle.wm_flat.proofs.Keeps.{keeps, leads_typed}
use Rattle.wm_flat.proofs.Operands.{top_taken}
use Rattle.wm_place.specs.Spot.{spot_at, arity_of}
use Rattle.wm_place.specs.Kinds.{Body, first_of, body_of}
use Rattle.wm_place.specs.Visit.{Around, Visit, visits, function_visits}
use Rattle.wm_place.proofs.KindLemmas.{Typed, scope_in, body_in}
use Rattle.cc_line.specs.Sight.{in_io, in_rest}
use Rattle.cc_line.specs.Key.{key_state, key_next, score_trap, PieceId, body_piece, id_tree}
use Rattle.cc_line.specs.Place.{score_places}
use Rattle.cc_line.specs.Running.{Kept}
use Rattle.cc_line.specs.State.{State}
use Rattle.cc_line.specs.Step.{Act}
use Rattle.cc_line.specs.Item.{Items, no_more}
use Rattle.cc_line.specs.Routine.{trap_number}
use Rattle.cc_cut.specs.Way.{Way, block_path, landing, ways}
use Rattle.cc_cut.specs.Piece.{Piece, function_pieces, index_of}
use Rattle.cc_cut.specs.Cuts.{function_cuts}
use Rattle.cc_cut.specs.Law.{IsNext, rank, widths}
use Rattle.cc_cut.proofs.ListLemmas.{In, contains, among, some_of}
use Rattle.cc_cut.proofs.VisitLemmas.{same_visit}
use Rattle.cc_cut.proofs.CutLemmas.{all_visits}
use Rattle.cc_move.specs.Standing.{StandsAt, Comes}
use Rattle.cc_call.specs.Frames.{base, done_piece, return_acts}
use Rattle.cc_call.specs.Law.{IsBelow, Handed, CallsWork}
use Rattle.cc_move.specs.Calls.{with_results, gives_of, Results}
use Rattle.cc_move.specs.Law.{MovesFollow, Shown, at, lowest_values, Branched, to_block, to_end, BranchesTo}
use Rattle.cc_pieces.specs.Fetching.{most_fetches}
use Rattle.cc_body.specs.Conditions.{tests_first}
use Rattle.cc_body.specs.Emit.{goto_acts, leads_by, leads_to, landing_acts, branch_by, branch_acts, places_items}
use Rattle.cc_body.specs.KnownConstants.{Knowns}
use Rattle.cc_body.specs.Layout.{top_place, most_places, body_size, frame_size}
use Rattle.cc_body.specs.Pieces.{body_results}
use Rattle.cc_simulate.specs.Callers.{Waiting}
use Rattle.cc_simulate.specs.Frame.{stack_ints, Frame}
use Rattle.cc_simulate.specs.Stands.{RunsOver, Ending, At, Restoring, Standing, rank_of, HasStore, Arrives}
use Rattle.cc_simulate.specs.Stands as stands
use Rattle.cc_simulate.specs.Stored.{Stored}
use Rattle.cc_simulate.specs.Law.{Enters}
use Rattle.cc_simulate.specs.Uses.{uses_bytes}
use Rattle.cc_simulate.proofs.Acts.{acts_then, calm_calls, after_acts, ActsEnter, QuietBelow, acts_end}
use Rattle.cc_simulate.proofs.Doing.{gone_enters, goto_does, landing_does, Returned, return_does}
use Rattle.cc_simulate.proofs.Frames.{stack_length, top_of, one_below, top_is, types_append, types_length}
use Rattle.cc_simulate.proofs.Globals.{stored_kept}
use Rattle.cc_simulate.proofs.Knowns.{AreKnown}
use Rattle.cc_simulate.proofs.Proceeding.{Proceeds, enters_proceed}
use Rattle.cc_simulate.proofs.Truths.{Decides}
use Rattle.cc_simulate.proofs.Ways.{Rest, CutAt, visits_are, cut_listed, cut_at, branch_index, to_next}
use Rattle.cc_simulate.proofs.Whole.{IsWhole}

-- ---- where a piece leads

module _ (m : Module) (st : Store) (cs : List Activation) where
  -- As `Arrives` tells, where d is owed and the store stays: to a state that stands for an activation, with so many steps or
  -- by so high a rank.
  pub data Reaches (d : ℕ) (a : Activation) (s : State) : Type 0 where
    reaches_standing : (n : ℕ) (ds : List Activation) (b : Activation) → Leads m n (at st cs a) (at st ds b) → (x : Standing m ds b s) → IsWhole m ds b s x → d ≤ 16 * n + rank_of m x → Reaches d a s
    reaches_end : (n : ℕ) (b : Activation) (vs : List Value) → Leads m n (at st cs a) (at st [] b) → move m st (running [] b) ≡ handed st [] vs → Ending m vs s → Reaches d a s
    reaches_trap : (n i : ℕ) (ds : List Activation) (b : Activation) (k : TrapKind) → Leads m n (at st cs a) (at st ds b) → move m st (running ds b) ≡ fails i k → s.scores score_trap ≡ Some (pos (trap_number k))
        → s.keys in_io key_state ≡ Some (int (pos 1)) → Reaches d a s

  pub reaches_after : (d i k : ℕ) (a b : Activation) → Leads m k (at st cs a) (at st cs b) → d ≤ 16 * k + i → (s : State) → Reaches i b s → Reaches d a s
  reaches_after d i k a b l h s (reaches_standing n ds e g p q w) = reaches_standing (k + n) ds e (leads_on m k n (at st cs a) (at st cs b) (at st ds e) l g) p q (let x : d ≤ 16 * (k + n) + rank_of m p = omega arith in x)
  reaches_after d i k a b l h s (reaches_end n e vs g x f) = reaches_end (k + n) e vs (leads_on m k n (at st cs a) (at st cs b) (at st [] e) l g) x f
  reaches_after d i k a b l h s (reaches_trap n j ds e c g x t u) = reaches_trap (k + n) j ds e c (leads_on m k n (at st cs a) (at st cs b) (at st ds e) l g) x t u

  pub moved_to : (now : Store) (k : ℕ) (a b : Activation) → move m st (running cs a) ≡ goes k now (running cs b) → Leads m k (at st cs a) (at now cs b)
  moved_to now k a b e = record { moves = 1; made = makes_one m k (at st cs a) (at now cs b) e }

  pub moved_once : (k : ℕ) (a b : Activation) → move m st (running cs a) ≡ goes k st (running cs b) → Leads m k (at st cs a) (at st cs b)
  moved_once k a b e = moved_to st k a b e

  -- the move, by the instruction and the operands
  pub move_is : (a : Activation) (i : Op) (is : Code) (vs : List Value) → a.code ≡ cons i is → a.values ≡ vs → move m st (running cs a) ≡ op_move m st cs a i vs is
  move_is a i is vs e k = ap (code_move m st cs a) e ∙ ap (λ (l : List Value). op_move m st cs a i l is) k

  pub typed_after : IsProgram m → (results : List ValType) (now : Store) (k : ℕ) (a b : Activation) → TypedState m results (at st cs a) → move m st (running cs a) ≡ goes k now (running cs b) → TypedState m results (at now cs b)
  typed_after program results now k a b t e =
      let w : IsMoved m results (goes k now (running cs b)) = subst (IsMoved m results) e (keeps m results st (running cs a) program t.store t.flat) in
      w

-- the same where the store may change
pub data Attains (m : Module) (st : Store) (cs : List Activation) (d : ℕ) (a : Activation) (s : State) : Type 0 where
  attains_standing : (n : ℕ) (now : Store) (ds : List Activation) (b : Activation) → Leads m n (at st cs a) (at now ds b) → (x : Standing m ds b s) → HasStore m now s x → d ≤ 16 * n + rank_of m x → Attains m st cs d a s
  attains_end : (n : ℕ) (now : Store) (b : Activation) (vs : List Value) → Leads m n (at st cs a) (at now [] b) → Stored m now s → move m now (running [] b) ≡ handed now [] vs → Ending m vs s → Attains m st cs d a s
  attains_trap : (n i : ℕ) (now : Store) (ds : List Activation) (b : Activation) (k : TrapKind) → Leads m n (at st cs a) (at now ds b) → Stored m now s → move m now (running ds b) ≡ fails i k
      → s.scores score_trap ≡ Some (pos (trap_number k)) → s.keys in_io key_state ≡ Some (int (pos 1)) → Attains m st cs d a s

module _ (m : Module) (st : Store) (cs : List Activation) where
  pub attains : (d : ℕ) (a : Activation) (s : State) → Stored m st s → Reaches m st cs d a s → Attains m st cs d a s
  attains d a s h (reaches_standing n ds b l p q w) = attains_standing n st ds b l p (q st h) w
  attains d a s h (reaches_end n b vs l e f) = attains_end n st b vs l h e f
  attains d a s h (reaches_trap n i ds b k l e t u) = attains_trap n i st ds b k l h e t u

  pub attains_after : (now : Store) (d i k : ℕ) (a b : Activation) → Leads m k (at st cs a) (at now cs b) → d ≤ 16 * k + i → (s : State) → Attains m now cs i b s → Attains m st cs d a s
  attains_after now d i k a b l h s (attains_standing n new ds e g p v w) =
      attains_standing (k + n) new ds e (leads_on m k n (at st cs a) (at now cs b) (at new ds e) l g) p v (let x : d ≤ 16 * (k + n) + rank_of m p = omega arith in x)
  attains_after now d i k a b l h s (attains_end n new e vs g v x f) = attains_end (k + n) new e vs (leads_on m k n (at st cs a) (at now cs b) (at new [] e) l g) v x f
  attains_after now d i k a b l h s (attains_trap n j new ds e c g v x t u) = attains_trap (k + n) j new ds e c (leads_on m k n (at st cs a) (at now cs b) (at new ds e) l g) v x t u

  pub arrives : (r : ℕ) (a : Activation) (s : State) → Attains m st cs (suc r) a s → Arrives m r st cs a s
  arrives r a s (attains_standing n now ds b l p h w) = stands.to_standing n now ds b l p h (let x : r < 16 * n + rank_of m p = omega arith in x)
  arrives r a s (attains_end n now b vs l h e f) = stands.to_end n now b vs l h e f
  arrives r a s (attains_trap n i now ds b k l h e t u) = stands.to_trap n i now ds b k l h e t u

-- what leads there over the store that there was
pub stays : (m : Module) (st : Store) (cs : List Activation) (d : ℕ) (a : Activation) (xs : Items) (s : State) → Stored m st s → Enters xs s (Reaches m st cs d a) → Proceeds xs s (Attains m st cs d a)
stays m st cs d a xs s h e = enters_proceed (Reaches m st cs d a) (Attains m st cs d a) xs s (λ t k r. attains m st cs d a t (stored_kept m st s t k h) r) e

-- ---- returns

-- acts that lead to a state to which the machine comes
pub record Leaves (m : Module) (st : Store) (cs : List Activation) (d : ℕ) (a : Activation) (s : State) (acts : List Act) : Type 0 where
  pub enters : ActsEnter acts s (Reaches m st cs d a)
  pub quiet : (h : ℕ) → QuietBelow h acts

-- the last of the frames below, which is the base or that of a caller
pub last_below : (m : Module) (n : ℕ) (cs : List Activation) (bs : List Kept) → Waiting m n cs bs → (rest : List Kept) × (entry : Kept) × (bs ≡ rest ++ entry ∷ [])
last_below m n [] bs waiting = ([], base (widths (gives_of m n)), waiting)
last_below m n (c ∷ cs) bs (rest, entry, is, waits, others) = (rest, entry, is)

module _ (m : Module) (st : Store) (n d steps k size : ℕ) (a b : Activation) (ls os : List Value) (s : State) (results : Results m n (take k os)) (room : score_places ≤ size) (low : d ≤ 16)
    (frame : Frame size ls os s.places) where
  scores : (t : State) → t.places ≡ s.places → score_places ≤ length t.places
  scores t e = let l : length t.places ≡ length s.places = ap length e in let z : length s.places ≡ size = frame.sized in omega arith

  -- the results of a call have been handed over, to its caller or to the end of the job
  pub handed_reaches : (cs : List Activation) (bs : List Kept) → Waiting m n cs bs → RunsOver (uses_bytes m) bs s → Leads m steps (at st cs a) (at st cs b) → move m st (running cs b) ≡ handed st cs (take k os)
      → (t : State) → ((rest : List Kept) (entry : Kept) → bs ≡ rest ++ entry ∷ [] → Handed (stack_ints (take k os)) entry.follows s t) → Reaches m st cs d a t
  handed_reaches [] bs waiting calm l e t hands =
      let us : List Value = take k os in
      let w : Handed (stack_ints us) (done_piece (widths (gives_of m n))) s t = hands [] (base (widths (gives_of m n))) waiting in
      let wide : widths (gives_of m n) ≡ length (stack_ints us) = ap widths (sym results.are.types) ∙ sym (stack_length us) in
      let below : IsBelow (base (length (stack_ints us)) ∷ []) t =
      subst (λ (j : ℕ). IsBelow (base j ∷ []) t) wide (subst (λ (xs : List Kept). IsBelow xs t) waiting (w.below ∙ calm.below)) in
      reaches_end steps b us l e (record {
        named = w.named ∙ ap (λ (j : ℕ). Some (id_tree (done_piece j))) wide;
        results = w.results;
        few = results.few;
        has_scores = scores t w.places;
        calm = calm_calls bs (base (length (stack_ints us)) ∷ []) s t w.keys w.scores below calm;
      })
  handed_reaches (c ∷ cs) bs (rest, entry, is, waits, others) calm l e t hands =
      let us : List Value = take k os in
      let w : Handed (stack_ints us) entry.follows s t = hands rest entry is in
      let restores : Restoring m cs c us t = record {
        callee = n;
        types = results.are.types;
        few = results.few;
        entry = entry;
        waits = waits;
        named = w.named ∙ ap (λ (p : PieceId). Some (id_tree p)) waits.follows;
        results = w.results;
        has_scores = scores t w.places;
        below = rest;
        waiting = others;
        calm = calm_calls bs (rest ++ entry ∷ []) s t w.keys w.scores (subst (λ (xs : List Kept). IsBelow xs t) is (w.below ∙ calm.below)) calm;
      } in
      let all : Leads m (steps + 1) (at st (c ∷ cs) a) (at st cs (with_results c us)) =
      leads_on m steps 1 (at st (c ∷ cs) a) (at st (c ∷ cs) b) (at st cs (with_results c us)) l (record { moves = 1; made = makes_one m 1 (at st (c ∷ cs) b) (at st cs (with_results c us)) e }) in
      let paid : d ≤ 16 * (steps + 1) + 0 = omega arith in
      reaches_standing (steps + 1) cs (with_results c us) all (stands.restoring c us restores refl) (λ now h. h) paid

  -- they are handed over
  pub return_leaves : CallsWork → k ≤ 1 → (cs : List Activation) (bs : List Kept) → Waiting m n cs bs → RunsOver (uses_bytes m) bs s → Leads m steps (at st cs a) (at st cs b) → move m st (running cs b) ≡ handed st cs (take k os)
      → Leaves m st cs d a s (return_acts (widths (take k (types_of os))) (top_of ls os))
  return_leaves works short cs bs waiting calm l e =
      let acts : List Act = return_acts (widths (take k (types_of os))) (top_of ls os) in
      let returns : (rest : List Kept) (entry : Kept) → bs ≡ rest ++ entry ∷ [] → Returned (take k os) entry.follows acts s =
      λ rest entry is. return_does works rest entry size ls s os k short frame (subst (λ (xs : List Kept). IsBelow xs s) is calm.below) in
      let (rest, entry, is) = last_below m n cs bs waiting in
      let w : Returned (take k os) entry.follows acts s = returns rest entry is in
      record {
        enters = record { ready = w.ready; there = handed_reaches cs bs waiting calm l e (after_acts acts s) (λ r b i. (returns r b i).handed); keeps = w.keeps };
        quiet = w.quiet;
      }

pub acts_as : (P Q : State → Type 0) (acts : List Act) (s : State) → ((t : State) → P t → Q t) → ActsEnter acts s P → ActsEnter acts s Q
acts_as P Q acts s f e = record { ready = e.ready; there = f _ e.there; keeps = e.keeps }

-- ---- small facts

pub top_enough : (k : ℕ) (vs us : List Value) → top k vs ≡ Some us → k ≤ length vs
top_enough k vs us e = by_test (nat_lt (length vs) k) refl e
  where
    by_test : (b : Bool) → nat_lt (length vs) k ≡ b → cond b None (Some (take k vs)) ≡ Some us → k ≤ length vs
    by_test true q w = absurd cc
    by_test false q w = ltb-false (length vs) k q

arity_is : (o : Option ValType) → length (results_of o) ≡ arity o
arity_is None = refl
arity_is (Some t) = refl

pub one_most : (o : Option ValType) → length (results_of o) ≤ 1
one_most None = let x : 0 ≤ 1 = omega arith in x
one_most (Some t) = let x : 1 ≤ 1 = omega arith in x

most_room : (locals : List ValType) (vs : List Visit) (v : Visit) → In v vs → top_place locals v ≤ most_places locals vs
most_room locals [] v h = absurd h
most_room locals (x ∷ xs) v (inl e) = subst (λ (y : Visit). top_place locals y ≤ max (top_place locals x) (most_places locals xs)) e (le-max_left (top_place locals x) (most_places locals xs))
most_room locals (x ∷ xs) v (inr h) =
    let a : top_place locals v ≤ most_places locals xs = most_room locals xs v h in
    let b : most_places locals xs ≤ max (top_place locals x) (most_places locals xs) = le-max_right (top_place locals x) (most_places locals xs) in
    let r : top_place locals v ≤ max (top_place locals x) (most_places locals xs) = omega arith in
    r

-- ---- the piece whose places are gone through

pub record Setting : Type 0 where
  pub moves : MovesFollow
  pub works : CallsWork
  pub m : Module
  pub program : IsProgram m
  pub results : List ValType
  pub st : Store
  pub cs : List Activation
  pub bs : List Kept
  pub n : ℕ
  pub waiting : Waiting m n cs bs
  pub f : Func
  pub there : slice_get m.funcs n ≡ Some f
  pub t : Typed m n f
  pub q : Piece
  pub is_piece : Contains (function_pieces m n) q

module _ (c : Setting) where
  abbrev pub S : Scope
  S = scope_in c.m c.n c.f c.t

  abbrev pub L : List ValType
  L = (scope_in c.m c.n c.f c.t).locals

  abbrev pub R : ℕ
  R = body_results (body_of c.m c.f c.t.type)

  abbrev pub size : ℕ
  size = frame_size c.m c.n

  abbrev pub all : List Piece
  all = function_pieces c.m c.n

  abbrev pub Reach : ℕ → Activation → State → Type 0
  Reach d a s = Reaches c.m c.st c.cs d a s

  abbrev pub Attain : ℕ → Activation → State → Type 0
  Attain d a s = Attains c.m c.st c.cs d a s

  -- ---- what a standing shows

  type_is : (a : Activation) (v : Visit) (s : StandsAt c.m a v) → a.func ≡ c.n → (s.func ≡ c.f) × (s.type ≡ c.t.type)
  type_is a v s e =
      let same : s.func ≡ c.f = some_of s.func c.f (sym s.is_function.there ∙ (ap (slice_get c.m.funcs) e ∙ c.there)) in
      (same, some_of s.type c.t.type (sym s.is_function.has_type ∙ (ap (function_type c.m) same ∙ c.t.named)))

  pub body_is : (a : Activation) (v : Visit) (s : StandsAt c.m a v) → a.func ≡ c.n → body_of c.m s.func s.type ≡ body_of c.m c.f c.t.type
  body_is a v s e = let w = type_is a v s e in ap (λ (g : Func). body_of c.m g s.type) w.0 ∙ ap (body_of c.m c.f) w.1

  place_room : (v : Visit) → In v (all_visits c.m c.n c.f c.t) → top_place L v ≤ size
  place_room v h =
      let b : Body = body_of c.m c.f c.t.type in
      let most : ℕ = most_places L (visits b.scope b.sequence) in
      let low : top_place L v ≤ most_places L (visits b.scope b.sequence) = most_room L (visits b.scope b.sequence) v h in
      let up : most_places L (visits b.scope b.sequence) ≤ body_size (Some b) = le-max_right _ (most_places L (visits b.scope b.sequence)) in
      let r : top_place L v ≤ body_size (Some b) = omega arith in
      subst (λ (o : Option Body). top_place L v ≤ body_size o) (sym c.t.body) r

  pub record Seen (v : Visit) (a : Activation) : Type 0 where
    pub rest : v.rest ≡ a.code
    pub kinds : v.kinds ≡ reverse (types_of (operands a))
    pub back : reverse v.kinds ≡ types_of (operands a)
    pub locals : types_of a.locals ≡ L
    pub listed : In v (all_visits c.m c.n c.f c.t)
    pub top : top_place L v ≡ top_of a.locals (operands a)
    pub room : top_of a.locals (operands a) ≤ size
    pub results : a.results ≡ R

  pub seen : (v : Visit) (a : Activation) → StandsAt c.m a v → a.func ≡ c.n → Seen v a
  seen v a s e =
      let sh : Shown c.m a v = c.moves.shown c.m a v s in
      let type : s.type ≡ c.t.type = (type_is a v s e).1 in
      let body : body_of c.m s.func s.type ≡ body_of c.m c.f c.t.type = body_is a v s e in
      let there : spot_at (body_of c.m c.f c.t.type).sequence s.place ≡ Some s.spot = subst (λ (b : Body). spot_at b.sequence s.place ≡ Some s.spot) body s.there in
      let locals : types_of a.locals ≡ L = s.locals ∙ ap (λ (b : Body). b.scope.locals) body in
      let listed : In v (all_visits c.m c.n c.f c.t) =
      among (all_visits c.m c.n c.f c.t) v
      (subst (λ (vs : List Visit). Contains vs v) (ap (function_visits c.m) e ∙ visits_are c.m c.n c.f c.t) sh.listed) in
      let top : top_place L v ≡ top_of a.locals (operands a) = top_is L v a.locals (operands a) locals sh.kinds in
      record {
        rest = sh.rest;
        kinds = sh.kinds;
        back = ap (λ (l : List ValType). reverse l) sh.kinds ∙ reverse-reverse (types_of (operands a));
        locals = locals;
        listed = listed;
        top = top;
        room = subst (λ (k : ℕ). k ≤ size) top (place_room v listed);
        results = s.results ∙ (ap (λ (y : FuncType). arity (first_of y.results)) type ∙ sym (arity_is (first_of c.t.type.results)));
      }

  -- ---- an activation at a place, and one that has come by a way

  pub record Here (v : Visit) (a : Activation) (s : State) : Type 0 where
    pub func : a.func ≡ c.n
    pub stands : StandsAt c.m a v
    pub frame : Frame size a.locals (operands a) s.places
    pub calm : RunsOver (uses_bytes c.m) c.bs s
    pub typed : TypedState c.m c.results (at c.st c.cs a)
    pub stored : Stored c.m c.st s

  -- one at a place that tests a comparison of which no number was made
  pub record Testing (q : Operator) (v : Visit) (a : Activation) (s : State) : Type 0 where
    pub func : a.func ≡ c.n
    pub stands : StandsAt c.m a v
    pub number : ℤ
    pub others : List Value
    pub parts : a.values ≡ values.I32 number ∷ others
    pub tests : tests_first a.code ≡ true
    pub frame : Frame size a.locals (others ++ under a.levels) s.places
    pub decides : Decides q (top_place L v - 1) number s
    pub calm : RunsOver (uses_bytes c.m) c.bs s
    pub typed : TypedState c.m c.results (at c.st c.cs a)
    pub stored : Stored c.m c.st s

  abbrev pub HereAt : Option Operator → List Visit → Activation → State → Type 0
  HereAt o [] a s = ⊥
  HereAt None (v ∷ vs) a s = Here v a s
  HereAt (Some q) (v ∷ vs) a s = Testing q v a s

  pub record Arrived (w : Way) (b : Activation) (s : State) : Type 0 where
    pub func : b.func ≡ c.n
    pub comes : Comes c.m b w
    pub frame : Frame size b.locals (operands b) s.places
    pub calm : RunsOver (uses_bytes c.m) c.bs s
    pub typed : TypedState c.m c.results (at c.st c.cs b)
    pub stored : Stored c.m c.st s

  -- with a comparison that is tested next
  pub record ArrivedTesting (q : Operator) (w : Way) (b : Activation) (s : State) : Type 0 where
    pub func : b.func ≡ c.n
    pub comes : Comes c.m b w
    pub number : ℤ
    pub others : List Value
    pub parts : b.values ≡ values.I32 number ∷ others
    pub tests : tests_first b.code ≡ true
    pub frame : Frame size b.locals (others ++ under b.levels) s.places
    pub decides : Decides q (top_of b.locals (others ++ under b.levels)) number s
    pub calm : RunsOver (uses_bytes c.m) c.bs s
    pub typed : TypedState c.m c.results (at c.st c.cs b)
    pub stored : Stored c.m c.st s

  -- what the next places do, where d is owed, so much is known, and this is tested next
  abbrev pub GoOn : ℕ → Knowns → Option Operator → List Visit → Type 0
  GoOn d ks o vs = (b : Activation) (s : State) → HereAt o vs b s → AreKnown ks b.locals (operands b) → Proceeds (places_items c.m c.n R L all ks o vs) s (Attain d b)

  -- the piece there has so high a rank as is owed
  abbrev pub Pays : ℕ → List ℕ → Type 0
  Pays d path = (p : Piece) → Contains (function_pieces c.m c.n) p → p.cut.path ≡ path → d ≤ most_fetches + suc (rank p.cut)

  pub pays_none : (path : List ℕ) → Pays 0 path
  pays_none path p h e = let r : 0 ≤ most_fetches + suc (rank p.cut) = omega arith in r

  -- ---- to a cut

  pub record Branches (d : ℕ) (a : Activation) (s : State) (h : ℕ) (acts : List Act) : Type 0 where
    pub enters : ActsEnter acts s (Reach d a)
    pub quiet : QuietBelow h acts

  -- the state names the cut of an index
  pub at_index : (b : Activation) (w : Way) (t : State) (j : ℕ) (k : CutAt c.m c.n j w.to) → b.func ≡ c.n → (comes : Comes c.m b w) → Frame size b.locals (operands b) t.places
      → t.keys in_rest key_next ≡ Some (id_tree (body_piece c.n j)) → RunsOver (uses_bytes c.m) c.bs t → (p : At c.m c.cs b t) × (p.visit ≡ comes.visit)
  at_index b w t j k e comes frame named calm = (
    record {
      cut = k.cut;
      is_cut = subst (λ (i : ℕ). Contains (function_cuts c.m i) k.cut) (sym e) k.is_cut;
      visit = comes.visit;
      stands = comes.stands;
      place = comes.path ∙ sym k.place;
      named = named ∙ (ap (λ (i : ℕ). Some (id_tree (body_piece c.n i))) (sym k.index) ∙ ap (λ (i : ℕ). Some (id_tree (body_piece i k.cut.index))) (sym e));
      frame = subst (λ (i : ℕ). Frame (frame_size c.m i) b.locals (operands b) t.places) (sym e) frame;
      below = c.bs;
      waiting = subst (λ (i : ℕ). Waiting c.m i c.cs c.bs) (sym e) c.waiting;
      calm = calm;
    },
    refl,
  )

  pub goto_on : (d : ℕ) (w : Way) (b : Activation) (s : State) (h j : ℕ) → Arrived w b s → Pays d w.to → index_of all w.to ≡ Some j → Branches d b s h (goto_acts c.m c.n R L all j)
  goto_on d w b s h j r pays e =
      let g = goto_does c.bs size b.locals s c.m c.n R L all (operands b) h j r.frame r.calm in
      let k : CutAt c.m c.n j w.to = cut_at c.m c.n c.f c.t j w.to e in
      let acts : List Act = goto_acts c.m c.n R L all j in
      let p = at_index b w (after_acts acts s) j k r.func r.comes g.frame g.named g.calm in
      let sees : Seen r.comes.visit b = seen r.comes.visit b r.comes.stands r.func in
      let here : r.comes.visit ≡ k.piece.cut =
      same_visit S (body_in c.m c.n c.f c.t) r.comes.visit k.piece.cut sees.listed (cut_listed c.m c.n c.f c.t k.piece k.is_piece) (r.comes.path ∙ sym k.begins) in
      let owed : d ≤ most_fetches + suc (rank k.piece.cut) = pays k.piece (contains all k.piece k.is_piece) k.begins in
      let same : rank p.0.visit ≡ rank k.piece.cut = ap rank (p.1 ∙ here) in
      let low : d ≤ 16 * 0 + (most_fetches + suc (rank p.0.visit)) = omega arith in
      record {
        enters = gone_enters (Reach d b) c.bs size b.locals (operands b) (body_piece c.n j) h acts s g (reaches_standing 0 c.cs b (leads_nowhere c.m (at c.st c.cs b)) (stands.at_cut p.0) (λ now h. h) low);
        quiet = g.quiet;
      }

  -- ---- by a way

  pub lead_on : (d e : ℕ) (ks : Knowns) (v : Visit) (vs : List Visit) → Rest c.m c.n c.f c.t c.q e (v ∷ vs) → (w : Way) → In w (ways S v) → (b : Activation) (s : State) → Arrived w b s → AreKnown ks b.locals (operands b) → Pays d w.to → GoOn d ks None vs
      → Proceeds (leads_to c.m c.n R L all w.to (places_items c.m c.n R L all ks None vs)) s (Attain d b)
  lead_on d e ks v vs l w h b s r known pays go = by_index (index_of all w.to) refl
    where
      next : (ys : List Visit) → ((x : Visit) → In x ys → In x (all_visits c.m c.n c.f c.t)) → GoOn d ks None ys → IsNext ys w → Proceeds (places_items c.m c.n R L all ks None ys) s (Attain d b)
      next [] within go i = absurd i
      next (x ∷ xs) within go i =
          let sees : Seen r.comes.visit b = seen r.comes.visit b r.comes.stands r.func in
          let same : r.comes.visit ≡ x = same_visit S (body_in c.m c.n c.f c.t) r.comes.visit x sees.listed (within x (inl refl)) (r.comes.path ∙ sym i.0) in
          go b s (record { func = r.func; stands = subst (StandsAt c.m b) same r.comes.stands; frame = r.frame; calm = r.calm; typed = r.typed; stored = r.stored }) known

      by_index : (o : Option ℕ) → index_of all w.to ≡ o → Proceeds (leads_by c.m c.n R L all o (places_items c.m c.n R L all ks None vs)) s (Attain d b)
      by_index None k = next vs (λ x i. l.within x (inr i)) go (to_next c.m c.n c.f c.t c.q e v vs l w h k)
      by_index (Some j) k = stays c.m c.st c.cs d b (acts_then (goto_acts c.m c.n R L all j) no_more) s r.stored (acts_end (Reach d b) (goto_acts c.m c.n R L all j) s (goto_on d w b s 0 j r pays k).enters)

  -- to the next place, which tests a comparison
  pub lead_tested : (d e : ℕ) (ks : Knowns) (q : Operator) (v : Visit) (vs : List Visit) → Rest c.m c.n c.f c.t c.q e (v ∷ vs) → (w : Way) → In w (ways S v) → index_of all w.to ≡ None → (b : Activation) (s : State) → ArrivedTesting q w b s
      → AreKnown ks b.locals (operands b) → GoOn d ks (Some q) vs → Proceeds (places_items c.m c.n R L all ks (Some q) vs) s (Attain d b)
  lead_tested d e ks q v vs l w h k b s r known go = next vs (λ x i. l.within x (inr i)) go (to_next c.m c.n c.f c.t c.q e v vs l w h k)
    where
      next : (ys : List Visit) → ((x : Visit) → In x ys → In x (all_visits c.m c.n c.f c.t)) → GoOn d ks (Some q) ys → IsNext ys w → Proceeds (places_items c.m c.n R L all ks (Some q) ys) s (Attain d b)
      next [] within go i = absurd i
      next (x ∷ xs) within go i =
          let sees : Seen r.comes.visit b = seen r.comes.visit b r.comes.stands r.func in
          let same : r.comes.visit ≡ x = same_visit S (body_in c.m c.n c.f c.t) r.comes.visit x sees.listed (within x (inl refl)) (r.comes.path ∙ sym i.0) in
          let os : List Value = r.others ++ under b.levels in
          let place : top_place L r.comes.visit - 1 ≡ top_of b.locals os =
          ap (λ j. j - 1) (sees.top ∙ ap (λ (us : List Value). top_of b.locals (us ++ under b.levels)) r.parts) ∙ one_below b.locals os r.number in
          go b s
          (subst (λ (y : Visit). Testing q y b s) same
          (record {
            func = r.func;
            stands = r.comes.stands;
            number = r.number;
            others = r.others;
            parts = r.parts;
            tests = r.tests;
            frame = r.frame;
            decides = subst (λ (j : ℕ). Decides q j r.number s) (sym place) r.decides;
            calm = r.calm;
            typed = r.typed;
            stored = r.stored;
          }))
          known

  -- ---- the end of the call

  pub has_scores : score_places ≤ size
  has_scores =
      let b : Body = body_of c.m c.f c.t.type in
      subst (λ (o : Option Body). score_places ≤ body_size o) (sym c.t.body) (le-max_left score_places (most_places L (visits b.scope b.sequence)))

  -- b hands the results over, so many of the operands, and is of the same call
  pub results_on : (a b : Activation) (steps : ℕ) (os us : List Value) → b.func ≡ c.n → TypedState c.m c.results (at c.st c.cs a) → Leads c.m steps (at c.st c.cs a) (at c.st c.cs b)
      → move c.m c.st (running c.cs b) ≡ handed c.st c.cs us → us ≡ take R os → Results c.m c.n (take R os)
  results_on a b steps os us same typed l e k =
      let there : TypedState c.m c.results (at c.st c.cs b) = leads_typed c.m c.results steps (at c.st c.cs a) (at c.st c.cs b) c.program typed l in
      let given : Results c.m b.func us = c.moves.results c.m c.program c.results c.st c.cs b us there e in
      subst (λ (vs : List Value). Results c.m c.n vs) k (subst (λ (i : ℕ). Results c.m i us) same given)

  pub return_on : (d : ℕ) (a b : Activation) (steps : ℕ) (os us : List Value) (s : State) (h : ℕ) → b.func ≡ c.n → TypedState c.m c.results (at c.st c.cs a) → Leads c.m steps (at c.st c.cs a) (at c.st c.cs b)
      → move c.m c.st (running c.cs b) ≡ handed c.st c.cs us → us ≡ take R os → Frame size a.locals os s.places → RunsOver (uses_bytes c.m) c.bs s → d ≤ 16
      → Branches d a s h (return_acts (widths (take R (types_of os))) (top_of a.locals os))
  return_on d a b steps os us s h same typed l e k frame calm low =
      let results : Results c.m c.n (take R os) = results_on a b steps os us same typed l e k in
      let w : Leaves c.m c.st c.cs d a s (return_acts (widths (take R (types_of os))) (top_of a.locals os)) =
      return_leaves c.m c.st c.n d steps R size a b a.locals os s results has_scores low frame c.works (one_most (first_of c.t.type.results)) c.cs c.bs c.waiting calm l (e ∙ ap (handed c.st c.cs) k) in
      record { enters = w.enters; quiet = w.quiet h }

  -- ---- branches

  -- the operands os stand where those of pre are gone
  split_kinds : (pre os : List Value) (k : ℕ) → length pre ≡ k → drop k (types_of (pre ++ os)) ≡ types_of os
  split_kinds pre os k e =
      let long : k ≡ length (types_of pre) = sym e ∙ sym (types_length pre) in
      ap (λ (l : List ValType). drop k l) (types_append pre os) ∙ (ap (λ (i : ℕ). drop i (types_of pre ++ types_of os)) long ∙ drop-append_seam (types_of pre) (types_of os))

  pub branch_on : (d : ℕ) (v : Visit) (a : Activation) → Seen v a → StandsAt c.m a v → a.func ≡ c.n → TypedState c.m c.results (at c.st c.cs a) → d ≤ 16 → (i : Op) (is : Code) (l k steps : ℕ) (pre vs : List Value) → a.code ≡ cons i is → BranchesTo i l k
      → a.values ≡ pre ++ vs → length pre ≡ k → move c.m c.st (running c.cs a) ≡ jump c.m c.st c.cs a steps l vs a.levels → d ≤ 16 * steps
      → (s : State) → Frame size a.locals (vs ++ under a.levels) s.places → RunsOver (uses_bytes c.m) c.bs s
      → Branches d a s (top_of a.locals (vs ++ under a.levels)) (branch_acts c.m c.n R L all v (drop k (reverse v.kinds)) l)
  branch_on d v a sees standing func typed small i is l k steps pre vs code branch parts long moved low s frame calm =
      subst (λ (ts : List ValType). Branches d a s h (branch_acts c.m c.n R L all v ts l)) (sym ts_are)
      (by (subst (Branched c.m c.st c.cs a v steps l) dropped (c.moves.branch c.m c.program.valid c.st c.cs a v steps standing i is l k code branch)))
    where
      os : List Value
      os = vs ++ under a.levels

      h : ℕ
      h = top_of a.locals (vs ++ under a.levels)

      dropped : drop k a.values ≡ vs
      dropped = ap (λ (l : List Value). drop k l) parts ∙ (ap (λ (j : ℕ). drop j (pre ++ vs)) (sym long) ∙ drop-append_seam pre vs)

      whole : operands a ≡ pre ++ (vs ++ under a.levels)
      whole = ap (λ (l : List Value). l ++ under a.levels) parts ∙ append_assoc pre vs (under a.levels)

      ts_are : drop k (reverse v.kinds) ≡ types_of (vs ++ under a.levels)
      ts_are = ap (λ (l : List ValType). drop k l) (sees.back ∙ ap types_of whole) ∙ split_kinds pre (vs ++ under a.levels) k long

      by : Branched c.m c.st c.cs a v steps l vs → Branches d a s h (branch_acts c.m c.n R L all v (types_of (vs ++ under a.levels)) l)
      by (to_block x b dd j lab jumps leads same comes ops ar un) =
          let few : arity_of x.op + x.under ≤ length (vs ++ under a.levels) = let y = length-append vs (under a.levels) in omega arith in
          let idx = branch_index c.m c.n c.f c.t v sees.listed i is l k x (types_of (vs ++ under a.levels)) (sees.rest ∙ code) branch lab in
          let acts : List Act = landing_acts c.m c.n R L all v (types_of (vs ++ under a.levels)) x in
          let g = landing_does c.bs size a.locals s c.m c.n R L all v x idx.0 pre (vs ++ under a.levels) sees.locals (sees.kinds ∙ ap (λ (l : List Value). reverse (types_of l)) whole) few idx.1 frame calm in
          let w : Way = landing x.op (block_path v.path x) x.under (types_of (vs ++ under a.levels)) in
          let cut : CutAt c.m c.n idx.0 w.to = cut_at c.m c.n c.f c.t idx.0 w.to idx.1 in
          let landed : Frame size dd.locals (operands dd) (after_acts acts s).places =
          subst (λ (ls : List Value). Frame size ls (operands dd) (after_acts acts s).places) (sym same.locals) (subst (λ (l : List Value). Frame size a.locals l (after_acts acts s).places) (sym ops) g.frame) in
          let p = at_index dd w (after_acts acts s) idx.0 cut (same.func ∙ func) comes landed g.named g.calm in
          let all_steps : Leads c.m (steps + j) (at c.st c.cs a) (at c.st c.cs dd) =
          leads_on c.m steps j (at c.st c.cs a) (at c.st c.cs b) (at c.st c.cs dd) (moved_once c.m c.st c.cs steps a b (moved ∙ jumps)) leads in
          let paid : d ≤ 16 * (steps + j) + (most_fetches + suc (rank p.0.visit)) = omega arith in
          subst (λ (o : Option Around). Branches d a s h (branch_by c.m c.n R L all v (types_of (vs ++ under a.levels)) o)) (sym lab)
          (record {
            enters = gone_enters (Reach d a) c.bs size a.locals (take (arity_of x.op) (vs ++ under a.levels) ++ lowest_values x.under (vs ++ under a.levels)) (body_piece c.n idx.0) h acts s g (reaches_standing (steps + j) c.cs dd all_steps (stands.at_cut p.0) (λ now h. h) paid);
            quiet = g.quiet;
          })
      by (to_end b us lab jumps top hand) =
          let few : R ≤ length vs = subst (λ (j : ℕ). j ≤ length vs) sees.results (top_enough a.results vs us top) in
          let is_us : us ≡ take R (vs ++ under a.levels) =
          top_taken a.results vs us top ∙ (ap (λ (j : ℕ). take j vs) sees.results ∙ sym (take-append-le R vs (under a.levels) few)) in
          let place : top_of a.locals (vs ++ under a.levels) ≡ widths L + widths (types_of (vs ++ under a.levels)) = ap (λ (ls : List ValType). widths ls + widths (types_of (vs ++ under a.levels))) sees.locals in
          subst (λ (o : Option Around). Branches d a s h (branch_by c.m c.n R L all v (types_of (vs ++ under a.levels)) o)) (sym lab)
          (subst (λ (j : ℕ). Branches d a s h (return_acts (widths (take R (types_of (vs ++ under a.levels)))) j)) place
          (return_on d a b steps (vs ++ under a.levels) us s h ((c.moves.functions c.m c.st c.cs a steps c.st b (moved ∙ jumps)).0 ∙ func) typed (moved_once c.m c.st c.cs steps a b (moved ∙ jumps)) hand is_us frame calm small))
