-- A piece that is run again while bytes are left: each of its turns is a step of the machine, behind which the instruction stands
-- again over other operands; where no byte is left, a step leads behind it.
use Rattle.std.proofs.Common.{◌≡◌, ℕ, zero, suc, ◌+◌, ◌*◌, ◌-◌, ◌<◌, ◌≤◌, List, length, true, Option, Some, refl, sym, ap, ◌∙◌, subst, arith, pos}
use Rattle.wm_ast.specs.declared.module.ValType.{ValType}
use Rattle.wm_ast.specs.Code.{Op, memory_copy, memory_fill, Code, cons}
use Rattle.wm_ast.specs.Store.{Store}
use Rattle.wm_flat.specs.Flat.{Activation, running, goes, move}
use Rattle.wm_flat.specs.FlatTyping.{types_of}
use Rattle.wm_flat.specs.Operands.{operands}
use Rattle.wm_place.specs.Visit.{Visit}
use Rattle.cc_line.specs.State.{State, place_at}
use Rattle.cc_line.specs.Item.{Items, no_more, join}
use Rattle.cc_cut.specs.Cost.{ends_piece, is_repeated}
use Rattle.cc_cut.specs.Way.{Way, way, path_behind}
use Rattle.cc_move.specs.Standing.{Comes}
use Rattle.cc_body.specs.Emit.{exit_then, is_zero, goto_acts, acts_to, cut_acts, turn_items}
use Rattle.cc_body.specs.Layout.{top_place}
use Rattle.cc_simulate.specs.Frame.{Frame}
use Rattle.cc_simulate.specs.Law.{Enters}
use Rattle.cc_simulate.proofs.Acts.{acts_then, acts_end, fetch_enters, exit_taken, is_tested, Tested, zero_holds, zero_fails}
use Rattle.cc_simulate.proofs.Proceeding.{Crosses, Proceeds, proceeds_as, crosses_proceed, fetch_proceeds, passed_proceeds}
use Rattle.cc_simulate.proofs.SimulateReach.{reaches_after, attains_after, stays, moved_to, moved_once, typed_after, acts_as, Setting, L, R, size, all, Reach, Attain, Seen, seen, Here, Arrived, pays_none, goto_on}
use Rattle.cc_simulate.proofs.Ways.{Next, HasIndex, here_index, behind_index}

-- a piece begins behind it too
pub repeated_ends : (i : Op) → is_repeated i ≡ true → ends_piece i ≡ true
repeated_ends memory_copy e = refl
repeated_ends memory_fill e = refl
repeated_ends _ e = absurd cc

module _ (c : Setting) (v : Visit) (i : Op) (is : Code) (turn : Items) where
  -- over another store
  abbrev pub over : Store → Setting
  over now = record c { st = now }

  abbrev pub place : ℕ
  place = top_place (L c) v - 1

  -- a turn is a step, behind which this holds again
  pub record Turned (F : Store → Activation → State → ℕ → Type 0) (st : Store) (a : Activation) (s : State) (n : ℕ) : Type 0 where
    pub now : Store
    pub next : Activation
    pub state : State
    pub moves : move c.m st (running c.cs a) ≡ goes 1 now (running c.cs next)
    pub crosses : Crosses turn s state
    pub after : F now next state n

  -- a step leads behind the instruction, and the state may stay as it is
  pub record Done (st : Store) (a : Activation) (s : State) : Type 0 where
    pub next : Activation
    pub kinds : List ValType
    pub moves : move c.m st (running c.cs a) ≡ goes 1 st (running c.cs next)
    pub same : next.func ≡ c.n
    pub comes : Comes c.m next (way (path_behind v.path) kinds)
    pub frame : Frame (size c) next.locals (operands next) s.places

  -- what is known of an activation that stands before so many bytes, over this store
  pub record Repeats (F : Store → Activation → State → ℕ → Type 0) : Type 0 where
    pub again : is_repeated i ≡ true
    pub here : (st : Store) (a : Activation) (s : State) (n : ℕ) → F st a s n → Here (record c { st = st }) v a s
    pub code : (st : Store) (a : Activation) (s : State) (n : ℕ) → F st a s n → a.code ≡ cons i is
    pub within : (st : Store) (a : Activation) (s : State) (n : ℕ) → F st a s n → top_place (L c) v - 1 < length s.places
    pub count : (st : Store) (a : Activation) (s : State) (n : ℕ) → F st a s n → place_at s (top_place (L c) v - 1) ≡ pos n
    pub tested : (st : Store) (a : Activation) (s t : State) (n : ℕ) → F st a s n → Tested (top_place (L c) v - 1) s t → F st a t n
    pub turned : (st : Store) (a : Activation) (s : State) (n : ℕ) → F st a s (suc n) → Turned F st a s n
    pub done : (st : Store) (a : Activation) (s : State) → F st a s 0 → Done st a s

  module _ (F : Store → Activation → State → ℕ → Type 0) (law : Repeats F) where
    abbrev items : ℕ → Items
    items k = turn_items c.m c.n (R c) (L c) (all c) v turn k

    abbrev Later : ℕ → Type 0
    Later k = (st : Store) (a : Activation) (s : State) (n : ℕ) → F st a s n → Proceeds (items k) s (Attain (over st) 0 a)

    paid : (d : ℕ) → d ≤ 16 → d ≤ 16 * 1 + 0
    paid d low = let x : d ≤ 16 * 1 + 0 = omega arith in x

    -- no byte is left
    leaves : (k d : ℕ) → d ≤ 16 → (st : Store) (a : Activation) (s t : State) → F st a s 0 → Tested place s t → Proceeds (items (suc k)) s (Attain (over st) d a)
    leaves k d low st a s t f tested =
        let h : Here (over st) v a s = law.here st a s 0 f in
        let g : Here (over st) v a t = law.here st a t 0 (law.tested st a s t 0 f tested) in
        let y : Done st a t = law.done st a t (law.tested st a s t 0 f tested) in
        let b : Activation = y.next in
        let w : Way = way (path_behind v.path) y.kinds in
        let sees : Seen (over st) v a = seen (over st) v a h.stands h.func in
        let next : Next c.m c.n c.f c.t v i = behind_index c.m c.n c.f c.t v sees.listed i is (sees.rest ∙ law.code st a s 0 f) (repeated_ends i law.again) in
        let arrived : Arrived (over st) w b t = record {
          func = y.same;
          comes = y.comes;
          frame = y.frame;
          calm = g.calm;
          typed = typed_after c.m st c.cs c.program c.results st 1 a b h.typed y.moves;
          stored = g.stored;
        } in
        let to = goto_on (over st) 0 w b t place next.index arrived (pays_none (over st) w.to) next.found in
        stays c.m st c.cs d a (items (suc k)) s h.stored
        (fetch_enters (Reach (over st) d a) place _ s t tested
        (subst (λ (o : Option ℕ). Enters (exit_then (is_zero place) (acts_to c.m c.n (R c) (L c) (all c) o) (join turn (items k))) t (Reach (over st) d a)) (sym next.found)
        (exit_taken (Reach (over st) d a) place (is_zero place) (goto_acts c.m c.n (R c) (L c) (all c) next.index) (join turn (items k)) t (refl, tt) tested.within to.quiet
        (zero_holds place t (pos 0) (tested.reads ∙ ap Some (law.count st a s 0 f)) refl)
        (acts_as (Reach (over st) 0 b) (Reach (over st) d a) (goto_acts c.m c.n (R c) (L c) (all c) next.index) t
        (λ u r. reaches_after c.m st c.cs d 0 1 a b (moved_once c.m st c.cs 1 a b y.moves) (paid d low) u r) to.enters))))

    -- a byte is left
    turns : (k d : ℕ) → d ≤ 16 → Later k → (st : Store) (a : Activation) (s t : State) (n : ℕ) → F st a s (suc n) → Tested place s t → Proceeds (items (suc k)) s (Attain (over st) d a)
    turns k d low later st a s t n f tested =
        let x : Turned F st a t n = law.turned st a t n (law.tested st a s t (suc n) f tested) in
        fetch_proceeds (Attain (over st) d a) place _ s t tested
        (passed_proceeds (Attain (over st) d a) place (is_zero place) (cut_acts c.m c.n (R c) (L c) (all c) (path_behind v.path)) (join turn (items k)) t (refl, tt) tested.within
        (zero_fails place t (pos (suc n)) (tested.reads ∙ ap Some (law.count st a s (suc n) f)) (λ e. absurd cc))
        (crosses_proceed (Attain (over st) d a) turn (items k) t x.state x.crosses
        (proceeds_as (Attain (over x.now) 0 x.next) (Attain (over st) d a) (items k) x.state
        (λ u r. attains_after c.m st c.cs x.now d 0 1 a x.next (moved_to c.m st c.cs x.now 1 a x.next x.moves) (paid d low) u r) (later x.now x.next x.state n x.after))))

    one_turn : (k d : ℕ) → d ≤ 16 → Later k → (st : Store) (a : Activation) (s : State) (n : ℕ) → F st a s n → Proceeds (items (suc k)) s (Attain (over st) d a)
    one_turn k d low later st a s zero f = let t = is_tested place s (law.within st a s zero f) in leaves k d low st a s t.0 f t.1
    one_turn k d low later st a s (suc n) f = let t = is_tested place s (law.within st a s (suc n) f) in turns k d low later st a s t.0 n f t.1

    -- behind the last turn of a run the instruction stands again
    stands_again : Later zero
    stands_again st a s n f =
        let h : Here (over st) v a s = law.here st a s n f in
        let sees : Seen (over st) v a = seen (over st) v a h.stands h.func in
        let idx : HasIndex c.m c.n v.path = here_index c.m c.n c.f c.t v sees.listed i is (sees.rest ∙ law.code st a s n f) law.again in
        let w : Way = way v.path (types_of (operands a)) in
        let comes : Comes c.m a w = record { visit = v; stands = h.stands; path = refl; kinds = sees.kinds } in
        let arrived : Arrived (over st) w a s = record { func = h.func; comes = comes; frame = h.frame; calm = h.calm; typed = h.typed; stored = h.stored } in
        let to = goto_on (over st) 0 w a s 0 idx.0 arrived (pays_none (over st) w.to) idx.1 in
        subst (λ (o : Option ℕ). Proceeds (acts_then (acts_to c.m c.n (R c) (L c) (all c) o) no_more) s (Attain (over st) 0 a)) (sym idx.1)
        (stays c.m st c.cs 0 a (acts_then (goto_acts c.m c.n (R c) (L c) (all c) idx.0) no_more) s h.stored (acts_end (Reach (over st) 0 a) (goto_acts c.m c.n (R c) (L c) (all c) idx.0) s to.enters))

    later_turns : (k : ℕ) → Later k
    later_turns zero st a s n f = stands_again st a s n f
    later_turns (suc k) st a s n f = one_turn k 0 (let x : 0 ≤ 16 = omega arith in x) (later_turns k) st a s n f

    -- so many turns and one
    pub turns_on : (k d : ℕ) → d ≤ 16 → (st : Store) (a : Activation) (s : State) (n : ℕ) → F st a s n → Proceeds (items (suc k)) s (Attain (over st) d a)
    turns_on k d low st a s n f = one_turn k d low (later_turns k) st a s n f
