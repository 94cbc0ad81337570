-- What `memory.grow` makes of a state that stands for an activation: the machine has made its step, the piece is next that
-- appends pages, and the cut behind follows.
use Rattle.std.proofs.Common.{◌≡◌, ℕ, ◌+◌, ◌-◌, ◌*◌, ◌<◌, ◌≤◌, List, [], ◌∷◌, ◌++◌, length, drop, replicate, Bool, true, false, ltb, Option, Some, None, option_map, refl, sym, ap, ◌∙◌, subst, arith, append-nil, ℤ, pos, negsuc}
use Rattle.std.specs.Prelude.{if◌then◌else◌}
use Rattle.std.specs.Int.{w32, cast_unsigned}
use Rattle.std.specs.List.{Contains}
use Rattle.std.proofs.lemmas.Bool.{ltb-true, ltb-false}
use Rattle.mc_nbt.specs.Word.{is_int}
use Rattle.mc_nbt.specs.declared.value.Value.{Value}
use Rattle.mc_nbt.specs.declared.value.Value.TheVariants as values
use Rattle.wm_ast.specs.declared.module.Limits.{Limits}
use Rattle.wm_ast.specs.declared.module.ValType.{ValType}
use Rattle.wm_ast.specs.declared.module.ValType.TheVariants.{I32}
use Rattle.wm_ast.specs.Code.{memory_grow, Code, cons}
use Rattle.wm_ast.specs.Simple.{done, unsigned, with_memory}
use Rattle.wm_ast.specs.Store.{Store, page_count, page_size, most_pages}
use Rattle.wm_ast.specs.declared.limit.TheConstants.{PAGES}
use Rattle.wm_ast.proofs.LimitLaws.{most_few}
use Rattle.wm_valid.specs.Typing.{HasFirst}
use Rattle.wm_valid.specs.Arrows.{arrow, Change, changes, changed, by_arrow, change}
use Rattle.wm_valid.proofs.ArrowLaws.{first_complete}
use Rattle.wm_flat.specs.Flat.{Activation, running, goes, past, does, move}
use Rattle.wm_flat.specs.FlatTyping.{types_of}
use Rattle.wm_flat.specs.Operands.{under, operands}
use Rattle.wm_valid.specs.InRange.{IsInRange}
use Rattle.wm_flat.proofs.ValueLaws.{FirstI32, first_i32}
use Rattle.wm_place.specs.Kinds.{Body}
use Rattle.wm_place.specs.Visit.{Visit}
use Rattle.cc_line.specs.Sight.{in_rest}
use Rattle.cc_line.specs.Key.{key_follows, body_piece, id_tree}
use Rattle.cc_line.specs.State.{State, place_at, set_places, with_tree}
use Rattle.cc_line.specs.Step.{Act}
use Rattle.cc_line.specs.Item.{Items, no_more}
use Rattle.cc_call.specs.Fetch.{follows_site}
use Rattle.cc_call.specs.Frames.{next_site}
use Rattle.cc_page.specs.Pages.{zero_page, pages_bytes}
use Rattle.cc_page.proofs.ShownLemmas.{pages_grown}
use Rattle.cc_bulk.specs.Grow.{score_missing, grow_items}
use Rattle.cc_bulk.specs.GrowLaw.{TellsMissing}
use Rattle.cc_mem.specs.Law.{Before}
use Rattle.cc_mem.specs.Standing.{HasMemory}
use Rattle.cc_cut.specs.Cuts.{function_cuts}
use Rattle.cc_cut.specs.Piece.{index_of}
use Rattle.cc_cut.specs.Way.{way, path_behind}
use Rattle.cc_move.specs.Standing.{Comes}
use Rattle.cc_pieces.specs.Growing.{grower_piece, append_next_acts, most_runs, runs_for}
use Rattle.cc_body.specs.Emit.{grown_items}
use Rattle.cc_body.specs.Layout.{top_place, frame_size}
use Rattle.cc_simulate.specs.Callers.{Waiting}
use Rattle.cc_simulate.specs.Frame.{Frame}
use Rattle.cc_simulate.specs.Stands.{RunsOver, ChangesFrameAlone, Growing}
use Rattle.cc_simulate.specs.Stands as stands
use Rattle.cc_simulate.specs.Stored.{StoredBut}
use Rattle.cc_simulate.specs.Uses.{uses_bytes}
use Rattle.cc_simulate.proofs.Acts.{acts_then, keeps_both, keeps_tree}
use Rattle.cc_simulate.proofs.Frames.{top_of, frame_top, frame_same, frame_pop, frame_push}
use Rattle.cc_simulate.proofs.Globals.{but_kept}
use Rattle.cc_simulate.proofs.MemoryLemmas.{memory_of, access_spares, access_calm, grown_stored}
use Rattle.cc_simulate.proofs.Proceeding.{Crosses, Proceeds, crosses_proceed, acts_proceed, end_proceeds, keeps_spares}
use Rattle.cc_simulate.proofs.SimulateKnown.{Ruled, IsLast, first_long, ruled, are_taken, is_last}
use Rattle.cc_simulate.proofs.SimulateMemory.{MemoryWorks, pages_are, counted}
use Rattle.cc_simulate.proofs.SimulateReach.{attains_standing, moved_to, move_is, Setting, S, L, R, size, all, Attain, body_is, Seen, seen, Here}
use Rattle.cc_simulate.proofs.Ways.{CutAt, cut_at, Next, behind_index}

-- ---- the step

-- items that lead to where the machine is behind its step, but that so many pages are still to be appended
pub record Grown (c : Setting) (v : Visit) (a : Activation) (s : State) (is : Code) : Type 0 where
  pub value : ℤ
  pub others : List Value
  pub few : 1 ≤ length a.values
  pub types : types_of others ≡ drop 1 (types_of a.values)
  pub now : Store
  pub moves : move c.m c.st (running c.cs a) ≡ goes 1 now (running c.cs (past a memory_grow is a.locals (values.I32 value ∷ others)))
  pub missing : ℕ
  pub state : State
  pub crosses : Crosses (grow_items (most_pages c.m) (top_place (L c) v - 1)) s state
  pub told : state.scores score_missing ≡ Some (pos missing)
  pub frame : Frame (size c) a.locals (values.I32 value ∷ (others ++ under a.levels)) state.places
  pub calm : RunsOver (uses_bytes c.m) c.bs state
  pub stored : StoredBut c.m missing now state

-- so many pages more are asked for by the last operand
module _ {c : Setting} {v : Visit} {a : Activation} {s : State} (h : Here c v a s) (works : MemoryWorks) (first : HasFirst c.m.mems) (is : Code) (e : a.code ≡ cons memory_grow is)
    (z : ℤ) (others : List Value) (range : IsInRange (values.I32 z)) (parts : a.values ≡ values.I32 z ∷ others) where
  abbrev ps : List (List ℕ)
  ps = h.stored.pages

  abbrev j : ℕ
  j = top_place (L c) v - 1

  abbrev os : List Value
  os = others ++ under a.levels

  abbrev items : Items
  items = grow_items (most_pages c.m) j

  abbrev count : ℕ
  count = cast_unsigned w32 z

  has : HasMemory ps s
  has = memory_of c.m.mems ps s first h.stored.memory

  last : IsLast c v a s z others
  last = is_last h z others parts

  before : Before false j ps s
  before = record { memory = has; a_page = λ f. absurd cc; trap = h.calm.trap; there = last.within; int = ap is_int last.reads ∙ range }

  moves_by : (b : Bool) → ltb (most_pages c.m) (page_count c.st.memory + count) ≡ b
      → move c.m c.st (running c.cs a)
      ≡ does c.m c.st c.cs a memory_grow is
      (if b then done c.st a.locals (values.I32 (negsuc 0) ∷ others) else with_memory c.m c.st a.locals (c.st.memory ++ replicate (page_size * count) 0) (unsigned (page_count c.st.memory) ∷ others))
  moves_by b q =
      move_is c.m c.st c.cs a memory_grow is (values.I32 z ∷ others) e parts
      ∙ ap
      (λ (x : Bool).
      does c.m c.st c.cs a memory_grow is
      (if x then done c.st a.locals (values.I32 (negsuc 0) ∷ others) else with_memory c.m c.st a.locals (c.st.memory ++ replicate (page_size * count) 0) (unsigned (page_count c.st.memory) ∷ others))) q

  -- the result stands in the place of the operand
  put : (x : ℤ) (y : State) → y.places ≡ set_places s.places j (x ∷ []) → Frame (size c) a.locals (values.I32 x ∷ os) y.places
  put x y k =
      let top : top_of a.locals (values.I32 z ∷ os) ≤ length s.places = frame_top (size c) a.locals (values.I32 z ∷ os) s.places last.frame in
      let room : top_of a.locals (values.I32 z ∷ os) ≤ size c = subst (λ (n : ℕ). top_of a.locals (values.I32 z ∷ os) ≤ n) last.frame.sized top in
      frame_same (size c) a.locals (values.I32 x ∷ os) _ y.places (k ∙ ap (λ (n : ℕ). set_places s.places n (x ∷ [])) last.place_is)
      (frame_push (size c) a.locals (values.I32 x) os s.places (frame_pop (size c) a.locals (values.I32 z) os s.places last.frame) room)

  grown : (x : ℤ) (missing : ℕ) (memory : List ℕ) → memory ≡ pages_bytes (ps ++ replicate missing zero_page)
      → move c.m c.st (running c.cs a) ≡ goes 1 (record c.st { memory = memory }) (running c.cs (past a memory_grow is a.locals (values.I32 x ∷ others)))
      → TellsMissing items ps s j x missing → Grown c v a s is
  grown x missing memory k moves y = record {
    value = x;
    others = others;
    few = first_long (values.I32 z) others a.values parts;
    types = ap (λ (l : List Value). drop 1 (types_of l)) (sym parts);
    now = record c.st { memory = memory };
    moves = moves;
    missing = missing;
    state = y.does.state;
    crosses = record { ready = y.does.ready; used = y.does.used; ends = y.does.ends; spares = access_spares s y.does.state y.does.spares };
    told = y.told;
    frame = put x y.does.state y.does.places;
    calm = access_calm c.bs s y.does.state y.does.spares y.does.trap h.calm;
    stored = grown_stored c.m c.st s y.does.state ps missing memory first y.does.spares y.does.memory k h.stored;
  }

  law : (length ps + cast_unsigned w32 (place_at s j) ≤ most_pages c.m → TellsMissing items ps s j (pos (length ps)) (cast_unsigned w32 (place_at s j)))
      × (most_pages c.m < length ps + cast_unsigned w32 (place_at s j) → TellsMissing items ps s j (negsuc 0) 0)
  law = let few : most_pages c.m ≤ PAGES = most_few _ in works.grows (most_pages c.m) j ps s before (omega arith)

  grown_by : (b : Bool) → ltb (most_pages c.m) (page_count c.st.memory + count) ≡ b → Grown c v a s is
  grown_by true q =
      let more : most_pages c.m < page_count c.st.memory + count = ltb-true (most_pages c.m) (page_count c.st.memory + count) q in
      let most : most_pages c.m < length ps + cast_unsigned w32 (place_at s j) =
      subst (λ (n : ℕ). most_pages c.m < n + cast_unsigned w32 (place_at s j)) (pages_are h works first) (subst (λ (x : ℤ). most_pages c.m < page_count c.st.memory + cast_unsigned w32 x) (sym last.reads) more) in
      grown (negsuc 0) 0 c.st.memory (h.stored.bytes ∙ ap pages_bytes (sym (append-nil ps))) (moves_by true q) (law.1 most)
  grown_by false q =
      let less : page_count c.st.memory + count ≤ most_pages c.m = ltb-false (most_pages c.m) (page_count c.st.memory + count) q in
      let most : length ps + count ≤ most_pages c.m = subst (λ (n : ℕ). n + count ≤ most_pages c.m) (pages_are h works first) less in
      let y : length ps + count ≤ most_pages c.m → TellsMissing items ps s j (pos (length ps)) count =
      subst (λ (x : ℤ). length ps + cast_unsigned w32 x ≤ most_pages c.m → TellsMissing items ps s j (pos (length ps)) (cast_unsigned w32 x)) last.reads law.0 in
      grown (pos (length ps)) count (c.st.memory ++ replicate (page_size * count) 0)
      (ap (λ (l : List ℕ). l ++ replicate (page_size * count) 0) h.stored.bytes ∙ sym (pages_grown ps count has.are_pages).1)
      (moves_by false q
      ∙ ap (λ (u : Value). goes 1 (record c.st { memory = c.st.memory ++ replicate (page_size * count) 0 }) (running c.cs (past a memory_grow is a.locals (u ∷ others)))) (counted h works first)) (y most)

-- by the rule
grown_at : {c : Setting} {v : Visit} {a : Activation} {s : State} (h : Here c v a s) (works : MemoryWorks) (is : Code) → a.code ≡ cons memory_grow is → HasFirst c.m.mems × Grown c v a s is
grown_at {c} {v} {a} {s} h works is e =
    let r : Ruled c.m a memory_grow = ruled h memory_grow is e in
    let first : HasFirst c.m.mems = subst (λ (ms : List Limits). HasFirst ms) r.memories r.rule.0 in
    let x : FirstI32 r.below a.values = first_i32 r.below a.values (are_taken h memory_grow r (I32 ∷ []) r.rule.1.0) in
    (first, grown_by h works first is e x.number x.others x.range x.parts (ltb (most_pages c.m) (page_count c.st.memory + cast_unsigned w32 x.number)) refl)

-- ---- what is next then

module _ (c : Setting) (v : Visit) (d : ℕ) (low : d ≤ 16) (a : Activation) (s : State) (h : Here c v a s) (works : MemoryWorks) (is : Code) (e : a.code ≡ cons memory_grow is) where
  sees : Seen c v a
  sees = seen c v a h.stands h.func

  found : HasFirst c.m.mems × Grown c v a s is
  found = grown_at h works is e

  y : Grown c v a s is
  y = found.1

  -- the activation behind the instruction, and the cut there
  abbrev b : Activation
  b = past a memory_grow is a.locals (values.I32 y.value ∷ y.others)

  abbrev its_change : Change
  its_change = changes 1 (I32 ∷ [])

  changes_so : change memory_grow (S c) ≡ Some its_change
  changes_so = ap (λ o. option_map by_arrow (if o then Some (arrow (I32 ∷ []) (I32 ∷ [])) else None)) (first_complete c.m.mems found.0)

  comes : Comes c.m b (way (path_behind v.path) (changed its_change (types_of (operands a))))
  comes =
      c.moves.onward c.m a v h.stands memory_grow is its_change a.locals (values.I32 y.value ∷ y.others) e (ap (λ (o : Body). change memory_grow o.scope) (body_is c a v h.stands h.func) ∙ changes_so) y.few
      (ap (λ (l : List ValType). I32 ∷ l) y.types) refl

  next : Next c.m c.n c.f c.t v memory_grow
  next = behind_index c.m c.n c.f c.t v sees.listed memory_grow is (sees.rest ∙ e) refl

  behind : CutAt c.m c.n next.index (path_behind v.path)
  behind = cut_at c.m c.n c.f c.t next.index (path_behind v.path) next.found

  abbrev acts : List Act
  acts = append_next_acts c.n (Some next.index)

  -- the cut follows, and the piece is next that appends pages
  abbrev led : State
  led = with_tree (with_tree y.state follows_site (Some (id_tree (body_piece c.n next.index)))) next_site (Some (id_tree grower_piece))

  keeps : ChangesFrameAlone y.state led
  keeps =
      let u : State = with_tree y.state follows_site (Some (id_tree (body_piece c.n next.index))) in
      keeps_both y.state u led (keeps_tree y.state follows_site (Some (id_tree (body_piece c.n next.index))) refl) (keeps_tree u next_site (Some (id_tree grower_piece)) refl)

  follows : led.keys in_rest key_follows ≡ Some (id_tree (body_piece b.func behind.cut.index))
  follows = ap (λ (i : ℕ). Some (id_tree (body_piece c.n i))) (sym behind.index) ∙ ap (λ (i : ℕ). Some (id_tree (body_piece i behind.cut.index))) (sym h.func)

  abbrev growing : Growing c.m c.cs b led
  growing = record {
    has_memory = found.0;
    cut = behind.cut;
    is_cut = subst (λ (i : ℕ). Contains (function_cuts c.m i) behind.cut) (sym h.func) behind.is_cut;
    visit = comes.visit;
    stands = comes.stands;
    place = comes.path ∙ sym behind.place;
    missing = y.missing;
    told = y.told;
    named = refl;
    follows = follows;
    frame = subst (λ (i : ℕ). Frame (frame_size c.m i) b.locals (operands b) led.places) (sym h.func) y.frame;
    below = c.bs;
    waiting = subst (λ (i : ℕ). Waiting c.m i c.cs c.bs) (sym h.func) c.waiting;
    calm = record { trap = y.calm.trap; state = y.calm.state; ending = y.calm.ending; standing = y.calm.standing; below = y.calm.below };
  }

  attained : Attain c d a led
  attained =
      let one : d ≤ 16 * 1 + (most_runs - runs_for y.missing) = paid (most_runs - runs_for y.missing) in
      attains_standing 1 y.now c.cs b (moved_to c.m c.st c.cs y.now 1 a b y.moves) (stands.growing growing) (but_kept c.m y.missing y.now y.state led keeps y.stored) one
    where
      paid : (k : ℕ) → d ≤ 16 * 1 + k
      paid k = let x : d ≤ 16 * 1 + k = omega arith in x

  pub grow_on : Proceeds (grown_items c.m c.n (R c) (L c) (all c) v) s (Attain c d a)
  grow_on =
      crosses_proceed (Attain c d a) (grow_items (most_pages c.m) (top_place (L c) v - 1)) (acts_then (append_next_acts c.n (index_of (all c) (path_behind v.path))) no_more) s y.state y.crosses
      (subst (λ (o : Option ℕ). Proceeds (acts_then (append_next_acts c.n o) no_more) y.state (Attain c d a)) (sym next.found)
      (acts_proceed (Attain c d a) acts no_more y.state (tt, (tt, tt)) (keeps_spares y.state led keeps) (end_proceeds (Attain c d a) led attained)))
