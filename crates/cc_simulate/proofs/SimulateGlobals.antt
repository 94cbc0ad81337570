-- What `global_get` and `global_set` make of a state that stands for an activation.
use Rattle.std.proofs.Common.{◌≡◌, ℕ, zero, suc, ◌-◌, ◌≤◌, List, [], ◌∷◌, ◌++◌, length, map, drop, cond, if◌then◌else◌, Option, Some, None, option_map, refl, sym, ap, ◌∙◌, subst, ltb, true, false}
use Rattle.std.specs.Prelude.{slice_get, slice_set}
use Rattle.std.proofs.lemmas.Option.{slice_get-map}
use Rattle.mc_nbt.specs.declared.value.Value.{Value}
use Rattle.wm_ast.specs.declared.module.Global.{Global}
use Rattle.wm_ast.specs.declared.module.Module.{Module}
use Rattle.wm_ast.specs.declared.module.ValType.{ValType}
use Rattle.wm_ast.specs.Code.{global_get, global_set, Code, cons}
use Rattle.wm_ast.specs.Simple.{done, unfit, got}
use Rattle.wm_ast.specs.Store.{Store}
use Rattle.wm_ast.specs.Types.{const_type}
use Rattle.wm_valid.specs.Typing.{GlobalType, global_type}
use Rattle.wm_valid.specs.Arrows.{◌>>=◌, arrow, set_type, changes, by_arrow, change}
use Rattle.wm_flat.specs.Flat.{Activation, running, goes, past, does, move}
use Rattle.wm_flat.specs.FlatTyping.{types_of, held_type}
use Rattle.wm_flat.specs.Operands.{under, operands}
use Rattle.wm_flat.proofs.ValueLaws.{at_position, set_position, First, first_of_all, Is}
use Rattle.wm_place.specs.Visit.{Visit}
use Rattle.cc_line.specs.Routine.{value_ints}
use Rattle.cc_line.specs.State.{State}
use Rattle.cc_line.specs.Step.{Act, flow}
use Rattle.cc_line.specs.Item.{no_more}
use Rattle.cc_call.proofs.ActLemmas.{acts_run, acts_end_so}
use Rattle.cc_cut.specs.Law.{width}
use Rattle.cc_body.specs.Emit.{places_of, global_get_acts, global_set_acts}
use Rattle.cc_body.specs.Layout.{top_place}
use Rattle.cc_body.specs.Storage.{type_of_global}
use Rattle.cc_simulate.specs.Frame.{Frame}
use Rattle.cc_simulate.specs.Stands.{RunsOver, ChangesStoreAlone}
use Rattle.cc_simulate.specs.Stored.{Stored}
use Rattle.cc_simulate.specs.Uses.{uses_bytes}
use Rattle.cc_simulate.proofs.Acts.{acts_then, after_acts, ActsReady}
use Rattle.cc_simulate.proofs.Doing.{Makes}
use Rattle.cc_simulate.proofs.Frames.{top_of, value_below, Stand, frame_same, frame_pop, frame_stand}
use Rattle.cc_simulate.proofs.Globals.{Regained, global_get_does, global_put}
use Rattle.cc_simulate.proofs.Proceeding.{Crosses}
use Rattle.cc_simulate.proofs.SimulateReach.{move_is, Setting, S, L, size, Here}
use Rattle.cc_simulate.proofs.SimulateKnown.{Ruled, first_long, ruled, are_taken, parted, top_parted}

-- how many places its values take
abbrev pub places_at : Setting → ℕ → ℕ
places_at c x = places_of (type_of_global c.m x)

-- the places above the operands get the ints of the global
pub record Got (c : Setting) (a : Activation) (s : State) (x : ℕ) (is : Code) : Type 0 where
  pub value : Value
  pub type : ValType
  pub is_type : const_type value ≡ type
  pub changes_so : change (global_get x) (S c) ≡ Some (changes 0 (type ∷ []))
  pub moves : move c.m c.st (running c.cs a) ≡ goes 1 c.st (running c.cs (past a (global_get x) is a.locals (value ∷ a.values)))
  pub does : top_of a.locals (value ∷ operands a) ≤ size c → Makes (uses_bytes c.m) c.bs (size c) a.locals (value ∷ operands a) (acts_then (global_get_acts x 0 (places_at c x) (top_of a.locals (operands a))) no_more) s

-- the global gets the last operand, and the store changes
pub record Put (c : Setting) (v : Visit) (a : Activation) (s : State) (x : ℕ) (is : Code) : Type 0 where
  pub value : Value
  pub others : List Value
  pub parts : a.values ≡ value ∷ others
  pub few : 1 ≤ length a.values
  pub types : types_of others ≡ drop 1 (types_of a.values)
  pub changes_so : change (global_set x) (S c) ≡ Some (changes 1 [])
  pub now : Store
  pub moves : move c.m c.st (running c.cs a) ≡ goes 1 now (running c.cs (past a (global_set x) is a.locals others))
  pub state : State
  pub crosses : Crosses (acts_then (global_set_acts x 0 (places_at c x) (top_place (L c) v - places_at c x)) no_more) s state
  pub frame : Frame (size c) a.locals (others ++ under a.levels) state.places
  pub calm : RunsOver (uses_bytes c.m) c.bs state
  pub stored : Stored c.m now state

-- acts that may change what a state has of the store
acts_cross : (acts : List Act) (s t : State) → ActsReady acts s → after_acts acts s ≡ t → ChangesStoreAlone s t → Crosses (acts_then acts no_more) s t
acts_cross acts s t r e k = let n = acts_end_so acts s in record { ready = (acts_run acts no_more s r tt).0; used = n.0; ends = n.1 ∙ ap (λ (u : State). flow false u n.0) e; spares = k }

global_at : (gs : List Global) (x : ℕ) (g : GlobalType) → slice_get (map global_type gs) x ≡ Some g → (y : Global) × (slice_get gs x ≡ Some y) × (global_type y ≡ g)
global_at [] x g e = absurd cc
global_at (y ∷ gs) zero g e = (y, refl, cc)
global_at (y ∷ gs) (suc x) g e = global_at gs x g e

-- what a global holds
holds_at : (m : Module) (x : ℕ) (g : GlobalType) → slice_get (map global_type m.globals) x ≡ Some g → (slice_get (map held_type m.globals) x ≡ Some g.holds) × (type_of_global m x ≡ Some g.holds)
holds_at m x g e =
    let (y, there, same) = global_at m.globals x g e in
    let holds : y.ty ≡ g.holds = ap (λ (t : GlobalType). t.holds) same in
    (slice_get-map held_type m.globals x ∙ (ap (option_map held_type) there ∙ ap Some holds), ap (option_map (λ (k : Global). k.ty)) there ∙ ap Some holds)

-- an activation stands before an instruction on the global of this index, by its rule
module _ {c : Setting} {v : Visit} {a : Activation} {s : State} (h : Here c v a s) (x : ℕ) (g : GlobalType) (here : slice_get (map global_type c.m.globals) x ≡ Some g) where
  own : (slice_get (map held_type c.m.globals) x ≡ Some g.holds) × (type_of_global c.m x ≡ Some g.holds)
  own = holds_at c.m x g here

  found : (u : Value) × (slice_get c.st.globals x ≡ Some u) × Is g.holds u
  found = at_position c.st.globals (map held_type c.m.globals) x g.holds h.typed.store.globals own.0

  -- so many places has a value of its type
  wide_as : (w : Value) → Is g.holds w → places_at c x ≡ width (const_type w)
  wide_as w is = ap places_of own.1 ∙ ap width (sym is.type)

  got_on : (is : Code) → a.code ≡ cons (global_get x) is → Got c a s x is
  got_on is e = record {
    value = found.0;
    type = g.holds;
    is_type = found.2.type;
    changes_so = ap (λ (o : Option GlobalType). option_map by_arrow (o >>= λ t. Some (arrow [] (t.holds ∷ [])))) here;
    moves = move_is c.m c.st c.cs a (global_get x) is a.values e refl ∙ ap (λ o. does c.m c.st c.cs a (global_get x) is (got c.m c.st a.locals a.values o)) found.1;
    does = λ room. global_get_does c.m c.st s h.stored c.bs (size c) a.locals h.calm x found.0 (operands a) (places_at c x) found.1 (wide_as found.0 found.2) h.frame room;
  }

  -- it gets this value, which is the last operand over the others
  module _ (w : Value) (typed : Is g.holds w) (others : List Value) (parts : a.values ≡ w ∷ others) where
    abbrev globals : List Value
    globals = slice_set c.st.globals x w

    abbrev now : Store
    now = record c.st { globals = globals }

    abbrev os : List Value
    os = others ++ under a.levels

    abbrev n : ℕ
    n = places_at c x

    framed : Frame (size c) a.locals (w ∷ os) s.places
    framed = parted h (w ∷ others) (w ∷ os) parts refl

    -- the first place of the operand
    place_is : top_place (L c) v - n ≡ top_of a.locals os
    place_is =
        ap (λ (j : ℕ). j - n) (top_parted h (w ∷ others) (w ∷ os) parts refl)
        ∙ (ap (λ (j : ℕ). top_of a.locals (w ∷ os) - j) (wide_as w typed) ∙ value_below a.locals os w)

    there : ltb x (length c.st.globals) ≡ true
    there = (set_position c.st.globals (map held_type c.m.globals) x w g.holds h.typed.store.globals own.0 typed).0

    moves : (is : Code) → a.code ≡ cons (global_set x) is → move c.m c.st (running c.cs a) ≡ goes 1 now (running c.cs (past a (global_set x) is a.locals others))
    moves is e = move_is c.m c.st c.cs a (global_set x) is (w ∷ others) e parts ∙ ap (λ b. does c.m c.st c.cs a (global_set x) is (cond b (done now a.locals others) unfit)) there

    regained : Regained c.m c.st globals (global_set_acts x 0 n (top_place (L c) v - n)) s
    regained =
        global_put c.m c.st s h.stored x (top_place (L c) v - n) n found.0 w found.1 (typed.type ∙ sym found.2.type) (wide_as w typed)
        (subst (λ (j : ℕ). Stand s.places j (value_ints w)) (sym place_is) (frame_stand (size c) a.locals (w ∷ []) os s.places framed))

    put_on : (is : Code) → a.code ≡ cons (global_set x) is → g.mutable ≡ true → Put c v a s x is
    put_on is e mutable = record {
      value = w;
      others = others;
      parts = parts;
      few = first_long w others a.values parts;
      types = ap (λ (l : List Value). drop 1 (types_of l)) (sym parts);
      changes_so = ap (λ (o : Option GlobalType). option_map by_arrow (o >>= set_type)) here ∙ ap (λ b. option_map by_arrow (if b then Some (arrow (g.holds ∷ []) []) else None)) mutable;
      now = now;
      moves = moves is e;
      state = regained.state;
      crosses = acts_cross (global_set_acts x 0 n (top_place (L c) v - n)) s regained.state regained.ready regained.leads regained.spares;
      frame = frame_same (size c) a.locals os s.places regained.state.places regained.places (frame_pop (size c) a.locals w os s.places framed);
      calm = regained.calm c.bs h.calm;
      stored = regained.stored;
    }

module _ {c : Setting} {v : Visit} {a : Activation} {s : State} (h : Here c v a s) (x : ℕ) (is : Code) where
  pub global_got : a.code ≡ cons (global_get x) is → Got c a s x is
  global_got e =
      let r : Ruled c.m a (global_get x) = ruled h (global_get x) is e in
      got_on h x r.rule.0 (ap (λ (l : List GlobalType). slice_get l x) (sym r.globals) ∙ r.rule.1) is e

  pub global_put_on : a.code ≡ cons (global_set x) is → Put c v a s x is
  global_put_on e =
      let r : Ruled c.m a (global_set x) = ruled h (global_set x) is e in
      let here : slice_get (map global_type c.m.globals) x ≡ Some r.rule.0 = ap (λ (l : List GlobalType). slice_get l x) (sym r.globals) ∙ r.rule.1 in
      let y : First r.rule.0.holds r.below a.values = first_of_all r.rule.0.holds r.below a.values (are_taken h (global_set x) r (r.rule.0.holds ∷ []) r.rule.3.0) in
      put_on h x r.rule.0 here y.value y.is y.others y.parts is e r.rule.2
