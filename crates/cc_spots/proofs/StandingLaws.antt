-- At each place that is reached an activation stands for all values of its types, and shows what is seen of the place.
use Rattle.std.proofs.Common.{◌≡◌, ℕ, suc, List, [], ◌∷◌, ◌++◌, drop, reverse, Option, Some, option_map, refl, sym, ap, ap₂, ◌∙◌, subst, append_assoc}
use Rattle.std.specs.Prelude.{slice_get}
use Rattle.std.specs.List.{Contains}
use Rattle.std.proofs.lemmas.List.{map-append, reverse-reverse}
use Rattle.mc_nbt.specs.declared.value.Value.{Value}
use Rattle.wm_ast.specs.declared.module.Func.{Func}
use Rattle.wm_ast.specs.declared.module.FuncType.{FuncType}
use Rattle.wm_ast.specs.declared.module.Module.{Module}
use Rattle.wm_ast.specs.declared.module.ValType.{ValType}
use Rattle.wm_ast.specs.Code.{Op, Code}
use Rattle.wm_ast.specs.Step.{arity}
use Rattle.wm_ast.specs.Types.{const_type, function_type}
use Rattle.wm_ast.specs.View.{code_of}
use Rattle.wm_valid.specs.Typing.{Scope}
use Rattle.wm_valid.specs.Arrows.{◌>>=◌}
use Rattle.wm_valid.proofs.OperandLaws.{bind_some}
use Rattle.wm_flat.specs.Flat.{Level, Activation}
use Rattle.wm_flat.specs.FlatTyping.{types_of, IsFunction}
use Rattle.wm_flat.specs.Operands.{under, operands}
use Rattle.wm_place.specs.Place.{Step, Place, place, path_of}
use Rattle.wm_place.specs.Spot as places
use Rattle.wm_place.specs.Spot.{level, Sequence, body_sequence, position_of, sequence_at}
use Rattle.wm_place.specs.Kinds.{under as kinds_under, level_kinds, own_kinds, first_of, Body, body_of, function_body}
use Rattle.wm_place.specs.Visit.{Around, blocks_of, block_at, count_of, Visit, visit, visits, body_visits, function_visits}
use Rattle.wm_place.proofs.HeldLemmas.{Over, over_some}
use Rattle.wm_place.proofs.LevelLemmas.{some_of, map_some, last_step}
use Rattle.wm_place.proofs.SpotLemmas.{Found, found}
use Rattle.wm_view.specs.Seen.{constants, first_opcode, size, behind_constants, left_round as machine_round}
use Rattle.cc_cut.proofs.ListLemmas.{among}
use Rattle.cc_cut.proofs.VisitLemmas.{Visited, visited}
use Rattle.cc_move.specs.Standing.{level_path, AreLevels, StandsAt}
use Rattle.cc_move.specs.Law.{Shown}
use Rattle.cc_move.proofs.LevelLemmas.{made_level, body_level}
use Rattle.cc_move.proofs.StandLemmas.{types_append, scope_at, visit_blocks, is_shown}
use Rattle.cc_spots.specs.Spot.{left_in, left_round}
use Rattle.cc_spots.specs.Law.{Stood, Waited, ActivationsStand, StandingsFit, StandingsAreSeen}

-- ---- values by their types

no_values : (os : List Value) → types_of os ≡ [] → os ≡ []
no_values [] e = refl
no_values (o ∷ os) e = absurd cc

-- values of these types over values of those
pub record Parted (upper_types lower_types : List ValType) (os : List Value) : Type 0 where
  pub upper : List Value
  pub lower : List Value
  pub upper_are : types_of upper ≡ upper_types
  pub lower_are : types_of lower ≡ lower_types
  pub both : upper ++ lower ≡ os

first_type : (t u : ValType) (ts us : List ValType) → t ∷ ts ≡ u ∷ us → t ≡ u
first_type t u ts us e = cc

other_types : (t u : ValType) (ts us : List ValType) → t ∷ ts ≡ u ∷ us → ts ≡ us
other_types t u ts us e = cc

pub parted : (ts us : List ValType) (os : List Value) → types_of os ≡ ts ++ us → Parted ts us os
parted [] us os e = record { upper = []; lower = os; upper_are = refl; lower_are = e; both = refl }
parted (t ∷ ts) us [] e = absurd cc
parted (t ∷ ts) us (o ∷ os) e =
    let p : Parted ts us os = parted ts us os (other_types (const_type o) t (types_of os) (ts ++ us) e) in
    record {
      upper = o ∷ p.upper;
      lower = p.lower;
      upper_are = ap₂ (λ (x : ValType) (l : List ValType). x ∷ l) (first_type (const_type o) t (types_of os) (ts ++ us) e) p.upper_are;
      lower_are = p.lower_are;
      both = ap (λ (l : List Value). o ∷ l) p.both;
    }

-- what stands behind the same types
same_behind : (xs ys zs : List ValType) → xs ++ ys ≡ xs ++ zs → ys ≡ zs
same_behind [] ys zs e = e
same_behind (x ∷ xs) ys zs e = same_behind xs ys zs (other_types x x (xs ++ ys) (xs ++ zs) e)

-- others over these
types_over : (us vs : List Value) (ts rest own : List ValType) → types_of us ≡ ts → types_of vs ≡ rest → own ≡ ts ++ rest → Some own ≡ Some (types_of (us ++ vs))
types_over us vs ts rest own e k h =
    ap Some (h ∙ (ap₂ (λ (xs ys : List ValType). xs ++ ys) (sym e) (sym k) ∙ sym (types_append us vs)))

-- those under them
types_under : (all : List Value) (ts rest below own kinds : List ValType) → ts ++ types_of all ≡ kinds → kinds ≡ own ++ below → own ≡ ts ++ rest → types_of all ≡ rest ++ below
types_under all ts rest below own kinds e k h =
    same_behind ts (types_of all) (rest ++ below) (e ∙ (k ∙ (ap (λ (xs : List ValType). xs ++ below) h ∙ append_assoc ts rest below)))

-- ---- blocks over values

module _ (S : Scope) where
  -- blocks of the machine for these round a place, over these operands
  pub record Built (bs : List places.Level) (os : List Value) : Type 0 where
    pub levels : List Level
    pub are : AreLevels S levels bs
    pub over : under levels ≡ os

  pub built : (bs : List places.Level) (ts : List ValType) (os : List Value) → kinds_under S bs ≡ Some ts → types_of os ≡ ts → Built bs os
  built [] ts os e t = record { levels = []; are = tt; over = sym (no_values os (t ∙ sym (some_of [] ts e))) }
  built (b ∷ bs) ts os e t =
      let w : Over (level_kinds S b) (kinds_under S bs) ts = over_some (level_kinds S b) (kinds_under S bs) ts e in
      let p : Parted w.own_kinds w.below_kinds os = parted w.own_kinds w.below_kinds os (t ∙ w.both) in
      let r : Built bs p.lower = built bs w.below_kinds p.lower w.below_is p.lower_are in
      record {
        levels = made_level (level_path b.place) b.before b.op b.rest p.upper ∷ r.levels;
        are = (record { place = refl; before = refl; op = refl; rest = refl; kinds = w.own_is ∙ ap Some (sym p.upper_are) }, r.are);
        over = ap (λ (l : List Value). p.upper ++ l) r.over ∙ p.both;
      }

-- ---- an activation of a function

-- at a place that is reached, in blocks of the machine
module _ (m : Module) (n : ℕ) (f : Func) (t : FuncType) (j : IsFunction m n f t) where
  abbrev pub scope_in : Scope
  scope_in = (body_of m f t).scope

  abbrev pub body_in : Sequence
  body_in = (body_of m f t).sequence

  module _ (v : Visit) (w : Visited scope_in body_in v) where
    abbrev pub seated : List Level → List Value → List Value → Activation
    seated levels locals vs = record {
      func = n;
      results = arity (first_of t.results);
      place = path_of w.place;
      before = w.spot.before;
      code = w.spot.code;
      locals = locals;
      levels = levels;
      values = vs;
    }

    -- it stands there where its values have the types of the place
    pub stands : (levels : List Level) (locals vs : List Value) → AreLevels scope_in levels w.spot.levels → types_of locals ≡ scope_in.locals → own_kinds scope_in w.spot ≡ Some (types_of vs)
        → StandsAt m (seated levels locals vs) v
    stands levels locals vs are local_types kinds = record {
      func = f;
      type = t;
      is_function = j;
      place = w.place;
      spot = w.spot;
      there = w.there;
      visited =
          ap (λ (o : Option (List ValType)). option_map (λ ts. visit (path_of w.place) (reverse ts) (blocks_of scope_in w.spot.levels) w.spot.before w.spot.code) o) w.reached
          ∙ ap Some w.is;
      path = refl;
      before = refl;
      code = refl;
      levels = are;
      kinds = kinds;
      locals = local_types;
      results = refl;
    }

    -- the operands of the place
    pub reached_kinds : reverse v.kinds ≡ w.kinds
    reached_kinds = ap (λ (y : Visit). reverse y.kinds) (sym w.is) ∙ reverse-reverse w.kinds

    pub own_over : Over (own_kinds scope_in w.spot) (kinds_under scope_in w.spot.levels) w.kinds
    own_over = over_some (own_kinds scope_in w.spot) (kinds_under scope_in w.spot.levels) w.kinds w.reached

    stood : (locals all : List Value) → types_of locals ≡ scope_in.locals → types_of all ≡ reverse v.kinds → Stood m n v locals all
    stood locals all local_types types =
        let o : Over (own_kinds scope_in w.spot) (kinds_under scope_in w.spot.levels) w.kinds = own_over in
        let p : Parted o.own_kinds o.below_kinds all = parted o.own_kinds o.below_kinds all (types ∙ (reached_kinds ∙ o.both)) in
        let r : Built scope_in w.spot.levels p.lower = built scope_in w.spot.levels o.below_kinds p.lower o.below_is p.lower_are in
        record {
          activation = seated r.levels locals p.upper;
          stands = stands r.levels locals p.upper r.are local_types (o.own_is ∙ ap Some (sym p.upper_are));
          func = refl {a = n};
          locals_are = refl {a = locals};
          operands_are = ap (λ (l : List Value). p.upper ++ l) r.over ∙ p.both;
        }

    -- a caller, where these results and others are the place's own operands
    pub waited : (u : FuncType) (others : List ValType) → own_over.own_kinds ≡ reverse u.results ++ others → (locals all : List Value) → types_of locals ≡ scope_in.locals → reverse u.results ++ types_of all ≡ reverse v.kinds
        → Waited m n v u locals all
    waited u others own locals all local_types types =
        let o : Over (own_kinds scope_in w.spot) (kinds_under scope_in w.spot.levels) w.kinds = own_over in
        let under_results : types_of all ≡ others ++ o.below_kinds =
        types_under all (reverse u.results) others o.below_kinds o.own_kinds (reverse v.kinds) types (reached_kinds ∙ o.both) own in
        let p : Parted others o.below_kinds all = parted others o.below_kinds all under_results in
        let r : Built scope_in w.spot.levels p.lower = built scope_in w.spot.levels o.below_kinds p.lower o.below_is p.lower_are in
        record {
          caller = seated r.levels locals p.upper;
          stands = λ us given.
              stands r.levels locals (us ++ p.upper) r.are local_types
              (o.own_is ∙ types_over us p.upper (reverse u.results) others o.own_kinds given p.upper_are own);
          func = refl {a = n};
          locals_are = refl {a = locals};
          operands_are = ap (λ (l : List Value). p.upper ++ l) r.over ∙ p.both;
        }

-- the function of a body
pub record Owner (m : Module) (n : ℕ) (b : Body) : Type 0 where
  pub function : Func
  pub type : FuncType
  pub is_function : IsFunction m n function type
  pub is : body_of m function type ≡ b

pub owner : (m : Module) (n : ℕ) (b : Body) → function_body m n ≡ Some b → Owner m n b
owner m n b e =
    let w = bind_some (slice_get m.funcs n) (λ f. option_map (body_of m f) (function_type m f)) b e in
    let x = map_some (body_of m w.0) (function_type m w.0) b w.2 in
    record { function = w.0; type = x.0; is_function = record { there = w.1; has_type = x.1 }; is = x.2 }

-- what is visited there
pub visited_in : (m : Module) (n : ℕ) (b : Body) (e : function_body m n ≡ Some b) (o : Owner m n b) (v : Visit) → Contains (function_visits m n) v
    → Visited (body_of m o.function o.type).scope (body_of m o.function o.type).sequence v
visited_in m n b e o v h =
    let B : Body = body_of m o.function o.type in
    visited B.scope B.sequence v
    (among (visits B.scope B.sequence) v (subst (λ (x : Option Body). Contains (body_visits x) v) (e ∙ ap Some (sym o.is)) h))

pub activations_stand : ActivationsStand
activations_stand m n b e v h locals all local_types types =
    let o : Owner m n b = owner m n b e in
    stood m n o.function o.type o.is_function v (visited_in m n b e o v h) locals all
    (local_types ∙ ap (λ (x : Body). x.scope.locals) (sym o.is)) types

-- ---- for no other values

pub standings_fit : StandingsFit
standings_fit m a v s b e =
    let shown : Shown m a v = is_shown m a v s in
    let body : function_body m a.func ≡ Some (body_of m s.func s.type) =
    ap (λ (o : Option Func). o >>= λ f. option_map (body_of m f) (function_type m f)) s.is_function.there
    ∙ ap (λ (o : Option FuncType). option_map (body_of m s.func) o) s.is_function.has_type in
    let same : body_of m s.func s.type ≡ b = some_of (body_of m s.func s.type) b (sym body ∙ e) in
    record {
      is_visit = shown.listed;
      locals = s.locals ∙ ap (λ (x : Body). x.scope.locals) same;
      operands = sym (ap (λ (l : List ValType). reverse l) shown.kinds ∙ reverse-reverse (types_of (operands a)));
    }

-- ---- what is left

module _ (S : Scope) (gives : Option ValType) (c : Code) where
  -- what is left in the body, and in the blocks round a place
  record Rounds (lvs : List Level) (bs : List places.Level) : Type 0 where
    body : ℕ
    is : machine_round lvs ≡ body ∷ left_round (blocks_of S bs)

  of_body : (lvs : List Level) → AreLevels S lvs (body_level gives c ∷ []) → Rounds lvs (body_level gives c ∷ [])
  of_body [] h = absurd h
  of_body (lv ∷ []) h = record { body = suc (size lv.block.rest); is = refl }
  of_body (lv ∷ (lw ∷ lvs)) h = absurd h.1

  one_more : (lvs : List Level) (p : Place) (before : Code) (op : Op) (rest : Code) (outs : List places.Level) → AreLevels S lvs (level (Some p) before op rest ∷ outs)
      → ((ls : List Level) → AreLevels S ls outs → Rounds ls outs) → Rounds lvs (level (Some p) before op rest ∷ outs)
  one_more [] p before op rest outs h deeper = absurd h
  one_more (lv ∷ lvs) p before op rest outs (one, others) deeper =
      let r : Rounds lvs outs = deeper lvs others in
      let added : List Around = block_at (Some p) op rest (count_of (kinds_under S (level (Some p) before op rest ∷ outs))) in
      record {
        body = r.body;
        is = ap₂ (λ (l : List ℕ) (d : Code). l ++ suc (size d) ∷ []) r.is one.rest
            ∙ ap (λ (l : List ℕ). r.body ∷ l) (sym (map-append left_in (blocks_of S outs) added));
      }

  rounds : (steps : List Step) (q : Sequence) → sequence_at (body_sequence gives c) steps ≡ Some q → (lvs : List Level) → AreLevels S lvs q.levels → Rounds lvs q.levels
  rounds [] q e =
      subst (λ (y : Sequence). (lvs : List Level) → AreLevels S lvs y.levels → Rounds lvs y.levels) (some_of (body_sequence gives c) q e) of_body
  rounds (s ∷ steps) q e =
      let w = last_step (body_sequence gives c) s steps q e in
      let outer : (ls : List Level) → AreLevels S ls w.outer.levels → Rounds ls w.outer.levels =
      subst (λ (y : List places.Level). (ls : List Level) → AreLevels S ls y → Rounds ls y) w.sequence.part.levels
      (rounds steps w.sequence.sequence w.sequence.there) in
      subst (λ (y : List places.Level). (lvs : List Level) → AreLevels S lvs y → Rounds lvs y) (sym w.entered.levels)
      (λ lvs h. one_more lvs (place steps (position_of s)) w.outer.before w.entered.op w.entered.rest w.outer.levels h outer)

pub standings_are_seen : StandingsAreSeen
standings_are_seen m a v s =
    let shown : Shown m a v = is_shown m a v s in
    let code : a.code ≡ v.rest = sym shown.rest in
    let S : Scope = scope_at m a v s in
    let x : Found (body_of m s.func s.type).sequence s.place s.spot = found (body_of m s.func s.type).sequence s.place s.spot s.there in
    let levels : AreLevels S a.levels x.sequence.levels = subst (λ (y : List places.Level). AreLevels S a.levels y) (sym x.part.levels) s.levels in
    let r : Rounds S (first_of s.type.results) (code_of s.func.body) a.levels x.sequence.levels =
    rounds S (first_of s.type.results) (code_of s.func.body) s.place.steps x.sequence x.there a.levels levels in
    let blocks : blocks_of S x.sequence.levels ≡ v.blocks = ap (blocks_of S) x.part.levels ∙ visit_blocks m a v s in
    record {
      next_constants = ap constants code;
      next = ap first_opcode code;
      left = ap (λ (l : List ℕ). drop 1 (l ++ behind_constants a.code ∷ [])) r.is
          ∙ ap₂ (λ (l : List Around) (d : Code). left_round l ++ behind_constants d ∷ []) blocks code;
    }
