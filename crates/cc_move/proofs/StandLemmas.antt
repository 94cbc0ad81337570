-- What a standing shows, and how an activation comes to stand at a place.
use Rattle.std.proofs.Common.{◌≡◌, ℕ, zero, suc, List, [], ◌∷◌, ◌++◌, take, drop, reverse, Option, Some, None, option_map, refl, sym, ap, ◌∙◌, subst}
use Rattle.std.specs.List.{Contains}
use Rattle.std.proofs.lemmas.List.{map-append}
use Rattle.mc_nbt.specs.declared.value.Value.{Value}
use Rattle.wm_ast.specs.declared.module.ValType.{ValType}
use Rattle.wm_ast.specs.declared.module.Func.{Func}
use Rattle.wm_ast.specs.declared.module.FuncType.{FuncType}
use Rattle.wm_ast.specs.declared.module.Module.{Module}
use Rattle.wm_ast.specs.Code.{Op, Code, nil, cons}
use Rattle.wm_ast.specs.Step.{arity}
use Rattle.wm_ast.specs.Types.{const_type, function_type}
use Rattle.wm_valid.specs.Typing.{Scope}
use Rattle.wm_valid.specs.Arrows.{◌>>=◌}
use Rattle.wm_flat.specs.Flat.{Level, Activation, with_op, next as machine_next}
use Rattle.wm_flat.specs.FlatTyping.{types_of, IsFunction}
use Rattle.wm_flat.specs.Operands.{under, operands}
use Rattle.wm_place.specs.Place.{Place, next, lead, path_of}
use Rattle.wm_place.specs.Spot as places
use Rattle.wm_place.specs.Spot.{Sequence, Spot, spot, followed_by, spot_at}
use Rattle.wm_place.specs.Kinds.{under as kinds_under, level_kinds, own_kinds, spot_kinds, first_of, Body, body_of, function_body}
use Rattle.wm_place.specs.Visit.{blocks_of, Visit, visit, body_visits}
use Rattle.wm_place.proofs.HeldLemmas.{over_is}
use Rattle.wm_place.proofs.LevelLemmas.{some_of}
use Rattle.wm_place.proofs.OrderLemmas.{path_leads_on}
use Rattle.cc_cut.specs.Way.{Way, path_behind}
use Rattle.cc_cut.proofs.ListLemmas.{among}
use Rattle.cc_cut.proofs.VisitLemmas.{visit_at}
use Rattle.cc_move.specs.Standing.{AreLevels, StandsAt, Comes}
use Rattle.cc_move.specs.Law.{Shown, StandingsShow, PathsTellVisits}
use Rattle.cc_move.proofs.VisitLemmas.{listed, same_visit}

-- ---- the types of values

pub types_append : (us vs : List Value) → types_of (us ++ vs) ≡ types_of us ++ types_of vs
types_append us vs = map-append const_type us vs

pub types_take : (n : ℕ) (vs : List Value) → types_of (take n vs) ≡ take n (types_of vs)
types_take zero vs = refl
types_take (suc n) [] = refl
types_take (suc n) (v ∷ vs) = ap (λ (l : List ValType). const_type v ∷ l) (types_take n vs)

pub types_drop : (n : ℕ) (vs : List Value) → types_of (drop n vs) ≡ drop n (types_of vs)
types_drop zero vs = refl
types_drop (suc n) [] = refl
types_drop (suc n) (v ∷ vs) = types_drop n vs

-- ---- paths

-- the place behind one
pub next_path : (p : Place) → path_of (next p) ≡ path_behind (path_of p)
next_path p =
    let l = path_leads_on p in
    l.behind ∙ (sym (path_next (lead p.steps []) p.position) ∙ ap path_behind (sym l.here))
  where
    path_next : (lead : List ℕ) (n : ℕ) → path_behind (lead ++ n ∷ []) ≡ lead ++ suc n ∷ []
    path_next [] n = refl
    path_next (x ∷ []) n = refl
    path_next (x ∷ (y ∷ lead)) n = ap (λ (l : List ℕ). x ∷ l) (path_next (y ∷ lead) n)

-- ---- the machine's words for places

pub next_is : (path : List ℕ) → machine_next path ≡ path_behind path
next_is [] = refl
next_is (n ∷ []) = refl
next_is (n ∷ (k ∷ path)) = ap (λ (l : List ℕ). n ∷ l) (next_is (k ∷ path))

pub one_more : (before : Code) (i : Op) → with_op before i ≡ followed_by before i
one_more nil i = refl
one_more (cons j js) i = ap (λ (c : Code). cons j c) (one_more js i)

-- ---- levels

-- the operands under blocks have the kinds that stand there
pub under_are : (S : Scope) (lvs : List Level) (bs : List places.Level) → AreLevels S lvs bs → kinds_under S bs ≡ Some (types_of (under lvs))
under_are S [] [] h = refl
under_are S [] (b ∷ bs) h = absurd h
under_are S (lv ∷ lvs) [] h = absurd h
under_are S (lv ∷ lvs) (b ∷ bs) (one, others) =
    over_is (level_kinds S b) (kinds_under S bs) (types_of lv.values) (types_of (under lvs)) one.kinds (under_are S lvs bs others)
    ∙ ap (λ (l : List ValType). Some l) (sym (types_append lv.values (under lvs)))

-- ---- a standing

module _ (m : Module) (a : Activation) (v : Visit) (s : StandsAt m a v) where
  abbrev pub scope_at : Scope
  scope_at = (body_of m s.func s.type).scope

  abbrev pub body_at : Sequence
  body_at = (body_of m s.func s.type).sequence

  -- the kinds of all operands
  pub kinds_are : spot_kinds scope_at s.spot ≡ Some (types_of (operands a))
  kinds_are =
      over_is (own_kinds scope_at s.spot) (kinds_under scope_at s.spot.levels) (types_of a.values) (types_of (under a.levels)) s.kinds (under_are scope_at a.levels s.spot.levels s.levels)
      ∙ ap (λ (l : List ValType). Some l) (sym (types_append a.values (under a.levels)))

  -- the visit of the place
  pub visit_is : visit_at scope_at s.place s.spot (types_of (operands a)) ≡ v
  visit_is =
      some_of (visit_at scope_at s.place s.spot (types_of (operands a))) v
      (sym (ap (option_map (λ ts. visit (path_of s.place) (reverse ts) (blocks_of scope_at s.spot.levels) s.spot.before s.spot.code)) kinds_are) ∙ s.visited)

  pub visit_path : path_of s.place ≡ v.path
  visit_path = ap (λ (w : Visit). w.path) visit_is

  pub visit_blocks : blocks_of scope_at s.spot.levels ≡ v.blocks
  visit_blocks = ap (λ (w : Visit). w.blocks) visit_is

  -- what stands at the place, where the code is known
  pub spot_is : (c : Code) → a.code ≡ c → spot_at body_at s.place ≡ Some (spot s.spot.levels s.spot.before c)
  spot_is c e = s.there ∙ ap (λ (d : Code). Some (spot s.spot.levels s.spot.before d)) (sym s.code ∙ e)

  body_is : function_body m a.func ≡ Some (body_of m s.func s.type)
  body_is =
      ap (λ (o : Option Func). o >>= λ f. option_map (body_of m f) (function_type m f)) s.is_function.there
      ∙ ap (λ (o : Option FuncType). option_map (body_of m s.func) o) s.is_function.has_type

  is_listed : Contains (body_visits (function_body m a.func)) v
  is_listed =
      subst (λ (o : Option Body). Contains (body_visits o) v) (sym body_is) (listed scope_at body_at s.place s.spot v s.there s.visited)

  pub is_shown : Shown m a v
  is_shown = record {
    path = sym visit_path ∙ sym s.path;
    rest = ap (λ (w : Visit). w.rest) (sym visit_is) ∙ sym s.code;
    kinds = ap (λ (w : Visit). w.kinds) (sym visit_is);
    listed = is_listed;
  }

pub standings_show : StandingsShow
standings_show m a v s = is_shown m a v s

-- ---- the path of a visit tells it

told_by_path : (o : Option Body) (v w : Visit) → Contains (body_visits o) v → Contains (body_visits o) w → v.path ≡ w.path → v ≡ w
told_by_path None v w h g e = absurd (among [] v h)
told_by_path (Some b) v w h g e = same_visit b.scope b.sequence v w h g e

pub paths_tell : PathsTellVisits
paths_tell m n v w h g e = told_by_path (function_body m n) v w h g e

-- ---- coming to a place

module _ (m : Module) (f : Func) (t : FuncType) where
  -- an activation that stands at this place of the function
  pub record Placed (d : Activation) (p : Place) (x : Spot) : Type 0 where
    pub is_function : IsFunction m d.func f t
    pub there : spot_at (body_of m f t).sequence p ≡ Some x
    pub path : d.place ≡ path_of p
    pub before : d.before ≡ x.before
    pub code : d.code ≡ x.code
    pub levels : AreLevels (body_of m f t).scope d.levels x.levels
    pub kinds : own_kinds (body_of m f t).scope x ≡ Some (types_of d.values)
    pub locals : types_of d.locals ≡ (body_of m f t).scope.locals
    pub results : d.results ≡ arity (first_of t.results)

  -- the kinds of all its operands
  all_kinds : (d : Activation) (p : Place) (x : Spot) → Placed d p x → spot_kinds (body_of m f t).scope x ≡ Some (types_of (operands d))
  all_kinds d p x h =
      over_is (own_kinds (body_of m f t).scope x) (kinds_under (body_of m f t).scope x.levels) (types_of d.values) (types_of (under d.levels)) h.kinds
      (under_are (body_of m f t).scope d.levels x.levels h.levels)
      ∙ ap (λ (l : List ValType). Some l) (sym (types_append d.values (under d.levels)))

  pub stands : (d : Activation) (p : Place) (x : Spot) → Placed d p x → StandsAt m d (visit_at (body_of m f t).scope p x (types_of (operands d)))
  stands d p x h = record {
    func = f;
    type = t;
    is_function = h.is_function;
    place = p;
    spot = x;
    there = h.there;
    visited = ap (option_map (λ ts. visit (path_of p) (reverse ts) (blocks_of (body_of m f t).scope x.levels) x.before x.code)) (all_kinds d p x h);
    path = h.path;
    before = h.before;
    code = h.code;
    levels = h.levels;
    kinds = h.kinds;
    locals = h.locals;
    results = h.results;
  }

  pub comes : (d : Activation) (p : Place) (x : Spot) (w : Way) → Placed d p x → path_of p ≡ w.to → types_of (operands d) ≡ w.kinds → Comes m d w
  comes d p x w h to kinds = record {
    visit = visit_at (body_of m f t).scope p x (types_of (operands d));
    stands = stands d p x h;
    path = to;
    kinds = ap (λ (l : List ValType). reverse l) kinds;
  }
