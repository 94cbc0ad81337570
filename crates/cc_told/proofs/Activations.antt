-- The place where it stands, the locals and the operands tell an activation.
use Rattle.std.proofs.Common.{◌≡◌, ℕ, List, [], ◌∷◌, reverse, ℤ, refl, sym, ap, ap₂, subst, ◌∙◌}
use Rattle.std.specs.Prelude.{slice_get}
use Rattle.std.specs.List.{Contains}
use Rattle.std.proofs.lemmas.List.{reverse-reverse}
use Rattle.mc_nbt.specs.declared.value.Value.{Value}
use Rattle.wm_ast.specs.declared.module.FuncType.{FuncType}
use Rattle.wm_ast.specs.declared.module.Module.{Module}
use Rattle.wm_ast.specs.Code.{Code, Op}
use Rattle.wm_ast.specs.Step.{arity}
use Rattle.wm_ast.specs.Types.{function_type}
use Rattle.wm_valid.specs.Typing.{Scope}
use Rattle.wm_flat.specs.Flat.{Level, Activation}
use Rattle.wm_flat.specs.FlatTyping.{types_of}
use Rattle.wm_flat.specs.Operands.{under, operands}
use Rattle.wm_place.specs.Kinds.{Body, body_of, own_kinds, first_of}
use Rattle.wm_place.specs.Place.{Place, path_of, place_of}
use Rattle.wm_place.specs.Spot.{Spot, spot_at}
use Rattle.wm_place.specs.Spot as places
use Rattle.wm_place.specs.Visit.{Visit, function_visits}
use Rattle.wm_place.proofs.LevelLemmas.{some_of}
use Rattle.wm_place.proofs.PathLemmas.{told as path_told}
use Rattle.cc_cut.specs.declared.table.Cut.{Cut}
use Rattle.cc_cut.specs.Cuts.{function_cuts}
use Rattle.cc_move.specs.Standing.{AreLevels, StandsAt}
use Rattle.cc_move.proofs.StandLemmas.{standings_show, paths_tell}
use Rattle.cc_simulate.specs.Frame.{Frame}
use Rattle.cc_told.proofs.Cuts.{indices_tell_cuts}
use Rattle.cc_told.proofs.Values.{split_told, parts_told}

-- ---- blocks

abbrev make_level : List ℕ → Code → Op → Code → List Value → Level
make_level p b o r vs = record { block = record { place = p; before = b; op = o; rest = r }; values = vs }

level_same : (l k : Level) → l.block.place ≡ k.block.place → l.block.before ≡ k.block.before → l.block.op ≡ k.block.op
    → l.block.rest ≡ k.block.rest → l.values ≡ k.values → l ≡ k
level_same l k a b c d e =
    ap (λ x. make_level x l.block.before l.block.op l.block.rest l.values) a
    ∙ ap (λ x. make_level k.block.place x l.block.op l.block.rest l.values) b
    ∙ ap (λ x. make_level k.block.place k.block.before x l.block.rest l.values) c
    ∙ ap (λ x. make_level k.block.place k.block.before k.block.op x l.values) d
    ∙ ap (λ x. make_level k.block.place k.block.before k.block.op k.block.rest x) e

levels_same : (S : Scope) (ls ks : List Level) (bs : List places.Level) → AreLevels S ls bs → AreLevels S ks bs
    → under ls ≡ under ks → ls ≡ ks
levels_same S [] [] bs x y e = refl
levels_same S [] (k ∷ ks) [] x y e = absurd y
levels_same S [] (k ∷ ks) (b ∷ bs) x y e = absurd x
levels_same S (l ∷ ls) [] [] x y e = absurd x
levels_same S (l ∷ ls) [] (b ∷ bs) x y e = absurd y
levels_same S (l ∷ ls) (k ∷ ks) [] x y e = absurd x
levels_same S (l ∷ ls) (k ∷ ks) (b ∷ bs) x y e =
    let types : types_of l.values ≡ types_of k.values =
    some_of (types_of l.values) (types_of k.values) (sym x.0.kinds ∙ y.0.kinds) in
    let parts = split_told l.values k.values (under ls) (under ks) types e in
    ap₂ (λ m ms. m ∷ ms)
    (level_same l k (x.0.place ∙ sym y.0.place) (x.0.before ∙ sym y.0.before) (x.0.op ∙ sym y.0.op)
    (x.0.rest ∙ sym y.0.rest) parts.0)
    (levels_same S ls ks bs x.1 y.1 parts.1)

-- ---- activations

abbrev make : ℕ → ℕ → List ℕ → Code → Code → List Value → List Level → List Value → Activation
make f r p b c ls lvs vs = record {
  func = f;
  results = r;
  place = p;
  before = b;
  code = c;
  locals = ls;
  levels = lvs;
  values = vs;
}

pub activation_same : (a b : Activation) → a.func ≡ b.func → a.results ≡ b.results → a.place ≡ b.place
    → a.before ≡ b.before → a.code ≡ b.code → a.locals ≡ b.locals → a.levels ≡ b.levels → a.values ≡ b.values → a ≡ b
activation_same a b e1 e2 e3 e4 e5 e6 e7 e8 =
    ap (λ x. make x a.results a.place a.before a.code a.locals a.levels a.values) e1
    ∙ ap (λ x. make b.func x a.place a.before a.code a.locals a.levels a.values) e2
    ∙ ap (λ x. make b.func b.results x a.before a.code a.locals a.levels a.values) e3
    ∙ ap (λ x. make b.func b.results b.place x a.code a.locals a.levels a.values) e4
    ∙ ap (λ x. make b.func b.results b.place b.before x a.locals a.levels a.values) e5
    ∙ ap (λ x. make b.func b.results b.place b.before b.code x a.levels a.values) e6
    ∙ ap (λ x. make b.func b.results b.place b.before b.code b.locals x a.values) e7
    ∙ ap (λ x. make b.func b.results b.place b.before b.code b.locals b.levels x) e8

module _ (m : Module) (a b : Activation) (v w : Visit) (s : StandsAt m a v) (t : StandsAt m b w)
    (f : a.func ≡ b.func) (p : v.path ≡ w.path) where
  func_same : s.func ≡ t.func
  func_same = some_of s.func t.func (sym s.is_function.there ∙ ap (slice_get m.funcs) f ∙ t.is_function.there)

  type_same : s.type ≡ t.type
  type_same = some_of s.type t.type (sym s.is_function.has_type ∙ ap (function_type m) func_same ∙ t.is_function.has_type)

  body_same : body_of m s.func s.type ≡ body_of m t.func t.type
  body_same = ap₂ (body_of m) func_same type_same

  path_same : path_of s.place ≡ path_of t.place
  path_same =
      sym s.path ∙ sym (standings_show m a v s).path ∙ p ∙ (standings_show m b w t).path ∙ t.path

  place_same : s.place ≡ t.place
  place_same =
      some_of s.place t.place
      (sym (path_told (body_of m s.func s.type).sequence s.place s.spot s.there)
      ∙ ap₂ (λ (b : Body) (q : List ℕ). place_of b.sequence.code q) body_same path_same
      ∙ path_told (body_of m t.func t.type).sequence t.place t.spot t.there)

  spot_same : s.spot ≡ t.spot
  spot_same =
      some_of s.spot t.spot
      (sym s.there ∙ ap₂ (λ (b : Body) (q : Place). spot_at b.sequence q) body_same place_same ∙ t.there)

  local_types : types_of a.locals ≡ types_of b.locals
  local_types = s.locals ∙ ap (λ (b : Body). b.scope.locals) body_same ∙ sym t.locals

  own_types : types_of a.values ≡ types_of b.values
  own_types =
      some_of (types_of a.values) (types_of b.values)
      (sym s.kinds ∙ ap₂ (λ (b : Body) (x : Spot). own_kinds b.scope x) body_same spot_same ∙ t.kinds)

  levels_there : AreLevels (body_of m t.func t.type).scope a.levels t.spot.levels
  levels_there =
      subst (λ (x : Spot). AreLevels (body_of m t.func t.type).scope a.levels x.levels) spot_same
      (subst (λ (b : Body). AreLevels b.scope a.levels s.spot.levels) body_same s.levels)

  -- the same locals and operands are those of the same activation
  standing_same : a.locals ≡ b.locals → operands a ≡ operands b → a ≡ b
  standing_same l o =
      let parts = split_told a.values b.values (under a.levels) (under b.levels) own_types o in
      activation_same a b f
      (s.results ∙ ap (λ (t : FuncType). arity (first_of t.results)) type_same ∙ sym t.results)
      (s.path ∙ path_same ∙ sym t.path)
      (s.before ∙ ap (λ (x : Spot). x.before) spot_same ∙ sym t.before)
      (s.code ∙ ap (λ (x : Spot). x.code) spot_same ∙ sym t.code) l
      (levels_same (body_of m t.func t.type).scope a.levels b.levels t.spot.levels levels_there t.levels parts.1) parts.0

-- the types of the operands at a visit
operand_types : (m : Module) (a b : Activation) (v w : Visit) → StandsAt m a v → StandsAt m b w
    → v ≡ w → types_of (operands a) ≡ types_of (operands b)
operand_types m a b v w s t e =
    sym (reverse-reverse (types_of (operands a)))
    ∙ ap reverse (sym (standings_show m a v s).kinds ∙ ap (λ (x : Visit). x.kinds) e ∙ (standings_show m b w t).kinds)
    ∙ reverse-reverse (types_of (operands b))

-- ---- at a cut

-- the cut at which an activation stands
pub record IsAtCut (m : Module) (a : Activation) : Type 0 where
  pub cut : Cut
  pub is_cut : Contains (function_cuts m a.func) cut
  pub visit : Visit
  pub stands : StandsAt m a visit
  pub place : visit.path ≡ cut.place

module _ (m : Module) (a b : Activation) (x : IsAtCut m a) (y : IsAtCut m b) (func : a.func ≡ b.func) (index : x.cut.index ≡ y.cut.index) where
  cut : x.cut ≡ y.cut
  cut = indices_tell_cuts m b.func x.cut y.cut (subst (λ (k : ℕ). Contains (function_cuts m k) x.cut) func x.is_cut) y.is_cut index

  path : x.visit.path ≡ y.visit.path
  path = x.place ∙ ap (λ (k : Cut). k.place) cut ∙ sym y.place

  visit : x.visit ≡ y.visit
  visit =
      paths_tell m b.func x.visit y.visit
      (subst (λ (k : ℕ). Contains (function_visits m k) x.visit) func (standings_show m a x.visit x.stands).listed)
      (standings_show m b y.visit y.stands).listed path

  pub locals_alike : types_of a.locals ≡ types_of b.locals
  locals_alike = local_types m a b x.visit y.visit x.stands y.stands func path

  pub operands_alike : types_of (operands a) ≡ types_of (operands b)
  operands_alike = operand_types m a b x.visit y.visit x.stands y.stands visit

  pub activation_told : a.locals ≡ b.locals → operands a ≡ operands b → a ≡ b
  activation_told = standing_same m a b x.visit y.visit x.stands y.stands func path

  -- the same places hold the same locals and operands
  pub frame_told : (size room : ℕ) (zs : List ℤ) → Frame size a.locals (operands a) zs → Frame room b.locals (operands b) zs → a ≡ b
  frame_told size room zs f g =
      let held = parts_told a.locals b.locals (operands a) (operands b) f.junk g.junk locals_alike operands_alike (sym f.held ∙ g.held) in
      activation_told held.0 held.1
