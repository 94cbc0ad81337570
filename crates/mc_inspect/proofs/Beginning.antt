-- The activation of a function over its arguments, which stands at the function's first cut.
use Rattle.std.proofs.Common.{◌≡◌, ◌<◌, ◌≤◌, ℕ, ℤ, List, [], ◌∷◌, ◌++◌, length, take, drop, reverse, replicate, Some, pos, refl, sym, ap, ◌∙◌, arith}
use Rattle.std.specs.Prelude.{filter_map, option_map, slice_get}
use Rattle.std.specs.List.{Contains}
use Rattle.std.proofs.lemmas.List.{drop_at, reverse-append, reverse-reverse, take_at}
use Rattle.std.proofs.lemmas.Option.{slice_get_within}
use Rattle.mc_nbt.specs.declared.value.Value.{Value}
use Rattle.wm_ast.specs.declared.module.Func.{Func}
use Rattle.wm_ast.specs.declared.module.FuncType.{FuncType}
use Rattle.wm_ast.specs.declared.module.Module.{Module}
use Rattle.wm_ast.specs.Store.{Callee, callee, callee_of, zero_of}
use Rattle.wm_ast.specs.Types.{const_type, function_type, run_types}
use Rattle.wm_valid.specs.Arrows.{◌>>=◌}
use Rattle.wm_valid.proofs.OperandLaws.{bind_some}
use Rattle.wm_flat.specs.Flat.{Activation, opened}
use Rattle.wm_flat.specs.FlatTyping.{IsFunction, types_of}
use Rattle.wm_flat.specs.Program.{IsProgram}
use Rattle.wm_flat.proofs.CalleeLaws.{Entry, entry}
use Rattle.wm_place.specs.Kinds.{Body, body_of}
use Rattle.wm_place.specs.Visit.{Visit}
use Rattle.wm_place.proofs.LevelLemmas.{some_of}
use Rattle.wm_view.specs.declared.view.FrameView.{FrameView}
use Rattle.wm_view.specs.Seen.{constants, first_opcode, frames_round, going_frame, seen_running}
use Rattle.wm_view.specs.View.{frame_view, inspection}
use Rattle.cc_cut.specs.Cuts.{function_cuts}
use Rattle.cc_cut.specs.Law.{HasRules, widths}
use Rattle.cc_cut.proofs.ListLemmas.{contains, in_get}
use Rattle.cc_cut.proofs.RuleLemmas.{cuts_have_rules}
use Rattle.cc_move.specs.Calls.{Begun, gives_of}
use Rattle.cc_move.proofs.CallLemmas.{callees_come}
use Rattle.cc_move.proofs.LawLemmas.{moves_follow}
use Rattle.cc_body.proofs.Bounds.{functions_are_few}
use Rattle.cc_simulate.specs.Frame.{local_ints, stack_ints}
use Rattle.cc_simulate.proofs.Frames.{stack_length, types_append, widths_reverse}
use Rattle.cc_simulate.proofs.Opened.{gives_are, local_reverse, zeros_are}
use Rattle.cc_spots.specs.declared.spot.CutSpot.{CutSpot}
use Rattle.cc_spots.specs.Law.{Fits, IsTold, ShowsPlace}
use Rattle.cc_spots.specs.Spot.{CutAt, IsSpot, left_at}
use Rattle.cc_spots.proofs.CutLaws.{cuts_are_told}
use Rattle.cc_spots.proofs.StandingLaws.{standings_are_seen, standings_fit}
use Rattle.pk_callers.proofs.Leading.{frames_apart}
use Rattle.mc_inspect.specs.steps.Found.{spot_seen}
use Rattle.mc_inspect.specs.steps.Openings.{IsBegun, IsBegunNot, type_at}

-- ---- values

pub types_turned : (us : List Value) → types_of (reverse us) ≡ reverse (types_of us)
types_turned [] = refl
types_turned (u ∷ us) =
    ap types_of (reverse-append (u ∷ []) us) ∙ types_append (reverse us) (u ∷ [])
    ∙ ap (λ ts. ts ++ const_type u ∷ []) (types_turned us)
    ∙ sym (reverse-append (const_type u ∷ []) (types_of us))

-- operands stand as locals do, the lowest first
pub ints_turned : (us : List Value) → stack_ints (reverse us) ≡ local_ints us
ints_turned us = sym (local_reverse (reverse us)) ∙ ap local_ints (reverse-reverse us)

-- ---- the function of an index

pub function_at : (m : Module) (func : ℕ) (ty : FuncType) → type_at m func ≡ Some ty → (f : Func) × IsFunction m func f ty
function_at m func ty e =
    let named = bind_some (slice_get m.funcs func) (function_type m) ty e in
    (named.0, record { there = named.1; has_type = named.2 })

pub type_there : (m : Module) (func : ℕ) (f : Func) (ty : FuncType) → IsFunction m func f ty → type_at m func ≡ Some ty
type_there m func f ty is = ap (λ o. o >>= function_type m) is.there ∙ is.has_type

module _ (m : Module) (program : IsProgram m) (func : ℕ) (f : Func) (ty : FuncType) (is : IsFunction m func f ty) where
  pub func_few : func < 8192
  func_few =
      let here : func < length m.funcs = slice_get_within m.funcs func f is.there in
      let few : length m.funcs ≤ 8192 = functions_are_few m program in
      omega arith

  pub its_gives : gives_of m func ≡ reverse ty.results
  its_gives = gives_are m func f ty is

  -- its first cut
  pub rules : HasRules m func f
  rules = cuts_have_rules m program.valid func f is.there

  pub first_cut : Contains (function_cuts m func) rules.first.0
  first_cut = contains (function_cuts m func) rules.first.0 (in_get (function_cuts m func) 0 rules.first.0 rules.first.1)

  -- as its callers have it
  pub its_entry : Entry m func f ty
  its_entry = entry m func f ty program is

  abbrev pub its_callee : Callee
  its_callee = callee f ty its_entry.result

  pub is_there : callee_of m func ≡ Some its_callee
  is_there = its_entry.found

  pub zeros_there : local_ints (filter_map zero_of (run_types f.locals)) ≡ replicate (widths (run_types f.locals)) (pos 0)
  zeros_there = zeros_are moves_follow m program func f ty its_callee is is_there

  -- ---- arguments that there are

  module _ (n : ℕ) (same : n ≡ func) (c : Callee) (found : callee_of m n ≡ Some c) where
    pub callee_same : c ≡ its_callee
    callee_same = some_of c its_callee (sym found ∙ ap (callee_of m) same ∙ is_there)

    takes_are : c.takes ≡ reverse ty.params
    takes_are = ap (λ (k : Callee). k.takes) callee_same

    pub args_turned : (us : List Value) → types_of us ≡ c.takes → types_of (reverse us) ≡ ty.params
    args_turned us types = types_turned us ∙ ap reverse (types ∙ takes_are) ∙ reverse-reverse ty.params

    pub args_wide : (us : List Value) → types_of us ≡ c.takes → length (stack_ints us) ≡ widths ty.params
    args_wide us types = stack_length us ∙ ap widths (types ∙ takes_are) ∙ widths_reverse ty.params

  -- ---- at its first cut

  module _ (spot : CutSpot) (s : IsSpot m func 1 spot) where
    abbrev at : CutAt m func 1
    at = s.at

    its_body : body_of m f ty ≡ at.body
    its_body =
        some_of (body_of m f ty) at.body
        (sym (ap (λ o. o >>= λ g. option_map (body_of m g) (function_type m g)) is.there ∙ ap (option_map (body_of m f)) is.has_type) ∙ at.is_body)

    pub locals_are : spot.locals ≡ ty.params ++ run_types f.locals
    locals_are = ap (λ (y : CutSpot). y.locals) s.shown ∙ ap (λ (b : Body). b.scope.locals) (sym its_body)

    first_params : take (length ty.params) spot.locals ≡ ty.params
    first_params = ap (take (length ty.params)) locals_are ∙ take_at ty.params (run_types f.locals) (length ty.params) refl

    other_locals : drop (length ty.params) spot.locals ≡ run_types f.locals
    other_locals = ap (drop (length ty.params)) locals_are ∙ drop_at ty.params (run_types f.locals) (length ty.params) refl

    -- no arguments have these ints
    pub never_begun : (ints : List ℤ) → IsBegunNot spot (length ty.params) ints → (n : ℕ) → n ≡ func → (c : Callee) → callee_of m n ≡ Some c → (us : List Value) → types_of us ≡ c.takes
        → (rest : List ℤ) → ints ≡ stack_ints us ++ rest → ⊥
    never_begun ints none n same c found us types rest e =
        none (reverse us) rest (args_turned n same c found us types ∙ sym first_params) (e ∙ ap (λ zs. zs ++ rest) (sym (local_reverse us)))

    -- arguments that have them
    module _ (ints : List ℤ) (fv : FrameView) (b : IsBegun func spot (length ty.params) ints fv) where
      abbrev pub begun_args : List Value
      begun_args = reverse b.args

      types_are : types_of b.args ≡ ty.params
      types_are = b.are ∙ first_params

      pub begun_types : types_of begun_args ≡ reverse ty.params
      begun_types = types_turned b.args ∙ ap reverse types_are

      pub begun_wide : length (stack_ints begun_args) ≡ widths ty.params
      begun_wide = stack_length begun_args ∙ ap widths begun_types ∙ widths_reverse ty.params

      pub begun_ints : ints ≡ stack_ints begun_args ++ b.rest
      begun_ints = b.given ∙ ap (λ zs. zs ++ b.rest) (sym (ints_turned b.args))

      -- the activation over them
      abbrev pub who : Activation
      who = opened func its_callee begun_args

      comes : Begun m func f ty its_callee begun_args
      comes = callees_come m program.profile.no_floats func f ty its_callee begun_args is is_there begun_types

      fits : Fits m who comes.comes.visit at.body
      fits = standings_fit m who comes.comes.visit comes.comes.stands at.body at.is_body

      told : IsTold m func 1 at rules.first.0
      told = cuts_are_told m func 1 at rules.first.0 first_cut rules.first.3

      visit_is : comes.comes.visit ≡ at.piece.cut
      visit_is = told.visit comes.comes.visit fits.is_visit (comes.comes.path ∙ sym rules.first.2)

      seen : ShowsPlace who comes.comes.visit
      seen = standings_are_seen m who comes.comes.visit comes.comes.stands

      locals_shown : who.locals ≡ fv.locals
      locals_shown =
          ap (λ vs. vs ++ filter_map zero_of (run_types f.locals)) (reverse-reverse b.args)
          ∙ ap (λ ts. b.args ++ filter_map zero_of ts) (sym other_locals) ∙ sym b.locals

      constants_shown : constants who.code ≡ spot.constants
      constants_shown = seen.next_constants ∙ ap (λ (v : Visit). constants v.rest) visit_is ∙ sym (ap (λ (y : CutSpot). y.constants) s.shown)

      operands_shown : constants who.code ≡ fv.operands ++ spot.constants
      operands_shown = constants_shown ∙ ap (λ vs. vs ++ spot.constants) (sym b.operands_are)

      going : going_frame who ≡ frame_view fv.func fv.locals (fv.operands ++ spot.constants)
      going = λ i. frame_view (sym b.func_is i) (locals_shown i) (operands_shown i)

      pub begun_shown : (cs : List Activation) (fs : List FrameView) → fs ≡ frames_round cs [] → seen_running cs who ≡ spot_seen fs fv spot
      begun_shown cs fs shown =
          let frames = frames_apart cs (going_frame who ∷ []) ∙ ap (λ gs. gs ++ going_frame who ∷ []) (sym shown) ∙ ap (λ g. fs ++ g ∷ []) going in
          let next = seen.next ∙ ap (λ (v : Visit). first_opcode v.rest) visit_is ∙ sym (ap (λ (y : CutSpot). y.next) s.shown) in
          let left = seen.left ∙ ap left_at visit_is ∙ sym (ap (λ (y : CutSpot). y.left) s.shown) in
          λ i. inspection (frames i) (next i) (left i)
