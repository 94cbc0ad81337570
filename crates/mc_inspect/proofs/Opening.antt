-- The piece is next that makes the frame of a function: whether the state stands for its activation.
use Rattle.std.proofs.Common.{◌≡◌, ◌<◌, ◌+◌, ◌*◌, ℕ, ℤ, List, ◌∷◌, true, false, Option, Some, None, refl, sym, ap, ap₂, subst, ◌∙◌, length, arith}
use Rattle.std.specs.Prelude.{IfOk, MatchOption, Result, Ok, Err}
use Rattle.std.specs.List.{Contains}
use Rattle.mc_nbt.specs.declared.memory.Memory.{Memory}
use Rattle.wm_ast.specs.declared.module.Func.{Func}
use Rattle.wm_ast.specs.declared.module.FuncType.{FuncType}
use Rattle.wm_ast.specs.declared.module.Module.{Module}
use Rattle.wm_ast.specs.Store.{Callee, callee_of}
use Rattle.wm_valid.specs.Height.{Low}
use Rattle.wm_flat.specs.Flat.{Activation}
use Rattle.wm_flat.specs.FlatTyping.{IsFunction}
use Rattle.wm_flat.specs.Program.{IsProgram}
use Rattle.wm_view.specs.declared.view.FrameView.{FrameView}
use Rattle.wm_view.specs.declared.view.Inspection.{Inspection}
use Rattle.cc_line.specs.declared.leaf.PieceId.TheVariants as ids
use Rattle.cc_line.specs.Key.{id_tree}
use Rattle.cc_line.specs.State.{State}
use Rattle.cc_call.specs.Frames.{first_opening, opening_piece}
use Rattle.cc_cut.specs.declared.table.Cut.{Cut}
use Rattle.cc_cut.specs.Cuts.{function_cuts}
use Rattle.cc_cut.specs.Law.{widths}
use Rattle.cc_move.proofs.CallLemmas.{called}
use Rattle.cc_pieces.specs.Fetching.{are_many, fetch_piece, first_fetch, most_fetches}
use Rattle.cc_pieces.specs.Placing.{first_placer}
use Rattle.cc_pieces.specs.Restoring.{first_restore}
use Rattle.cc_simulate.specs.Callers.{Waiting}
use Rattle.cc_simulate.specs.Stands.{Making, Opening, Standing, making, opening}
use Rattle.cc_spots.specs.declared.spot.CutSpot.{CutSpot}
use Rattle.cc_spots.specs.Spot.{IsSpot}
use Rattle.cc_told.specs.Cases.{AtOpening, Names, few_passed, many_passed}
use Rattle.cc_told.proofs.Cases.{openings_are_named}
use Rattle.cc_told.proofs.Cuts.{func_low, index_low}
use Rattle.mc_inspect.specs.declared.reading.Reading.{Reading}
use Rattle.mc_inspect.specs.steps.Found.{IsUnwaited, ShowsFrame, Tells, spot_seen}
use Rattle.mc_inspect.specs.steps.Openings.{IsBegun, IsBegunNot, IsPassed, IsPassedFor, IsPassedNot, type_at}
use Rattle.mc_inspect.specs.steps.Read.{IsReading}
use Rattle.mc_inspect.proofs.Arguments.{has_scores, never_passed, passed_given, passing_found, passing_many}
use Rattle.mc_inspect.proofs.AtCuts.{calm_of}
use Rattle.mc_inspect.proofs.Beginning.{args_wide, begun_args, begun_ints, begun_shown, begun_types, begun_wide, first_cut, func_few, function_at, is_there, its_callee, its_gives, never_begun, rules, type_there, who}
use Rattle.mc_inspect.proofs.Following.{body_follows, follows_body}

-- ---- no function, or no cut of it

module _ (m : Module) (x : Reading) (func : ℕ) (named_low : first_opening + func < first_placer) where
  -- a function that is called is there
  called_at : IsProgram m → Low m → (p : State) → Names (opening_piece func) p → (cs : List Activation) (a : Activation) → Standing m cs a p
      → (f : Func) × (ty : FuncType) × IsFunction m func f ty
  called_at program low p named cs a standing = go (openings_are_named m program low cs a p standing func named_low named)
    where
      of_callee : (n : ℕ) (k : Callee) → n ≡ func → callee_of m n ≡ Some k → (f : Func) × (ty : FuncType) × IsFunction m func f ty
      of_callee n k same found =
          let w = called m n k found in
          (w.func, w.type, subst (λ (j : ℕ). IsFunction m j w.func w.type) same w.is_function)

      go : AtOpening m cs a p func → (f : Func) × (ty : FuncType) × IsFunction m func f ty
      go (few_passed h e) = of_callee a.func h.callee e h.is_callee
      go (many_passed c ds h g e) = of_callee a.func h.passing.callee e h.passing.is_callee

  pub no_type_opens : type_at m func ≡ None → Tells m x (opening_piece func) None
  no_type_opens none program low p told read runs named cs a standing =
      let w = called_at program low p named cs a standing in
      let never : None ≡ Some w.1 = sym none ∙ type_there m func w.0 w.1 w.2 in
      cc

  pub no_cut_opens : ((c : Cut) → Contains (function_cuts m func) c → c.index ≡ 1 → ⊥) → Tells m x (opening_piece func) None
  no_cut_opens none program low p told read runs named cs a standing =
      let w = called_at program low p named cs a standing in
      let r = rules m program func w.0 w.1 w.2 in
      none r.first.0 (first_cut m program func w.0 w.1 w.2) r.first.3

-- the call as it is seen, where these are known
pub tells_known : (m : Module) (x : Reading) (func : ℕ) (spot : CutSpot) (ty : FuncType) (P : Type 0) → IsSpot m func 1 spot → type_at m func ≡ Some ty → P
    → (r : Result (Option Inspection) Memory) → IfOk r (λ o. IsSpot m func 1 spot → type_at m func ≡ Some ty → P → Tells m x (opening_piece func) o)
    → IfOk r (Tells m x (opening_piece func))
tells_known m x func spot ty P s type known (Err e) h = tt
tells_known m x func spot ty P s type known (Ok o) h = h s type known

module _ (m : Module) (x : Reading) (func : ℕ) (spot : CutSpot) (ty : FuncType) where
  abbrev IsFew : Type 0
  IsFew = are_many (widths ty.params) ≡ false

  abbrev IsMany : Type 0
  IsMany = are_many (widths ty.params) ≡ true

  module _ (type : type_at m func ≡ Some ty) where
    abbrev own : (f : Func) × IsFunction m func f ty
    own = function_at m func ty type

    named_few : IsProgram m → first_opening + func < first_placer
    named_few program = let few : func < 8192 = func_few m program func own.0 ty own.1 in omega arith

    -- ---- few arguments

    few_none : IsFew
        → ((program : IsProgram m) (p : State) → IsReading x p → (f : Func) → IsFunction m func f ty → (cs : List Activation) (a : Activation) → Opening m cs a p → a.func ≡ func → ⊥)
        → Tells m x (opening_piece func) None
    few_none few none program low p told read runs named cs a standing = go (openings_are_named m program low cs a p standing func (named_few program) named)
      where
        go : AtOpening m cs a p func → ⊥
        go (few_passed h e) = none program p read own.0 own.1 cs a h e
        go (many_passed c ds h g e) =
            let never : false ≡ true = sym few ∙ passing_many m program x p read func own.0 ty own.1 ds c a h.passing e in
            cc

    few_some : IsSpot m func 1 spot → IsFew → (fv : FrameView) → IsBegun func spot (length ty.params) x.places.items fv → (v : Inspection) → ShowsFrame m x fv spot v
        → Tells m x (opening_piece func) (Some v)
    few_some s few fv b v shows program low p told read runs named =
        let w = shows p read in
        let q = w.below in
        record {
          callers = q.callers;
          activation = who m program func own.0 ty own.1 spot s x.places.items fv b;
          standing = opening (record {
            callee = its_callee m program func own.0 ty own.1;
            is_callee = is_there m program func own.0 ty own.1;
            args = begun_args m program func own.0 ty own.1 spot s x.places.items fv b;
            types = begun_types m program func own.0 ty own.1 spot s x.places.items fv b;
            is_opened = refl;
            named = named;
            junk = b.rest;
            places = read.places ∙ begun_ints m program func own.0 ty own.1 spot s x.places.items fv b;
            few = ap are_many (begun_wide m program func own.0 ty own.1 spot s x.places.items fv b) ∙ few;
            has_scores = has_scores m program x p read func own.0 ty own.1;
            below = q.below;
            waiting = subst (λ (j : ℕ). Waiting m j q.callers q.below) b.func_is q.waiting;
            calm = calm_of m p q.below runs q.is_below;
          });
          shown = begun_shown m program func own.0 ty own.1 spot s x.places.items fv b q.callers w.frames q.shown ∙ sym w.shown;
        }

  -- the first places aren't arguments
  pub few_unbegun : IsBegunNot spot (length ty.params) x.places.items → IsSpot m func 1 spot → type_at m func ≡ Some ty → IsFew → Tells m x (opening_piece func) None
  few_unbegun none s type few =
      few_none type few
      (λ program p read f is cs a h e.
      never_begun m program func f ty is spot s x.places.items none a.func e h.callee h.is_callee h.args h.types h.junk (sym read.places ∙ h.places))

  pub few_answer : (fv : FrameView) → IsBegun func spot (length ty.params) x.places.items fv → (r : Result (Option Inspection) Memory)
      → IfOk r (λ o. MatchOption o (IsUnwaited m x fv.func) (λ v. ShowsFrame m x fv spot v))
      → IfOk r (λ o. IsSpot m func 1 spot → type_at m func ≡ Some ty → IsFew → Tells m x (opening_piece func) o)
  few_answer fv b (Err e) h = tt
  few_answer fv b (Ok None) h = λ s type few.
      few_none type few
      (λ program p read f is cs a k e.
      h program p cs k.below read (subst (λ (j : ℕ). Waiting m j cs k.below) (e ∙ sym b.func_is) k.waiting) k.calm.below)
  few_answer fv b (Ok (Some v)) h = λ s type few. few_some type s few fv b v h

  -- ---- many

  module _ (type : type_at m func ≡ Some ty) (many : IsMany) where
    many_none : ((program : IsProgram m) (p : State) → IsReading x p → (f : Func) → IsFunction m func f ty → (cs : List Activation) (c a : Activation) → Making m cs c a p → a.func ≡ func → ⊥)
        → Tells m x (opening_piece func) None
    many_none none program low p told read runs named cs a standing = go (openings_are_named m program low cs a p standing func (named_few type program) named)
      where
        f : Func
        f = (function_at m func ty type).0

        is : IsFunction m func f ty
        is = (function_at m func ty type).1

        go : AtOpening m cs a p func → ⊥
        go (few_passed h e) =
            let wide = args_wide m program func f ty is a.func e h.callee h.is_callee h.args h.types in
            let never : false ≡ true = sym h.few ∙ ap are_many wide ∙ many in
            cc
        go (many_passed c ds h g e) = none program p read f is ds c a h e

  -- the pieces follow that fetch the arguments
  follows_first : (program : IsProgram m) (p : State) → IsReading x p → (cs : List Activation) (c a : Activation) (h : Making m cs c a p)
      → x.follows ≡ Some (ids.Body c.func (first_fetch + (most_fetches * h.passing.waits.cut.index + 0)))
  follows_first program p read cs c a h =
      let k = h.passing.waits.cut in
      follows_body x.follows p read.follows c.func (first_fetch + (most_fetches * k.index + 0)) (func_low m program c.func k h.passing.waits.is_cut) h.follows

  -- none of them does
  pub unfetched : ((f j : ℕ) → j < first_restore → x.follows ≡ Some (ids.Body f (first_fetch + (most_fetches * j + 0))) → ⊥) → IsSpot m func 1 spot → type_at m func ≡ Some ty → IsMany
      → Tells m x (opening_piece func) None
  unfetched none s type many =
      many_none type many
      (λ program p read f is cs c a h e.
      let v = h.passing.waits in
      none c.func v.cut.index (index_low m program c.func v.cut v.is_cut).1 (follows_first program p read cs c a h))

  module _ (caller index : ℕ) (follows : x.follows ≡ Some (ids.Body caller (first_fetch + (most_fetches * index + 0)))) where
    its_cut : (program : IsProgram m) (p : State) → IsReading x p → (cs : List Activation) (c a : Activation) (h : Making m cs c a p) → (c.func ≡ caller) × (h.passing.waits.cut.index ≡ index)
    its_cut program p read cs c a h =
        let both : Some (ids.Body c.func (first_fetch + (most_fetches * h.passing.waits.cut.index + 0))) ≡ Some (ids.Body caller (first_fetch + (most_fetches * index + 0))) =
        sym (follows_first program p read cs c a h) ∙ follows in
        let funcs : c.func ≡ caller = cc in
        let numbers : first_fetch + (most_fetches * h.passing.waits.cut.index + 0) ≡ first_fetch + (most_fetches * index + 0) = cc in
        (funcs, omega arith)

    -- nobody waits for the function there
    pub unpassed : IsPassedNot m x ty caller index → IsSpot m func 1 spot → type_at m func ≡ Some ty → IsMany → Tells m x (opening_piece func) None
    unpassed none s type many =
        many_none type many
        (λ program p read f is cs c a h e.
        let cut = its_cut program p read cs c a h in
        never_passed m program x p read func f ty is cs c a h.passing e caller index cut.0 cut.1 none)

    -- no arguments are passed
    pub unbegun : (frames : List FrameView) (given : List ℤ) → IsPassedFor m x ty caller index frames given → IsBegunNot spot (length ty.params) given
        → IsSpot m func 1 spot → type_at m func ≡ Some ty → IsMany → Tells m x (opening_piece func) None
    unbegun frames given found none s type many =
        many_none type many
        (λ program p read f is cs c a h e.
        let cut = its_cut program p read cs c a h in
        let parts = passed_given m program x p read func f ty is cs c a h.passing e caller index cut.0 cut.1 frames given found in
        never_begun m program func f ty is spot s given none a.func e h.passing.callee h.passing.is_callee h.passing.args h.passing.types parts.0 parts.1)

    pub many_some : (frames : List FrameView) (given : List ℤ) → IsPassedFor m x ty caller index frames given → (fv : FrameView) → IsBegun func spot (length ty.params) given fv
        → (v : Inspection) → v ≡ spot_seen frames fv spot → IsSpot m func 1 spot → type_at m func ≡ Some ty → IsMany → Tells m x (opening_piece func) (Some v)
    many_some frames given found fv b v shown s type many program low p told read runs named =
        let own = function_at m func ty type in
        let w : IsPassed m func p ty caller index frames given = found program p func read (its_gives m program func own.0 ty own.1) in
        record {
          callers = w.caller ∷ w.callers;
          activation = who m program func own.0 ty own.1 spot s given fv b;
          standing = making w.caller w.callers (record {
            passing = passing_found m program x p read func own.0 ty own.1 spot s caller index frames given w fv b many runs;
            named = named;
            follows =
                (body_follows x.follows p read.follows caller (first_fetch + (most_fetches * index + 0)) follows).1
                ∙ ap₂ (λ (g j : ℕ). Some (id_tree (fetch_piece g j 0))) (sym w.passed.in_func) (sym w.passed.is_index);
          }) refl;
          shown = begun_shown m program func own.0 ty own.1 spot s given fv b (w.caller ∷ w.callers) frames w.shown ∙ sym shown;
        }
