-- A call of many arguments that has begun: those in the caller's entry are those that were read there.
use Rattle.std.proofs.Common.{◌≡◌, ◌≤◌, ℕ, ℤ, List, [], ◌∷◌, ◌++◌, length, take, drop, reverse, true, refl, sym, ap, ap₂, subst, ◌∙◌}
use Rattle.std.proofs.lemmas.List.{take-append-drop, take_at}
use Rattle.wm_ast.specs.declared.module.Func.{Func}
use Rattle.wm_ast.specs.declared.module.FuncType.{FuncType}
use Rattle.wm_ast.specs.declared.module.Module.{Module}
use Rattle.wm_flat.specs.Flat.{Activation}
use Rattle.wm_flat.specs.FlatTyping.{IsFunction}
use Rattle.wm_flat.specs.Program.{IsProgram}
use Rattle.wm_view.specs.declared.view.FrameView.{FrameView}
use Rattle.cc_line.specs.Place.{score_places}
use Rattle.cc_line.specs.Running.{Kept}
use Rattle.cc_line.specs.State.{State}
use Rattle.cc_cut.specs.Law.{widths}
use Rattle.cc_move.specs.Calls.{gives_of}
use Rattle.cc_pieces.specs.Fetching.{are_many}
use Rattle.cc_simulate.specs.Frame.{stack_ints}
use Rattle.cc_simulate.specs.Stands.{Passing, Running}
use Rattle.cc_simulate.specs.Uses.{uses_bytes}
use Rattle.cc_simulate.proofs.Behind.{kept_of}
use Rattle.cc_spots.specs.declared.spot.CutSpot.{CutSpot}
use Rattle.cc_spots.specs.Spot.{IsSpot}
use Rattle.cc_told.proofs.Callers.{last_same}
use Rattle.mc_inspect.specs.declared.reading.Reading.{Reading}
use Rattle.mc_inspect.specs.steps.Openings.{IsBegun, IsPassed, IsPassedFor, IsPassedNot, PassedBy}
use Rattle.mc_inspect.specs.steps.Read.{IsReading}
use Rattle.mc_inspect.proofs.AtCuts.{calm_of}
use Rattle.mc_inspect.proofs.Beginning.{args_wide, begun_args, begun_ints, begun_types, begun_wide, is_there, its_callee, its_gives, who}

module _ (m : Module) (program : IsProgram m) (x : Reading) (p : State) (read : IsReading x p) (func : ℕ) (f : Func) (ty : FuncType) (is : IsFunction m func f ty) where
  pub has_scores : score_places ≤ length p.places
  has_scores = subst (λ (zs : List ℤ). score_places ≤ length zs) (sym read.places) read.has_scores

  -- ---- one that there is

  module _ (cs : List Activation) (c a : Activation) (h : Passing m cs c a p) (same : a.func ≡ func) where
    pub passing_wide : length (stack_ints h.args) ≡ widths ty.params
    passing_wide = args_wide m program func f ty is a.func same h.callee h.is_callee h.args h.types

    pub passing_many : are_many (widths ty.params) ≡ true
    passing_many = ap are_many (sym passing_wide ∙ h.takes) ∙ h.many

    passing_gives : gives_of m a.func ≡ reverse ty.results
    passing_gives = ap (gives_of m) same ∙ its_gives m program func f ty is

    -- what stands in the entry behind what the caller's frame uses
    abbrev behind_frame : List ℤ
    behind_frame = drop (length (kept_of c)) h.entry.places

    module _ (caller index : ℕ) (in_func : c.func ≡ caller) (is_index : h.waits.cut.index ≡ index) where
      passed_by : PassedBy m a.func p ty caller index behind_frame cs c
      passed_by = record {
        entry = h.entry;
        waits = h.waits;
        in_func = in_func;
        is_index = is_index;
        below = h.below;
        waiting = h.waiting;
        is_below = h.calm.below;
        takes = sym h.takes ∙ passing_wide;
        behind = refl;
      }

      -- a caller was found
      pub never_passed : IsPassedNot m x ty caller index → ⊥
      never_passed none = none program p a.func behind_frame cs c read passing_gives passed_by

      -- and the arguments
      pub passed_given : (frames : List FrameView) (given : List ℤ) → IsPassedFor m x ty caller index frames given → (rest : List ℤ) × (given ≡ stack_ints h.args ++ rest)
      passed_given frames given found =
          let w : IsPassed m a.func p ty caller index frames given = found program p a.func read passing_gives in
          let q : PassedBy m a.func p ty caller index given w.callers w.caller = w.passed in
          let one =
          last_same m program a.func a.func cs w.callers h.below q.below p c w.caller h.entry q.entry h.waits q.waits h.waiting q.waiting h.calm.below q.is_below in
          let own : given ≡ behind_frame =
          q.behind ∙ ap₂ (λ (k : Activation) (e : Kept). drop (length (kept_of k)) e.places) (sym one.caller) (sym one.entry) in
          let n : ℕ = length (stack_ints h.args) in
          (drop n behind_frame, own ∙ sym (take-append-drop n behind_frame) ∙ ap (λ zs. zs ++ drop n behind_frame) h.given)

  -- ---- one that was found

  module _ (spot : CutSpot) (s : IsSpot m func 1 spot) (caller index : ℕ) (frames : List FrameView) (given : List ℤ) (w : IsPassed m func p ty caller index frames given) (fv : FrameView)
      (b : IsBegun func spot (length ty.params) given fv) (many : are_many (widths ty.params) ≡ true) (runs : Running (uses_bytes m) p) where
    abbrev q : PassedBy m func p ty caller index given w.callers w.caller
    q = w.passed

    abbrev pub passing_found : Passing m w.callers w.caller (who m program func f ty is spot s given fv b) p
    passing_found = record {
      callee = its_callee m program func f ty is;
      is_callee = is_there m program func f ty is;
      args = begun_args m program func f ty is spot s given fv b;
      types = begun_types m program func f ty is spot s given fv b;
      is_opened = refl;
      entry = q.entry;
      waits = q.waits;
      takes = begun_wide m program func f ty is spot s given fv b ∙ sym q.takes;
      many = ap are_many q.takes ∙ many;
      given =
          ap (take (length (stack_ints (begun_args m program func f ty is spot s given fv b)))) (sym q.behind ∙ begun_ints m program func f ty is spot s given fv b)
          ∙ take_at (stack_ints (begun_args m program func f ty is spot s given fv b)) b.rest _ refl;
      has_scores = has_scores;
      below = q.below;
      waiting = q.waiting;
      calm = calm_of m p (q.below ++ q.entry ∷ []) runs q.is_below;
    }
