-- A state stands for one activation over one list of callers.
use Rattle.std.proofs.Common.{◌≡◌, ℕ, zero, suc, ◌<◌, List, ◌∷◌, length, sym, ap₂, ◌∙◌, arith}
use Rattle.mc_nbt.specs.declared.value.Value.{Value}
use Rattle.wm_ast.specs.declared.module.Module.{Module}
use Rattle.wm_valid.specs.Height.{Low}
use Rattle.wm_flat.specs.Flat.{Activation, running}
use Rattle.wm_flat.specs.Program.{IsProgram}
use Rattle.wm_view.specs.Seen.{seen}
use Rattle.wm_view.proofs.Views.{views_agree}
use Rattle.cc_line.specs.Key.{group_shared}
use Rattle.cc_line.specs.Routine.{value_ints}
use Rattle.cc_line.specs.State.{State}
use Rattle.cc_move.specs.Calls.{with_results}
use Rattle.cc_pieces.specs.Dividing.{dividing_piece}
use Rattle.cc_pieces.specs.Law.{most_placers}
use Rattle.cc_simulate.specs.Stands.{Opening, Restoring, Making, Fetching, Dividing, Standing}
use Rattle.cc_simulate.specs.Stands.{at_cut, opening, making, fetching, restoring, placing, growing, dividing}
use Rattle.cc_told.specs.Cases.{BeforeCut, call_ended, division_done, OnTheWay, args_missing, turns_missing}
use Rattle.cc_told.specs.Cases.{AtOpening, few_passed, many_passed, Names}
use Rattle.cc_told.specs.Law.{OneStanding, OneView}
use Rattle.cc_told.proofs.Calls.{openings_told, few_or_many, makings_told, fetchings_told, restorings_told}
use Rattle.cc_told.proofs.Cases.{fetched_low, callee_low, spot_low, one_or_two}
use Rattle.cc_told.proofs.Cases.{cuts_are_named, restores_are_named, fetches_are_named, openings_are_named, placers_are_named, growers_are_named}
use Rattle.cc_told.proofs.Cuts.{never_both, func_low, index_low}
use Rattle.cc_told.proofs.Spots.{cuts_told, growings_told, placings_told, dividings_told}

-- each of these is a case on one side, and what its name leaves on the other
module _ (m : Module) (program : IsProgram m) (cs ds : List Activation) (a b : Activation) (s : State) where
  with_opening : Opening m cs a s → AtOpening m ds b s a.func → (cs ≡ ds) × (a ≡ b)
  with_opening x (few_passed y f) = openings_told m program cs ds a b s x y (sym f)
  with_opening x (many_passed d es y e f) = absurd (few_or_many m program cs es a b s d x y.passing (sym f))

  with_making : (c : Activation) (es : List Activation) → Making m es c a s → cs ≡ c ∷ es → AtOpening m ds b s a.func → (cs ≡ ds) × (a ≡ b)
  with_making c es x e (few_passed y f) = absurd (few_or_many m program ds es b a s c y x.passing f)
  with_making c es x e (many_passed d fs y f g) =
      let told = makings_told m program es fs a b s c d x y (sym g) in
      (e ∙ ap₂ (λ (k : Activation) (l : List Activation). k ∷ l) told.1 told.0 ∙ sym f, told.2)

  with_fetching : (c : Activation) (es : List Activation) (k : ℕ) (x : Fetching m es c a k s) → cs ≡ c ∷ es
      → OnTheWay m ds b s c.func x.passing.waits.cut.index k → (cs ≡ ds) × (a ≡ b)
  with_fetching c es k x e (args_missing d fs y f g i) =
      let told = fetchings_told m program es fs a b s c d k k x y in
      (e ∙ ap₂ (λ (z : Activation) (l : List Activation). z ∷ l) told.1 told.0 ∙ sym f, told.2)
  with_fetching c es k x e (turns_missing y g i l z) =
      let w = x.passing.waits in
      absurd (never_both m c.func b.func w.cut y.cut w.piece y.piece w.type y.op w.is_piece y.is_piece (sym g) (sym i) w.behind y.behind)

  with_restoring : (c : Activation) (us : List Value) (x : Restoring m cs c us s) → a ≡ with_results c us
      → BeforeCut m ds b s c.func x.waits.cut.index → (cs ≡ ds) × (a ≡ b)
  with_restoring c us x e (call_ended d vs y f g i) =
      let told = restorings_told m program cs ds c d us vs s x y in
      (told.0, e ∙ told.1 ∙ sym f)
  with_restoring c us x e (division_done y g i z) =
      let w = x.waits in
      absurd (never_both m c.func b.func w.cut y.cut w.piece y.piece w.type y.op w.is_piece y.is_piece (sym g) (sym i) w.behind y.behind)

  with_done : (x : Dividing m cs a s) → BeforeCut m ds b s a.func x.cut.index → (cs ≡ ds) × (a ≡ b)
  with_done x (call_ended d vs y f g i) =
      let w = y.waits in
      absurd (never_both m d.func a.func w.cut x.cut w.piece x.piece w.type x.op w.is_piece x.is_piece g i w.behind x.behind)
  with_done x (division_done y g i z) = dividings_told m program cs ds a b s x y (sym g) (sym i)

  with_turns : (x : Dividing m cs a s) → OnTheWay m ds b s a.func x.cut.index 0 → (cs ≡ ds) × (a ≡ b)
  with_turns x (args_missing d fs y f g i) =
      let w = y.passing.waits in
      absurd (never_both m d.func a.func w.cut x.cut w.piece x.piece w.type x.op w.is_piece x.is_piece g i w.behind x.behind)
  with_turns x (turns_missing y g i l z) = dividings_told m program cs ds a b s x y (sym g) (sym i)

module _ (m : Module) (program : IsProgram m) (low : Low m) (cs ds : List Activation) (a b : Activation) (s : State) where
  dividing_told : Dividing m cs a s → Standing m ds b s → (cs ≡ ds) × (a ≡ b)
  dividing_told x y = by_left x.left x.named
    where
      here : a.func < group_shared
      here = func_low m program a.func x.cut x.is_cut

      by_left : (left : ℕ) → Names (dividing_piece a.func x.cut.index left) s → (cs ≡ ds) × (a ≡ b)
      by_left zero e =
          with_done m program cs ds a b s x
          (restores_are_named m program low ds b s y a.func x.cut.index here (index_low m program a.func x.cut x.is_cut).1 e)
      by_left (suc left) e =
          with_turns m program cs ds a b s x (fetches_are_named m program low ds b s y a.func x.cut.index 0 here (omega arith) e)

  told : Standing m cs a s → Standing m ds b s → (cs ≡ ds) × (a ≡ b)
  told (at_cut x) y =
      let there = cuts_are_named m program low ds b s y a.func x.cut.index (func_low m program a.func x.cut x.is_cut)
      (index_low m program a.func x.cut x.is_cut).1 x.named in
      cuts_told m program cs ds a b s x there.1.standing (sym there.1.in_func) (sym there.1.is_index)
  told (opening x) y =
      let few : a.func < 8192 = callee_low m program a.func x.callee x.is_callee in
      with_opening m program cs ds a b s x (openings_are_named m program low ds b s y a.func (omega arith) x.named)
  told (making c es x e) y =
      let few : a.func < 8192 = callee_low m program a.func x.passing.callee x.passing.is_callee in
      with_making m program cs ds a b s c es x e (openings_are_named m program low ds b s y a.func (omega arith) x.named)
  told (fetching c es k x e) y =
      let w = x.passing.waits in
      with_fetching m program cs ds a b s c es k x e
      (fetches_are_named m program low ds b s y c.func w.cut.index k (func_low m program c.func w.cut w.is_cut)
      (fetched_low m program low es c a k s x) x.named)
  told (restoring c us x e) y =
      let w = x.waits in
      with_restoring m program cs ds a b s c us x e
      (restores_are_named m program low ds b s y c.func w.cut.index (func_low m program c.func w.cut w.is_cut)
      (index_low m program c.func w.cut w.is_cut).1 x.named)
  told (placing x) y =
      let few : x.spot < most_placers = spot_low m program low cs a s x in
      placings_told m program cs ds a b s x
      (placers_are_named m program low ds b s y (length (value_ints x.value)) x.spot (one_or_two x.value) (omega arith) x.named).standing
  told (growing x) y = growings_told m program cs ds a b s x (growers_are_named m program low ds b s y x.named)
  told (dividing x) y = dividing_told x y

pub one_standing : OneStanding
one_standing = told

pub one_view : OneView
one_view m program low cs ds a b s x y h g =
    let one = one_standing m program low cs ds a b s h g in
    views_agree x (running cs a) ∙ ap₂ (λ (l : List Activation) (c : Activation). seen (running l c)) one.0 one.1 ∙ sym (views_agree y (running ds b))
