-- At a cut: whether the state stands for an activation there.
use Rattle.std.proofs.Common.{◌≡◌, ◌<◌, ℕ, List, [], Option, Some, None, refl, sym, ap₂, subst, ◌∙◌}
use Rattle.std.specs.Prelude.{IfOk, MatchOption, Result, Ok, Err}
use Rattle.std.specs.List.{Contains}
use Rattle.mc_nbt.specs.declared.memory.Memory.{Memory}
use Rattle.mc_nbt.specs.declared.value.Value.{Value}
use Rattle.wm_ast.specs.declared.module.Module.{Module}
use Rattle.wm_flat.specs.Flat.{Activation}
use Rattle.wm_view.specs.declared.view.Inspection.{Inspection}
use Rattle.cc_line.specs.Key.{body_piece, id_tree}
use Rattle.cc_line.specs.Running.{Kept}
use Rattle.cc_line.specs.State.{State}
use Rattle.cc_call.specs.Law.{IsBelow}
use Rattle.cc_cut.specs.declared.table.Cut.{Cut}
use Rattle.cc_cut.specs.Cuts.{function_cuts}
use Rattle.cc_pieces.specs.Restoring.{first_restore}
use Rattle.cc_body.specs.Layout.{frame_size}
use Rattle.cc_simulate.specs.Frame.{Frame}
use Rattle.cc_simulate.specs.Stands.{Running, RunsOver, at_cut}
use Rattle.cc_simulate.specs.Uses.{uses_bytes}
use Rattle.cc_spots.specs.declared.spot.CutSpot.{CutSpot}
use Rattle.cc_spots.specs.Spot.{IsSpot}
use Rattle.cc_told.proofs.Cases.{cuts_are_named}
use Rattle.mc_inspect.specs.declared.reading.Reading.{Reading}
use Rattle.mc_inspect.specs.steps.Found.{Holds, HoldsNone, Tells}

-- what runs over these frames
pub calm_of : (m : Module) (p : State) (bs : List Kept) → Running (uses_bytes m) p → IsBelow bs p → RunsOver (uses_bytes m) bs p
calm_of m p bs r b = record { trap = r.trap; state = r.state; ending = r.ending; standing = r.standing; below = b }

-- ---- no cut, or what is at its spot

pub no_cut : (m : Module) (x : Reading) (func index : ℕ) (top : List Value)
    → ((c : Cut) → Contains (function_cuts m func) c → c.index ≡ index → ⊥) → HoldsNone m x func index top
no_cut m x func index top none program p cs a read h =
    none h.cut (subst (λ (k : ℕ). Contains (function_cuts m k) h.cut) h.in_func h.is_cut) h.is_index

pub at_its_spot : (m : Module) (x : Reading) (func index : ℕ) (spot : CutSpot) (top : List Value) (r : Result (Option Inspection) Memory) → IsSpot m func index spot
    → IfOk r (λ o. (i : ℕ) → IsSpot m func i spot → MatchOption o (HoldsNone m x func i top) (λ v. Holds m x func i top v))
    → IfOk r (λ o. MatchOption o (HoldsNone m x func index top) (λ v. Holds m x func index top v))
at_its_spot m x func index spot top (Err e) s h = tt
at_its_spot m x func index spot top (Ok o) s h = h index s

-- ---- the piece of a cut

pub cut_answer : (m : Module) (x : Reading) (func index : ℕ) → index < first_restore → (r : Result (Option Inspection) Memory)
    → IfOk r (λ o. MatchOption o (HoldsNone m x func index []) (λ v. Holds m x func index [] v)) → IfOk r (Tells m x (body_piece func index))
cut_answer m x func index l (Err e) h = tt
cut_answer m x func index l (Ok None) h = λ program low p told read runs named cs a standing.
    let at = (cuts_are_named m program low cs a p standing func index told l named).1 in
    let c = at.standing in
    h program p cs a read (record {
      in_func = at.in_func;
      cut = c.cut;
      is_cut = c.is_cut;
      is_index = at.is_index;
      visit = c.visit;
      stands = c.stands;
      place = c.place;
      others = _;
      parts = refl;
      frame = c.frame;
      below = c.below;
      waiting = c.waiting;
      is_below = c.calm.below;
    })
cut_answer m x func index l (Ok (Some v)) h = λ program low p told read runs named.
    let k = h p read in
    let a : Activation = k.activation in
    let c = k.held in
    record {
      callers = k.callers;
      activation = a;
      standing = at_cut (record {
        cut = c.cut;
        is_cut = c.is_cut;
        visit = c.visit;
        stands = c.stands;
        place = c.place;
        named = named ∙ ap₂ (λ (f j : ℕ). Some (id_tree (body_piece f j))) (sym c.in_func) (sym c.is_index);
        frame = subst (λ (os : List Value). Frame (frame_size m a.func) a.locals os p.places) (sym c.parts) c.frame;
        below = c.below;
        waiting = c.waiting;
        calm = calm_of m p c.below runs c.is_below;
      });
      shown = k.shown;
    }
