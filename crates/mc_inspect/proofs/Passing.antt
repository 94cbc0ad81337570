-- A call of many arguments, from the frames below: the caller that waits, and the arguments in its entry.
use Rattle.std.proofs.Common.{◌≡◌, ℕ, ◌+◌, ℤ, List, [], ◌∷◌, ◌++◌, length, drop, map, Option, Some, None, Vec, Global, refl, sym, ap, ap₂, subst, ◌∙◌, arith}
use Rattle.std.specs.Prelude.{option_map}
use Rattle.std.specs.List.{Contains}
use Rattle.std.proofs.lemmas.List.{same_from_push}
use Rattle.wm_ast.specs.declared.module.FuncType.{FuncType}
use Rattle.wm_ast.specs.declared.module.Module.{Module}
use Rattle.wm_flat.specs.Flat.{Activation}
use Rattle.wm_flat.specs.Operands.{operands}
use Rattle.wm_flat.specs.Program.{IsProgram}
use Rattle.wm_place.proofs.LevelLemmas.{some_of}
use Rattle.wm_view.specs.declared.view.FrameView.{FrameView}
use Rattle.wm_view.specs.Seen.{frames_round, waiting_frame}
use Rattle.cc_line.specs.Running.{Kept, below_tree}
use Rattle.cc_line.specs.State.{State}
use Rattle.cc_call.specs.Law.{IsBelow}
use Rattle.cc_entries.proofs.Telling.{entries_tell}
use Rattle.cc_cut.specs.declared.table.Cut.{Cut}
use Rattle.cc_cut.specs.Cuts.{function_cuts}
use Rattle.cc_cut.specs.Law.{widths}
use Rattle.cc_pieces.specs.Restoring.{first_restore, restore_piece}
use Rattle.cc_simulate.specs.Callers.{Waits, Waiting}
use Rattle.cc_simulate.specs.Frame.{local_ints, stack_ints}
use Rattle.cc_simulate.proofs.Opened.{local_reverse}
use Rattle.cc_spots.specs.declared.spot.CutSpot.{CutSpot}
use Rattle.cc_spots.specs.Spot.{IsSpot}
use Rattle.cc_told.proofs.Callers.{callers_have_names, callers_same}
use Rattle.cc_told.proofs.Names.{not_empty}
use Rattle.pk_callers.proofs.Leading.{frames_apart, none_wait}
use Rattle.pk_entries.specs.declared.entry.Entry.{Entry}
use Rattle.pk_entries.specs.View.{entry_view}
use Rattle.mc_inspect.specs.declared.reading.Reading.{Reading}
use Rattle.mc_inspect.specs.steps.Found.{BelowShown, HasNoneBelow, ShowBelow}
use Rattle.mc_inspect.specs.steps.Openings.{IsPassed, IsPassedFor, IsPassedNot, PassedBy, last_places, last_places_in}
use Rattle.mc_inspect.specs.steps.Read.{HasEntries, IsReading}
use Rattle.mc_inspect.specs.steps.Ways.{IsFollowedBy}
use Rattle.mc_inspect.proofs.Entries.{followed_by, followed_there, its_places}
use Rattle.mc_inspect.proofs.Looking.{behind_call_is}

-- ---- what was read of the frames below

-- entries were read, and are those that callers have
record AreRead (x : Reading) (bs : List Kept) : Type 0 where
  entries : Vec Entry Global
  is : x.entries ≡ Some entries
  are : map entry_view entries.items ≡ bs

module _ (m : Module) (program : IsProgram m) (x : Reading) (p : State) (n : ℕ) (cs : List Activation) (bs : List Kept) (w : Waiting m n cs bs) (b : IsBelow bs p) where
  entries_by : (o : Option (Vec Entry Global)) → HasEntries (option_map (λ v. v.items) o) p → (v : Vec Entry Global) × (o ≡ Some v) × (map entry_view v.items ≡ bs)
  entries_by None h = absurd (h bs (callers_have_names m program n cs bs w) b)
  entries_by (Some v) h = (
    v,
    refl,
    entries_tell (map entry_view v.items) bs h.0 (callers_have_names m program n cs bs w)
        (some_of (below_tree (map entry_view v.items)) (below_tree bs) (sym h.1 ∙ b)),
  )

  are_read : IsReading x p → AreRead x bs
  are_read read = let e = entries_by x.entries read.entries in record { entries = e.0; is = e.1; are = e.2 }

-- nobody waits with no entry
never_without : (m : Module) (n : ℕ) (cs : List Activation) (bs : List Kept) → Waiting m n cs bs → bs ≡ [] → ⊥
never_without m n cs bs w e = none_wait m [] n cs (omega arith) (subst (Waiting m n cs) e w)

module _ (m : Module) (x : Reading) (ty : FuncType) (func index : ℕ) where
  -- ---- no caller waits there

  pub no_cut_passed : ((c : Cut) → Contains (function_cuts m func) c → c.index ≡ index → ⊥) → IsPassedNot m x ty func index
  no_cut_passed none program p n given cs c read gives h =
      none h.waits.cut (subst (λ (k : ℕ). Contains (function_cuts m k) h.waits.cut) h.in_func h.waits.is_cut) h.is_index

  module _ (spot : CutSpot) (s : IsSpot m func index spot) where
    its_call : (n : ℕ) (c : Activation) (b : Kept) (w : Waits m n c b) → c.func ≡ func → w.cut.index ≡ index → spot.call ≡ Some w.type
    its_call n c b w in_func is_index = behind_call_is m x func index spot s c.func w.cut w.piece w.type w.is_piece in_func is_index w.behind

    pub no_call_passed : spot.call ≡ None → IsPassedNot m x ty func index
    no_call_passed none program p n given cs c read gives h =
        let is : spot.call ≡ Some h.waits.type = its_call n c h.entry h.waits h.in_func h.is_index in
        let never : None ≡ Some h.waits.type = sym none ∙ is in
        cc

    same_call : (call : FuncType) → spot.call ≡ Some call → (n : ℕ) (c : Activation) (b : Kept) (w : Waits m n c b) → c.func ≡ func → w.cut.index ≡ index → w.type ≡ call
    same_call call e n c b w in_func is_index = some_of w.type call (sym (its_call n c b w in_func is_index) ∙ e)

    pub other_passed : (call : FuncType) → spot.call ≡ Some call → (widths call.params ≡ widths ty.params → ⊥) → IsPassedNot m x ty func index
    other_passed call e differ program p n given cs c read gives h =
        differ (ap (λ (t : FuncType). widths t.params) (sym (same_call call e n c h.entry h.waits h.in_func h.is_index)) ∙ h.takes)

  whole : (n : ℕ) (p : State) (given : List ℤ) (cs : List Activation) (c : Activation) (h : PassedBy m n p ty func index given cs c) → Waiting m n (c ∷ cs) (h.below ++ h.entry ∷ [])
  whole n p given cs c h = (h.below, h.entry, refl, h.waits, h.waiting)

  pub unfollowed_passed : (IsFollowedBy (option_map (λ (v : Vec Entry Global). v.items) x.entries) (restore_piece func index) → ⊥) → IsPassedNot m x ty func index
  unfollowed_passed none program p n given cs c read gives h =
      let r : AreRead x (h.below ++ h.entry ∷ []) =
      are_read m program x p n (c ∷ cs) (h.below ++ h.entry ∷ []) (whole n p given cs c h) h.is_below read in
      let named : h.entry.follows ≡ restore_piece func index = h.waits.follows ∙ ap₂ restore_piece h.in_func h.is_index in
      none
      (subst (λ (o : Option (Vec Entry Global)). IsFollowedBy (option_map (λ v. v.items) o) (restore_piece func index)) (sym r.is)
      (followed_there r.entries.items h.below h.entry r.are (never_without m c.func cs h.below h.waiting) (restore_piece func index) named))

  pub uncalled_passed : HasNoneBelow m x ty.results → IsPassedNot m x ty func index
  uncalled_passed none program p n given cs c read gives h =
      none program p n (c ∷ cs) (h.below ++ h.entry ∷ []) read gives (whole n p given cs c h) h.is_below

  pub unframed_passed : (fs : List FrameView) → ShowBelow m x ty.results fs → fs ≡ [] → IsPassedNot m x ty func index
  unframed_passed fs show none program p n given cs c read gives h =
      let b : BelowShown m n p fs = show p n read gives in
      let same : c ∷ cs ≡ b.callers =
      callers_same m program n n (c ∷ cs) b.callers (h.below ++ h.entry ∷ []) b.below p (whole n p given cs c h) b.waiting h.is_below b.is_below in
      not_empty (frames_round cs []) (waiting_frame c)
      (sym none ∙ b.shown ∙ ap (λ ds. frames_round ds []) (sym same) ∙ frames_apart cs (waiting_frame c ∷ []))

  -- ---- one does

  module _ (spot : CutSpot) (s : IsSpot m func index spot) (call : FuncType) (is_call : spot.call ≡ Some call) (wide : widths call.params ≡ widths ty.params)
      (followed : IsFollowedBy (option_map (λ (v : Vec Entry Global). v.items) x.entries) (restore_piece func index))
      (fs : List FrameView) (show : ShowBelow m x ty.results fs) (others : List FrameView) (last : FrameView) (parts : fs ≡ others ++ last ∷ [])
      (given : List ℤ) (behind : given ≡ drop (length (local_ints last.locals ++ local_ints last.operands)) (last_places x)) where
    module _ (program : IsProgram m) (p : State) (n : ℕ) (read : IsReading x p) (below : List Kept) (is_below : IsBelow below p) where
      one_passed : (c : Activation) (cs : List Activation) → Waiting m n (c ∷ cs) below → fs ≡ frames_round (c ∷ cs) [] → PassedBy m n p ty func index given cs c
      one_passed c cs w e =
          let r : AreRead x below = are_read m program x p n (c ∷ cs) below w is_below read in
          let its : map entry_view r.entries.items ≡ w.0 ++ w.1 ∷ [] = r.are ∙ w.2 in
          let followed_one : IsFollowedBy (Some r.entries.items) (restore_piece func index) =
          subst (λ (o : Option (Vec Entry Global)). IsFollowedBy (option_map (λ v. v.items) o) (restore_piece func index)) r.is followed in
          let same : restore_piece c.func w.3.cut.index ≡ restore_piece func index =
          sym w.3.follows ∙ followed_by r.entries.items w.0 w.1 its (restore_piece func index) followed_one in
          let in_func : c.func ≡ func = cc in
          let added : first_restore + w.3.cut.index ≡ first_restore + index = cc in
          let is_index : w.3.cut.index ≡ index = omega arith in
          let frame : last ≡ waiting_frame c =
          (same_from_push others (frames_round cs []) last (waiting_frame c) (sym parts ∙ e ∙ frames_apart cs (waiting_frame c ∷ []))).1 in
          let uses : local_ints last.locals ++ local_ints last.operands ≡ local_ints c.locals ++ stack_ints (operands c) =
          ap (λ (v : FrameView). local_ints v.locals ++ local_ints v.operands) frame ∙ ap (λ zs. local_ints c.locals ++ zs) (local_reverse (operands c)) in
          let places : last_places x ≡ w.1.places =
          ap (λ (o : Option (Vec Entry Global)). last_places_in (option_map (λ v. v.items) o)) r.is ∙ its_places r.entries.items w.0 w.1 its in
          record {
            entry = w.1;
            waits = w.3;
            in_func = in_func;
            is_index = is_index;
            below = w.0;
            waiting = w.4;
            is_below = subst (λ (bs : List Kept). IsBelow bs p) w.2 is_below;
            takes = ap (λ (t : FuncType). widths t.params) (same_call spot s call is_call n c w.1 w.3 in_func is_index) ∙ wide;
            behind = behind ∙ ap₂ (λ (zs ys : List ℤ). drop (length zs) ys) uses places;
          }

      some_passed : (cs : List Activation) → Waiting m n cs below → fs ≡ frames_round cs [] → IsPassed m n p ty func index fs given
      some_passed [] w e = absurd (not_empty others last (sym e ∙ parts))
      some_passed (c ∷ cs) w e = record { callers = cs; caller = c; passed = one_passed c cs w e; shown = e }

    pub is_passed : IsPassedFor m x ty func index fs given
    is_passed program p n read gives =
        let b : BelowShown m n p fs = show p n read gives in
        some_passed program p n read b.below b.is_below b.callers b.waiting b.shown
