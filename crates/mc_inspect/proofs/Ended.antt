-- Behind a call that has ended: whether the state stands for the caller there, with its results.
use Rattle.std.proofs.Common.{◌≡◌, ◌+◌, ◌≤◌, ◌<◌, ℕ, List, [], ◌∷◌, ◌++◌, length, get_or, map, reverse, Option, Some, None, refl, sym, ap, ap₂, subst, ◌∙◌, append_assoc, arith}
use Rattle.std.specs.Prelude.{IfOk, MatchOption, Result, Ok, Err, option_map}
use Rattle.std.specs.List.{Contains}
use Rattle.std.proofs.lemmas.List.{map_push, reverse-append, reverse-reverse, same_from_push}
use Rattle.mc_nbt.specs.declared.memory.Memory.{Memory}
use Rattle.mc_nbt.specs.declared.value.Value.{Value}
use Rattle.wm_ast.specs.declared.module.FuncType.{FuncType}
use Rattle.wm_ast.specs.declared.module.Module.{Module}
use Rattle.wm_ast.specs.declared.module.ValType.{ValType}
use Rattle.wm_ast.specs.Types.{const_type}
use Rattle.wm_valid.specs.Height.{Low}
use Rattle.wm_flat.specs.Flat.{Activation}
use Rattle.wm_flat.specs.FlatTyping.{types_of}
use Rattle.wm_flat.specs.Operands.{operands, under}
use Rattle.wm_flat.specs.Program.{IsProgram}
use Rattle.wm_place.specs.Kinds.{function_body}
use Rattle.wm_place.specs.Visit.{Visit, function_visits}
use Rattle.wm_place.proofs.LevelLemmas.{some_of}
use Rattle.wm_view.specs.declared.view.FrameView.{FrameView}
use Rattle.wm_view.specs.declared.view.Inspection.{Inspection}
use Rattle.wm_view.specs.Seen.{frames_round, going_frame, seen_running, waiting_frame}
use Rattle.wm_view.specs.View.{frame_view, inspection}
use Rattle.cc_line.specs.Key.{id_tree}
use Rattle.cc_line.specs.Place.{score_places}
use Rattle.cc_line.specs.Routine.{value_ints}
use Rattle.cc_line.specs.Running.{Kept, below_tree}
use Rattle.cc_line.specs.State.{State}
use Rattle.cc_call.specs.Law.{AreHanded, IsBelow}
use Rattle.cc_cut.specs.Cuts.{function_cuts}
use Rattle.cc_entries.specs.Law.{AllTell, NameTells}
use Rattle.cc_entries.proofs.Telling.{entries_tell}
use Rattle.cc_move.specs.Calls.{gives_of, with_results}
use Rattle.cc_move.specs.Standing.{StandsAt}
use Rattle.cc_pieces.specs.Restoring.{first_restore, restore_piece}
use Rattle.cc_simulate.specs.Callers.{Waits, Waiting}
use Rattle.cc_simulate.specs.Frame.{stack_ints}
use Rattle.cc_simulate.specs.Stands.{Restoring, Running, Standing, restoring}
use Rattle.cc_simulate.specs.Uses.{uses_bytes}
use Rattle.cc_spots.specs.declared.spot.CutSpot.{CutSpot}
use Rattle.cc_spots.specs.Law.{Fits, IsTold, ShowsPlace}
use Rattle.cc_spots.specs.Spot.{IsSpot}
use Rattle.cc_spots.proofs.CutLaws.{cuts_are_told}
use Rattle.cc_spots.proofs.StandingLaws.{standings_are_seen, standings_fit}
use Rattle.cc_told.specs.Cases.{BeforeCut, Names, call_ended, division_done}
use Rattle.cc_told.proofs.Callers.{callers_have_names}
use Rattle.cc_told.proofs.Cases.{restores_are_named}
use Rattle.cc_told.proofs.Cuts.{never_both}
use Rattle.cc_told.proofs.Names.{func_same, index_same, not_empty}
use Rattle.pk_callers.proofs.Leading.{frames_apart}
use Rattle.pk_entries.specs.declared.entry.Entry.{Entry}
use Rattle.pk_entries.specs.View.{entry_view}
use Rattle.mc_inspect.specs.declared.reading.Reading.{Reading}
use Rattle.mc_inspect.specs.steps.Found.{BelowShown, HasNoneBelow, ShowBelow, StandsSeen, Tells, one_or_none}
use Rattle.mc_inspect.specs.steps.Read.{HasEntries, IsReading}
use Rattle.mc_inspect.specs.steps.Ways.{AreHandedOver, IsFollowedBy, NoneHandedOver, ShowsLast}
use Rattle.mc_inspect.proofs.AtCuts.{calm_of}
use Rattle.mc_inspect.proofs.Looking.{behind_call_is, its_piece}

-- ---- at most one result

few_turned : (us : List Value) → length us ≤ 1 → reverse us ≡ us
few_turned [] l = refl
few_turned (u ∷ []) l = refl
few_turned (u ∷ (v ∷ us)) l = absurd (omega arith)

types_turned : (us : List Value) → length us ≤ 1 → reverse (types_of us) ≡ types_of us
types_turned [] l = refl
types_turned (u ∷ []) l = refl
types_turned (u ∷ (v ∷ us)) l = absurd (omega arith)

-- there are none of one type where no value of it is handed over
pub one_not_handed : (ts : List ValType) → 1 ≤ length ts → length ts < 2 → (d : ValType) (p : State)
    → ((v : Value) → const_type v ≡ get_or ts 0 d → AreHanded 0 (value_ints v) p → ⊥) → NoneHandedOver ts p
one_not_handed [] some few d p none us h = omega arith
one_not_handed (t ∷ (s ∷ ts)) some few d p none us h = omega arith
one_not_handed (t ∷ []) some few d p none us h = go us h.are h.handed
  where
    go : (us : List Value) → types_of us ≡ t ∷ [] → AreHanded 0 (stack_ints us) p → ⊥
    go [] are handed = cc
    go (u ∷ []) are handed = let own : const_type u ≡ t = cc in none u own handed
    go (u ∷ (v ∷ us)) are handed = cc

-- ---- frames below

-- those that were read are those that stand below
entries_same : (es : List Entry) (bs : List Kept) (p : State) → HasEntries (Some es) p → AllTell bs → IsBelow bs p → bs ≡ map entry_view es
entries_same es bs p h all below = entries_tell bs (map entry_view es) all h.0 (some_of (below_tree bs) (below_tree (map entry_view es)) (sym below ∙ h.1))

none_wait : (m : Module) (n : ℕ) (cs : List Activation) → Waiting m n cs [] → ⊥
none_wait m n [] w = cc
none_wait m n (c ∷ cs) w = not_empty w.0 w.1 w.2

last_viewed : (es : List Entry) (bs : List Kept) (b : Kept) → map entry_view es ≡ bs ++ b ∷ []
    → (others : List Entry) × (last : Entry) × (es ≡ others ++ last ∷ []) × (entry_view last ≡ b)
last_viewed [] bs b e = absurd (not_empty bs b e)
last_viewed (e ∷ []) bs b h = ([], e, refl, (same_from_push [] bs (entry_view e) b h).1)
last_viewed (e ∷ (f ∷ es)) [] b h = absurd cc
last_viewed (e ∷ (f ∷ es)) (c ∷ bs) b h =
    let others : map entry_view (f ∷ es) ≡ bs ++ b ∷ [] = cc in
    let (rest, last, parts, is) = last_viewed (f ∷ es) bs b others in
    (e ∷ rest, last, ap (λ gs. e ∷ gs) parts, is)

followed_in : (es : List Entry) (bs : List Kept) (b : Kept) → (bs ≡ [] → ⊥) → map entry_view es ≡ bs ++ b ∷ [] → IsFollowedBy (Some es) b.follows
followed_in [] bs b some e = absurd (not_empty bs b e)
followed_in (e ∷ es) [] b some h = absurd (some refl)
followed_in (e ∷ es) (c ∷ bs) b some h =
    let others : map entry_view es ≡ bs ++ b ∷ [] = cc in
    let (rest, last, parts, is) = last_viewed es bs b others in
    (e, rest, last, ap (λ gs. e ∷ gs) parts, ap (λ (k : Kept). k.follows) is)

-- the last of them is followed by the piece that its caller waits for
followed_below : (o : Option (List Entry)) (p : State) (bs : List Kept) (b : Kept) → HasEntries o p → AllTell (bs ++ b ∷ []) → IsBelow (bs ++ b ∷ []) p → (bs ≡ [] → ⊥)
    → IsFollowedBy o b.follows
followed_below None p bs b h all below some = absurd (h (bs ++ b ∷ []) all below)
followed_below (Some es) p bs b h all below some = followed_in es bs b some (sym (entries_same es (bs ++ b ∷ []) p h all below))

-- ---- the last caller

-- some caller waits for the function at this cut, and the frames are of it and of those below
pub record LastWaits (m : Module) (p : State) (n func index : ℕ) (frames : List FrameView) : Type 0 where
  pub caller : Activation
  pub callers : List Activation
  pub entry : Kept
  pub below : List Kept
  pub waits : Waits m n caller entry
  pub waiting : Waiting m caller.func callers below
  pub is_below : IsBelow (below ++ entry ∷ []) p
  pub in_func : caller.func ≡ func
  pub is_index : waits.cut.index ≡ index
  pub shown : frames ≡ frames_round (caller ∷ callers) []

module _ (m : Module) (program : IsProgram m) (p : State) (n func index : ℕ) (frames : List FrameView) where
  last_of : (cs : List Activation) (bs others : List Kept) (first last : Kept) → Waiting m n cs bs → IsBelow bs p → frames ≡ frames_round cs []
      → bs ≡ (first ∷ others) ++ last ∷ [] → last.follows ≡ restore_piece func index → LastWaits m p n func index frames
  last_of [] bs others first last w below shown parts follows =
      let none = (same_from_push [] (first ∷ others) _ last (sym w ∙ parts)).0 in
      absurd cc
  last_of (c ∷ cs) bs others first last w below shown parts follows =
      let waits : Waits m n c w.1 = w.3 in
      let same = same_from_push w.0 (first ∷ others) w.1 last (sym w.2 ∙ parts) in
      let named : restore_piece c.func waits.cut.index ≡ restore_piece func index = sym waits.follows ∙ ap (λ (k : Kept). k.follows) same.1 ∙ follows in
      let i : first_restore + waits.cut.index ≡ first_restore + index = index_same c.func func (first_restore + waits.cut.index) (first_restore + index) named in
      record {
        caller = c;
        callers = cs;
        entry = w.1;
        below = w.0;
        waits = waits;
        waiting = w.4;
        is_below = subst (λ (ks : List Kept). IsBelow ks p) w.2 below;
        in_func = func_same c.func func (first_restore + waits.cut.index) (first_restore + index) named;
        is_index = omega arith;
        shown = shown;
      }

  pub last_waits : (o : Option (List Entry)) → HasEntries o p → IsFollowedBy o (restore_piece func index) → BelowShown m n p frames → LastWaits m p n func index frames
  last_waits None h f b = absurd f
  last_waits (Some es) h (first, others, last, parts, follows) b =
      let whole : map entry_view es ≡ (entry_view first ∷ map entry_view others) ++ entry_view last ∷ [] =
      ap (map entry_view) parts ∙ map_push entry_view (first ∷ others) last in
      last_of b.callers b.below (map entry_view others) (entry_view first) (entry_view last) b.waiting b.is_below b.shown
      (entries_same es b.below p h (callers_have_names m program n b.callers b.below b.waiting) b.is_below ∙ whole) follows

pub no_frames : (c : Activation) (cs : List Activation) (frames : List FrameView) → frames ≡ frames_round (c ∷ cs) [] → frames ≡ [] → ⊥
no_frames c cs frames shown none = behind (frames_round cs []) (waiting_frame c) (sym none ∙ shown ∙ frames_apart cs (waiting_frame c ∷ []))
  where
    behind : (fs : List FrameView) (f : FrameView) → [] ≡ fs ++ f ∷ [] → ⊥
    behind [] f e = cc
    behind (g ∷ fs) f e = cc

-- ---- one that there is

module _ (m : Module) (x : Reading) (func index : ℕ) (few : index < first_restore) (spot : CutSpot) (s : IsSpot m func index spot) (t : FuncType) (call : spot.call ≡ Some t) where
  -- a call of this type has ended, and its caller is to be restored
  record HasEnded (p : State) : Type 0 where
    caller : Activation
    callers : List Activation
    results : List Value
    restored : Restoring m callers caller results p
    in_func : caller.func ≡ func
    is_index : restored.waits.cut.index ≡ index
    gives : gives_of m restored.callee ≡ reverse t.results

  module _ (program : IsProgram m) (low : Low m) (p : State) (told : NameTells (restore_piece func index)) (named : Names (restore_piece func index) p) where
    ended : (cs : List Activation) (a : Activation) → Standing m cs a p → HasEnded p
    ended cs a standing = go (restores_are_named m program low cs a p standing func index told few named)
      where
        go : BeforeCut m cs a p func index → HasEnded p
        go (call_ended c us w e f i) =
            let is = behind_call_is m x func index spot s c.func w.waits.cut w.waits.piece w.waits.type w.waits.is_piece f i w.waits.behind in
            let same : w.waits.type ≡ t = some_of w.waits.type t (sym is ∙ call) in
            record {
              caller = c;
              callers = cs;
              results = us;
              restored = w;
              in_func = f;
              is_index = i;
              gives = sym w.waits.gives ∙ ap (λ (k : FuncType). reverse k.results) same;
            }
        go (division_done w f i z) =
            let own = sym (ap (λ (y : CutSpot). y.call) s.shown) ∙ call in
            absurd (never_both m func a.func s.at.cut w.cut s.at.piece w.piece t w.op (its_piece m x func index spot s) w.is_piece (sym f) (s.at.is_index ∙ sym i) own w.behind)

  module _ (p : State) (e : HasEnded p) where
    abbrev its : Restoring m e.callers e.caller e.results p
    its = e.restored

    all_wait : Waiting m its.callee (e.caller ∷ e.callers) (its.below ++ its.entry ∷ [])
    all_wait = (its.below, its.entry, refl, its.waits, its.waiting)

    results_are : types_of e.results ≡ t.results
    results_are =
        sym (types_turned e.results its.few) ∙ ap reverse (its.types ∙ e.gives) ∙ reverse-reverse t.results

    handed_over : AreHandedOver t.results e.results p
    handed_over = record { are = results_are; few = its.few; handed = its.results }

    some_below : its.below ≡ [] → ⊥
    some_below none = none_wait m e.caller.func e.callers (subst (Waiting m e.caller.func e.callers) none its.waiting)

    followed : IsProgram m → (o : Option (List Entry)) → HasEntries o p → IsFollowedBy o (restore_piece func index)
    followed program o h =
        subst (IsFollowedBy o) (its.waits.follows ∙ ap₂ restore_piece e.in_func e.is_index)
        (followed_below o p its.below its.entry h (callers_have_names m program its.callee (e.caller ∷ e.callers) (its.below ++ its.entry ∷ []) all_wait) its.calm.below some_below)

  -- ---- where something is missing

  pub no_function : ((n : ℕ) → gives_of m n ≡ reverse t.results → ⊥) → Tells m x (restore_piece func index) None
  no_function none program low p told read runs named cs a standing =
      let e = ended program low p told named cs a standing in
      none e.restored.callee e.gives

  pub not_followed : (IsFollowedBy (option_map (λ v. v.items) x.entries) (restore_piece func index) → ⊥) → Tells m x (restore_piece func index) None
  not_followed none program low p told read runs named cs a standing =
      none (followed p (ended program low p told named cs a standing) program (option_map (λ v. v.items) x.entries) read.entries)

  pub no_results : ((p : State) → IsReading x p → NoneHandedOver t.results p) → Tells m x (restore_piece func index) None
  no_results none program low p told read runs named cs a standing =
      let e = ended program low p told named cs a standing in
      none p read e.results (handed_over p e)

  pub no_callers : HasNoneBelow m x t.results → Tells m x (restore_piece func index) None
  no_callers none program low p told read runs named cs a standing =
      let e = ended program low p told named cs a standing in
      none program p e.restored.callee (e.caller ∷ e.callers) (e.restored.below ++ e.restored.entry ∷ []) read e.gives (all_wait p e) e.restored.calm.below

  -- ---- one that is found

  module _ (p : State) (read : IsReading x p) (n : ℕ) (gives : gives_of m n ≡ reverse t.results) (frames : List FrameView) (w : LastWaits m p n func index frames)
      (us : List Value) (h : AreHandedOver t.results us p) where
    abbrev who : Activation
    who = with_results w.caller us

    types : types_of us ≡ gives_of m n
    types = sym (types_turned us h.few) ∙ ap reverse h.are ∙ sym gives

    abbrev visit : Visit
    visit = (w.waits.stands us types).0

    stands : StandsAt m who visit
    stands = (w.waits.stands us types).1

    visit_is : visit ≡ s.at.piece.cut
    visit_is =
        let told : IsTold m func index s.at w.waits.cut =
        cuts_are_told m func index s.at w.waits.cut (subst (λ (k : ℕ). Contains (function_cuts m k) w.waits.cut) w.in_func w.waits.is_cut) w.is_index in
        let fits : Fits m who visit s.at.body = standings_fit m who visit stands s.at.body (ap (function_body m) w.in_func ∙ s.at.is_body) in
        told.visit visit (subst (λ (k : ℕ). Contains (function_visits m k) visit) w.in_func fits.is_visit) (w.waits.stands us types).2

    seen : ShowsPlace who s.at.piece.cut
    seen = standings_are_seen m who s.at.piece.cut (subst (StandsAt m who) visit_is stands)

    restored : Running (uses_bytes m) p → Names (restore_piece func index) p → Restoring m w.callers w.caller us p
    restored runs named = record {
      callee = n;
      types = types;
      few = h.few;
      entry = w.entry;
      waits = w.waits;
      named = named ∙ ap₂ (λ (f j : ℕ). Some (id_tree (restore_piece f j))) (sym w.in_func) (sym w.is_index);
      results = h.handed;
      has_scores = subst (λ zs. score_places ≤ length zs) (sym read.places) read.has_scores;
      below = w.below;
      waiting = w.waiting;
      calm = calm_of m p (w.below ++ w.entry ∷ []) runs w.is_below;
    }

    module _ (v : Inspection) (k : ShowsLast frames us spot v) where
      parted : (k.others ≡ frames_round w.callers []) × (k.last ≡ waiting_frame w.caller)
      parted =
          same_from_push k.others (frames_round w.callers []) k.last (waiting_frame w.caller)
          (sym k.parts ∙ w.shown ∙ frames_apart w.callers (waiting_frame w.caller ∷ []))

      going : going_frame who ≡ frame_view k.last.func k.last.locals ((k.last.operands ++ us) ++ spot.constants)
      going =
          let func_is : w.caller.func ≡ k.last.func = ap (λ (f : FrameView). f.func) (sym parted.1) in
          let locals : w.caller.locals ≡ k.last.locals = ap (λ (f : FrameView). f.locals) (sym parted.1) in
          let values : reverse (operands who) ≡ k.last.operands ++ us =
          ap reverse (append_assoc us w.caller.values (under w.caller.levels)) ∙ reverse-append us (operands w.caller)
          ∙ ap (λ vs. reverse (operands w.caller) ++ vs) (few_turned us h.few)
          ∙ ap (λ (f : FrameView). f.operands ++ us) (sym parted.1) in
          let more = seen.next_constants ∙ sym (ap (λ (y : CutSpot). y.constants) s.shown) in
          λ i. frame_view (func_is i) (locals i) (values i ++ more i)

      shown : seen_running w.callers who ≡ v
      shown =
          let all =
          frames_apart w.callers (going_frame who ∷ []) ∙ ap (λ fs. fs ++ going_frame who ∷ []) (sym parted.0) ∙ ap (λ g. k.others ++ g ∷ []) going in
          let next = seen.next ∙ sym (ap (λ (y : CutSpot). y.next) s.shown) in
          let left = seen.left ∙ sym (ap (λ (y : CutSpot). y.left) s.shown) in
          (λ i. inspection (all i) (next i) (left i)) ∙ sym k.shown

      pub caller_seen : Running (uses_bytes m) p → Names (restore_piece func index) p → StandsSeen m p v
      caller_seen runs named = record {
        callers = w.callers;
        activation = who;
        standing = restoring w.caller us (restored runs named) refl;
        shown = shown;
      }

-- ---- what is answered

pub ended_answer : (m : Module) (x : Reading) (func index : ℕ) → index < first_restore → (spot : CutSpot) (t : FuncType) (n : ℕ) → gives_of m n ≡ reverse t.results
    → IsFollowedBy (option_map (λ v. v.items) x.entries) (restore_piece func index) → (o : Option Value)
    → ((p : State) → IsReading x p → AreHandedOver t.results (one_or_none o) p) → (frames : List FrameView) → ShowBelow m x t.results frames
    → (r : Result (Option Inspection) Memory) → IfOk r (λ q. MatchOption q (frames ≡ []) (λ v. ShowsLast frames (one_or_none o) spot v))
    → IfOk r (λ q. IsSpot m func index spot → spot.call ≡ Some t → Tells m x (restore_piece func index) q)
ended_answer m x func index few spot t n gives followed o handed frames below (Err e) h = tt
ended_answer m x func index few spot t n gives followed o handed frames below (Ok None) none = λ s call program low p told read runs named cs a standing.
    let w = last_waits m program p n func index frames (option_map (λ v. v.items) x.entries) read.entries followed (below p n read gives) in
    no_frames w.caller w.callers frames w.shown none
ended_answer m x func index few spot t n gives followed o handed frames below (Ok (Some v)) k = λ s call program low p told read runs named.
    let w = last_waits m program p n func index frames (option_map (λ v. v.items) x.entries) read.entries followed (below p n read gives) in
    caller_seen m x func index few spot s t call p read n gives frames w (one_or_none o) (handed p read) v k runs named
