-- Activations at cuts, from the places of a frame and the callers below: what is found is one, and what there is is found.
use Rattle.std.proofs.Common.{◌≡◌, ◌≤◌, ℕ, zero, suc, ℤ, List, [], ◌∷◌, ◌++◌, length, take, drop, reverse, map, Option, Some, None, Vec, Global, refl, sym, ap, subst, ◌∙◌, append_assoc, arith}
use Rattle.std.specs.Prelude.{IfOk, MatchOption, Result, Ok, Err, option_map}
use Rattle.std.specs.List.{Contains}
use Rattle.std.proofs.lemmas.List.{append_cancel_left, reverse-append, reverse-reverse}
use Rattle.mc_nbt.specs.declared.memory.Memory.{Memory}
use Rattle.mc_nbt.specs.declared.value.Value.{Value}
use Rattle.wm_ast.specs.declared.module.Module.{Module}
use Rattle.wm_ast.specs.declared.module.ValType.{ValType}
use Rattle.wm_ast.specs.Types.{const_type}
use Rattle.wm_flat.specs.Flat.{Activation}
use Rattle.wm_flat.specs.FlatTyping.{types_of}
use Rattle.wm_flat.specs.Operands.{operands}
use Rattle.wm_flat.specs.Program.{IsProgram}
use Rattle.wm_place.specs.Kinds.{function_body}
use Rattle.wm_place.specs.Visit.{Visit, function_visits}
use Rattle.wm_place.proofs.LevelLemmas.{some_of}
use Rattle.wm_view.specs.declared.view.FrameView.{FrameView}
use Rattle.wm_view.specs.declared.view.Inspection.{Inspection}
use Rattle.wm_view.specs.Seen.{going_frame}
use Rattle.wm_view.specs.View.{frame_view, inspection}
use Rattle.cc_line.specs.Routine.{value_ints}
use Rattle.cc_line.specs.Running.{below_tree}
use Rattle.cc_line.specs.State.{State}
use Rattle.cc_cut.specs.Cuts.{function_cuts}
use Rattle.cc_entries.proofs.Telling.{entries_tell}
use Rattle.cc_move.specs.Calls.{gives_of}
use Rattle.cc_body.specs.Layout.{frame_size}
use Rattle.cc_simulate.specs.Callers.{Waiting}
use Rattle.cc_simulate.specs.Frame.{Frame, local_ints, stack_ints}
use Rattle.cc_simulate.proofs.Frames.{types_append}
use Rattle.cc_simulate.proofs.Opened.{local_append, local_reverse}
use Rattle.cc_spots.specs.declared.spot.CutSpot.{CutSpot}
use Rattle.cc_spots.specs.Law.{Fits, IsTold, Stood}
use Rattle.cc_spots.specs.Spot.{CutAt, IsSpot}
use Rattle.cc_spots.proofs.CutLaws.{cuts_are_told}
use Rattle.cc_spots.proofs.StandingLaws.{activations_stand, standings_are_seen, standings_fit}
use Rattle.cc_told.proofs.Callers.{callers_have_names}
use Rattle.cc_values.specs.Told.{AreFirst}
use Rattle.pk_callers.specs.Shown.{HaveNoCallers, ShowCallers}
use Rattle.pk_callers.proofs.Leading.{frames_apart}
use Rattle.pk_entries.specs.declared.entry.Entry.{Entry}
use Rattle.pk_entries.specs.View.{entry_view}
use Rattle.mc_inspect.specs.declared.reading.Reading.{Reading}
use Rattle.mc_inspect.specs.steps.Found.{FrameShown, HasNoneBelow, HeldAt, Holds, HoldsNoFrame, HoldsNone, IsFrameAt, IsFrameUnder, IsHeld, IsUnwaited, ShowBelow, ShowsFrame, one_or_none, spot_seen}
use Rattle.mc_inspect.specs.steps.Read.{HasEntries, IsReading}

-- ---- values

types_reverse : (us : List Value) → types_of (reverse us) ≡ reverse (types_of us)
types_reverse [] = refl
types_reverse (u ∷ us) =
    ap types_of (reverse-append (u ∷ []) us) ∙ types_append (reverse us) (u ∷ [])
    ∙ ap (λ ts. ts ++ const_type u ∷ []) (types_reverse us)
    ∙ sym (reverse-append (const_type u ∷ []) (types_of us))

-- operands stand as locals do, the lowest first
stack_turned : (os : List Value) → stack_ints (reverse os) ≡ local_ints os
stack_turned os = sym (local_reverse (reverse os)) ∙ ap local_ints (reverse-reverse os)

-- the first of some values, and the others
types_parted : (ls ks : List ValType) (vs : List Value) → types_of vs ≡ ls ++ ks
    → (types_of (take (length ls) vs) ≡ ls) × (types_of (drop (length ls) vs) ≡ ks)
types_parted [] ks vs e = (refl, e)
types_parted (l ∷ ls) ks [] e = absurd cc
types_parted (l ∷ ls) ks (v ∷ vs) e =
    let first : const_type v ≡ l = cc in
    let others : types_of vs ≡ ls ++ ks = cc in
    let (taken, left) = types_parted ls ks vs others in
    let both : const_type v ∷ types_of (take (length ls) vs) ≡ l ∷ ls = cc in
    (both, left)

enough_values : (ls ks : List ValType) (vs : List Value) → types_of vs ≡ ls ++ ks → length ls ≤ length vs
enough_values [] ks vs e = omega arith
enough_values (l ∷ ls) ks [] e = absurd cc
enough_values (l ∷ ls) ks (v ∷ vs) e =
    let others : types_of vs ≡ ls ++ ks = cc in
    let h : length ls ≤ length vs = enough_values ls ks vs others in
    omega arith

ints_parted : (n : ℕ) (vs : List Value) → local_ints vs ≡ local_ints (take n vs) ++ local_ints (drop n vs)
ints_parted zero vs = refl
ints_parted (suc n) [] = refl
ints_parted (suc n) (v ∷ vs) =
    ap (λ zs. value_ints v ++ zs) (ints_parted n vs) ∙ sym (append_assoc (value_ints v) (local_ints (take n vs)) (local_ints (drop n vs)))

-- ---- the frame

module _ (func : ℕ) (spot : CutSpot) (kinds : List ValType) (zs : List ℤ) (ts : List ValType) (types : ts ≡ spot.locals ++ kinds) where
  pub values_enough : (vs : List Value) (rest : List ℤ) → AreFirst ts zs vs rest → length spot.locals ≤ length vs
  values_enough vs rest h = enough_values spot.locals kinds vs (h.0 ∙ types)

  pub frame_found : (vs : List Value) (rest : List ℤ) → AreFirst ts zs vs rest → (f : FrameView)
      → f ≡ frame_view func (take (length spot.locals) vs) (drop (length spot.locals) vs) → length zs ≡ spot.size → IsFrameAt func spot kinds zs f
  frame_found vs rest h f is sized =
      let n : ℕ = length spot.locals in
      let (own, others) = types_parted spot.locals kinds vs (h.0 ∙ types) in
      subst (IsFrameAt func spot kinds zs) (sym is)
      (record {
        func_is = refl;
        locals = own;
        operands = others;
        held = record {
          junk = rest;
          held =
              h.1 ∙ ap (λ ys. ys ++ rest) (ints_parted n vs ∙ ap (λ ys. local_ints (take n vs) ++ ys) (sym (stack_turned (drop n vs))));
          sized = sized;
        };
      })

  pub no_frame : ((vs : List Value) (rest : List ℤ) → AreFirst ts zs vs rest → ⊥) → HoldsNoFrame spot kinds zs
  no_frame none ls os own others f =
      none (ls ++ reverse os) f.junk (
        types_append ls (reverse os) ∙ ap (λ us. us ++ types_of (reverse os)) own
            ∙ ap (λ us. spot.locals ++ us) (types_reverse os ∙ ap reverse others ∙ reverse-reverse kinds) ∙ sym types,
        f.held ∙ ap (λ ys. ys ++ f.junk) (ap (λ ys. local_ints ls ++ ys) (sym (local_reverse os)) ∙ sym (local_append ls (reverse os))),
      )

  -- whether there are as many places as the frame has
  pub frame_answer : (vs : List Value) (rest : List ℤ) → AreFirst ts zs vs rest → (f : FrameView)
      → f ≡ frame_view func (take (length spot.locals) vs) (drop (length spot.locals) vs) → (o : Option FrameView)
      → MatchOption o (length zs ≡ spot.size → ⊥) (λ g. (g ≡ f) × (length zs ≡ spot.size))
      → MatchOption o (HoldsNoFrame spot kinds zs) (λ g. IsFrameAt func spot kinds zs g)
  frame_answer vs rest h f is None s = λ ls os own others g. s g.sized
  frame_answer vs rest h f is (Some g) s = frame_found vs rest h g (s.0 ∙ is) s.1

-- ---- the callers

module _ (m : Module) (x : Reading) (gives : List ValType) where
  callers_by : (v : Vec Entry Global) (r : Result (Option (Vec FrameView Global)) Memory) → x.entries ≡ Some v
      → IfOk r (λ o. MatchOption o (HaveNoCallers m gives (map entry_view v.items)) (λ fs. ShowCallers m gives (map entry_view v.items) fs.items))
      → IfOk r (λ o. MatchOption o (HasNoneBelow m x gives) (λ fs. ShowBelow m x gives fs.items))
  callers_by v (Err e) is h = tt
  callers_by v (Ok None) is h = λ program p n cs bs read g w b.
      let own = subst (λ (o : Option (Vec Entry Global)). HasEntries (option_map (λ u. u.items) o) p) is read.entries in
      let trees : below_tree bs ≡ below_tree (map entry_view v.items) = some_of (below_tree bs) (below_tree (map entry_view v.items)) (sym b ∙ own.1) in
      h n cs g (subst (Waiting m n cs) (entries_tell bs (map entry_view v.items) (callers_have_names m program n cs bs w) own.0 trees) w)
  callers_by v (Ok (Some fs)) is h = λ p n read g.
      let own = subst (λ (o : Option (Vec Entry Global)). HasEntries (option_map (λ u. u.items) o) p) is read.entries in
      let s = h n g in
      record { below = map entry_view v.items; is_below = own.1; callers = s.callers; waiting = s.waiting; shown = s.shown }

  pub callers_found : (v : Vec Entry Global) (es : List Entry) → es ≡ v.items → (r : Result (Option (Vec FrameView Global)) Memory) → x.entries ≡ Some v
      → IfOk r (λ o. MatchOption o (HaveNoCallers m gives (map entry_view es)) (λ fs. ShowCallers m gives (map entry_view es) fs.items))
      → IfOk r (λ o. MatchOption o (HasNoneBelow m x gives) (λ fs. ShowBelow m x gives fs.items))
  callers_found v es same r is h =
      callers_by v r is
      (subst (λ (l : List Entry). IfOk r (λ o. MatchOption o (HaveNoCallers m gives (map entry_view l)) (λ fs. ShowCallers m gives (map entry_view l) fs.items))) same h)

  pub no_entries : x.entries ≡ None → HasNoneBelow m x gives
  no_entries is program p n cs bs read g w b =
      subst (λ (o : Option (Vec Entry Global)). HasEntries (option_map (λ u. u.items) o) p) is read.entries bs (callers_have_names m program n cs bs w) b

  pub unwaited : (n : ℕ) → gives_of m n ≡ reverse gives → HasNoneBelow m x gives → IsUnwaited m x n
  unwaited n g none program p cs bs read w b = none program p n cs bs read g w b

  pub frame_shown : (f : FrameView) (spot : CutSpot) (fs : List FrameView) (v : Inspection) → gives_of m f.func ≡ reverse gives
      → ShowBelow m x gives fs → v ≡ spot_seen fs f spot → ShowsFrame m x f spot v
  frame_shown f spot fs v g below is p read = record { frames = fs; below = below p f.func read g; shown = is }

-- ---- the activation

one_turned : (o : Option Value) → reverse (one_or_none o) ≡ one_or_none o
one_turned None = refl
one_turned (Some v) = refl

module _ (m : Module) (func index : ℕ) (spot : CutSpot) (s : IsSpot m func index spot) (kinds : List ValType) (o : Option Value)
    (parts : spot.kinds ≡ kinds ++ types_of (one_or_none o)) where
  abbrev top : List Value
  top = one_or_none o

  abbrev at : CutAt m func index
  at = s.at

  kinds_are : at.piece.cut.kinds ≡ kinds ++ types_of top
  kinds_are = sym (ap (λ (y : CutSpot). y.kinds) s.shown) ∙ parts

  kinds_turned : reverse at.piece.cut.kinds ≡ types_of top ++ reverse kinds
  kinds_turned =
      ap reverse kinds_are ∙ reverse-append kinds (types_of top)
      ∙ ap (λ ts. ts ++ reverse kinds) (sym (types_reverse top) ∙ ap types_of (one_turned o))

  -- ---- one that is found

  module _ (zs : List ℤ) (f : FrameView) (u : IsFrameUnder func spot kinds zs top f) where
    abbrev below : FrameView
    below = u.below

    all_types : types_of (top ++ reverse below.operands) ≡ reverse at.piece.cut.kinds
    all_types =
        types_append top (reverse below.operands)
        ∙ ap (λ ts. types_of top ++ ts) (types_reverse below.operands ∙ ap reverse u.is_held.operands) ∙ sym kinds_turned

    stood : Stood m func at.piece.cut below.locals (top ++ reverse below.operands)
    stood =
        activations_stand m func at.body at.is_body at.piece.cut at.is_visit below.locals (top ++ reverse below.operands)
        (u.is_held.locals ∙ ap (λ (y : CutSpot). y.locals) s.shown) all_types

    abbrev who : Activation
    who = stood.activation

    places_held : Frame (frame_size m who.func) who.locals (reverse below.operands) zs
    places_held =
        subst (λ (n : ℕ). Frame n who.locals (reverse below.operands) zs)
        (ap (λ (y : CutSpot). y.size) s.shown ∙ ap (frame_size m) (sym stood.func))
        (subst (λ (ls : List Value). Frame spot.size ls (reverse below.operands) zs) (sym stood.locals_are) u.is_held.held)

    func_same : f.func ≡ who.func
    func_same = ap (λ (g : FrameView). g.func) u.shown ∙ u.is_held.func_is ∙ sym stood.func

    going : going_frame who ≡ frame_view f.func f.locals (f.operands ++ spot.constants)
    going =
        let seen = standings_are_seen m who at.piece.cut stood.stands in
        let values : reverse (operands who) ≡ f.operands =
        ap reverse stood.operands_are ∙ reverse-append top (reverse below.operands)
        ∙ ap (λ vs. vs ++ reverse top) (reverse-reverse below.operands) ∙ ap (λ vs. below.operands ++ vs) (one_turned o)
        ∙ sym (ap (λ (g : FrameView). g.operands) u.shown) in
        let locals : who.locals ≡ f.locals = stood.locals_are ∙ sym (ap (λ (g : FrameView). g.locals) u.shown) in
        let more = seen.next_constants ∙ sym (ap (λ (y : CutSpot). y.constants) s.shown) in
        λ i. frame_view (sym func_same i) (locals i) (values i ++ more i)

    pub held_found : (p : State) (v : Inspection) → p.places ≡ zs → FrameShown m p f spot v → IsHeld m func index top p v
    held_found p v places h =
        let seen = standings_are_seen m who at.piece.cut stood.stands in
        let b = h.below in
        let frames = frames_apart b.callers (going_frame who ∷ []) ∙ ap (λ fs. fs ++ going_frame who ∷ []) (sym b.shown) ∙ ap (λ g. h.frames ++ g ∷ []) going in
        let next = seen.next ∙ sym (ap (λ (y : CutSpot). y.next) s.shown) in
        let left = seen.left ∙ sym (ap (λ (y : CutSpot). y.left) s.shown) in
        record {
          callers = b.callers;
          activation = who;
          held = record {
            in_func = stood.func;
            cut = at.cut;
            is_cut = subst (λ (k : ℕ). Contains (function_cuts m k) at.cut) (sym stood.func) at.is_cut;
            is_index = at.is_index;
            visit = at.piece.cut;
            stands = stood.stands;
            place = at.place;
            others = reverse below.operands;
            parts = stood.operands_are;
            frame = subst (Frame (frame_size m who.func) who.locals (reverse below.operands)) (sym places) places_held;
            below = b.below;
            waiting = subst (λ (k : ℕ). Waiting m k b.callers b.below) func_same b.waiting;
            is_below = b.is_below;
          };
          shown = (λ i. inspection (frames i) (next i) (left i)) ∙ sym h.shown;
        }

  -- ---- one that there is

  module _ (p : State) (cs : List Activation) (a : Activation) (h : HeldAt m func index top p cs a) where
    told : IsTold m func index at h.cut
    told = cuts_are_told m func index at h.cut (subst (λ (k : ℕ). Contains (function_cuts m k) h.cut) h.in_func h.is_cut) h.is_index

    fits : Fits m a h.visit at.body
    fits = standings_fit m a h.visit h.stands at.body (ap (function_body m) h.in_func ∙ at.is_body)

    visit_is : h.visit ≡ at.piece.cut
    visit_is = told.visit h.visit (subst (λ (k : ℕ). Contains (function_visits m k) h.visit) h.in_func fits.is_visit) h.place

    its_locals : types_of a.locals ≡ spot.locals
    its_locals = fits.locals ∙ sym (ap (λ (y : CutSpot). y.locals) s.shown)

    its_others : types_of h.others ≡ reverse kinds
    its_others =
        append_cancel_left (types_of top) (types_of h.others) (reverse kinds)
        (sym (types_append top h.others) ∙ ap types_of (sym h.parts) ∙ fits.operands ∙ ap (λ (v : Visit). reverse v.kinds) visit_is ∙ kinds_turned)

    its_frame : Frame spot.size a.locals h.others p.places
    its_frame =
        subst (λ (n : ℕ). Frame n a.locals h.others p.places) (ap (frame_size m) h.in_func ∙ sym (ap (λ (y : CutSpot). y.size) s.shown)) h.frame

    pub no_frame_held : (zs : List ℤ) → p.places ≡ zs → HoldsNoFrame spot kinds zs → ⊥
    no_frame_held zs places none = none a.locals h.others its_locals its_others (subst (Frame spot.size a.locals h.others) places its_frame)

    pub no_callers_held : (x : Reading) → IsProgram m → IsReading x p → (n : ℕ) → n ≡ func → IsUnwaited m x n → ⊥
    no_callers_held x program read n same none =
        none program p cs h.below read (subst (λ (k : ℕ). Waiting m k cs h.below) (h.in_func ∙ sym same) h.waiting) h.is_below

-- ---- what is answered

pub held_answer : (m : Module) (func : ℕ) (spot : CutSpot) (kinds : List ValType) (o : Option Value) → spot.kinds ≡ kinds ++ types_of (one_or_none o)
    → (x : Reading) (f : FrameView) → IsFrameUnder func spot kinds x.places.items (one_or_none o) f → (r : Result (Option Inspection) Memory)
    → IfOk r (λ q. MatchOption q (IsUnwaited m x f.func) (λ v. ShowsFrame m x f spot v))
    → IfOk r (λ q. (index : ℕ) → IsSpot m func index spot → MatchOption q (HoldsNone m x func index (one_or_none o)) (λ v. Holds m x func index (one_or_none o) v))
held_answer m func spot kinds o parts x f u (Err e) h = tt
held_answer m func spot kinds o parts x f u (Ok None) h = λ index s program p cs a read held.
    no_callers_held m func index spot s kinds o parts p cs a held x program read f.func (ap (λ (g : FrameView). g.func) u.shown ∙ u.is_held.func_is) h
held_answer m func spot kinds o parts x f u (Ok (Some v)) h = λ index s p read.
    held_found m func index spot s kinds o parts x.places.items f u p v read.places (h p read)
