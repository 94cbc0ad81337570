-- One caller and its entry: what is found by the entry is a caller's, and what a caller has is found.
use Rattle.std.proofs.Common.{◌≡◌, ℕ, ◌+◌, List, [], ◌∷◌, ◌++◌, reverse, Option, Some, None, true, false, refl, sym, ap, ◌∙◌, subst, arith, append_assoc}
use Rattle.std.specs.Prelude.{ℤ, slice_get, option_map, MatchOption}
use Rattle.std.specs.List.{Contains}
use Rattle.std.proofs.lemmas.List.{append_cancel_right, reverse-append, reverse-reverse}
use Rattle.mc_nbt.specs.declared.value.Value.{Value}
use Rattle.wm_ast.specs.declared.module.FuncType.{FuncType}
use Rattle.wm_ast.specs.declared.module.Module.{Module}
use Rattle.wm_ast.specs.declared.module.ValType.{ValType}
use Rattle.wm_ast.specs.Types.{const_type, function_type, same_types}
use Rattle.wm_ast.proofs.TypeLaws.{same_types_self}
use Rattle.wm_valid.specs.Arrows.{◌>>=◌}
use Rattle.wm_flat.specs.Flat.{Activation}
use Rattle.wm_flat.specs.FlatTyping.{types_of}
use Rattle.wm_flat.specs.Operands.{operands, under}
use Rattle.wm_flat.specs.Program.{IsProgram}
use Rattle.wm_place.specs.Kinds.{Body, body_of}
use Rattle.wm_place.specs.Visit.{Visit}
use Rattle.wm_view.specs.declared.view.FrameView.{FrameView}
use Rattle.wm_view.specs.Seen.{waiting_frame}
use Rattle.cc_line.specs.Running.{Kept}
use Rattle.cc_cut.specs.declared.table.Cut.{Cut}
use Rattle.cc_cut.specs.Cuts.{function_cuts}
use Rattle.cc_cut.specs.Piece.{Piece, function_pieces}
use Rattle.cc_move.specs.Calls.{with_results, gives_of}
use Rattle.cc_move.specs.Standing.{StandsAt}
use Rattle.cc_move.proofs.StandLemmas.{standings_show, types_append}
use Rattle.cc_pieces.specs.Restoring.{first_restore, restore_piece}
use Rattle.cc_body.specs.Behind.{call_before}
use Rattle.cc_body.specs.Layout.{frame_size}
use Rattle.cc_simulate.specs.Callers.{IsHeld, Waits}
use Rattle.cc_simulate.specs.Frame.{local_ints, stack_ints}
use Rattle.cc_simulate.proofs.Opened.{local_reverse}
use Rattle.cc_spots.specs.declared.spot.CutSpot.{CutSpot}
use Rattle.cc_spots.specs.Law.{IsTold, Waited}
use Rattle.cc_spots.specs.Spot.{IsSpot, CutAt}
use Rattle.cc_spots.proofs.CallerLaws.{callers_stand}
use Rattle.cc_spots.proofs.CutLaws.{cuts_are_told}
use Rattle.cc_told.proofs.Results.{results_there}
use Rattle.pk_callers.specs.Shown.{CallerShown, HasNoCaller}

types_reverse : (us : List Value) → types_of (reverse us) ≡ reverse (types_of us)
types_reverse [] = refl
types_reverse (u ∷ us) =
    ap types_of (reverse-append (u ∷ []) us) ∙ types_append (reverse us) (u ∷ [])
    ∙ ap (λ ts. ts ++ const_type u ∷ []) (types_reverse us)
    ∙ sym (reverse-append (const_type u ∷ []) (types_of us))

-- operands stand as locals do, the lowest first
stack_turned : (os : List Value) → stack_ints (reverse os) ≡ local_ints os
stack_turned os = sym (local_reverse (reverse os)) ∙ ap local_ints (reverse-reverse os)

-- ---- what is found

-- by the entry: a cut behind a call that gives this, and the kinds of the operands under its results
pub record IsBehind (m : Module) (gives : List ValType) (b : Kept) (func index : ℕ) (x : CutSpot) (stay : List ValType) : Type 0 where
  pub follows : b.follows ≡ restore_piece func index
  pub spot : IsSpot m func index x
  pub type : FuncType
  pub is_call : x.call ≡ Some type
  pub results : type.results ≡ gives
  pub kinds : x.kinds ≡ stay ++ gives

-- and the values in its places
pub record IsFrameOf (b : Kept) (func : ℕ) (x : CutSpot) (stay : List ValType) (f : FrameView) : Type 0 where
  pub func_is : f.func ≡ func
  pub locals : types_of f.locals ≡ x.locals
  pub operands_are : types_of f.operands ≡ stay
  pub held : IsHeld x.size (local_ints f.locals ++ local_ints f.operands) b.places

module _ (m : Module) (gives : List ValType) (b : Kept) (func index : ℕ) (x : CutSpot) (stay : List ValType) (f : FrameView) (p : IsBehind m gives b func index x stay) (q : IsFrameOf b func x stay f) where
  abbrev at : CutAt m func index
  at = p.spot.at

  kinds_are : reverse p.type.results ++ types_of (reverse f.operands) ≡ reverse at.piece.cut.kinds
  kinds_are =
      ap (λ ts. reverse ts ++ types_of (reverse f.operands)) p.results
      ∙ ap (λ ts. reverse gives ++ ts) (types_reverse f.operands ∙ ap reverse q.operands_are)
      ∙ sym (reverse-append stay gives)
      ∙ ap reverse (sym p.kinds ∙ ap (λ (y : CutSpot). y.kinds) p.spot.shown)

  waited : Waited m func at.piece.cut p.type f.locals (reverse f.operands)
  waited =
      callers_stand m func at.body at.is_body at.piece.cut at.is_visit p.type
      (sym (ap (λ (y : CutSpot). y.call) p.spot.shown) ∙ p.is_call)
      f.locals (reverse f.operands) (q.locals ∙ ap (λ (y : CutSpot). y.locals) p.spot.shown) kinds_are

  abbrev who : Activation
  who = waited.caller

  ints_are : local_ints who.locals ++ stack_ints (operands who) ≡ local_ints f.locals ++ local_ints f.operands
  ints_are =
      ap (λ ls. local_ints ls ++ stack_ints (operands who)) waited.locals_are
      ∙ ap (λ os. local_ints f.locals ++ stack_ints os) waited.operands_are
      ∙ ap (λ zs. local_ints f.locals ++ zs) (stack_turned f.operands)

  size_is : x.size ≡ frame_size m who.func
  size_is = ap (λ (y : CutSpot). y.size) p.spot.shown ∙ ap (frame_size m) (sym waited.func)

  held : IsHeld (frame_size m who.func) (local_ints who.locals ++ stack_ints (operands who)) b.places
  held =
      subst (λ (n : ℕ). IsHeld n (local_ints who.locals ++ stack_ints (operands who)) b.places) size_is
      (subst (λ (zs : List ℤ). IsHeld x.size zs b.places) (sym ints_are) q.held)

  waits : (n : ℕ) → gives_of m n ≡ reverse gives → Waits m n who b
  waits n e = record {
    cut = at.cut;
    is_cut = subst (λ (k : ℕ). Contains (function_cuts m k) at.cut) (sym waited.func) at.is_cut;
    piece = at.piece;
    is_piece = record {
      position = at.position;
      is_index = at.is_position;
      is_piece = ap (λ (k : ℕ). slice_get (function_pieces m k) at.position) waited.func ∙ at.is_piece;
    };
    type = p.type;
    behind = sym (ap (λ (y : CutSpot). y.call) p.spot.shown) ∙ p.is_call;
    gives = ap reverse p.results ∙ sym e;
    follows = p.follows ∙ ap (λ (k : ℕ). restore_piece k index) (sym waited.func) ∙ ap (λ (j : ℕ). restore_piece who.func j) (sym at.is_index);
    held = held;
    stands = λ us t. (at.piece.cut, waited.stands us (t ∙ (e ∙ ap reverse (sym p.results))), at.place);
  }

  shown : f ≡ waiting_frame who
  shown = λ i. record {
    func = (q.func_is ∙ sym waited.func) i;
    locals = sym waited.locals_are i;
    operands = (sym (reverse-reverse f.operands) ∙ ap reverse (sym waited.operands_are)) i;
  }

  pub found_shown : (own : List ValType) → gives_of m func ≡ reverse own → CallerShown m gives b f own
  found_shown own e = record {
    each = λ n g. record { caller = who; waits = waits n g; shown = shown };
    only = λ n c w.
        let same : restore_piece c.func w.cut.index ≡ restore_piece func index = sym w.follows ∙ p.follows in
        let funcs : c.func ≡ func = cc in
        funcs ∙ sym q.func_is;
    own_is = ap (gives_of m) q.func_is ∙ e;
  }

-- ---- what a caller has

module _ (m : Module) (gives : List ValType) (b : Kept) (n : ℕ) (c : Activation) (g : gives_of m n ≡ reverse gives) (w : Waits m n c b) (us : List Value) (types : types_of us ≡ gives_of m n) (x : CutSpot) (s : IsSpot m c.func w.cut.index x) where
  abbrev here : CutAt m c.func w.cut.index
  here = s.at

  told : IsTold m c.func w.cut.index here w.cut
  told = cuts_are_told m c.func w.cut.index here w.cut w.is_cut refl

  piece_is : w.piece ≡ here.piece
  piece_is = told.piece w.is_piece.position w.piece w.is_piece.is_index w.is_piece.is_piece

  pub its_call : x.call ≡ Some w.type
  its_call = ap (λ (y : CutSpot). y.call) s.shown ∙ ap (λ (q : Piece). call_before m q.cut) (sym piece_is) ∙ w.behind

  pub its_results : w.type.results ≡ gives
  its_results = sym (reverse-reverse w.type.results) ∙ ap reverse (w.gives ∙ g) ∙ reverse-reverse gives

  abbrev standing : (v : Visit) × StandsAt m (with_results c us) v × (v.path ≡ w.cut.place)
  standing = w.stands us types

  visit_is : standing.0 ≡ here.piece.cut
  visit_is = told.visit standing.0 (standings_show m (with_results c us) standing.0 standing.1).listed standing.2

  pub its_kinds : x.kinds ≡ types_of (reverse (operands c)) ++ gives
  its_kinds =
      ap (λ (y : CutSpot). y.kinds) s.shown ∙ ap (λ (v : Visit). v.kinds) (sym visit_is)
      ∙ (standings_show m (with_results c us) standing.0 standing.1).kinds
      ∙ ap (λ vs. reverse (types_of vs)) (append_assoc us c.values (under c.levels))
      ∙ ap reverse (types_append us (operands c) ∙ ap (λ ts. ts ++ types_of (operands c)) (types ∙ g))
      ∙ reverse-append (reverse gives) (types_of (operands c))
      ∙ ap (λ ts. reverse (types_of (operands c)) ++ ts) (reverse-reverse gives)
      ∙ ap (λ ts. ts ++ gives) (sym (types_reverse (operands c)))

  pub its_locals : types_of c.locals ≡ x.locals
  its_locals =
      let f = standing.1.func in
      let t = standing.1.type in
      let body : Some (body_of m f t) ≡ Some here.body =
      sym (ap (λ o. o >>= λ k. option_map (body_of m k) (function_type m k)) standing.1.is_function.there ∙ ap (option_map (body_of m f)) standing.1.is_function.has_type)
      ∙ here.is_body in
      let same : body_of m f t ≡ here.body = cc in
      standing.1.locals ∙ ap (λ (k : Body). k.scope.locals) same ∙ sym (ap (λ (y : CutSpot). y.locals) s.shown)

  pub its_places : IsHeld x.size (local_ints c.locals ++ local_ints (reverse (operands c))) b.places
  its_places =
      subst (λ (k : ℕ). IsHeld k (local_ints c.locals ++ local_ints (reverse (operands c))) b.places) (sym (ap (λ (y : CutSpot). y.size) s.shown))
      (subst (λ (zs : List ℤ). IsHeld (frame_size m c.func) zs b.places) (ap (λ zs. local_ints c.locals ++ zs) (sym (local_reverse (operands c)))) w.held)

-- ---- where nothing is found, nobody waits

module _ (m : Module) (program : IsProgram m) (gives : List ValType) (b : Kept) (func index : ℕ) (follows : b.follows ≡ restore_piece func index) where
  -- whoever waits is of this function, behind the cut of this index
  record Its (n : ℕ) (c : Activation) (w : Waits m n c b) : Type 0 where
    func_is : c.func ≡ func
    index_is : w.cut.index ≡ index

  its : (n : ℕ) (c : Activation) (w : Waits m n c b) → Its n c w
  its n c w =
      let same : restore_piece c.func w.cut.index ≡ restore_piece func index = sym w.follows ∙ follows in
      let added : first_restore + w.cut.index ≡ first_restore + index = cc in
      record { func_is = cc; index_is = omega arith }

  pub no_cut : ((k : Cut) → Contains (function_cuts m func) k → k.index ≡ index → ⊥) → HasNoCaller m gives b
  no_cut none n c e w =
      let i = its n c w in
      none w.cut (subst (λ (k : ℕ). Contains (function_cuts m k) w.cut) i.func_is w.is_cut) i.index_is

  spot_there : (x : CutSpot) → IsSpot m func index x → (n : ℕ) (c : Activation) (w : Waits m n c b) → IsSpot m c.func w.cut.index x
  spot_there x s n c w =
      let i = its n c w in
      subst (λ (k : ℕ). IsSpot m c.func k x) (sym i.index_is) (subst (λ (k : ℕ). IsSpot m k index x) (sym i.func_is) s)

  pub not_behind : (x : CutSpot) → IsSpot m func index x → ((t : FuncType) (ts : List ValType) → x.call ≡ Some t → t.results ≡ gives → x.kinds ≡ ts ++ gives → ⊥) → HasNoCaller m gives b
  not_behind x s none n c e w =
      let (us, types) = results_there m program n in
      let there = spot_there x s n c w in
      none w.type (types_of (reverse (operands c)))
      (its_call m gives b n c e w us types x there) (its_results m gives b n c e w us types x there) (its_kinds m gives b n c e w us types x there)

  pub not_held : (x : CutSpot) (stay : List ValType) → IsBehind m gives b func index x stay
      → ((ls os : List Value) → types_of ls ≡ x.locals → types_of os ≡ stay → IsHeld x.size (local_ints ls ++ local_ints os) b.places → ⊥) → HasNoCaller m gives b
  not_held x stay p none n c e w =
      let (us, types) = results_there m program n in
      let there = spot_there x p.spot n c w in
      none c.locals (reverse (operands c))
      (its_locals m gives b n c e w us types x there)
      (append_cancel_right (types_of (reverse (operands c))) stay gives (sym (its_kinds m gives b n c e w us types x there) ∙ p.kinds))
      (its_places m gives b n c e w us types x there)

-- ---- what is told where there is none, and where there is one

pub told_none : {A : Type 0} (o : Option A) (P : Type 0) (Q : A → Type 0) → o ≡ None → MatchOption o P Q → P
told_none None P Q e h = h
told_none (Some a) P Q e h = absurd cc

pub told_some : {A : Type 0} (o : Option A) (P : Type 0) (Q : A → Type 0) (a : A) → o ≡ Some a → MatchOption o P Q → Q a
told_some None P Q a e h = absurd cc
told_some (Some b) P Q a e h = let same : b ≡ a = cc in subst Q same h

-- ---- the kinds under results

pub kinds_found : {A : Type 0} (f : A → List ValType) (call : Option FuncType) (t : FuncType) (kinds gives : List ValType) → call ≡ Some t → t.results ≡ gives
    → (o : Option A) → MatchOption o ((ts : List ValType) → kinds ≡ ts ++ gives → ⊥) (λ a. kinds ≡ f a ++ gives)
    → MatchOption o ((u : FuncType) (ts : List ValType) → call ≡ Some u → u.results ≡ gives → kinds ≡ ts ++ gives → ⊥) (λ a. (u : FuncType) × (call ≡ Some u) × (u.results ≡ gives) × (kinds ≡ f a ++ gives))
kinds_found f call t kinds gives c r None h = λ u ts d s k. h ts k
kinds_found f call t kinds gives c r (Some a) h = (t, c, r, h)

-- the call gives something else
pub kinds_differ : (call : Option FuncType) (t : FuncType) (kinds gives : List ValType) → call ≡ Some t → false ≡ same_types t.results gives
    → (u : FuncType) (ts : List ValType) → call ≡ Some u → u.results ≡ gives → kinds ≡ ts ++ gives → ⊥
kinds_differ call t kinds gives c d u ts e r k =
    let same : t ≡ u = cc in
    let results : t.results ≡ gives = ap (λ (v : FuncType). v.results) same ∙ r in
    let equal : same_types t.results gives ≡ true = ap (λ us. same_types us gives) results ∙ same_types_self gives in
    cc
