-- Before a cut whose last operand is on its way: whether the state stands for an activation there.
use Rattle.std.proofs.Common.{◌≡◌, ◌<◌, ◌≤◌, ◌+◌, ◌⊎◌, ℕ, ℤ, List, [], ◌∷◌, ◌++◌, length, reverse, Option, Some, None, refl, sym, ap, ap₂, subst, subst₂, ◌∙◌, arith, if◌then◌else◌}
use Rattle.std.specs.Prelude.{IfOk, IfSome, MatchOption, Result, Ok, Err}
use Rattle.std.specs.List.{Contains}
use Rattle.std.specs.Str.{bytes_eq}
use Rattle.std.proofs.lemmas.List.{reverse-append}
use Rattle.mc_nbt.specs.declared.memory.Memory.{Memory}
use Rattle.mc_nbt.specs.declared.value.Value.{Value}
use Rattle.wm_ast.specs.declared.module.Module.{Module}
use Rattle.wm_ast.specs.declared.module.ValType.{ValType}
use Rattle.wm_ast.specs.Types.{const_type}
use Rattle.wm_flat.specs.Flat.{Activation}
use Rattle.wm_flat.specs.FlatTyping.{types_of}
use Rattle.wm_place.specs.Kinds.{function_body}
use Rattle.wm_place.specs.Visit.{Visit, function_visits}
use Rattle.wm_view.specs.declared.view.Inspection.{Inspection}
use Rattle.cc_line.specs.declared.leaf.PieceId.TheVariants as ids
use Rattle.cc_line.specs.Key.{body_piece, id_tree}
use Rattle.cc_line.specs.Routine.{value_ints}
use Rattle.cc_line.specs.State.{State}
use Rattle.cc_call.specs.Frames.{result_score}
use Rattle.cc_call.specs.Law.{AreHanded}
use Rattle.cc_cut.specs.declared.table.Cut.{Cut}
use Rattle.cc_cut.specs.Cuts.{function_cuts}
use Rattle.cc_cut.specs.Law.{widths}
use Rattle.cc_body.specs.Placers.{function_placers}
use Rattle.cc_pieces.specs.Placing.{first_pair_placer, first_placer, placer}
use Rattle.cc_simulate.specs.Frame.{local_ints, stack_ints}
use Rattle.cc_simulate.specs.Stands.{Placing, placing}
use Rattle.cc_simulate.proofs.Frames.{held_length, widths_reverse}
use Rattle.cc_spots.specs.declared.spot.CutSpot.{CutSpot}
use Rattle.cc_spots.specs.Law.{Fits, IsTold}
use Rattle.cc_spots.specs.Spot.{CutAt, IsSpot}
use Rattle.cc_spots.proofs.CutLaws.{cuts_are_told}
use Rattle.cc_spots.proofs.StandingLaws.{standings_fit}
use Rattle.cc_told.proofs.Cases.{placers_are_named}
use Rattle.cc_told.proofs.Cuts.{func_low}
use Rattle.cc_values.proofs.Values.{handed_told}
use Rattle.mc_inspect.specs.declared.reading.Reading.{Reading}
use Rattle.mc_inspect.specs.steps.Found.{Holds, HoldsNone, Tells}
use Rattle.mc_inspect.specs.steps.Placings.{IsPlacedValue}
use Rattle.mc_inspect.specs.steps.Read.{HasScores}
use Rattle.mc_inspect.proofs.AtCuts.{calm_of}
use Rattle.mc_inspect.proofs.Following.{body_follows, follows_body, same_body}

-- ---- the value's type

-- a state with these scores of results
state_of : Option ℤ → Option ℤ → State
state_of low high =
    record { places = []; scores = λ h. if bytes_eq (result_score 0) h then low else high; keys = λ r k. None }

abbrev IsHanded : ValType → Value → State → Type 0
IsHanded kind v p = (const_type v ≡ kind) × AreHanded 0 (value_ints v) p

abbrev HandsNone : ValType → State → Type 0
HandsNone kind p = (v : Value) → const_type v ≡ kind → AreHanded 0 (value_ints v) p → ⊥

pub its_kind : (kind : ValType) (low high : Option ℤ) (o : Option Value)
    → ((p : State) → p.scores (result_score 0) ≡ low → p.scores (result_score 1) ≡ high → MatchOption o (HandsNone kind p) (λ v. IsHanded kind v p))
    → IfSome o (λ v. const_type v ≡ kind)
unfolding state_of
its_kind kind low high None h = tt
its_kind kind low high (Some v) h = (h (state_of low high) refl refl).0

-- ---- whether there is such a cut

module _ (m : Module) (x : Reading) (ints place : ℕ) (few : (ints ≡ 1) ⊎ (ints ≡ 2)) (low : first_placer + place < first_pair_placer) where
  pub no_body : ((f j : ℕ) → x.follows ≡ Some (ids.Body f j) → ⊥) → Tells m x (placer ints place) None
  no_body none program fit p tells read runs named cs a standing =
      let w = (placers_are_named m program fit cs a p standing ints place few low named).standing in
      none a.func w.cut.index (follows_body x.follows p read.follows a.func w.cut.index (func_low m program a.func w.cut w.is_cut) w.follows)

  module _ (func index : ℕ) (follows : x.follows ≡ Some (ids.Body func index)) where
    pub no_such_cut : ((c : Cut) → Contains (function_cuts m func) c → c.index ≡ index → ⊥) → Tells m x (placer ints place) None
    no_such_cut none program fit p tells read runs named cs a standing =
        let w = (placers_are_named m program fit cs a p standing ints place few low named).standing in
        let (in_func, is_index) = same_body x.follows p read.follows func index a.func w.cut.index follows (func_low m program a.func w.cut w.is_cut) w.follows in
        none w.cut (subst (λ (k : ℕ). Contains (function_cuts m k) w.cut) in_func w.is_cut) is_index

    pub beyond : function_placers m func ≤ place → Tells m x (placer ints place) None
    beyond few_places program fit p tells read runs named cs a standing =
        let n = placers_are_named m program fit cs a p standing ints place few low named in
        let w = n.standing in
        let (in_func, is_index) = same_body x.follows p read.follows func index a.func w.cut.index follows (func_low m program a.func w.cut w.is_cut) w.follows in
        let there : place < function_placers m func = subst₂ (λ (i k : ℕ). i < function_placers m k) n.is_spot in_func w.in_frame in
        absurd (omega arith)

-- ---- the activation there

module _ (m : Module) (x : Reading) (func index : ℕ) (spot : CutSpot) (s : IsSpot m func index spot) (ints place : ℕ)
    (few : (ints ≡ 1) ⊎ (ints ≡ 2)) (low : first_placer + place < first_pair_placer) (in_frame : place < function_placers m func)
    (follows : x.follows ≡ Some (ids.Body func index)) where
  abbrev here : CutAt m func index
  here = s.at

  -- ---- what stands there

  module _ (p : State) (cs : List Activation) (a : Activation) (w : Placing m cs a p) (in_func : a.func ≡ func) (is_index : w.cut.index ≡ index) where
    told : IsTold m func index here w.cut
    told = cuts_are_told m func index here w.cut (subst (λ (k : ℕ). Contains (function_cuts m k) w.cut) in_func w.is_cut) is_index

    fits : Fits m a w.visit here.body
    fits = standings_fit m a w.visit w.stands here.body (ap (function_body m) in_func ∙ here.is_body)

    visit_is : w.visit ≡ here.piece.cut
    visit_is = told.visit w.visit (subst (λ (k : ℕ). Contains (function_visits m k) w.visit) in_func fits.is_visit) w.place

    kinds_turned : const_type w.value ∷ types_of w.others ≡ reverse spot.kinds
    kinds_turned =
        sym (ap types_of w.parts) ∙ fits.operands ∙ ap (λ (v : Visit). reverse v.kinds) visit_is
        ∙ sym (ap (λ (y : CutSpot). reverse y.kinds) s.shown)

    its_locals : types_of a.locals ≡ spot.locals
    its_locals = fits.locals ∙ sym (ap (λ (y : CutSpot). y.locals) s.shown)

    pub not_empty : spot.kinds ≡ [] → ⊥
    not_empty none = let never : const_type w.value ∷ types_of w.others ≡ [] = kinds_turned ∙ ap reverse none in cc

    module _ (kinds : List ValType) (last : ValType) (parts : spot.kinds ≡ kinds ++ last ∷ []) where
      both : const_type w.value ∷ types_of w.others ≡ last ∷ reverse kinds
      both = kinds_turned ∙ ap reverse parts ∙ reverse-append kinds (last ∷ [])

      pub its_type : const_type w.value ≡ last
      its_type = let e = both in let h : const_type w.value ≡ last = cc in h

      its_others : types_of w.others ≡ reverse kinds
      its_others = let e = both in let h : types_of w.others ≡ reverse kinds = cc in h

      pub its_place : w.spot ≡ widths spot.locals + widths kinds
      its_place =
          w.is_next ∙ held_length a.locals w.others
          ∙ ap₂ (λ (n k : ℕ). n + k) (ap widths its_locals) (ap widths its_others ∙ widths_reverse kinds)

  -- ---- what is answered

  pub no_operand : spot.kinds ≡ [] → Tells m x (placer ints place) None
  no_operand none program fit p tells read runs named cs a standing =
      let n = placers_are_named m program fit cs a p standing ints place few low named in
      let w = n.standing in
      let (in_func, is_index) = same_body x.follows p read.follows func index a.func w.cut.index follows (func_low m program a.func w.cut w.is_cut) w.follows in
      not_empty p cs a w in_func is_index none

  module _ (kinds : List ValType) (last : ValType) (parts : spot.kinds ≡ kinds ++ last ∷ []) where
    pub no_value : ((p : State) → HasScores x.scores p → (v : Value) → IsPlacedValue spot kinds last ints place v p → ⊥) → Tells m x (placer ints place) None
    no_value none program fit p tells read runs named cs a standing =
        let n = placers_are_named m program fit cs a p standing ints place few low named in
        let w = n.standing in
        let (in_func, is_index) = same_body x.follows p read.follows func index a.func w.cut.index follows (func_low m program a.func w.cut w.is_cut) w.follows in
        none p read.scores w.value (record {
          type = its_type p cs a w in_func is_index kinds last parts;
          wide = n.is_wide;
          above = sym n.is_spot ∙ its_place p cs a w in_func is_index kinds last parts;
          handed = w.handed;
        })

    module _ (value : Value) (placed : (p : State) → HasScores x.scores p → IsPlacedValue spot kinds last ints place value p) where
      pub placed_answer : (r : Result (Option Inspection) Memory)
          → IfOk r (λ o. (i : ℕ) → IsSpot m func i spot → MatchOption o (HoldsNone m x func i (value ∷ [])) (λ v. Holds m x func i (value ∷ []) v))
          → IfOk r (Tells m x (placer ints place))
      placed_answer (Err e) h = tt
      placed_answer (Ok None) h = λ program fit p tells read runs named cs a standing.
          let n = placers_are_named m program fit cs a p standing ints place few low named in
          let w = n.standing in
          let (in_func, is_index) = same_body x.follows p read.follows func index a.func w.cut.index follows (func_low m program a.func w.cut w.is_cut) w.follows in
          let here = placed p read.scores in
          let kind : const_type w.value ≡ const_type value = its_type p cs a w in_func is_index kinds last parts ∙ sym here.type in
          let same : w.value ∷ [] ≡ value ∷ [] = handed_told (w.value ∷ []) (value ∷ []) p (ap (λ t. t ∷ []) kind) w.handed here.handed in
          h index s program p cs a read (record {
            in_func = in_func;
            cut = w.cut;
            is_cut = w.is_cut;
            is_index = is_index;
            visit = w.visit;
            stands = w.stands;
            place = w.place;
            others = w.others;
            parts = w.parts ∙ ap (λ vs. vs ++ w.others) same;
            frame = w.frame;
            below = w.below;
            waiting = w.waiting;
            is_below = w.calm.below;
          })
      placed_answer (Ok (Some v)) h = λ program fit p tells read runs named.
          let k = h index s p read in
          let a : Activation = k.activation in
          let c = k.held in
          let own = placed p read.scores in
          let fits : Fits m a c.visit here.body = standings_fit m a c.visit c.stands here.body (ap (function_body m) c.in_func ∙ here.is_body) in
          let is : IsTold m func index here c.cut =
          cuts_are_told m func index here c.cut (subst (λ (j : ℕ). Contains (function_cuts m j) c.cut) c.in_func c.is_cut) c.is_index in
          let visit : c.visit ≡ here.piece.cut = is.visit c.visit (subst (λ (j : ℕ). Contains (function_visits m j) c.visit) c.in_func fits.is_visit) c.place in
          let turned : const_type value ∷ types_of c.others ≡ last ∷ reverse kinds =
          sym (ap types_of c.parts) ∙ fits.operands ∙ ap (λ (u : Visit). reverse u.kinds) visit
          ∙ sym (ap (λ (y : CutSpot). reverse y.kinds) s.shown) ∙ ap reverse parts ∙ reverse-append kinds (last ∷ []) in
          let others : types_of c.others ≡ reverse kinds = cc in
          let count : place ≡ length (local_ints a.locals ++ stack_ints c.others) =
          own.above ∙ sym (held_length a.locals c.others
          ∙ ap₂ (λ (i j : ℕ). i + j) (ap widths (fits.locals ∙ sym (ap (λ (y : CutSpot). y.locals) s.shown))) (ap widths others ∙ widths_reverse kinds)) in
          record {
            callers = k.callers;
            activation = a;
            standing = placing (record {
              cut = c.cut;
              is_cut = c.is_cut;
              visit = c.visit;
              stands = c.stands;
              place = c.place;
              value = value;
              others = c.others;
              parts = c.parts;
              spot = place;
              is_next = count;
              in_frame = subst (λ (j : ℕ). place < function_placers m j) (sym c.in_func) in_frame;
              named = named ∙ ap (λ (j : ℕ). Some (id_tree (placer j place))) (sym own.wide);
              follows =
                  (body_follows x.follows p read.follows func index follows).1
                  ∙ ap₂ (λ (f j : ℕ). Some (id_tree (body_piece f j))) (sym c.in_func) (sym c.is_index);
              handed = own.handed;
              frame = c.frame;
              below = c.below;
              waiting = c.waiting;
              calm = calm_of m p c.below runs c.is_below;
            });
            shown = k.shown;
          }
