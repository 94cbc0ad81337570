-- Arguments of a call from outside that are taken: whether they stand in their places, and whether it is a call.
use Rattle.std.proofs.Common.{◌≡◌, ◌≤◌, ◌<◌, ◌+◌, ◌*◌, ℕ, ℤ, List, [], ◌∷◌, ◌++◌, length, take, drop, reverse, Bool, true, false, Option, Some, None, Vec, Global, refl, sym, ap, subst, ◌∙◌, arith}
use Rattle.std.specs.Prelude.{option_and_then, option_map, pos, replicate, slice_get}
use Rattle.std.specs.Bool.{◌==◌}
use Rattle.std.specs.List.{Contains, slice_range, starts_with}
use Rattle.std.specs.Ordering.{int_eq}
use Rattle.std.proofs.Math.Seq.{drop-append_seam, drop-length}
use Rattle.std.proofs.lemmas.Bool.{eq-eqb, eqb-true}
use Rattle.std.proofs.lemmas.Bool.Decides.{Decides-int_eq}
use Rattle.std.proofs.lemmas.List.{append-nil, length-take-le, take-append-drop}
use Rattle.std.proofs.lemmas.List.Folds.{drop_split}
use Rattle.std.proofs.lemmas.Slice.Eq.{starts_is}
use Rattle.wm_ast.specs.declared.module.FuncType.{FuncType}
use Rattle.wm_ast.specs.declared.module.Module.{Module}
use Rattle.wm_ast.specs.declared.module.ValType.{ValType}
use Rattle.wm_ast.specs.Types.{function_type}
use Rattle.wm_valid.specs.Arrows.{◌>>=◌}
use Rattle.wm_valid.proofs.OperandLaws.{bind_some}
use Rattle.wm_flat.specs.Flat.{Activation}
use Rattle.wm_flat.specs.Program.{IsProgram}
use Rattle.wm_place.proofs.LevelLemmas.{some_of}
use Rattle.wm_view.specs.declared.view.FrameView.{FrameView}
use Rattle.wm_view.specs.Seen.{frames_round}
use Rattle.cc_line.specs.declared.leaf.PieceId.TheVariants as ids
use Rattle.cc_line.specs.Running.{Kept, below_tree}
use Rattle.cc_line.specs.State.{State, ints, tree_ints}
use Rattle.cc_line.proofs.ActLemmas.{ints_are}
use Rattle.cc_call.specs.Frames.{base}
use Rattle.cc_call.specs.Law.{IsBelow}
use Rattle.cc_entries.specs.Law.{AllTell, NameTells}
use Rattle.cc_entries.proofs.Telling.{entries_tell}
use Rattle.cc_cut.specs.declared.table.Cut.{Cut}
use Rattle.cc_cut.specs.Cuts.{function_cuts}
use Rattle.cc_cut.specs.Law.{HasRules, widths}
use Rattle.cc_cut.proofs.ListLemmas.{contains, in_get}
use Rattle.cc_cut.proofs.RuleLemmas.{cuts_have_rules}
use Rattle.cc_move.specs.Calls.{gives_of}
use Rattle.cc_pieces.specs.Entry.{args_of_piece, first_taker, taker}
use Rattle.cc_pieces.specs.Law.{most_takers}
use Rattle.cc_body.specs.Layout.{frame_size}
use Rattle.cc_simulate.specs.Callers.{Waiting}
use Rattle.cc_simulate.specs.Frame.{local_ints}
use Rattle.cc_simulate.specs.Stands.{Running}
use Rattle.cc_simulate.specs.Uses.{uses_bytes}
use Rattle.cc_spots.specs.declared.spot.CutSpot.{CutSpot}
use Rattle.cc_spots.specs.Spot.{IsSpot}
use Rattle.cc_told.specs.Cases.{Names}
use Rattle.cc_told.proofs.Callers.{callers_have_names, callers_told}
use Rattle.mc_inspect.specs.declared.reading.Reading.{Reading}
use Rattle.mc_inspect.specs.steps.Found.{BelowShown, HasNoneBelow, ShowBelow, Takes, TellsOfCall}
use Rattle.mc_inspect.specs.steps.Openings.{AreTaken, type_at}
use Rattle.mc_inspect.specs.steps.Read.{HasArgs, IsReading}
use Rattle.mc_inspect.proofs.AtCuts.{calm_of}
use Rattle.mc_inspect.proofs.Ended.{no_frames}
use Rattle.mc_inspect.proofs.Following.{body_follows, follows_body, same_body}
use Rattle.mc_inspect.proofs.OneView.{function_low}
use Rattle.mc_inspect.proofs.OutsideCalls.{as_values, as_values_ints, taker_named}

-- ---- in their places

range_from : (zs : List ℤ) (from : ℕ) → from ≤ length zs → slice_range zs from (length zs) ≡ drop from zs
range_from zs from l =
    sym (append-nil (slice_range zs from (length zs))) ∙ ap (λ ys. slice_range zs from (length zs) ++ ys) (sym (drop-length zs))
    ∙ sym (drop_split zs from (length zs) l)

pub taken_answer : (places ints behind others : List ℤ) (from : ℕ) → from ≤ length places → from ≤ length ints → behind ≡ slice_range places from (length places)
    → others ≡ slice_range ints from (length ints) → (b : Bool) → b ≡ starts_with int_eq behind others → (b ≡ true → AreTaken places ints from) × (AreTaken places ints from → b ≡ true)
taken_answer places ints behind others from room whole is those b test = (
  λ e. record {
    whole = whole;
    front = take from places;
    front_length = length-take-le from places room;
    junk = drop (length others) behind;
    parts =
        sym (take-append-drop from places)
        ∙ ap (λ zs. take from places ++ zs) (sym behind_is ∙ starts.0 e ∙ ap (λ zs. zs ++ drop (length others) behind) others_are);
  },
  λ t. starts.1 t.junk
      (behind_is ∙ ap (drop from) t.parts ∙ ap (λ k. drop k (t.front ++ (drop from ints ++ t.junk))) (sym t.front_length)
      ∙ drop-append_seam t.front (drop from ints ++ t.junk) ∙ ap (λ zs. zs ++ t.junk) (sym others_are)),
)
  where
    behind_is : behind ≡ drop from places
    behind_is = is ∙ range_from places from room

    others_are : others ≡ drop from ints
    others_are = those ∙ range_from ints from whole

    starts : (b ≡ true → behind ≡ others ++ drop (length others) behind) × ((rest : List ℤ) → behind ≡ others ++ rest → b ≡ true)
    starts = starts_is Decides-int_eq behind others b test

-- ---- the outermost function

module _ (m : Module) (x : Reading) (func : ℕ) (gives : List ValType) (given : gives_of m func ≡ reverse gives) where
  -- what is below where nobody called it
  abbrev bottom : List Kept
  bottom = base (widths (gives_of m func)) ∷ []

  abbrev IsOutermost : Bool → Type 0
  IsOutermost b = IsProgram m → (p : State) → IsReading x p → (b ≡ true → IsBelow bottom p) × (IsBelow bottom p → b ≡ true)

  nobody : (p : State) (fs : List FrameView) → fs ≡ [] → (cs : List Activation) (bs : List Kept) → Waiting m func cs bs → IsBelow bs p → fs ≡ frames_round cs [] → IsBelow bottom p
  nobody p fs none [] bs w below shown = subst (λ (ks : List Kept). IsBelow ks p) w below
  nobody p fs none (c ∷ cs) bs w below shown = absurd (no_frames c cs fs shown none)

  no_caller : IsProgram m → (p : State) (fs : List FrameView) → BelowShown m func p fs → IsBelow bottom p → fs ≡ []
  no_caller program p fs b below =
      let told : AllTell bottom = callers_have_names m program func [] bottom refl in
      let own : AllTell b.below = callers_have_names m program func b.callers b.below b.waiting in
      let same : b.below ≡ bottom = entries_tell b.below bottom own told (some_of (below_tree b.below) (below_tree bottom) (sym b.is_below ∙ below)) in
      let none : [] ≡ b.callers = callers_told m program func func [] b.callers bottom refl (subst (Waiting m func b.callers) same b.waiting) in
      b.shown ∙ ap (λ cs. frames_round cs []) (sym none)

  pub outermost_by_frames : (fs : List FrameView) → ShowBelow m x gives fs → (b : Bool) → (b ≡ true → fs ≡ []) × (fs ≡ [] → b ≡ true) → IsOutermost b
  outermost_by_frames fs below b test program p read =
      let shown = below p func read given in
      (λ e. nobody p fs (test.0 e) shown.callers shown.below shown.waiting shown.is_below shown.shown, λ h. test.1 (no_caller program p fs shown h))

  pub outermost_not : HasNoneBelow m x gives → IsOutermost false
  outermost_not none program p read = (λ e. absurd cc, λ h. absurd (none program p func [] bottom read given refl h))

-- whether there are none
pub are_none : {A : Type 0} (xs : List A) (n : ℕ) → n ≡ length xs → (b : Bool) → b ≡ (n == 0) → (b ≡ true → xs ≡ []) × (xs ≡ [] → b ≡ true)
are_none [] n l b e = (λ h. refl, λ h. e ∙ eq-eqb n 0 l)
are_none (x ∷ xs) n l b e = (
  λ h. absurd (let never : n ≡ 0 = eqb-true n 0 (sym e ∙ h) in omega arith),
  λ h. absurd cc,
)

-- ---- whether it is a call that takes its arguments

module _ (m : Module) (x : Reading) (number : ℕ) where
  abbrev Tell : Bool → Type 0
  Tell b = TellsOfCall m x (taker number) (Takes m) b

  pub no_beginning : ((f : ℕ) → x.follows ≡ Some (ids.Body f 1) → ⊥) → Tell false
  no_beginning none program low p told read runs named t =
      none t.index (follows_body x.follows p read.follows t.index 1 (function_low m program t.index t.func t.type t.is_function) t.taking.follows)

  pub none_handed_in : x.args ≡ None → Tell false
  none_handed_in none program low p told read runs named t =
      subst (λ (o : Option (Vec ℤ Global)). HasArgs (option_map (λ v. v.items) o) p) none read.args (local_ints t.args) t.taking.given

  module _ (func : ℕ) (follows : x.follows ≡ Some (ids.Body func 1)) where
    its_func : IsProgram m → (p : State) → IsReading x p → (t : Takes m p) → t.index ≡ func
    its_func program p read t =
        (same_body x.follows p read.follows func 1 t.index 1 follows (function_low m program t.index t.func t.type t.is_function) t.taking.follows).0

    pub no_type : type_at m func ≡ None → Tell false
    no_type none program low p told read runs named t =
        let there : type_at m func ≡ Some t.type =
        ap (λ o. o >>= function_type m) (ap (slice_get m.funcs) (sym (its_func program p read t)) ∙ t.is_function.there) ∙ t.is_function.has_type in
        let never : None ≡ Some t.type = sym none ∙ there in
        cc

    pub not_outermost : (b : Bool) → b ≡ false
        → (IsProgram m → (p : State) → IsReading x p → (b ≡ true → IsBelow (base (widths (gives_of m func)) ∷ []) p) × (IsBelow (base (widths (gives_of m func)) ∷ []) p → b ≡ true))
        → Tell false
    not_outermost b e test program low p told read runs named t =
        let below = subst (λ (n : ℕ). IsBelow (base (widths (gives_of m n)) ∷ []) p) (its_func program p read t) t.taking.calm.below in
        let so : b ≡ true = (test program p read).1 below in
        absurd (let never : false ≡ true = sym e ∙ so in cc)

    -- each function has a first cut
    pub no_first_cut : ((c : Cut) → Contains (function_cuts m func) c → c.index ≡ 1 → ⊥) → Tell false
    no_first_cut none program low p told read runs named t =
        let rules : HasRules m t.index t.func = cuts_have_rules m program.valid t.index t.func t.is_function.there in
        let cut : Cut = rules.first.0 in
        let is_cut = contains (function_cuts m t.index) cut (in_get (function_cuts m t.index) 0 cut rules.first.1) in
        none cut (subst (λ (n : ℕ). Contains (function_cuts m n) cut) (its_func program p read t) is_cut) rules.first.3

    module _ (spot : CutSpot) (s : IsSpot m func 1 spot) where
      size_is : spot.size ≡ frame_size m func
      size_is = ap (λ (y : CutSpot). y.size) s.shown

      pub not_sized : (length x.places.items ≡ spot.size → ⊥) → Tell false
      not_sized differs program low p told read runs named t =
          differs (ap length (sym read.places) ∙ t.taking.sized ∙ ap (frame_size m) (its_func program p read t) ∙ sym size_is)

      module _ (few : number < most_takers) (type : FuncType) (is_type : type_at m func ≡ Some type)
          (outermost : IsProgram m → (p : State) → IsReading x p → IsBelow (base (widths (gives_of m func)) ∷ []) p)
          (zs : List ℤ) (handed : option_map (λ (v : Vec ℤ Global). v.items) x.args ≡ Some zs) (sized : length x.places.items ≡ spot.size) where
        abbrev from : ℕ
        from = args_of_piece * (number + 1)

        given : (p : State) → IsReading x p → HasArgs (Some zs) p
        given p read = subst (λ (o : Option (List ℤ)). HasArgs o p) handed read.args

        taking : IsProgram m → (p : State) → IsReading x p → Running (uses_bytes m) p → Names (taker number) p → AreTaken x.places.items zs from → Takes m p
        taking program p read runs named t =
            let f = bind_some (slice_get m.funcs func) (function_type m) type is_type in
            record {
              index = func;
              func = f.0;
              type = type;
              is_function = record { there = f.1; has_type = f.2 };
              args = as_values zs;
              zeros = 0;
              number = number;
              few = few;
              taking = record {
                named = named;
                follows = (body_follows x.follows p read.follows func 1 follows).1;
                given = given p read ∙ ap (λ ys. Some (ints ys)) (sym (as_values_ints zs));
                whole = subst (λ (ys : List ℤ). from ≤ length ys) (sym (as_values_ints zs)) t.whole;
                front = t.front;
                junk = t.junk;
                made = read.places ∙ t.parts ∙ ap (λ ys. t.front ++ (drop from ys ++ t.junk)) (sym (as_values_ints zs));
                front_length = t.front_length;
                sized = ap length read.places ∙ sized ∙ size_is;
                calm = calm_of m p (base (widths (gives_of m func)) ∷ []) runs (outermost program p read);
              };
            }

        taken : IsProgram m → (p : State) → NameTells (taker number) → IsReading x p → Names (taker number) p → (t : Takes m p) → AreTaken x.places.items zs from
        taken program p told read named t =
            let name : taker number ≡ taker t.number = taker_named m program p (taker number) told named t in
            let indices : first_taker + number ≡ first_taker + t.number = cc in
            let count : args_of_piece * (t.number + 1) ≡ from = let same : t.number ≡ number = omega arith in ap (λ k. args_of_piece * (k + 1)) same in
            let trees : Some (ints (local_ints t.args)) ≡ Some (ints zs) = sym t.taking.given ∙ given p read in
            let lists : Some (local_ints t.args) ≡ Some zs = sym (ints_are (local_ints t.args)) ∙ ap (option_and_then tree_ints) trees ∙ ints_are zs in
            let own : AreTaken x.places.items (local_ints t.args) (args_of_piece * (t.number + 1)) =
            record {
              whole = t.taking.whole;
              front = t.taking.front;
              front_length = t.taking.front_length;
              junk = replicate t.zeros (pos 0) ++ t.taking.junk;
              parts = sym read.places ∙ t.taking.made;
            } in
            subst (AreTaken x.places.items zs) count
            (subst (λ (ys : List ℤ). AreTaken x.places.items ys (args_of_piece * (t.number + 1))) (some_of (local_ints t.args) zs lists) own)

        pub taken_tells : (b : Bool) → (b ≡ true → AreTaken x.places.items zs from) × (AreTaken x.places.items zs from → b ≡ true) → Tell b
        taken_tells true test = λ program low p told read runs named. taking program p read runs named (test.0 refl)
        taken_tells false test = λ program low p told read runs named t.
            absurd (let never : false ≡ true = test.1 (taken program p told read named t) in cc)
