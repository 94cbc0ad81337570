-- The piece is next that fetches arguments into the frame of a function: whether the state stands for its activation.
use Rattle.std.proofs.Common.{◌≡◌, ◌<◌, ◌≤◌, ◌+◌, ◌-◌, ◌*◌, ℕ, ℤ, pos, List, ◌∷◌, ◌++◌, length, take, drop, replicate, Some, None, refl, sym, ap, ap₂, subst, ◌∙◌, append_assoc, arith}
use Rattle.std.specs.Prelude.{filter_map}
use Rattle.std.specs.List.{Contains}
use Rattle.std.proofs.lemmas.Bool.{lt-ltb, ltb-true}
use Rattle.std.proofs.lemmas.List.{length-append, length-drop, length-take-le, take-append-le}
use Rattle.wm_ast.specs.declared.module.Func.{Func}
use Rattle.wm_ast.specs.declared.module.FuncType.{FuncType}
use Rattle.wm_ast.specs.declared.module.Module.{Module}
use Rattle.wm_ast.specs.Store.{Callee, zero_of}
use Rattle.wm_ast.specs.Types.{run_types}
use Rattle.wm_flat.specs.Flat.{Activation}
use Rattle.wm_flat.specs.FlatTyping.{IsFunction}
use Rattle.wm_flat.specs.Program.{IsProgram}
use Rattle.wm_view.specs.declared.view.FrameView.{FrameView}
use Rattle.wm_view.specs.declared.view.Inspection.{Inspection}
use Rattle.cc_line.specs.declared.leaf.PieceId.TheVariants as ids
use Rattle.cc_line.specs.Key.{group_shared, id_tree}
use Rattle.cc_line.specs.State.{State}
use Rattle.cc_cut.specs.declared.table.Cut.{Cut}
use Rattle.cc_cut.specs.Cuts.{function_cuts}
use Rattle.cc_cut.specs.Law.{widths}
use Rattle.cc_move.proofs.CallLemmas.{called}
use Rattle.cc_pieces.specs.Fetching.{args_of_fetch, fetch_piece, most_fetches, most_passed}
use Rattle.cc_body.specs.Layout.{frame_size}
use Rattle.cc_simulate.specs.Frame.{local_ints, stack_ints}
use Rattle.cc_simulate.specs.Stands.{Fetching, fetching}
use Rattle.cc_simulate.proofs.Frames.{widths_append}
use Rattle.cc_spots.specs.declared.spot.CutSpot.{CutSpot}
use Rattle.cc_spots.specs.Spot.{IsSpot}
use Rattle.cc_told.specs.Cases.{OnTheWay, args_missing, turns_missing}
use Rattle.cc_told.proofs.Cases.{callee_low, fetches_are_named}
use Rattle.mc_inspect.specs.declared.reading.Reading.{Reading}
use Rattle.mc_inspect.specs.steps.Found.{Tells, spot_seen}
use Rattle.mc_inspect.specs.steps.Openings.{IsBegun, IsBegunNot, IsMade, IsPassed, IsPassedFor, IsPassedNot, type_at}
use Rattle.mc_inspect.specs.steps.Read.{IsReading}
use Rattle.mc_inspect.proofs.Arguments.{never_passed, passed_given, passing_found, passing_many, passing_wide}
use Rattle.mc_inspect.proofs.Beginning.{begun_args, begun_ints, begun_shown, begun_wide, callee_same, first_cut, function_at, its_gives, locals_are, never_begun, rules, type_there, who, zeros_there}
use Rattle.mc_inspect.proofs.Following.{body_follows, follows_body}
use Rattle.mc_inspect.proofs.Looking.{behind_division_is}
use Rattle.mc_inspect.proofs.Places.{front_parts}

-- ---- the places of a frame that has some of its arguments

-- the places that have none of the parameters
zeros_wide : (m : Module) (program : IsProgram m) (func : ℕ) (f : Func) (ty : FuncType) (is : IsFunction m func f ty) (spot : CutSpot) → IsSpot m func 1 spot
    → widths spot.locals - widths ty.params ≡ widths (run_types f.locals)
zeros_wide m program func f ty is spot s =
    let all = ap widths (locals_are m program func f ty is spot s) in
    let both = widths_append ty.params (run_types f.locals) in
    omega arith

module _ (m : Module) (program : IsProgram m) (x : Reading) (p : State) (read : IsReading x p) (func : ℕ) (f : Func) (ty : FuncType) (is : IsFunction m func f ty) (spot : CutSpot) (s : IsSpot m func 1 spot)
    (count : ℕ) where
  abbrev zeros : ℕ
  zeros = widths (run_types f.locals)

  module _ (cs : List Activation) (c a : Activation) (h : Fetching m cs c a count p) (same : a.func ≡ func) where
    abbrev zs : List ℤ
    zs = stack_ints h.passing.args

    wide : length zs ≡ widths ty.params
    wide = passing_wide m program x p read func f ty is cs c a h.passing same

    places : x.places.items ≡ (take (args_of_fetch * count) zs ++ h.missing) ++ (local_ints h.passing.callee.zeros ++ h.junk)
    places = sym read.places ∙ h.places

    zeros_are : local_ints h.passing.callee.zeros ≡ replicate zeros (pos 0)
    zeros_are =
        ap (λ (k : Callee). local_ints k.zeros) (callee_same m program func f ty is a.func same h.passing.callee h.passing.is_callee)
        ∙ zeros_there m program func f ty is

    front_wide : length (take (args_of_fetch * count) zs ++ h.missing) ≡ widths ty.params
    front_wide =
        let both = length-append (take (args_of_fetch * count) zs) h.missing in
        let first : length (take (args_of_fetch * count) zs) ≡ args_of_fetch * count = length-take-le (args_of_fetch * count) zs (omega (arith, h.some_left)) in
        omega (arith, h.counted, wide)

    -- what was read has them
    pub is_made : (given rest : List ℤ) → given ≡ zs ++ rest → (fetched : ℕ) → fetched ≡ args_of_fetch * count → IsMade x.places.items spot given fetched (widths ty.params)
    is_made given rest parts fetched are =
        let long = ap length parts ∙ length-append zs rest in
        let fits : fetched ≤ length zs = omega (arith, h.some_left) in
        let front : take fetched given ≡ take (args_of_fetch * count) zs =
        ap (take fetched) parts ∙ take-append-le fetched zs rest fits ∙ ap (λ (n : ℕ). take n zs) are in
        record {
          sized = ap length (sym read.places) ∙ h.sized ∙ ap (frame_size m) same ∙ sym (ap (λ (y : CutSpot). y.size) s.shown);
          enough = omega arith;
          front = (
            h.missing ++ (local_ints h.passing.callee.zeros ++ h.junk),
            places ∙ append_assoc (take (args_of_fetch * count) zs) h.missing (local_ints h.passing.callee.zeros ++ h.junk)
                ∙ ap (λ l. l ++ (h.missing ++ (local_ints h.passing.callee.zeros ++ h.junk))) (sym front),
          );
          zeros = record {
            front = take (args_of_fetch * count) zs ++ h.missing;
            rest = h.junk;
            parts =
                places
                ∙ ap (λ l. (take (args_of_fetch * count) zs ++ h.missing) ++ (l ++ h.junk))
                (zeros_are ∙ ap (λ (n : ℕ). replicate n (pos 0)) (sym (zeros_wide m program func f ty is spot s)));
            front_length = front_wide;
          };
        }

  -- what was read is of a frame that has them
  module _ (given : List ℤ) (fv : FrameView) (b : IsBegun func spot (length ty.params) given fv) (fetched : ℕ) (are : fetched ≡ args_of_fetch * count) (left : fetched < widths ty.params)
      (k : IsMade x.places.items spot given fetched (widths ty.params)) where
    abbrev ys : List ℤ
    ys = stack_ints (begun_args m program func f ty is spot s given fv b)

    long : length ys ≡ widths ty.params
    long = begun_wide m program func f ty is spot s given fv b

    abbrev missing : List ℤ
    missing = drop fetched k.zeros.front

    fetched_first : x.places.items ≡ take fetched ys ++ k.front.0
    fetched_first =
        k.front.1
        ∙ ap (λ l. l ++ k.front.0) (ap (take fetched) (begun_ints m program func f ty is spot s given fv b) ∙ take-append-le fetched ys b.rest (omega (arith, long)))

    parted : k.zeros.front ≡ take fetched ys ++ missing
    parted =
        front_parts x.places.items ys k.zeros.front k.front.0 (replicate (widths spot.locals - widths ty.params) (pos 0) ++ k.zeros.rest) fetched fetched_first k.zeros.parts
        (omega (arith, long)) (omega (arith, k.zeros.front_length))

    pub found_places : p.places ≡ (take (args_of_fetch * count) ys ++ missing) ++ (local_ints (filter_map zero_of (run_types f.locals)) ++ k.zeros.rest)
    found_places =
        read.places ∙ k.zeros.parts
        ∙ ap (λ l. l ++ (replicate (widths spot.locals - widths ty.params) (pos 0) ++ k.zeros.rest)) (parted ∙ ap (λ (n : ℕ). take n ys ++ missing) are)
        ∙ ap (λ l. (take (args_of_fetch * count) ys ++ missing) ++ (l ++ k.zeros.rest))
        (ap (λ (n : ℕ). replicate n (pos 0)) (zeros_wide m program func f ty is spot s) ∙ sym (zeros_there m program func f ty is))

    pub found_count : args_of_fetch * count + length missing ≡ length ys
    found_count = let short = length-drop fetched k.zeros.front in omega (arith, long, k.zeros.front_length)

    pub found_left : args_of_fetch * count < length ys
    found_left = omega (arith, long)

    pub found_size : length p.places ≡ frame_size m func
    found_size = ap length read.places ∙ k.sized ∙ ap (λ (y : CutSpot). y.size) s.shown

-- ---- no arguments are missing

module _ (m : Module) (x : Reading) (caller index count : ℕ) (few : count < most_fetches) (site : CutSpot) (at : IsSpot m caller index site) (divides : site.division ≡ None) where
  fetch_none : ((program : IsProgram m) (p : State) → IsReading x p → (cs : List Activation) (c a : Activation) (h : Fetching m cs c a count p) → c.func ≡ caller → h.passing.waits.cut.index ≡ index
      → x.follows ≡ Some (ids.Body a.func 1) → ⊥) → Tells m x (fetch_piece caller index count) None
  fetch_none none program low p told read runs named cs a standing = go (fetches_are_named m program low cs a p standing caller index count told few named)
    where
      go : OnTheWay m cs a p caller index count → ⊥
      go (args_missing c ds h g e i) =
          let l : a.func < 8192 = callee_low m program a.func h.passing.callee h.passing.is_callee in
          let low_name : a.func < group_shared = omega arith in
          none program p read ds c a h e i (follows_body x.follows p read.follows a.func 1 low_name h.follows)
      go (turns_missing h e i some z) =
          let is : site.division ≡ Some h.op = behind_division_is m x caller index site at a.func h.cut h.piece h.op h.is_piece e i h.behind in
          let never : None ≡ Some h.op = sym divides ∙ is in
          cc

  -- the first cut of no function follows
  pub nothing_begins : ((f : ℕ) → x.follows ≡ Some (ids.Body f 1) → ⊥) → Tells m x (fetch_piece caller index count) None
  nothing_begins none = fetch_none (λ program p read cs c a h e i follows. none a.func follows)

  module _ (func : ℕ) (begins : x.follows ≡ Some (ids.Body func 1)) where
    same_func : (n : ℕ) → x.follows ≡ Some (ids.Body n 1) → n ≡ func
    same_func n follows = let both : Some (ids.Body n 1) ≡ Some (ids.Body func 1) = sym follows ∙ begins in cc

    function_of : (cs : List Activation) (c a : Activation) (p : State) → Fetching m cs c a count p → x.follows ≡ Some (ids.Body a.func 1) → (f : Func) × (ty : FuncType) × IsFunction m func f ty
    function_of cs c a p h follows =
        let w = called m a.func h.passing.callee h.passing.is_callee in
        (w.func, w.type, subst (λ (j : ℕ). IsFunction m j w.func w.type) (same_func a.func follows) w.is_function)

    pub no_type_fetches : type_at m func ≡ None → Tells m x (fetch_piece caller index count) None
    no_type_fetches none =
        fetch_none
        (λ program p read cs c a h e i follows.
        let w = function_of cs c a p h follows in
        let never : None ≡ Some w.1 = sym none ∙ type_there m func w.0 w.1 w.2 in
        cc)

    pub no_cut_fetches : ((k : Cut) → Contains (function_cuts m func) k → k.index ≡ 1 → ⊥) → Tells m x (fetch_piece caller index count) None
    no_cut_fetches none =
        fetch_none
        (λ program p read cs c a h e i follows.
        let w = function_of cs c a p h follows in
        let r = rules m program func w.0 w.1 w.2 in
        none r.first.0 (first_cut m program func w.0 w.1 w.2) r.first.3)

    module _ (ty : FuncType) (type : type_at m func ≡ Some ty) where
      abbrev own : (f : Func) × IsFunction m func f ty
      own = function_at m func ty type

      pub unpassed_fetches : IsPassedNot m x ty caller index → Tells m x (fetch_piece caller index count) None
      unpassed_fetches none =
          fetch_none
          (λ program p read cs c a h e i follows.
          never_passed m program x p read func own.0 ty own.1 cs c a h.passing (same_func a.func follows) caller index e i none)

      -- too few arguments, or all are fetched
      pub few_fetches : widths ty.params ≤ most_passed → Tells m x (fetch_piece caller index count) None
      few_fetches l =
          fetch_none
          (λ program p read cs c a h e i follows.
          let many : most_passed < widths ty.params =
          ltb-true most_passed (widths ty.params) (passing_many m program x p read func own.0 ty own.1 cs c a h.passing (same_func a.func follows)) in
          omega arith)

      pub all_fetched : widths ty.params ≤ args_of_fetch * count → Tells m x (fetch_piece caller index count) None
      all_fetched l =
          fetch_none
          (λ program p read cs c a h e i follows.
          let wide : length (stack_ints h.passing.args) ≡ widths ty.params =
          passing_wide m program x p read func own.0 ty own.1 cs c a h.passing (same_func a.func follows) in
          let some : args_of_fetch * count < length (stack_ints h.passing.args) = h.some_left in
          omega arith)

      module _ (spot : CutSpot) (s : IsSpot m func 1 spot) (frames : List FrameView) (given : List ℤ) (found : IsPassedFor m x ty caller index frames given) (fetched : ℕ)
          (are : fetched ≡ args_of_fetch * count) where
        pub unmade_fetches : (IsMade x.places.items spot given fetched (widths ty.params) → ⊥) → Tells m x (fetch_piece caller index count) None
        unmade_fetches none =
            fetch_none
            (λ program p read cs c a h e i follows.
            let same = same_func a.func follows in
            let parts = passed_given m program x p read func own.0 ty own.1 cs c a h.passing same caller index e i frames given found in
            none (is_made m program x p read func own.0 ty own.1 spot s count cs c a h same given parts.0 parts.1 fetched are))

        pub unbegun_fetches : IsBegunNot spot (length ty.params) given → Tells m x (fetch_piece caller index count) None
        unbegun_fetches none =
            fetch_none
            (λ program p read cs c a h e i follows.
            let same = same_func a.func follows in
            let parts = passed_given m program x p read func own.0 ty own.1 cs c a h.passing same caller index e i frames given found in
            never_begun m program func own.0 ty own.1 spot s given none a.func same h.passing.callee h.passing.is_callee h.passing.args h.passing.types parts.0 parts.1)

        -- ---- some are

        pub fetch_some : (fv : FrameView) → IsBegun func spot (length ty.params) given fv → most_passed < widths ty.params → fetched < widths ty.params
            → IsMade x.places.items spot given fetched (widths ty.params) → (v : Inspection) → v ≡ spot_seen frames fv spot → Tells m x (fetch_piece caller index count) (Some v)
        fetch_some fv b many left made v shown program low p told read runs named =
            let w : IsPassed m func p ty caller index frames given = found program p func read (its_gives m program func own.0 ty own.1) in
            record {
              callers = w.caller ∷ w.callers;
              activation = who m program func own.0 ty own.1 spot s given fv b;
              standing = fetching w.caller w.callers count (record {
                passing =
                    passing_found m program x p read func own.0 ty own.1 spot s caller index frames given w fv b (lt-ltb most_passed (widths ty.params) many) runs;
                named = named ∙ ap₂ (λ (g j : ℕ). Some (id_tree (fetch_piece g j count))) (sym w.passed.in_func) (sym w.passed.is_index);
                follows = (body_follows x.follows p read.follows func 1 begins).1;
                some_left = found_left m program x p read func own.0 ty own.1 spot s count given fv b fetched are left made;
                missing = drop fetched made.zeros.front;
                junk = made.zeros.rest;
                places = found_places m program x p read func own.0 ty own.1 spot s count given fv b fetched are left made;
                counted = found_count m program x p read func own.0 ty own.1 spot s count given fv b fetched are left made;
                sized = found_size m program x p read func own.0 ty own.1 spot s count given fv b fetched are left made;
              }) refl;
              shown = begun_shown m program func own.0 ty own.1 spot s given fv b (w.caller ∷ w.callers) frames w.shown ∙ sym shown;
            }
