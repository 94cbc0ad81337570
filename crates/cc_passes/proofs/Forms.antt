-- What lean items weigh and call, and that they keep their form.
use Rattle.std.proofs.Common.{ℕ, ◌≤◌, List, Option, sym, ◌∙◌, subst, arith}
use Rattle.cc_line.specs.Item.{Items, items_most}
use Rattle.cc_sched.specs.Charge.{exits}
use Rattle.cc_copies.specs.Law.{ReadsAreEven, ReadsAreNamed, ReadsAreShort, ReadsAvoidSched, ReadsExitAlike, ReadsFit, ReadsHaveHelpers, ReadsWeighNoMore}
use Rattle.cc_copies.specs.Read.{read_at_sources}
use Rattle.cc_names.specs.Law as naming
use Rattle.cc_names.specs.Names.{with_needed_names}
use Rattle.cc_stops.specs.Law as halting
use Rattle.cc_stops.specs.Stops.{without_stops}
use Rattle.cc_unread.specs.Law.{ExitsSame, HelpersSame, KeepsAvoiding, KeepsEven, KeepsFit, KeepsNamed, KeepsShort, WeighsLess}
use Rattle.cc_unread.specs.Unread.{without_unread}
use Rattle.cc_targets.specs.Law as moved
use Rattle.cc_passes.specs.Bound.{ends_bound, or_all, stops_bound}
use Rattle.cc_passes.specs.Law.{LeanItemsAreEven, LeanItemsAreNamed, LeanItemsAreShort, LeanItemsAvoidSched, LeanItemsExitNoMore, LeanItemsFit, LeanItemsHaveHelpers, LeanItemsWeighNoMore}
use Rattle.cc_passes.specs.Lean.{lean_items}

-- the bounds of the items of a piece
module _ (func : ℕ) (heights : List ℕ) (own : Option ℕ) (xs : Items) where
  abbrev few : Items
  few = with_needed_names (without_stops xs)

  abbrev stops : ℕ
  stops = or_all (stops_bound func heights own few)

  abbrev ends : ℕ
  ends = or_all (ends_bound func heights own few)

  abbrev mid : Items
  mid = read_at_sources few

  abbrev low : Items
  low = without_unread stops ends mid

pub weigh_no_more : halting.WeighsNoMore → naming.WeighsNoMore → ReadsWeighNoMore → WeighsLess → moved.WeighsLess → LeanItemsWeighNoMore
weigh_no_more halts names reads less targets func heights own xs =
    let y : items_most (without_stops xs) ≤ items_most xs = halts xs in
    let z : items_most (few func heights own xs) ≤ items_most (without_stops xs) = names (without_stops xs) in
    let a : items_most (mid func heights own xs) ≤ items_most (few func heights own xs) = reads (few func heights own xs) in
    let b : items_most (low func heights own xs) ≤ items_most (mid func heights own xs) = less (stops func heights own xs) (ends func heights own xs) (mid func heights own xs) in
    let c : items_most (lean_items func heights own xs) ≤ items_most (low func heights own xs) = targets (stops func heights own xs) (ends func heights own xs) (low func heights own xs) in
    omega arith

pub exit_no_more : halting.ExitsNoMore → naming.ExitsSame → ReadsExitAlike → ExitsSame → moved.ExitsSame → LeanItemsExitNoMore
exit_no_more halts names reads same targets func heights own xs =
    subst (λ n. n ≤ exits xs)
    (sym (targets (stops func heights own xs) (ends func heights own xs) (low func heights own xs) ∙ (same (stops func heights own xs) (ends func heights own xs) (mid func heights own xs) ∙ (reads (few func heights own xs) ∙ names (without_stops xs)))))
    (halts xs)

pub have_helpers : halting.HelpersSame → naming.HelpersSame → ReadsHaveHelpers → HelpersSame → moved.HelpersSame → LeanItemsHaveHelpers
have_helpers halts names reads same targets ns func heights own xs = targets ns (stops func heights own xs) (ends func heights own xs) (low func heights own xs) ∙ (same ns (stops func heights own xs) (ends func heights own xs) (mid func heights own xs) ∙ (reads ns (few func heights own xs) ∙ (names ns (without_stops xs) ∙ halts ns xs)))

pub are_named : halting.KeepsNamed → naming.KeepsNamed → ReadsAreNamed → KeepsNamed → moved.KeepsNamed → LeanItemsAreNamed
are_named halts names reads keeps targets all func heights own xs n = targets all (stops func heights own xs) (ends func heights own xs) (low func heights own xs) (keeps all (stops func heights own xs) (ends func heights own xs) (mid func heights own xs) (reads all (few func heights own xs) (names all (without_stops xs) (halts all xs n))))

pub are_lines : halting.KeepsFit → naming.KeepsFit → ReadsFit → KeepsFit → moved.KeepsFit → LeanItemsFit
are_lines halts names reads keeps targets func heights own xs f = targets (stops func heights own xs) (ends func heights own xs) (low func heights own xs) (keeps (stops func heights own xs) (ends func heights own xs) (mid func heights own xs) (reads (few func heights own xs) (names (without_stops xs) (halts xs f))))

pub are_short : halting.KeepsFit → naming.KeepsFit → halting.KeepsShort → naming.KeepsShort → ReadsAreShort → KeepsShort → moved.KeepsShort → LeanItemsAreShort
are_short fits fit halts names reads keeps targets func heights own xs f h = targets (stops func heights own xs) (ends func heights own xs) (low func heights own xs) (keeps (stops func heights own xs) (ends func heights own xs) (mid func heights own xs) (reads (few func heights own xs) (fit (without_stops xs) (fits xs f)) (names (without_stops xs) (halts xs h))))

pub avoid_sched : halting.KeepsAvoiding → naming.KeepsAvoiding → ReadsAvoidSched → KeepsAvoiding → moved.KeepsAvoiding → LeanItemsAvoidSched
avoid_sched halts names reads keeps targets func heights own xs h = targets (stops func heights own xs) (ends func heights own xs) (low func heights own xs) (keeps (stops func heights own xs) (ends func heights own xs) (mid func heights own xs) (reads (few func heights own xs) (names (without_stops xs) (halts xs h))))

pub are_even : halting.KeepsEven → naming.KeepsEven → ReadsAreEven → KeepsEven → moved.KeepsEven → LeanItemsAreEven
are_even halts names reads keeps targets func heights own xs h = targets (stops func heights own xs) (ends func heights own xs) (low func heights own xs) (keeps (stops func heights own xs) (ends func heights own xs) (mid func heights own xs) (reads (few func heights own xs) (names (without_stops xs) (halts xs h))))
