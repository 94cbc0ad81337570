-- The laws of lean items hold: what they do, weigh and call, and that they keep their form.
use Rattle.std.proofs.Common.{[]}
use Rattle.cc_copies.proofs.Fits.{all_even_same, all_helpers_same, all_named_same, exits_same as reads_exit, items_avoid, items_fitting, items_shorter}
use Rattle.cc_copies.proofs.Leads.{reads_lead}
use Rattle.cc_copies.proofs.Lights.{items_light}
use Rattle.cc_names.proofs.Changes as named
use Rattle.cc_names.proofs.Runs as naming
use Rattle.cc_stops.proofs.Changes as halted
use Rattle.cc_stops.proofs.Runs.{runs_alike}
use Rattle.cc_unread.proofs.Changes.{exits_same, helpers_same, keeps_avoiding, keeps_even, keeps_fit, keeps_named, keeps_short, weighs_less}
use Rattle.cc_unread.proofs.Runs.{unchanged}
use Rattle.cc_targets.proofs.Changes as moved
use Rattle.cc_targets.proofs.Runs as moving
use Rattle.cc_passes.specs.Law.{LeanItemsAreEven, LeanItemsAreNamed, LeanItemsAreShort, LeanItemsAvoidSched, LeanItemsExitNoMore, LeanItemsFit, LeanItemsHaveHelpers, LeanItemsLead, LeanItemsWeighNoMore}
use Rattle.cc_passes.proofs.Forms.{are_even, are_lines, are_named, are_short, avoid_sched, exit_no_more, have_helpers, weigh_no_more}
use Rattle.cc_passes.proofs.Leading.{lean_items_lead}

pub lean_lead : LeanItemsLead
lean_lead = lean_items_lead runs_alike naming.runs_alike reads_lead unchanged moving.unchanged

pub lean_weigh : LeanItemsWeighNoMore
lean_weigh = weigh_no_more halted.weighs_no_more named.weighs_no_more (λ xs. items_light [] xs tt) weighs_less moved.weighs_less

pub lean_exit : LeanItemsExitNoMore
lean_exit = exit_no_more halted.exits_no_more named.exits_same (λ xs. reads_exit [] xs) exits_same moved.exits_same

pub lean_helpers : LeanItemsHaveHelpers
lean_helpers = have_helpers halted.helpers_same named.helpers_same (λ ns xs. all_helpers_same ns [] xs) (λ ns stops ends xs. helpers_same stops ends ns xs) moved.helpers_same

pub lean_named : LeanItemsAreNamed
lean_named = are_named halted.keeps_named named.keeps_named (λ all xs h. all_named_same all [] xs h) (λ names stops ends xs. keeps_named stops ends names xs) moved.keeps_named

pub lean_fits : LeanItemsFit
lean_fits = are_lines halted.keeps_fit named.keeps_fit (λ xs h. items_fitting [] xs tt tt h) keeps_fit moved.keeps_fit

pub lean_short : LeanItemsAreShort
lean_short = are_short halted.keeps_fit named.keeps_fit halted.keeps_short named.keeps_short (λ xs f h. items_shorter [] xs tt f h) keeps_short moved.keeps_short

pub lean_avoids : LeanItemsAvoidSched
lean_avoids = avoid_sched halted.keeps_avoiding named.keeps_avoiding (λ xs h. items_avoid [] xs h) keeps_avoiding moved.keeps_avoiding

pub lean_even : LeanItemsAreEven
lean_even = are_even halted.keeps_even named.keeps_even (λ xs h. all_even_same [] xs h) keeps_even moved.keeps_even
