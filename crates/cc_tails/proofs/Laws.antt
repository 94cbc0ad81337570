-- The laws of items that run on hold.
use Rattle.cc_tails.specs.Law.{as_they_are, EndsAreNamed, GuardedItemsRunOn, HoldsBehindCuts, over_one_more, RunsOver, TailsAreLight, TailsRunOver}
use Rattle.cc_tails.proofs.Ends.{names_next}
use Rattle.cc_tails.proofs.Runs.{items_lead_on}
use Rattle.cc_tails.proofs.Tails.{holds, light}

pub holds_behind_cuts : HoldsBehindCuts
holds_behind_cuts = holds

pub tails_run_over : TailsRunOver
tails_run_over func cuts xs = holds func cuts (λ ys. RunsOver func cuts xs ys) (λ ys zs j p e f. over_one_more ys zs j p e f) xs as_they_are

pub tails_light : TailsAreLight
tails_light = light

pub ends_named : EndsAreNamed
ends_named = names_next

pub guarded_run_on : GuardedItemsRunOn
guarded_run_on = items_lead_on
