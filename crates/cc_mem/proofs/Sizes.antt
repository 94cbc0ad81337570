-- The size of the memory is told.
use Rattle.std.proofs.Common.{◌≡◌, ℕ, List, [], length, refl, ap, ◌∙◌}
use Rattle.std.specs.Prelude.{ℤ, pos, option_and_then, codes}
use Rattle.mc_nbt.specs.Tree.{select}
use Rattle.cc_line.specs.State.{State, selected, number_at, with_score, with_place}
use Rattle.cc_line.specs.Step.{load_site, keep_place}
use Rattle.cc_line.specs.Item.{no_more}
use Rattle.cc_line.proofs.RunLemmas.{Leads, leads_none}
use Rattle.cc_mem.specs.Standing.{HasMemory}
use Rattle.cc_mem.specs.Size.{memory_site, size_items}
use Rattle.cc_mem.specs.Law.{SizesAreTold}
use Rattle.cc_mem.proofs.PageTrees.{pages_number}
use Rattle.cc_mem.proofs.Near.{spares_then}
use Rattle.cc_mem.proofs.Stepping.{act_leads}
use Rattle.cc_mem.proofs.Holding.{holding_work, held, has_memory}
use Rattle.cc_mem.proofs.Loads.{memory_placed, spares_placed}

pub size_is : (ps : List (List ℕ)) (s : State) → HasMemory ps s → number_at (selected s memory_site) ≡ pos (length ps)
size_is ps s m = ap (λ o. number_at (option_and_then (λ u. select u []) o)) m.pages ∙ pages_number ps m.few

pub sizes_told : SizesAreTold
sizes_told r ps s m e l =
    let n : ℤ = pos (length ps) in
    let t : State = with_score s (codes "#a") n in
    let u : State = with_place t r n in
    let h = holding_work ps _ _ (pos 0) s s (held ps s m (pos 0) e) (codes "#a") n refl in
    let k : HasMemory ps t = has_memory ps m.window.page m.window.place m.window.byte (pos 0) s t m.are_pages m.few m.window.stands m.window.ints.0 m.window.ints.1 h in
    let d : Leads (size_items r) s u =
    act_leads (load_site (codes "#a") memory_site) _ s t u tt (ap (λ z. with_score s (codes "#a") z) (size_is ps s m))
    (act_leads (keep_place r (codes "#a")) no_more t u u l refl (leads_none u)) in
    record {
      ready = d.ready;
      state = u;
      used = d.used;
      ends = d.ends;
      places = refl;
      trap = e;
      memory = memory_placed ps t r n k;
      spares = spares_then s t u h.spares (spares_placed t r n);
    }
