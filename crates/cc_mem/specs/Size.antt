-- The size of the memory, in pages.
use Rattle.std.specs.Prelude.{ℕ, [], ◌∷◌, codes}
use Rattle.cc_line.specs.Sight.{in_memory}
use Rattle.cc_line.specs.Key.{key_memory}
use Rattle.cc_line.specs.State.{Site, at_key}
use Rattle.cc_line.specs.Step.{load_site, keep_place, run_act}
use Rattle.cc_line.specs.Item.{Items, steps_items}

abbrev pub memory_site : Site
memory_site = at_key in_memory key_memory

-- how many pages stand, into the place r
abbrev pub size_items : ℕ → Items
size_items r = steps_items (run_act (load_site (codes "#a") memory_site) ∷ (run_act (keep_place r (codes "#a")) ∷ []))
