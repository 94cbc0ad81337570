-- Growing the memory. A step of the machine only tells whether it may grow, and how many pages are missing then. These
-- are appended behind that step, by a piece that is next until none is missing.
use Rattle.std.specs.Prelude.{ℕ, zero, suc, List, [], ◌∷◌, ◌++◌, pos, negsuc, codes}
use Rattle.mc_nbt.specs.Tree.{Tree}
use Rattle.mc_cmd.specs.Form.{Text}
use Rattle.mc_cmd.specs.Command.{subtract, greater, exactly, from, up_to}
use Rattle.cc_line.specs.Sight.{in_rest}
use Rattle.cc_line.specs.Key.{key_next, key_follows, key_table}
use Rattle.cc_line.specs.Place.{Spot, scratch}
use Rattle.cc_line.specs.State.{Site, at_key}
use Rattle.cc_line.specs.Step.{Act, set_spot, decrease, combine, load_place, keep_place, load_site, set_site, copy_site}
use Rattle.cc_line.specs.Step.{append_site}
use Rattle.cc_line.specs.Step.{in_range, compare, Cond, holds, Step, run_act, when}
use Rattle.cc_line.specs.Item.{Items, steps_items}
use Rattle.cc_page.specs.Pages.{zero_page, page_tree}
use Rattle.cc_mem.specs.Address.{at_c}
use Rattle.cc_mem.specs.Load.{at_d}
use Rattle.cc_mem.specs.Size.{memory_site}

-- how many pages are missing: it stands between pieces, as results do that are handed over
abbrev pub score_missing : Text
score_missing = codes "#g"

abbrev pub at_missing : Spot
at_missing = scratch score_missing

abbrev pub is_below : List Cond
is_below = holds (in_range at_missing (up_to (negsuc 0))) ∷ []

-- ---- what the machine's step tells

abbrev pub is_more : List Cond
is_more = holds (compare at_missing greater at_d) ∷ []

abbrev pub is_refused : List Cond
is_refused = holds (in_range at_c (exactly (negsuc 0))) ∷ []

-- The place a has how many pages more are asked for, without a sign. Where they are not more than the maximum leaves,
-- they are missing, and the place gets the number of pages that stand; else none is missing, and it gets -1.
abbrev pub grow_steps : ℕ → ℕ → List Step
grow_steps most a =
    run_act (load_place score_missing a)
    ∷ (run_act (load_site (codes "#c") memory_site)
    ∷ (run_act (set_spot at_d (pos most))
    ∷ (run_act (combine at_d subtract at_c)
    ∷ (when is_below (set_spot at_c (negsuc 0))
    ∷ (when is_more (set_spot at_c (negsuc 0))
    ∷ (when is_refused (set_spot at_missing (pos 0)) ∷ (run_act (keep_place a (codes "#c")) ∷ [])))))))

abbrev pub grow_items : ℕ → ℕ → Items
grow_items most a = steps_items (grow_steps most a)

-- ---- the pages

-- a page of zeros
unfoldable pub zero_tree : Tree
zero_tree = page_tree zero_page

abbrev pub table_site : Site
table_site = at_key in_rest key_table

-- so many pages are appended by one run
abbrev pub pages_of_run : ℕ
pages_of_run = 32

abbrev pub are_missing : ℕ → List Cond
are_missing n = holds (in_range at_missing (from (pos n))) ∷ []

-- a page is appended where so many are missing
abbrev pub append_step : ℕ → Step
append_step n = when (are_missing n) (append_site memory_site table_site)

-- one for each number from this one on, so many of them
abbrev pub append_steps : ℕ → ℕ → List Step
append_steps n zero = []
append_steps n (suc k) = append_step n ∷ append_steps (suc n) k

abbrev pub none_is_missing : List Cond
none_is_missing = holds (in_range at_missing (exactly (pos 0))) ∷ []

abbrev pub to_next : Act
to_next = copy_site (at_key in_rest key_next) (at_key in_rest key_follows)

-- so many fewer are missing; where none is, the piece is next that follows
abbrev pub onward_steps : List Step
onward_steps =
    run_act (decrease at_missing pages_of_run)
    ∷ (when is_below (set_spot at_missing (pos 0))
    ∷ (when none_is_missing to_next ∷ []))

abbrev pub grower_steps : List Step
grower_steps = run_act (set_site table_site zero_tree) ∷ (append_steps 1 pages_of_run ++ onward_steps)

abbrev pub grower_items : Items
grower_items = steps_items grower_steps
