-- Whether a page stands, and the word that the choice tells.
use Rattle.std.proofs.Common.{◌≡◌, ℕ, ◌<◌, ◌≤◌, List, [], ◌∷◌, length, Some, true, refl, sym, ap, ◌∙◌, subst}
use Rattle.std.specs.Prelude.{ℤ, pos, option_and_then, codes}
use Rattle.mc_nbt.specs.Tree.{Tree, Fields, int, compound, compound_of, of_fields, find, place, select}
use Rattle.mc_nbt.specs.Word.{is_int}
use Rattle.cc_line.specs.Sight.{in_memory, in_rest}
use Rattle.cc_line.specs.Key.{key_memory, key_choice}
use Rattle.cc_line.specs.State.{State, Site, selected, number_at, with_score}
use Rattle.cc_line.specs.Step.{Step, run_act, load_site}
use Rattle.cc_line.specs.Core.{Straight}
use Rattle.cc_line.specs.OpenStep.{int_in, open_act, open_load_site}
use Rattle.cc_line.specs.Item.{fill_item, no_more, first}
use Rattle.cc_line.proofs.CoreLemmas.{straight_none}
use Rattle.cc_line.proofs.RunLemmas.{Leads}
use Rattle.cc_page.specs.Pages.{ArePages, pages_tree}
use Rattle.cc_mem.specs.Address.{choice_site, told_word, there_steps, there_item}
use Rattle.cc_mem.proofs.PageTrees.{page_stands, page_misses}
use Rattle.cc_mem.proofs.Fills.{straight_act, fill_leads}
use Rattle.cc_mem.proofs.Words.{word_site, number_in}

-- ---- the length of a page

-- a path to a page, and what a `get` of it gives
abbrev pub page_site : ℤ → Site
page_site p = record { store = in_memory; name = key_memory; parts = place p ∷ [] }

abbrev pub count_in : State → ℤ → ℤ
count_in s p = number_at (selected s (page_site p))

pub count_there : (ps : List (List ℕ)) (p : ℕ) (s : State) → s.keys in_memory key_memory ≡ Some (pages_tree ps) → ArePages ps → p < length ps → count_in s (pos p) ≡ pos 16384
count_there ps p s e h l = ap (λ o. number_at (option_and_then (λ u. select u (place (pos p) ∷ [])) o)) e ∙ page_stands ps p h l

pub count_missing : (ps : List (List ℕ)) (p : ℕ) (s : State) → s.keys in_memory key_memory ≡ Some (pages_tree ps) → ArePages ps → length ps ≤ p → count_in s (pos p) ≡ pos 0
count_missing ps p s e h l = ap (λ o. number_at (option_and_then (λ u. select u (place (pos p) ∷ [])) o)) e ∙ page_misses ps p l

-- ---- the items

pub choice_selected : (s : State) (t : Tree) → s.keys in_rest key_choice ≡ Some t → selected s choice_site ≡ Some t
choice_selected s t e = ap (option_and_then (λ u. select u [])) e

-- the length of the page that the choice tells, whatever else it tells
pub there_leads : (fs : Fields) (p : ℤ) (s : State) → s.keys in_rest key_choice ≡ Some (compound fs) → find (codes "a0") (of_fields fs) ≡ Some (int p)
    → is_int p ≡ true → Leads (first there_item no_more) s (with_score s (codes "#c") (count_in s p))
there_leads fs p s e f i =
    let u : State = with_score s (codes "#c") (count_in s p) in
    fill_leads (codes "h_mem_there") choice_site there_steps s u (Some (compound fs)) (choice_selected s (compound fs) e)
    (p, f, i, tt)
    (subst (λ z. Straight (load_site_steps z) s u) (sym (ap int_in f)) (straight_act (load_site (codes "#c") (page_site p)) [] s u u tt refl (straight_none u)))
  where
    load_site_steps : ℤ → List Step
    load_site_steps z = run_act (load_site (codes "#c") (page_site z)) ∷ []

-- the choice that tells a word
abbrev pub telling : ℕ → ℕ → Tree
telling p i = compound_of ((codes "a0", int (pos p)) ∷ ((codes "a1", int (pos i)) ∷ []))

pub told_leads : (p i : ℕ) (s : State) → s.keys in_rest key_choice ≡ Some (telling p i) → is_int (pos p) ≡ true → is_int (pos i) ≡ true
    → Leads (first (fill_item (codes "h_mem_told") choice_site (open_act (open_load_site (codes "#d") told_word) ∷ [])) no_more) s
    (with_score s (codes "#d") (number_in s (pos p) (pos i)))
told_leads p i s e h k =
    let u : State = with_score s (codes "#d") (number_in s (pos p) (pos i)) in
    fill_leads (codes "h_mem_told") choice_site (open_act (open_load_site (codes "#d") told_word) ∷ []) s u (Some (telling p i)) (choice_selected s (telling p i) e)
    (pos p, refl, h, (pos i, refl, k, tt))
    (straight_act (load_site (codes "#d") (word_site (pos p) (pos i))) [] s u u tt refl (straight_none u))
