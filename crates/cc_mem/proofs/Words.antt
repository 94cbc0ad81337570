-- The word at the window's place.
use Rattle.std.proofs.Common.{◌≡◌, ℕ, List, [], ◌∷◌, Some, refl, ap, ◌∙◌, subst, arith}
use Rattle.std.specs.Prelude.{ℤ, pos, option_and_then, codes}
use Rattle.mc_nbt.specs.Tree.{place, select}
use Rattle.cc_line.specs.Sight.{in_memory, in_rest}
use Rattle.cc_line.specs.Key.{key_memory, key_filling}
use Rattle.cc_line.specs.State.{State, Site, selected, number_at, with_score}
use Rattle.cc_line.specs.Step.{load_site}
use Rattle.cc_line.specs.Item.{no_more, first}
use Rattle.cc_line.proofs.CoreLemmas.{straight_none}
use Rattle.cc_line.proofs.RunLemmas.{Leads}
use Rattle.cc_page.specs.Pages.{ArePages, pages_tree, signed_word, word_at}
use Rattle.cc_page.proofs.Stored.{words_are_selected}
use Rattle.cc_mem.specs.Standing.{filling_tree}
use Rattle.cc_mem.specs.Address.{filling_site}
use Rattle.cc_mem.specs.Load.{word_item}
use Rattle.cc_mem.proofs.Near.{At, page_small, small_int}
use Rattle.cc_mem.proofs.Fills.{straight_act, fill_leads}

-- what a path to a word gives
abbrev pub word_site : ℤ → ℤ → Site
word_site p i = record { store = in_memory; name = key_memory; parts = place p ∷ (place i ∷ []) }

abbrev pub number_in : State → ℤ → ℤ → ℤ
number_in s p i = number_at (selected s (word_site p i))

-- where a word stands, it
pub number_is : (ps : List (List ℕ)) (p i m : ℕ) (s : State) → s.keys in_memory key_memory ≡ Some (pages_tree ps) → ArePages ps
    → word_at ps p i ≡ Some m → number_in s (pos p) (pos i) ≡ signed_word m
number_is ps p i m s e h w =
    ap (λ o. number_at (option_and_then (λ u. select u (place (pos p) ∷ (place (pos i) ∷ []))) o)) e
    ∙ ap number_at ((words_are_selected ps h p i).0 m w)

-- what the window's compound tells
pub filling_selected : (s : State) (page : ℕ) (x y : ℤ) → s.keys in_rest key_filling ≡ Some (filling_tree page x y)
    → selected s filling_site ≡ Some (filling_tree page x y)
filling_selected s page x y e = ap (option_and_then (λ u. select u [])) e

-- the item loads the word at the window's place, or 0
pub word_leads : (ps : List (List ℕ)) (page : ℕ) (x y : ℤ) (s : State) → At ps page x y s
    → Leads (first word_item no_more) s (with_score s (codes "#u") (number_in s (pos page) x))
word_leads ps page x y s a =
    let l = page_small ps page x y s a in
    let p = small_int page (omega arith) in
    let u : State = with_score s (codes "#u") (number_in s (pos page) x) in
    fill_leads (codes "h_mem_word") filling_site _ s u (Some (filling_tree page x y)) (filling_selected s page x y a.filling)
    (pos page, refl, p, (x, refl, a.place_int, tt))
    (straight_act (load_site (codes "#u") (word_site (pos page) x)) [] s u u tt refl (straight_none u))

-- in a window whose place has a word
pub word_found : (ps : List (List ℕ)) (page i m : ℕ) (y : ℤ) (s : State) → At ps page (pos i) y s → word_at ps page i ≡ Some m
    → Leads (first word_item no_more) s (with_score s (codes "#u") (signed_word m))
word_found ps page i m y s a w =
    subst (λ z. Leads (first word_item no_more) s (with_score s (codes "#u") z)) (number_is ps page i m s a.pages a.are_pages w)
    (word_leads ps page (pos i) y s a)
