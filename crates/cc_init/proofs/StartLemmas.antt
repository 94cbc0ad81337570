-- The pieces of instantiation, as the code makes them of what it finds in a module, are those of the module.
use Rattle.std.proofs.Common.{◌≡◌, ℕ, zero, suc, ◌+◌, ◌-◌, ◌≤◌, List, [], ◌∷◌, ◌++◌, map, Bool, true, false, Option, Some, None, option_map, refl, sym, ap, ◌∙◌, add-one, arith}
use Rattle.std.specs.Prelude.{ℤ, if◌then◌else◌, nat_lt, slice_get, unwrap_or}
use Rattle.std.proofs.lemmas.List.{map-append}
use Rattle.std.proofs.lemmas.Simd.{map-map}
use Rattle.wm_ast.specs.declared.module.Limits.{Limits}
use Rattle.wm_ast.specs.declared.module.Module.{Module}
use Rattle.wm_ast.specs.Instance.{first_store}
use Rattle.wm_ast.specs.Profile.{pages}
use Rattle.wm_flat.specs.FlatTyping.{least_pages}
use Rattle.mc_nbt.specs.Tree.{int, list_of}
use Rattle.cc_line.specs.Item.{Items, join}
use Rattle.cc_line.specs.Key.{init_piece, key_table}
use Rattle.cc_line.specs.Place.{score_places}
use Rattle.cc_line.specs.Sight.{in_rest}
use Rattle.cc_line.specs.State.{at_key, ints}
use Rattle.cc_line.specs.Step.{Act, set_site}
use Rattle.cc_pieces.specs.declared.part.Part.{Part as Made}
use Rattle.cc_pieces.specs.Parts.{part, part_view, parts_view}
use Rattle.cc_page.specs.Pages.{page_tree, pages_of, signed_word}
use Rattle.cc_simulate.specs.Uses.{uses_bytes}
use Rattle.cc_init.specs.Init as init
use Rattle.cc_init.specs.Init.{init_parts}
use Rattle.cc_init.specs.declared.start.Start.{Start}
use Rattle.cc_init.specs.steps.Instantiating as spec
use Rattle.cc_init.proofs.GlobalLemmas.{alone, no_acts}

-- ---- a page

-- words that are set as a table are those of a page
pub page_told : (b : Bool) (words : List ℤ) (found : Option (List ℕ)) → Some words ≡ option_map (map signed_word) found → spec.words_acts b words ≡ init.page_acts b found
page_told b words None e = absurd cc
page_told true words (Some ms) e = refl
page_told false words (Some ms) e =
    let same : words ≡ map signed_word ms = cc in
    let tree : ints words ≡ page_tree ms = ap ints same ∙ ap list_of (map-map int signed_word ms) in
    ap (λ t. set_site (at_key in_rest key_table) t ∷ (init.append_page ∷ [])) tree

pub no_page_told : (a : Items) (b : Bool) (found : Option (List ℕ)) → None ≡ option_map (map signed_word) found → a ≡ join a (alone (init.page_acts b found))
no_page_told a b None e = no_acts a
no_page_told a b (Some ms) e = absurd cc

-- ---- what the code finds

module _ (m : Module) (s : Start) (is : spec.IsStart m s) where
  standing_same : spec.standing_acts s.pages ≡ init.memory_acts m.mems
  standing_same = ap spec.standing_acts is.pages ∙ by m.mems
    where
      by : (ls : List Limits) → spec.standing_acts (option_map pages (slice_get ls 0)) ≡ init.memory_acts ls
      by [] = refl
      by (l ∷ ls) = refl

  least_same : unwrap_or s.pages 0 ≡ least_pages (slice_get m.mems 0)
  least_same = ap (λ (o : Option ℕ). unwrap_or o 0) is.pages ∙ by (slice_get m.mems 0)
    where
      by : (o : Option Limits) → unwrap_or (option_map pages o) 0 ≡ least_pages o
      by None = refl
      by (Some l) = refl

  later_same : spec.later_pieces s ≡ init.later_pieces m
  later_same = ap (λ n. n + unwrap_or s.pages 0) is.global_pieces ∙ ap (λ n. init.global_pieces m + n) least_same

  onward_same : (k : ℕ) → spec.onward_acts s k ≡ init.onward_acts m k
  onward_same k =
      ap (λ n. if nat_lt k n then spec.to_piece (suc k) ∷ [] else init.leave_acts s.function) later_same
      ∙ ap (λ o. if nat_lt k (init.later_pieces m) then spec.to_piece (suc k) ∷ [] else init.leave_acts o) is.function

  appended_same : (k : ℕ) → spec.appended_acts s k ≡ init.later_acts m k
  appended_same k =
      ap (λ vs. if nat_lt k s.global_pieces then spec.appending_acts vs k else spec.paging_acts s (k - s.global_pieces)) is.values
      ∙ ap (λ n. if nat_lt k s.global_pieces then globals else init.page_acts (init.is_repeated s.bytes.items (k - s.global_pieces)) (slice_get (pages_of n s.bytes.items) (k - s.global_pieces))) least_same
      ∙ ap (λ bs. if nat_lt k s.global_pieces then globals else init.page_acts (init.is_repeated bs (k - s.global_pieces)) (slice_get (pages_of (least_pages (slice_get m.mems 0)) bs) (k - s.global_pieces))) is.bytes
      ∙ ap (λ g. if nat_lt k g then globals else init.page_acts (init.is_repeated (first_store m).memory (k - g)) (slice_get (init.first_pages m) (k - g))) is.global_pieces
    where
      globals : List Act
      globals = spec.appending_acts (first_store m).globals k

  piece_same : (k : ℕ) → spec.piece_acts s k ≡ init.init_acts m k
  piece_same zero =
      ap (λ b. init.open_acts 0 score_places ++ (init.settle_acts b ++ (spec.standing_acts s.pages ++ spec.onward_acts s 0))) is.uses_bytes
      ∙ ap (λ l. init.open_acts 0 score_places ++ (init.settle_acts (uses_bytes m) ++ (l ++ spec.onward_acts s 0))) standing_same
      ∙ ap (λ l. init.open_acts 0 score_places ++ (init.settle_acts (uses_bytes m) ++ (init.memory_acts m.mems ++ l))) (onward_same 0)
  piece_same (suc k) = ap (λ l. l ++ spec.onward_acts s (suc k)) (appended_same k) ∙ ap (λ l. init.later_acts m k ++ l) (onward_same (suc k))

  -- one piece more
  pub part_pushed : (old now : List Made) (p : Made) (k : ℕ) → now ≡ old ++ (p ∷ []) → part_view p ≡ part (init_piece k) (alone (spec.piece_acts s k)) → parts_view old ≡ init_parts m k
      → parts_view now ≡ init_parts m (k + 1)
  part_pushed old now p k e v h =
      ap parts_view e ∙ map-append part_view old (p ∷ []) ∙ ap (λ l. l ++ (part_view p ∷ [])) h
      ∙ ap (λ q. init_parts m k ++ (q ∷ [])) (v ∙ ap (λ a. part (init_piece k) (alone a)) (piece_same k))
      ∙ ap (init_parts m) (sym (add-one k))

  pub parts_pushed : (parts : List Made) (pieces end k : ℕ) → pieces ≡ spec.later_pieces s → end ≡ pieces + 1 → k ≤ end → end ≤ k → parts_view parts ≡ init_parts m k → parts_view parts ≡ init_parts m (suc (init.later_pieces m))
  parts_pushed parts pieces end k e f l g h =
      h ∙ ap (init_parts m) (let s : k ≡ suc pieces = omega arith in s) ∙ ap (λ n. init_parts m (suc n)) (e ∙ later_same)
