-- How long the files of short items and of their helpers are: a line has so many bytes for each unit of its weight.
use Rattle.std.proofs.Common.{◌≡◌, ◌∙◌, ap, refl, ℕ, suc, ◌+◌, ◌*◌, ◌≤◌, List, [], ◌∷◌, ◌++◌, length, true, arith, length-append}
use Rattle.std.specs.Prelude.{codes, ◌&&◌, nat_le}
use Rattle.std.specs.List.{list_all, AllByRecursion}
use Rattle.std.proofs.lemmas.Bool.{le-leb, leb-true}
use Rattle.std.proofs.lemmas.List.Folds.{list_all-append}
use Rattle.mc_nbt.specs.Shape.{is_tree}
use Rattle.mc_nbt.specs.Spelling.{tree_text}
use Rattle.mc_nbt.specs.Tree.{Tree}
use Rattle.mc_cmd.specs.Form.{Text, lacks}
use Rattle.mc_cmd.specs.Word.{is_small_byte, is_namespace, is_function_name}
use Rattle.mc_cmd.specs.Chain.{Texts, cmd_weight}
use Rattle.mc_cmd.specs.Command.{Cmd, plain, execute, call, call_with}
use Rattle.mc_cmd.specs.Grammar.{simple_text}
use Rattle.mc_cmd.specs.Layout.{full_name}
use Rattle.mc_cmd.specs.Lines.{file_text, IsShort}
use Rattle.mc_cmd.proofs.FormLemmas.{and_first, and_second, and_both}
use Rattle.mc_cmd.proofs.WordLemmas.{all_lack}
use Rattle.mc_cmd.proofs.PieceLemmas.{IsPiece, joined, space, namespace_piece}
use Rattle.mc_cmd.specs.declared.TheConstants.{PIECE}
use Rattle.cc_line.specs.State.{ints, Site, site_path}
use Rattle.cc_line.specs.Step.{Act, set_site, append_value_to, make_list, Step, run_act, when, stop_when, site_id, step_command, step_text, step_weight}
use Rattle.cc_line.specs.Fit.{site_fits, tree_fits, act_fits, conds_fit, step_fits}
use Rattle.cc_line.specs.Item.{Item, step_item, call_item, call_when, fill_item, fill_when, Items, no_more, first, item_most, items_most, item_text, items_texts, Helper, item_helpers, items_helpers, item_fits, items_fit, join, steps_items}
use Rattle.cc_line.specs.OpenStep.{OpenAct, OpenStep, open_combine, open_copy_site, open_keep_site, open_load_site, closed_step, open_act, open_when, open_texts, open_step_fits, open_steps_fit}
use Rattle.cc_text.proofs.ShortSteps.{wide, word, store_piece, path_piece, ActOpenWithin, ActWithin, StepWithin, act_piece, behind_piece, step_piece, OpenWithin, open_piece}
use Rattle.cc_text.specs.Short.{AllShort, tree_bare, tree_short, act_short, step_short, steps_short, act_bare, step_bare, open_act_bare, open_step_bare, opens_short, item_short, items_short}

-- ---- files

pub short_append : (hs ks : List Helper) → AllShort hs → AllShort ks → AllShort (hs ++ ks)
short_append [] ks a b = b
short_append (h ∷ hs) ks a b = (a.0, short_append hs ks a.1 b)

-- lines of at most so many bytes
abbrev pub AllPieces : Texts → Type 0
AllPieces lines = AllByRecursion (IsPiece 414000) lines

lines_bare : (lines : Texts) → AllPieces lines → list_all (lacks 10) lines ≡ true
lines_bare [] a = refl
lines_bare (l ∷ ls) a = and_both (lacks 10 l) _ a.0.bare (lines_bare ls a.1)

lines_long : (lines : Texts) → AllPieces lines → length (file_text lines) ≤ 414001 * length lines
lines_long [] a = omega arith
lines_long (l ∷ ls) a =
    let i : length (file_text ls) ≤ 414001 * length ls = lines_long ls a.1 in
    let s : length l ≤ 414000 = a.0.short in
    let e : length (l ++ (10 ∷ file_text ls)) ≡ length l + suc (length (file_text ls)) = length-append l (10 ∷ file_text ls) in
    let r : length (l ++ (10 ∷ file_text ls)) ≤ 414001 * suc (length ls) = omega arith in
    r

-- so many lines of that size are a file
pub few_lines : (lines : Texts) → AllPieces lines → length lines ≤ 40 → IsShort lines
few_lines lines a h = record {
  unbroken = lines_bare lines a;
  short = let i : length (file_text lines) ≤ 414001 * length lines = lines_long lines a in omega arith;
}

pub pieces_append : (ls ms : Texts) → AllPieces ls → AllPieces ms → AllPieces (ls ++ ms)
pieces_append [] ms a b = b
pieces_append (l ∷ ls) ms a b = (a.0, pieces_append ls ms a.1 b)

-- ---- short trees

pub short_piece : (t : Tree) → tree_short t ≡ true → IsPiece 34000 (tree_text t)
unfolding tree_short
short_piece t h = record {
  short = leb-true (length (tree_text t)) 34000 (and_first _ _ h);
  bare = and_second (nat_le (length (tree_text t)) 34000) _ h;
}

pub piece_short : (t : Tree) (k : ℕ) → IsPiece k (tree_text t) → k ≤ 34000 → tree_short t ≡ true
unfolding tree_short
piece_short t k p h = let s : length (tree_text t) ≤ k = p.short in and_both _ _ (le-leb (length (tree_text t)) 34000 (omega arith)) p.bare

pub piece_bare : (t : Tree) (k : ℕ) → IsPiece k (tree_text t) → tree_bare t ≡ true
unfolding tree_bare
piece_bare t k p = p.bare

-- of a tree that fits
bare_piece : (t : Tree) → tree_fits t ≡ true → tree_bare t ≡ true → IsPiece 400000 (tree_text t)
unfolding tree_bare
bare_piece t f b = record { short = leb-true (length (tree_text t)) 400000 (and_first _ _ (and_second (is_tree t) _ f)); bare = b }

pub short_bare : (a : Act) → act_short a ≡ true → act_bare a ≡ true
short_bare (set_site p t) h = piece_bare t 34000 (short_piece t h)
short_bare (append_value_to p t) h = piece_bare t 34000 (short_piece t h)
short_bare (make_list zs) h = piece_bare (ints zs) 34000 (short_piece (ints zs) h)
short_bare _ h = refl

pub act_within : (a : Act) → act_short a ≡ true → ActWithin 34000 a
act_within (set_site p t) h = short_piece t h
act_within (append_value_to p t) h = short_piece t h
act_within (make_list zs) h = short_piece (ints zs) h
act_within _ h = tt

pub step_within : (x : Step) → step_short x ≡ true → StepWithin 34000 x
step_within (run_act a) h = act_within a h
step_within (when cs a) h = act_within a h
step_within (stop_when cs) h = tt

pub act_fitting : (a : Act) → act_fits a ≡ true → act_bare a ≡ true → ActWithin 400000 a
act_fitting (set_site p t) f h = bare_piece t (and_second (site_fits p) _ f) h
act_fitting (append_value_to p t) f h = bare_piece t (and_second (site_fits p) _ f) h
act_fitting (make_list zs) f h = bare_piece (ints zs) f h
act_fitting _ f h = tt

step_fitting : (x : Step) → step_fits x ≡ true → step_bare x ≡ true → StepWithin 400000 x
step_fitting (run_act a) f h = act_fitting a f h
step_fitting (when cs a) f h = act_fitting a (and_second (conds_fit cs) _ f) h
step_fitting (stop_when cs) f h = tt

act_open_fitting : (a : OpenAct) → open_act_bare a ≡ true → ActOpenWithin a
act_open_fitting (open_load_site g p) h = tt
act_open_fitting (open_keep_site p g) h = tt
act_open_fitting (open_combine x op g m) h = tt
act_open_fitting (open_copy_site p q) h = tt
act_open_fitting _ h = absurd cc

open_fitting : (x : OpenStep) → open_step_fits x ≡ true → open_step_bare x ≡ true → OpenWithin 400000 x
open_fitting (closed_step x) f h = step_fitting x f h
open_fitting (open_act a) f h = act_open_fitting a h
open_fitting (open_when cs a) f h = act_open_fitting a h

-- ---- what lines weigh

command_weighs : (c : Cmd) → 1 ≤ cmd_weight c
command_weighs (plain s) = omega arith
command_weighs (execute us s) = omega arith

step_weighs : (x : Step) → 1 ≤ step_weight x
step_weighs x = command_weighs (step_command [] x)

item_weighs : (x : Item) → 1 ≤ item_most x
item_weighs (step_item x) = step_weighs x
item_weighs (call_item f xs) = omega arith
item_weighs (call_when cs f xs) = omega arith
item_weighs (fill_item f p xs) = omega arith
item_weighs (fill_when cs f p xs) = omega arith

-- ---- the lines of items

opens_many : (ns : Text) (xs : List OpenStep) → length (open_texts ns xs) ≡ length xs
opens_many ns [] = refl
opens_many ns (x ∷ xs) = ap suc (opens_many ns xs)

module _ (ns : Text) (n : is_namespace ns ≡ true) where
  pub name_piece : (f : Text) → is_function_name f ≡ true → IsPiece 81 (full_name ns f)
  name_piece f g = joined (namespace_piece ns n) (joined (word (codes ":") refl) (own f g))
    where
      own : (f : Text) → is_function_name f ≡ true → IsPiece 64 f
      own f g = record {
        short = leb-true (length f) 64 (and_second (nat_le 1 (length f)) _ (and_second (list_all is_small_byte f) _ g));
        bare = all_lack is_small_byte 10 refl f (and_first _ _ g);
      }

  pub call_piece : (f : Text) → is_function_name f ≡ true → IsPiece 1000 (simple_text (call (full_name ns f)))
  call_piece f g = wide (joined (word (codes "function ") refl) (name_piece f g)) (omega arith)

  pub fill_piece : (f : Text) (p : Site) → is_function_name f ≡ true → site_fits p ≡ true → IsPiece 1000 (simple_text (call_with (full_name ns f) (site_id ns p) (site_path p)))
  fill_piece f p g e =
      wide (joined (word (codes "function ") refl) (joined (name_piece f g) (joined space (joined (word (codes "with storage ") refl) (joined (store_piece ns p.store n) (joined space (path_piece (site_path p) (and_first _ _ e)))))))) (omega arith)

  step_line : (x : Step) → step_fits x ≡ true → step_short x ≡ true → IsPiece (36000 * step_weight x) (step_text ns x)
  step_line (run_act a) f s = let w : 1 ≤ step_weight (run_act a) = step_weighs (run_act a) in wide (act_piece ns n 34000 a f (step_within (run_act a) s)) (omega arith)
  step_line (when cs a) f s = wide (step_piece ns n 34000 (when cs a) f (step_within (when cs a) s)) (omega arith)
  step_line (stop_when cs) f s = wide (step_piece ns n 34000 (stop_when cs) f tt) (omega arith)

  item_line : (x : Item) → item_fits x ≡ true → item_short x ≡ true → IsPiece (36000 * item_most x) (item_text ns x)
  item_line (step_item x) f s = step_line x f s
  item_line (call_item g xs) f s = wide (call_piece g (and_first _ _ f)) (omega arith)
  item_line (call_when cs g xs) f s =
      wide (behind_piece ns n 34000 cs (call (full_name ns g)) (and_first _ _ f) (wide (call_piece g (and_first (is_function_name g) (items_fit xs) (and_second (conds_fit cs) _ f))) (omega arith))) (omega arith)
  item_line (fill_item g p xs) f s = wide (fill_piece g p (and_first _ _ f) (and_first (site_fits p) (open_steps_fit xs) (and_second (is_function_name g) _ f))) (omega arith)
  item_line (fill_when cs g p xs) f s =
      let e = and_second (conds_fit cs) (is_function_name g && (site_fits p && open_steps_fit xs)) f in
      wide (behind_piece ns n 34000 cs (call_with (full_name ns g) (site_id ns p) (site_path p)) (and_first _ _ f) (wide (fill_piece g p (and_first _ _ e) (and_first (site_fits p) (open_steps_fit xs) (and_second (is_function_name g) _ e))) (omega arith))) (omega arith)

  items_bare : (xs : Items) → items_fit xs ≡ true → items_short xs ≡ true → list_all (lacks 10) (items_texts ns xs) ≡ true
  items_bare no_more f s = refl
  items_bare (first x xs) f s =
      and_both (lacks 10 (item_text ns x)) _ (item_line x (and_first _ _ f) (and_first _ _ s)).bare (items_bare xs (and_second (item_fits x) _ f) (and_second (item_short x) _ s))

  items_long : (xs : Items) → items_fit xs ≡ true → items_short xs ≡ true → length (file_text (items_texts ns xs)) ≤ 36001 * items_most xs
  items_long no_more f s = omega arith
  items_long (first x xs) f s =
      let i : length (file_text (items_texts ns xs)) ≤ 36001 * items_most xs = items_long xs (and_second (item_fits x) _ f) (and_second (item_short x) _ s) in
      let l : length (item_text ns x) ≤ 36000 * item_most x = (item_line x (and_first _ _ f) (and_first _ _ s)).short in
      let w : 1 ≤ item_most x = item_weighs x in
      let e : length (item_text ns x ++ (10 ∷ file_text (items_texts ns xs))) ≡ length (item_text ns x) + suc (length (file_text (items_texts ns xs))) = length-append (item_text ns x) (10 ∷ file_text (items_texts ns xs)) in
      let r : length (item_text ns x ++ (10 ∷ file_text (items_texts ns xs))) ≤ 36001 * (item_most x + items_most xs) = omega arith in
      r

  -- items that weigh no more than a piece may are a file
  pub items_file_short : (xs : Items) → items_fit xs ≡ true → items_short xs ≡ true → items_most xs ≤ PIECE → IsShort (items_texts ns xs)
  items_file_short xs f s m = record {
    unbroken = items_bare xs f s;
    short = let l : length (file_text (items_texts ns xs)) ≤ 36001 * items_most xs = items_long xs f s in omega arith;
  }

  opens_pieces : (xs : List OpenStep) → open_steps_fit xs ≡ true → list_all open_step_bare xs ≡ true → AllPieces (open_texts ns xs)
  opens_pieces [] f s = tt
  opens_pieces (x ∷ xs) f s = (
    open_piece ns n 400000 x (and_first _ _ f) (open_fitting x (and_first _ _ f) (and_first _ _ s)),
    opens_pieces xs (and_second (open_step_fits x) _ f) (and_second (open_step_bare x) _ s),
  )

  opens_file_short : (xs : List OpenStep) → open_steps_fit xs ≡ true → opens_short xs ≡ true → IsShort (open_texts ns xs)
  opens_file_short xs f s =
      let few : length xs ≤ 40 = leb-true (length xs) 40 (and_first _ _ s) in
      let same : length (open_texts ns xs) ≡ length xs = opens_many ns xs in
      few_lines (open_texts ns xs) (opens_pieces xs f (and_second (nat_le (length xs) 40) _ s)) (omega arith)

  -- ---- helpers

  mutual
    item_helped : (x : Item) → item_fits x ≡ true → item_short x ≡ true → item_most x ≤ PIECE → AllShort (item_helpers ns x)
    item_helped (step_item x) f s m = tt
    item_helped (call_item g xs) f s m =
        let e = and_second (is_function_name g) (items_fit xs) f in
        (items_file_short xs e s (omega arith), items_helped xs e s (omega arith))
    item_helped (call_when cs g xs) f s m =
        let e = and_second (is_function_name g) (items_fit xs) (and_second (conds_fit cs) _ f) in
        (items_file_short xs e s (omega arith), items_helped xs e s (omega arith))
    item_helped (fill_item g p xs) f s m = (opens_file_short xs (and_second (site_fits p) (open_steps_fit xs) (and_second (is_function_name g) _ f)) s, tt)
    item_helped (fill_when cs g p xs) f s m = (opens_file_short xs (and_second (site_fits p) (open_steps_fit xs) (and_second (is_function_name g) _ (and_second (conds_fit cs) _ f))) s, tt)

    pub items_helped : (xs : Items) → items_fit xs ≡ true → items_short xs ≡ true → items_most xs ≤ PIECE → AllShort (items_helpers ns xs)
    items_helped no_more f s m = tt
    items_helped (first x xs) f s m =
        short_append (item_helpers ns x) (items_helpers ns xs) (item_helped x (and_first _ _ f) (and_first _ _ s) (omega arith))
        (items_helped xs (and_second (item_fits x) _ f) (and_second (item_short x) _ s) (omega arith))

-- ---- steps and items

pub short_both : (xs ys : List Step) → steps_short xs ≡ true → steps_short ys ≡ true → steps_short (xs ++ ys) ≡ true
short_both xs ys h g = list_all-append step_short xs ys ∙ and_both _ _ h g

pub short_steps : (xs : List Step) → steps_short xs ≡ true → items_short (steps_items xs) ≡ true
short_steps [] h = refl
short_steps (x ∷ xs) h = and_both _ _ (and_first _ _ h) (short_steps xs (and_second (step_short x) _ h))

pub short_join : (xs ys : Items) → items_short xs ≡ true → items_short ys ≡ true → items_short (join xs ys) ≡ true
short_join no_more ys h g = g
short_join (first x xs) ys h g = and_both _ _ (and_first _ _ h) (short_join xs ys (and_second (item_short x) _ h) g)
