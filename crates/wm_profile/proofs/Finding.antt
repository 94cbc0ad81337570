-- What is found first in lists.
use Rattle.std.proofs.Common.{◌≡◌, ℕ, ◌+◌, ◌<◌, List, ◌∷◌, ◌++◌, length, map, find, filter_map, nat_lt, drop, get_or, refl, sym, ◌∙◌, ap, Option, Some, None}
use Rattle.std.specs.List.{concat}
use Rattle.std.specs.Option.{option_or}
use Rattle.std.proofs.lemmas.List.Folds.{find-append, concat-append}
use Rattle.std.proofs.lemmas.List.Elements.{filter_map-append}
use Rattle.std.proofs.lemmas.List.{drop_more, map-append}
use Rattle.wm_ast.specs.declared.limit.TheConstants.{MAX_LABELS}
use Rattle.wm_ast.specs.declared.instruction.Instr.{Instr}
use Rattle.wm_ast.specs.Code.{Op, Code}
use Rattle.wm_ast.specs.View.{op_of, code_of}
use Rattle.wm_ast.specs.Profile.{op_and_inside, all_ops, table_labels, code_labels}
use Rattle.wm_profile.specs.steps.Counted.{labels_beyond}

-- How a search of a list goes: by its first item, and then by the others.
pub record Search {X : Type 0} (of_list : List X → Option ℕ) (of_item : X → Option ℕ) : Type 0 where
  pub step : (x : X) (xs : List X) → of_list (x ∷ xs) ≡ option_or (of_item x) (of_list xs)

at_item : {X : Type 0} {F : List X → Option ℕ} {f : X → Option ℕ} (s : Search F f) (xs : List X) (i : ℕ) (d : X) → i < length xs → F (drop i xs) ≡ option_or (f (get_or xs i d)) (F (drop (i + 1) xs))
at_item {F} s xs i d h = ap F (drop_more xs i d h) ∙ s.step (get_or xs i d) (drop (i + 1) xs)

-- where nothing was found before an item, what is found at it is found in the list
pub found_here : {X : Type 0} {F : List X → Option ℕ} {f : X → Option ℕ} (s : Search F f) (xs : List X) (i : ℕ) (d : X) (n : ℕ) → i < length xs → F (drop i xs) ≡ F xs → Some n ≡ f (get_or xs i d) → Some n ≡ F xs
found_here {F} s xs i d n h kept is = (ap (λ o. option_or o (F (drop (i + 1) xs))) is ∙ sym (at_item s xs i d h)) ∙ kept

-- nor where nothing is found at it
pub found_later : {X : Type 0} {F : List X → Option ℕ} {f : X → Option ℕ} (s : Search F f) (xs : List X) (i : ℕ) (d : X) → i < length xs → F (drop i xs) ≡ F xs → None ≡ f (get_or xs i d) → F (drop (i + 1) xs) ≡ F xs
found_later {F} s xs i d h kept is = (ap (λ o. option_or o (F (drop (i + 1) xs))) is ∙ sym (at_item s xs i d h)) ∙ kept

-- labels that are too many, among instructions and others
pub labels_append : (xs ys : List Op) → find (nat_lt MAX_LABELS) (filter_map table_labels (xs ++ ys)) ≡ option_or (find (nat_lt MAX_LABELS) (filter_map table_labels xs)) (find (nat_lt MAX_LABELS) (filter_map table_labels ys))
labels_append xs ys = rw (filter_map-append table_labels xs ys, find-append (nat_lt MAX_LABELS) (filter_map table_labels xs) (filter_map table_labels ys))

pub in_instructions : Search (λ (is : List Instr). find (nat_lt MAX_LABELS) (code_labels (code_of is))) (λ (i : Instr). find (nat_lt MAX_LABELS) (filter_map table_labels (op_and_inside (op_of i))))
in_instructions = record { step = λ i is. labels_append (op_and_inside (op_of i)) (all_ops (code_of is)) }

-- among the expressions that items have
pub in_expressions : {X : Type 0} (expression : X → Code) → Search (λ (xs : List X). labels_beyond (map expression xs)) (λ (x : X). find (nat_lt MAX_LABELS) (code_labels (expression x)))
in_expressions expression = record { step = λ x xs. find-append (nat_lt MAX_LABELS) (code_labels (expression x)) (concat (map code_labels (map expression xs))) }

labels_in_both : (cs ds : List Code) → labels_beyond (cs ++ ds) ≡ option_or (labels_beyond cs) (labels_beyond ds)
labels_in_both cs ds = rw (map-append code_labels cs ds, concat-append (map code_labels cs) (map code_labels ds), find-append (nat_lt MAX_LABELS) (concat (map code_labels cs)) (concat (map code_labels ds)))

or_assoc : (x y z : Option ℕ) → option_or (option_or x y) z ≡ option_or x (option_or y z)
or_assoc None y z = refl
or_assoc (Some n) y z = refl

-- among four kinds of expressions
pub labels_in_four : (gs es ds fs : List Code) → option_or (option_or (option_or (labels_beyond gs) (labels_beyond es)) (labels_beyond ds)) (labels_beyond fs) ≡ labels_beyond (gs ++ (es ++ (ds ++ fs)))
labels_in_four gs es ds fs =
    or_assoc (option_or (labels_beyond gs) (labels_beyond es)) (labels_beyond ds) (labels_beyond fs)
    ∙ (or_assoc (labels_beyond gs) (labels_beyond es) (option_or (labels_beyond ds) (labels_beyond fs))
    ∙ sym (labels_in_both gs (es ++ (ds ++ fs))
    ∙ ap (option_or (labels_beyond gs)) (labels_in_both es (ds ++ fs) ∙ ap (option_or (labels_beyond es)) (labels_in_both ds fs))))
