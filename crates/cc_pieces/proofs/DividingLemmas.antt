-- What a division of i64 adds to its piece, and the pieces in which it goes on.
use Rattle.std.proofs.Common.{◌≡◌, ℕ, ◌-◌, List, [], ◌∷◌, ◌++◌, Option, Some, None, refl, sym, ap, ◌∙◌, append_assoc}
use Rattle.std.specs.Prelude.{unwrap_or}
use Rattle.wm_ast.specs.declared.operator.BinaryOp.{BinaryOp}
use Rattle.cc_line.specs.Item.{Item, Items, no_more, first, join, steps_items}
use Rattle.cc_line.specs.Key.{PieceId, body_piece, id_tree}
use Rattle.cc_line.specs.Step.{Act, Step, run_act, set_site}
use Rattle.cc_line.specs.View.{items_from}
use Rattle.cc_call.specs.Frames.{next_site, next_acts}
use Rattle.cc_div64.specs.Division.{begin_items, turns_items, end_items}
use Rattle.cc_pieces.specs.Restoring.{restore_by}
use Rattle.cc_pieces.specs.Dividing.{turning_piece, answering_piece, none_left_step, divided_items, turning_items, answering_items}
use Rattle.cc_pieces.specs.Fetching.{fetch_from}
use Rattle.cc_pieces.specs.Lists.{listed, steps_list, acts_list}
use Rattle.cc_pieces.proofs.ListLemmas.{acts_end, steps_are}
use Rattle.cc_pieces.proofs.ItemLemmas.{from_both, from_listed}

listed_both : (xs ys : Items) → listed (join xs ys) ≡ listed xs ++ listed ys
listed_both no_more ys = refl
listed_both (first x xs) ys = ap (λ (l : List Item). x ∷ l) (listed_both xs ys)

-- ---- its own piece

turning_found : (func : ℕ) (o : Option ℕ) → turning_piece func (unwrap_or o 0) ≡ fetch_from func o
turning_found func None = refl
turning_found func (Some j) = refl

answering_found : (func : ℕ) (o : Option ℕ) → answering_piece func (unwrap_or o 0) ≡ restore_by func o
answering_found func None = refl
answering_found func (Some j) = refl

pub divided_made : (op : BinaryOp) (h top place func index : ℕ) (o there : Option ℕ) (turning answering : PieceId) (act : Act) (step : Step) (block : Items) (old one two now : List Item) → top ≡ h → place ≡ top - 4
    → o ≡ there → index ≡ unwrap_or o 0 → turning ≡ turning_piece func index → answering ≡ answering_piece func index → act ≡ set_site next_site (id_tree turning) → step ≡ none_left_step answering
    → block ≡ begin_items op place → one ≡ old ++ listed block → two ≡ one ++ acts_list (act ∷ []) → now ≡ two ++ steps_list (step ∷ []) → now ≡ old ++ listed (divided_items op h func there)
divided_made op h top place func index o there turning answering act step block old one two now top_is place_is found index_is turning_is answering_is act_is step_is block_is one_is two_is now_is =
    let last : List Item = steps_list (run_act act ∷ (step ∷ [])) in
    let to_turns : turning ≡ fetch_from func there = turning_is ∙ (ap (turning_piece func) index_is ∙ (turning_found func o ∙ ap (fetch_from func) found)) in
    let to_answer : answering ≡ restore_by func there = answering_is ∙ (ap (answering_piece func) index_is ∙ (answering_found func o ∙ ap (restore_by func) found)) in
    let act_there : act ≡ set_site next_site (id_tree (fetch_from func there)) = act_is ∙ ap (λ (p : PieceId). set_site next_site (id_tree p)) to_turns in
    let step_there : step ≡ none_left_step (restore_by func there) = step_is ∙ ap none_left_step to_answer in
    let steps : List Step = run_act (set_site next_site (id_tree (fetch_from func there))) ∷ (none_left_step (restore_by func there) ∷ []) in
    now_is
    ∙ (ap (λ (l : List Item). l ++ steps_list (step ∷ [])) (two_is ∙ ap (λ (l : List Item). l ++ acts_list (act ∷ [])) one_is)
    ∙ (append_assoc (old ++ listed block) (acts_list (act ∷ [])) (steps_list (step ∷ []))
    ∙ (append_assoc old (listed block) last
    ∙ (ap (λ (xs : Items). old ++ (listed xs ++ last)) (block_is ∙ ap (begin_items op) (place_is ∙ ap (λ (k : ℕ). k - 4) top_is))
    ∙ (ap (λ (a : Act). old ++ (listed (begin_items op (h - 4)) ++ steps_list (run_act a ∷ (step ∷ [])))) act_there
    ∙ (ap (λ (x : Step). old ++ (listed (begin_items op (h - 4)) ++ steps_list (run_act (set_site next_site (id_tree (fetch_from func there))) ∷ (x ∷ [])))) step_there
    ∙ ap (λ (l : List Item). old ++ l) (sym (listed_both (begin_items op (h - 4)) (steps_items steps)))))))))

-- ---- the pieces behind it

pub turning_made : (func index : ℕ) (answering : PieceId) (step : Step) (block : Items) (empty one now : List Item) → empty ≡ [] → block ≡ turns_items → one ≡ empty ++ listed block
    → answering ≡ answering_piece func index → step ≡ none_left_step answering → now ≡ one ++ steps_list (step ∷ []) → items_from now ≡ turning_items func index
turning_made func index answering step block empty one now empty_is block_is one_is answering_is step_is now_is =
    let here : one ≡ listed turns_items = one_is ∙ (ap (λ (l : List Item). l ++ listed block) empty_is ∙ ap listed block_is) in
    let there : step ≡ none_left_step (answering_piece func index) = step_is ∙ ap none_left_step answering_is in
    let last : List Step = none_left_step (answering_piece func index) ∷ [] in
    ap items_from (now_is ∙ (ap (λ (l : List Item). l ++ steps_list (step ∷ [])) here ∙ ap (λ (x : Step). listed turns_items ++ steps_list (x ∷ [])) there))
    ∙ (from_both (listed turns_items) (steps_list last)
    ∙ (ap (λ (xs : Items). join xs (items_from (steps_list last))) (from_listed turns_items) ∙ ap (join turns_items) (sym (steps_are last))))

pub answering_made : (op : BinaryOp) (h place func index : ℕ) (next : PieceId) (act : Act) (block : Items) (empty one now : List Item) → empty ≡ [] → place ≡ h - 2 → block ≡ end_items op place
    → one ≡ empty ++ listed block → next ≡ body_piece func index → act ≡ set_site next_site (id_tree next) → now ≡ one ++ acts_list (act ∷ []) → items_from now ≡ answering_items op h func index
answering_made op h place func index next act block empty one now empty_is place_is block_is one_is next_is act_is now_is =
    let xs : Items = end_items op (h - 2) in
    let here : one ≡ listed xs = one_is ∙ (ap (λ (l : List Item). l ++ listed block) empty_is ∙ ap listed (block_is ∙ ap (end_items op) place_is)) in
    let there : act ≡ set_site next_site (id_tree (body_piece func index)) = act_is ∙ ap (λ (p : PieceId). set_site next_site (id_tree p)) next_is in
    let last : List Act = next_acts (body_piece func index) in
    ap items_from (now_is ∙ (ap (λ (l : List Item). l ++ acts_list (act ∷ [])) here ∙ ap (λ (a : Act). listed xs ++ acts_list (a ∷ [])) there))
    ∙ (from_both (listed xs) (acts_list last)
    ∙ (ap (λ (ys : Items). join ys (items_from (acts_list last))) (from_listed xs) ∙ ap (join xs) (sym (acts_end last))))
