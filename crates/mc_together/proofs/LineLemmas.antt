-- The lines that a tidy pack runs name nothing outside its namespace, and have no string. This speaks of lines alone,
-- and would stand as well in `mc_cmd`.
use Rattle.std.proofs.Common.{◌≡◌, ℕ, List, [], ◌∷◌, ◌++◌, Option, Some, None, Bool, true, false, refl, sym, ap, ◌∙◌, subst}
use Rattle.std.specs.Prelude.{nat_eq, ◌&&◌, if◌then◌else◌, option_and_then, unwrap_or, codes}
use Rattle.std.specs.List.{list_all}
use Rattle.std.proofs.lemmas.Bool.{and_from}
use Rattle.mc_nbt.specs.Tree.{Tree, int, string, list, compound, Items, no_items, item, Fields, no_fields, field, Part}
use Rattle.mc_nbt.specs.Spelling.{tree_text, first_item_text, more_items_text, first_field_text, more_fields_text}
use Rattle.mc_cmd.specs.Form.{Text, lacks}
use Rattle.mc_cmd.specs.Command.{Simple, objective_add, score_set, score_add, score_remove, score_get, score_op, score_reset, data_get, set_value, set_from, append_value, append_from, data_remove, call, call_with, return_value, chain_length, Cmd, plain, execute, PatternPart, literal, hole, Line, nothing, command, pattern}
use Rattle.mc_cmd.specs.Value.{path_text}
use Rattle.mc_cmd.specs.Pattern.{parts_text, pattern_text}
use Rattle.mc_cmd.specs.Grammar.{simple_text, subs_text, cmd_text, Says, says_nothing, says_comment, says_command, says_pattern, line_said}
use Rattle.mc_cmd.specs.Fill.{Filled, filled, missing, fill}
use Rattle.mc_cmd.specs.Chain.{Texts, line_of, said_text, filled_text, fill_line, with_line, fill_lines}
use Rattle.mc_cmd.specs.Tidy.{cmd_is_tidy, parts_by, text_by, says_tidy, is_tidy_by, is_tidy, Tidy}
use Rattle.mc_cmd.proofs.GrammarLemmas.{said_read}
use Rattle.mc_cmd.proofs.SpellingLemmas.{subs_then}
use Rattle.mc_cmd.proofs.WordLemmas.{is_number_byte, all_lack, lacks-append}
use Rattle.mc_together.specs.Bare.{is_bare, items_bare, fields_bare}
use Rattle.mc_together.proofs.EffectLemmas.{first, second, simple_is_bare, cmd_is_bare}
use Rattle.mc_together.proofs.MarkLemmas.{Mark, byte, number, is_numeric, marks_fit, text_with, zeros, itself, marked}
use Rattle.mc_together.proofs.WordsLemmas.{filled_tidy}

-- ---- what a text lacks

lacks_both : (c : ℕ) (v w : Text) → lacks c (v ++ w) ≡ lacks c v && lacks c w
lacks_both c [] w = refl
lacks_both c (b ∷ v) w = go (nat_eq b c) (lacks_both c v w)
  where
    go : (d : Bool) → lacks c (v ++ w) ≡ lacks c v && lacks c w → (if d then false else lacks c (v ++ w)) ≡ (if d then false else lacks c v) && lacks c w
    go true ih = refl
    go false ih = ih

lacks_front : (c : ℕ) (v w : Text) → lacks c (v ++ w) ≡ true → lacks c v ≡ true
lacks_front c v w h = first (lacks c v) (lacks c w) (sym (lacks_both c v w) ∙ h)

lacks_back : (c : ℕ) (v w : Text) → lacks c (v ++ w) ≡ true → lacks c w ≡ true
lacks_back c v w h = second (lacks c v) (lacks c w) (sym (lacks_both c v w) ∙ h)

lacks_rest : (c b : ℕ) (t : Text) → lacks c (b ∷ t) ≡ true → lacks c t ≡ true
lacks_rest c b t h = lacks_back c (b ∷ []) t h

mutual
  tree_bare : (t : Tree) → lacks 34 (tree_text t) ≡ true → is_bare t ≡ true
  tree_bare (int z) h = refl
  tree_bare (string s) h = absurd cc
  tree_bare (list ts) h = first_item_bare ts (lacks_rest 34 91 (first_item_text ts) h)
  tree_bare (compound fs) h = first_field_bare fs (lacks_rest 34 123 (first_field_text fs) h)

  first_item_bare : (ts : Items) → lacks 34 (first_item_text ts) ≡ true → items_bare ts ≡ true
  first_item_bare no_items h = refl
  first_item_bare (item t ts) h = and_from (is_bare t) (items_bare ts) (tree_bare t (lacks_front 34 (tree_text t) (more_items_text ts) h)) (more_items_bare ts (lacks_back 34 (tree_text t) (more_items_text ts) h))

  more_items_bare : (ts : Items) → lacks 34 (more_items_text ts) ≡ true → items_bare ts ≡ true
  more_items_bare no_items h = refl
  more_items_bare (item t ts) h =
      let g = lacks_rest 34 44 (tree_text t ++ more_items_text ts) h in
      and_from (is_bare t) (items_bare ts) (tree_bare t (lacks_front 34 (tree_text t) (more_items_text ts) g)) (more_items_bare ts (lacks_back 34 (tree_text t) (more_items_text ts) g))

  first_field_bare : (fs : Fields) → lacks 34 (first_field_text fs) ≡ true → fields_bare fs ≡ true
  first_field_bare no_fields h = refl
  first_field_bare (field k t fs) h =
      let g = lacks_rest 34 58 (tree_text t ++ more_fields_text fs) (lacks_back 34 k (58 ∷ (tree_text t ++ more_fields_text fs)) h) in
      and_from (is_bare t) (fields_bare fs) (tree_bare t (lacks_front 34 (tree_text t) (more_fields_text fs) g)) (more_fields_bare fs (lacks_back 34 (tree_text t) (more_fields_text fs) g))

  more_fields_bare : (fs : Fields) → lacks 34 (more_fields_text fs) ≡ true → fields_bare fs ≡ true
  more_fields_bare no_fields h = refl
  more_fields_bare (field k t fs) h =
      let f = lacks_rest 34 44 (k ++ (58 ∷ (tree_text t ++ more_fields_text fs))) h in
      let g = lacks_rest 34 58 (tree_text t ++ more_fields_text fs) (lacks_back 34 k (58 ∷ (tree_text t ++ more_fields_text fs)) f) in
      and_from (is_bare t) (fields_bare fs) (tree_bare t (lacks_front 34 (tree_text t) (more_fields_text fs) g)) (more_fields_bare fs (lacks_back 34 (tree_text t) (more_fields_text fs) g))

-- the value at the end of a line
value_bare : (i : Text) (ps : List Part) (front words v : Text) → lacks 34 (front ++ (i ++ (32 ∷ (path_text ps ++ (32 ∷ (words ++ v)))))) ≡ true → lacks 34 v ≡ true
value_bare i ps front words v h =
    let a = lacks_back 34 front (i ++ (32 ∷ (path_text ps ++ (32 ∷ (words ++ v))))) h in
    let b = lacks_rest 34 32 (path_text ps ++ (32 ∷ (words ++ v))) (lacks_back 34 i (32 ∷ (path_text ps ++ (32 ∷ (words ++ v)))) a) in
    let c = lacks_rest 34 32 (words ++ v) (lacks_back 34 (path_text ps) (32 ∷ (words ++ v)) b) in
    lacks_back 34 words v c

simple_bare : (s : Simple) → lacks 34 (simple_text s) ≡ true → simple_is_bare s ≡ true
simple_bare (objective_add o) h = refl
simple_bare (score_set k o z) h = refl
simple_bare (score_add k o z) h = refl
simple_bare (score_remove k o z) h = refl
simple_bare (score_get k o) h = refl
simple_bare (score_op k o g i q) h = refl
simple_bare (score_reset k o) h = refl
simple_bare (data_get i ps) h = refl
simple_bare (set_value i ps v) h = tree_bare v (value_bare i ps (codes "data modify storage ") (codes "set value ") (tree_text v) h)
simple_bare (set_from i ps j qs) h = refl
simple_bare (append_value i ps v) h = tree_bare v (value_bare i ps (codes "data modify storage ") (codes "append value ") (tree_text v) h)
simple_bare (append_from i ps j qs) h = refl
simple_bare (data_remove i ps) h = refl
simple_bare (call g) h = refl
simple_bare (call_with g i ps) h = refl
simple_bare (return_value z) h = refl
simple_bare chain_length h = refl

cmd_bare : (c : Cmd) → lacks 34 (cmd_text c) ≡ true → cmd_is_bare c ≡ true
cmd_bare (plain s) h = simple_bare s h
cmd_bare (execute ss s) h =
    simple_bare s (lacks_back 34 (subs_text ss []) (simple_text s) (ap (lacks 34) (sym (subs_then ss (simple_text s))) ∙ lacks_back 34 (codes "execute ") (subs_text ss (simple_text s)) h))

said_bare : (t : Text) (l : Line) (c : Cmd) → Says t l → l ≡ command c → lacks 34 t ≡ true → cmd_is_bare c ≡ true
said_bare _ _ c says_nothing e h = absurd cc
said_bare _ _ c (says_comment t g m) e h = absurd cc
said_bare _ _ c (says_command t b s f m) e h = let same : b ≡ c = cc in ap cmd_is_bare (sym same) ∙ cmd_bare b (ap (lacks 34) (sym s) ∙ h)
said_bare _ _ c (says_pattern t ps s f m) e h = absurd cc

-- a filled text lacks a quotation mark, as its pattern does
parts_bare : (ps : List PatternPart) → lacks 34 (parts_text ps) ≡ true → lacks 34 (parts_by (48 ∷ []) ps) ≡ true
parts_bare [] h = refl
parts_bare (literal l ∷ ps) h = lacks-append 34 l (parts_by (48 ∷ []) ps) (lacks_front 34 l (parts_text ps) h) (parts_bare ps (lacks_back 34 l (parts_text ps) h))
parts_bare (hole n ∷ ps) h =
    parts_bare ps (lacks_rest 34 41 (parts_text ps) (lacks_back 34 n (41 ∷ parts_text ps) (lacks_rest 34 40 (n ++ (41 ∷ parts_text ps)) (lacks_rest 34 36 (40 ∷ (n ++ (41 ∷ parts_text ps))) h))))

same_lacks : (b : ℕ) (t u : Text) → (lacks 34 t ≡ true → lacks 34 u ≡ true) → lacks 34 (b ∷ t) ≡ true → lacks 34 (b ∷ u) ≡ true
same_lacks b t u f h = go (nat_eq b 34) h
  where
    go : (d : Bool) → (if d then false else lacks 34 t) ≡ true → (if d then false else lacks 34 u) ≡ true
    go true h = absurd cc
    go false h = f h

marks_bare : (ms : List Mark) → marks_fit ms ≡ true → lacks 34 (text_with zeros ms) ≡ true → lacks 34 (text_with itself ms) ≡ true
marks_bare [] g h = refl
marks_bare (byte b ∷ ms) g h = same_lacks b (text_with zeros ms) (text_with itself ms) (marks_bare ms g) h
marks_bare (number d ∷ ms) g h =
    lacks-append 34 d (text_with itself ms) (all_lack is_number_byte 34 refl d (second _ (list_all is_number_byte d) (first (is_numeric d) (marks_fit ms) g)))
    (marks_bare ms (second (is_numeric d) (marks_fit ms) g) (lacks_rest 34 48 (text_with zeros ms) h))

module _ (ns : Text) where
  -- a command that names nothing outside the namespace, and has no string
  pub record Clean (c : Cmd) : Type 0 where
    pub tidy : cmd_is_tidy ns c ≡ true
    pub bare : cmd_is_bare c ≡ true

  abbrev pub IsClean : Text → Type 0
  IsClean t = (c : Cmd) → line_said t ≡ Some (command c) → Clean c

  abbrev pub Cleans : Texts → Type 0
  Cleans [] = Unit {0}
  Cleans (t ∷ ts) = IsClean t × Cleans ts

  by_tidy : (d t : Text) (l : Line) → line_said t ≡ Some l → is_tidy_by ns d t ≡ true → says_tidy ns (line_said (text_by d t l)) ≡ true
  by_tidy d t l e h = sym (ap (λ o. says_tidy ns (option_and_then (λ l. line_said (text_by d t l)) o)) e) ∙ h

  zero_tidy : (t : Text) → is_tidy ns t ≡ true → is_tidy_by ns (48 ∷ []) t ≡ true
  zero_tidy t h = first (is_tidy_by ns (48 ∷ []) t) (is_tidy_by ns (49 ∷ []) t) (second (lacks 34 t) _ h)

  one_tidy : (t : Text) → is_tidy ns t ≡ true → is_tidy_by ns (49 ∷ []) t ≡ true
  one_tidy t h = second (is_tidy_by ns (48 ∷ []) t) (is_tidy_by ns (49 ∷ []) t) (second (lacks 34 t) _ h)

  pub tidy_clean : (t : Text) → is_tidy ns t ≡ true → IsClean t
  tidy_clean t h c e = record {
    tidy = sym (ap (says_tidy ns) e) ∙ by_tidy (48 ∷ []) t (command c) e (zero_tidy t h);
    bare = said_bare t (command c) c (said_read t (command c) e) refl (first (lacks 34 t) _ h);
  }

  pub tidy_cleans : (ts : Texts) → Tidy ns ts → Cleans ts
  tidy_cleans [] h = tt
  tidy_cleans (t ∷ ts) h = (tidy_clean t (first (is_tidy ns t) _ h), tidy_cleans ts (second (is_tidy ns t) (list_all (is_tidy ns) ts) h))

  pattern_of : (t : Text) (l : Line) (ps : List PatternPart) → Says t l → l ≡ pattern ps → t ≡ pattern_text ps
  pattern_of _ _ ps says_nothing e = absurd cc
  pattern_of _ _ ps (says_comment t g m) e = absurd cc
  pattern_of _ _ ps (says_command t b s f m) e = absurd cc
  pattern_of _ _ ps (says_pattern t qs s f m) e = let same : qs ≡ ps = cc in s ∙ ap pattern_text same

  pub filled_clean : (t : Text) (ps : List PatternPart) (fs : Fields) (u : Text) → line_said t ≡ Some (pattern ps) → is_tidy ns t ≡ true → is_bare (compound fs) ≡ true → fill ps (compound fs) ≡ filled u → IsClean u
  filled_clean t ps fs u e h b f c s =
      let m = marked 0 ps fs u b f in
      let text : t ≡ pattern_text ps = pattern_of t (pattern ps) ps (said_read t (pattern ps) e) refl in
      let quiet : lacks 34 (parts_text ps) ≡ true = lacks_rest 34 36 (parts_text ps) (ap (lacks 34) (sym text) ∙ first (lacks 34 t) _ h) in
      let free : lacks 34 u ≡ true = ap (lacks 34) (sym m.filled) ∙ marks_bare m.marks m.fit (ap (lacks 34) m.by_zero ∙ parts_bare ps quiet) in
      record {
        tidy = filled_tidy ns ps fs u c b f (by_tidy (48 ∷ []) t (pattern ps) e (zero_tidy t h)) (by_tidy (49 ∷ []) t (pattern ps) e (one_tidy t h)) s;
        bare = said_bare u (command c) c (said_read u (command c) s) refl free;
      }

  line_clean : (t : Text) (fs : Fields) (u : Text) → is_tidy ns t ≡ true → is_bare (compound fs) ≡ true → fill_line (compound fs) t (line_of t) ≡ Some u → IsClean u
  line_clean t fs u h b e = go (line_said t) refl e
    where
      stays : Some t ≡ Some u → IsClean u
      stays e = let s : t ≡ u = cc in subst IsClean s (tidy_clean t h)

      said : (x : Text) (o : Option Line) → said_text x o ≡ Some u → x ≡ u
      said x None e = absurd cc
      said x (Some l) e = cc

      filling : (ps : List PatternPart) → line_said t ≡ Some (pattern ps) → (r : Filled) → fill ps (compound fs) ≡ r → filled_text r ≡ Some u → IsClean u
      filling ps g (missing k) f e = absurd cc
      filling ps g (filled x) f e = subst IsClean (said x (line_said x) e) (filled_clean t ps fs x g h b f)

      go : (o : Option Line) → line_said t ≡ o → fill_line (compound fs) t (unwrap_or o nothing) ≡ Some u → IsClean u
      go None g e = stays e
      go (Some nothing) g e = stays e
      go (Some (command c)) g e = stays e
      go (Some (pattern ps)) g e = filling ps g (fill ps (compound fs)) refl e

  pub filled_cleans : (fs : Fields) (ts us : Texts) → Tidy ns ts → is_bare (compound fs) ≡ true → fill_lines (compound fs) ts ≡ Some us → Cleans us
  filled_cleans fs [] us h b e = let s : [] ≡ us = cc in subst Cleans s tt
  filled_cleans fs (t ∷ ts) us h b e =
      go (fill_line (compound fs) t (line_of t)) refl (fill_lines (compound fs) ts) refl e (λ vs f. filled_cleans fs ts vs (second (is_tidy ns t) (list_all (is_tidy ns) ts) h) b f)
    where
      go : (o : Option Text) → fill_line (compound fs) t (line_of t) ≡ o → (p : Option Texts) → fill_lines (compound fs) ts ≡ p → with_line o p ≡ Some us → ((vs : Texts) → fill_lines (compound fs) ts ≡ Some vs → Cleans vs) → Cleans us
      go None f p g e ih = absurd cc
      go (Some u) f None g e ih = absurd cc
      go (Some u) f (Some vs) g e ih =
          let s : u ∷ vs ≡ us = cc in
          subst Cleans s (line_clean t fs u (first (is_tidy ns t) _ h) b f, ih vs g)
