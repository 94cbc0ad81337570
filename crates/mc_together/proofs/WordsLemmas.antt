-- Which names the text of a command has, told from its words alone; and so what a macro line of a tidy pack says. This
-- speaks of lines alone, and would stand as well in `mc_cmd`.
use Rattle.std.proofs.Common.{◌≡◌, ℕ, zero, suc, ◌+◌, ◌<◌, List, [], ◌∷◌, ◌++◌, length, Option, Some, None, Bool, true, false, refl, sym, ap, ◌∙◌, subst, arith}
use Rattle.std.specs.Prelude.{nat_eq, not, ◌&&◌, codes}
use Rattle.std.specs.List.{list_all}
use Rattle.mc_nbt.specs.Tree.{Part, Fields, compound}
use Rattle.mc_nbt.specs.Path.{is_path}
use Rattle.mc_nbt.specs.Shape.{is_tree}
use Rattle.mc_nbt.specs.Word.{is_int}
use Rattle.mc_cmd.specs.Form.{Text, lacks}
use Rattle.mc_cmd.specs.Command.{Cmp, less, less_equal, equal, greater_equal, greater, Simple, objective_add, score_set, score_add, score_remove, score_get, score_op, score_reset, data_get, set_value, set_from, append_value, append_from, data_remove, call, call_with, return_value, chain_length, Test, scores_compare, score_matches, path_selects, Sub, if_test, unless_test, store_score, store_data, Cmd, plain, execute, PatternPart, Line, nothing, command, pattern}
use Rattle.mc_cmd.specs.Word.{is_holder, is_objective, is_id, is_function, is_natural, op_text, cmp_text, range_text, range_fits}
use Rattle.mc_cmd.specs.Value.{path_text}
use Rattle.mc_cmd.specs.Grammar.{simple_text, simple_fits, test_text, test_fits, sub_text, sub_fits, subs_text, subs_fit, may_run, cmd_text, cmd_fits, Says, says_nothing, says_comment, says_command, says_pattern, line_said}
use Rattle.mc_cmd.specs.Fill.{filled, fill_from}
use Rattle.mc_cmd.specs.Tidy.{own_objective, own_storage, own_function, simple_is_tidy, test_is_tidy, sub_is_tidy, cmd_is_tidy, parts_by, says_tidy}
use Rattle.mc_cmd.proofs.FormLemmas.{cut_at_text, cut_at_none}
use Rattle.mc_cmd.proofs.WordLemmas.{holder_bare, objective_bare, id_bare, function_bare, op_bare, range_bare}
use Rattle.mc_cmd.proofs.ValueLemmas.{path_bare}
use Rattle.mc_cmd.proofs.GrammarLemmas.{said_read}
use Rattle.mc_together.specs.Bare.{is_bare}
use Rattle.mc_together.proofs.EffectLemmas.{first, second}
use Rattle.mc_together.proofs.MarkLemmas.{Mark, byte, number, marks_fit, text_with, zeros, ones, itself, Steady, steady_true, with_strip, steady_strip, cut_test, word, steady_word, steady_objective, steady_storage, steady_function, marked}

and_true : (a : Bool) → a && true ≡ a
and_true true = refl
and_true false = refl

and_assoc : (a b c : Bool) → a && (b && c) ≡ (a && b) && c
and_assoc true b c = refl
and_assoc false b c = refl

abbrev any : Text → Bool
any t = true

-- a word before a space, and one at the end
word_cut : (W R : Text → Bool) (w t : Text) → lacks 32 w ≡ true → word W R (w ++ (32 ∷ t)) ≡ W w && R t
word_cut W R w t h = ap (λ o. cut_test o (W (w ++ (32 ∷ t))) W R) (cut_at_text 32 w t h)

word_end : (W R : Text → Bool) (w : Text) → lacks 32 w ≡ true → word W R w ≡ W w
word_end W R w h = ap (λ o. cut_test o (W w) W R) (cut_at_none 32 w h)

module _ (ns : Text) where
  -- a score before others, and one at the end
  abbrev scored : (Text → Bool) → Text → Bool
  scored R = word any (word (own_objective ns) R)

  -- a place of a storage before others
  abbrev placed : (Text → Bool) → Text → Bool
  placed R = word (own_storage ns) (word any R)

  abbrev last_place : Text → Bool
  last_place = word (own_storage ns) any

  abbrev modified_ok : Text → Bool
  modified_ok = with_strip (codes "set from storage ") last_place (with_strip (codes "append from storage ") last_place any)

  abbrev called_ok : Text → Bool
  called_ok = with_strip (codes "with storage ") last_place any

  -- whether the names of a command's text are the namespace's own
  abbrev simple_ok : Text → Bool
  simple_ok =
      with_strip (codes "scoreboard objectives add ") (word (own_objective ns) any)
      (with_strip (codes "scoreboard players set ") (scored any)
      (with_strip (codes "scoreboard players add ") (scored any)
      (with_strip (codes "scoreboard players remove ") (scored any)
      (with_strip (codes "scoreboard players get ") (scored any)
      (with_strip (codes "scoreboard players operation ") (scored (word any (scored any)))
      (with_strip (codes "scoreboard players reset ") (scored any)
      (with_strip (codes "data get storage ") last_place
      (with_strip (codes "data modify storage ") (placed modified_ok)
      (with_strip (codes "data remove storage ") last_place
      (with_strip (codes "function ") (word (own_function ns) called_ok) any))))))))))

  abbrev test_ok : (Text → Bool) → Text → Bool
  test_ok R =
      with_strip (codes "score ") (scored (with_strip (codes "matches ") (word any R) (word any (scored R))))
      (with_strip (codes "data storage ") (placed R) any)

  -- the same of sub-commands, of which there are fewer than n
  abbrev subs_ok : ℕ → Text → Bool
  subs_ok zero t = true
  subs_ok (suc n) t =
      with_strip (codes "run ") simple_ok
      (with_strip (codes "if ") (test_ok (subs_ok n))
      (with_strip (codes "unless ") (test_ok (subs_ok n))
      (with_strip (codes "store result score ") (scored (subs_ok n))
      (with_strip (codes "store result storage ") (placed (word any (word any (subs_ok n)))) any)))) t

  abbrev cmd_ok : ℕ → Text → Bool
  cmd_ok n = with_strip (codes "execute ") (subs_ok n) simple_ok

  -- ---- it is steady

  scored_steady : (R : Text → Bool) → Steady R → Steady (scored R)
  scored_steady R r = steady_word any _ steady_true (steady_word (own_objective ns) R (steady_objective ns) r)

  placed_steady : (R : Text → Bool) → Steady R → Steady (placed R)
  placed_steady R r = steady_word (own_storage ns) _ (steady_storage ns) (steady_word any R steady_true r)

  last_steady : Steady last_place
  last_steady = steady_word (own_storage ns) any (steady_storage ns) steady_true

  modified_steady : Steady modified_ok
  modified_steady = steady_strip (codes "set from storage ") refl _ _ last_steady (steady_strip (codes "append from storage ") refl _ _ last_steady steady_true)

  called_steady : Steady called_ok
  called_steady = steady_strip (codes "with storage ") refl _ _ last_steady steady_true

  simple_steady : Steady simple_ok
  simple_steady =
      steady_strip (codes "scoreboard objectives add ") refl _ _ (steady_word (own_objective ns) any (steady_objective ns) steady_true)
      (steady_strip (codes "scoreboard players set ") refl _ _ (scored_steady any steady_true)
      (steady_strip (codes "scoreboard players add ") refl _ _ (scored_steady any steady_true)
      (steady_strip (codes "scoreboard players remove ") refl _ _ (scored_steady any steady_true)
      (steady_strip (codes "scoreboard players get ") refl _ _ (scored_steady any steady_true)
      (steady_strip (codes "scoreboard players operation ") refl _ _ (scored_steady _ (steady_word any _ steady_true (scored_steady any steady_true)))
      (steady_strip (codes "scoreboard players reset ") refl _ _ (scored_steady any steady_true)
      (steady_strip (codes "data get storage ") refl _ _ last_steady
      (steady_strip (codes "data modify storage ") refl _ _ (placed_steady _ modified_steady)
      (steady_strip (codes "data remove storage ") refl _ _ last_steady
      (steady_strip (codes "function ") refl _ _ (steady_word (own_function ns) _ (steady_function ns) called_steady) steady_true))))))))))

  test_steady : (R : Text → Bool) → Steady R → Steady (test_ok R)
  test_steady R r =
      steady_strip (codes "score ") refl _ _ (scored_steady _ (steady_strip (codes "matches ") refl _ _ (steady_word any R steady_true r) (steady_word any _ steady_true (scored_steady R r))))
      (steady_strip (codes "data storage ") refl _ _ (placed_steady R r) steady_true)

  subs_steady : (n : ℕ) → Steady (subs_ok n)
  subs_steady zero = steady_true
  subs_steady (suc n) =
      let r = subs_steady n in
      steady_strip (codes "run ") refl _ _ simple_steady
      (steady_strip (codes "if ") refl _ _ (test_steady (subs_ok n) r)
      (steady_strip (codes "unless ") refl _ _ (test_steady (subs_ok n) r)
      (steady_strip (codes "store result score ") refl _ _ (scored_steady (subs_ok n) r)
      (steady_strip (codes "store result storage ") refl _ _ (placed_steady _ (steady_word any _ steady_true (steady_word any _ steady_true r))) steady_true))))

  cmd_steady : (n : ℕ) → Steady (cmd_ok n)
  cmd_steady n = steady_strip (codes "execute ") refl _ _ (subs_steady n) simple_steady

  -- ---- it is what is told of the command

  score_cut : (R : Text → Bool) (h o t : Text) → is_holder h && is_objective o ≡ true → scored R (h ++ (32 ∷ (o ++ (32 ∷ t)))) ≡ own_objective ns o && R t
  score_cut R h o t f = word_cut any (word (own_objective ns) R) h _ (holder_bare h (first (is_holder h) (is_objective o) f)) ∙ word_cut (own_objective ns) R o t (objective_bare o (second (is_holder h) (is_objective o) f))

  score_end : (h o : Text) → is_holder h && is_objective o ≡ true → scored any (h ++ (32 ∷ o)) ≡ own_objective ns o
  score_end h o f = word_cut any (word (own_objective ns) any) h _ (holder_bare h (first (is_holder h) (is_objective o) f)) ∙ word_end (own_objective ns) any o (objective_bare o (second (is_holder h) (is_objective o) f))

  place_cut : (R : Text → Bool) (i : Text) (ps : List Part) (t : Text) → is_id i && is_path ps ≡ true → placed R (i ++ (32 ∷ (path_text ps ++ (32 ∷ t)))) ≡ own_storage ns i && R t
  place_cut R i ps t f =
      word_cut (own_storage ns) (word any R) i _ (id_bare i (first (is_id i) (is_path ps) f))
      ∙ ap (λ b. own_storage ns i && b) (word_cut any R (path_text ps) t (path_bare ps (second (is_id i) (is_path ps) f)))

  place_end : (i t : Text) → is_id i ≡ true → last_place (i ++ (32 ∷ t)) ≡ own_storage ns i
  place_end i t f = word_cut (own_storage ns) any i t (id_bare i f) ∙ and_true (own_storage ns i)

  simple_exact : (s : Simple) → simple_fits s ≡ true → simple_ok (simple_text s) ≡ simple_is_tidy ns s
  simple_exact (objective_add o) f = word_cut (own_objective ns) any o (codes "dummy") (objective_bare o f) ∙ and_true (own_objective ns o)
  simple_exact (score_set h o z) f = score_cut any h o _ (first (is_holder h && is_objective o) (is_int z) f) ∙ and_true (own_objective ns o)
  simple_exact (score_add h o z) f = score_cut any h o _ (first (is_holder h && is_objective o) (is_natural z) f) ∙ and_true (own_objective ns o)
  simple_exact (score_remove h o z) f = score_cut any h o _ (first (is_holder h && is_objective o) (is_natural z) f) ∙ and_true (own_objective ns o)
  simple_exact (score_get h o) f = score_end h o f
  simple_exact (score_op h o g i q) f =
      score_cut (word any (scored any)) h o _ (first (is_holder h && is_objective o) (is_holder i && is_objective q) f)
      ∙ ap (λ b. own_objective ns o && b) (word_cut any (scored any) (op_text g) _ (op_bare g refl) ∙ score_end i q (second (is_holder h && is_objective o) (is_holder i && is_objective q) f))
  simple_exact (score_reset h o) f = score_end h o f
  simple_exact (data_get i ps) f = place_end i _ (first (is_id i) (is_path ps) f)
  simple_exact (set_value i ps v) f = place_cut modified_ok i ps _ (first (is_id i && is_path ps) (is_tree v) f) ∙ and_true (own_storage ns i)
  simple_exact (set_from i ps j qs) f =
      place_cut modified_ok i ps _ (first (is_id i && is_path ps) (is_id j && is_path qs) f)
      ∙ ap (λ b. own_storage ns i && b) (place_end j _ (first (is_id j) (is_path qs) (second (is_id i && is_path ps) (is_id j && is_path qs) f)))
  simple_exact (append_value i ps v) f = place_cut modified_ok i ps _ (first (is_id i && is_path ps) (is_tree v) f) ∙ and_true (own_storage ns i)
  simple_exact (append_from i ps j qs) f =
      place_cut modified_ok i ps _ (first (is_id i && is_path ps) (is_id j && is_path qs) f)
      ∙ ap (λ b. own_storage ns i && b) (place_end j _ (first (is_id j) (is_path qs) (second (is_id i && is_path ps) (is_id j && is_path qs) f)))
  simple_exact (data_remove i ps) f = place_end i _ (first (is_id i) (is_path ps) f)
  simple_exact (call g) f = word_end (own_function ns) called_ok g (function_bare g f)
  simple_exact (call_with g i ps) f =
      let p = second (is_function g) (is_id i && is_path ps) f in
      word_cut (own_function ns) called_ok g _ (function_bare g (first (is_function g) (is_id i && is_path ps) f))
      ∙ ap (λ b. own_function ns g && b) (place_end i _ (first (is_id i) (is_path ps) p))
  simple_exact (return_value z) f = refl
  simple_exact chain_length f = refl

  compare_cut : (R : Text → Bool) (c : Cmp) (t : Text) → with_strip (codes "matches ") (word any R) (word any (scored R)) (cmp_text c ++ (32 ∷ t)) ≡ scored R t
  compare_cut R less t = refl
  compare_cut R less_equal t = refl
  compare_cut R equal t = refl
  compare_cut R greater_equal t = refl
  compare_cut R greater t = refl

  test_exact : (R : Text → Bool) (c : Test) (t : Text) → test_fits c ≡ true → test_ok R (test_text c t) ≡ test_is_tidy ns c && R t
  test_exact R (scores_compare h o c i q) t f =
      score_cut (with_strip (codes "matches ") (word any R) (word any (scored R))) h o _ (first (is_holder h && is_objective o) (is_holder i && is_objective q) f)
      ∙ ap (λ b. own_objective ns o && b) (compare_cut R c _ ∙ score_cut R i q t (second (is_holder h && is_objective o) (is_holder i && is_objective q) f))
      ∙ and_assoc (own_objective ns o) (own_objective ns q) (R t)
  test_exact R (score_matches h o r) t f =
      score_cut (with_strip (codes "matches ") (word any R) (word any (scored R))) h o _ (first (is_holder h && is_objective o) (range_fits r) f)
      ∙ ap (λ b. own_objective ns o && b) (word_cut any R (range_text r) t (range_bare r (second (is_holder h && is_objective o) (range_fits r) f)))
  test_exact R (path_selects i ps) t f = place_cut R i ps t f

  sub_exact : (n : ℕ) (s : Sub) (t : Text) → sub_fits s ≡ true → subs_ok (suc n) (sub_text s t) ≡ sub_is_tidy ns s && subs_ok n t
  sub_exact n (if_test c) t f = test_exact (subs_ok n) c t f
  sub_exact n (unless_test c) t f = test_exact (subs_ok n) c t f
  sub_exact n (store_score h o) t f = score_cut (subs_ok n) h o t f
  sub_exact n (store_data i ps) t f = place_cut (word any (word any (subs_ok n))) i ps _ f

  subs_exact : (n : ℕ) (ss : List Sub) (s : Simple) → length ss < n → subs_fit ss ≡ true → simple_fits s ≡ true → subs_ok n (subs_text ss (simple_text s)) ≡ list_all (sub_is_tidy ns) ss && simple_is_tidy ns s
  subs_exact zero ss s l f g = absurd (omega arith)
  subs_exact (suc n) [] s l f g = simple_exact s g
  subs_exact (suc n) (x ∷ ss) s l f g =
      sub_exact n x _ (first (sub_fits x) (subs_fit ss) f)
      ∙ ap (λ b. sub_is_tidy ns x && b) (subs_exact n ss s (omega arith) (second (sub_fits x) (subs_fit ss) f) g)
      ∙ and_assoc (sub_is_tidy ns x) (list_all (sub_is_tidy ns) ss) (simple_is_tidy ns s)

  not_execute : (n : ℕ) (s : Simple) → cmd_ok n (simple_text s) ≡ simple_ok (simple_text s)
  not_execute n (objective_add o) = refl
  not_execute n (score_set h o z) = refl
  not_execute n (score_add h o z) = refl
  not_execute n (score_remove h o z) = refl
  not_execute n (score_get h o) = refl
  not_execute n (score_op h o f i q) = refl
  not_execute n (score_reset h o) = refl
  not_execute n (data_get i ps) = refl
  not_execute n (set_value i ps v) = refl
  not_execute n (set_from i ps j qs) = refl
  not_execute n (append_value i ps v) = refl
  not_execute n (append_from i ps j qs) = refl
  not_execute n (data_remove i ps) = refl
  not_execute n (call f) = refl
  not_execute n (call_with f i ps) = refl
  not_execute n (return_value z) = refl
  not_execute n chain_length = refl

  abbrev subs_of : Cmd → List Sub
  subs_of (plain s) = []
  subs_of (execute ss s) = ss

  cmd_exact : (n : ℕ) (c : Cmd) → length (subs_of c) < n → cmd_fits c ≡ true → cmd_ok n (cmd_text c) ≡ cmd_is_tidy ns c
  cmd_exact n (plain s) l f = not_execute n s ∙ simple_exact s f
  cmd_exact n (execute ss s) l f =
      let g = second (may_run ss s) (subs_fit ss && simple_fits s) f in
      subs_exact n ss s l (first (subs_fit ss) (simple_fits s) g) (second (subs_fit ss) (simple_fits s) g)

  -- ---- a filled line

  -- a command's text begins with neither a number nor the mark of a comment
  abbrev starts : Text → Bool
  starts [] = false
  starts (b ∷ t) = not (nat_eq b 35)

  cmd_starts : (c : Cmd) → starts (cmd_text c) ≡ true
  cmd_starts (plain (objective_add o)) = refl
  cmd_starts (plain (score_set h o z)) = refl
  cmd_starts (plain (score_add h o z)) = refl
  cmd_starts (plain (score_remove h o z)) = refl
  cmd_starts (plain (score_get h o)) = refl
  cmd_starts (plain (score_op h o f i q)) = refl
  cmd_starts (plain (score_reset h o)) = refl
  cmd_starts (plain (data_get i ps)) = refl
  cmd_starts (plain (set_value i ps v)) = refl
  cmd_starts (plain (set_from i ps j qs)) = refl
  cmd_starts (plain (append_value i ps v)) = refl
  cmd_starts (plain (append_from i ps j qs)) = refl
  cmd_starts (plain (data_remove i ps)) = refl
  cmd_starts (plain (call f)) = refl
  cmd_starts (plain (call_with f i ps)) = refl
  cmd_starts (plain (return_value z)) = refl
  cmd_starts (plain chain_length) = refl
  cmd_starts (execute ss s) = refl

  starts_alike : (ms : List Mark) → starts (text_with itself ms) ≡ true → starts (text_with zeros ms) ≡ true
  starts_alike [] h = h
  starts_alike (byte b ∷ ms) h = h
  starts_alike (number d ∷ ms) h = refl

  -- what a text says of commands
  record Command (t : Text) (c : Cmd) : Type 0 where
    text : t ≡ cmd_text c
    fits : cmd_fits c ≡ true

  command_of : (t : Text) (l : Line) (c : Cmd) → Says t l → l ≡ command c → Command t c
  command_of _ _ c says_nothing e = absurd cc
  command_of _ _ c (says_comment t g m) e = absurd cc
  command_of _ _ c (says_command t b s f m) e =
      let same : b ≡ c = cc in record { text = s ∙ ap cmd_text same; fits = ap cmd_fits (sym same) ∙ f }
  command_of _ _ c (says_pattern t ps s f m) e = absurd cc

  nothing_of : (t : Text) (l : Line) → Says t l → l ≡ nothing → starts t ≡ false
  nothing_of _ _ says_nothing e = refl
  nothing_of _ _ (says_comment t g m) e = refl
  nothing_of _ _ (says_command t b s f m) e = absurd cc
  nothing_of _ _ (says_pattern t ps s f m) e = absurd cc

  three : (ms : List Mark) (c0 c1 c : Cmd) → marks_fit ms ≡ true → Command (text_with zeros ms) c0 → Command (text_with ones ms) c1 → Command (text_with itself ms) c
      → cmd_is_tidy ns c0 ≡ true → cmd_is_tidy ns c1 ≡ true → cmd_is_tidy ns c ≡ true
  three ms c0 c1 c g a0 a1 a t0 t1 =
      let n : ℕ = suc (length (subs_of c0) + (length (subs_of c1) + length (subs_of c))) in
      let h0 : cmd_ok n (text_with zeros ms) ≡ true = ap (cmd_ok n) a0.text ∙ cmd_exact n c0 (omega arith) a0.fits ∙ t0 in
      let h1 : cmd_ok n (text_with ones ms) ≡ true = ap (cmd_ok n) a1.text ∙ cmd_exact n c1 (omega arith) a1.fits ∙ t1 in
      sym (cmd_exact n c (omega arith) a.fits) ∙ sym (ap (cmd_ok n) a.text) ∙ (cmd_steady n).by ms g h0 h1

  -- a command that is tidy, or nothing
  data Told (t : Text) : Type 0 where
    none : starts t ≡ false → Told t
    some : (c : Cmd) → Command t c → cmd_is_tidy ns c ≡ true → Told t

  told : (t : Text) → says_tidy ns (line_said t) ≡ true → Told t
  told t h = go (line_said t) refl h
    where
      go : (o : Option Line) → line_said t ≡ o → says_tidy ns o ≡ true → Told t
      go None e h = absurd cc
      go (Some nothing) e h = none (nothing_of t nothing (said_read t nothing e) refl)
      go (Some (command c)) e h = some c (command_of t (command c) c (said_read t (command c) e) refl) h
      go (Some (pattern ps)) e h = absurd cc

  filled_marks : (ms : List Mark) (c : Cmd) → marks_fit ms ≡ true → Told (text_with zeros ms) → Told (text_with ones ms) → Command (text_with itself ms) c → cmd_is_tidy ns c ≡ true
  filled_marks ms c g (none s) b a =
      let p : starts (text_with itself ms) ≡ true = ap starts a.text ∙ cmd_starts c in
      let q = starts_alike ms p in
      absurd cc
  filled_marks ms c g (some c0 a0 t0) (none s) a =
      let p : starts (text_with itself ms) ≡ true = ap starts a.text ∙ cmd_starts c in
      absurd (one_starts ms p s)
    where
      one_starts : (ms : List Mark) → starts (text_with itself ms) ≡ true → starts (text_with ones ms) ≡ false → ⊥
      one_starts [] p s = cc
      one_starts (byte b ∷ ms) p s = cc
      one_starts (number d ∷ ms) p s = cc
  filled_marks ms c g (some c0 a0 t0) (some c1 a1 t1) a = three ms c0 c1 c g a0 a1 a t0 t1

  -- a command that a macro line is filled to by a compound without strings names nothing outside the namespace, if the
  -- line is tidy
  pub filled_tidy : (ps : List PatternPart) (fs : Fields) (u : Text) (c : Cmd) → is_bare (compound fs) ≡ true → fill_from 0 ps (compound fs) ≡ filled u
      → says_tidy ns (line_said (parts_by (48 ∷ []) ps)) ≡ true → says_tidy ns (line_said (parts_by (49 ∷ []) ps)) ≡ true → line_said u ≡ Some (command c) → cmd_is_tidy ns c ≡ true
  filled_tidy ps fs u c b h z o e =
      let m = marked 0 ps fs u b h in
      filled_marks m.marks c m.fit
      (told (text_with zeros m.marks) (ap (λ t. says_tidy ns (line_said t)) m.by_zero ∙ z))
      (told (text_with ones m.marks) (ap (λ t. says_tidy ns (line_said t)) m.by_one ∙ o))
      (command_of (text_with itself m.marks) (command c) c (subst (λ t. Says t (command c)) (sym m.filled) (said_read u (command c) e)) refl)
