-- The line of a step under `x` becomes its line under the namespace.
use Rattle.std.proofs.Common.{◌≡◌, ◌∙◌, ap, refl, sym, List, [], ◌∷◌, ◌++◌, append_assoc, append-nil, Bool, true, false, arith, subst}
use Rattle.std.specs.Prelude.{pos, codes, not, nat_eq, if◌then◌else◌, ℤ}
use Rattle.std.specs.Fmt.{signed_decimal}
use Rattle.std.proofs.lemmas.Fmt.{decimal_digit}
use Rattle.mc_nbt.specs.Tree.{Tree, Part, int}
use Rattle.mc_nbt.specs.Spelling.{tree_text}
use Rattle.mc_cmd.specs.Form.{Text, lacks}
use Rattle.mc_cmd.specs.Value.{path_text}
use Rattle.mc_cmd.specs.Word.{op_text, range_text, cmp_text}
use Rattle.mc_cmd.specs.Command.{Op, assign, add, subtract, multiply, divide, remainder, lower, raise, swap, Cmp, less, less_equal, equal, greater_equal, greater, Simple, Sub, store_score, store_data, score_set, score_op, score_get, data_get, set_value, set_from, append_value, append_from, return_value, execute}
use Rattle.mc_cmd.specs.Grammar.{simple_text, sub_text, subs_text, test_text, cmd_text}
use Rattle.mc_cmd.proofs.FormLemmas.{and_first, and_second}
use Rattle.cc_line.specs.Sight.{Store, in_io, in_memory, in_rest, store_id}
use Rattle.cc_line.specs.Place.{place_name, Home, in_score, in_list, home, spot_name}
use Rattle.cc_line.specs.State.{ints, slot, frame_path, Site, site_path}
use Rattle.cc_line.specs.Step.{Act, set_spot, increase, decrease, combine, set_place, copy_place, load_place, keep_place, load_site, keep_site, place_to_site, site_to_place, set_site, copy_site, append_value_to, append_site, erase_site, open_place, make_list, save_list, restore_list, Check, in_range, compare, stands, Cond, holds, fails, Step, run_act, when, stop_when, Said, says, storing, set_home, load_home, keep_home, copy_home, home_to_site, site_to_home, act_said, check_test, cond_sub, cond_subs, said_command, step_text, steps_texts}
use Rattle.cc_line.specs.Plain.{HomePlain, SitePlain, ActPlain, CheckPlain, CondPlain, CondsPlain, StepPlain, StepsPlain}
use Rattle.cc_line.specs.Under.{Where, at_start, behind_x, within, behind, under_from, under, begins_plain, is_plain, are_words}

abbrev pub x : Text
x = codes "x"

zero_plain : is_plain (signed_decimal (pos 0)) ≡ true
zero_plain = rw (decimal_digit 0 (omega arith)) refl

module _ (ns : Text) where
  -- what the text becomes under the namespace
  record Becomes (t u : Text) : Type 0 where
    by : under_from ns at_start t ≡ u

  -- inside of a word
  stays : (w t : Text) → lacks 32 w ≡ true → under_from ns within (w ++ t) ≡ w ++ under_from ns within t
  stays [] t h = refl
  stays (b ∷ w) t h = go (nat_eq b 32) refl h (stays w t)
    where
      go : (e : Bool) → nat_eq b 32 ≡ e → (if e then false else lacks 32 w) ≡ true → (lacks 32 w ≡ true → under_from ns within (w ++ t) ≡ w ++ under_from ns within t) → b ∷ under_from ns (if nat_eq b 32 then at_start else within) (w ++ t) ≡ b ∷ (w ++ under_from ns within t)
      go true e h ih = absurd cc
      go false e h ih = ap (λ d. b ∷ under_from ns (if d then at_start else within) (w ++ t)) e ∙ ap (λ l. b ∷ l) (ih h)

  word_stays : (w t : Text) → is_plain w ≡ true → under_from ns at_start (w ++ t) ≡ w ++ under_from ns within t
  word_stays [] t h = absurd cc
  word_stays (b ∷ w) t h = go (nat_eq b 120) refl (and_first _ _ h)
    where
      inner : b ∷ under_from ns (if nat_eq b 32 then at_start else within) (w ++ t) ≡ b ∷ (w ++ under_from ns within t)
      inner = stays (b ∷ w) t (and_second (begins_plain (b ∷ w)) _ h)

      go : (e : Bool) → nat_eq b 120 ≡ e → not e ≡ true → (if nat_eq b 120 then under_from ns behind_x (w ++ t) else b ∷ under_from ns (if nat_eq b 32 then at_start else within) (w ++ t)) ≡ b ∷ (w ++ under_from ns within t)
      go true e n = absurd cc
      go false e n = ap (λ d. if d then under_from ns behind_x (w ++ t) else b ∷ under_from ns (if nat_eq b 32 then at_start else within) (w ++ t)) e ∙ inner

  -- words as they stand
  words_from : (p : Where) (w t : Text) → are_words p w ≡ true → under_from ns p (w ++ t) ≡ w ++ under_from ns at_start t
  words_from at_start [] t h = refl
  words_from within [] t h = absurd cc
  words_from behind_x [] t h = absurd cc
  words_from behind_x (b ∷ w) t h = absurd cc
  words_from at_start (b ∷ w) t h = go (nat_eq b 120) refl h (words_from (behind b) w t)
    where
      go : (e : Bool) → nat_eq b 120 ≡ e → (if e then false else are_words (behind b) w) ≡ true → (are_words (behind b) w ≡ true → under_from ns (behind b) (w ++ t) ≡ w ++ under_from ns at_start t)
          → (if nat_eq b 120 then under_from ns behind_x (w ++ t) else b ∷ under_from ns (behind b) (w ++ t)) ≡ b ∷ (w ++ under_from ns at_start t)
      go true e h ih = absurd cc
      go false e h ih = ap (λ d. if d then under_from ns behind_x (w ++ t) else b ∷ under_from ns (behind b) (w ++ t)) e ∙ ap (λ l. b ∷ l) (ih h)
  words_from within (b ∷ w) t h = ap (λ l. b ∷ l) (words_from (behind b) w t h)

  words : {t u : Text} (w : Text) → are_words at_start w ≡ true → Becomes t u → Becomes (w ++ t) (w ++ u)
  words {t = t} w h e = record { by = words_from at_start w t h ∙ ap (λ l. w ++ l) e.by }

  last : (w : Text) → is_plain w ≡ true → Becomes w w
  last w h = record { by = ap (under_from ns at_start) (sym (append-nil w)) ∙ word_stays w [] h ∙ append-nil w }

  spaced : {t u : Text} (w : Text) → is_plain w ≡ true → Becomes t u → Becomes (w ++ (32 ∷ t)) (w ++ (32 ∷ u))
  spaced {t = t} w h e = record { by = word_stays w (32 ∷ t) h ∙ ap (λ l. w ++ (32 ∷ l)) e.by }

  store : {t u : Text} (s : Store) → Becomes t u → Becomes (store_id x s ++ (32 ∷ t)) (store_id ns s ++ (32 ∷ u))
  store {u = u} in_io e = record { by = ap (λ l. ns ++ (58 ∷ (105 ∷ (111 ∷ (32 ∷ l))))) e.by ∙ sym (append_assoc ns (58 ∷ codes "io") (32 ∷ u)) }
  store {u = u} in_memory e = record { by = ap (λ l. ns ++ (58 ∷ (109 ∷ (32 ∷ l)))) e.by ∙ sym (append_assoc ns (58 ∷ codes "m") (32 ∷ u)) }
  store {u = u} in_rest e = record { by = ap (λ l. ns ++ (58 ∷ (99 ∷ (32 ∷ l)))) e.by ∙ sym (append_assoc ns (58 ∷ codes "c") (32 ∷ u)) }

  name : {t u : Text} → Becomes t u → Becomes (x ++ (32 ∷ t)) (ns ++ (32 ∷ u))
  name e = record { by = ap (λ l. ns ++ (32 ∷ l)) e.by }

  last_name : Becomes x ns
  last_name = record { by = refl }

  op_plain : (o : Op) → is_plain (op_text o) ≡ true
  op_plain assign = refl
  op_plain add = refl
  op_plain subtract = refl
  op_plain multiply = refl
  op_plain divide = refl
  op_plain remainder = refl
  op_plain lower = refl
  op_plain raise = refl
  op_plain swap = refl

  -- a command under `x` that becomes one under the namespace, alone and behind what stands before it
  record Turns (d e : Said) : Type 0 where
    alone : Becomes (cmd_text (said_command d)) (cmd_text (said_command e))
    front : Becomes (subs_text d.stores (simple_text d.simple)) (subs_text e.stores (simple_text e.simple))

  plain_turns : (a b : Simple) → Becomes (simple_text a) (simple_text b) → Turns (says a) (says b)
  plain_turns a b t = record { alone = t; front = words (codes "run ") refl t }

  store_turns : (u v : Sub) (a b : Simple) → Becomes (subs_text (u ∷ []) (simple_text a)) (subs_text (v ∷ []) (simple_text b)) → Turns (storing u a) (storing v b)
  store_turns u v a b t = record { alone = words (codes "execute ") refl t; front = t }

  got_turns : (h : Text) (s : Store) (ps : List Part) → is_plain h ≡ true → is_plain (path_text ps) ≡ true → Turns (storing (store_score h x) (data_get (store_id x s) ps)) (storing (store_score h ns) (data_get (store_id ns s) ps))
  got_turns h s ps p q = store_turns _ _ _ _ (words (codes "store result score ") refl (spaced h p (name (words (codes "run data get storage ") refl (store s (last (path_text ps) q))))))

  kept_turns : (h : Text) (s : Store) (ps : List Part) → is_plain h ≡ true → is_plain (path_text ps) ≡ true → Turns (storing (store_data (store_id x s) ps) (score_get h x)) (storing (store_data (store_id ns s) ps) (score_get h ns))
  kept_turns h s ps p q = store_turns _ _ _ _ (words (codes "store result storage ") refl (store s (spaced (path_text ps) q (words (codes "int 1 run scoreboard players get ") refl (spaced h p last_name)))))

  set_turns : (h : Text) (z : ℤ) → is_plain h ≡ true → is_plain (signed_decimal z) ≡ true → Turns (says (score_set h x z)) (says (score_set h ns z))
  set_turns h z p q = plain_turns _ _ (words (codes "scoreboard players set ") refl (spaced h p (name (last (signed_decimal z) q))))

  op_turns : (h : Text) (op : Op) (g : Text) → is_plain h ≡ true → is_plain g ≡ true → Turns (says (score_op h x op g x)) (says (score_op h ns op g ns))
  op_turns h op g p q = plain_turns _ _ (words (codes "scoreboard players operation ") refl (spaced h p (name (spaced (op_text op) (op_plain op) (spaced g q last_name)))))

  value_turns : (s : Store) (ps : List Part) (t : Tree) → is_plain (path_text ps) ≡ true → is_plain (tree_text t) ≡ true → Turns (says (set_value (store_id x s) ps t)) (says (set_value (store_id ns s) ps t))
  value_turns s ps t p q = plain_turns _ _ (words (codes "data modify storage ") refl (store s (spaced (path_text ps) p (words (codes "set value ") refl (last (tree_text t) q)))))

  append_turns : (s : Store) (ps : List Part) (t : Tree) → is_plain (path_text ps) ≡ true → is_plain (tree_text t) ≡ true → Turns (says (append_value (store_id x s) ps t)) (says (append_value (store_id ns s) ps t))
  append_turns s ps t p q = plain_turns _ _ (words (codes "data modify storage ") refl (store s (spaced (path_text ps) p (words (codes "append value ") refl (last (tree_text t) q)))))

  from_turns : (s r : Store) (ps qs : List Part) → is_plain (path_text ps) ≡ true → is_plain (path_text qs) ≡ true → Turns (says (set_from (store_id x s) ps (store_id x r) qs)) (says (set_from (store_id ns s) ps (store_id ns r) qs))
  from_turns s r ps qs p q = plain_turns _ _ (words (codes "data modify storage ") refl (store s (spaced (path_text ps) p (words (codes "set from storage ") refl (store r (last (path_text qs) q))))))

  append_from_turns : (s r : Store) (ps qs : List Part) → is_plain (path_text ps) ≡ true → is_plain (path_text qs) ≡ true → Turns (says (append_from (store_id x s) ps (store_id x r) qs)) (says (append_from (store_id ns s) ps (store_id ns r) qs))
  append_from_turns s r ps qs p q = plain_turns _ _ (words (codes "data modify storage ") refl (store s (spaced (path_text ps) p (words (codes "append from storage ") refl (store r (last (path_text qs) q))))))

  set_home_turns : (q : Home) (z : ℤ) → HomePlain q → is_plain (signed_decimal z) ≡ true → Turns (set_home x q z) (set_home ns q z)
  set_home_turns (in_score i) z p e = set_turns (place_name i) z p e
  set_home_turns (in_list i) z p e = value_turns in_rest (slot i) (int z) p e

  load_turns : (h : Text) (q : Home) → is_plain h ≡ true → HomePlain q → Turns (load_home x h q) (load_home ns h q)
  load_turns h (in_score i) p e = op_turns h assign (place_name i) p e
  load_turns h (in_list i) p e = got_turns h in_rest (slot i) p e

  keep_turns : (q : Home) (h : Text) → HomePlain q → is_plain h ≡ true → Turns (keep_home x q h) (keep_home ns q h)
  keep_turns (in_score i) h p e = op_turns (place_name i) assign h p e
  keep_turns (in_list i) h p e = kept_turns h in_rest (slot i) e p

  copy_turns : (p q : Home) → HomePlain p → HomePlain q → Turns (copy_home x p q) (copy_home ns p q)
  copy_turns p (in_score j) e f = keep_turns p (place_name j) e f
  copy_turns (in_score i) (in_list k) e f = load_turns (place_name i) (in_list k) e f
  copy_turns (in_list i) (in_list k) e f = from_turns in_rest in_rest (slot i) (slot k) e f

  to_site_turns : (p : Site) (q : Home) → SitePlain p → HomePlain q → Turns (home_to_site x p q) (home_to_site ns p q)
  to_site_turns p (in_score i) e f = kept_turns (place_name i) p.store (site_path p) f e
  to_site_turns p (in_list k) e f = from_turns p.store in_rest (site_path p) (slot k) e f

  from_site_turns : (q : Home) (p : Site) → HomePlain q → SitePlain p → Turns (site_to_home x q p) (site_to_home ns q p)
  from_site_turns (in_score i) p f e = got_turns (place_name i) p.store (site_path p) f e
  from_site_turns (in_list k) p f e = from_turns in_rest p.store (slot k) (site_path p) f e

  act_turns : (a : Act) → ActPlain a → Turns (act_said x a) (act_said ns a)
  act_turns (set_spot h z) p = set_turns (spot_name h) z p.0 p.1
  act_turns (increase h n) p = plain_turns _ _ (words (codes "scoreboard players add ") refl (spaced (spot_name h) p.0 (name (last (signed_decimal (pos n)) p.1))))
  act_turns (decrease h n) p = plain_turns _ _ (words (codes "scoreboard players remove ") refl (spaced (spot_name h) p.0 (name (last (signed_decimal (pos n)) p.1))))
  act_turns (combine h op g) p = op_turns (spot_name h) op (spot_name g) p.0 p.1
  act_turns (set_place i z) p = set_home_turns (home i) z p.0 p.1
  act_turns (copy_place i j) p = copy_turns (home i) (home j) p.0 p.1
  act_turns (load_place h i) p = load_turns h (home i) p.0 p.1
  act_turns (keep_place i h) p = keep_turns (home i) h p.0 p.1
  act_turns (load_site h q) p = got_turns h q.store (site_path q) p.0 p.1
  act_turns (keep_site q h) p = kept_turns h q.store (site_path q) p.1 p.0
  act_turns (place_to_site q i) p = to_site_turns q (home i) p.0 p.1
  act_turns (site_to_place i q) p = from_site_turns (home i) q p.0 p.1
  act_turns (set_site q t) p = value_turns q.store (site_path q) t p.0 p.1
  act_turns (copy_site q r) p = from_turns q.store r.store (site_path q) (site_path r) p.0 p.1
  act_turns (append_value_to q t) p = append_turns q.store (site_path q) t p.0 p.1
  act_turns (append_site q r) p = append_from_turns q.store r.store (site_path q) (site_path r) p.0 p.1
  act_turns (erase_site q) p = plain_turns _ _ (words (codes "data remove storage ") refl (store q.store (last (path_text (site_path q)) p)))
  act_turns (open_place i) p = set_turns (place_name i) (pos 0) p zero_plain
  act_turns (make_list zs) p = value_turns in_rest frame_path (ints zs) refl p
  act_turns (save_list q) p = from_turns q.store in_rest (site_path q) frame_path p refl
  act_turns (restore_list q) p = from_turns in_rest q.store frame_path (site_path q) refl p

  cmp_plain : (p : Cmp) → is_plain (cmp_text p) ≡ true
  cmp_plain less = refl
  cmp_plain less_equal = refl
  cmp_plain equal = refl
  cmp_plain greater_equal = refl
  cmp_plain greater = refl

  check_becomes : (c : Check) (t u : Text) → CheckPlain c → Becomes t u → Becomes (test_text (check_test x c) t) (test_text (check_test ns c) u)
  check_becomes (in_range h r) t u p e = words (codes "score ") refl (spaced (spot_name h) p.0 (name (words (codes "matches ") refl (spaced (range_text r) p.1 e))))
  check_becomes (compare h c g) t u p e = words (codes "score ") refl (spaced (spot_name h) p.0 (name (spaced (cmp_text c) (cmp_plain c) (spaced (spot_name g) p.1 (name e)))))
  check_becomes (stands q) t u p e = words (codes "data storage ") refl (store q.store (spaced (path_text (site_path q)) p e))

  cond_becomes : (c : Cond) (t u : Text) → CondPlain c → Becomes t u → Becomes (sub_text (cond_sub x c) t) (sub_text (cond_sub ns c) u)
  cond_becomes (holds c) t u p e = words (codes "if ") refl (check_becomes c t u p e)
  cond_becomes (fails c) t u p e = words (codes "unless ") refl (check_becomes c t u p e)

  conds_become : (cs : List Cond) (us vs : List Sub) (t u : Text) → CondsPlain cs → Becomes (subs_text us t) (subs_text vs u) → Becomes (subs_text (cond_subs x cs ++ us) t) (subs_text (cond_subs ns cs ++ vs) u)
  conds_become [] us vs t u p e = e
  conds_become (c ∷ cs) us vs t u p e = cond_becomes c _ _ p.0 (conds_become cs us vs t u p.1 e)

  -- a command without stores behind conditions
  behind_becomes : (cs : List Cond) (a b : Simple) → CondsPlain cs → Becomes (simple_text a) (simple_text b) → Becomes (cmd_text (execute (cond_subs x cs) a)) (cmd_text (execute (cond_subs ns cs) b))
  behind_becomes cs a b p e =
      subst (λ us. Becomes (codes "execute " ++ subs_text us (simple_text a)) (codes "execute " ++ subs_text (cond_subs ns cs) (simple_text b))) (append-nil (cond_subs x cs))
      (subst (λ us. Becomes (codes "execute " ++ subs_text (cond_subs x cs ++ []) (simple_text a)) (codes "execute " ++ subs_text us (simple_text b))) (append-nil (cond_subs ns cs))
      (words (codes "execute ") refl (conds_become cs [] [] (simple_text a) (simple_text b) p (words (codes "run ") refl e))))

  step_becomes : (y : Step) → StepPlain y → Becomes (step_text x y) (step_text ns y)
  step_becomes (run_act a) p = (act_turns a p).alone
  step_becomes (when cs a) p = words (codes "execute ") refl (conds_become cs (act_said x a).stores (act_said ns a).stores (simple_text (act_said x a).simple) (simple_text (act_said ns a).simple) p.0 (act_turns a p.1).front)
  step_becomes (stop_when cs) p = behind_becomes cs (return_value (pos 0)) (return_value (pos 0)) p (words (codes "return ") refl (last (signed_decimal (pos 0)) zero_plain))

  -- the lines of steps under `x` are, under the namespace, those of the steps there
  pub steps_under : (ys : List Step) → StepsPlain ys → under ns (steps_texts x ys) ≡ steps_texts ns ys
  steps_under [] p = refl
  steps_under (y ∷ ys) p = ap (λ l. l ∷ under ns (steps_texts x ys)) (step_becomes y p.0).by ∙ ap (λ ls. step_text ns y ∷ ls) (steps_under ys p.1)
