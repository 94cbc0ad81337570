-- How long the lines of steps are, under every namespace: none has a line feed.
use Rattle.std.proofs.Common.{◌≡◌, ◌∙◌, ap, refl, ℕ, ◌+◌, ◌-◌, ◌*◌, ◌<◌, ◌≤◌, List, [], ◌∷◌, ◌++◌, length, Bool, true, false, arith, sym, subst, append_assoc, append-nil}
use Rattle.std.specs.Prelude.{ℤ, pos, codes, not, ◌&&◌, ◌||◌, nat_le, nat_eq, if◌then◌else◌}
use Rattle.std.specs.List.{AllByRecursion, list_all}
use Rattle.std.specs.Fmt.{signed_decimal}
use Rattle.std.proofs.lemmas.Bool.{leb-true, lt-ltb, ltb-true}
use Rattle.std.proofs.lemmas.List.{length-append, length-map}
use Rattle.mc_nbt.specs.Path.{is_part, is_path}
use Rattle.mc_nbt.specs.Word.{is_name_byte, is_key, is_int}
use Rattle.mc_nbt.specs.Tree.{key, place, Tree, Part, int}
use Rattle.mc_nbt.specs.Spelling.{tree_text}
use Rattle.mc_cmd.specs.Form.{Text, lacks}
use Rattle.mc_cmd.specs.Word.{is_holder_byte, is_namespace, is_holder, is_holder_rest, range_fits, range_text, op_text, cmp_text}
use Rattle.mc_cmd.specs.Value.{path_text, parts_text}
use Rattle.mc_cmd.specs.Pattern.{parts_text as pattern_parts}
use Rattle.mc_cmd.specs.Command.{Op, assign, add, subtract, multiply, divide, remainder, lower, raise, swap, Range, exactly, from, up_to, between, Simple, return_value, PatternPart, hole, execute, set_value, set_from, append_value, append_from, score_get, data_get, data_remove, Sub, store_score, store_data, score_set, score_add, score_remove, score_op, Cmp, less, less_equal, equal, greater_equal, greater}
use Rattle.mc_cmd.specs.Grammar.{cmd_text, simple_text, sub_text, subs_text}
use Rattle.mc_cmd.specs.steps.OpenText.{Chunk, still, named, ends, pattern_from, macro_text, OpenPart, step, place_of}
use Rattle.mc_cmd.proofs.FormLemmas.{and_first, and_second, and_both}
use Rattle.mc_cmd.proofs.WordLemmas.{all_lack}
use Rattle.mc_cmd.proofs.PieceLemmas.{IsPiece, literal, joined, space, namespace_piece, number_piece}
use Rattle.cc_line.specs.Sight.{Store, in_io, in_memory, in_rest, store_id}
use Rattle.cc_line.specs.Place.{score_places, place_name, Home, in_score, in_list, home, spot_name}
use Rattle.cc_line.specs.State.{ints, slot, frame_path, Site, site_path}
use Rattle.cc_line.specs.Step.{Act, set_spot, increase, decrease, combine, set_place, copy_place, load_place, keep_place, load_site, keep_site, place_to_site, site_to_place, set_site, copy_site, append_value_to, append_site, erase_site, open_place, make_list, save_list, restore_list, in_range, compare, stands, Cond, holds, fails, Step, run_act, when, stop_when, Said, says, storing, set_home, load_home, keep_home, copy_home, home_to_site, site_to_home, act_said, cond_sub, cond_subs, under_subs, said_command, step_text}
use Rattle.cc_line.specs.Fit.{place_fits, scratch_fits, spot_fits, site_fits, is_swap, act_fits, cond_fits, conds_fit, step_fits}
use Rattle.cc_line.specs.Key.{is_stem}
use Rattle.cc_line.specs.OpenStep.{OpenAct, open_combine, open_copy_site, open_keep_site, open_load_site, OpenSite, OpenStep, closed_step, open_act, open_when, cond_chunks, front_chunks, keep_chunks, OpenSaid, parts_chunks, place_chunks, open_said, said_chunks}
use Rattle.cc_line.specs.OpenStep.{space_chunk, under_chunks, when_chunks, within_chunks, open_text, open_act_fits, open_parts_fit, open_site_fits, has_place, is_open, open_step_fits}
use Rattle.cc_line.proofs.FitLemmas.{spot_holder, place_holder, holder_of_scratch, HomeFits, home_fits}
use Rattle.cc_line.proofs.ScaleLemmas.{stem_holder}

-- ---- words: of at most so many bytes, without a line feed

pub wide : {j k : ℕ} {t : Text} → IsPiece j t → j ≤ k → IsPiece k t
wide {j = j} {k = k} {t = t} p le = record { short = let x = p.short in omega arith; bare = p.bare }

pub word : (t : Text) → lacks 10 t ≡ true → IsPiece (length t) t
word t h = literal t h

pub store_piece : (ns : Text) (s : Store) → is_namespace ns ≡ true → IsPiece 19 (store_id ns s)
store_piece ns in_io h = joined (namespace_piece ns h) (word (codes ":io") refl)
store_piece ns in_memory h = wide (joined (namespace_piece ns h) (word (codes ":m") refl)) (omega arith)
store_piece ns in_rest h = wide (joined (namespace_piece ns h) (word (codes ":c") refl)) (omega arith)

pub holder_piece : (w : Text) → is_holder w ≡ true → IsPiece 41 w
unfolding is_holder
holder_piece [] f = absurd cc
holder_piece (b ∷ w) f = go (nat_eq b 35) refl f
  where
    rest : (v : Text) → is_holder_rest v ≡ true → IsPiece 40 v
    rest v f = record {
      short = leb-true (length v) 40 (and_second (nat_le 1 (length v)) _ (and_second (list_all is_holder_byte v) _ f));
      bare = all_lack is_holder_byte 10 refl v (and_first _ _ f);
    }

    go : (x : Bool) → nat_eq b 35 ≡ x → (if x then is_holder_rest w else is_holder_rest (b ∷ w)) ≡ true → IsPiece 41 (b ∷ w)
    go true e f = let r = rest w f in record { short = let x = r.short in omega arith; bare = grown (nat_eq b 10) refl r.bare }
      where
        same : (n : ℕ) → nat_eq n 35 ≡ true → nat_eq n 10 ≡ false
        same n e = grind arith

        grown : (y : Bool) → nat_eq b 10 ≡ y → lacks 10 w ≡ true → (if y then false else lacks 10 w) ≡ true
        grown true e' l = absurd (let z : true ≡ false = sym e' ∙ same b e in cc)
        grown false e' l = l
    go false e f = wide (rest (b ∷ w) f) (omega arith)

pub key_piece : (k : Text) → is_key k ≡ true → IsPiece 32 k
unfolding is_key
key_piece k h = record {
  short = leb-true (length k) 32 (and_second (nat_le 1 (length k)) _ (and_second (list_all is_name_byte k) _ h));
  bare = all_lack is_name_byte 10 refl k (and_first _ _ h);
}

range_piece : (r : Range) → range_fits r ≡ true → IsPiece 24 (range_text r)
range_piece (exactly n) h = wide (number_piece n h) (omega arith)
range_piece (from n) h = wide (joined (number_piece n h) (word (codes "..") refl)) (omega arith)
range_piece (up_to n) h = wide (joined (word (codes "..") refl) (number_piece n h)) (omega arith)
range_piece (between n m) h =
    wide (joined (number_piece n (and_first _ _ h)) (joined (word (codes "..") refl) (number_piece m (and_first _ _ (and_second (is_int n) _ h))))) (omega arith)

op_piece : (o : Op) → IsPiece 2 (op_text o)
op_piece assign = wide (word (op_text assign) refl) (omega arith)
op_piece add = wide (word (op_text add) refl) (omega arith)
op_piece subtract = wide (word (op_text subtract) refl) (omega arith)
op_piece multiply = wide (word (op_text multiply) refl) (omega arith)
op_piece divide = wide (word (op_text divide) refl) (omega arith)
op_piece remainder = wide (word (op_text remainder) refl) (omega arith)
op_piece lower = wide (word (op_text lower) refl) (omega arith)
op_piece raise = wide (word (op_text raise) refl) (omega arith)
op_piece swap = wide (word (op_text swap) refl) (omega arith)

cmp_piece : (c : Cmp) → IsPiece 2 (cmp_text c)
cmp_piece less = wide (word (cmp_text less) refl) (omega arith)
cmp_piece less_equal = wide (word (cmp_text less_equal) refl) (omega arith)
cmp_piece equal = wide (word (cmp_text equal) refl) (omega arith)
cmp_piece greater_equal = wide (word (cmp_text greater_equal) refl) (omega arith)
cmp_piece greater = wide (word (cmp_text greater) refl) (omega arith)

parts_piece : (ps : List Part) → list_all is_part ps ≡ true → IsPiece (33 * length ps) (parts_text ps)
parts_piece [] h = word [] refl
parts_piece (key k ∷ ps) h =
    wide (joined (word (codes ".") refl) (joined (key_piece k (and_first _ _ h)) (parts_piece ps (and_second (is_key k) _ h)))) (omega arith)
parts_piece (place i ∷ ps) h =
    wide (joined (word (codes "[") refl) (joined (number_piece i (and_first _ _ h)) (joined (word (codes "]") refl) (parts_piece ps (and_second (is_int i) _ h))))) (omega arith)

pub path_piece : (ps : List Part) → is_path ps ≡ true → IsPiece 528 (path_text ps)
unfolding is_path
path_piece [] h = absurd cc
path_piece (place i ∷ ps) h = absurd cc
path_piece (key k ∷ ps) h =
    let n : length (key k ∷ ps) ≤ 16 = leb-true (length (key k ∷ ps)) 16 (and_first _ _ h) in
    let g = and_second (nat_le (length (key k ∷ ps)) 16) _ h in
    wide (joined (key_piece k (and_first _ _ g)) (parts_piece ps (and_second (is_key k) _ g))) (omega arith)

slot_path : (i : ℕ) → i < 2147483648 → is_path (slot i) ≡ true
unfolding is_path is_key
slot_path i h = and_both (is_int (pos i)) true (lt-ltb i 2147483648 h) refl

list_path : is_path frame_path ≡ true
unfolding is_path is_key
list_path = refl

-- ---- what is said

-- the trees in an act have at most so many bytes, and no line feed
abbrev pub ActWithin : ℕ → Act → Type 0
ActWithin k (set_site p t) = IsPiece k (tree_text t)
ActWithin k (append_value_to p t) = IsPiece k (tree_text t)
ActWithin k (make_list zs) = IsPiece k (tree_text (ints zs))
ActWithin k _ = Unit {0}

abbrev pub StepWithin : ℕ → Step → Type 0
StepWithin k (run_act a) = ActWithin k a
StepWithin k (when cs a) = ActWithin k a
StepWithin k (stop_when cs) = Unit {0}

module _ (ns : Text) (n : is_namespace ns ≡ true) (k : ℕ) where
  record SaidShort (d : Said) : Type 0 where
    alone : IsPiece (k + 1500) (simple_text d.simple)
    whole : IsPiece (k + 1600) (subs_text d.stores (simple_text d.simple))

  np : IsPiece 16 ns
  np = namespace_piece ns n

  said : (s : Simple) → IsPiece (k + 1500) (simple_text s) → SaidShort (says s)
  said s l = record { alone = l; whole = wide (joined (word (codes "run ") refl) l) (omega arith) }

  number_said : (s : Simple) (first : Text) (h : Text) (z : ℤ) → simple_text s ≡ first ++ (h ++ (32 ∷ (ns ++ (32 ∷ signed_decimal z)))) → IsPiece 100 first → is_holder h ≡ true → is_int z ≡ true → SaidShort (says s)
  number_said s first h z e c g i = said s (subst (IsPiece (k + 1500)) (sym e) (wide (joined c (joined (holder_piece h g) (joined space (joined np (joined space (number_piece z i)))))) (omega arith)))

  set_said : (h : Text) (z : ℤ) → is_holder h ≡ true → is_int z ≡ true → SaidShort (says (score_set h ns z))
  set_said h z f g = number_said (score_set h ns z) (codes "scoreboard players set ") h z refl (wide (word (codes "scoreboard players set ") refl) (omega arith)) f g

  op_said : (h : Text) (op : Op) (g : Text) → is_holder h ≡ true → is_holder g ≡ true → SaidShort (says (score_op h ns op g ns))
  op_said h op g e f = said _
      (wide (joined (word (codes "scoreboard players operation ") refl) (joined (holder_piece h e) (joined space (joined np (joined space (joined (op_piece op) (joined space (joined (holder_piece g f) (joined space np))))))))) (omega arith))

  value_said : (s : Store) (ps : List Part) (t : Tree) → is_path ps ≡ true → IsPiece (k + 11) (tree_text t) → SaidShort (says (set_value (store_id ns s) ps t))
  value_said s ps t f q = said _
      (wide (joined (word (codes "data modify storage ") refl) (joined (store_piece ns s n) (joined space (joined (path_piece ps f) (joined space (joined (word (codes "set value ") refl) q)))))) (omega arith))

  append_said : (s : Store) (ps : List Part) (t : Tree) → is_path ps ≡ true → IsPiece k (tree_text t) → SaidShort (says (append_value (store_id ns s) ps t))
  append_said s ps t f q = said _
      (wide (joined (word (codes "data modify storage ") refl) (joined (store_piece ns s n) (joined space (joined (path_piece ps f) (joined space (joined (word (codes "append value ") refl) q)))))) (omega arith))

  from_said : (s r : Store) (ps qs : List Part) → is_path ps ≡ true → is_path qs ≡ true → SaidShort (says (set_from (store_id ns s) ps (store_id ns r) qs))
  from_said s r ps qs f g = said _
      (wide (joined (word (codes "data modify storage ") refl) (joined (store_piece ns s n) (joined space (joined (path_piece ps f) (joined space (joined (word (codes "set from storage ") refl) (joined (store_piece ns r n) (joined space (path_piece qs g))))))))) (omega arith))

  append_from_said : (s r : Store) (ps qs : List Part) → is_path ps ≡ true → is_path qs ≡ true → SaidShort (says (append_from (store_id ns s) ps (store_id ns r) qs))
  append_from_said s r ps qs f g = said _
      (wide (joined (word (codes "data modify storage ") refl) (joined (store_piece ns s n) (joined space (joined (path_piece ps f) (joined space (joined (word (codes "append from storage ") refl) (joined (store_piece ns r n) (joined space (path_piece qs g))))))))) (omega arith))

  got_piece : (s : Store) (ps : List Part) → is_path ps ≡ true → IsPiece 600 (simple_text (data_get (store_id ns s) ps))
  got_piece s ps f = wide (joined (word (codes "data get storage ") refl) (joined (store_piece ns s n) (joined space (path_piece ps f)))) (omega arith)

  got_said : (h : Text) (s : Store) (ps : List Part) → is_holder h ≡ true → is_path ps ≡ true → SaidShort (storing (store_score h ns) (data_get (store_id ns s) ps))
  got_said h s ps e f = record {
    alone = wide (got_piece s ps f) (omega arith);
    whole = wide (joined (word (codes "store result score ") refl) (joined (holder_piece h e) (joined space (joined np (joined space (joined (word (codes "run ") refl) (got_piece s ps f))))))) (omega arith);
  }

  score_piece : (h : Text) → is_holder h ≡ true → IsPiece 100 (simple_text (score_get h ns))
  score_piece h e = wide (joined (word (codes "scoreboard players get ") refl) (joined (holder_piece h e) (joined space np))) (omega arith)

  kept_said : (h : Text) (s : Store) (ps : List Part) → is_holder h ≡ true → is_path ps ≡ true → SaidShort (storing (store_data (store_id ns s) ps) (score_get h ns))
  kept_said h s ps e f = record {
    alone = wide (score_piece h e) (omega arith);
    whole = wide (joined (word (codes "store result storage ") refl) (joined (store_piece ns s n) (joined space (joined (path_piece ps f) (joined space (joined (word (codes "int 1 ") refl) (joined (word (codes "run ") refl) (score_piece h e)))))))) (omega arith);
  }

  home_said : (q : Home) (z : ℤ) → HomeFits q → is_int z ≡ true → SaidShort (set_home ns q z)
  home_said (in_score i) z f g = set_said (place_name i) z (place_holder i f) g
  home_said (in_list i) z f g = value_said in_rest (slot i) (int z) (slot_path i f) (wide (number_piece z g) (omega arith))

  load_said : (h : Text) (q : Home) → is_holder h ≡ true → HomeFits q → SaidShort (load_home ns h q)
  load_said h (in_score i) e f = op_said h assign (place_name i) e (place_holder i f)
  load_said h (in_list i) e f = got_said h in_rest (slot i) e (slot_path i f)

  keep_said : (q : Home) (h : Text) → HomeFits q → is_holder h ≡ true → SaidShort (keep_home ns q h)
  keep_said (in_score i) h f e = op_said (place_name i) assign h (place_holder i f) e
  keep_said (in_list i) h f e = kept_said h in_rest (slot i) e (slot_path i f)

  copy_said : (p q : Home) → HomeFits p → HomeFits q → SaidShort (copy_home ns p q)
  copy_said p (in_score j) e f = keep_said p (place_name j) e (place_holder j f)
  copy_said (in_score i) (in_list j) e f = got_said (place_name i) in_rest (slot j) (place_holder i e) (slot_path j f)
  copy_said (in_list i) (in_list j) e f = from_said in_rest in_rest (slot i) (slot j) (slot_path i e) (slot_path j f)

  path_of : (p : Site) → site_fits p ≡ true → is_path (site_path p) ≡ true
  path_of p f = and_first _ _ f

  to_site_said : (p : Site) (q : Home) → site_fits p ≡ true → HomeFits q → SaidShort (home_to_site ns p q)
  to_site_said p (in_score i) e f = kept_said (place_name i) p.store (site_path p) (place_holder i f) (path_of p e)
  to_site_said p (in_list i) e f = from_said p.store in_rest (site_path p) (slot i) (path_of p e) (slot_path i f)

  from_site_said : (q : Home) (p : Site) → HomeFits q → site_fits p ≡ true → SaidShort (site_to_home ns q p)
  from_site_said (in_score i) p f e = got_said (place_name i) p.store (site_path p) (place_holder i f) (path_of p e)
  from_site_said (in_list i) p f e = from_said in_rest p.store (slot i) (site_path p) (slot_path i f) (path_of p e)

  holder_of : (h : Text) → scratch_fits h ≡ true → is_holder h ≡ true
  holder_of h f = holder_of_scratch h f

  homes : (i : ℕ) → place_fits i ≡ true → HomeFits (home i)
  homes i f = home_fits ns n i f

  more : (t : Text) → IsPiece k t → IsPiece (k + 11) t
  more t q = wide q (omega arith)

  act_said_short : (a : Act) → act_fits a ≡ true → ActWithin k a → SaidShort (act_said ns a)
  act_said_short (set_spot x z) f w = set_said (spot_name x) z (spot_holder x (and_first _ _ f)) (and_second (spot_fits x) _ f)
  act_said_short (increase x i) f w =
      number_said (score_add (spot_name x) ns (pos i)) (codes "scoreboard players add ") (spot_name x) (pos i) refl (wide (word (codes "scoreboard players add ") refl) (omega arith)) (spot_holder x (and_first _ _ f)) (and_second (spot_fits x) _ f)
  act_said_short (decrease x i) f w =
      number_said (score_remove (spot_name x) ns (pos i)) (codes "scoreboard players remove ") (spot_name x) (pos i) refl (wide (word (codes "scoreboard players remove ") refl) (omega arith)) (spot_holder x (and_first _ _ f)) (and_second (spot_fits x) _ f)
  act_said_short (combine x op y) f w = op_said (spot_name x) op (spot_name y) (spot_holder x (and_first _ _ f)) (spot_holder y (and_first (spot_fits y) (not (is_swap op)) (and_second (spot_fits x) _ f)))
  act_said_short (set_place i z) f w = home_said (home i) z (homes i (and_first _ _ f)) (and_second (place_fits i) _ f)
  act_said_short (copy_place i j) f w = copy_said (home i) (home j) (homes i (and_first _ _ f)) (homes j (and_second (place_fits i) _ f))
  act_said_short (load_place h i) f w = load_said h (home i) (holder_of h (and_first _ _ f)) (homes i (and_second (scratch_fits h) _ f))
  act_said_short (keep_place i h) f w = keep_said (home i) h (homes i (and_first _ _ f)) (holder_of h (and_second (place_fits i) _ f))
  act_said_short (load_site h p) f w = got_said h p.store (site_path p) (holder_of h (and_first _ _ f)) (path_of p (and_second (scratch_fits h) _ f))
  act_said_short (keep_site p h) f w = kept_said h p.store (site_path p) (holder_of h (and_second (site_fits p) _ f)) (path_of p (and_first _ _ f))
  act_said_short (place_to_site p i) f w = to_site_said p (home i) (and_first _ _ f) (homes i (and_second (site_fits p) _ f))
  act_said_short (site_to_place i p) f w = from_site_said (home i) p (homes i (and_first _ _ f)) (and_second (place_fits i) _ f)
  act_said_short (set_site p t) f w = value_said p.store (site_path p) t (path_of p (and_first _ _ f)) (more (tree_text t) w)
  act_said_short (copy_site p q) f w = from_said p.store q.store (site_path p) (site_path q) (path_of p (and_first _ _ f)) (path_of q (and_second (site_fits p) _ f))
  act_said_short (append_value_to p t) f w = append_said p.store (site_path p) t (path_of p (and_first _ _ f)) w
  act_said_short (append_site p q) f w = append_from_said p.store q.store (site_path p) (site_path q) (path_of p (and_first _ _ f)) (path_of q (and_second (site_fits p) _ f))
  act_said_short (erase_site p) f w = said (data_remove (store_id ns p.store) (site_path p))
      (wide (joined (word (codes "data remove storage ") refl) (joined (store_piece ns p.store n) (joined space (path_piece (site_path p) (path_of p (and_first _ _ f)))))) (omega arith))
  act_said_short (open_place i) f w = set_said (place_name i) (pos 0) (place_holder i (ltb-true i score_places f)) refl
  act_said_short (make_list zs) f w = value_said in_rest frame_path (ints zs) list_path (more (tree_text (ints zs)) w)
  act_said_short (save_list p) f w = from_said p.store in_rest (site_path p) frame_path (path_of p f) list_path
  act_said_short (restore_list p) f w = from_said in_rest p.store frame_path (site_path p) list_path (path_of p f)

  -- ---- conditions

  -- a condition before what follows it
  pub cond_piece : (c : Cond) (t : Text) (j : ℕ) → cond_fits c ≡ true → IsPiece j t → IsPiece (600 + j) (sub_text (cond_sub ns c) t)
  cond_piece (holds (in_range x r)) t j f c = wide (joined (word (codes "if ") refl) (joined (word (codes "score ") refl) (joined (holder_piece (spot_name x) (spot_holder x (and_first _ _ f))) (joined space (joined np (joined space (joined (word (codes "matches ") refl) (joined (range_piece r (and_second (spot_fits x) _ f)) (joined space c))))))))) (omega arith)
  cond_piece (fails (in_range x r)) t j f c = wide (joined (word (codes "unless ") refl) (joined (word (codes "score ") refl) (joined (holder_piece (spot_name x) (spot_holder x (and_first _ _ f))) (joined space (joined np (joined space (joined (word (codes "matches ") refl) (joined (range_piece r (and_second (spot_fits x) _ f)) (joined space c))))))))) (omega arith)
  cond_piece (holds (compare x p y)) t j f c = wide (joined (word (codes "if ") refl) (joined (word (codes "score ") refl) (joined (holder_piece (spot_name x) (spot_holder x (and_first _ _ f))) (joined space (joined np (joined space (joined (cmp_piece p) (joined space (joined (holder_piece (spot_name y) (spot_holder y (and_second (spot_fits x) _ f))) (joined space (joined np (joined space c)))))))))))) (omega arith)
  cond_piece (fails (compare x p y)) t j f c = wide (joined (word (codes "unless ") refl) (joined (word (codes "score ") refl) (joined (holder_piece (spot_name x) (spot_holder x (and_first _ _ f))) (joined space (joined np (joined space (joined (cmp_piece p) (joined space (joined (holder_piece (spot_name y) (spot_holder y (and_second (spot_fits x) _ f))) (joined space (joined np (joined space c)))))))))))) (omega arith)
  cond_piece (holds (stands p)) t j f c = wide (joined (word (codes "if ") refl) (joined (word (codes "data storage ") refl) (joined (store_piece ns p.store n) (joined space (joined (path_piece (site_path p) (path_of p f)) (joined space c)))))) (omega arith)
  cond_piece (fails (stands p)) t j f c = wide (joined (word (codes "unless ") refl) (joined (word (codes "data storage ") refl) (joined (store_piece ns p.store n) (joined space (joined (path_piece (site_path p) (path_of p f)) (joined space c)))))) (omega arith)

  subs_piece : (cs : List Cond) (us : List Sub) (t : Text) (j : ℕ) → list_all cond_fits cs ≡ true → IsPiece j (subs_text us t) → IsPiece (600 * length cs + j) (subs_text (cond_subs ns cs ++ us) t)
  subs_piece [] us t j f g = wide g (omega arith)
  subs_piece (c ∷ cs) us t j f g = wide (cond_piece c (subs_text (cond_subs ns cs ++ us) t) (600 * length cs + j) (and_first _ _ f) (subs_piece cs us t j (and_second (cond_fits c) _ f) g)) (omega arith)

  -- ---- commands

  said_piece : (d : Said) → SaidShort d → IsPiece (k + 2000) (cmd_text (said_command d))
  said_piece d f = by d.stores refl
    where
      by : (us : List Sub) → d.stores ≡ us → IsPiece (k + 2000) (cmd_text (said_command d))
      by [] e = subst (λ us. IsPiece (k + 2000) (cmd_text (under_subs us d.simple))) (sym e) (wide f.alone (omega arith))
      by (u ∷ us) e = subst (λ us. IsPiece (k + 2000) (cmd_text (under_subs us d.simple))) (sym e)
          (wide (joined (word (codes "execute ") refl) (subst (λ us. IsPiece (k + 1600) (subs_text us (simple_text d.simple))) e f.whole)) (omega arith))

  when_piece : (cs : List Cond) (us : List Sub) (s : Simple) → conds_fit cs ≡ true → IsPiece (k + 1600) (subs_text us (simple_text s)) → IsPiece (k + 12000) (cmd_text (execute (cond_subs ns cs ++ us) s))
  when_piece cs us s g f =
      let few = and_first (list_all cond_fits cs) _ g in
      let size = and_second (list_all cond_fits cs) _ g in
      let most : length cs ≤ 16 = leb-true (length cs) 16 (and_second (nat_le 1 (length cs)) _ size) in
      wide (joined (word (codes "execute ") refl) (subs_piece cs us (simple_text s) (k + 1600) few f)) (omega arith)

  -- a command behind conditions
  pub behind_piece : (cs : List Cond) (s : Simple) → conds_fit cs ≡ true → IsPiece (k + 1500) (simple_text s) → IsPiece (k + 12000) (cmd_text (execute (cond_subs ns cs) s))
  behind_piece cs s g f = subst (λ us. IsPiece (k + 12000) (cmd_text (execute us s))) (append-nil (cond_subs ns cs)) (when_piece cs [] s g (said s f).whole)

  -- the line of an act
  pub act_piece : (a : Act) → act_fits a ≡ true → ActWithin k a → IsPiece (k + 2000) (step_text ns (run_act a))
  act_piece a f w = said_piece (act_said ns a) (act_said_short a f w)

  -- the line of a step
  pub step_piece : (x : Step) → step_fits x ≡ true → StepWithin k x → IsPiece (k + 12000) (step_text ns x)
  step_piece (run_act a) f w = wide (act_piece a f w) (omega arith)
  step_piece (when cs a) f w = when_piece cs (act_said ns a).stores (act_said ns a).simple (and_first _ _ f) (act_said_short a (and_second (conds_fit cs) _ f) w).whole
  step_piece (stop_when cs) f w = behind_piece cs (return_value (pos 0)) f (wide (joined (word (codes "return ") refl) (number_piece (pos 0) refl)) (omega arith))

-- ---- macro lines

-- an open text as it stands in a macro line
abbrev source : List Chunk → Text
source [] = []
source (still l ∷ ps) = l ++ source ps
source (named n ∷ ps) = 36 ∷ (40 ∷ (n ++ (41 ∷ source ps)))

ends_text : (l : Text) (qs : List PatternPart) → pattern_parts (ends l qs) ≡ l ++ pattern_parts qs
ends_text [] qs = refl
ends_text (b ∷ l) qs = refl

source_from : (ps : List Chunk) (l : Text) → pattern_parts (pattern_from l ps) ≡ l ++ source ps
source_from [] l = ends_text l []
source_from (still m ∷ ps) l = source_from ps (l ++ m) ∙ append_assoc l m (source ps)
source_from (named n ∷ ps) l = ends_text l (hole n ∷ pattern_from [] ps) ∙ ap (λ t. l ++ (36 ∷ (40 ∷ (n ++ (41 ∷ t))))) (source_from ps [])

macro_piece : (j : ℕ) (ps : List Chunk) → IsPiece j (source ps) → IsPiece (1 + j) (macro_text ps)
macro_piece j ps p = subst (λ t. IsPiece (1 + j) (36 ∷ t)) (sym (source_from ps [])) (joined (word (codes "$") refl) p)

open_parts_piece : (ps : List OpenPart) → open_parts_fit ps ≡ true → IsPiece (40 * length ps) (source (parts_chunks ps))
open_parts_piece [] h = word [] refl
open_parts_piece (step p ∷ ps) h = wide (joined (parts_piece (p ∷ []) (and_both (is_part p) true (and_first _ _ h) refl)) (open_parts_piece ps (and_second (is_part p) _ h))) (omega arith)
open_parts_piece (place_of m ∷ ps) h =
    wide (joined (word (codes "[") refl) (joined (word (codes "$(") refl) (joined (key_piece m (and_first _ _ h)) (joined (word (codes ")") refl) (joined (word (codes "]") refl) (open_parts_piece ps (and_second (is_key m) _ h))))))) (omega arith)

source_both : (xs ys : List Chunk) → source (xs ++ ys) ≡ source xs ++ source ys
source_both [] ys = refl
source_both (still l ∷ xs) ys = ap (λ t. l ++ t) (source_both xs ys) ∙ sym (append_assoc l (source xs) (source ys))
source_both (named n ∷ xs) ys = ap (λ t. 36 ∷ (40 ∷ (n ++ (41 ∷ t)))) (source_both xs ys) ∙ ap (λ t. 36 ∷ (40 ∷ t)) (sym (append_assoc n (41 ∷ source xs) (source ys)))

-- chunks behind others
chunks_piece : (j k : ℕ) (xs ys : List Chunk) → IsPiece j (source xs) → IsPiece k (source ys) → IsPiece (j + k) (source (xs ++ ys))
chunks_piece j k xs ys p q = subst (IsPiece (j + k)) (sym (source_both xs ys)) (joined p q)

one_piece : (j : ℕ) (t : Text) → IsPiece j t → IsPiece j (source (still t ∷ []))
one_piece j t p = subst (IsPiece j) (sym (append-nil t)) p

-- what is said behind other things, of at most so many bytes each
front_piece : (w k : ℕ) (us : List (List Chunk)) (qs : List Chunk) → AllByRecursion (λ u. IsPiece w (source u)) us → IsPiece k (source qs) → IsPiece (w * length us + (4 + k)) (source (front_chunks us qs))
front_piece w k [] qs a q = wide (joined (word (codes "run ") refl) q) (omega arith)
front_piece w k (u ∷ us) qs a q = wide (chunks_piece w (w * length us + (4 + k)) u (front_chunks us qs) a.0 (front_piece w k us qs a.1 q)) (omega arith)

both_within : (w : ℕ) (us vs : List (List Chunk)) → AllByRecursion (λ u. IsPiece w (source u)) us → AllByRecursion (λ u. IsPiece w (source u)) vs → AllByRecursion (λ u. IsPiece w (source u)) (us ++ vs)
both_within w [] vs a b = b
both_within w (u ∷ us) vs a b = (a.0, both_within w us vs a.1 b)

-- what an open act says: what stands before its command, at most one such, and the command
record OpenShort (d : OpenSaid) : Type 0 where
  stores : AllByRecursion (λ u. IsPiece 750 (source u)) d.stores
  few : length d.stores ≤ 1
  simple : IsPiece (1500 - 750 * length d.stores) (source d.simple)

-- the lines of helpers that are filled: steps, loads, keeps and copies, and operations with standing scores
abbrev pub ActOpenWithin : OpenAct → Type 0
ActOpenWithin (open_load_site h p) = Unit {0}
ActOpenWithin (open_keep_site p h) = Unit {0}
ActOpenWithin (open_combine x op h m) = Unit {0}
ActOpenWithin (open_copy_site p q) = Unit {0}
ActOpenWithin _ = ⊥

abbrev pub OpenWithin : ℕ → OpenStep → Type 0
OpenWithin k (closed_step x) = StepWithin k x
OpenWithin k (open_act a) = ActOpenWithin a
OpenWithin k (open_when cs a) = ActOpenWithin a

module _ (ns : Text) (n : is_namespace ns ≡ true) where
  -- a storage and a path
  site_piece : (p : OpenSite) → open_site_fits p ≡ true → IsPiece 660 (source (place_chunks ns p))
  site_piece p fits =
      let g = and_second (is_key p.name) _ fits in
      let parts = and_first (open_parts_fit p.parts) _ g in
      let few : length p.parts ≤ 15 = leb-true (length p.parts) 15 (and_first _ _ (and_second (open_parts_fit p.parts) _ g)) in
      wide (joined (store_piece ns p.store n) (joined space (joined (key_piece p.name (and_first _ _ fits)) (open_parts_piece p.parts parts)))) (omega arith)

  place_piece : (p : OpenSite) → is_open p ≡ true → IsPiece 660 (source (place_chunks ns p))
  place_piece p o = site_piece p (and_first (open_site_fits p) (has_place p.parts) o)

  keep_piece : (p : OpenSite) → is_open p ≡ true → IsPiece 750 (source (keep_chunks ns p))
  keep_piece p o =
      wide (joined (word (codes "store result storage ") refl)
      (chunks_piece 661 6 (place_chunks ns p ++ (space_chunk ∷ [])) (still (codes "int 1 ") ∷ [])
      (chunks_piece 660 1 (place_chunks ns p) (space_chunk ∷ []) (place_piece p o) (one_piece 1 _ space)) (one_piece 6 _ (word (codes "int 1 ") refl))))
      (omega arith)

  open_said_short : (a : OpenAct) → open_act_fits a ≡ true → ActOpenWithin a → OpenShort (open_said ns a)
  open_said_short (open_load_site h p) f w = record {
    stores = (one_piece 750 _ (wide (joined (word (codes "store result score ") refl) (joined (holder_piece h (holder_of_scratch h (and_first _ _ f))) (joined space (joined (namespace_piece ns n) space)))) (omega arith)), tt);
    few = omega arith;
    simple = wide (joined (word (codes "data get storage ") refl) (place_piece p (and_second (scratch_fits h) _ f))) (omega arith);
  }
  open_said_short (open_keep_site p h) f w = record {
    stores = (keep_piece p (and_first _ _ f), tt);
    few = omega arith;
    simple = one_piece 750 _ (wide (joined (word (codes "scoreboard players get ") refl) (joined (holder_piece h (holder_of_scratch h (and_second (is_open p) _ f))) (joined space (namespace_piece ns n)))) (omega arith));
  }
  open_said_short (open_combine x op h m) f w =
      let e = and_second (spot_fits x) (not (is_swap op) && (is_stem h && is_key m)) f in
      let g = and_second (not (is_swap op)) (is_stem h && is_key m) e in
      record {
        stores = tt;
        few = omega arith;
        simple = wide (joined (word (codes "scoreboard players operation ") refl)
            (joined (holder_piece (spot_name x) (spot_holder x (and_first _ _ f))) (joined space (joined (namespace_piece ns n)
            (joined space (joined (op_piece op) (joined space
            (joined (holder_piece h (stem_holder h (and_first _ _ g)))
            (joined (word (codes "$(") refl) (joined (key_piece m (and_second (is_stem h) _ g)) (joined (word (codes ")") refl)
            (joined space (joined (namespace_piece ns n) (word [] refl))))))))))))))
            (omega arith);
      }
  open_said_short (open_copy_site p q) f w =
      let g = and_second (open_site_fits p) (open_site_fits q && (has_place p.parts || has_place q.parts)) f in
      record {
        stores = tt;
        few = omega arith;
        simple = wide (chunks_piece 698 660 (within_chunks ns (codes "data modify storage ") (codes "set from storage ") p) (place_chunks ns q)
            (joined (word (codes "data modify storage ") refl)
            (chunks_piece 661 17 (place_chunks ns p ++ (space_chunk ∷ [])) (still (codes "set from storage ") ∷ [])
            (chunks_piece 660 1 (place_chunks ns p) (space_chunk ∷ []) (site_piece p (and_first _ _ f)) (one_piece 1 _ space)) (one_piece 17 _ (word (codes "set from storage ") refl))))
            (site_piece q (and_first _ _ g)))
            (omega arith);
      }
  open_said_short _ f w = absurd w

  conds_within : (cs : List Cond) → list_all cond_fits cs ≡ true → AllByRecursion (λ u. IsPiece 750 (source u)) (cond_chunks ns cs)
  conds_within [] f = tt
  conds_within (c ∷ cs) f = (one_piece 750 _ (wide (cond_piece ns n 0 c [] 0 (and_first _ _ f) (word [] refl)) (omega arith)), conds_within cs (and_second (cond_fits c) _ f))

  -- the line of an open act; one behind conditions
  said_open : (d : OpenSaid) → OpenShort d → IsPiece 2000 (macro_text (said_chunks d))
  said_open d s = wide (macro_piece 1700 (said_chunks d) (by d.stores s.stores s.few s.simple)) (omega arith)
    where
      by : (us : List (List Chunk)) → AllByRecursion (λ u. IsPiece 750 (source u)) us → length us ≤ 1 → IsPiece (1500 - 750 * length us) (source d.simple) → IsPiece 1700 (source (under_chunks us d.simple))
      by [] a few simple = wide simple (omega arith)
      by (u ∷ us) a few simple = wide (joined (word (codes "execute ") refl) (front_piece 750 (1500 - 750 * length (u ∷ us)) (u ∷ us) d.simple a simple)) (omega arith)

  when_open : (cs : List Cond) (d : OpenSaid) → conds_fit cs ≡ true → OpenShort d → IsPiece 14000 (macro_text (when_chunks ns cs d))
  when_open cs d g s =
      let fits = and_first (list_all cond_fits cs) _ g in
      let most : length cs ≤ 16 = leb-true (length cs) 16 (and_second (nat_le 1 (length cs)) _ (and_second (list_all cond_fits cs) _ g)) in
      let long : length (cond_chunks ns cs) ≡ length cs = length-map cs _ in
      let all : length (cond_chunks ns cs ++ d.stores) ≡ length (cond_chunks ns cs) + length d.stores = length-append (cond_chunks ns cs) d.stores in
      let few : length d.stores ≤ 1 = s.few in
      wide (macro_piece _ (when_chunks ns cs d) (joined (word (codes "execute ") refl) (front_piece 750 (1500 - 750 * length d.stores) (cond_chunks ns cs ++ d.stores) d.simple (both_within 750 (cond_chunks ns cs) d.stores (conds_within cs fits) s.stores) s.simple))) (omega arith)

  pub open_piece : (k : ℕ) (x : OpenStep) → open_step_fits x ≡ true → OpenWithin k x → IsPiece (k + 14000) (open_text ns x)
  open_piece k (closed_step x) f w = wide (step_piece ns n k x f w) (omega arith)
  open_piece k (open_act a) f w = wide (said_open (open_said ns a) (open_said_short a f w)) (omega arith)
  open_piece k (open_when cs a) f w = wide (when_open cs (open_said ns a) (and_first _ _ f) (open_said_short a (and_second (conds_fit cs) _ f) w)) (omega arith)
