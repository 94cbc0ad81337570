-- The text of each step that fits says its command, under every namespace, and is tidy.
use Rattle.std.proofs.Common.{◌≡◌, ◌∙◌, ap, refl, ℕ, ◌+◌, ◌*◌, ◌<◌, ◌≤◌, ◌^◌, ◌%◌, List, [], ◌∷◌, ◌++◌, length, length-append, Bool, true, false, arith, sym, ◌-◌, append-nil, subst, ◌⊎◌, inl, inr}
use Rattle.std.specs.Prelude.{ℤ, pos, codes, ◌||◌, not, nat_le, nat_eq, if◌then◌else◌, unwrap_or, option_and_then}
use Rattle.std.specs.List.{list_all}
use Rattle.std.specs.Fmt.{signed_decimal, decimal}
use Rattle.std.proofs.lemmas.Bool.{le-leb, leb-true, lt-ltb, ltb-true}
use Rattle.std.proofs.lemmas.Fmt.{length_signed_le, length-decimal-le, decimal_by_steps, decimal_nonempty}
use Rattle.std.proofs.lemmas.List.Folds.{list_all-append}
use lib.Signed.{mag}
use Rattle.mc_nbt.specs.Path.{is_part, is_path}
use Rattle.mc_nbt.specs.Word.{is_name_byte, is_key, is_int}
use Rattle.mc_nbt.specs.Tree.{key, place, Tree, Part, int}
use Rattle.mc_nbt.specs.Shape.{is_tree}
use Rattle.mc_nbt.specs.Spelling.{tree_text}
use Rattle.mc_nbt.proofs.TreeLemmas.{bytes_refl}
use Rattle.mc_cmd.specs.Form.{Text, lacks}
use Rattle.mc_cmd.specs.Word.{is_holder_byte, is_namespace, is_objective, is_holder, is_holder_rest, is_id, range_fits, range_text, op_text, cmp_text}
use Rattle.mc_cmd.specs.Value.{path_text, parts_text}
use Rattle.mc_cmd.specs.Command.{Op, assign, add, subtract, multiply, divide, remainder, lower, raise, swap, Range, exactly, from, up_to, between, Simple, return_value, Cmd, command, nothing, set_value, set_from, append_value, append_from, score_get, data_get, Sub, store_score, store_data, execute, score_set, score_add, score_remove, score_op, Cmp, less, less_equal, equal, greater_equal, greater}
use Rattle.mc_cmd.specs.Grammar.{cmd_text, cmd_fits, simple_text, simple_fits, sub_text, sub_fits, subs_text, subs_fit, may_run, any_stores, has_result, most, line_said}
use Rattle.mc_cmd.specs.Chain.{Texts, is_pattern, has_pattern}
use Rattle.mc_cmd.specs.Tidy.{own_objective, own_storage, simple_is_tidy, sub_is_tidy, cmd_is_tidy, is_tidy, is_tidy_by, says_tidy, text_by}
use Rattle.mc_cmd.proofs.FormLemmas.{and_first, and_second, and_both}
use Rattle.mc_cmd.proofs.WordLemmas.{all_lack, lacks-append, int_bytes, is_number_byte}
use Rattle.mc_cmd.proofs.NameLemmas.{namespace_objective, namespace_short, namespace_lacks, decimal_holder}
use Rattle.mc_cmd.proofs.ChunkLemmas.{namespace_id}
use Rattle.mc_cmd.proofs.GrammarLemmas.{reads_said, text_says}
use Rattle.cc_line.specs.Sight.{Store, in_io, in_memory, in_rest, store_id}
use Rattle.cc_line.specs.Place.{score_places, place_name, is_scratch, Home, in_score, in_list, home, Spot, scratch, placed, spot_name}
use Rattle.cc_line.specs.State.{ints, slot, frame_path, Site, site_path}
use Rattle.cc_line.specs.Step.{Act, set_spot, increase, decrease, combine, set_place, copy_place, load_place, keep_place, load_site, keep_site, place_to_site, site_to_place, set_site, copy_site, append_value_to, append_site, erase_site, open_place, make_list, save_list, restore_list, in_range, compare, stands, Cond, holds, fails, Step, run_act, when, stop_when, Said, says, storing, set_home, load_home, keep_home, copy_home, home_to_site, site_to_home, act_said, cond_sub, cond_subs, under_subs, said_command, step_command}
use Rattle.cc_line.specs.Fit.{place_fits, scratch_fits, spot_fits, site_fits, tree_fits, is_swap, act_fits, cond_fits, conds_fit, step_fits, steps_fit}
use Rattle.cc_line.proofs.PlaceLemmas.{home_case}
use Rattle.cc_line.proofs.Speaking.{Speaks}
use Rattle.cc_line.proofs.StepLemmas.{AllSpeak}

-- ---- texts of at most so many bytes without a quotation mark

pub record Clean (k : ℕ) (t : Text) : Type 0 where
  pub short : length t ≤ k
  pub bare : lacks 34 t ≡ true

pub word : (t : Text) → lacks 34 t ≡ true → Clean (length t) t
word t h = record { short = omega arith; bare = h }

pub joined : {j k : ℕ} {a b : Text} → Clean j a → Clean k b → Clean (j + k) (a ++ b)
joined {j = j} {k = k} {a = a} {b = b} p q = record { short = let n = length-append a b in let x = p.short in let y = q.short in omega arith; bare = lacks-append 34 a b p.bare q.bare }

pub wide : {j k : ℕ} {t : Text} → Clean j t → j ≤ k → Clean k t
wide {j = j} {k = k} {t = t} p le = record { short = let x = p.short in omega arith; bare = p.bare }

pub space : Clean 1 (codes " ")
space = word (codes " ") refl

pub namespace_clean : (ns : Text) → is_namespace ns ≡ true → Clean 16 ns
namespace_clean ns h = record { short = namespace_short ns h; bare = namespace_lacks ns 34 refl h }

pub store_clean : (ns : Text) (s : Store) → is_namespace ns ≡ true → Clean 19 (store_id ns s)
store_clean ns in_io h = joined (namespace_clean ns h) (word (codes ":io") refl)
store_clean ns in_memory h = wide (joined (namespace_clean ns h) (word (codes ":m") refl)) (omega arith)
store_clean ns in_rest h = wide (joined (namespace_clean ns h) (word (codes ":c") refl)) (omega arith)

pub holder_clean : (w : Text) → is_holder w ≡ true → Clean 41 w
unfolding is_holder
holder_clean [] f = absurd cc
holder_clean (b ∷ w) f = go (nat_eq b 35) refl f
  where
    rest : (v : Text) → is_holder_rest v ≡ true → Clean 40 v
    rest v f = record {
      short = leb-true (length v) 40 (and_second (nat_le 1 (length v)) _ (and_second (list_all is_holder_byte v) _ f));
      bare = all_lack is_holder_byte 34 refl v (and_first _ _ f);
    }

    go : (x : Bool) → nat_eq b 35 ≡ x → (if x then is_holder_rest w else is_holder_rest (b ∷ w)) ≡ true → Clean 41 (b ∷ w)
    go true e f = let r = rest w f in record { short = let x = r.short in omega arith; bare = grown (nat_eq b 34) refl r.bare }
      where
        same : (n : ℕ) → nat_eq n 35 ≡ true → nat_eq n 34 ≡ false
        same n e = grind arith

        grown : (y : Bool) → nat_eq b 34 ≡ y → lacks 34 w ≡ true → (if y then false else lacks 34 w) ≡ true
        grown true e' l = absurd (let z : true ≡ false = sym e' ∙ same b e in cc)
        grown false e' l = l
    go false e f = wide (rest (b ∷ w) f) (omega arith)

pub number_clean : (z : ℤ) → is_int z ≡ true → Clean 11 (signed_decimal z)
number_clean z h =
    let lt : mag z < 2 ^ 31 = ltb-true _ _ h in
    record { short = length_signed_le 10 z (omega arith) (omega arith); bare = all_lack is_number_byte 34 refl (signed_decimal z) (int_bytes z lt) }

pub key_clean : (k : Text) → is_key k ≡ true → Clean 32 k
unfolding is_key
key_clean k h = record {
  short = leb-true (length k) 32 (and_second (nat_le 1 (length k)) _ (and_second (list_all is_name_byte k) _ h));
  bare = all_lack is_name_byte 34 refl k (and_first _ _ h);
}

-- a number names a key
digit_name : (n : ℕ) → n < 10 → list_all is_name_byte ((48 + n) ∷ []) ≡ true
digit_name n lt = rw (le-leb 48 (48 + n) (omega arith), le-leb (48 + n) 57 (omega arith)) refl

decimal_names : (n : ℕ) → n < 2 ^ 64 → list_all is_name_byte (decimal n) ≡ true
decimal_names n lt = decimal_by_steps (λ k ds. list_all is_name_byte ds ≡ true) digit_name
    (λ k ds big h. rw (list_all-append is_name_byte ds ((48 + k % 10) ∷ [])) (and_both _ _ h (digit_name (k % 10) (omega arith)))) n lt

pub number_key : (n : ℕ) → n < 2 ^ 32 → is_key (decimal n) ≡ true
unfolding is_key
number_key n lt =
    and_both _ _ (decimal_names n (omega arith))
    (and_both _ _ (le-leb 1 (length (decimal n)) (let x = decimal_nonempty n (omega arith) in omega arith)) (le-leb (length (decimal n)) 32 (let x : length (decimal n) ≤ 10 = length-decimal-le 10 n (omega arith) (omega arith) (omega arith) in omega arith)))

pub range_clean : (r : Range) → range_fits r ≡ true → Clean 24 (range_text r)
range_clean (exactly n) h = wide (number_clean n h) (omega arith)
range_clean (from n) h = wide (joined (number_clean n h) (word (codes "..") refl)) (omega arith)
range_clean (up_to n) h = wide (joined (word (codes "..") refl) (number_clean n h)) (omega arith)
range_clean (between n m) h =
    wide (joined (number_clean n (and_first _ _ h)) (joined (word (codes "..") refl) (number_clean m (and_first _ _ (and_second (is_int n) _ h))))) (omega arith)

pub op_clean : (o : Op) → Clean 2 (op_text o)
op_clean assign = wide (word (op_text assign) refl) (omega arith)
op_clean add = wide (word (op_text add) refl) (omega arith)
op_clean subtract = wide (word (op_text subtract) refl) (omega arith)
op_clean multiply = wide (word (op_text multiply) refl) (omega arith)
op_clean divide = wide (word (op_text divide) refl) (omega arith)
op_clean remainder = wide (word (op_text remainder) refl) (omega arith)
op_clean lower = wide (word (op_text lower) refl) (omega arith)
op_clean raise = wide (word (op_text raise) refl) (omega arith)
op_clean swap = wide (word (op_text swap) refl) (omega arith)

cmp_clean : (c : Cmp) → Clean 2 (cmp_text c)
cmp_clean less = wide (word (cmp_text less) refl) (omega arith)
cmp_clean less_equal = wide (word (cmp_text less_equal) refl) (omega arith)
cmp_clean equal = wide (word (cmp_text equal) refl) (omega arith)
cmp_clean greater_equal = wide (word (cmp_text greater_equal) refl) (omega arith)
cmp_clean greater = wide (word (cmp_text greater) refl) (omega arith)

-- the steps of a path
abbrev parts_room : List Part → ℕ
parts_room [] = 0
parts_room (p ∷ ps) = 33 + parts_room ps

parts_clean : (ps : List Part) → list_all is_part ps ≡ true → Clean (parts_room ps) (parts_text ps)
parts_clean [] h = word [] refl
parts_clean (key k ∷ ps) h =
    wide (joined (word (codes ".") refl) (joined (key_clean k (and_first _ _ h)) (parts_clean ps (and_second (is_key k) _ h)))) (omega arith)
parts_clean (place i ∷ ps) h =
    wide (joined (word (codes "[") refl) (joined (number_clean i (and_first _ _ h)) (joined (word (codes "]") refl) (parts_clean ps (and_second (is_int i) _ h))))) (omega arith)

rooms : (ps : List Part) → parts_room ps ≡ 33 * length ps
rooms [] = refl
rooms (p ∷ ps) = let a = rooms ps in omega arith

pub path_clean : (ps : List Part) → is_path ps ≡ true → Clean 528 (path_text ps)
unfolding is_path
path_clean [] h = absurd cc
path_clean (place i ∷ ps) h = absurd cc
path_clean (key k ∷ ps) h =
    let n : length (key k ∷ ps) ≤ 16 = leb-true (length (key k ∷ ps)) 16 (and_first _ _ h) in
    let g = and_second (nat_le (length (key k ∷ ps)) 16) _ h in
    let r = rooms ps in
    wide (joined (key_clean k (and_first _ _ g)) (parts_clean ps (and_second (is_key k) _ g))) (omega arith)

-- ---- names and places

pub store_fits : (ns : Text) (s : Store) → is_namespace ns ≡ true → is_id (store_id ns s) ≡ true
store_fits ns in_io h = namespace_id ns (codes "io") h refl
store_fits ns in_memory h = namespace_id ns (codes "m") h refl
store_fits ns in_rest h = namespace_id ns (codes "c") h refl

pub store_own : (ns : Text) (s : Store) → own_storage ns (store_id ns s) ≡ true
store_own ns s = by s
  where
    open_or : (a b c : Bool) → c ≡ true → a || (b || c) ≡ true
    open_or true b c e = refl
    open_or false true c e = refl
    open_or false false c e = e

    mid_or : (a b c : Bool) → b ≡ true → a || (b || c) ≡ true
    mid_or true b c e = refl
    mid_or false b c e = ap (λ x. x || c) e

    first_or : (a b : Bool) → a ≡ true → a || b ≡ true
    first_or a b e = ap (λ x. x || b) e

    by : (s : Store) → own_storage ns (store_id ns s) ≡ true
    by in_io = first_or _ _ (bytes_refl (store_id ns in_io))
    by in_memory = mid_or _ _ _ (bytes_refl (store_id ns in_memory))
    by in_rest = open_or _ _ _ (bytes_refl (store_id ns in_rest))

slot_path : (i : ℕ) → i < 2 ^ 31 → is_path (slot i) ≡ true
unfolding is_path is_key
slot_path i h = and_both (is_int (pos i)) true (lt-ltb i (2 ^ 31) h) refl

list_path : is_path frame_path ≡ true
unfolding is_path is_key
list_path = refl

pub place_holder : (i : ℕ) → i < score_places → is_holder (place_name i) ≡ true
unfolding is_holder
place_holder i h =
    and_both _ _ (decimal_holder i (omega arith))
    (and_both _ _ (le-leb 1 (length (decimal i)) (let x = decimal_nonempty i (omega arith) in omega arith)) (le-leb (length (decimal i)) 40 (let x : length (decimal i) ≤ 11 = length_signed_le 10 (pos i) (omega arith) (omega arith) in omega arith)))

pub spot_holder : (x : Spot) → spot_fits x ≡ true → is_holder (spot_name x) ≡ true
spot_holder (scratch h) f = and_second (is_scratch h) _ f
spot_holder (placed i) f = place_holder i (ltb-true i score_places f)

-- a home whose number is an int
abbrev pub HomeFits : Home → Type 0
HomeFits (in_score i) = i < score_places
HomeFits (in_list i) = i < 2 ^ 31

pub holder_of_scratch : (h : Text) → scratch_fits h ≡ true → is_holder h ≡ true
holder_of_scratch h f = and_second (is_scratch h) _ f

-- ---- what is said fits, and is short and tidy

module _ (ns : Text) (n : is_namespace ns ≡ true) where
  pub record SaidFits (d : Said) : Type 0 where
    pub simple : simple_fits d.simple ≡ true
    pub subs : subs_fit d.stores ≡ true
    pub result : (if any_stores d.stores then has_result d.simple else true) ≡ true
    pub alone : Clean 402000 (simple_text d.simple)
    pub whole : Clean 403000 (subs_text d.stores (simple_text d.simple))
    pub own : simple_is_tidy ns d.simple ≡ true
    pub owns : list_all (sub_is_tidy ns) d.stores ≡ true

  ns_clean : Clean 16 ns
  ns_clean = namespace_clean ns n

  ns_own : own_objective ns ns ≡ true
  ns_own = bytes_refl ns

  ns_fits : is_objective ns ≡ true
  ns_fits = namespace_objective ns n

  pub said : (s : Simple) → simple_fits s ≡ true → simple_is_tidy ns s ≡ true → Clean 402000 (simple_text s) → SaidFits (says s)
  said s f o l = record { simple = f; subs = refl; result = refl; alone = l; whole = wide (joined (word (codes "run ") refl) l) (omega arith); own = o; owns = refl }

  number_said : (s : Simple) (first : Text) (h : Text) (z : ℤ) → simple_fits s ≡ true → simple_is_tidy ns s ≡ true → simple_text s ≡ first ++ (h ++ (32 ∷ (ns ++ (32 ∷ signed_decimal z)))) → Clean 100 first → is_holder h ≡ true → is_int z ≡ true → SaidFits (says s)
  number_said s first h z f o e c g i = said s f o (subst (Clean 402000) (sym e) (wide (joined c (joined (holder_clean h g) (joined space (joined ns_clean (joined space (number_clean z i)))))) (omega arith)))

  set_said : (h : Text) (z : ℤ) → is_holder h ≡ true → is_int z ≡ true → SaidFits (says (score_set h ns z))
  set_said h z f g = number_said (score_set h ns z) (codes "scoreboard players set ") h z (and_both _ _ (and_both _ _ f ns_fits) g) ns_own refl (wide (word (codes "scoreboard players set ") refl) (omega arith)) f g

  op_said : (h : Text) (op : Op) (g : Text) → is_holder h ≡ true → is_holder g ≡ true → SaidFits (says (score_op h ns op g ns))
  op_said h op g e f = said _ (and_both _ _ (and_both _ _ e ns_fits) (and_both _ _ refl (and_both _ _ f ns_fits))) (and_both _ _ ns_own ns_own)
      (wide (joined (word (codes "scoreboard players operation ") refl) (joined (holder_clean h e) (joined space (joined ns_clean (joined space (joined (op_clean op) (joined space (joined (holder_clean g f) (joined space ns_clean))))))))) (omega arith))

  pub value_clean : (t : Tree) → tree_fits t ≡ true → Clean 400000 (tree_text t)
  value_clean t f = let g = and_second (is_tree t) _ f in record { short = leb-true _ _ (and_first _ _ g); bare = and_second (nat_le (length (tree_text t)) 400000) _ g }

  value_said : (s : Store) (ps : List Part) (t : Tree) → is_path ps ≡ true → is_tree t ≡ true → Clean 400000 (tree_text t) → SaidFits (says (set_value (store_id ns s) ps t))
  value_said s ps t f g q = said _ (and_both _ _ (and_both _ _ (store_fits ns s n) f) g) (store_own ns s)
      (wide (joined (word (codes "data modify storage ") refl) (joined (store_clean ns s n) (joined space (joined (path_clean ps f) (joined space (joined (word (codes "set value ") refl) q)))))) (omega arith))

  append_said : (s : Store) (ps : List Part) (t : Tree) → is_path ps ≡ true → is_tree t ≡ true → Clean 400000 (tree_text t) → SaidFits (says (append_value (store_id ns s) ps t))
  append_said s ps t f g q = said _ (and_both _ _ (and_both _ _ (store_fits ns s n) f) g) (store_own ns s)
      (wide (joined (word (codes "data modify storage ") refl) (joined (store_clean ns s n) (joined space (joined (path_clean ps f) (joined space (joined (word (codes "append value ") refl) q)))))) (omega arith))

  from_said : (s r : Store) (ps qs : List Part) → is_path ps ≡ true → is_path qs ≡ true → SaidFits (says (set_from (store_id ns s) ps (store_id ns r) qs))
  from_said s r ps qs f g = said _ (and_both _ _ (and_both _ _ (store_fits ns s n) f) (and_both _ _ (store_fits ns r n) g)) (and_both _ _ (store_own ns s) (store_own ns r))
      (wide (joined (word (codes "data modify storage ") refl) (joined (store_clean ns s n) (joined space (joined (path_clean ps f) (joined space (joined (word (codes "set from storage ") refl) (joined (store_clean ns r n) (joined space (path_clean qs g))))))))) (omega arith))

  append_from_said : (s r : Store) (ps qs : List Part) → is_path ps ≡ true → is_path qs ≡ true → SaidFits (says (append_from (store_id ns s) ps (store_id ns r) qs))
  append_from_said s r ps qs f g = said _ (and_both _ _ (and_both _ _ (store_fits ns s n) f) (and_both _ _ (store_fits ns r n) g)) (and_both _ _ (store_own ns s) (store_own ns r))
      (wide (joined (word (codes "data modify storage ") refl) (joined (store_clean ns s n) (joined space (joined (path_clean ps f) (joined space (joined (word (codes "append from storage ") refl) (joined (store_clean ns r n) (joined space (path_clean qs g))))))))) (omega arith))

  got_clean : (s : Store) (ps : List Part) → is_path ps ≡ true → Clean 600 (simple_text (data_get (store_id ns s) ps))
  got_clean s ps f = wide (joined (word (codes "data get storage ") refl) (joined (store_clean ns s n) (joined space (path_clean ps f)))) (omega arith)

  got_said : (h : Text) (s : Store) (ps : List Part) → is_holder h ≡ true → is_path ps ≡ true → SaidFits (storing (store_score h ns) (data_get (store_id ns s) ps))
  got_said h s ps e f = record {
    simple = and_both _ _ (store_fits ns s n) f;
    subs = and_both _ _ (and_both _ _ e ns_fits) refl;
    result = refl;
    alone = wide (got_clean s ps f) (omega arith);
    whole = wide (joined (word (codes "store result score ") refl) (joined (holder_clean h e) (joined space (joined ns_clean (joined space (joined (word (codes "run ") refl) (got_clean s ps f))))))) (omega arith);
    own = store_own ns s;
    owns = and_both _ _ ns_own refl;
  }

  pub score_clean : (h : Text) → is_holder h ≡ true → Clean 100 (simple_text (score_get h ns))
  score_clean h e = wide (joined (word (codes "scoreboard players get ") refl) (joined (holder_clean h e) (joined space ns_clean))) (omega arith)

  kept_said : (h : Text) (s : Store) (ps : List Part) → is_holder h ≡ true → is_path ps ≡ true → SaidFits (storing (store_data (store_id ns s) ps) (score_get h ns))
  kept_said h s ps e f = record {
    simple = and_both _ _ e ns_fits;
    subs = and_both _ _ (and_both _ _ (store_fits ns s n) f) refl;
    result = refl;
    alone = wide (score_clean h e) (omega arith);
    whole = wide (joined (word (codes "store result storage ") refl) (joined (store_clean ns s n) (joined space (joined (path_clean ps f) (joined space (joined (word (codes "int 1 ") refl) (joined (word (codes "run ") refl) (score_clean h e)))))))) (omega arith);
    own = ns_own;
    owns = and_both _ _ (store_own ns s) refl;
  }

  -- by where a place is
  pub home_fits : (i : ℕ) → place_fits i ≡ true → HomeFits (home i)
  home_fits i f = by (home_case i)
    where
      by : ((i < score_places) × (home i ≡ in_score i)) ⊎ ((score_places ≤ i) × (home i ≡ in_list (i - score_places))) → HomeFits (home i)
      by (inl e) = subst HomeFits (sym e.1) e.0
      by (inr e) = subst HomeFits (sym e.1) (let x = e.0 in let h : i < 2147483648 = ltb-true i 2147483648 f in let y : i - score_places < 2 ^ 31 = omega arith in y)

  int_clean : (z : ℤ) → is_int z ≡ true → Clean 400000 (tree_text (int z))
  int_clean z g = wide (number_clean z g) (omega arith)

  home_said : (q : Home) (z : ℤ) → HomeFits q → is_int z ≡ true → SaidFits (set_home ns q z)
  home_said (in_score i) z f g = set_said (place_name i) z (place_holder i f) g
  home_said (in_list i) z f g = value_said in_rest (slot i) (int z) (slot_path i f) (and_both (is_int z) true g refl) (int_clean z g)

  load_said : (h : Text) (q : Home) → is_holder h ≡ true → HomeFits q → SaidFits (load_home ns h q)
  load_said h (in_score i) e f = op_said h assign (place_name i) e (place_holder i f)
  load_said h (in_list i) e f = got_said h in_rest (slot i) e (slot_path i f)

  keep_said : (q : Home) (h : Text) → HomeFits q → is_holder h ≡ true → SaidFits (keep_home ns q h)
  keep_said (in_score i) h f e = op_said (place_name i) assign h (place_holder i f) e
  keep_said (in_list i) h f e = kept_said h in_rest (slot i) e (slot_path i f)

  copy_said : (p q : Home) → HomeFits p → HomeFits q → SaidFits (copy_home ns p q)
  copy_said p (in_score j) e f = keep_said p (place_name j) e (place_holder j f)
  copy_said (in_score i) (in_list j) e f = got_said (place_name i) in_rest (slot j) (place_holder i e) (slot_path j f)
  copy_said (in_list i) (in_list j) e f = from_said in_rest in_rest (slot i) (slot j) (slot_path i e) (slot_path j f)

  path_of : (p : Site) → site_fits p ≡ true → is_path (site_path p) ≡ true
  path_of p f = and_first _ _ f

  to_site_said : (p : Site) (q : Home) → site_fits p ≡ true → HomeFits q → SaidFits (home_to_site ns p q)
  to_site_said p (in_score i) e f = kept_said (place_name i) p.store (site_path p) (place_holder i f) (path_of p e)
  to_site_said p (in_list i) e f = from_said p.store in_rest (site_path p) (slot i) (path_of p e) (slot_path i f)

  from_site_said : (q : Home) (p : Site) → HomeFits q → site_fits p ≡ true → SaidFits (site_to_home ns q p)
  from_site_said (in_score i) p f e = got_said (place_name i) p.store (site_path p) (place_holder i f) (path_of p e)
  from_site_said (in_list i) p f e = from_said in_rest p.store (slot i) (site_path p) (slot_path i f) (path_of p e)

  holder_of : (h : Text) → scratch_fits h ≡ true → is_holder h ≡ true
  holder_of h f = and_second (is_scratch h) _ f

  pub act_said_fits : (a : Act) → act_fits a ≡ true → SaidFits (act_said ns a)
  act_said_fits (set_spot x z) f = set_said (spot_name x) z (spot_holder x (and_first _ _ f)) (and_second (spot_fits x) _ f)
  act_said_fits (increase x k) f =
      let h = spot_holder x (and_first _ _ f) in
      let g = and_second (spot_fits x) _ f in
      number_said (score_add (spot_name x) ns (pos k)) (codes "scoreboard players add ") (spot_name x) (pos k) (and_both _ _ (and_both _ _ h ns_fits) g) ns_own refl (wide (word (codes "scoreboard players add ") refl) (omega arith)) h g
  act_said_fits (decrease x k) f =
      let h = spot_holder x (and_first _ _ f) in
      let g = and_second (spot_fits x) _ f in
      number_said (score_remove (spot_name x) ns (pos k)) (codes "scoreboard players remove ") (spot_name x) (pos k) (and_both _ _ (and_both _ _ h ns_fits) g) ns_own refl (wide (word (codes "scoreboard players remove ") refl) (omega arith)) h g
  act_said_fits (combine x op y) f = op_said (spot_name x) op (spot_name y) (spot_holder x (and_first _ _ f)) (spot_holder y (and_first (spot_fits y) (not (is_swap op)) (and_second (spot_fits x) _ f)))
  act_said_fits (set_place i z) f = home_said (home i) z (home_fits i (and_first _ _ f)) (and_second (place_fits i) _ f)
  act_said_fits (copy_place i j) f = copy_said (home i) (home j) (home_fits i (and_first _ _ f)) (home_fits j (and_second (place_fits i) _ f))
  act_said_fits (load_place h i) f = load_said h (home i) (holder_of h (and_first _ _ f)) (home_fits i (and_second (scratch_fits h) _ f))
  act_said_fits (keep_place i h) f = keep_said (home i) h (home_fits i (and_first _ _ f)) (holder_of h (and_second (place_fits i) _ f))
  act_said_fits (load_site h p) f = got_said h p.store (site_path p) (holder_of h (and_first _ _ f)) (path_of p (and_second (scratch_fits h) _ f))
  act_said_fits (keep_site p h) f = kept_said h p.store (site_path p) (holder_of h (and_second (site_fits p) _ f)) (path_of p (and_first _ _ f))
  act_said_fits (place_to_site p i) f = to_site_said p (home i) (and_first _ _ f) (home_fits i (and_second (site_fits p) _ f))
  act_said_fits (site_to_place i p) f = from_site_said (home i) p (home_fits i (and_first _ _ f)) (and_second (place_fits i) _ f)
  act_said_fits (set_site p t) f = let g = and_second (site_fits p) _ f in value_said p.store (site_path p) t (path_of p (and_first _ _ f)) (and_first (is_tree t) _ g) (value_clean t g)
  act_said_fits (copy_site p q) f = from_said p.store q.store (site_path p) (site_path q) (path_of p (and_first _ _ f)) (path_of q (and_second (site_fits p) _ f))
  act_said_fits (append_value_to p t) f = let g = and_second (site_fits p) _ f in append_said p.store (site_path p) t (path_of p (and_first _ _ f)) (and_first (is_tree t) _ g) (value_clean t g)
  act_said_fits (append_site p q) f = append_from_said p.store q.store (site_path p) (site_path q) (path_of p (and_first _ _ f)) (path_of q (and_second (site_fits p) _ f))
  act_said_fits (erase_site p) f = said _ (and_both _ _ (store_fits ns p.store n) (path_of p (and_first _ _ f))) (store_own ns p.store)
      (wide (joined (word (codes "data remove storage ") refl) (joined (store_clean ns p.store n) (joined space (path_clean (site_path p) (path_of p (and_first _ _ f)))))) (omega arith))
  act_said_fits (open_place i) f = set_said (place_name i) (pos 0) (place_holder i (ltb-true i score_places f)) refl
  act_said_fits (make_list zs) f = value_said in_rest frame_path (ints zs) list_path (and_first (is_tree (ints zs)) _ f) (value_clean (ints zs) f)
  act_said_fits (save_list p) f = from_said p.store in_rest (site_path p) frame_path (path_of p f) list_path
  act_said_fits (restore_list p) f = from_said in_rest p.store frame_path (site_path p) list_path (path_of p f)

  -- ---- conditions

  -- a condition before what follows it
  record CondFits (u : Sub) : Type 0 where
    fits : sub_fits u ≡ true
    own : sub_is_tidy ns u ≡ true
    front : (t : Text) (k : ℕ) → Clean k t → Clean (600 + k) (sub_text u t)

  cond_said : (c : Cond) → cond_fits c ≡ true → CondFits (cond_sub ns c)
  cond_said (holds (in_range x r)) f = record {
    fits = and_both _ _ (and_both _ _ (spot_holder x (and_first _ _ f)) ns_fits) (and_second (spot_fits x) _ f);
    own = ns_own;
    front = λ t k c. wide (joined (word (codes "if ") refl) (joined (word (codes "score ") refl) (joined (holder_clean (spot_name x) (spot_holder x (and_first _ _ f))) (joined space (joined ns_clean (joined space (joined (word (codes "matches ") refl) (joined (range_clean r (and_second (spot_fits x) _ f)) (joined space c))))))))) (omega arith);
  }
  cond_said (fails (in_range x r)) f = record {
    fits = and_both _ _ (and_both _ _ (spot_holder x (and_first _ _ f)) ns_fits) (and_second (spot_fits x) _ f);
    own = ns_own;
    front = λ t k c. wide (joined (word (codes "unless ") refl) (joined (word (codes "score ") refl) (joined (holder_clean (spot_name x) (spot_holder x (and_first _ _ f))) (joined space (joined ns_clean (joined space (joined (word (codes "matches ") refl) (joined (range_clean r (and_second (spot_fits x) _ f)) (joined space c))))))))) (omega arith);
  }
  cond_said (holds (compare x p y)) f = record {
    fits = and_both _ _ (and_both _ _ (spot_holder x (and_first _ _ f)) ns_fits) (and_both _ _ refl (and_both _ _ (spot_holder y (and_second (spot_fits x) _ f)) ns_fits));
    own = and_both _ _ ns_own ns_own;
    front = λ t k c. wide (joined (word (codes "if ") refl) (joined (word (codes "score ") refl) (joined (holder_clean (spot_name x) (spot_holder x (and_first _ _ f))) (joined space (joined ns_clean (joined space (joined (cmp_clean p) (joined space (joined (holder_clean (spot_name y) (spot_holder y (and_second (spot_fits x) _ f))) (joined space (joined ns_clean (joined space c)))))))))))) (omega arith);
  }
  cond_said (fails (compare x p y)) f = record {
    fits = and_both _ _ (and_both _ _ (spot_holder x (and_first _ _ f)) ns_fits) (and_both _ _ refl (and_both _ _ (spot_holder y (and_second (spot_fits x) _ f)) ns_fits));
    own = and_both _ _ ns_own ns_own;
    front = λ t k c. wide (joined (word (codes "unless ") refl) (joined (word (codes "score ") refl) (joined (holder_clean (spot_name x) (spot_holder x (and_first _ _ f))) (joined space (joined ns_clean (joined space (joined (cmp_clean p) (joined space (joined (holder_clean (spot_name y) (spot_holder y (and_second (spot_fits x) _ f))) (joined space (joined ns_clean (joined space c)))))))))))) (omega arith);
  }
  cond_said (holds (stands p)) f = record {
    fits = and_both _ _ (store_fits ns p.store n) (path_of p f);
    own = store_own ns p.store;
    front = λ t k c. wide (joined (word (codes "if ") refl) (joined (word (codes "data storage ") refl) (joined (store_clean ns p.store n) (joined space (joined (path_clean (site_path p) (path_of p f)) (joined space c)))))) (omega arith);
  }
  cond_said (fails (stands p)) f = record {
    fits = and_both _ _ (store_fits ns p.store n) (path_of p f);
    own = store_own ns p.store;
    front = λ t k c. wide (joined (word (codes "unless ") refl) (joined (word (codes "data storage ") refl) (joined (store_clean ns p.store n) (joined space (joined (path_clean (site_path p) (path_of p f)) (joined space c)))))) (omega arith);
  }

  pub cond_clean : (c : Cond) (t : Text) (k : ℕ) → cond_fits c ≡ true → Clean k t → Clean (600 + k) (sub_text (cond_sub ns c) t)
  cond_clean c t k f g = (cond_said c f).front t k g

  pub subs_said : (cs : List Cond) (us : List Sub) → list_all cond_fits cs ≡ true → subs_fit us ≡ true → subs_fit (cond_subs ns cs ++ us) ≡ true
  subs_said [] us f g = g
  subs_said (c ∷ cs) us f g = and_both _ _ (cond_said c (and_first _ _ f)).fits (subs_said cs us (and_second (cond_fits c) _ f) g)

  subs_own : (cs : List Cond) (us : List Sub) → list_all cond_fits cs ≡ true → list_all (sub_is_tidy ns) us ≡ true → list_all (sub_is_tidy ns) (cond_subs ns cs ++ us) ≡ true
  subs_own [] us f g = g
  subs_own (c ∷ cs) us f g = and_both _ _ (cond_said c (and_first _ _ f)).own (subs_own cs us (and_second (cond_fits c) _ f) g)

  subs_clean : (cs : List Cond) (us : List Sub) (t : Text) (k : ℕ) → list_all cond_fits cs ≡ true → Clean k (subs_text us t) → Clean (600 * length cs + k) (subs_text (cond_subs ns cs ++ us) t)
  subs_clean [] us t k f g = wide g (omega arith)
  subs_clean (c ∷ cs) us t k f g = wide ((cond_said c (and_first _ _ f)).front _ _ (subs_clean cs us t k (and_second (cond_fits c) _ f) g)) (omega arith)

  more_stores : (cs : List Cond) (us : List Sub) → any_stores (cond_subs ns cs ++ us) ≡ any_stores us
  more_stores [] us = refl
  more_stores (holds c ∷ cs) us = more_stores cs us
  more_stores (fails c ∷ cs) us = more_stores cs us

  conds_run : (cs : List Cond) (us : List Sub) (s : Simple) → nat_le 1 (length cs) ≡ true → (if any_stores us then has_result s else true) ≡ true → may_run (cond_subs ns cs ++ us) s ≡ true
  conds_run [] us s f g = absurd cc
  conds_run (holds c ∷ cs) us s f g = ap (λ b. if b then has_result s else true) (more_stores cs us) ∙ g
  conds_run (fails c ∷ cs) us s f g = ap (λ b. if b then has_result s else true) (more_stores cs us) ∙ g

  -- ---- commands that fit, are short and tidy

  pub record Fitting (x : Cmd) : Type 0 where
    pub fits : cmd_fits x ≡ true
    pub clean : Clean 420000 (cmd_text x)
    pub own : cmd_is_tidy ns x ≡ true

  pub said_fitting : (d : Said) → SaidFits d → Fitting (said_command d)
  said_fitting d f = by d.stores refl
    where
      by : (us : List Sub) → d.stores ≡ us → Fitting (said_command d)
      by [] e = subst (λ us. Fitting (under_subs us d.simple)) (sym e) (record { fits = f.simple; clean = wide f.alone (omega arith); own = f.own })
      by (u ∷ us) e = subst (λ us. Fitting (under_subs us d.simple)) (sym e) (record {
        fits = and_both _ _ (ap (λ us. if any_stores us then has_result d.simple else true) (sym e) ∙ f.result) (and_both _ _ (ap subs_fit (sym e) ∙ f.subs) f.simple);
        clean = wide (joined (word (codes "execute ") refl) (subst (λ us. Clean 403000 (subs_text us (simple_text d.simple))) e f.whole)) (omega arith);
        own = and_both _ _ (ap (list_all (sub_is_tidy ns)) (sym e) ∙ f.owns) f.own;
      })

  pub when_fitting : (cs : List Cond) (d : Said) → conds_fit cs ≡ true → SaidFits d → Fitting (execute (cond_subs ns cs ++ d.stores) d.simple)
  when_fitting cs d g f =
      let few = and_first (list_all cond_fits cs) _ g in
      let size = and_second (list_all cond_fits cs) _ g in
      let most' : length cs ≤ 16 = leb-true (length cs) 16 (and_second (nat_le 1 (length cs)) _ size) in
      record {
        fits = and_both _ _ (conds_run cs d.stores d.simple (and_first _ _ size) f.result) (and_both _ _ (subs_said cs d.stores few f.subs) f.simple);
        clean = wide (joined (word (codes "execute ") refl) (subs_clean cs d.stores (simple_text d.simple) 403000 few f.whole)) (omega arith);
        own = and_both _ _ (subs_own cs d.stores few f.owns) f.own;
      }

  return_said : SaidFits (says (return_value (pos 0)))
  return_said = said (return_value (pos 0)) refl refl (wide (joined (word (codes "return ") refl) (number_clean (pos 0) refl)) (omega arith))

  -- a command without stores behind conditions
  pub behind_fitting : (cs : List Cond) (s : Simple) → conds_fit cs ≡ true → SaidFits (says s) → Fitting (execute (cond_subs ns cs) s)
  behind_fitting cs s g f = subst (λ us. Fitting (execute us s)) (append-nil (cond_subs ns cs)) (when_fitting cs (says s) g f)

  pub step_fitting : (x : Step) → step_fits x ≡ true → Fitting (step_command ns x)
  step_fitting (run_act a) f = said_fitting (act_said ns a) (act_said_fits a f)
  step_fitting (when cs a) f = when_fitting cs (act_said ns a) (and_first _ _ f) (act_said_fits a (and_second (conds_fit cs) _ f))
  step_fitting (stop_when cs) f = behind_fitting cs (return_value (pos 0)) f return_said

  -- ---- texts

  -- a command that fits is what its text says
  pub fitting_speaks : (x : Cmd) → Fitting x → Speaks x
  fitting_speaks x f = let l = f.clean.short in reads_said _ _ (text_says (command x) f.fits (le-leb (length (cmd_text x)) most (omega arith)))

  said_by : (x : Cmd) (d : Text) → Speaks x → cmd_is_tidy ns x ≡ true → is_tidy_by ns d (cmd_text x) ≡ true
  said_by x d r o = ap (λ q. says_tidy ns (option_and_then (λ l. line_said (text_by d (cmd_text x) l)) q)) r ∙ ap (says_tidy ns) r ∙ o

  pub fitting_tidy : (x : Cmd) → Fitting x → is_tidy ns (cmd_text x) ≡ true
  fitting_tidy x f = let r = fitting_speaks x f in and_both _ _ f.clean.bare (and_both _ _ (said_by x (48 ∷ []) r f.own) (said_by x (49 ∷ []) r f.own))

  pub step_speaks : (x : Step) → step_fits x ≡ true → Speaks (step_command ns x)
  step_speaks x f = fitting_speaks (step_command ns x) (step_fitting x f)

  -- THE LAST MILE of steps: no text of a line is looked at again
  pub all_speak : (xs : List Step) → steps_fit xs ≡ true → AllSpeak ns xs
  all_speak [] f = tt
  all_speak (x ∷ xs) f = (step_speaks x (and_first _ _ f), all_speak xs (and_second (step_fits x) _ f))

pub unfilled_before : (x : Cmd) (ts : Texts) → Speaks x → has_pattern ts ≡ false → has_pattern (cmd_text x ∷ ts) ≡ false
unfilled_before x ts r h = ap (λ o. if is_pattern (unwrap_or o nothing) then true else has_pattern ts) r ∙ h
