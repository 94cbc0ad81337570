-- A text that says a line is UTF-8 and has no line feed: what isn't a comment is printable ASCII.
use Rattle.std.proofs.Common.{◌≡◌, ℕ, ℤ, pos, negsuc, List, [], ◌∷◌, ◌++◌, Bool, true, false, Some, None, refl, sym, ap, ◌∙◌, subst, codes, arith}
use Rattle.std.specs.Prelude.{◌&&◌, is_some, Option, IsSome, nat_eq, nat_le, not, if◌then◌else◌}
use Rattle.std.specs.List.{list_all}
use Rattle.std.specs.Str.{IsUtf8, is_utf8}
use Rattle.std.specs.Fmt.{signed_decimal}
use Rattle.std.proofs.lemmas.Bool.Decides.{nat_tests, Decides-eqb}
use Rattle.std.proofs.lemmas.Bool.{ltb-true}
use Rattle.std.proofs.lemmas.List.Folds.{list_all-append}
use Rattle.std.proofs.lemmas.Str.{IsUtf8-append, IsUtf8-from_ascii, IsUtf8-from_is_utf8, IsUtf8-nil}
use Rattle.mc_nbt.specs.Path.{is_part, is_path, begins_with_key}
use Rattle.mc_nbt.specs.Shape.{is_shaped, items_shaped, fields_shaped}
use Rattle.mc_nbt.specs.Spelling.{tree_text, first_item_text, more_items_text, first_field_text, more_fields_text}
use Rattle.mc_nbt.specs.Tree.{Tree, int, string, list, compound, Items, no_items, item, Fields, no_fields, field, Part, key, place}
use Rattle.mc_nbt.specs.Word.{is_int, is_key, is_name_byte, is_string_byte}
use Rattle.mc_cmd.specs.Command.{Op, assign, add, subtract, multiply, divide, remainder, lower, raise, swap, Cmp, less, less_equal, equal, greater_equal, greater, Range, exactly, from, up_to, between}
use Rattle.mc_cmd.specs.Command.{Simple, objective_add, score_set, score_add, score_remove, score_get, score_op, score_reset, data_get, set_value, set_from, append_value, append_from, data_remove, call, call_with, return_value, chain_length}
use Rattle.mc_cmd.specs.Command.{Test, scores_compare, score_matches, path_selects, Sub, if_test, unless_test, store_score, store_data, Cmd, plain, execute, PatternPart, literal, hole, Line}
use Rattle.mc_cmd.specs.Form.{Text, Last, Front, spaced, after, ended, before, closed, both, follow, cut_at, lacks}
use Rattle.mc_cmd.specs.Chain.{Texts}
use Rattle.mc_cmd.specs.Grammar.{Says, says_nothing, says_comment, says_command, says_pattern, is_comment, line_said, score, data_place, score_front, place_front, score_after, place_within, modified}
use Rattle.mc_cmd.specs.Grammar.{simple_text, simple_fits, test, sub_text, sub_fits, subs_text, subs_fit, cmd_text, cmd_fits, may_run}
use Rattle.mc_cmd.specs.Pattern.{is_literal, is_literal_byte, parts_text as pattern_parts_text, parts_fit, begins_with_hole, has_word, pattern_fits, patterns}
use Rattle.mc_cmd.specs.Value.{path, path_text, parts_text, value}
use Rattle.mc_cmd.specs.Word.{is_function, is_function_cut, is_holder, is_holder_byte, is_holder_rest, is_id, is_id_cut, is_namespace, is_objective, is_small_byte, objective, holder, id, function, number, natural, is_natural, op, cmp, range, range_text, range_fits}
use Rattle.mc_cmd.proofs.FormLemmas.{and_both, and_first, and_second, cut_at_spells}
use Rattle.mc_cmd.proofs.GrammarLemmas.{line_reader}
use Rattle.mc_cmd.proofs.NameLemmas.{all_pass}
use Rattle.mc_cmd.proofs.TextLemmas.{all_low, is_low, low_ascii}
use Rattle.mc_cmd.proofs.WordLemmas.{all_lack, int_bytes, is_number_byte, key_bytes, namespace_bytes}
use Rattle.mc_cmd.specs.Packing.{are_lines}

-- printable ASCII
abbrev is_plain : ℕ → Bool
is_plain b = nat_le 32 b && nat_le b 126

record IsPlain (w : Text) : Type 0 where
  passes : list_all is_plain w ≡ true

nil_plain : IsPlain []
nil_plain = record { passes = refl }

joined : (u w : Text) → IsPlain u → IsPlain w → IsPlain (u ++ w)
joined u w h k = record { passes = list_all-append is_plain u w ∙ and_both _ _ h.passes k.passes }

behind : (b : ℕ) (w : Text) → is_plain b ≡ true → IsPlain w → IsPlain (b ∷ w)
behind b w h u = record { passes = and_both _ _ h u.passes }

plain_by : (p : ℕ → Bool) → ((b : ℕ) → p b ≡ true → is_plain b ≡ true) → (w : Text) → list_all p w ≡ true → IsPlain w
plain_by p f w h = record { passes = all_pass p is_plain f w h }

name_plain : (b : ℕ) → is_name_byte b ≡ true → is_plain b ≡ true
name_plain b h = grind (arith, nat_tests)

small_plain : (b : ℕ) → is_small_byte b ≡ true → is_plain b ≡ true
small_plain b h = grind (arith, nat_tests)

holder_byte_plain : (b : ℕ) → is_holder_byte b ≡ true → is_plain b ≡ true
holder_byte_plain b h = grind (arith, nat_tests)

number_byte_plain : (b : ℕ) → is_number_byte b ≡ true → is_plain b ≡ true
number_byte_plain b h = grind (arith, nat_tests)

literal_byte_plain : (b : ℕ) → is_literal_byte b ≡ true → is_plain b ≡ true
literal_byte_plain b h = grind (arith, nat_tests)

objective_is_plain : (w : Text) → is_objective w ≡ true → IsPlain w
unfolding is_objective
objective_is_plain w h = plain_by is_name_byte name_plain w (and_first _ _ h)

holder_is_plain : (w : Text) → is_holder w ≡ true → IsPlain w
unfolding is_holder
holder_is_plain [] h = nil_plain
holder_is_plain (b ∷ w) h = go (nat_eq b 35) refl h
  where
    go : (c : Bool) → nat_eq b 35 ≡ c → (if c then is_holder_rest w else is_holder_rest (b ∷ w)) ≡ true → IsPlain (b ∷ w)
    go true e h =
        let mark : b ≡ 35 = (Decides-eqb b 35).0 e in
        record { passes = and_both _ _ (ap is_plain mark) (plain_by is_holder_byte holder_byte_plain w (and_first _ _ h)).passes }
    go false e h = plain_by is_holder_byte holder_byte_plain (b ∷ w) (and_first _ _ h)

named_is_plain : (w : Text) (p : Text × Text) → cut_at 58 w ≡ Some p → is_namespace p.0 ≡ true → list_all is_small_byte p.1 ≡ true → IsPlain w
named_is_plain w p e space name =
    subst IsPlain (sym (cut_at_spells 58 w p.0 p.1 e))
    (joined p.0 (58 ∷ p.1) (plain_by is_small_byte small_plain p.0 (namespace_bytes p.0 space)) (behind 58 p.1 refl (plain_by is_small_byte small_plain p.1 name)))

id_is_plain : (w : Text) → is_id w ≡ true → IsPlain w
unfolding is_id
id_is_plain w h = go (cut_at 58 w) refl h
  where
    go : (o : Option (Text × Text)) → cut_at 58 w ≡ o → is_id_cut o ≡ true → IsPlain w
    go None e h = absurd cc
    go (Some p) e h = named_is_plain w p e (and_first _ _ h) (and_first _ _ (and_second (is_namespace p.0) _ h))

function_is_plain : (w : Text) → is_function w ≡ true → IsPlain w
unfolding is_function
function_is_plain w h = go (cut_at 58 w) refl h
  where
    go : (o : Option (Text × Text)) → cut_at 58 w ≡ o → is_function_cut o ≡ true → IsPlain w
    go None e h = absurd cc
    go (Some p) e h = named_is_plain w p e (and_first _ _ h) (and_first _ _ (and_second (is_namespace p.0) _ h))

-- forms whose texts are printable ASCII
record SpellsPlain {A : Type 0} (l : Last A) : Type 0 where
  says : (a : A) → l.fits a ≡ true → IsPlain (l.text a)

record BeginsPlain {A : Type 0} (f : Front A) : Type 0 where
  says : (a : A) (t : Text) → f.fits a ≡ true → IsPlain t → IsPlain (f.text a t)

-- a fixed text, and one byte more in front
fixed : (w : Text) → list_all is_plain w ≡ true → IsPlain w
fixed w h = record { passes = h }

-- the ways to put forms together
spaced_plain : {A : Type 0} (l : Last A) → SpellsPlain l → BeginsPlain (spaced l)
spaced_plain l h = record { says = λ a t fits u. joined (l.text a) (32 ∷ t) (h.says a fits) (behind 32 t refl u) }

after_plain : {A : Type 0} (w : Text) (l : Last A) → IsPlain w → SpellsPlain l → SpellsPlain (after w l)
after_plain w l front h = record { says = λ a fits. joined w (l.text a) front (h.says a fits) }

ended_plain : {A : Type 0} (l : Last A) (w : Text) → IsPlain w → SpellsPlain l → SpellsPlain (ended l w)
ended_plain l w end h = record { says = λ a fits. joined (l.text a) w (h.says a fits) end }

before_plain : {A : Type 0} (w : Text) (f : Front A) → IsPlain w → BeginsPlain f → BeginsPlain (before w f)
before_plain w f front h = record { says = λ a t fits u. joined w (f.text a t) front (h.says a t fits u) }

closed_plain : {A : Type 0} (f : Front A) (w : Text) → IsPlain w → BeginsPlain f → BeginsPlain (closed f w)
closed_plain f w end h = record { says = λ a t fits u. h.says a (w ++ t) fits (joined w t end u) }

both_plain : {A B : Type 0} (f : Front A) (g : Front B) → BeginsPlain f → BeginsPlain g → BeginsPlain (both f g)
both_plain f g h k = record { says = λ p t fits u. h.says p.0 (g.text p.1 t) (and_first _ _ fits) (k.says p.1 t (and_second (f.fits p.0) _ fits) u) }

follow_plain : {A B : Type 0} (f : Front A) (l : Last B) → BeginsPlain f → SpellsPlain l → SpellsPlain (follow f l)
follow_plain f l h k = record { says = λ p fits. h.says p.0 (l.text p.1) (and_first _ _ fits) (k.says p.1 (and_second (f.fits p.0) _ fits)) }

-- words
objective_plain : SpellsPlain objective
objective_plain = record { says = λ w fits. objective_is_plain w fits }

holder_plain : SpellsPlain holder
holder_plain = record { says = λ w fits. holder_is_plain w fits }

id_plain : SpellsPlain id
id_plain = record { says = λ w fits. id_is_plain w fits }

function_plain : SpellsPlain function
function_plain = record { says = λ w fits. function_is_plain w fits }

int_plain : (z : ℤ) → is_int z ≡ true → IsPlain (signed_decimal z)
int_plain z fits = plain_by is_number_byte number_byte_plain (signed_decimal z) (int_bytes z (ltb-true _ _ fits))

number_is_plain : SpellsPlain number
number_is_plain = record { says = int_plain }

natural_says : (z : ℤ) → is_natural z ≡ true → IsPlain (signed_decimal z)
natural_says (pos n) fits = int_plain (pos n) fits
natural_says (negsuc n) fits = absurd cc

natural_plain : SpellsPlain natural
natural_plain = record { says = natural_says }

op_says : (o : Op) → op.fits o ≡ true → IsPlain (op.text o)
op_says assign fits = fixed (codes "=") refl
op_says add fits = fixed (codes "+=") refl
op_says subtract fits = fixed (codes "-=") refl
op_says multiply fits = fixed (codes "*=") refl
op_says divide fits = fixed (codes "/=") refl
op_says remainder fits = fixed (codes "%=") refl
op_says lower fits = fixed (codes "<") refl
op_says raise fits = fixed (codes ">") refl
op_says swap fits = fixed (codes "><") refl

op_plain : SpellsPlain op
op_plain = record { says = op_says }

cmp_says : (c : Cmp) → cmp.fits c ≡ true → IsPlain (cmp.text c)
cmp_says less fits = fixed (codes "<") refl
cmp_says less_equal fits = fixed (codes "<=") refl
cmp_says equal fits = fixed (codes "=") refl
cmp_says greater_equal fits = fixed (codes ">=") refl
cmp_says greater fits = fixed (codes ">") refl

cmp_plain : SpellsPlain cmp
cmp_plain = record { says = cmp_says }

range_says : (r : Range) → range_fits r ≡ true → IsPlain (range_text r)
range_says (exactly n) fits = int_plain n fits
range_says (from n) fits = joined (signed_decimal n) (codes "..") (int_plain n fits) (fixed (codes "..") refl)
range_says (up_to n) fits = joined (codes "..") (signed_decimal n) (fixed (codes "..") refl) (int_plain n fits)
range_says (between n m) fits =
    joined (signed_decimal n) (codes ".." ++ signed_decimal m) (int_plain n (and_first _ _ fits))
    (joined (codes "..") (signed_decimal m) (fixed (codes "..") refl) (int_plain m (and_first _ _ (and_second (is_int n) _ fits))))

range_plain : SpellsPlain range
range_plain = record { says = range_says }

-- paths and values
key_plain : (k : Text) → is_key k ≡ true → IsPlain k
key_plain k fits = plain_by is_name_byte name_plain k (key_bytes k fits)

parts_plain : (ps : List Part) → list_all is_part ps ≡ true → IsPlain (parts_text ps)
parts_plain [] fits = nil_plain
parts_plain (key k ∷ ps) fits =
    behind 46 _ refl (joined k (parts_text ps) (key_plain k (and_first _ _ fits)) (parts_plain ps (and_second (is_key k) _ fits)))
parts_plain (place i ∷ ps) fits =
    behind 91 _ refl (joined (signed_decimal i) (93 ∷ parts_text ps) (int_plain i (and_first _ _ fits)) (behind 93 _ refl (parts_plain ps (and_second (is_int i) _ fits))))

path_parts : (ps : List Part) → list_all is_part ps ≡ true → IsPlain (path_text ps)
path_parts [] fits = nil_plain
path_parts (key k ∷ ps) fits = joined k (parts_text ps) (key_plain k (and_first _ _ fits)) (parts_plain ps (and_second (is_key k) _ fits))
path_parts (place i ∷ ps) fits = parts_plain (place i ∷ ps) fits

path_says : (ps : List Part) → is_path ps ≡ true → IsPlain (path_text ps)
unfolding is_path
path_says ps fits = path_parts ps (and_second _ _ (and_second (begins_with_key ps) _ fits))

path_plain : SpellsPlain path
path_plain = record { says = path_says }

string_plain : (b : ℕ) → is_string_byte b ≡ true → is_plain b ≡ true
string_plain b h = grind (arith, nat_tests)

mutual
  tree_plain : (t : Tree) → is_shaped t ≡ true → IsPlain (tree_text t)
  tree_plain (int z) h = int_plain z h
  tree_plain (string s) h = behind 34 _ refl (joined s (34 ∷ []) (plain_by is_string_byte string_plain s h) (fixed (34 ∷ []) refl))
  tree_plain (list ts) h = behind 91 _ refl (first_items_plain ts (and_first _ _ h))
  tree_plain (compound fs) h = behind 123 _ refl (first_fields_plain fs (and_first _ _ h))

  first_items_plain : (ts : Items) → items_shaped ts ≡ true → IsPlain (first_item_text ts)
  first_items_plain no_items h = fixed (93 ∷ []) refl
  first_items_plain (item t ts) h = joined (tree_text t) (more_items_text ts) (tree_plain t (and_first _ _ h)) (more_items_plain ts (and_second (is_shaped t) _ h))

  more_items_plain : (ts : Items) → items_shaped ts ≡ true → IsPlain (more_items_text ts)
  more_items_plain no_items h = fixed (93 ∷ []) refl
  more_items_plain (item t ts) h =
      behind 44 _ refl (joined (tree_text t) (more_items_text ts) (tree_plain t (and_first _ _ h)) (more_items_plain ts (and_second (is_shaped t) _ h)))

  first_fields_plain : (fs : Fields) → fields_shaped fs ≡ true → IsPlain (first_field_text fs)
  first_fields_plain no_fields h = fixed (125 ∷ []) refl
  first_fields_plain (field k t fs) h =
      let rest = and_second (is_key k) (is_shaped t && fields_shaped fs) h in
      joined k _ (key_plain k (and_first _ _ h))
      (behind 58 _ refl (joined (tree_text t) (more_fields_text fs) (tree_plain t (and_first _ _ rest)) (more_fields_plain fs (and_second (is_shaped t) _ rest))))

  more_fields_plain : (fs : Fields) → fields_shaped fs ≡ true → IsPlain (more_fields_text fs)
  more_fields_plain no_fields h = fixed (125 ∷ []) refl
  more_fields_plain (field k t fs) h =
      let rest = and_second (is_key k) (is_shaped t && fields_shaped fs) h in
      behind 44 _ refl (joined k _ (key_plain k (and_first _ _ h))
      (behind 58 _ refl (joined (tree_text t) (more_fields_text fs) (tree_plain t (and_first _ _ rest)) (more_fields_plain fs (and_second (is_shaped t) _ rest)))))

value_plain : SpellsPlain value
value_plain = record { says = λ t fits. tree_plain t (and_first _ _ fits) }

-- what stands in front
holder_front : BeginsPlain (spaced holder)
holder_front = spaced_plain holder holder_plain

objective_front : BeginsPlain (spaced objective)
objective_front = spaced_plain objective objective_plain

id_front : BeginsPlain (spaced id)
id_front = spaced_plain id id_plain

path_front : BeginsPlain (spaced path)
path_front = spaced_plain path path_plain

score_plain : SpellsPlain score
score_plain = follow_plain _ _ holder_front objective_plain

data_place_plain : SpellsPlain data_place
data_place_plain = follow_plain _ _ id_front path_plain

score_front_plain : BeginsPlain score_front
score_front_plain = both_plain _ _ holder_front objective_front

place_front_plain : BeginsPlain place_front
place_front_plain = both_plain _ _ id_front path_front

-- commands
score_after_plain : (w : Text) → IsPlain w → BeginsPlain (score_after w)
score_after_plain w front = before_plain w score_front front score_front_plain

place_within_plain : (w u : Text) → IsPlain w → IsPlain u → BeginsPlain (place_within w u)
place_within_plain w u front end = before_plain w (closed place_front u) front (closed_plain place_front u end place_front_plain)

modified_plain : (u : Text) → IsPlain u → BeginsPlain (modified u)
modified_plain u end = place_within_plain (codes "data modify storage ") u (fixed _ refl) end

simple_plain : (s : Simple) → simple_fits s ≡ true → IsPlain (simple_text s)
simple_plain (objective_add o) fits =
    (after_plain (codes "scoreboard objectives add ") _ (fixed _ refl) (ended_plain objective (codes " dummy") (fixed _ refl) objective_plain)).says o fits
simple_plain (score_set h o z) fits = (follow_plain _ _ (score_after_plain (codes "scoreboard players set ") (fixed _ refl)) number_is_plain).says ((h, o), z) fits
simple_plain (score_add h o z) fits = (follow_plain _ _ (score_after_plain (codes "scoreboard players add ") (fixed _ refl)) natural_plain).says ((h, o), z) fits
simple_plain (score_remove h o z) fits = (follow_plain _ _ (score_after_plain (codes "scoreboard players remove ") (fixed _ refl)) natural_plain).says ((h, o), z) fits
simple_plain (score_get h o) fits = (after_plain (codes "scoreboard players get ") _ (fixed _ refl) score_plain).says (h, o) fits
simple_plain (score_op h o f i q) fits =
    (follow_plain _ _ (score_after_plain (codes "scoreboard players operation ") (fixed _ refl)) (follow_plain _ _ (spaced_plain op op_plain) score_plain)).says ((h, o), (f, (i, q))) fits
simple_plain (score_reset h o) fits = (after_plain (codes "scoreboard players reset ") _ (fixed _ refl) score_plain).says (h, o) fits
simple_plain (data_get i ps) fits = (after_plain (codes "data get storage ") _ (fixed _ refl) data_place_plain).says (i, ps) fits
simple_plain (set_value i ps v) fits = (follow_plain _ _ (modified_plain (codes "set value ") (fixed _ refl)) value_plain).says ((i, ps), v) fits
simple_plain (set_from i ps j qs) fits = (follow_plain _ _ (modified_plain (codes "set from storage ") (fixed _ refl)) data_place_plain).says ((i, ps), (j, qs)) fits
simple_plain (append_value i ps v) fits = (follow_plain _ _ (modified_plain (codes "append value ") (fixed _ refl)) value_plain).says ((i, ps), v) fits
simple_plain (append_from i ps j qs) fits = (follow_plain _ _ (modified_plain (codes "append from storage ") (fixed _ refl)) data_place_plain).says ((i, ps), (j, qs)) fits
simple_plain (data_remove i ps) fits = (after_plain (codes "data remove storage ") _ (fixed _ refl) data_place_plain).says (i, ps) fits
simple_plain (call f) fits = (after_plain (codes "function ") _ (fixed _ refl) function_plain).says f fits
simple_plain (call_with f i ps) fits =
    (after_plain (codes "function ") _ (fixed _ refl) (follow_plain _ _ (spaced_plain function function_plain) (after_plain (codes "with storage ") _ (fixed _ refl) data_place_plain))).says (f, (i, ps)) fits
simple_plain (return_value z) fits = (after_plain (codes "return ") _ (fixed _ refl) number_is_plain).says z fits
simple_plain chain_length fits = fixed (codes "gamerule maxCommandChainLength") refl

-- tests and sub-commands
test_says : (c : Test) (t : Text) → test.fits c ≡ true → IsPlain t → IsPlain (test.text c t)
test_says (scores_compare h o c i q) t fits u =
    (both_plain _ _ (score_after_plain (codes "score ") (fixed _ refl)) (both_plain _ _ (spaced_plain cmp cmp_plain) score_front_plain)).says ((h, o), (c, (i, q))) t fits u
test_says (score_matches h o r) t fits u =
    (both_plain _ _ (score_after_plain (codes "score ") (fixed _ refl)) (before_plain (codes "matches ") _ (fixed _ refl) (spaced_plain range range_plain))).says ((h, o), r) t fits u
test_says (path_selects i ps) t fits u = (before_plain (codes "data storage ") _ (fixed _ refl) place_front_plain).says (i, ps) t fits u

test_plain : BeginsPlain test
test_plain = record { says = test_says }

sub_plain : (s : Sub) (t : Text) → sub_fits s ≡ true → IsPlain t → IsPlain (sub_text s t)
sub_plain (if_test c) t fits u = (before_plain (codes "if ") test (fixed _ refl) test_plain).says c t fits u
sub_plain (unless_test c) t fits u = (before_plain (codes "unless ") test (fixed _ refl) test_plain).says c t fits u
sub_plain (store_score h o) t fits u = (score_after_plain (codes "store result score ") (fixed _ refl)).says (h, o) t fits u
sub_plain (store_data i ps) t fits u = (place_within_plain (codes "store result storage ") (codes "int 1 ") (fixed _ refl) (fixed _ refl)).says (i, ps) t fits u

subs_plain : (ss : List Sub) (t : Text) → subs_fit ss ≡ true → IsPlain t → IsPlain (subs_text ss t)
subs_plain [] t fits u = joined (codes "run ") t (fixed _ refl) u
subs_plain (s ∷ ss) t fits u = sub_plain s (subs_text ss t) (and_first _ _ fits) (subs_plain ss t (and_second (sub_fits s) _ fits) u)

cmd_plain : (c : Cmd) → cmd_fits c ≡ true → IsPlain (cmd_text c)
cmd_plain (plain s) fits = simple_plain s fits
cmd_plain (execute ss s) fits =
    let rest = and_second (may_run ss s) (subs_fit ss && simple_fits s) fits in
    joined (codes "execute ") _ (fixed _ refl) (subs_plain ss (simple_text s) (and_first _ _ rest) (simple_plain s (and_second (subs_fit ss) _ rest)))

-- patterns
literal_plain : (l : Text) → is_literal l ≡ true → IsPlain l
literal_plain [] fits = nil_plain
literal_plain (b ∷ l) fits = plain_by is_literal_byte literal_byte_plain (b ∷ l) fits

holes_plain : (ps : List PatternPart) → parts_fit ps ≡ true → IsPlain (pattern_parts_text ps)
holes_plain [] fits = nil_plain
holes_plain (literal l ∷ ps) fits =
    let rest = and_second (is_literal l) (begins_with_hole ps && parts_fit ps) fits in
    joined l (pattern_parts_text ps) (literal_plain l (and_first _ _ fits)) (holes_plain ps (and_second (begins_with_hole ps) _ rest))
holes_plain (hole n ∷ ps) fits =
    behind 36 _ refl (behind 40 _ refl (joined n (41 ∷ pattern_parts_text ps) (key_plain n (and_first _ _ fits)) (behind 41 _ refl (holes_plain ps (and_second (is_key n) _ fits)))))

pattern_plain : (ps : List PatternPart) → pattern_fits ps ≡ true → IsPlain (patterns.text ps)
pattern_plain [] fits = absurd cc
pattern_plain (hole n ∷ ps) fits = absurd cc
pattern_plain (literal l ∷ []) fits = absurd cc
pattern_plain (literal l ∷ p ∷ ps) fits = behind 36 _ refl (holes_plain (literal l ∷ p ∷ ps) (and_second (has_word l) _ fits))

-- lines
plain_low : (b : ℕ) → is_plain b ≡ true → is_low b ≡ true
plain_low b h = grind (arith, nat_tests)

plain_utf8 : (w : Text) → IsPlain w → IsUtf8 w
plain_utf8 w h = IsUtf8-from_ascii w (low_ascii w (all_low is_plain plain_low w h.passes))

says_utf8 : (t : Text) (l : Line) → Says t l → IsUtf8 t
unfolding is_comment
says_utf8 _ _ says_nothing = IsUtf8-nil
says_utf8 _ _ (says_comment t c few) = IsUtf8-append (35 ∷ []) t (plain_utf8 (35 ∷ []) (fixed (35 ∷ []) refl)) (IsUtf8-from_is_utf8 t (and_first (is_utf8 t) _ c))
says_utf8 _ _ (says_command t c is fits few) = subst IsUtf8 (sym is) (plain_utf8 (cmd_text c) (cmd_plain c fits))
says_utf8 _ _ (says_pattern t ps is fits few) = subst IsUtf8 (sym is) (plain_utf8 (patterns.text ps) (pattern_plain ps fits))

says_unbroken : (t : Text) (l : Line) → Says t l → lacks 10 t ≡ true
unfolding is_comment
says_unbroken _ _ says_nothing = refl
says_unbroken _ _ (says_comment t c few) = all_lack (λ b. not (nat_eq b 10)) 10 refl t (and_second (is_utf8 t) _ c)
says_unbroken _ _ (says_command t c is fits few) = ap (lacks 10) is ∙ all_lack is_plain 10 refl (cmd_text c) (cmd_plain c fits).passes
says_unbroken _ _ (says_pattern t ps is fits few) = ap (lacks 10) is ∙ all_lack is_plain 10 refl (patterns.text ps) (pattern_plain ps fits).passes

said_by : (P : Text → Type 0) → ((t : Text) (l : Line) → Says t l → P t) → (t : Text) → IsSome (line_said t) → P t
said_by P f t some = go (line_said t) refl some
  where
    go : (o : Option Line) → line_said t ≡ o → is_some o ≡ true → P t
    go None e h = absurd cc
    go (Some l) e h = f t l (line_reader.says t l e)

pub line_utf8 : (t : Text) → IsSome (line_said t) → IsUtf8 t
line_utf8 t some = said_by IsUtf8 says_utf8 t some

pub line_unbroken : (t : Text) → IsSome (line_said t) → lacks 10 t ≡ true
line_unbroken t some = said_by (λ u. lacks 10 u ≡ true) says_unbroken t some

pub lines_unbroken : (ts : Texts) → are_lines ts ≡ true → list_all (lacks 10) ts ≡ true
lines_unbroken [] h = refl
lines_unbroken (t ∷ ts) h = and_both _ _ (line_unbroken t (and_first _ _ h)) (lines_unbroken ts (and_second (is_some (line_said t)) _ h))
