-- The lines that a compound fills: what they are filled to is the lines of steps.
use Rattle.std.proofs.Common.{◌≡◌, ℕ, suc, ◌+◌, ◌*◌, ◌≤◌, ◌<◌, List, [], ◌∷◌, ◌++◌, length, Bool, true, false, Some, refl, sym, ap, ◌∙◌, subst, arith, append_assoc, append-nil}
use Rattle.std.specs.Prelude.{ℤ, pos, ◌&&◌, ◌||◌, not, nat_le, codes, map, if◌then◌else◌, option_and_then}
use Rattle.std.specs.List.{list_all}
use Rattle.std.specs.Fmt.{signed_decimal}
use Rattle.std.proofs.lemmas.Bool.{le-leb, leb-true, lt-ltb}
use Rattle.std.proofs.lemmas.Fmt.{decimal_digit}
use Rattle.mc_nbt.specs.Word.{is_key, is_int}
use Rattle.mc_nbt.specs.Path.{is_part}
use Rattle.mc_nbt.specs.Spelling.{tree_text}
use Rattle.mc_nbt.specs.Tree.{Tree, Fields, int, compound, compound_of, find, Part, key, place}
use Rattle.mc_cmd.specs.Form.{Text, lacks}
use Rattle.mc_cmd.specs.Word.{is_namespace, is_holder, is_natural, op_text, cmp_text}
use Rattle.mc_cmd.specs.Value.{path_text, parts_text}
use Rattle.mc_cmd.specs.Pattern.{is_literal_byte, has_word, parts_text as pattern_parts}
use Rattle.mc_cmd.specs.Command.{Op, score_get, score_set, score_op, data_get, set_from, set_value, Simple, Sub, if_test, unless_test, store_score, store_data, Test, scores_compare, score_matches, path_selects, Cmd, Cmp, less, less_equal, equal, greater_equal, greater}
use Rattle.mc_cmd.specs.Grammar.{simple_text, sub_text, subs_text, test_text, cmd_text, cmd_fits, most, line_said, commands}
use Rattle.mc_cmd.specs.Fill.{value_of, plain_text}
use Rattle.std.specs.Str.{bytes_eq}
use Rattle.mc_nbt.proofs.TreeLemmas.{bytes_refl, of_fields-fields}
use Rattle.mc_cmd.specs.steps.OpenText.{Chunk, still, named, Ints, chunks_text, pattern_from, pattern_of, macro_text, Gives, chunks_fit, has_name, Open, OpenPart, step, place_of, path_with}
use Rattle.mc_cmd.specs.steps.MacroBody.{macro_fits, room, in_range, BodyLine, opened, closed, line_with, body_line, body_text, body_with, cmds_text, Fillable, LineReady, AllReady}
use Rattle.mc_cmd.specs.Tidy.{parts_by, text_by, says_tidy, is_tidy_by, is_tidy, Tidy}
use Rattle.mc_cmd.proofs.FormLemmas.{and_first, and_second, and_both}
use Rattle.mc_cmd.proofs.WordLemmas.{lacks-append}
use Rattle.mc_cmd.proofs.OpenLemmas.{chunks-append}
use Rattle.mc_cmd.proofs.MacroLemmas.{open_said as open_is_said}
use Rattle.mc_cmd.proofs.ChunkLemmas.{IsChunk, fixed_chunk, joined_chunk, wider, namespace_chunk, holder_chunk, key_chunk, op_chunk, range_chunk, parts_chunk, path_chunk, path_fits}
use Rattle.cc_line.specs.Sight.{Store, in_io, in_memory, in_rest, store_id}
use Rattle.cc_line.specs.Place.{place_name, Home, in_score, in_list, home, spot_name}
use Rattle.cc_line.specs.Key.{key_frame, key_list, is_stem}
use Rattle.cc_line.specs.State.{site_path}
use Rattle.cc_line.specs.Step.{in_range as in_range_check, compare, stands, Cond, holds, fails, run_act, when, Said, says, storing, site_id, home_to_site, site_to_home, act_said, cond_sub, cond_subs, said_command, step_command, step_text, steps_texts}
use Rattle.cc_line.specs.Fit.{place_fits, scratch_fits, spot_fits, tree_fits, is_swap, cond_fits, conds_fit, act_fits, site_fits, step_fits, steps_fit}
use Rattle.cc_line.specs.OpenStep.{OpenSite, OpenAct, open_set_spot, open_combine, open_load_site, open_keep_site, open_place_to_site, open_site_to_place, open_set_site, open_copy_site, OpenStep, closed_step, open_act, open_when, site_with, act_with, step_with, steps_with, NamedInt, an_int, a_natural, told_name, told_fits, part_names, act_names, step_names, steps_names, HasInts, int_in, ints_in, parts_chunks, path_chunks, space_chunk, OpenSaid, slot_site, place_chunks, within_chunks, from_chunks, get_chunks, sub_chunks, keep_chunks, open_home_to_site, open_site_to_home, open_said, front_chunks, said_chunks, cond_chunks, when_chunks, open_text, open_texts, open_parts_fit, open_site_fits, has_place, is_open, open_act_fits, open_step_fits, open_steps_fit}
use Rattle.cc_line.proofs.FitLemmas.{Clean, word, joined, wide, op_clean, namespace_clean, store_clean, holder_clean, key_clean, path_clean, spot_holder, place_holder, holder_of_scratch as holder_of, HomeFits, Fitting, step_fitting, cond_clean, fitting_speaks, fitting_tidy}
use Rattle.cc_line.proofs.ScaleLemmas.{natural_is_int, stem_holder, scale_fits}

-- ---- what open texts are filled to

parts_joined : (p : Part) (ps : List Part) → parts_text (p ∷ []) ++ parts_text ps ≡ parts_text (p ∷ ps)
parts_joined (key k) ps = ap (λ t. 46 ∷ t) (append_assoc k [] (parts_text ps))
parts_joined (place i) ps = ap (λ t. 91 ∷ t) (append_assoc (signed_decimal i) (93 ∷ []) (parts_text ps))

parts_spelled : (r : Ints) (ps : List OpenPart) → chunks_text r (parts_chunks ps) ≡ parts_text (path_with r ps)
parts_spelled r [] = refl
parts_spelled r (step p ∷ ps) = ap (λ t. parts_text (p ∷ []) ++ t) (parts_spelled r ps) ∙ parts_joined p (path_with r ps)
parts_spelled r (place_of n ∷ ps) = ap (λ t. 91 ∷ (signed_decimal (r n) ++ (93 ∷ t))) (parts_spelled r ps)

path_spelled : (r : Ints) (p : OpenSite) → chunks_text r (path_chunks p) ≡ path_text (site_path (site_with r p))
path_spelled r p = ap (λ t. p.name ++ t) (parts_spelled r p.parts)

-- a sub-command before what follows it
test_front : (c : Test) (t : Text) → test_text c [] ++ t ≡ test_text c t
test_front (scores_compare h o c i q) t = simp append_assoc refl
test_front (score_matches h o r) t = simp append_assoc refl
test_front (path_selects i ps) t = simp append_assoc refl

sub_front : (s : Sub) (t : Text) → sub_text s [] ++ t ≡ sub_text s t
sub_front (if_test c) t = ap (λ u. codes "if " ++ u) (test_front c t)
sub_front (unless_test c) t = ap (λ u. codes "unless " ++ u) (test_front c t)
sub_front (store_score h o) t = simp append_assoc refl
sub_front (store_data i ps) t = simp append_assoc refl

-- an open command spells a command with these ints
pub record Spelled (d : OpenSaid) (s : Said) (r : Ints) : Type 0 where
  pub front : chunks_text r (front_chunks d.stores d.simple) ≡ subs_text s.stores (simple_text s.simple)
  pub whole : chunks_text r (said_chunks d) ≡ cmd_text (said_command s)

plain_spelled : (qs : List Chunk) (s : Simple) (r : Ints) → chunks_text r qs ≡ simple_text s → Spelled (record { stores = []; simple = qs }) (says s) r
plain_spelled qs s r e = record { front = ap (λ t. codes "run " ++ t) e; whole = e }

store_spelled : (c qs : List Chunk) (u : Sub) (s : Simple) (r : Ints) → ((t : Text) → chunks_text r c ++ t ≡ sub_text u t) → chunks_text r qs ≡ simple_text s → Spelled (record { stores = c ∷ []; simple = qs }) (storing u s) r
store_spelled c qs u s r f e =
    let x : chunks_text r (c ++ (still (codes "run ") ∷ qs)) ≡ sub_text u (codes "run " ++ simple_text s)
    = chunks-append r c (still (codes "run ") ∷ qs) ∙ f (codes "run " ++ chunks_text r qs) ∙ ap (λ t. sub_text u (codes "run " ++ t)) e in
    record { front = x; whole = ap (λ t. codes "execute " ++ t) x }

module _ (ns : Text) (r : Ints) where
  sub_spelled : (u : Sub) (t : Text) → chunks_text r (sub_chunks ns u) ++ t ≡ sub_text u t
  sub_spelled u t = ap (λ x. x ++ t) (append-nil (sub_text u [])) ∙ sub_front u t

  place_spelled : (p : OpenSite) → chunks_text r (place_chunks ns p) ≡ store_id ns p.store ++ (32 ∷ path_text (site_path (site_with r p)))
  place_spelled p = ap (λ t. store_id ns p.store ++ (32 ∷ t)) (path_spelled r p)

  within_spelled : (v u : Text) (p : OpenSite) (t : Text) → chunks_text r (within_chunks ns v u p) ++ t ≡ v ++ (store_id ns p.store ++ (32 ∷ (path_text (site_path (site_with r p)) ++ (32 ∷ (u ++ t)))))
  within_spelled v u p t =
      append_assoc v _ t
      ∙ ap (λ x. v ++ x)
      (ap (λ x. x ++ t) (chunks-append r (still (store_id ns p.store) ∷ (space_chunk ∷ (path_chunks p ++ (space_chunk ∷ [])))) (still u ∷ []))
      ∙ ap (λ x. ((store_id ns p.store ++ (32 ∷ x)) ++ (u ++ [])) ++ t) (chunks-append r (path_chunks p) (space_chunk ∷ []) ∙ ap (λ y. y ++ (32 ∷ [])) (path_spelled r p))
      ∙ ends (store_id ns p.store) (path_text (site_path (site_with r p))))
    where
      ends : (i x : Text) → ((i ++ (32 ∷ (x ++ (32 ∷ [])))) ++ (u ++ [])) ++ t ≡ i ++ (32 ∷ (x ++ (32 ∷ (u ++ t))))
      ends i x = simp (append_assoc, append-nil) refl

  get_spelled : (p : OpenSite) → chunks_text r (get_chunks ns p) ≡ simple_text (data_get (site_id ns (site_with r p)) (site_path (site_with r p)))
  get_spelled p = ap (λ t. codes "data get storage " ++ t) (place_spelled p)

  keep_spelled : (p : OpenSite) (t : Text) → chunks_text r (keep_chunks ns p) ++ t ≡ sub_text (store_data (site_id ns (site_with r p)) (site_path (site_with r p))) t
  keep_spelled p t = within_spelled (codes "store result storage ") (codes "int 1 ") p t

  from_spelled : (p q : OpenSite) → chunks_text r (from_chunks ns p q) ≡ simple_text (set_from (site_id ns (site_with r p)) (site_path (site_with r p)) (site_id ns (site_with r q)) (site_path (site_with r q)))
  from_spelled p q =
      chunks-append r (within_chunks ns (codes "data modify storage ") (codes "set from storage ") p) (place_chunks ns q)
      ∙ within_spelled (codes "data modify storage ") (codes "set from storage ") p (chunks_text r (place_chunks ns q))
      ∙ ap (λ t. codes "data modify storage " ++ (store_id ns p.store ++ (32 ∷ (path_text (site_path (site_with r p)) ++ (32 ∷ (codes "set from storage " ++ t)))))) (place_spelled q)

  score_spelled : (h : Text) → chunks_text r (still (simple_text (score_get h ns)) ∷ []) ≡ simple_text (score_get h ns)
  score_spelled h = append-nil (simple_text (score_get h ns))

  to_site_spelled : (p : OpenSite) (q : Home) → Spelled (open_home_to_site ns p q) (home_to_site ns (site_with r p) q) r
  to_site_spelled p (in_score i) = store_spelled (keep_chunks ns p) _ (store_data (site_id ns (site_with r p)) (site_path (site_with r p))) (score_get (place_name i) ns) r (keep_spelled p) (score_spelled (place_name i))
  to_site_spelled p (in_list k) = plain_spelled (from_chunks ns p (slot_site k)) _ r (from_spelled p (slot_site k))

  from_site_spelled : (q : Home) (p : OpenSite) → Spelled (open_site_to_home ns q p) (site_to_home ns q (site_with r p)) r
  from_site_spelled (in_score i) p = store_spelled _ (get_chunks ns p) (store_score (place_name i) ns) _ r (sub_spelled (store_score (place_name i) ns)) (get_spelled p)
  from_site_spelled (in_list k) p = plain_spelled (from_chunks ns (slot_site k) p) _ r (from_spelled (slot_site k) p)

  pub act_spelled : (a : OpenAct) → Spelled (open_said ns a) (act_said ns (act_with r a)) r
  act_spelled (open_set_spot x n) = plain_spelled _ (score_set (spot_name x) ns (r n)) r (ap (λ t. codes "scoreboard players set " ++ (spot_name x ++ (32 ∷ (ns ++ (32 ∷ t))))) (append-nil (signed_decimal (r n))))
  act_spelled (open_combine x op h n) = plain_spelled _ (score_op (spot_name x) ns op (h ++ signed_decimal (r n)) ns) r
      (ap (λ t. codes "scoreboard players operation " ++ (spot_name x ++ (32 ∷ (ns ++ (32 ∷ (op_text op ++ (32 ∷ t)))))))
      (ap (λ t. h ++ (signed_decimal (r n) ++ (32 ∷ t))) (append-nil ns) ∙ sym (append_assoc h (signed_decimal (r n)) (32 ∷ ns))))
  act_spelled (open_load_site h p) = store_spelled _ (get_chunks ns p) (store_score h ns) _ r (sub_spelled (store_score h ns)) (get_spelled p)
  act_spelled (open_keep_site p h) = store_spelled (keep_chunks ns p) _ (store_data (site_id ns (site_with r p)) (site_path (site_with r p))) (score_get h ns) r (keep_spelled p) (score_spelled h)
  act_spelled (open_place_to_site p i) = to_site_spelled p (home i)
  act_spelled (open_site_to_place i p) = from_site_spelled (home i) p
  act_spelled (open_set_site p t) = plain_spelled _ (set_value (site_id ns (site_with r p)) (site_path (site_with r p)) t) r
      (chunks-append r (within_chunks ns (codes "data modify storage ") (codes "set value ") p) (still (tree_text t) ∷ [])
      ∙ within_spelled (codes "data modify storage ") (codes "set value ") p (tree_text t ++ [])
      ∙ ap (λ y. codes "data modify storage " ++ (store_id ns p.store ++ (32 ∷ (path_text (site_path (site_with r p)) ++ (32 ∷ (codes "set value " ++ y)))))) (append-nil (tree_text t)))
  act_spelled (open_copy_site p q) = plain_spelled (from_chunks ns p q) _ r (from_spelled p q)

  conds_spelled : (cs : List Cond) (d : OpenSaid) (s : Said) → Spelled d s r → chunks_text r (front_chunks (cond_chunks ns cs ++ d.stores) d.simple) ≡ subs_text (cond_subs ns cs ++ s.stores) (simple_text s.simple)
  conds_spelled [] d s e = e.front
  conds_spelled (c ∷ cs) d s e =
      ap (λ x. x ++ chunks_text r (front_chunks (cond_chunks ns cs ++ d.stores) d.simple)) refl ∙ sub_front (cond_sub ns c) (chunks_text r (front_chunks (cond_chunks ns cs ++ d.stores) d.simple))
      ∙ ap (sub_text (cond_sub ns c)) (conds_spelled cs d s e)

  pub when_spelled : (cs : List Cond) (a : OpenAct) → chunks_text r (when_chunks ns cs (open_said ns a)) ≡ cmd_text (step_command ns (when cs (act_with r a)))
  when_spelled cs a = ap (λ t. codes "execute " ++ t) (conds_spelled cs (open_said ns a) (act_said ns (act_with r a)) (act_spelled a))

-- ---- open texts that fit, how long they may get, and that they have no quotation mark

abbrev chunks_bare : List Chunk → Bool
chunks_bare [] = true
chunks_bare (still l ∷ cs) = lacks 34 l && chunks_bare cs
chunks_bare (named n ∷ cs) = lacks 34 n && chunks_bare cs

record IsOpen (k : ℕ) (cs : List Chunk) : Type 0 where
  fit : chunks_fit cs ≡ true
  short : room cs ≤ k
  bare : chunks_bare cs ≡ true

still_open : {k : ℕ} {t : Text} → IsChunk k t → lacks 34 t ≡ true → IsOpen (k + 1) (still t ∷ [])
still_open {k = k} {t = t} p b = record { fit = and_both _ _ p.plain refl; short = let x = p.short in omega arith; bare = and_both _ _ b refl }

fit_append : (ps qs : List Chunk) → chunks_fit ps ≡ true → chunks_fit qs ≡ true → chunks_fit (ps ++ qs) ≡ true
fit_append [] qs f g = g
fit_append (still l ∷ ps) qs f g = and_both _ _ (and_first _ _ f) (fit_append ps qs (and_second (list_all is_literal_byte l) _ f) g)
fit_append (named n ∷ ps) qs f g = and_both _ _ (and_first _ _ f) (fit_append ps qs (and_second (is_key n) _ f) g)

bare_append : (ps qs : List Chunk) → chunks_bare ps ≡ true → chunks_bare qs ≡ true → chunks_bare (ps ++ qs) ≡ true
bare_append [] qs f g = g
bare_append (still l ∷ ps) qs f g = and_both _ _ (and_first _ _ f) (bare_append ps qs (and_second (lacks 34 l) _ f) g)
bare_append (named n ∷ ps) qs f g = and_both _ _ (and_first _ _ f) (bare_append ps qs (and_second (lacks 34 n) _ f) g)

room_append : (ps qs : List Chunk) → suc (room (ps ++ qs)) ≡ room ps + room qs
room_append [] qs = omega arith
room_append (still l ∷ ps) qs = let a = room_append ps qs in omega arith
room_append (named n ∷ ps) qs = let a = room_append ps qs in omega arith

joined_open : {j k : ℕ} {a b : List Chunk} → IsOpen j a → IsOpen k b → IsOpen (j + k) (a ++ b)
joined_open {j = j} {k = k} {a = a} {b = b} p q = record {
  fit = fit_append a b p.fit q.fit;
  short = let x = p.short in let y = q.short in let z = room_append a b in omega arith;
  bare = bare_append a b p.bare q.bare;
}

wide_open : {j k : ℕ} {cs : List Chunk} → IsOpen j cs → j ≤ k → IsOpen k cs
wide_open {j = j} {k = k} {cs = cs} p le = record { fit = p.fit; short = let x = p.short in omega arith; bare = p.bare }

words : (t : Text) → list_all is_literal_byte t ≡ true → lacks 34 t ≡ true → IsOpen (length t + 1) (still t ∷ [])
words t h b = still_open (fixed_chunk t h) b

named_open : (n : Text) → is_key n ≡ true → IsOpen 41 (named n ∷ [])
named_open n h = record { fit = and_both _ _ h refl; short = omega arith; bare = and_both _ _ (key_clean n h).bare refl }

pub key_list_is : is_key key_list ≡ true
unfolding is_key
key_list_is = refl

part_open : (p : Part) → is_part p ≡ true → IsOpen 34 (still (parts_text (p ∷ [])) ∷ [])
part_open p h = still_open {k = 33} (wider (parts_chunk (p ∷ []) (and_both (is_part p) true h refl)) (omega arith)) (bare p h)
  where
    bare : (p : Part) → is_part p ≡ true → lacks 34 (parts_text (p ∷ [])) ≡ true
    bare (key k) h = lacks-append 34 k [] (key_clean k h).bare refl
    bare (place i) h = lacks-append 34 (signed_decimal i) (93 ∷ []) (Rattle.cc_line.proofs.FitLemmas.number_clean i h).bare refl

parts_open : (ps : List OpenPart) → open_parts_fit ps ≡ true → IsOpen (45 * length ps + 1) (parts_chunks ps)
parts_open [] h = record { fit = refl; short = omega arith; bare = refl }
parts_open (step p ∷ ps) h =
    let i : IsOpen (45 * length ps + 1) (parts_chunks ps) = parts_open ps (and_second (is_part p) _ h) in
    wide_open (joined_open (part_open p (and_first _ _ h)) i) (omega arith)
parts_open (place_of n ∷ ps) h =
    let i : IsOpen (45 * length ps + 1) (parts_chunks ps) = parts_open ps (and_second (is_key n) _ h) in
    wide_open (joined_open (words (91 ∷ []) refl refl) (joined_open (named_open n (and_first _ _ h)) (joined_open (words (93 ∷ []) refl refl) i))) (omega arith)

path_open : (p : OpenSite) → open_site_fits p ≡ true → IsOpen 720 (path_chunks p)
path_open p h =
    let g = and_second (is_key p.name) _ h in
    let e = and_second (open_parts_fit p.parts) _ g in
    let n : length p.parts ≤ 15 = leb-true (length p.parts) 15 (and_first _ _ e) in
    wide_open (joined_open (still_open (key_chunk p.name (and_first _ _ h)) (key_clean p.name (and_first _ _ h)).bare) (parts_open p.parts (and_first _ _ g))) (omega arith)

space_open : IsOpen 2 (space_chunk ∷ [])
space_open = words (codes " ") refl refl

-- ---- names in open texts

has_append : (ps qs : List Chunk) → has_name (ps ++ qs) ≡ has_name ps || has_name qs
has_append [] qs = refl
has_append (still l ∷ ps) qs = has_append ps qs
has_append (named n ∷ ps) qs = refl

or_right : (a b : Bool) → b ≡ true → a || b ≡ true
or_right true b h = refl
or_right false b h = h

or_left : (a b : Bool) → a ≡ true → a || b ≡ true
or_left true b h = refl
or_left false b h = absurd cc

has_back : (ps qs : List Chunk) → has_name qs ≡ true → has_name (ps ++ qs) ≡ true
has_back ps qs h = has_append ps qs ∙ or_right (has_name ps) (has_name qs) h

has_front : (ps qs : List Chunk) → has_name ps ≡ true → has_name (ps ++ qs) ≡ true
has_front ps qs h = has_append ps qs ∙ or_left (has_name ps) (has_name qs) h

has_parts_name : (ps : List OpenPart) → has_place ps ≡ true → has_name (parts_chunks ps) ≡ true
has_parts_name [] h = absurd cc
has_parts_name (step p ∷ ps) h = has_parts_name ps h
has_parts_name (place_of n ∷ ps) h = refl

-- ---- what a compound gives for an open text, with ints in their range

abbrev Given : Tree → Ints → List Chunk → Type 0
Given v r cs = Gives v r cs × (in_range r cs ≡ true)

given_append : (v : Tree) (r : Ints) (ps qs : List Chunk) → Given v r ps → Given v r qs → Given v r (ps ++ qs)
given_append v r [] qs a b = b
given_append v r (still l ∷ ps) qs a b = given_append v r ps qs a b
given_append v r (named n ∷ ps) qs a b =
    let i = given_append v r ps qs (a.0.1, and_second (is_int (r n)) _ a.1) b in
    ((a.0.0, i.0), and_both (is_int (r n)) _ (and_first _ _ a.1) i.1)

-- a number from 0 up may be told under each name
pub natural_told : (m : NamedInt) (z : ℤ) → is_natural z ≡ true → told_fits m z ≡ true
natural_told (an_int n) z f = natural_is_int z f
natural_told (a_natural n) z f = f

-- a named int in range
abbrev NameGiven : Tree → Ints → NamedInt → Type 0
NameGiven v r n = (value_of v (told_name n) ≡ Some (signed_decimal (r (told_name n)))) × (told_fits n (r (told_name n)) ≡ true)

abbrev NamesGiven : Tree → Ints → List NamedInt → Type 0
NamesGiven v r [] = Unit {0}
NamesGiven v r (n ∷ ns) = NameGiven v r n × NamesGiven v r ns

names_front : (v : Tree) (r : Ints) (ms ns : List NamedInt) → NamesGiven v r (ms ++ ns) → NamesGiven v r ms
names_front v r [] ns g = tt
names_front v r (m ∷ ms) ns g = (g.0, names_front v r ms ns g.1)

names_back : (v : Tree) (r : Ints) (ms ns : List NamedInt) → NamesGiven v r (ms ++ ns) → NamesGiven v r ns
names_back v r [] ns g = g
names_back v r (m ∷ ms) ns g = names_back v r ms ns g.1

pub names_given : (fs : Fields) (ns : List NamedInt) → HasInts fs ns → NamesGiven (compound fs) (ints_in (Some (compound fs))) ns
names_given fs [] h = tt
names_given fs (n ∷ ns) h =
    let e : ints_in (Some (compound fs)) (told_name n) ≡ h.0 = ap int_in h.1 in
    ((ap (option_and_then plain_text) h.1 ∙ ap (λ z. Some (signed_decimal z)) (sym e), ap (told_fits n) e ∙ h.2), names_given fs ns h.3)

-- the ints of all names are in their range
abbrev pub AllIn : Ints → List NamedInt → Type 0
AllIn r [] = Unit {0}
AllIn r (m ∷ ms) = (told_fits m (r (told_name m)) ≡ true) × AllIn r ms

given_parts : (v : Tree) (r : Ints) (ps : List OpenPart) → NamesGiven v r (part_names ps) → Given v r (parts_chunks ps)
given_parts v r [] g = (tt, refl)
given_parts v r (step p ∷ ps) g = given_parts v r ps g
given_parts v r (place_of n ∷ ps) g = let i = given_parts v r ps g.1 in ((g.0.0, i.0), and_both (is_int (r n)) _ g.0.1 i.1)

-- ---- an open command: its text fits, names something, and is given

-- what is known of what stands behind its first word; the command is plain, or an `execute`
record Opens (v : Tree) (r : Ints) (d : OpenSaid) : Type 0 where
  front : IsOpen 405000 (front_chunks d.stores d.simple)
  named' : has_name (front_chunks d.stores d.simple) ≡ true
  given : Given v r (front_chunks d.stores d.simple)
  fits : macro_fits (said_chunks d) ≡ true
  short : room (said_chunks d) ≤ 410000
  bare : chunks_bare (said_chunks d) ≡ true
  given' : Given v r (said_chunks d)

plain_opens : (v : Tree) (r : Ints) (w : Text) (rest : List Chunk) → has_word w ≡ true → IsOpen 100 (still w ∷ []) → IsOpen 404000 rest → has_name rest ≡ true → Given v r rest → Opens v r (record { stores = []; simple = still w ∷ rest })
plain_opens v r w rest hw ow o hn g =
    let whole : IsOpen 404100 (still w ∷ rest) = wide_open (joined_open ow o) (omega arith) in record {
      front = wide_open (joined_open (words (codes "run ") refl refl) whole) (omega arith);
      named' = hn;
      given = g;
      fits = and_both _ _ hw (and_both _ _ (and_first _ _ ow.fit) (and_both _ _ o.fit hn));
      short = let x = whole.short in omega arith;
      bare = whole.bare;
      given' = g;
    }

store_opens : (v : Tree) (r : Ints) (c qs : List Chunk) → IsOpen 1000 c → IsOpen 1000 qs → has_name (c ++ (still (codes "run ") ∷ qs)) ≡ true → Given v r c → Given v r qs → Opens v r (record { stores = c ∷ []; simple = qs })
store_opens v r c qs oc oq hn gc gq =
    let f : IsOpen 2100 (c ++ (still (codes "run ") ∷ qs)) = wide_open (joined_open oc (joined_open (words (codes "run ") refl refl) oq)) (omega arith) in
    let w : IsOpen 2200 (still (codes "execute ") ∷ (c ++ (still (codes "run ") ∷ qs))) = wide_open (joined_open (words (codes "execute ") refl refl) f) (omega arith) in
    let g : Given v r (c ++ (still (codes "run ") ∷ qs)) = given_append v r c (still (codes "run ") ∷ qs) gc gq in record {
      front = wide_open f (omega arith);
      named' = hn;
      given = g;
      fits = and_both _ _ f.fit hn;
      short = let x = w.short in omega arith;
      bare = w.bare;
      given' = g;
    }

cmp_chunk : (c : Cmp) → IsChunk 2 (cmp_text c)
cmp_chunk less = wider (fixed_chunk (cmp_text less) refl) (omega arith)
cmp_chunk less_equal = wider (fixed_chunk (cmp_text less_equal) refl) (omega arith)
cmp_chunk equal = wider (fixed_chunk (cmp_text equal) refl) (omega arith)
cmp_chunk greater_equal = wider (fixed_chunk (cmp_text greater_equal) refl) (omega arith)
cmp_chunk greater = wider (fixed_chunk (cmp_text greater) refl) (omega arith)

module _ (ns : Text) (h : is_namespace ns ≡ true) where
  id_chunk : (s : Store) → IsChunk 19 (store_id ns s)
  id_chunk in_io = joined_chunk (namespace_chunk ns h) (fixed_chunk (codes ":io") refl)
  id_chunk in_memory = wider (joined_chunk (namespace_chunk ns h) (fixed_chunk (codes ":m") refl)) (omega arith)
  id_chunk in_rest = wider (joined_chunk (namespace_chunk ns h) (fixed_chunk (codes ":c") refl)) (omega arith)

  id_open : (s : Store) → IsOpen 20 (still (store_id ns s) ∷ [])
  id_open s = still_open (id_chunk s) (store_clean ns s h).bare

  op_open : (op : Op) → IsOpen 3 (still (op_text op) ∷ [])
  op_open op = still_open (op_chunk op) (op_clean op).bare

  space : IsChunk 1 (codes " ")
  space = fixed_chunk (codes " ") refl

  ns_open : IsOpen 17 (still ns ∷ [])
  ns_open = still_open (namespace_chunk ns h) (namespace_clean ns h).bare

  holder_open : (w : Text) → is_holder w ≡ true → IsOpen 42 (still w ∷ [])
  holder_open w f = still_open (holder_chunk w f) (holder_clean w f).bare

  place_open : (p : OpenSite) → open_site_fits p ≡ true → IsOpen 750 (place_chunks ns p)
  place_open p f = wide_open (joined_open (id_open p.store) (joined_open space_open (path_open p f))) (omega arith)

  within_rest_open : (u : Text) (p : OpenSite) → IsOpen 40 (still u ∷ []) → open_site_fits p ≡ true → IsOpen 800 ((still (store_id ns p.store) ∷ (space_chunk ∷ (path_chunks p ++ (space_chunk ∷ [])))) ++ (still u ∷ []))
  within_rest_open u p o f = wide_open (joined_open (joined_open (id_open p.store) (joined_open space_open (joined_open (path_open p f) space_open))) o) (omega arith)

  keep_open : (p : OpenSite) → open_site_fits p ≡ true → IsOpen 1000 (keep_chunks ns p)
  keep_open p f = wide_open (joined_open (words (codes "store result storage ") refl refl) (within_rest_open (codes "int 1 ") p (wide_open (words (codes "int 1 ") refl refl) (omega arith)) f)) (omega arith)

  get_open : (p : OpenSite) → open_site_fits p ≡ true → IsOpen 1000 (get_chunks ns p)
  get_open p f = wide_open (joined_open (words (codes "data get storage ") refl refl) (place_open p f)) (omega arith)

  score_chunk : (w : Text) → is_holder w ≡ true → IsChunk 100 (simple_text (score_get w ns))
  score_chunk w f = wider (joined_chunk (fixed_chunk (codes "scoreboard players get ") refl) (joined_chunk (holder_chunk w f) (joined_chunk space (namespace_chunk ns h)))) (omega arith)

  score_open : (w : Text) → is_holder w ≡ true → IsOpen 1000 (still (simple_text (score_get w ns)) ∷ [])
  score_open w f = wide_open (still_open {k = 100} (score_chunk w f) (Rattle.cc_line.proofs.FitLemmas.score_clean ns h w f).bare) (omega arith)

  stored_score_open : (w : Text) → is_holder w ≡ true → IsOpen 1000 (sub_chunks ns (store_score w ns))
  stored_score_open w f =
      let c : Clean 100 (sub_text (store_score w ns) []) = wide (joined (word (codes "store result score ") refl) (joined (holder_clean w f) (joined (word (codes " ") refl) (joined (namespace_clean ns h) (word (codes " ") refl))))) (omega arith) in
      let i : IsChunk 100 (sub_text (store_score w ns) []) = wider (joined_chunk (fixed_chunk (codes "store result score ") refl) (joined_chunk (holder_chunk w f) (joined_chunk space (joined_chunk (namespace_chunk ns h) space)))) (omega arith) in
      wide_open (still_open i c.bare) (omega arith)

  has_path : (p : OpenSite) → has_place p.parts ≡ true → has_name (path_chunks p) ≡ true
  has_path p f = has_parts_name p.parts f

  has_within : (u : Text) (p : OpenSite) → has_place p.parts ≡ true → has_name ((still (store_id ns p.store) ∷ (space_chunk ∷ (path_chunks p ++ (space_chunk ∷ [])))) ++ (still u ∷ [])) ≡ true
  has_within u p f = has_front (still (store_id ns p.store) ∷ (space_chunk ∷ (path_chunks p ++ (space_chunk ∷ [])))) (still u ∷ []) (has_front (path_chunks p) (space_chunk ∷ []) (has_path p f))

  module _ (v : Tree) (r : Ints) where
    given_path : (p : OpenSite) → NamesGiven v r (part_names p.parts) → Given v r (path_chunks p)
    given_path p g = given_parts v r p.parts g

    given_within : (u : Text) (p : OpenSite) → NamesGiven v r (part_names p.parts) → Given v r ((still (store_id ns p.store) ∷ (space_chunk ∷ (path_chunks p ++ (space_chunk ∷ [])))) ++ (still u ∷ []))
    given_within u p g = given_append v r (still (store_id ns p.store) ∷ (space_chunk ∷ (path_chunks p ++ (space_chunk ∷ [])))) (still u ∷ []) (given_append v r (path_chunks p) (space_chunk ∷ []) (given_path p g) (tt, refl)) (tt, refl)

    slot_open_fits : (k : ℕ) → k < 2147483648 → IsOpen 750 (place_chunks ns (slot_site k))
    slot_open_fits k l = wide_open (joined_open (id_open in_rest) (joined_open space_open (joined_open (words key_frame refl refl) (parts_open (step (key key_list) ∷ (step (place (pos k)) ∷ [])) (and_both (is_key key_list) _ key_list_is (and_both _ true (lt-ltb k 2147483648 l) refl)))))) (omega arith)

    -- the frame's element as an open path has no name, and needs none
    slot_given : (k : ℕ) → Given v r (path_chunks (slot_site k))
    slot_given k = (tt, refl)

    slot_path_open : (k : ℕ) → k < 2147483648 → IsOpen 720 (path_chunks (slot_site k))
    slot_path_open k l = wide_open (joined_open (words key_frame refl refl) (parts_open (step (key key_list) ∷ (step (place (pos k)) ∷ [])) (and_both (is_key key_list) _ key_list_is (and_both _ true (lt-ltb k 2147483648 l) refl)))) (omega arith)

    -- one path as another, where what stands between is known of each
    from_opens : (p q : OpenSite) → IsOpen 720 (path_chunks p) → IsOpen 720 (path_chunks q) → has_name (path_chunks p) || has_name (path_chunks q) ≡ true → Given v r (path_chunks p) → Given v r (path_chunks q) → Opens v r (record { stores = []; simple = from_chunks ns p q })
    from_opens p q op oq hn gp gq = plain_opens v r (codes "data modify storage ")
        (((still (store_id ns p.store) ∷ (space_chunk ∷ (path_chunks p ++ (space_chunk ∷ [])))) ++ (still (codes "set from storage ") ∷ [])) ++ place_chunks ns q)
        refl (wide_open (words (codes "data modify storage ") refl refl) (omega arith))
        (wide_open (joined_open (joined_open (joined_open (id_open p.store) (joined_open space_open (joined_open op space_open))) (words (codes "set from storage ") refl refl)) (joined_open (id_open q.store) (joined_open space_open oq))) (omega arith))
        (either (has_name (path_chunks p)) (has_name (path_chunks q)) hn
        (λ a. has_front ((still (store_id ns p.store) ∷ (space_chunk ∷ (path_chunks p ++ (space_chunk ∷ [])))) ++ (still (codes "set from storage ") ∷ [])) (place_chunks ns q) (has_front (still (store_id ns p.store) ∷ (space_chunk ∷ (path_chunks p ++ (space_chunk ∷ [])))) (still (codes "set from storage ") ∷ []) (has_front (path_chunks p) (space_chunk ∷ []) a)))
        (λ b. has_back ((still (store_id ns p.store) ∷ (space_chunk ∷ (path_chunks p ++ (space_chunk ∷ [])))) ++ (still (codes "set from storage ") ∷ [])) (place_chunks ns q) b))
        (given_append v r ((still (store_id ns p.store) ∷ (space_chunk ∷ (path_chunks p ++ (space_chunk ∷ [])))) ++ (still (codes "set from storage ") ∷ [])) (place_chunks ns q)
        (given_append v r (still (store_id ns p.store) ∷ (space_chunk ∷ (path_chunks p ++ (space_chunk ∷ [])))) (still (codes "set from storage ") ∷ []) (given_append v r (path_chunks p) (space_chunk ∷ []) gp (tt, refl)) (tt, refl)) gq)
      where
        either : (a b : Bool) {c : Bool} → a || b ≡ true → (a ≡ true → c ≡ true) → (b ≡ true → c ≡ true) → c ≡ true
        either true b e f g = f refl
        either false b e f g = g e

    home_index : (i : ℕ) → place_fits i ≡ true → HomeFits (home i)
    home_index i f = Rattle.cc_line.proofs.FitLemmas.home_fits ns h i f

    to_site_opens : (p : OpenSite) (q : Home) → is_open p ≡ true → HomeFits q → NamesGiven v r (part_names p.parts) → Opens v r (open_home_to_site ns p q)
    to_site_opens p (in_score i) f e g =
        let fits = and_first (open_site_fits p) (has_place p.parts) f in
        store_opens v r (keep_chunks ns p) (still (simple_text (score_get (place_name i) ns)) ∷ []) (keep_open p fits) (score_open (place_name i) (place_holder i e))
        (has_front (keep_chunks ns p) (still (codes "run ") ∷ (still (simple_text (score_get (place_name i) ns)) ∷ [])) (has_within (codes "int 1 ") p (and_second (open_site_fits p) _ f))) (given_within (codes "int 1 ") p g) (tt, refl)
    to_site_opens p (in_list k) f e g =
        from_opens p (slot_site k) (path_open p (and_first _ _ f)) (slot_path_open k e) (or_left (has_name (path_chunks p)) _ (has_path p (and_second (open_site_fits p) _ f))) (given_path p g) (slot_given k)

    from_site_opens : (q : Home) (p : OpenSite) → HomeFits q → is_open p ≡ true → NamesGiven v r (part_names p.parts) → Opens v r (open_site_to_home ns q p)
    from_site_opens (in_score i) p e f g =
        store_opens v r (sub_chunks ns (store_score (place_name i) ns)) (get_chunks ns p) (stored_score_open (place_name i) (place_holder i e)) (get_open p (and_first _ _ f)) (has_path p (and_second (open_site_fits p) _ f)) (tt, refl) (given_path p g)
    from_site_opens (in_list k) p e f g =
        from_opens (slot_site k) p (slot_path_open k e) (path_open p (and_first _ _ f)) (has_path p (and_second (open_site_fits p) _ f)) (slot_given k) (given_path p g)

    act_opens : (a : OpenAct) → open_act_fits a ≡ true → NamesGiven v r (act_names a) → Opens v r (open_said ns a)
    act_opens (open_set_spot x n) f g = plain_opens v r (codes "scoreboard players set ") (still (spot_name x) ∷ (space_chunk ∷ (still ns ∷ (space_chunk ∷ (named n ∷ []))))) refl (wide_open (words (codes "scoreboard players set ") refl refl) (omega arith))
        (wide_open (joined_open (holder_open (spot_name x) (spot_holder x (and_first _ _ f))) (joined_open space_open (joined_open ns_open (joined_open space_open (named_open n (and_second (spot_fits x) _ f)))))) (omega arith)) refl ((g.0.0, tt), and_both (is_int (r n)) true g.0.1 refl)
    act_opens (open_combine x op w n) f g =
        let e = and_second (spot_fits x) (not (is_swap op) && (is_stem w && is_key n)) f in
        let k = and_second (not (is_swap op)) (is_stem w && is_key n) e in
        plain_opens v r (codes "scoreboard players operation ") (still (spot_name x) ∷ (space_chunk ∷ (still ns ∷ (space_chunk ∷ (still (op_text op) ∷ (space_chunk ∷ (still w ∷ (named n ∷ (space_chunk ∷ (still ns ∷ [])))))))))) refl (wide_open (words (codes "scoreboard players operation ") refl refl) (omega arith))
        (wide_open (joined_open (holder_open (spot_name x) (spot_holder x (and_first _ _ f))) (joined_open space_open (joined_open ns_open (joined_open space_open (joined_open (op_open op) (joined_open space_open (joined_open (holder_open w (stem_holder w (and_first _ _ k))) (joined_open (named_open n (and_second (is_stem w) _ k)) (joined_open space_open ns_open))))))))) (omega arith))
        refl ((g.0.0, tt), and_both (is_int (r n)) true (natural_is_int (r n) g.0.1) refl)
    act_opens (open_load_site w p) f g =
        let e = and_second (scratch_fits w) _ f in
        store_opens v r (sub_chunks ns (store_score w ns)) (get_chunks ns p) (stored_score_open w (holder_of w (and_first _ _ f))) (get_open p (and_first (open_site_fits p) (has_place p.parts) e)) (has_path p (and_second (open_site_fits p) (has_place p.parts) e)) (tt, refl) (given_path p g)
    act_opens (open_keep_site p w) f g =
        let e = and_first (is_open p) (scratch_fits w) f in
        store_opens v r (keep_chunks ns p) (still (simple_text (score_get w ns)) ∷ []) (keep_open p (and_first (open_site_fits p) (has_place p.parts) e)) (score_open w (holder_of w (and_second (is_open p) _ f)))
        (has_front (keep_chunks ns p) (still (codes "run ") ∷ (still (simple_text (score_get w ns)) ∷ [])) (has_within (codes "int 1 ") p (and_second (open_site_fits p) (has_place p.parts) e))) (given_within (codes "int 1 ") p g) (tt, refl)
    act_opens (open_place_to_site p i) f g = to_site_opens p (home i) (and_first _ _ f) (home_index i (and_second (is_open p) _ f)) g
    act_opens (open_site_to_place i p) f g = from_site_opens (home i) p (home_index i (and_first _ _ f)) (and_second (place_fits i) _ f) g
    act_opens (open_set_site p t) f g =
        let e = and_first (is_open p) (tree_fits t && list_all is_literal_byte (tree_text t)) f in
        let u = and_second (is_open p) _ f in
        let c = Rattle.cc_line.proofs.FitLemmas.value_clean ns h t (and_first _ _ u) in
        let l : list_all is_literal_byte (tree_text t) ≡ true = and_second (tree_fits t) _ u in
        plain_opens v r (codes "data modify storage ") (((still (store_id ns p.store) ∷ (space_chunk ∷ (path_chunks p ++ (space_chunk ∷ [])))) ++ (still (codes "set value ") ∷ [])) ++ (still (tree_text t) ∷ [])) refl (wide_open (words (codes "data modify storage ") refl refl) (omega arith))
        (wide_open (joined_open (within_rest_open (codes "set value ") p (wide_open (words (codes "set value ") refl refl) (omega arith)) (and_first (open_site_fits p) (has_place p.parts) e)) (still_open (record { short = c.short; plain = l }) c.bare)) (omega arith))
        (has_front ((still (store_id ns p.store) ∷ (space_chunk ∷ (path_chunks p ++ (space_chunk ∷ [])))) ++ (still (codes "set value ") ∷ [])) (still (tree_text t) ∷ []) (has_within (codes "set value ") p (and_second (open_site_fits p) (has_place p.parts) e)))
        (given_append v r ((still (store_id ns p.store) ∷ (space_chunk ∷ (path_chunks p ++ (space_chunk ∷ [])))) ++ (still (codes "set value ") ∷ [])) (still (tree_text t) ∷ []) (given_within (codes "set value ") p g) (tt, refl))
    act_opens (open_copy_site p q) f g =
        let e = and_second (open_site_fits p) (open_site_fits q && (has_place p.parts || has_place q.parts)) f in
        from_opens p q (path_open p (and_first _ _ f)) (path_open q (and_first _ _ e)) (either (has_place p.parts) (has_place q.parts) (and_second (open_site_fits q) _ e)) (given_path p (names_front v r (part_names p.parts) (part_names q.parts) g)) (given_path q (names_back v r (part_names p.parts) (part_names q.parts) g))
      where
        either : (a b : Bool) → a || b ≡ true → has_name (path_chunks p) || has_name (path_chunks q) ≡ true
        either a b e = by (has_place p.parts) refl (has_place q.parts) refl
          where
            by : (x : Bool) → has_place p.parts ≡ x → (y : Bool) → has_place q.parts ≡ y → has_name (path_chunks p) || has_name (path_chunks q) ≡ true
            by true ex y ey = or_left _ _ (has_path p ex)
            by false ex true ey = or_right _ _ (has_path q ey)
            by false ex false ey = absurd (let z : true ≡ false = sym (and_second (open_site_fits q) _ (and_second (open_site_fits p) (open_site_fits q && (has_place p.parts || has_place q.parts)) f)) ∙ ap (λ c. c || has_place q.parts) ex ∙ ey in cc)

  -- ---- conditions before an open command

  cond_chunk : (c : Cond) → cond_fits c ≡ true → IsChunk 600 (sub_text (cond_sub ns c) [])
  cond_chunk (holds (in_range_check x g)) f = wider (joined_chunk (fixed_chunk (codes "if ") refl) (joined_chunk (fixed_chunk (codes "score ") refl) (joined_chunk (holder_chunk (spot_name x) (spot_holder x (and_first _ _ f))) (joined_chunk space (joined_chunk (namespace_chunk ns h) (joined_chunk space (joined_chunk (fixed_chunk (codes "matches ") refl) (joined_chunk (range_chunk g (and_second (spot_fits x) _ f)) space)))))))) (omega arith)
  cond_chunk (fails (in_range_check x g)) f = wider (joined_chunk (fixed_chunk (codes "unless ") refl) (joined_chunk (fixed_chunk (codes "score ") refl) (joined_chunk (holder_chunk (spot_name x) (spot_holder x (and_first _ _ f))) (joined_chunk space (joined_chunk (namespace_chunk ns h) (joined_chunk space (joined_chunk (fixed_chunk (codes "matches ") refl) (joined_chunk (range_chunk g (and_second (spot_fits x) _ f)) space)))))))) (omega arith)
  cond_chunk (holds (compare x p y)) f = wider (joined_chunk (fixed_chunk (codes "if ") refl) (joined_chunk (fixed_chunk (codes "score ") refl) (joined_chunk (holder_chunk (spot_name x) (spot_holder x (and_first _ _ f))) (joined_chunk space (joined_chunk (namespace_chunk ns h) (joined_chunk space (joined_chunk (cmp_chunk p) (joined_chunk space (joined_chunk (holder_chunk (spot_name y) (spot_holder y (and_second (spot_fits x) _ f))) (joined_chunk space (joined_chunk (namespace_chunk ns h) space))))))))))) (omega arith)
  cond_chunk (fails (compare x p y)) f = wider (joined_chunk (fixed_chunk (codes "unless ") refl) (joined_chunk (fixed_chunk (codes "score ") refl) (joined_chunk (holder_chunk (spot_name x) (spot_holder x (and_first _ _ f))) (joined_chunk space (joined_chunk (namespace_chunk ns h) (joined_chunk space (joined_chunk (cmp_chunk p) (joined_chunk space (joined_chunk (holder_chunk (spot_name y) (spot_holder y (and_second (spot_fits x) _ f))) (joined_chunk space (joined_chunk (namespace_chunk ns h) space))))))))))) (omega arith)
  cond_chunk (holds (stands p)) f = wider (joined_chunk (fixed_chunk (codes "if ") refl) (joined_chunk (fixed_chunk (codes "data storage ") refl) (joined_chunk (id_chunk p.store) (joined_chunk space (joined_chunk (path_chunk (site_path p) (and_first _ _ f)) space))))) (omega arith)
  cond_chunk (fails (stands p)) f = wider (joined_chunk (fixed_chunk (codes "unless ") refl) (joined_chunk (fixed_chunk (codes "data storage ") refl) (joined_chunk (id_chunk p.store) (joined_chunk space (joined_chunk (path_chunk (site_path p) (and_first _ _ f)) space))))) (omega arith)

  cond_open : (c : Cond) → cond_fits c ≡ true → IsOpen 601 (sub_chunks ns (cond_sub ns c))
  cond_open c f = still_open (cond_chunk c f) (cond_clean ns h c [] 0 f (word [] refl)).bare

  conds_open : (cs : List Cond) (d : OpenSaid) (k : ℕ) → list_all cond_fits cs ≡ true → IsOpen k (front_chunks d.stores d.simple) → IsOpen (601 * length cs + k) (front_chunks (cond_chunks ns cs ++ d.stores) d.simple)
  conds_open [] d k f o = wide_open o (omega arith)
  conds_open (c ∷ cs) d k f o = wide_open (joined_open (cond_open c (and_first _ _ f)) (conds_open cs d k (and_second (cond_fits c) _ f) o)) (omega arith)

  conds_named : (cs : List Cond) (d : OpenSaid) → has_name (front_chunks d.stores d.simple) ≡ true → has_name (front_chunks (cond_chunks ns cs ++ d.stores) d.simple) ≡ true
  conds_named [] d e = e
  conds_named (c ∷ cs) d e = conds_named cs d e

  conds_given : (v : Tree) (r : Ints) (cs : List Cond) (d : OpenSaid) → Given v r (front_chunks d.stores d.simple) → Given v r (front_chunks (cond_chunks ns cs ++ d.stores) d.simple)
  conds_given v r [] d g = g
  conds_given v r (c ∷ cs) d g = conds_given v r cs d g

  -- ---- the lines of open steps

  -- with ints in their range an open path is a path, and an open step fits
  length_with : (r : Ints) (ps : List OpenPart) → length (path_with r ps) ≡ length ps
  length_with r [] = refl
  length_with r (p ∷ ps) = ap suc (length_with r ps)

  in_front : (r : Ints) (ms ks : List NamedInt) → AllIn r (ms ++ ks) → AllIn r ms
  in_front r [] ks g = tt
  in_front r (m ∷ ms) ks g = (g.0, in_front r ms ks g.1)

  in_back : (r : Ints) (ms ks : List NamedInt) → AllIn r (ms ++ ks) → AllIn r ks
  in_back r [] ks g = g
  in_back r (m ∷ ms) ks g = in_back r ms ks g.1

  pub given_in : (v : Tree) (r : Ints) (ms : List NamedInt) → NamesGiven v r ms → AllIn r ms
  given_in v r [] g = tt
  given_in v r (m ∷ ms) g = (g.0.1, given_in v r ms g.1)

  parts_with_fit : (r : Ints) (ps : List OpenPart) → open_parts_fit ps ≡ true → AllIn r (part_names ps) → list_all is_part (path_with r ps) ≡ true
  parts_with_fit r [] f g = refl
  parts_with_fit r (step p ∷ ps) f g = and_both _ _ (and_first _ _ f) (parts_with_fit r ps (and_second (is_part p) _ f) g)
  parts_with_fit r (place_of m ∷ ps) f g = and_both (is_int (r m)) _ g.0 (parts_with_fit r ps (and_second (is_key m) _ f) g.1)

  site_with_fits : (r : Ints) (p : OpenSite) → open_site_fits p ≡ true → AllIn r (part_names p.parts) → site_fits (site_with r p) ≡ true
  site_with_fits r p f g =
      let a = and_second (is_key p.name) _ f in
      let b = and_second (open_parts_fit p.parts) _ a in
      and_both _ _ (path_fits p.name (path_with r p.parts) (and_first _ _ f) (parts_with_fit r p.parts (and_first _ _ a) g) (ap (λ n. nat_le n 15) (length_with r p.parts) ∙ and_first _ _ b)) (and_second (nat_le (length p.parts) 15) _ b)

  opened_fits : (r : Ints) (p : OpenSite) → is_open p ≡ true → AllIn r (part_names p.parts) → site_fits (site_with r p) ≡ true
  opened_fits r p f g = site_with_fits r p (and_first _ _ f) g

  act_with_fits : (r : Ints) (a : OpenAct) → open_act_fits a ≡ true → AllIn r (act_names a) → act_fits (act_with r a) ≡ true
  act_with_fits r (open_set_spot x m) f g = and_both _ _ (and_first _ _ f) g.0
  act_with_fits r (open_combine x op w m) f g =
      let e = and_second (spot_fits x) (not (is_swap op) && (is_stem w && is_key m)) f in
      let k = and_second (not (is_swap op)) (is_stem w && is_key m) e in
      and_both _ _ (and_first _ _ f) (and_both _ _ (scale_fits w (r m) (and_first _ _ k) g.0) (and_first _ _ e))
  act_with_fits r (open_load_site w p) f g = and_both _ _ (and_first _ _ f) (opened_fits r p (and_second (scratch_fits w) _ f) g)
  act_with_fits r (open_keep_site p w) f g = and_both _ _ (opened_fits r p (and_first _ _ f) g) (and_second (is_open p) _ f)
  act_with_fits r (open_place_to_site p i) f g = and_both _ _ (opened_fits r p (and_first _ _ f) g) (and_second (is_open p) _ f)
  act_with_fits r (open_site_to_place i p) f g = and_both _ _ (and_first _ _ f) (opened_fits r p (and_second (place_fits i) _ f) g)
  act_with_fits r (open_set_site p t) f g = and_both _ _ (opened_fits r p (and_first _ _ f) g) (and_first (tree_fits t) _ (and_second (is_open p) _ f))
  act_with_fits r (open_copy_site p q) f g =
      let e = and_second (open_site_fits p) (open_site_fits q && (has_place p.parts || has_place q.parts)) f in
      and_both _ _ (site_with_fits r p (and_first _ _ f) (in_front r (part_names p.parts) (part_names q.parts) g)) (site_with_fits r q (and_first _ _ e) (in_back r (part_names p.parts) (part_names q.parts) g))

  pub step_with_fits : (r : Ints) (x : OpenStep) → open_step_fits x ≡ true → AllIn r (step_names x) → step_fits (step_with r x) ≡ true
  step_with_fits r (closed_step x) f g = f
  step_with_fits r (open_act a) f g = act_with_fits r a f g
  step_with_fits r (open_when cs a) f g = and_both _ _ (and_first _ _ f) (act_with_fits r a (and_second (conds_fit cs) _ f) g)

  pub steps_with_fit : (r : Ints) (xs : List OpenStep) → open_steps_fit xs ≡ true → AllIn r (steps_names xs) → steps_fit (steps_with r xs) ≡ true
  steps_with_fit r [] f g = refl
  steps_with_fit r (x ∷ xs) f g = and_both _ _ (step_with_fits r x (and_first _ _ f) (in_front r (step_names x) (steps_names xs) g)) (steps_with_fit r xs (and_second (open_step_fits x) _ f) (in_back r (step_names x) (steps_names xs) g))

  -- the chunks of an open line: they fit, are short and bare, and are given
  record Lined (v : Tree) (r : Ints) (cs : List Chunk) : Type 0 where
    fits : macro_fits cs ≡ true
    short : room cs ≤ 430000
    bare : chunks_bare cs ≡ true
    given : Given v r cs

  act_lined : (v : Tree) (r : Ints) (a : OpenAct) → open_act_fits a ≡ true → NamesGiven v r (act_names a) → Lined v r (said_chunks (open_said ns a))
  act_lined v r a f g = let o = act_opens v r a f g in record { fits = o.fits; short = let x = o.short in omega arith; bare = o.bare; given = o.given' }

  when_lined : (v : Tree) (r : Ints) (cs : List Cond) (a : OpenAct) → conds_fit cs ≡ true → open_act_fits a ≡ true → NamesGiven v r (act_names a) → Lined v r (when_chunks ns cs (open_said ns a))
  when_lined v r cs a f e g =
      let o = act_opens v r a e g in
      let few = and_first (list_all cond_fits cs) _ f in
      let most' : length cs ≤ 16 = leb-true (length cs) 16 (and_second (nat_le 1 (length cs)) _ (and_second (list_all cond_fits cs) _ f)) in
      let c = conds_open cs (open_said ns a) 405000 few o.front in
      let w : IsOpen 430000 (still (codes "execute ") ∷ front_chunks (cond_chunks ns cs ++ (open_said ns a).stores) (open_said ns a).simple) = wide_open (joined_open (words (codes "execute ") refl refl) c) (omega arith) in
      record { fits = and_both _ _ c.fit (conds_named cs (open_said ns a) o.named'); short = w.short; bare = w.bare; given = conds_given v r cs (open_said ns a) o.given }

  -- an open line as one of a body
  abbrev pub open_line : OpenStep → BodyLine
  open_line (closed_step x) = closed (step_command ns x)
  open_line (open_act a) = opened (record { chunks = said_chunks (open_said ns a); value = λ r. step_command ns (run_act (act_with r a)); spelled = λ r. (act_spelled ns r a).whole })
  open_line (open_when cs a) = opened (record { chunks = when_chunks ns cs (open_said ns a); value = λ r. step_command ns (when cs (act_with r a)); spelled = λ r. when_spelled ns r cs a })

  pub open_lines : List OpenStep → List BodyLine
  open_lines xs = map open_line xs

  line_is : (x : OpenStep) → body_line (open_line x) ≡ open_text ns x
  line_is (closed_step x) = refl
  line_is (open_act a) = refl
  line_is (open_when cs a) = refl

  pub lines_are : (xs : List OpenStep) → body_text (map open_line xs) ≡ open_texts ns xs
  lines_are [] = refl
  lines_are (x ∷ xs) = ap (λ t. t ∷ body_text (map open_line xs)) (line_is x) ∙ ap (λ ts. open_text ns x ∷ ts) (lines_are xs)

  with_is : (r : Ints) (x : OpenStep) → line_with r (open_line x) ≡ step_command ns (step_with r x)
  with_is r (closed_step x) = refl
  with_is r (open_act a) = refl
  with_is r (open_when cs a) = refl

  pub filled_are : (r : Ints) (xs : List OpenStep) → cmds_text (body_with r (map open_line xs)) ≡ steps_texts ns (steps_with r xs)
  filled_are r [] = refl
  filled_are r (x ∷ xs) = ap (λ c. cmd_text c ∷ cmds_text (body_with r (map open_line xs))) (with_is r x) ∙ ap (λ ts. step_text ns (step_with r x) ∷ ts) (filled_are r xs)

  fillable : (v : Tree) (r : Ints) (o : Open commands) → Lined v r o.chunks → cmd_fits (o.value r) ≡ true → Fillable v r o
  fillable v r o l c = record { fits = l.fits; short = le-leb (room o.chunks) most (let x = l.short in omega arith); gives = l.given.0; ints = l.given.1; command = c }

  line_ready : (v : Tree) (r : Ints) (x : OpenStep) → open_step_fits x ≡ true → NamesGiven v r (step_names x) → LineReady v r (open_line x)
  line_ready v r (closed_step x) f g = let p = step_fitting ns h x f in (p.fits, le-leb (length (step_text ns x)) most (let y = p.clean.short in omega arith))
  line_ready v r (open_act a) f g = fillable v r _ (act_lined v r a f g) (step_fitting ns h (run_act (act_with r a)) (step_with_fits r (open_act a) f (given_in v r (act_names a) g))).fits
  line_ready v r (open_when cs a) f g = fillable v r _ (when_lined v r cs a (and_first _ _ f) (and_second (conds_fit cs) _ f) g) (step_fitting ns h (when cs (act_with r a)) (step_with_fits r (open_when cs a) f (given_in v r (act_names a) g))).fits

  pub all_ready : (v : Tree) (r : Ints) (xs : List OpenStep) → open_steps_fit xs ≡ true → NamesGiven v r (steps_names xs) → AllReady v r (map open_line xs)
  all_ready v r [] f g = tt
  all_ready v r (x ∷ xs) f g = (line_ready v r x (and_first _ _ f) (names_front v r (step_names x) (steps_names xs) g), all_ready v r xs (and_second (open_step_fits x) _ f) (names_back v r (step_names x) (steps_names xs) g))

  -- ---- open lines are tidy

  -- a compound in which every name of some is this int
  abbrev one_int : ℤ → Ints
  one_int z n = z

  -- each placeholder filled by the digits of one int
  filled_by_one : (z : ℤ) (l : Text) (cs : List Chunk) → parts_by (signed_decimal z) (pattern_from l cs) ≡ l ++ chunks_text (one_int z) cs
  filled_by_one z [] [] = refl
  filled_by_one z (b ∷ l) [] = refl
  filled_by_one z l (still m ∷ cs) = filled_by_one z (l ++ m) cs ∙ append_assoc l m (chunks_text (one_int z) cs)
  filled_by_one z [] (named n ∷ cs) = ap (λ t. signed_decimal z ++ t) (filled_by_one z [] cs)
  filled_by_one z (b ∷ l) (named n ∷ cs) = ap (λ t. (b ∷ l) ++ (signed_decimal z ++ t)) (filled_by_one z [] cs)

  lacks_pattern : (l : Text) (cs : List Chunk) → lacks 34 l ≡ true → chunks_bare cs ≡ true → lacks 34 (pattern_parts (pattern_from l cs)) ≡ true
  lacks_pattern [] [] b c = refl
  lacks_pattern (x ∷ l) [] b c = lacks-append 34 (x ∷ l) [] b refl
  lacks_pattern l (still m ∷ cs) b c = lacks_pattern (l ++ m) cs (lacks-append 34 l m b (and_first _ _ c)) (and_second (lacks 34 m) _ c)
  lacks_pattern [] (named n ∷ cs) b c = lacks-append 34 (36 ∷ (40 ∷ n)) (41 ∷ pattern_parts (pattern_from [] cs)) (and_first _ _ c) (lacks_pattern [] cs refl (and_second (lacks 34 n) _ c))
  lacks_pattern (x ∷ l) (named n ∷ cs) b c = lacks-append 34 (x ∷ l) (36 ∷ (40 ∷ (n ++ (41 ∷ pattern_parts (pattern_from [] cs))))) b
      (lacks-append 34 (36 ∷ (40 ∷ n)) (41 ∷ pattern_parts (pattern_from [] cs)) (and_first _ _ c) (lacks_pattern [] cs refl (and_second (lacks 34 n) _ c)))

  zero_text : signed_decimal (pos 0) ≡ 48 ∷ []
  zero_text = decimal_digit 0 (omega arith)

  one_text : signed_decimal (pos 1) ≡ 49 ∷ []
  one_text = decimal_digit 1 (omega arith)

  -- what is known of an open line for its tidiness
  tidy_by : (cs : List Chunk) (d : Text) (z : ℤ) (x : Cmd) → macro_fits cs ≡ true → room cs ≤ 430000 → signed_decimal z ≡ d → chunks_text (one_int z) cs ≡ cmd_text x → Fitting ns h x → is_tidy_by ns d (macro_text cs) ≡ true
  tidy_by cs d z x f s e w g =
      ap (λ q. says_tidy ns (option_and_then (λ l. line_said (text_by d (macro_text cs) l)) q)) (open_is_said cs f (le-leb (room cs) most (omega arith)))
      ∙ ap (λ t. says_tidy ns (line_said t)) (ap (λ y. parts_by y (pattern_of cs)) (sym e) ∙ filled_by_one z [] cs ∙ w)
      ∙ ap (says_tidy ns) (fitting_speaks ns h x g) ∙ g.own

  -- a compound in which each of some names is 0
  abbrev zero_fields : List NamedInt → List (Text × Tree)
  zero_fields ms = map (λ m. (told_name m, int (pos 0))) ms

  zero_found : (pre rest : List NamedInt) (m : NamedInt) → find (told_name m) (zero_fields (pre ++ m ∷ rest)) ≡ Some (int (pos 0))
  zero_found [] rest m = ap (λ b. if b then Some (int (pos 0)) else find (told_name m) (zero_fields rest)) (bytes_refl (told_name m))
  zero_found (k ∷ pre) rest m = go (bytes_eq (told_name m) (told_name k)) (zero_found pre rest m)
    where
      go : (b : Bool) → find (told_name m) (zero_fields (pre ++ m ∷ rest)) ≡ Some (int (pos 0)) → (if b then Some (int (pos 0)) else find (told_name m) (zero_fields (pre ++ m ∷ rest))) ≡ Some (int (pos 0))
      go true e = refl
      go false e = e

  abbrev zeros : List NamedInt → Tree
  zeros ms = compound_of (zero_fields ms)

  zeros_given : (pre rest : List NamedInt) → NamesGiven (zeros (pre ++ rest)) (one_int (pos 0)) rest
  zeros_given pre [] = tt
  zeros_given pre (m ∷ rest) = (
    (ap (λ es. option_and_then plain_text (find (told_name m) es)) (of_fields-fields (zero_fields (pre ++ m ∷ rest))) ∙ ap (option_and_then plain_text) (zero_found pre rest m), natural_told m (pos 0) refl),
    subst (λ l. NamesGiven (zeros l) (one_int (pos 0)) rest) (append_assoc pre (m ∷ []) rest) (zeros_given (pre ++ m ∷ []) rest),
  )

  all_in : (z : ℤ) → is_natural z ≡ true → (ms : List NamedInt) → AllIn (one_int z) ms
  all_in z f [] = tt
  all_in z f (m ∷ ms) = (natural_told m z f, all_in z f ms)

  lined_tidy : (cs : List Chunk) (x0 x1 : Cmd) (v : Tree) (r : Ints) → Lined v r cs → chunks_text (one_int (pos 0)) cs ≡ cmd_text x0 → chunks_text (one_int (pos 1)) cs ≡ cmd_text x1 → Fitting ns h x0 → Fitting ns h x1 → is_tidy ns (macro_text cs) ≡ true
  lined_tidy cs x0 x1 v r l e0 e1 f0 f1 = and_both _ _ (lacks_pattern [] cs refl l.bare) (and_both _ _ (tidy_by cs (48 ∷ []) (pos 0) x0 l.fits l.short zero_text e0 f0) (tidy_by cs (49 ∷ []) (pos 1) x1 l.fits l.short one_text e1 f1))

  one_tidy : (x : OpenStep) → open_step_fits x ≡ true → is_tidy ns (open_text ns x) ≡ true
  one_tidy (closed_step x) f = fitting_tidy ns h _ (step_fitting ns h x f)
  one_tidy (open_act a) f =
      lined_tidy (said_chunks (open_said ns a)) (step_command ns (run_act (act_with (one_int (pos 0)) a))) (step_command ns (run_act (act_with (one_int (pos 1)) a))) (zeros (act_names a)) (one_int (pos 0))
      (act_lined (zeros (act_names a)) (one_int (pos 0)) a f (zeros_given [] (act_names a))) (act_spelled ns (one_int (pos 0)) a).whole (act_spelled ns (one_int (pos 1)) a).whole
      (step_fitting ns h (run_act (act_with (one_int (pos 0)) a)) (step_with_fits (one_int (pos 0)) (open_act a) f (all_in (pos 0) refl (act_names a)))) (step_fitting ns h (run_act (act_with (one_int (pos 1)) a)) (step_with_fits (one_int (pos 1)) (open_act a) f (all_in (pos 1) refl (act_names a))))
  one_tidy (open_when cs a) f =
      lined_tidy (when_chunks ns cs (open_said ns a)) (step_command ns (when cs (act_with (one_int (pos 0)) a))) (step_command ns (when cs (act_with (one_int (pos 1)) a))) (zeros (act_names a)) (one_int (pos 0))
      (when_lined (zeros (act_names a)) (one_int (pos 0)) cs a (and_first _ _ f) (and_second (conds_fit cs) _ f) (zeros_given [] (act_names a))) (when_spelled ns (one_int (pos 0)) cs a) (when_spelled ns (one_int (pos 1)) cs a)
      (step_fitting ns h (when cs (act_with (one_int (pos 0)) a)) (step_with_fits (one_int (pos 0)) (open_when cs a) f (all_in (pos 0) refl (act_names a)))) (step_fitting ns h (when cs (act_with (one_int (pos 1)) a)) (step_with_fits (one_int (pos 1)) (open_when cs a) f (all_in (pos 1) refl (act_names a))))

  pub open_tidy : (xs : List OpenStep) → open_steps_fit xs ≡ true → Tidy ns (open_texts ns xs)
  open_tidy [] f = refl
  open_tidy (x ∷ xs) f = and_both _ _ (one_tidy x (and_first _ _ f)) (open_tidy xs (and_second (open_step_fits x) _ f))
