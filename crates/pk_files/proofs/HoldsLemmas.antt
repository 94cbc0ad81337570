-- A folder into which a pack was written holds that pack.
use Rattle.std.proofs.Common.{◌≡◌, ◌∙◌, sym, ap, subst, refl, inl, inr, ◌≤◌, List, [], ◌∷◌, ◌++◌, Bool, true, false, cond, Option, Some, None, Ok, map, length, codes, arith}
use Rattle.std.specs.Prelude.{◌||◌, Contains, is_some, if◌then◌else◌, nat_le, nat_eq, option_and_then, option_map, unwrap_or}
use Rattle.std.specs.List.{AllByRecursion, IsDistinct, filter_map, cons_option, list_any, list_all}
use Rattle.std.specs.Map.{lookup}
use Rattle.std.specs.Option.{option_or}
use Rattle.std.specs.Str.{bytes_eq}
use Rattle.std.specs.FinMap.{get}
use Rattle.std.proofs.lemmas.Bool.{leb-true}
use Rattle.std.proofs.lemmas.Cmp.{nat_list_eq_equiv}
use Rattle.std.proofs.lemmas.Map.Steps.{length-le_from_keys}
use Rattle.std.proofs.lemmas.Map.Views.{list_any-from_Contains}
use Rattle.std.proofs.lemmas.Slice.Eq.{bytes_eq-Decides}
use Rattle.io_dev.specs.Folder.{Folder}
use Rattle.io_dev.specs.Names.{IsListing, IsRising, IsShown, first_part}
use Rattle.mc_cmd.specs.Chain.{Texts}
use Rattle.mc_cmd.specs.Form.{Text, lacks}
use Rattle.mc_cmd.specs.Layout.{full_name}
use Rattle.mc_cmd.specs.Lines.{file_lines, file_text}
use Rattle.mc_cmd.specs.Pack.{Index}
use Rattle.mc_cmd.specs.Packing.{Written, are_lines, index_view, is_entry, is_pack_namespace, is_written, most_functions, names_differ}
use Rattle.mc_cmd.specs.Word.{is_function_name, is_small_byte}
use Rattle.mc_cmd.proofs.FormLemmas.{and_first, and_second, strip_end_text}
use Rattle.mc_cmd.proofs.LinesLemmas.{file_lines-file_text}
use Rattle.mc_cmd.proofs.WordLemmas.{all_lack, lacks-append}
use Rattle.serde_json.specs.Written.{compact_text}
use Rattle.pk_files.specs.Held.{Holds, ReadsEach, ReadsForm, ReadsIndex, ReadsLines, ReadsTags, lines_unless, said_lines, said_or}
use Rattle.pk_files.specs.Json.{index_data, index_said, meta_data, meta_said, tag_data, tag_said}
use Rattle.pk_files.specs.Paths.{at, function_file, function_named, function_names, functions_of, pack_cap, tag_file, tags_of}
use Rattle.pk_files.specs.Put.{AreWithin, File, IsReadBack, function_files, function_written, last_files, pack_files, put_all}
use Rattle.pk_files.specs.Told.{Told, lines_in, same, told_of}
use Rattle.pk_files.specs.declared.fault.GetFault.{GetFault}
use Rattle.pk_files.specs.declared.fault.GetFault.TheVariants as faults
use Rattle.pk_files.proofs.HeldLemmas.{contains_cases, contains_first, contains_later, contains_none}
use Rattle.pk_files.proofs.LineText.{lines_unbroken}
use Rattle.pk_files.proofs.LinesLemmas.{none_from}
use Rattle.pk_files.proofs.ListingLemmas.{listing_of}
use Rattle.pk_files.proofs.MetaLemmas.{meta_is_said}
use Rattle.pk_files.proofs.ReadLemmas.{AreApart, apart_names, few, named_by}
use Rattle.pk_files.proofs.StepLemmas.{is_there}
use Rattle.pk_files.proofs.WrittenLemmas.{at_at, get-inserts, inserts, or_none, put_all-told, put_at, put_at-append, put_functions, put_index, put_load, put_meta, put_no_function, put_tick}

-- a text without `/` that is a first part is the whole
pub first_whole : (rest t : Text) → t ≡ first_part rest → lacks 47 t ≡ true → rest ≡ t
first_whole [] t e h = sym e
first_whole (c ∷ rest) t e h = go (nat_eq c 47) refl e (first_whole rest (first_part rest) refl)
  where
    go : (b : Bool) → nat_eq c 47 ≡ b → t ≡ c ∷ (if b then [] else first_part rest) → (lacks 47 (first_part rest) ≡ true → rest ≡ first_part rest) → c ∷ rest ≡ t
    go true f g ih =
        let bad : false ≡ true = sym (ap (lacks 47) g ∙ ap (λ b. if b then false else true) f) ∙ h in
        absurd cc
    go false f g ih =
        let free : lacks 47 (first_part rest) ≡ true = sym (ap (lacks 47) g ∙ ap (λ b. if b then false else lacks 47 (first_part rest)) f) ∙ h in
        ap (λ u. c ∷ u) (ih free) ∙ sym g

whole_first : (t : Text) → lacks 47 t ≡ true → t ≡ first_part t
whole_first [] h = refl
whole_first (c ∷ t) h = go (nat_eq c 47) h (whole_first t)
  where
    go : (b : Bool) → (if b then false else lacks 47 t) ≡ true → (lacks 47 t ≡ true → t ≡ first_part t) → c ∷ t ≡ c ∷ (if b then [] else first_part t)
    go true h ih = absurd cc
    go false h ih = ap (λ u. c ∷ u) (ih h)

file_lacks : (n : Text) → is_function_name n ≡ true → lacks 47 (function_file n) ≡ true
file_lacks n h = lacks-append 47 n (codes ".mcfunction") (all_lack is_small_byte 47 refl n (and_first _ _ h)) refl

-- the file of a function is named so
named_file : (n : Text) → is_function_name n ≡ true → function_named (function_file n) ≡ Some n
named_file n h =
    ap (λ o. option_and_then (λ m. if is_function_name m then Some m else None) o) (strip_end_text (codes ".mcfunction") n)
    ∙ ap (λ b. if b then Some n else None) h

-- the functions among some files
name_from : (files : Texts) (q : Text) → list_any (bytes_eq q) (filter_map function_named files) ≡ true → (file : Text) × Contains files file × (function_named file ≡ Some q)
name_from [] q h = absurd cc
name_from (f ∷ fs) q h = go (function_named f) refl h (λ k. later (name_from fs q k))
  where
    later : ((file : Text) × Contains fs file × (function_named file ≡ Some q)) → (file : Text) × Contains (f ∷ fs) file × (function_named file ≡ Some q)
    later p = (p.0, contains_later f fs p.0 p.1, p.2)

    here : (n : Text) → function_named f ≡ Some n → (b : Bool) → bytes_eq q n ≡ b → (b || list_any (bytes_eq q) (filter_map function_named fs)) ≡ true → (list_any (bytes_eq q) (filter_map function_named fs) ≡ true → (file : Text) × Contains (f ∷ fs) file × (function_named file ≡ Some q)) → (file : Text) × Contains (f ∷ fs) file × (function_named file ≡ Some q)
    here n e true g k ih = (f, contains_first f fs, e ∙ ap Some (sym ((bytes_eq-Decides q n).0 g)))
    here n e false g k ih = ih k

    go : (o : Option Text) → function_named f ≡ o → list_any (bytes_eq q) (cons_option o (filter_map function_named fs)) ≡ true → (list_any (bytes_eq q) (filter_map function_named fs) ≡ true → (file : Text) × Contains (f ∷ fs) file × (function_named file ≡ Some q)) → (file : Text) × Contains (f ∷ fs) file × (function_named file ≡ Some q)
    go None e k ih = ih k
    go (Some n) e k ih = here n e (bytes_eq q n) refl k ih

-- among them is the one of a file
name_to : (files : Texts) (file q : Text) → Contains files file → function_named file ≡ Some q → Contains (filter_map function_named files) q
name_to [] file q c e = absurd (contains_none file c)
name_to (f ∷ fs) file q c e = elim (contains_cases f fs file c) [ inl is ↦ here (ap function_named is ∙ e) | inr d ↦ go (function_named f) (name_to fs file q d e) ]
  where
    here : function_named f ≡ Some q → Contains (cons_option (function_named f) (filter_map function_named fs)) q
    here g = subst (λ o. Contains (cons_option o (filter_map function_named fs)) q) (sym g) (contains_first q (filter_map function_named fs))

    go : (o : Option Text) → Contains (filter_map function_named fs) q → Contains (cons_option o (filter_map function_named fs)) q
    go None d = d
    go (Some n) d = contains_later n (filter_map function_named fs) q d

distinct : (names : Texts) → AreApart names → IsDistinct bytes_eq names
unfolding IsDistinct
distinct [] h = tt
distinct (n ∷ ns) h = (others ns h.0, distinct ns h.1)
  where
    others : (ms : Texts) → AllByRecursion (λ m. bytes_eq m n ≡ false) ms → AllByRecursion (λ m. bytes_eq n m ≡ false) ms
    others [] h = tt
    others (m ∷ ms) h = (nat_list_eq_equiv.symm n m ∙ h.0, others ms h.1)

-- all of some files and others
all_first : (P : File → Type 0) (fs gs : List File) → AllByRecursion P (fs ++ gs) → AllByRecursion P fs
all_first P [] gs h = tt
all_first P (f ∷ fs) gs h = (h.0, all_first P fs gs h.1)

all_second : (P : File → Type 0) (fs gs : List File) → AllByRecursion P (fs ++ gs) → AllByRecursion P gs
all_second P [] gs h = h
all_second P (f ∷ fs) gs h = all_second P fs gs h.1

-- of the functions of a pack
within_at : (folder n : Text) (es : List (Text × Texts)) (ls : Texts) → AreWithin (map (function_written folder) es) → lookup (bytes_eq n) es ≡ Some ls → length (file_text ls) ≤ pack_cap
within_at folder n [] ls h e = absurd cc
within_at folder n (x ∷ es) ls h e = go (bytes_eq n x.0) e (within_at folder n es ls h.1)
  where
    go : (b : Bool) → cond b (Some x.1) (lookup (bytes_eq n) es) ≡ Some ls → (lookup (bytes_eq n) es ≡ Some ls → length (file_text ls) ≤ pack_cap) → length (file_text ls) ≤ pack_cap
    go true f ih = let one : x.1 ≡ ls = cc in subst (λ ts. length (file_text ts) ≤ pack_cap) one h.0
    go false f ih = ih f

entry_at : (n : Text) (es : List (Text × Texts)) (ls : Texts) → list_all is_entry es ≡ true → lookup (bytes_eq n) es ≡ Some ls → (is_function_name n ≡ true) × (are_lines ls ≡ true)
entry_at n [] ls h e = absurd cc
entry_at n (x ∷ es) ls h e = go (bytes_eq n x.0) refl e (entry_at n es ls (and_second (is_entry x) _ h))
  where
    first : is_entry x ≡ true
    first = and_first _ _ h

    go : (b : Bool) → bytes_eq n x.0 ≡ b → cond b (Some x.1) (lookup (bytes_eq n) es) ≡ Some ls → (lookup (bytes_eq n) es ≡ Some ls → (is_function_name n ≡ true) × (are_lines ls ≡ true)) → (is_function_name n ≡ true) × (are_lines ls ≡ true)
    go true f g ih =
        let one : x.1 ≡ ls = cc in
        (ap is_function_name ((bytes_eq-Decides n x.0).0 f) ∙ and_first _ _ first, subst (λ ts. are_lines ts ≡ true) one (and_second (is_function_name x.0) _ first))
    go false f g ih = ih g

some_of : (o : Option Texts) → is_some o ≡ true → (ls : Texts) × (o ≡ Some ls)
some_of None h = absurd cc
some_of (Some ls) h = (ls, refl)

some_mapped : (o : Option Texts) → is_some (option_map file_text o) ≡ true → is_some o ≡ true
some_mapped None h = h
some_mapped (Some ls) h = refl

-- ---- the written folder

module _ (m : Folder) (dir : Text) (t : Told) (is_pack : is_pack_namespace t.index.ns ≡ true) (few_functions : length t.functions ≤ most_functions) (entries : list_all is_entry t.functions ≡ true) (differ : names_differ t.functions ≡ true) (bare : IsListing m dir []) (back : IsReadBack t.index) (within : AreWithin (pack_files dir t)) where
  abbrev i : Index
  i = t.index

  abbrev folder : Folder
  folder = inserts m (pack_files dir t)

  abbrev there : Text
  there = functions_of dir i.ns

  abbrev own : List File
  own = function_files dir i.ns t.functions

  -- nothing stood below
  nothing_below : (rest : Text) → (rest ≡ [] → ⊥) → get m (at dir rest) ≡ None
  nothing_below rest some = go (get m (at dir rest)) refl
    where
      go : (o : Option Text) → get m (at dir rest) ≡ o → get m (at dir rest) ≡ None
      go None e = e
      go (Some bytes) e =
          absurd (contains_none (first_part rest) ((bare (first_part rest)).1 (at dir rest, ap is_some e, record { rest = rest; is_below = refl; has_rest = some; is_first = refl })))

  get_last : (q bytes : Text) → put_at (last_files dir i) q ≡ Some bytes → get folder q ≡ Some bytes
  get_last q bytes h =
      get-inserts m (pack_files dir t) q
      ∙ ap (λ o. option_or o (get m q)) (put_at-append own (last_files dir i) q ∙ ap (λ o. option_or o (put_at own q)) h)

  get_function : (n : Text) → get folder (at there (function_file n)) ≡ option_map file_text (lookup (bytes_eq n) t.functions)
  get_function n =
      get-inserts m (pack_files dir t) (at there (function_file n))
      ∙ ap (λ o. option_or o (get m (at there (function_file n))))
      (put_at-append own (last_files dir i) (at there (function_file n)) ∙ ap (λ o. option_or o (put_at own (at there (function_file n)))) (put_no_function dir i n is_pack) ∙ put_functions there n t.functions differ)
      ∙ ap (option_or (option_map file_text (lookup (bytes_eq n) t.functions)))
      (ap (get m) (at_at dir (codes "data/" ++ (i.ns ++ codes "/functions")) (function_file n)) ∙ nothing_below _ (λ e. cc))
      ∙ or_none (option_map file_text (lookup (bytes_eq n) t.functions))

  last_within : AreWithin (last_files dir i)
  last_within = all_second (λ f. length f.1 ≤ pack_cap) own (last_files dir i) within

  own_within : AreWithin own
  own_within = all_first (λ f. length f.1 ≤ pack_cap) own (last_files dir i) within

  -- a file that stands in a folder is listed and read
  is_among : (at_dir name bytes : Text) (names : Texts) → IsListing folder at_dir names → get folder (at at_dir name) ≡ Some bytes → (name ≡ [] → ⊥) → name ≡ first_part name → list_any (bytes_eq name) names ≡ true
  is_among at_dir name bytes names listing e some first =
      list_any-from_Contains nat_list_eq_equiv name names
      ((listing name).1 (at at_dir name, ap is_some e, record { rest = name; is_below = refl; has_rest = some; is_first = first }))

  reads_form : {A : Type 0} (at_dir name bytes : Text) (names : Texts) (fault : GetFault) (said : Text → Option A) (a : A)
      → IsListing folder at_dir names → get folder (at at_dir name) ≡ Some bytes → (name ≡ [] → ⊥) → name ≡ first_part name → length bytes ≤ pack_cap → said bytes ≡ Some a
      → ReadsForm (Some folder) at_dir names name fault said (Ok a)
  reads_form at_dir name bytes names fault said a listing e some first le says =
      (tt, is_there names name fault (is_among at_dir name bytes names listing e some first), (bytes, record { is_file = e; within = le }, sym (ap (said_or fault) says)))

  reads_index : ReadsIndex (Some folder) dir (Ok i)
  reads_index =
      let list = listing_of folder dir in (
        list.0,
        (list.1, list.2),
        (
          tt,
          reads_form dir (codes "pack.mcmeta") (compact_text meta_data) list.0 faults.NoMeta meta_said tt list.1 (get_last (at dir (codes "pack.mcmeta")) (compact_text meta_data) (put_meta dir i)) (λ e. cc) refl last_within.1.1.1.0 meta_is_said,
          reads_form dir (codes "dpwasm.json") (compact_text (index_data i)) list.0 faults.BadIndex index_said i list.1 (get_last (at dir (codes "dpwasm.json")) (compact_text (index_data i)) (put_index dir i)) (λ e. cc) refl last_within.1.1.0 back.index,
        ),
      )

  reads_tags : ReadsTags (Some folder) dir i.ns (Ok (tt {0}))
  reads_tags =
      let list = listing_of folder (tags_of dir) in (
        list.0,
        (list.1, list.2),
        (
          tt,
          reads_form (tags_of dir) (tag_file (codes "load")) (compact_text (tag_data i.ns (codes "load"))) list.0 (faults.BadTag (codes "load")) (tag_said (full_name i.ns (codes "load"))) tt list.1 (get_last (at (tags_of dir) (tag_file (codes "load"))) (compact_text (tag_data i.ns (codes "load"))) (put_load dir i)) (λ e. cc) refl last_within.0 back.load,
          reads_form (tags_of dir) (tag_file (codes "tick")) (compact_text (tag_data i.ns (codes "tick"))) list.0 (faults.BadTag (codes "tick")) (tag_said (full_name i.ns (codes "tick"))) tt list.1 (get_last (at (tags_of dir) (tag_file (codes "tick"))) (compact_text (tag_data i.ns (codes "tick"))) (put_tick dir i)) (λ e. cc) refl last_within.1.0 back.tick,
        ),
      )

  -- the functions
  files : Texts
  files = (listing_of folder there).0

  files_listed : IsListing folder there files
  unfolding files
  files_listed = (listing_of folder there).1

  files_rise : IsRising files
  unfolding files
  files_rise = (listing_of folder there).2

  abbrev found : Texts
  found = function_names files

  abbrev lines_of : Text → Texts
  lines_of n = unwrap_or (lookup (bytes_eq n) t.functions) []

  -- each function that is listed is one of the pack, and each of the pack is listed
  found_stands : (q : Text) → list_any (bytes_eq q) found ≡ true → is_some (lookup (bytes_eq q) t.functions) ≡ true
  found_stands q h =
      let p = name_from files q h in
      let name = named_by p.0 q p.2 in
      let s = (files_listed p.0).0 p.1 in
      let free : lacks 47 p.0 ≡ true = ap (lacks 47) name.0 ∙ file_lacks q name.1 in
      let whole : s.2.rest ≡ function_file q = first_whole s.2.rest p.0 s.2.is_first free ∙ name.0 in
      some_mapped (lookup (bytes_eq q) t.functions) (ap is_some (sym (get_function q)) ∙ ap (λ r. is_some (get folder (at there r))) (sym whole) ∙ ap (λ path. is_some (get folder path)) (sym s.2.is_below) ∙ s.1)

  stands_found : (q : Text) (ls : Texts) → lookup (bytes_eq q) t.functions ≡ Some ls → list_any (bytes_eq q) found ≡ true
  stands_found q ls e =
      let named = (entry_at q t.functions ls entries e).0 in
      let shown : IsShown folder there (function_file q) =
      (at there (function_file q), ap is_some (get_function q ∙ ap (option_map file_text) e), record { rest = function_file q; is_below = refl; has_rest = not_bare q; is_first = whole_first (function_file q) (file_lacks q named) }) in
      list_any-from_Contains nat_list_eq_equiv q found (name_to files (function_file q) q ((files_listed (function_file q)).1 shown) (named_file q named))
    where
      not_bare : (n : Text) → function_file n ≡ [] → ⊥
      not_bare [] f = cc
      not_bare (b ∷ n) f = cc

  few_found : length found ≤ most_functions
  few_found =
      let le = length-le_from_keys nat_list_eq_equiv found t.functions (distinct found (apart_names files files_rise)) found_stands in
      omega (arith, le, few_functions)

  reads_lines : (n : Text) (ls : Texts) → lookup (bytes_eq n) t.functions ≡ Some ls → ReadsLines (Some folder) there n (Ok ls)
  reads_lines n ls e =
      let are = (entry_at n t.functions ls entries e).1 in
      let again : file_lines (file_text ls) ≡ ls = file_lines-file_text ls (lines_unbroken ls are) in (
        file_text ls,
        record { is_file = get_function n ∙ ap (option_map file_text) e; within = within_at there n t.functions ls own_within e },
        sym (ap (said_lines n) again ∙ ap (lines_unless n ls) (none_from 1 ls are)),
      )

  reads_each : (names : Texts) → AllByRecursion (λ n. is_some (lookup (bytes_eq n) t.functions) ≡ true) names → ReadsEach (Some folder) there names (Ok (map (λ n. (n, lines_of n)) names))
  reads_each [] h = refl
  reads_each (n ∷ names) h =
      let s = some_of (lookup (bytes_eq n) t.functions) h.0 in
      let one : lines_of n ≡ s.0 = ap (λ o. unwrap_or o []) s.1 in
      (lines_of n, subst (λ ls. ReadsLines (Some folder) there n (Ok ls)) (sym one) (reads_lines n s.0 s.1), (map (λ n. (n, lines_of n)) names, reads_each names h.1, refl))

  all_stand : (names : Texts) → ((q : Text) → list_any (bytes_eq q) names ≡ true → is_some (lookup (bytes_eq q) t.functions) ≡ true) → AllByRecursion (λ n. is_some (lookup (bytes_eq n) t.functions) ≡ true) names
  all_stand [] f = tt
  all_stand (n ∷ names) f =
      (f n (list_any-from_Contains nat_list_eq_equiv n (n ∷ names) (contains_first n names)), all_stand names (λ q h. f q (more (bytes_eq q n) (list_any (bytes_eq q) names) h)))
    where
      more : (a b : Bool) → b ≡ true → (a || b) ≡ true
      more true b h = refl
      more false b h = h

  pub held : Told
  held = record { index = i; functions = map (λ n. (n, lines_of n)) found }

  pub holds_written : Holds (Some folder) dir held
  unfolding held
  holds_written = (
    i,
    reads_index,
    (
      tt,
      reads_tags,
      (
        map (λ n. (n, lines_of n)) found,
        (files, (files_listed, files_rise), (found, few found few_found, reads_each found (all_stand found found_stands))),
        refl,
      ),
    ),
  )

  -- look-ups among the functions that were read
  look_up : (q : Text) (names : Texts) → lookup (bytes_eq q) (map (λ n. (n, lines_of n)) names) ≡ (if list_any (bytes_eq q) names then Some (lines_of q) else None)
  look_up q [] = refl
  look_up q (n ∷ names) = go (bytes_eq q n) refl (look_up q names)
    where
      go : (b : Bool) → bytes_eq q n ≡ b → lookup (bytes_eq q) (map (λ n. (n, lines_of n)) names) ≡ (if list_any (bytes_eq q) names then Some (lines_of q) else None) → cond b (Some (lines_of n)) (lookup (bytes_eq q) (map (λ n. (n, lines_of n)) names)) ≡ (if b || list_any (bytes_eq q) names then Some (lines_of q) else None)
      go true e ih = ap (λ k. Some (lines_of k)) (sym ((bytes_eq-Decides q n).0 e))
      go false e ih = ih

  same_lines : (q : Text) → lines_in t q ≡ lookup (bytes_eq q) (map (λ n. (n, lines_of n)) found)
  same_lines q = go (lookup (bytes_eq q) t.functions) refl ∙ sym (look_up q found)
    where
      none : (b : Bool) → list_any (bytes_eq q) found ≡ b → lookup (bytes_eq q) t.functions ≡ None → None ≡ (if b then Some (lines_of q) else None)
      none true f e = let g : false ≡ true = sym (ap is_some e) ∙ found_stands q f in absurd cc
      none false f e = refl

      go : (o : Option Texts) → lookup (bytes_eq q) t.functions ≡ o → lookup (bytes_eq q) t.functions ≡ (if list_any (bytes_eq q) found then Some (lines_of q) else None)
      go None e = e ∙ none (list_any (bytes_eq q) found) refl e
      go (Some ls) e =
          e ∙ ap Some (sym (ap (λ o. unwrap_or o []) e)) ∙ ap (λ b. if b then Some (lines_of q) else None) (sym (stands_found q ls e))

  pub held_same : same t held
  unfolding held
  held_same = record { index = refl; functions = same_lines }

-- the folder with the files of a pack holds the same pack
pub told_holds : (m : Folder) (dir : Text) (t : Told) → is_pack_namespace t.index.ns ≡ true → length t.functions ≤ most_functions → list_all is_entry t.functions ≡ true → names_differ t.functions ≡ true
    → IsListing m dir [] → IsReadBack t.index → AreWithin (pack_files dir t) → (q : Told) × Holds (put_all (Some m) (pack_files dir t)) dir q × same t q
told_holds m dir t is_pack few_functions entries differ bare back within = (
  held m dir t is_pack few_functions entries differ bare back within,
  subst (λ (content : Option Folder). Holds content dir (held m dir t is_pack few_functions entries differ bare back within)) (sym (put_all-told m (pack_files dir t))) (holds_written m dir t is_pack few_functions entries differ bare back within),
  held_same m dir t is_pack few_functions entries differ bare back within,
)

-- what the writing of a pack leaves holds the same pack
pub written_holds : (m : Folder) (dir : Text) (w : Written) → is_written w ≡ true → IsListing m dir [] → IsReadBack (index_view w.index) → AreWithin (pack_files dir (told_of w))
    → (q : Told) × Holds (put_all (Some m) (pack_files dir (told_of w))) dir q × same (told_of w) q
written_holds m dir w written bare back within =
    let rest = and_second (is_pack_namespace w.index.ns) _ written in
    let named = and_second (nat_le (length w.functions) most_functions) _ rest in
    told_holds m dir (told_of w) (and_first _ _ written) (leb-true _ _ (and_first _ _ rest)) (and_first _ _ named) (and_second (list_all is_entry w.functions) _ named) bare back within
