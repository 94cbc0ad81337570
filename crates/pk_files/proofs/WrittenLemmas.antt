-- What is read back of the files of a pack.
use Rattle.std.proofs.Common.{◌≡◌, ◌∙◌, sym, ap, refl, List, [], ◌∷◌, ◌++◌, Bool, true, false, cond, Option, Some, None, map, codes, append_assoc}
use Rattle.std.specs.Prelude.{is_none, if◌then◌else◌, not, option_map}
use Rattle.std.specs.List.{AllByRecursion}
use Rattle.std.specs.Map.{lookup}
use Rattle.std.specs.Option.{option_or}
use Rattle.std.specs.Cmp.Lexicographic.{nat_list_cmp_total}
use Rattle.std.specs.Str.{bytes_eq}
use Rattle.std.specs.FinMap.{get, get-insert, insert}
use Rattle.std.proofs.lemmas.List.{append_cancel_left}
use Rattle.std.proofs.lemmas.Map.Text.{is_eq-slice_cmp}
use Rattle.std.proofs.lemmas.Slice.Eq.{bytes_eq-Decides}
use Rattle.io_dev.specs.Folder.{Folder}
use Rattle.mc_cmd.specs.Chain.{Texts}
use Rattle.mc_cmd.specs.Form.{Text, cut_at, strip_end}
use Rattle.mc_cmd.specs.Lines.{file_text}
use Rattle.mc_cmd.specs.Pack.{Index}
use Rattle.mc_cmd.specs.Packing.{is_pack_namespace, names_differ}
use Rattle.mc_cmd.specs.Word.{is_namespace}
use Rattle.mc_cmd.proofs.FormLemmas.{and_first, and_second, bytes_refl, cut_at_text, some_same, strip_end_text}
use Rattle.mc_cmd.proofs.NameLemmas.{namespace_lacks, namespace_of}
use Rattle.pk_files.specs.Json.{index_data, meta_data, tag_data}
use Rattle.pk_files.specs.Paths.{at, function_file, functions_of, tag_file, tags_of}
use Rattle.pk_files.specs.Put.{File, function_written, last_files, put_all, tag_written}
use Rattle.serde_json.specs.Written.{compact_text}

-- ---- what stands where after some files were put

abbrev pub inserts : Folder → List File → Folder
inserts m [] = m
inserts m (f ∷ fs) = inserts (insert m f.0 f.1) fs

pub put_all-told : (m : Folder) (fs : List File) → put_all (Some m) fs ≡ Some (inserts m fs)
put_all-told m [] = refl
put_all-told m (f ∷ fs) = put_all-told (insert m f.0 f.1) fs

abbrev pub this_one : Bool → Text → Option Text
this_one b bytes = if b then Some bytes else None

-- the bytes that were put last at a path
abbrev pub put_at : List File → Text → Option Text
put_at [] q = None
put_at (f ∷ fs) q = option_or (put_at fs q) (this_one (bytes_eq q f.0) f.1)

or_or : (x y z : Option Text) → option_or x (option_or y z) ≡ option_or (option_or x y) z
or_or None y z = refl
or_or (Some a) y z = refl

pub or_none : (x : Option Text) → option_or x None ≡ x
or_none None = refl
or_none (Some a) = refl

or_this : (b : Bool) (v : Text) (o : Option Text) → cond b (Some v) o ≡ option_or (this_one b v) o
or_this true v o = refl
or_this false v o = refl

pub get-inserts : (m : Folder) (fs : List File) (q : Text) → get (inserts m fs) q ≡ option_or (put_at fs q) (get m q)
get-inserts m [] q = refl
get-inserts m (f ∷ fs) q =
    get-inserts (insert m f.0 f.1) fs q
    ∙ ap (option_or (put_at fs q)) (get-insert nat_list_cmp_total m f.0 f.1 q ∙ ap (λ b. cond b (Some f.1) (get m q)) (is_eq-slice_cmp q f.0) ∙ or_this (bytes_eq q f.0) f.1 (get m q))
    ∙ or_or (put_at fs q) (this_one (bytes_eq q f.0) f.1) (get m q)

pub put_at-append : (fs gs : List File) (q : Text) → put_at (fs ++ gs) q ≡ option_or (put_at gs q) (put_at fs q)
put_at-append [] gs q = sym (or_none (put_at gs q))
put_at-append (f ∷ fs) gs q =
    ap (λ o. option_or o (this_one (bytes_eq q f.0) f.1)) (put_at-append fs gs q) ∙ sym (or_or (put_at gs q) (put_at fs q) (this_one (bytes_eq q f.0) f.1))

-- ---- paths

-- a test of texts that answers as another one
same_test : (a b c d : Text) → (a ≡ b → c ≡ d) → (c ≡ d → a ≡ b) → bytes_eq a b ≡ bytes_eq c d
same_test a b c d to from = go (bytes_eq a b) (bytes_eq c d) refl refl
  where
    go : (x y : Bool) → bytes_eq a b ≡ x → bytes_eq c d ≡ y → bytes_eq a b ≡ bytes_eq c d
    go true true e f = e ∙ sym f
    go false false e f = e ∙ sym f
    go true false e f = absurd (let g : true ≡ false = sym ((bytes_eq-Decides c d).1 (to ((bytes_eq-Decides a b).0 e))) ∙ f in cc)
    go false true e f = absurd (let g : true ≡ false = sym ((bytes_eq-Decides a b).1 (from ((bytes_eq-Decides c d).0 f))) ∙ e in cc)

pub at_eq : (dir a b : Text) → bytes_eq (at dir a) (at dir b) ≡ bytes_eq a b
at_eq dir a b =
    same_test (at dir a) (at dir b) a b (λ e. let f : 47 ∷ a ≡ 47 ∷ b = append_cancel_left dir (47 ∷ a) (47 ∷ b) e in cc) (λ e. ap (at dir) e)

pub file_eq : (a b : Text) → bytes_eq (function_file a) (function_file b) ≡ bytes_eq a b
file_eq a b =
    same_test (function_file a) (function_file b) a b
    (λ e. some_same a b (sym (strip_end_text (codes ".mcfunction") a) ∙ ap (strip_end (codes ".mcfunction")) e ∙ strip_end_text (codes ".mcfunction") b))
    (λ e. ap function_file e)

-- what lies in a folder within a folder
pub at_at : (dir a b : Text) → at (at dir a) b ≡ at dir (a ++ (47 ∷ b))
at_at dir a b = append_assoc dir (47 ∷ a) (47 ∷ b)

some_pair : (p q : Text × Text) → Some p ≡ Some q → p ≡ q
some_pair p q e = cc

-- no namespace of a pack is the game's
pub ns_apart : (ns rest more : Text) → is_pack_namespace ns ≡ true → bytes_eq (ns ++ (47 ∷ rest)) (codes "minecraft" ++ (47 ∷ more)) ≡ false
ns_apart ns rest more h = go (bytes_eq (ns ++ (47 ∷ rest)) (codes "minecraft" ++ (47 ∷ more))) refl
  where
    go : (b : Bool) → bytes_eq (ns ++ (47 ∷ rest)) (codes "minecraft" ++ (47 ∷ more)) ≡ b → bytes_eq (ns ++ (47 ∷ rest)) (codes "minecraft" ++ (47 ∷ more)) ≡ false
    go false e = e
    go true e =
        let one : ns ++ (47 ∷ rest) ≡ codes "minecraft" ++ (47 ∷ more) = (bytes_eq-Decides _ _).0 e in
        let cut = sym (cut_at_text 47 ns rest (namespace_lacks ns 47 refl (namespace_of ns h))) ∙ ap (cut_at 47) one ∙ cut_at_text 47 (codes "minecraft") more refl in
        let same : ns ≡ codes "minecraft" = ap (λ (p : Text × Text). p.0) (some_pair (ns, rest) (codes "minecraft", more) cut) in
        let bad : false ≡ true = sym (ap (λ n. not (bytes_eq n (codes "minecraft"))) same) ∙ and_second (is_namespace ns) _ h in
        absurd cc

-- ---- the last files

-- where a path is none of those of four files, and where it is one of them
none_of : (fs : List File) (q : Text) → AllByRecursion (λ f. bytes_eq q f.0 ≡ false) fs → put_at fs q ≡ None
none_of [] q h = refl
none_of (f ∷ fs) q h = ap (λ o. option_or o (this_one (bytes_eq q f.0) f.1)) (none_of fs q h.1) ∙ ap (λ b. this_one b f.1) h.0

first_of : (f : File) (fs : List File) (q : Text) → bytes_eq q f.0 ≡ true → AllByRecursion (λ g. bytes_eq q g.0 ≡ false) fs → put_at (f ∷ fs) q ≡ Some f.1
first_of f fs q e h = ap (λ o. option_or o (this_one (bytes_eq q f.0) f.1)) (none_of fs q h) ∙ ap (λ b. this_one b f.1) e

later_of : (f : File) (fs : List File) (q bytes : Text) → put_at fs q ≡ Some bytes → put_at (f ∷ fs) q ≡ Some bytes
later_of f fs q bytes h = ap (λ o. option_or o (this_one (bytes_eq q f.0) f.1)) h

-- two names of which the one is another path than the other
pub in_tags : (dir a b : Text) → bytes_eq (codes "data/minecraft/tags/functions" ++ (47 ∷ a)) b ≡ false → bytes_eq (at (tags_of dir) a) (at dir b) ≡ false
in_tags dir a b h = ap (λ q. bytes_eq q (at dir b)) (at_at dir (codes "data/minecraft/tags/functions") a) ∙ at_eq dir (codes "data/minecraft/tags/functions" ++ (47 ∷ a)) b ∙ h

module _ (dir : Text) (i : Index) where
  abbrev load : File
  load = tag_written dir i.ns (codes "load")

  abbrev tick : File
  tick = tag_written dir i.ns (codes "tick")

  abbrev index : File
  index = (at dir (codes "dpwasm.json"), compact_text (index_data i))

  abbrev meta : File
  meta = (at dir (codes "pack.mcmeta"), compact_text meta_data)

  pub put_meta : put_at (last_files dir i) (at dir (codes "pack.mcmeta")) ≡ Some (compact_text meta_data)
  put_meta =
      later_of load (tick ∷ index ∷ meta ∷ []) meta.0 meta.1 (later_of tick (index ∷ meta ∷ []) meta.0 meta.1 (later_of index (meta ∷ []) meta.0 meta.1
      (first_of meta [] meta.0 (bytes_refl meta.0) tt)))

  pub put_index : put_at (last_files dir i) (at dir (codes "dpwasm.json")) ≡ Some (compact_text (index_data i))
  put_index =
      later_of load (tick ∷ index ∷ meta ∷ []) index.0 index.1 (later_of tick (index ∷ meta ∷ []) index.0 index.1
      (first_of index (meta ∷ []) index.0 (bytes_refl index.0) (at_eq dir (codes "dpwasm.json") (codes "pack.mcmeta"), tt)))

  pub put_tick : put_at (last_files dir i) (at (tags_of dir) (tag_file (codes "tick"))) ≡ Some (compact_text (tag_data i.ns (codes "tick")))
  put_tick =
      later_of load (tick ∷ index ∷ meta ∷ []) tick.0 tick.1
      (first_of tick (index ∷ meta ∷ []) tick.0 (bytes_refl tick.0)
      (in_tags dir (tag_file (codes "tick")) (codes "dpwasm.json") refl, (in_tags dir (tag_file (codes "tick")) (codes "pack.mcmeta") refl, tt)))

  pub put_load : put_at (last_files dir i) (at (tags_of dir) (tag_file (codes "load"))) ≡ Some (compact_text (tag_data i.ns (codes "load")))
  put_load =
      first_of load (tick ∷ index ∷ meta ∷ []) load.0 (bytes_refl load.0)
      (at_eq (tags_of dir) (tag_file (codes "load")) (tag_file (codes "tick")), (in_tags dir (tag_file (codes "load")) (codes "dpwasm.json") refl, (in_tags dir (tag_file (codes "load")) (codes "pack.mcmeta") refl, tt)))

  -- the path of a function, as it lies in the folder of the pack
  function_below : (n : Text) → at (functions_of dir i.ns) (function_file n) ≡ at dir (codes "data/" ++ (i.ns ++ (47 ∷ (codes "functions" ++ (47 ∷ function_file n)))))
  function_below n =
      at_at dir (codes "data/" ++ (i.ns ++ codes "/functions")) (function_file n)
      ∙ ap (λ t. at dir (codes "data/" ++ t)) (append_assoc i.ns (codes "/functions") (47 ∷ function_file n))

  apart_from_tag : (n tag : Text) → is_pack_namespace i.ns ≡ true → bytes_eq (at (functions_of dir i.ns) (function_file n)) (at (tags_of dir) tag) ≡ false
  apart_from_tag n tag h =
      ap (λ q. bytes_eq q (at (tags_of dir) tag)) (function_below n)
      ∙ ap (bytes_eq (at dir (codes "data/" ++ (i.ns ++ (47 ∷ (codes "functions" ++ (47 ∷ function_file n))))))) (at_at dir (codes "data/minecraft/tags/functions") tag)
      ∙ at_eq dir (codes "data/" ++ (i.ns ++ (47 ∷ (codes "functions" ++ (47 ∷ function_file n))))) (codes "data/minecraft/tags/functions" ++ (47 ∷ tag)) ∙ ns_apart i.ns (codes "functions" ++ (47 ∷ function_file n)) (codes "tags/functions" ++ (47 ∷ tag)) h

  pub apart_from : (n other : Text) → bytes_eq (codes "data/" ++ (i.ns ++ (47 ∷ (codes "functions" ++ (47 ∷ function_file n))))) other ≡ false → bytes_eq (at (functions_of dir i.ns) (function_file n)) (at dir other) ≡ false
  apart_from n other h = ap (λ q. bytes_eq q (at dir other)) (function_below n) ∙ at_eq dir (codes "data/" ++ (i.ns ++ (47 ∷ (codes "functions" ++ (47 ∷ function_file n))))) other ∙ h

  -- no function lies where one of the last files does
  pub put_no_function : (n : Text) → is_pack_namespace i.ns ≡ true → put_at (last_files dir i) (at (functions_of dir i.ns) (function_file n)) ≡ None
  put_no_function n h =
      none_of (last_files dir i) (at (functions_of dir i.ns) (function_file n))
      (apart_from_tag n (tag_file (codes "load")) h, (apart_from_tag n (tag_file (codes "tick")) h, (apart_from n (codes "dpwasm.json") refl, (apart_from n (codes "pack.mcmeta") refl, tt))))

-- ---- the functions

pub put_functions : (folder n : Text) (es : List (Text × Texts)) → names_differ es ≡ true → put_at (map (function_written folder) es) (at folder (function_file n)) ≡ option_map file_text (lookup (bytes_eq n) es)
put_functions folder n [] d = refl
put_functions folder n (e ∷ es) d =
    ap (λ o. option_or o (this_one (bytes_eq (at folder (function_file n)) (at folder (function_file e.0))) (file_text e.1))) (put_functions folder n es (and_second (is_none (lookup (bytes_eq e.0) es)) _ d))
    ∙ ap (λ b. option_or (option_map file_text (lookup (bytes_eq n) es)) (this_one b (file_text e.1))) (at_eq folder (function_file n) (function_file e.0) ∙ file_eq n e.0)
    ∙ go (bytes_eq n e.0) refl
  where
    none : (o : Option Texts) → is_none o ≡ true → option_map file_text o ≡ None
    none None h = refl
    none (Some ts) h = absurd cc

    go : (b : Bool) → bytes_eq n e.0 ≡ b → option_or (option_map file_text (lookup (bytes_eq n) es)) (this_one b (file_text e.1)) ≡ option_map file_text (cond b (Some e.1) (lookup (bytes_eq n) es))
    go true f =
        ap (λ o. option_or o (Some (file_text e.1)))
        (none (lookup (bytes_eq n) es) (ap (λ m. is_none (lookup (bytes_eq m) es)) ((bytes_eq-Decides n e.0).0 f) ∙ and_first (is_none (lookup (bytes_eq e.0) es)) _ d))
    go false f = or_none (option_map file_text (lookup (bytes_eq n) es))
