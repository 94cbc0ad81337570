-- The steps of reading a pack, put together.
use Rattle.std.proofs.Common.{◌≡◌, ◌∙◌, sym, ap, subst, refl, inl, inr, ℕ, suc, ◌+◌, ◌<◌, ◌≤◌, List, [], ◌∷◌, ◌++◌, Bool, true, false, cond, Option, Some, None, Result, Ok, Err, length, drop, get_or, add-one, arith, append-nil, append_assoc, length-append}
use Rattle.std.specs.Prelude.{if◌then◌else◌, nat_le, IsErr, IsErrAnd, IfOk, codes, is_some}
use Rattle.std.specs.List.{filter_map, cons_option, AllByRecursion}
use Rattle.std.specs.List.Sorted.{IsStrictlySortedBy}
use Rattle.std.specs.Map.{lookup}
use Rattle.std.specs.Ordering.{nat_cmp}
use Rattle.std.specs.declared.cmp.Ordering.TheVariants.{Less, Equal}
use Rattle.std.specs.Cmp.Lexicographic.{slice_cmp, nat_list_cmp_total}
use Rattle.std.specs.Str.{bytes_eq, IsUtf8}
use Rattle.std.proofs.Math.ListN.{drop_of_length-le}
use Rattle.std.proofs.Math.Seq.{drop-cons}
use Rattle.std.proofs.lemmas.Bool.Decides.{nat_tests}
use Rattle.std.proofs.lemmas.Cmp.{tied_itself}
use Rattle.std.proofs.lemmas.Slice.Eq.{bytes_eq-Decides}
use Rattle.std.proofs.lemmas.Str.{IsUtf8-from_ascii}
use Rattle.io_dev.specs.Files.{FilesState}
use Rattle.io_dev.specs.Folder.{Folder}
use Rattle.io_dev.specs.Names.{IsRising}
use Rattle.mc_cmd.specs.Chain.{Texts}
use Rattle.mc_cmd.specs.Form.{Text, strip_end}
use Rattle.mc_cmd.specs.Packing.{Written, index_view, lines_at, most_functions, refusal, with_function}
use Rattle.mc_cmd.specs.Word.{is_function_name, is_small_byte}
use Rattle.mc_cmd.specs.declared.pack.AddFault.TheVariants as add
use Rattle.mc_cmd.specs.declared.pack.Index.{Index}
use Rattle.mc_cmd.proofs.FormLemmas.{and_first, and_then_some, strip_end_spells}
use Rattle.mc_cmd.proofs.TextLemmas.{is_low, all_low, low_ascii}
use Rattle.pk_files.specs.Folder.{IsDone, IsPackRead}
use Rattle.pk_files.specs.Held.{ListsFolder, ReadsEach, ReadsForm, ReadsFunctions, ReadsIndex, ReadsLines, ReadsTag, ReadsTags, few_enough}
use Rattle.pk_files.specs.Json.{index_said, meta_said}
use Rattle.pk_files.specs.Paths.{function_named, function_names, functions_of, tags_of}
use Rattle.pk_files.specs.Step.{Gives, ◌>>=◌}
use Rattle.pk_files.specs.Told.{told_of}
use Rattle.pk_files.specs.declared.fault.GetFault.{GetFault}
use Rattle.pk_files.specs.declared.fault.GetFault.TheVariants as faults
use Rattle.pk_files.specs.steps.Reading.{HasRoomFor, itself}
use Rattle.pk_files.proofs.StepLemmas.{by_error, goes_on, refused_first}

-- ---- the index and the tags

pub index_meta : (before one after : FilesState) (dir : Text) (names : Texts) (fault : GetFault)
    → IsDone itself before one (λ content. ListsFolder content dir) (Ok names)
    → IsDone itself one after (λ content. ReadsForm content dir names (codes "pack.mcmeta") faults.NoMeta meta_said) (Err fault)
    → IsDone index_view before after (λ content. ReadsIndex content dir) (Err fault)
index_meta before one after dir names fault list meta =
    goes_on itself index_view before one after (λ content. ListsFolder content dir) (λ content names. ReadsForm content dir names (codes "pack.mcmeta") faults.NoMeta meta_said >>= λ _. ReadsForm content dir names (codes "dpwasm.json") faults.BadIndex index_said) names (Err fault) list
    (refused_first itself index_view one after (λ content. ReadsForm content dir names (codes "pack.mcmeta") faults.NoMeta meta_said) (λ content _. ReadsForm content dir names (codes "dpwasm.json") faults.BadIndex index_said) fault meta)

pub index_exports : (before one two after : FilesState) (dir : Text) (names : Texts) (r : Result Index GetFault)
    → IsDone itself before one (λ content. ListsFolder content dir) (Ok names)
    → IsDone itself one two (λ content. ReadsForm content dir names (codes "pack.mcmeta") faults.NoMeta meta_said) (Ok (tt {0}))
    → IsDone index_view two after (λ content. ReadsForm content dir names (codes "dpwasm.json") faults.BadIndex index_said) r
    → IsDone index_view before after (λ content. ReadsIndex content dir) r
index_exports before one two after dir names r list meta exports =
    goes_on itself index_view before one after (λ content. ListsFolder content dir) (λ content names. ReadsForm content dir names (codes "pack.mcmeta") faults.NoMeta meta_said >>= λ _. ReadsForm content dir names (codes "dpwasm.json") faults.BadIndex index_said) names r list
    (goes_on itself index_view one two after (λ content. ReadsForm content dir names (codes "pack.mcmeta") faults.NoMeta meta_said) (λ content _. ReadsForm content dir names (codes "dpwasm.json") faults.BadIndex index_said) (tt {0}) r meta exports)

pub tags_load : (before one after : FilesState) (dir ns folder : Text) (names : Texts) (fault : GetFault) → folder ≡ tags_of dir
    → IsDone itself before one (λ content. ListsFolder content folder) (Ok names)
    → IsDone itself one after (λ content. ReadsTag content dir ns names (codes "load")) (Err fault)
    → IsDone itself before after (λ content. ReadsTags content dir ns) (Err fault)
tags_load before one after dir ns folder names fault at_folder list load =
    goes_on itself itself before one after (λ content. ListsFolder content (tags_of dir)) (λ content names. ReadsTag content dir ns names (codes "load") >>= λ _. ReadsTag content dir ns names (codes "tick")) names (Err fault)
    (subst (λ (f : Text). IsDone itself before one (λ content. ListsFolder content f) (Ok names)) at_folder list)
    (refused_first itself itself one after (λ content. ReadsTag content dir ns names (codes "load")) (λ content _. ReadsTag content dir ns names (codes "tick")) fault load)

pub tags_tick : (before one two after : FilesState) (dir ns folder : Text) (names : Texts) (r : Result (Unit {0}) GetFault) → folder ≡ tags_of dir
    → IsDone itself before one (λ content. ListsFolder content folder) (Ok names)
    → IsDone itself one two (λ content. ReadsTag content dir ns names (codes "load")) (Ok (tt {0}))
    → IsDone itself two after (λ content. ReadsTag content dir ns names (codes "tick")) r
    → IsDone itself before after (λ content. ReadsTags content dir ns) r
tags_tick before one two after dir ns folder names r at_folder list load tick =
    goes_on itself itself before one after (λ content. ListsFolder content (tags_of dir)) (λ content names. ReadsTag content dir ns names (codes "load") >>= λ _. ReadsTag content dir ns names (codes "tick")) names r
    (subst (λ (f : Text). IsDone itself before one (λ content. ListsFolder content f) (Ok names)) at_folder list)
    (goes_on itself itself one two after (λ content. ReadsTag content dir ns names (codes "load")) (λ content _. ReadsTag content dir ns names (codes "tick")) (tt {0}) r load tick)

-- ---- the functions

-- the next of some
pub drop_at : {X : Type 0} (xs : List X) (i : ℕ) (x : X) → i < length xs → x ≡ get_or xs i x → drop i xs ≡ x ∷ drop (i + 1) xs
drop_at xs i x lt e = rw add-one (drop-cons xs i x lt ∙ ap (λ y. y ∷ drop (suc i) xs) (sym e))

-- what reading of the functions left answers is what reading of all answers
pub record Continues (content : Option Folder) (folder : Text) (done : List (Text × Texts)) (left all : Texts) : Type 0 where
  pub ok : (rest : List (Text × Texts)) → ReadsEach content folder left (Ok rest) → ReadsEach content folder all (Ok (done ++ rest))
  pub err : (fault : GetFault) → ReadsEach content folder left (Err fault) → ReadsEach content folder all (Err fault)

pub begins : (content : Option Folder) (folder : Text) (all : Texts) → Continues content folder [] all all
begins content folder all = record { ok = λ rest h. h; err = λ fault h. h }

one_more : (content : Option Folder) (folder : Text) (done : List (Text × Texts)) (name : Text) (lines : Texts) (left all : Texts)
    → Continues content folder done (name ∷ left) all → ReadsLines content folder name (Ok lines) → Continues content folder (done ++ ((name, lines) ∷ [])) left all
one_more content folder done name lines left all c read = record {
  ok = λ rest h. subst (λ (fs : List (Text × Texts)). ReadsEach content folder all (Ok fs)) (sym (append_assoc done ((name, lines) ∷ []) rest)) (c.ok ((name, lines) ∷ rest) (lines, read, (rest, h, refl)));
  err = λ fault h. c.err fault (inr (lines, read, inl h));
}

-- a function that is read, and one that is refused
pub each_more : (before now after : FilesState) (folder : Text) (all : Texts) (i : ℕ) (name : Text) (lines : Texts) (done : List (Text × Texts))
    → i < length all → name ≡ get_or all i name → now ≡ before → Continues before.content folder done (drop i all) all
    → IsDone itself now after (λ content. ReadsLines content folder name) (Ok lines) → Continues before.content folder (done ++ ((name, lines) ∷ [])) (drop (i + 1) all) all
each_more before now after folder all i name lines done lt is same c read =
    one_more before.content folder done name lines (drop (i + 1) all) all
    (subst (λ (left : Texts). Continues before.content folder done left all) (drop_at all i name lt is) c)
    (subst (λ (f : FilesState). ReadsLines f.content folder name (Ok lines)) same read.0)

pub each_refused : (before now after : FilesState) (folder : Text) (all : Texts) (i : ℕ) (name : Text) (done : List (Text × Texts)) (fault : GetFault) (r : Result Written GetFault)
    → i < length all → name ≡ get_or all i name → now ≡ before → Continues before.content folder done (drop i all) all
    → IsDone itself now after (λ content. ReadsLines content folder name) (Err fault) → IsErr r × IsErrAnd r (λ x. x ≡ fault)
    → IsDone (λ (w : Written). w.functions) before after (λ content. ReadsEach content folder all) r
each_refused before now after folder all i name done fault r lt is same c read e =
    by_error (λ r. IsDone (λ (w : Written). w.functions) before after (λ content. ReadsEach content folder all) r) r fault e
    (let h = subst (λ (f : FilesState). IsDone itself f after (λ content. ReadsLines content folder name) (Err fault)) same read in
    let d = subst (λ (left : Texts). Continues before.content folder done left all) (drop_at all i name lt is) c in
    (elim h.0 [ inl m ↦ inl m | inr x ↦ inr (d.err fault (inl x)) ], h.1))

pub each_done : (before now : FilesState) (folder : Text) (all : Texts) (i : ℕ) (done : List (Text × Texts)) (w : Written)
    → length all ≤ i → now ≡ before → done ≡ w.functions → Continues before.content folder done (drop i all) all
    → IsDone (λ (w : Written). w.functions) before now (λ content. ReadsEach content folder all) (Ok w)
each_done before now folder all i done w le same is c =
    let d = subst (λ (left : Texts). Continues before.content folder done left all) (drop_of_length-le all le) c in
    (subst (λ (fs : List (Text × Texts)). ReadsEach before.content folder all (Ok fs)) (append-nil done ∙ is) (d.ok [] refl), same)

-- the room for the next function
pub next_room : (w : Written) (all : Texts) (i : ℕ) (name : Text) → i < length all → name ≡ get_or all i name → HasRoomFor w (drop i all) → HasRoomFor w (name ∷ drop (i + 1) all)
next_room w all i name lt is h = subst (λ (left : Texts). HasRoomFor w left) (drop_at all i name lt is) h

-- too many, and few enough
many : (names : Texts) → most_functions < length names → Err (faults.TooMany (length names)) ≡ few_enough names
many names lt =
    let e : nat_le (length names) most_functions ≡ false = grind (arith, nat_tests) in
    ap (λ b. if b then Ok names else Err (faults.TooMany (length names))) (sym e)

pub few : (names : Texts) → length names ≤ most_functions → Ok names ≡ few_enough names
few names le =
    let e : nat_le (length names) most_functions ≡ true = grind (arith, nat_tests) in
    ap (λ b. if b then Ok names else Err (faults.TooMany (length names))) (sym e)

pub functions_many : (before after : FilesState) (folder there : Text) (files names : Texts) (found : ℕ) → there ≡ folder
    → IsDone itself before after (λ content. ListsFolder content there) (Ok files) → names ≡ function_names files → found ≡ length names → most_functions < length names
    → IsDone (λ (w : Written). w.functions) before after (λ content. ReadsFunctions content folder) (Err (faults.TooMany found))
functions_many before after folder there files names found at_folder list is count lt =
    let l = subst (λ (f : Text). IsDone itself before after (λ content. ListsFolder content f) (Ok files)) at_folder list in
    let refused : Gives (few_enough (function_names files)) (Err (faults.TooMany found)) = ap (λ n. Err (faults.TooMany n)) count ∙ many names lt ∙ ap few_enough is in
    (inr (inr (files, l.0, inl refused)), l.1)

pub functions_few : (before one after : FilesState) (folder there : Text) (files names : Texts) (r : Result Written GetFault) → there ≡ folder
    → IsDone itself before one (λ content. ListsFolder content there) (Ok files) → names ≡ function_names files → length names ≤ most_functions
    → IsDone (λ (w : Written). w.functions) one after (λ content. ReadsEach content there names) r
    → IsDone (λ (w : Written). w.functions) before after (λ content. ReadsFunctions content folder) r
functions_few before one after folder there files names r at_folder list is le each =
    let l = subst (λ (f : Text). IsDone itself before one (λ content. ListsFolder content f) (Ok files)) at_folder list in
    let e = subst (λ (f : Text). IsDone (λ (w : Written). w.functions) one after (λ content. ReadsEach content f names) r) at_folder each in
    let enough : Gives (few_enough (function_names files)) (Ok names) = few names le ∙ ap few_enough is in
    goes_on itself (λ (w : Written). w.functions) before one after (λ content. ListsFolder content folder) (λ content files. Gives (few_enough (function_names files)) >>= λ names. ReadsEach content folder names) files r l
    (goes_on itself (λ (w : Written). w.functions) one one after (λ content. Gives (few_enough (function_names files))) (λ content names. ReadsEach content folder names) names r (enough, refl) e)

-- ---- names that differ

-- the name of a function, by that of its file
pub named_by : (file name : Text) → function_named file ≡ Some name → (file ≡ name ++ codes ".mcfunction") × (is_function_name name ≡ true)
named_by file name e =
    let p = and_then_some (λ n. if is_function_name n then Some n else None) (strip_end (codes ".mcfunction") file) name e in
    let q = passes p.0 name p.2 in
    (strip_end_spells (codes ".mcfunction") file name (p.1 ∙ ap Some q.0), subst (λ n. is_function_name n ≡ true) q.0 q.1)
  where
    passes : (a b : Text) → (if is_function_name a then Some a else None) ≡ Some b → (a ≡ b) × (is_function_name a ≡ true)
    passes a b h = go (is_function_name a) refl h
      where
        go : (t : Bool) → is_function_name a ≡ t → (if t then Some a else None) ≡ Some b → (a ≡ b) × (is_function_name a ≡ true)
        go true f h = (cc, f)
        go false f h = absurd cc

abbrev pub AreApart : Texts → Type 0
AreApart [] = Unit {0}
AreApart (n ∷ ns) = AllByRecursion (λ m. bytes_eq m n ≡ false) ns × AreApart ns

not_less : (f : Text) → slice_cmp nat_cmp f f ≡ Less → ⊥
not_less f e = let t = tied_itself nat_list_cmp_total f in let g : Less ≡ Equal = sym e ∙ t in absurd cc

apart_one : (f n : Text) (fs : Texts) → function_named f ≡ Some n → AllByRecursion (λ y. slice_cmp nat_cmp f y ≡ Less) fs → AllByRecursion (λ m. bytes_eq m n ≡ false) (filter_map function_named fs)
apart_one f n [] e h = tt
apart_one f n (y ∷ fs) e h = go (function_named y) refl (apart_one f n fs e h.1)
  where
    differ : (m : Text) → function_named y ≡ Some m → bytes_eq m n ≡ false
    differ m g = try (bytes_eq m n) refl
      where
        try : (b : Bool) → bytes_eq m n ≡ b → bytes_eq m n ≡ false
        try false q = q
        try true q =
            let one : m ≡ n = (bytes_eq-Decides m n).0 q in
            let same : y ≡ f = (named_by y m g).0 ∙ ap (λ k. k ++ codes ".mcfunction") one ∙ sym (named_by f n e).0 in
            absurd (not_less f (subst (λ z. slice_cmp nat_cmp f z ≡ Less) same h.0))

    go : (o : Option Text) → function_named y ≡ o → AllByRecursion (λ m. bytes_eq m n ≡ false) (filter_map function_named fs) → AllByRecursion (λ m. bytes_eq m n ≡ false) (cons_option o (filter_map function_named fs))
    go None g rest = rest
    go (Some m) g rest = (differ m g, rest)

pub apart_names : (files : Texts) → IsRising files → AreApart (filter_map function_named files)
unfolding IsStrictlySortedBy
apart_names [] h = tt
apart_names (f ∷ fs) h = go (function_named f) refl (apart_names fs h.1)
  where
    go : (o : Option Text) → function_named f ≡ o → AreApart (filter_map function_named fs) → AreApart (cons_option o (filter_map function_named fs))
    go None g rest = rest
    go (Some n) g rest = (apart_one f n fs g h.0, rest)

are_names : (files : Texts) → AllByRecursion (λ n. is_function_name n ≡ true) (filter_map function_named files)
are_names [] = tt
are_names (f ∷ fs) = go (function_named f) refl (are_names fs)
  where
    go : (o : Option Text) → function_named f ≡ o → AllByRecursion (λ n. is_function_name n ≡ true) (filter_map function_named fs) → AllByRecursion (λ n. is_function_name n ≡ true) (cons_option o (filter_map function_named fs))
    go None g rest = rest
    go (Some n) g rest = ((named_by f n g).1, rest)

-- a name that stands nowhere, and isn't the new one
still_none : (m n : Text) (lines : Texts) (es : List (Text × Texts)) → lookup (bytes_eq m) es ≡ None → bytes_eq m n ≡ false → lookup (bytes_eq m) (es ++ ((n, lines) ∷ [])) ≡ None
still_none m n lines [] h e = ap (λ b. cond b (Some lines) None) e
still_none m n lines (x ∷ es) h e = go (bytes_eq m x.0) h (λ g. still_none m n lines es g e)
  where
    go : (b : Bool) → cond b (Some x.1) (lookup (bytes_eq m) es) ≡ None → (lookup (bytes_eq m) es ≡ None → lookup (bytes_eq m) (es ++ ((n, lines) ∷ [])) ≡ None) → cond b (Some x.1) (lookup (bytes_eq m) (es ++ ((n, lines) ∷ []))) ≡ None
    go true h rest = absurd cc
    go false h rest = rest h

all_still : (w : Written) (n : Text) (lines : Texts) (ns : Texts) → AllByRecursion (λ m. lines_at w m ≡ None) ns → AllByRecursion (λ m. bytes_eq m n ≡ false) ns → AllByRecursion (λ m. lines_at (with_function w n lines) m ≡ None) ns
all_still w n lines [] h e = tt
all_still w n lines (m ∷ ns) h e = (still_none m n lines w.functions h.0 e.0, all_still w n lines ns h.1 e.1)

may_stand : (w : Written) (n : Text) → lines_at w n ≡ None → length w.functions < most_functions → refusal w n ≡ None
may_stand w n h lt =
    let e : nat_le most_functions (length w.functions) ≡ false = grind (arith, nat_tests) in
    ap (λ o. if is_some o then Some add.Twice else if nat_le most_functions (length w.functions) then Some add.Full else None) h
    ∙ ap (λ b. if b then Some add.Full else None) e

room : (w : Written) (names : Texts) → AllByRecursion (λ n. lines_at w n ≡ None) names → AreApart names → AllByRecursion (λ n. is_function_name n ≡ true) names → length w.functions + length names ≤ most_functions → HasRoomFor w names
room w [] new apart named le = tt
room w (n ∷ ns) new apart named le =
    (named.0, may_stand w n new.0 (omega arith), λ lines. room (with_function w n lines) ns (all_still w n lines ns new.1 apart.0) apart.1 named.1 (rw length-append (omega arith)))

none_yet : (index : Index) (names : Texts) → AllByRecursion (λ n. lines_at (record { index = index; functions = [] }) n ≡ None) names
none_yet index [] = tt
none_yet index (n ∷ ns) = (refl, none_yet index ns)

-- a new pack has room for the functions of a listing
pub room_for : (index : Index) (files names : Texts) → IsRising files → names ≡ function_names files → length names ≤ most_functions → HasRoomFor (record { index = index; functions = [] }) names
room_for index files names rising is le =
    let w : Written = record { index = index; functions = [] } in
    let le' = subst (λ (ns : Texts). length ns ≤ most_functions) is le in
    subst (λ (ns : Texts). HasRoomFor w ns) (sym is) (room w (function_names files) (none_yet index _) (apart_names files rising) (are_names files) (omega (arith, le')))

-- the name of a function is ASCII
small_low : (b : ℕ) → is_small_byte b ≡ true → is_low b ≡ true
small_low b h = grind (arith, nat_tests)

pub function_utf8 : (w : Text) → is_function_name w ≡ true → IsUtf8 w
function_utf8 w h = IsUtf8-from_ascii w (low_ascii w (all_low is_small_byte small_low w (and_first _ _ h)))

-- ---- the pack

pub pack_index : (before after : FilesState) (dir : Text) (fault : GetFault) → IsDone index_view before after (λ content. ReadsIndex content dir) (Err fault) → IsPackRead before after dir (Err fault)
pack_index before after dir fault h = (elim h.0 [ inl m ↦ inl m | inr e ↦ inr (inl e) ], h.1)

pub pack_tags : (before one after : FilesState) (dir : Text) (index : Index) (fault : GetFault)
    → IsDone index_view before one (λ content. ReadsIndex content dir) (Ok index)
    → IsDone itself one after (λ content. ReadsTags content dir index.ns) (Err fault)
    → IsPackRead before after dir (Err fault)
pack_tags before one after dir index fault i tags =
    let t = subst (λ (f : FilesState). IsDone itself f after (λ content. ReadsTags content dir index.ns) (Err fault)) i.1 tags in
    (elim t.0 [ inl m ↦ inl m | inr e ↦ inr (inr (index_view index, i.0, inl e)) ], t.1)

pub pack_functions : (before one two after : FilesState) (dir : Text) (index : Index) (r : Result Written GetFault)
    → IsDone index_view before one (λ content. ReadsIndex content dir) (Ok index)
    → IsDone itself one two (λ content. ReadsTags content dir index.ns) (Ok (tt {0}))
    → IsDone (λ (w : Written). w.functions) two after (λ content. ReadsFunctions content (functions_of dir index.ns)) r
    → IfOk r (λ w. w.index ≡ index)
    → IsPackRead before after dir r
pack_functions before one two after dir index r i tags functions same =
    go r
    (subst (λ (f : FilesState). IsDone (λ (w : Written). w.functions) f after (λ content. ReadsFunctions content (functions_of dir index.ns)) r) (tags.1 ∙ i.1) functions) same
  where
    there : ReadsTags before.content dir index.ns (Ok (tt {0}))
    there = subst (λ (f : FilesState). ReadsTags f.content dir index.ns (Ok (tt {0}))) i.1 tags.0

    go : (r : Result Written GetFault) → IsDone (λ (w : Written). w.functions) before after (λ content. ReadsFunctions content (functions_of dir index.ns)) r → IfOk r (λ w. w.index ≡ index) → IsPackRead before after dir r
    go (Ok w) f same = ((index_view index, i.0, (tt, there, (w.functions, f.0, ap (λ (n : Index). Ok (told_of (record { index = n; functions = w.functions }))) same))), f.1)
    go (Err fault) f same = (elim f.0 [ inl m ↦ inl m | inr e ↦ inr (inr (index_view index, i.0, inr (tt, there, inl e))) ], f.1)
