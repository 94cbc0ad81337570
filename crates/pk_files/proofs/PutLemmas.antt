-- Files that are put one after the other.
use Rattle.std.proofs.Common.{Bor, ◌≡◌, ◌∙◌, sym, ap, subst, refl, inl, inr, ℕ, suc, zero, ◌+◌, ◌<◌, List, [], ◌∷◌, ◌++◌, Bool, true, false, cond, length, map, drop, ◌≤◌, Option, Some, None, Result, Ok, Err, add-one, arith}
use Rattle.std.specs.Prelude.{IsErr, IsErrAnd, is_none, nat_le, option_map, slice_get}
use Rattle.std.specs.Option.{option_copied}
use Rattle.std.specs.List.{list_all}
use Rattle.std.specs.Map.{lookup, keys_of}
use Rattle.std.specs.Str.{bytes_eq}
use Rattle.std.proofs.lemmas.Option.{slice_get-map}
use Rattle.std.proofs.lemmas.Slice.Eq.{bytes_eq-Decides}
use Rattle.io_dev.specs.Files.{FilesState}
use Rattle.io_dev.specs.Folder.{Folder, with_file}
use Rattle.io_dev.specs.Names.{IsListingOf}
use Rattle.mc_cmd.specs.Form.{Text}
use Rattle.mc_cmd.specs.Chain.{Texts}
use Rattle.mc_cmd.specs.Packing.{Written, index_view, is_entry, is_pack_namespace, is_written, lines_at, most_functions, names, names_differ}
use Rattle.mc_cmd.specs.Lines.{file_text}
use Rattle.mc_cmd.specs.declared.pack.Index.{Index}
use Rattle.mc_cmd.proofs.FormLemmas.{and_first, and_second, bytes_refl, some_same}
use Rattle.pk_files.specs.Folder.{IsBegun, IsPackWritten, IsSeen}
use Rattle.pk_files.specs.Paths.{at, function_file, functions_of}
use Rattle.pk_files.specs.Put.{File, IsReadBack, StopsAt, function_files, function_written, last_files, pack_files, put_all}
use Rattle.pk_files.specs.Told.{told_of}
use Rattle.pk_files.specs.declared.fault.PutFault.{PutFault}
use Rattle.pk_files.specs.declared.fault.PutFault.TheVariants as put
use Rattle.pk_files.specs.steps.Writing.{ArePut, with_files}
use Rattle.pk_files.proofs.StepLemmas.{by_error}

-- some files and then others
pub put_all-append : (content : Option Folder) (fs gs : List File) → put_all content (fs ++ gs) ≡ put_all (put_all content fs) gs
put_all-append content [] gs = refl
put_all-append content (f ∷ fs) gs = put_all-append (with_file content f.0 f.1) fs gs

-- a stop among the first of them, and one behind them
pub stops_front : (before after : Option Folder) (fs gs : List File) (path : Text) → StopsAt before after fs path → StopsAt before after (fs ++ gs) path
stops_front before after [] gs path h = absurd h
stops_front before after (f ∷ fs) gs path (inl h) = inl h
stops_front before after (f ∷ fs) gs path (inr h) = inr (stops_front (with_file before f.0 f.1) after fs gs path h)

pub stops_behind : (before after : Option Folder) (fs gs : List File) (path : Text) → StopsAt (put_all before fs) after gs path → StopsAt before after (fs ++ gs) path
stops_behind before after [] gs path h = h
stops_behind before after (f ∷ fs) gs path h = inr (stops_behind (with_file before f.0 f.1) after fs gs path h)

pub put_front : (before after : FilesState) (fs gs : List File) (fault : PutFault) → ArePut before after fs (Err fault) → ArePut before after (fs ++ gs) (Err fault)
put_front before after fs gs (put.NotEmpty name) h = absurd h
put_front before after fs gs (put.ListFailed path) h = absurd h
put_front before after fs gs (put.Failed path) h = (stops_front _ _ fs gs path h.0, h.1, h.2, h.3)
put_front before after fs gs put.Memory h = ((h.0.0, stops_front _ _ fs gs h.0.0 h.0.1), h.1)

pub put_behind : (before middle after : FilesState) (fs gs : List File) (r : Result (Unit {0}) PutFault) → ArePut before middle fs (Ok tt) → ArePut middle after gs r → ArePut before after (fs ++ gs) r
put_behind before middle after fs gs r first second = go r (subst (λ (f : FilesState). ArePut f after gs r) first second)
  where
    go : (r : Result (Unit {0}) PutFault) → ArePut (with_files before fs) after gs r → ArePut before after (fs ++ gs) r
    go (Ok u) h = h ∙ ap (λ (content : Option Folder). record before { content = content }) (sym (put_all-append before.content fs gs))
    go (Err (put.NotEmpty name)) h = absurd h
    go (Err (put.ListFailed path)) h = absurd h
    go (Err (put.Failed path)) h = (stops_behind _ _ fs gs path h.0, h.1, h.2, h.3)
    go (Err put.Memory) h = ((h.0.0, stops_behind _ _ fs gs h.0.0 h.0.1), h.1)

-- nothing is put where memory is wanting
pub none_put : (s : FilesState) (f : File) (r : Result (Unit {0}) PutFault) → IsErr r × IsErrAnd r (λ x. x ≡ put.Memory) → ArePut s s (f ∷ []) r
none_put s f r e = by_error (λ r. ArePut s s (f ∷ []) r) r put.Memory e ((f.0, inl (refl, inl refl)), refl)

nothing_put : (s : FilesState) (fs : List File) → 0 < length fs → ArePut s s fs (Err put.Memory)
nothing_put s [] lt = absurd (omega (arith, lt))
nothing_put s (f ∷ fs) lt = ((f.0, inl (refl, inl refl)), refl)

-- what the writing of the files left leaves is what the writing of all leaves
abbrev pub PutsOn : FilesState → FilesState → List File → List File → Type 0
PutsOn first now left all = (after : FilesState) (r : Result (Unit {0}) PutFault) → ArePut now after left r → ArePut first after all r

pub puts_more : (first now next : FilesState) (f : File) (left all : List File) → PutsOn first now (f ∷ left) all → ArePut now next (f ∷ []) (Ok (tt {0})) → PutsOn first next left all
puts_more first now next f left all on done = λ after r h. on after r (put_behind now next after (f ∷ []) left r done h)

pub puts_stop : (first now after : FilesState) (f : File) (left all : List File) (fault : PutFault) (r : Result (Unit {0}) PutFault) → PutsOn first now (f ∷ left) all → ArePut now after (f ∷ []) (Err fault) → IsErr r × IsErrAnd r (λ x. x ≡ fault) → ArePut first after all r
puts_stop first now after f left all fault r on stop e = by_error (λ r. ArePut first after all r) r fault e (on after (Err fault) (put_front now after (f ∷ []) left fault stop))

pub puts_none : (first now : FilesState) (left all : List File) (r : Result (Unit {0}) PutFault) → PutsOn first now left all → 0 < length left → IsErr r × IsErrAnd r (λ x. x ≡ put.Memory) → ArePut first now all r
puts_none first now left all r on some e = by_error (λ r. ArePut first now all r) r put.Memory e (on now (Err put.Memory) (nothing_put now left some))

pub puts_end : (first now : FilesState) (left all : List File) → PutsOn first now left all → left ≡ [] → ArePut first now all (Ok (tt {0}))
puts_end first now left all on e = on now (Ok tt) (subst (λ (fs : List File). ArePut now now fs (Ok (tt {0}))) (sym e) refl)

-- the element at a place, and those behind it
pub drop_get : {X : Type 0} (xs : List X) (k : ℕ) (x : X) → slice_get xs k ≡ Some x → drop k xs ≡ x ∷ drop (k + 1) xs
drop_get xs k x e = rw add-one (go xs k e)
  where
    go : (xs : List _) (k : ℕ) → slice_get xs k ≡ Some x → drop k xs ≡ x ∷ drop (suc k) xs
    go [] k e = absurd cc
    go (y ∷ xs) zero e = let h : y ≡ x = cc in ap (λ z. z ∷ xs) h
    go (y ∷ xs) (suc k) e = go xs k e

-- a function of a pack, by its place and by its name
pub function_at : (w : Written) (at : ℕ) (name : Text) → is_written w ≡ true → slice_get (names w) at ≡ Some name → (lines : Texts) × (slice_get w.functions at ≡ Some (name, lines)) × (lines_at w name ≡ Some lines)
function_at w at name h e = go w.functions at (and_second (list_all is_entry w.functions) _ (and_second (nat_le (length w.functions) most_functions) _ (and_second (is_pack_namespace w.index.ns) _ h))) e
  where
    go : (es : List (Text × Texts)) (k : ℕ) → names_differ es ≡ true → slice_get (keys_of es) k ≡ Some name → (lines : Texts) × (slice_get es k ≡ Some (name, lines)) × (lookup (bytes_eq name) es ≡ Some lines)
    go [] k d e = absurd cc
    go (x ∷ es) zero d e =
        let same : x.0 ≡ name = cc in
        (x.1, ap (λ (n : Text). Some (n, x.1)) same, ap (λ b. cond b (Some x.1) (lookup (bytes_eq name) es)) (ap (λ n. bytes_eq name n) same ∙ bytes_refl name))
    go (x ∷ es) (suc k) d e =
        let rest = go es k (and_second (is_none (lookup (bytes_eq x.0) es)) _ d) e in
        (rest.0, rest.1, ap (λ b. cond b (Some x.1) (lookup (bytes_eq name) es)) (other (bytes_eq name x.0) refl rest.0 rest.2) ∙ rest.2)
      where
        other : (b : Bool) → bytes_eq name x.0 ≡ b → (lines : Texts) → lookup (bytes_eq name) es ≡ Some lines → bytes_eq name x.0 ≡ false
        other false q lines f = q
        other true q lines f =
            let none : is_none (lookup (bytes_eq name) es) ≡ true = ap (λ n. is_none (lookup (bytes_eq n) es)) ((bytes_eq-Decides name x.0).0 q) ∙ and_first (is_none (lookup (bytes_eq x.0) es)) _ d in
            let some : is_none (lookup (bytes_eq name) es) ≡ false = ap is_none f in
            absurd cc

-- its file
pub file_at : (w : Written) (folder : Text) (at : ℕ) (name : Text) (lines : Texts) → slice_get w.functions at ≡ Some (name, lines) → slice_get (map (function_written folder) w.functions) at ≡ Some (function_written folder (name, lines))
file_at w folder at name lines e = slice_get-map (function_written folder) w.functions at ∙ ap (option_map (function_written folder)) e

pub file_is : (w : Written) (folder : Text) (k : ℕ) (n name : Text) (lines : Texts) (path bytes : Text) → is_written w ≡ true → slice_get (names w) k ≡ Some n → name ≡ n → Some lines ≡ lines_at w name → path ≡ at folder (function_file name) → bytes ≡ file_text lines
    → Some (path, bytes) ≡ slice_get (map (function_written folder) w.functions) k
file_is w folder k n name lines path bytes h e same found is_path is_bytes =
    let f = function_at w k n h e in
    let one : lines ≡ f.0 = some_same _ _ (found ∙ ap (lines_at w) same ∙ f.2) in
    sym (file_at w folder k n f.0 f.1
    ∙ ap (λ (m : Text). Some (at folder (function_file m), file_text f.0)) (sym same)
    ∙ ap (λ (p : Text). Some (p, file_text f.0)) (sym is_path)
    ∙ ap (λ (b : Text). Some (path, b)) (ap file_text (sym one) ∙ sym is_bytes))

pub no_lines : (w : Written) (k : ℕ) (n name : Text) → is_written w ≡ true → slice_get (names w) k ≡ Some n → name ≡ n → None ≡ lines_at w name → ⊥
no_lines w k n name h e same none =
    let f = function_at w k n h e in
    let g : None ≡ Some f.0 = none ∙ ap (lines_at w) same ∙ f.2 in
    absurd cc

-- the elements left
pub some_left : {X Y : Type 0} (f : X → Y) (xs : List X) (k : ℕ) → k < length xs → 0 < length (drop k (map f xs))
some_left f [] k lt = absurd (omega (arith, lt))
some_left f (x ∷ xs) zero lt = omega arith
some_left f (x ∷ xs) (suc k) lt = some_left f xs k (omega (arith, lt))

pub none_left : {X Y : Type 0} (f : X → Y) (xs : List X) (k : ℕ) → length xs ≤ k → drop k (map f xs) ≡ []
none_left f [] zero le = refl
none_left f [] (suc k) le = refl
none_left f (x ∷ xs) zero le = absurd (omega (arith, le))
none_left f (x ∷ xs) (suc k) le = none_left f xs k (omega (arith, le))

pub four : {X : Type 0} (a b c d e f g h : X) → a ≡ e → b ≡ f → c ≡ g → d ≡ h → a ∷ b ∷ c ∷ d ∷ [] ≡ e ∷ f ∷ g ∷ h ∷ []
four a b c d e f g h p q r s = λ i. p i ∷ q i ∷ r i ∷ s i ∷ []

-- a listing without a first name is empty
pub none_first : {X : Type 0} (xs : List X) (o : Option (Bor X)) → option_copied o ≡ slice_get xs 0 → o ≡ None → xs ≡ []
none_first [] o v e = refl
none_first (x ∷ xs) o v e = let g : None ≡ Some x = sym (ap option_copied e) ∙ v in absurd cc

-- what refuses an empty folder refuses the pack that was to be written into it
pub unseen : (before after : FilesState) (dir : Text) (w : Written) (fault : PutFault) → IsSeen before after dir (Err fault) → IsPackWritten before after dir w (Err fault)
unseen before after dir w (put.NotEmpty name) h = h
unseen before after dir w (put.ListFailed path) h = h
unseen before after dir w (put.Failed path) h = absurd h
unseen before after dir w put.Memory h = inl h

pub begun : (before : FilesState) (dir : Text) (w : Written) (index : Index) → IsListingOf before.content dir [] → index ≡ w.index → IsReadBack (index_view index) → IsBegun before dir (told_of w)
begun before dir w index bare same back = record { bare = bare; read_back = subst (λ (i : Index). IsReadBack (index_view i)) same back }

-- the files of a pack, once the folder was found empty
pub pack_put : (before after : FilesState) (dir : Text) (w : Written) (r : Result (Unit {0}) PutFault) → IsBegun before dir (told_of w) → ArePut before after (pack_files dir (told_of w)) r → IsPackWritten before after dir w r
pack_put before after dir w (Ok u) begun h = (begun, h)
pack_put before after dir w (Err (put.NotEmpty name)) begun h = absurd h
pack_put before after dir w (Err (put.ListFailed path)) begun h = absurd h
pack_put before after dir w (Err (put.Failed path)) begun h = (begun, record { stops = h.0; counted = h.1; at = h.2; same_reads = h.3 })
pack_put before after dir w (Err put.Memory) begun h = inr (begun, record { path = h.0.0; stops = h.0.1; same = h.1 })

pub pack_stopped : (before after : FilesState) (dir folder : Text) (w : Written) (index : Index) (fault : PutFault) (r : Result (Unit {0}) PutFault)
    → IsBegun before dir (told_of w) → index ≡ w.index → folder ≡ functions_of dir index.ns
    → ArePut before after (map (function_written folder) w.functions) (Err fault) → IsErr r × IsErrAnd r (λ x. x ≡ fault) → IsPackWritten before after dir w r
pack_stopped before after dir folder w index fault r b is at_folder h e =
    by_error (λ r. IsPackWritten before after dir w r) r fault e
    (pack_put before after dir w (Err fault) b (put_front before after (function_files dir w.index.ns w.functions) (last_files dir (index_view w.index)) fault
    (subst (λ (f : Text). ArePut before after (map (function_written f) w.functions) (Err fault)) (at_folder ∙ ap (λ (i : Index). functions_of dir i.ns) is) h)))

pub pack_done : (before two after : FilesState) (dir folder : Text) (w : Written) (index : Index) (last : List File) (r : Result (Unit {0}) PutFault)
    → IsBegun before dir (told_of w) → index ≡ w.index → folder ≡ functions_of dir index.ns
    → ArePut before two (map (function_written folder) w.functions) (Ok (tt {0})) → last ≡ last_files dir (index_view index) → ArePut two after last r → IsPackWritten before after dir w r
pack_done before two after dir folder w index last r b is at_folder h are_last g =
    pack_put before after dir w r b (put_behind before two after (function_files dir w.index.ns w.functions) (last_files dir (index_view w.index)) r
    (subst (λ (f : Text). ArePut before two (map (function_written f) w.functions) (Ok (tt {0}))) (at_folder ∙ ap (λ (i : Index). functions_of dir i.ns) is) h)
    (subst (λ (fs : List File). ArePut two after fs r) (are_last ∙ ap (λ (i : Index). last_files dir (index_view i)) is) g))
