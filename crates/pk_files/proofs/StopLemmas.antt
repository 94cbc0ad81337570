-- What is read of a folder where the writing of a pack stopped.
use Rattle.std.proofs.Common.{◌≡◌, ◌∙◌, sym, ap, subst, refl, inl, inr, ◌⊎◌, ℕ, ◌≤◌, List, [], ◌∷◌, ◌++◌, Bool, true, false, cond, Option, Some, None, Err, map, take, length, codes, append_assoc, arith}
use Rattle.std.specs.Prelude.{is_some, nat_lt}
use Rattle.std.specs.List.{AllByRecursion, list_any}
use Rattle.std.specs.Str.{bytes_eq}
use Rattle.std.specs.FinMap.{get, get-insert, insert}
use Rattle.std.specs.Cmp.Lexicographic.{nat_list_cmp_total}
use Rattle.std.proofs.lemmas.Bool.Decides.{nat_tests}
use Rattle.std.proofs.lemmas.Cmp.{nat_list_eq_equiv}
use Rattle.std.proofs.lemmas.Map.Text.{is_eq-slice_cmp}
use Rattle.std.proofs.lemmas.Map.Views.{Contains-from_any}
use Rattle.std.proofs.lemmas.Slice.Eq.{bytes_eq-Decides}
use Rattle.std.proofs.lemmas.List.{length-take, take_all}
use Rattle.io_dev.specs.Folder.{Folder, with_file}
use Rattle.io_dev.specs.Names.{IsListing, first_part}
use Rattle.mc_cmd.specs.Chain.{Texts}
use Rattle.mc_cmd.specs.Form.{Text}
use Rattle.mc_cmd.specs.Pack.{Index}
use Rattle.mc_cmd.specs.Packing.{Written, index_view}
use Rattle.mc_cmd.proofs.FormLemmas.{bytes_refl}
use Rattle.serde_json.specs.Written.{compact_text}
use Rattle.pk_files.specs.Held.{IsRefused, ReadsForm, said_or}
use Rattle.pk_files.specs.Json.{index_data, meta_data, meta_said}
use Rattle.pk_files.specs.Paths.{at, function_file, functions_of, tag_file, tags_of}
use Rattle.pk_files.specs.Put.{File, StopsAt, function_files, function_written, pack_files, put_all, tag_written}
use Rattle.pk_files.specs.Told.{told_of}
use Rattle.pk_files.specs.declared.fault.GetFault.TheVariants as faults
use Rattle.pk_files.proofs.HeldLemmas.{contains_none}
use Rattle.pk_files.proofs.HoldsLemmas.{first_whole}
use Rattle.pk_files.proofs.ListingLemmas.{listing_of}
use Rattle.pk_files.proofs.MetaLemmas.{beginning_unsaid, meta_text, text_is}
use Rattle.pk_files.proofs.PutLemmas.{put_all-append}
use Rattle.pk_files.proofs.StepLemmas.{is_there, unlisted}
use Rattle.pk_files.proofs.WrittenLemmas.{apart_from, at_eq, in_tags, inserts, put_all-told}

-- a stop among some files, or among the others behind them
split : (before after : Option Folder) (fs gs : List File) (path : Text) → StopsAt before after (fs ++ gs) path → StopsAt before after fs path ⊎ StopsAt (put_all before fs) after gs path
split before after [] gs path h = inr h
split before after (f ∷ fs) gs path (inl h) = inl (inl h)
split before after (f ∷ fs) gs path (inr h) = elim (split (with_file before f.0 f.1) after fs gs path h) [ inl a ↦ inl (inr a) | inr b ↦ inr b ]

-- no file stands at this path
abbrev IsBare : Text → Option Folder → Type 0
IsBare q after = (folder : Folder) × (after ≡ Some folder) × (get folder q ≡ None)

other_path : (m : Folder) (p bytes q : Text) → bytes_eq q p ≡ false → get (insert m p bytes) q ≡ get m q
other_path m p bytes q e = get-insert nat_list_cmp_total m p bytes q ∙ ap (λ b. cond b (Some bytes) (get m q)) (is_eq-slice_cmp q p ∙ e)

still_bare : (m : Folder) (fs : List File) (q path : Text) (after : Option Folder) → AllByRecursion (λ f. bytes_eq q f.0 ≡ false) fs → get m q ≡ None → StopsAt (Some m) after fs path → IsBare q after
still_bare m [] q path after apart none h = absurd h
still_bare m (f ∷ fs) q path after apart none (inl (e, inl same)) = (m, same, none)
still_bare m (f ∷ fs) q path after apart none (inl (e, inr (n, put))) = (insert m f.0 (take n f.1), put, other_path m f.0 (take n f.1) q apart.0 ∙ none)
still_bare m (f ∷ fs) q path after apart none (inr h) = still_bare (insert m f.0 f.1) fs q path after apart.1 (other_path m f.0 f.1 q apart.0 ∙ none) h

all_bare : (m : Folder) (fs : List File) (q : Text) → AllByRecursion (λ f. bytes_eq q f.0 ≡ false) fs → get m q ≡ None → get (inserts m fs) q ≡ None
all_bare m [] q apart none = none
all_bare m (f ∷ fs) q apart none = all_bare (insert m f.0 f.1) fs q apart.1 (other_path m f.0 f.1 q apart.0 ∙ none)

-- a folder without `pack.mcmeta`, or with bytes there that aren't of its form, has no pack
no_meta : (folder : Folder) (dir : Text) → get folder (at dir (codes "pack.mcmeta")) ≡ None → IsRefused (Some folder) dir faults.NoMeta
no_meta folder dir none =
    let list = listing_of folder dir in
    inl (inr (list.0, (list.1, list.2), inl (inl (unlisted list.0 (codes "pack.mcmeta") faults.NoMeta (go list.0 list.1 (list_any (bytes_eq (codes "pack.mcmeta")) list.0) refl)))))
  where
    go : (names : Texts) → IsListing folder dir names → (b : Bool) → list_any (bytes_eq (codes "pack.mcmeta")) names ≡ b → list_any (bytes_eq (codes "pack.mcmeta")) names ≡ false
    go names listing false e = e
    go names listing true e =
        let s = (listing (codes "pack.mcmeta")).0 (Contains-from_any (λ x y h. (bytes_eq-Decides x y).0 h) (codes "pack.mcmeta") names e) in
        let whole : s.2.rest ≡ codes "pack.mcmeta" = first_whole s.2.rest (codes "pack.mcmeta") s.2.is_first refl in
        let bad : false ≡ true = sym (ap is_some none) ∙ ap (λ r. is_some (get folder (at dir r))) (sym whole) ∙ ap (λ path. is_some (get folder path)) (sym s.2.is_below) ∙ s.1 in
        absurd cc

bad_meta : (folder : Folder) (dir bytes : Text) → get folder (at dir (codes "pack.mcmeta")) ≡ Some bytes → length bytes ≤ 16777216 → meta_said bytes ≡ None → IsRefused (Some folder) dir faults.NoMeta
bad_meta folder dir bytes e le unsaid =
    let list = listing_of folder dir in
    inl (inr (list.0, (list.1, list.2), inl (go list.0 (list_any (bytes_eq (codes "pack.mcmeta")) list.0) refl)))
  where
    go : (names : Texts) (b : Bool) → list_any (bytes_eq (codes "pack.mcmeta")) names ≡ b → ReadsForm (Some folder) dir names (codes "pack.mcmeta") faults.NoMeta meta_said (Err faults.NoMeta)
    go names false f = inl (unlisted names (codes "pack.mcmeta") faults.NoMeta f)
    go names true f = inr (tt, is_there names (codes "pack.mcmeta") faults.NoMeta f, inr (bytes, record { is_file = e; within = le }, sym (ap (said_or faults.NoMeta) unsaid)))

-- nothing stands below a folder without a name
nothing_stands : (m : Folder) (dir : Text) → IsListing m dir [] → (rest : Text) → (rest ≡ [] → ⊥) → get m (at dir rest) ≡ None
nothing_stands m dir bare rest some = go (get m (at dir rest)) refl
  where
    go : (o : Option Text) → get m (at dir rest) ≡ o → get m (at dir rest) ≡ None
    go None e = e
    go (Some bytes) e =
        absurd (contains_none (first_part rest) ((bare (first_part rest)).1 (at dir rest, ap is_some e, record { rest = rest; is_below = refl; has_rest = some; is_first = refl })))

meta_length : length meta_text ≡ 50
meta_length = refl

short_beginning : (n : ℕ) → length (take n (compact_text meta_data)) ≤ 16777216
short_beginning n = subst (λ (t : Text). length (take n t) ≤ 16777216) (sym text_is) (let h = length-take n meta_text in omega (arith, h, meta_length))

module _ (m : Folder) (dir : Text) (w : Written) (bare : IsListing m dir []) where
  abbrev i : Index
  i = index_view w.index

  abbrev q : Text
  q = at dir (codes "pack.mcmeta")

  abbrev own : List File
  own = function_files dir i.ns w.functions

  abbrev meta : File
  meta = (q, compact_text meta_data)

  abbrev middle : List File
  middle = tag_written dir i.ns (codes "load") ∷ tag_written dir i.ns (codes "tick") ∷ (at dir (codes "dpwasm.json"), compact_text (index_data i)) ∷ []

  abbrev front : List File
  front = own ++ middle

  all : front ++ (meta ∷ []) ≡ pack_files dir (told_of w)
  all = append_assoc own middle (meta ∷ [])

  turned : (a b : Text) → bytes_eq a b ≡ false → bytes_eq b a ≡ false
  turned a b e = nat_list_eq_equiv.symm b a ∙ e

  own_apart : (fs : List (Text × Texts)) → AllByRecursion (λ f. bytes_eq q f.0 ≡ false) (map (function_written (functions_of dir i.ns)) fs)
  own_apart [] = tt
  own_apart (f ∷ fs) = (turned (at (functions_of dir i.ns) (function_file f.0)) q (apart_from dir i f.0 (codes "pack.mcmeta") refl), own_apart fs)

  middle_apart : AllByRecursion (λ f. bytes_eq q f.0 ≡ false) middle
  middle_apart = (
    turned (at (tags_of dir) (tag_file (codes "load"))) q (in_tags dir (tag_file (codes "load")) (codes "pack.mcmeta") refl),
    (
      turned (at (tags_of dir) (tag_file (codes "tick"))) q (in_tags dir (tag_file (codes "tick")) (codes "pack.mcmeta") refl),
      (at_eq dir (codes "pack.mcmeta") (codes "dpwasm.json"), tt),
    ),
  )

  both_apart : (fs gs : List File) → AllByRecursion (λ f. bytes_eq q f.0 ≡ false) fs → AllByRecursion (λ f. bytes_eq q f.0 ≡ false) gs → AllByRecursion (λ f. bytes_eq q f.0 ≡ false) (fs ++ gs)
  both_apart [] gs h k = k
  both_apart (f ∷ fs) gs h k = (h.0, both_apart fs gs h.1 k)

  apart : AllByRecursion (λ f. bytes_eq q f.0 ≡ false) front
  apart = both_apart own middle (own_apart w.functions) middle_apart

  no_file : get m q ≡ None
  no_file = nothing_stands m dir bare (codes "pack.mcmeta") (λ e. cc)

  refused : (after : Option Folder) → IsBare q after → IsRefused after dir faults.NoMeta
  refused after b = subst (λ (content : Option Folder). IsRefused content dir faults.NoMeta) (sym b.1) (no_meta b.0 dir b.2)

  -- at the last file, it isn't there, or a proper beginning of it is, or all of it
  last : (after : Option Folder) (path : Text) → StopsAt (put_all (Some m) front) after (meta ∷ []) path → IsRefused after dir faults.NoMeta ⊎ (after ≡ put_all (Some m) (pack_files dir (told_of w)))
  last after path (inr h) = absurd h
  last after path (inl (e, inl same)) = inl (refused after (inserts m front, same ∙ put_all-told m front, all_bare m front q apart no_file))
  last after path (inl (e, inr (n, put))) =
      go (nat_lt n (length meta.1)) refl
    where
      is_now : after ≡ Some (insert (inserts m front) q (take n meta.1))
      is_now = put ∙ ap (λ (content : Option Folder). with_file content q (take n meta.1)) (put_all-told m front)

      stands : get (insert (inserts m front) q (take n meta.1)) q ≡ Some (take n meta.1)
      stands = get-insert nat_list_cmp_total (inserts m front) q (take n meta.1) q ∙ ap (λ b. cond b (Some (take n meta.1)) (get (inserts m front) q)) (is_eq-slice_cmp q q ∙ bytes_refl q)

      go : (b : Bool) → nat_lt n (length meta.1) ≡ b → IsRefused after dir faults.NoMeta ⊎ (after ≡ put_all (Some m) (pack_files dir (told_of w)))
      go true lt =
          inl (subst (λ (content : Option Folder). IsRefused content dir faults.NoMeta) (sym is_now)
          (bad_meta (insert (inserts m front) q (take n meta.1)) dir (take n meta.1) stands (short_beginning n) (beginning_unsaid n (grind (arith, nat_tests)))))
      go false le =
          let whole : take n meta.1 ≡ meta.1 = take_all n meta.1 (grind (arith, nat_tests)) in
          inr (put ∙ ap (λ bytes. with_file (put_all (Some m) front) q bytes) whole ∙ sym (put_all-append (Some m) front (meta ∷ [])) ∙ ap (put_all (Some m)) all)

  pub stopped : (after : Option Folder) (path : Text) → StopsAt (Some m) after (pack_files dir (told_of w)) path → IsRefused after dir faults.NoMeta ⊎ (after ≡ put_all (Some m) (pack_files dir (told_of w)))
  stopped after path h =
      elim (split (Some m) after front (meta ∷ []) path (subst (λ (fs : List File). StopsAt (Some m) after fs path) (sym all) h)) [
        | inl a ↦ inl (refused after (still_bare m front q path after apart no_file a))
        | inr b ↦ last after path b
      ]
