-- Lists of entries.
use Rattle.std.proofs.Common.{◌≡◌, ℕ, ◌+◌, ◌<◌, List, [], ◌∷◌, ◌++◌, length, take, get_or, refl, sym, ap, ap₂, ◌∙◌, subst, arith, map}
use Rattle.std.specs.Prelude.{ℤ, Option, Some, None, MatchOption, Vec}
use Rattle.std.specs.declared.alloc.Global.{Global}
use Rattle.std.proofs.lemmas.List.{get_or-map, length-map, map_more, map_push}
use Rattle.std.proofs.lemmas.List.Elements.{All-push}
use Rattle.mc_nbt.specs.Tree.{Tree, Items, int, list, compound, list_of, items, of_items}
use Rattle.mc_nbt.specs.View.{view}
use Rattle.mc_nbt.specs.declared.tree.Nbt.{Nbt}
use Rattle.mc_nbt.proofs.TreeLemmas.{of_items-items}
use Rattle.cc_line.specs.Key.{init_piece}
use Rattle.cc_line.specs.Running.{Kept, entry_tree, below_tree}
use Rattle.cc_call.proofs.EntryLemmas.{entry_is}
use Rattle.cc_entries.specs.Law.{NameTells, AllTell}
use Rattle.pk_entries.specs.Told.{KeepsFrame, KeepsFrames}
use Rattle.pk_entries.specs.View.{entry_view}
use Rattle.pk_entries.specs.declared.entry.Entry.{Entry}

-- ---- in a loop over trees

-- the trees so far keep these frames
pub record KeptSoFar (trees : List Nbt) (i : ℕ) (es : List Entry) : Type 0 where
  pub tell : AllTell (map entry_view es)
  pub are : map view (take i trees) ≡ map entry_tree (map entry_view es)

pub none_yet : (trees : List Nbt) → KeptSoFar trees 0 []
none_yet trees = record { tell = λ k d l. absurd (omega arith); are = refl }

pub one_kept : (trees : List Nbt) (i : ℕ) (x : Nbt) (e : Entry) (es gs : List Entry) → i < length trees → x ≡ get_or trees i x → gs ≡ es ++ (e ∷ [])
    → KeepsFrame (view x) (entry_view e) → KeptSoFar trees i es → KeptSoFar trees (i + 1) gs
one_kept trees i x e es gs l r p k h = subst (λ ys. KeptSoFar trees (i + 1) ys) (sym p) (record {
  tell = subst (λ bs. AllTell bs) (sym (map_push entry_view es e)) (All-push (λ b. NameTells b.follows) (map entry_view es) (entry_view e) h.tell k.0);
  are =
      map_more view trees i x l
      ∙ ap₂ (λ ts t. ts ++ (t ∷ [])) h.are (ap view (sym r) ∙ k.1)
      ∙ sym (map_push entry_tree (map entry_view es) (entry_view e))
      ∙ ap (map entry_tree) (sym (map_push entry_view es e));
})

-- a tree among them that keeps none
pub one_missing : (trees : List Nbt) (i : ℕ) (x : Nbt) → i < length trees → x ≡ get_or trees i x
    → ((b : Kept) → KeepsFrame (view x) b → ⊥) → (bs : List Kept) → AllTell bs → map view trees ≡ map entry_tree bs → ⊥
one_missing trees i x l r n bs h e =
    let none : Kept = record { places = []; follows = init_piece 0 } in
    let size : length trees ≡ length bs = sym (length-map trees view) ∙ ap length e ∙ length-map bs entry_tree in
    let there : i < length bs = omega arith in
    let same : view x ≡ entry_tree (get_or bs i none) =
    ap view r ∙ sym (get_or-map view trees i x (view x) l) ∙ ap (λ ts. get_or ts i (view x)) e
    ∙ get_or-map entry_tree bs i none (view x) there in
    n (get_or bs i none) (h i none there, same)

-- ---- lists

abbrev elements : Tree → List Tree
elements (list ts) = of_items ts
elements t = []

pub trees_back : (ts us : List Tree) → list_of ts ≡ list_of us → ts ≡ us
trees_back ts us e = sym (of_items-items ts) ∙ ap (λ (t : Tree). elements t) e ∙ of_items-items us

-- ints are no entries
pub ints_keep_none : (z : ℤ) (zs : List ℤ) (bs : List Kept) → list_of (map int (z ∷ zs)) ≡ below_tree bs → ⊥
ints_keep_none z zs bs e = go bs (trees_back (map int (z ∷ zs)) (map entry_tree bs) e)
  where
    go : (bs : List Kept) → int z ∷ map int zs ≡ map entry_tree bs → ⊥
    go [] e = cc
    go (b ∷ bs) e =
        let x : int z ≡ compound (entry_is b).fields = (let y : int z ≡ entry_tree b = cc in y) ∙ (entry_is b).is in
        cc

-- a list of trees, by the frames that these keep
pub frames_are : (l : Items) (trees : List Tree) (o : Option (Vec Entry Global)) → l ≡ items trees
    → MatchOption o ((bs : List Kept) → AllTell bs → trees ≡ map entry_tree bs → ⊥)
    (λ es. AllTell (map entry_view es.items) × (trees ≡ map entry_tree (map entry_view es.items)))
    → MatchOption o ((bs : List Kept) → KeepsFrames (list l) bs → ⊥) (λ es. KeepsFrames (list l) (map entry_view es.items))
frames_are l trees None e h = λ bs k. h bs k.0 (trees_back trees (map entry_tree bs) (ap list (sym e) ∙ k.1))
frames_are l trees (Some es) e h = (h.0, ap list e ∙ ap list_of h.1)

-- a list of ints
pub no_frames : (l : Items) (zs : List ℤ) → l ≡ items (map int zs) → (length zs ≡ 0 → ⊥) → (bs : List Kept) → KeepsFrames (list l) bs → ⊥
no_frames l [] e n bs k = n refl
no_frames l (z ∷ zs) e n bs k = ints_keep_none z zs bs (ap list (sym e) ∙ k.1)
