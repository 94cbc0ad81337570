-- States that a world shows: what they have in common, and one that is made of what is read.
use Rattle.std.proofs.Common.{◌≡◌, ℕ, suc, ◌+◌, ◌<◌, ◌≤◌, List, [], ◌∷◌, ◌++◌, length, take, drop, Option, Some, None, Bool, true, false, refl, sym, ap, ◌∙◌, subst, arith, length-append}
use Rattle.std.specs.Prelude.{ℤ, pos, ◌&&◌, if◌then◌else◌, is_some, option_and_then, slice_index_or, MatchOption}
use Rattle.std.specs.Bool.{MatchBool}
use Rattle.std.specs.BTreeMap.{BTreeMap}
use Rattle.std.specs.Str.{bytes_eq}
use Rattle.std.proofs.lemmas.List.{take-append-drop}
use Rattle.std.proofs.lemmas.Slice.Eq.{bytes_eq-Decides}
use Rattle.mc_nbt.specs.Tree.{Tree, key, child, select, depth, tree_same}
use Rattle.mc_nbt.proofs.DepthLaws.{child_depth}
use Rattle.mc_nbt.proofs.TreeLemmas.{tree_same_sound, tree_same_refl}
use Rattle.mc_cmd.specs.Form.{Text}
use Rattle.mc_cmd.specs.World.{World, tree_in}
use Rattle.mc_world.specs.Places.{score_at}
use Rattle.mc_world.specs.TextMap.{text_get}
use Rattle.mc_world.specs.WorldView as worlds
use Rattle.mc_world.specs.declared.world.World as programs
use Rattle.cc_line.specs.declared.spot.Scratch.{Scratch}
use Rattle.cc_line.specs.declared.spot.Scratch.TheVariants as scratches
use Rattle.cc_line.specs.Key.{key_frame, key_list}
use Rattle.cc_line.specs.Place.{score_places, place_name, is_scratch, shown}
use Rattle.cc_line.specs.Running.{kept_at}
use Rattle.cc_line.specs.Sight.{Store, in_io, in_memory, in_rest, same_store, store_id}
use Rattle.cc_line.specs.State.{State, ints, frame_tree, seen, is_frame, place_at, tree_ints}
use Rattle.cc_line.specs.View.{scratch_text}
use Rattle.cc_line.proofs.ActLemmas.{few_shown, ints_are, key_seen, place_shown, scratch_shown}
use Rattle.cc_line.proofs.PlaceLemmas.{shown_at, take_append, drop_append, take_full}
use Rattle.cc_line.proofs.SightLemmas.{key_selects, store_same}
use Rattle.pk_sight.specs.Law.{Agree}
use Rattle.pk_sight.specs.Shown.{HasPlaces, IsStateOf}
use Rattle.pk_sight.specs.steps.Parts.{AreFirstPlaces, AreScores, HasStores, IsKeyed, LacksPlace, LacksStore}

-- ---- the objective stands where a score is set

pub objective_stands : (w : programs.World) (h o : Text) (z : ℤ) → (worlds.seen w).scores h o ≡ Some z → (worlds.seen w).objectives o ≡ true
objective_stands w h o z e = go (text_get w.board.index o) e
  where
    go : (m : Option (BTreeMap Text ℕ)) → option_and_then (score_at w.board.scores.items) (option_and_then (λ s. text_get s h) m) ≡ Some z → is_some m ≡ true
    go None e = absurd cc
    go (Some s) e = refl

-- ---- the scores of places

scores_more : (f : Text → Option ℤ) (i : ℕ) (zs : List ℤ) (z : ℤ) → AreScores f i zs → f (place_name (i + length zs)) ≡ Some z → AreScores f i (zs ++ z ∷ [])
scores_more f i [] z a e = (ap (λ n. f (place_name n)) (let x : i ≡ i + 0 = omega arith in x) ∙ e, tt)
scores_more f i (y ∷ zs) z a e =
    (a.0, scores_more f (suc i) zs z a.1 (ap (λ n. f (place_name n)) (let x : suc i + length zs ≡ i + suc (length zs) = omega arith in x) ∙ e))

-- the next place is read
pub scores_push : (f : Text → Option ℤ) (zs more : List ℤ) (n : ℕ) (z : ℤ) → more ≡ zs ++ z ∷ [] → length zs ≡ n → AreScores f 0 zs → f (place_name n) ≡ Some z → AreScores f 0 more
scores_push f zs more n z e l a s =
    let at : 0 + length zs ≡ n = omega arith in
    subst (AreScores f 0) (sym e) (scores_more f 0 zs z a (ap (λ i. f (place_name i)) at ∙ s))

scores_each : (f : Text → Option ℤ) (i : ℕ) (zs : List ℤ) → ((k : ℕ) → k < length zs → f (place_name (i + k)) ≡ Some (slice_index_or zs k (pos 0))) → AreScores f i zs
scores_each f i [] g = tt
scores_each f i (z ∷ zs) g = (
  ap (λ n. f (place_name n)) (let x : i ≡ i + 0 = omega arith in x) ∙ g 0 (omega arith),
  scores_each f (suc i) zs (λ k l. ap (λ n. f (place_name n)) (let x : suc i + k ≡ i + suc k = omega arith in x) ∙ g (suc k) (omega arith)),
)

-- scores tell as many places
scores_tell : (f : Text → Option ℤ) (i : ℕ) (xs ys : List ℤ) → length xs ≡ length ys → AreScores f i xs → AreScores f i ys → xs ≡ ys
scores_tell f i [] [] l a b = refl
scores_tell f i [] (y ∷ ys) l a b = absurd (omega arith)
scores_tell f i (x ∷ xs) [] l a b = absurd (omega arith)
scores_tell f i (x ∷ xs) (y ∷ ys) l a b =
    let first : Some x ≡ Some y = sym a.0 ∙ b.0 in
    let others : xs ≡ ys = scores_tell f (suc i) xs ys (omega arith) a.1 b.1 in
    cc

-- one of them is set
scores_set : (f : Text → Option ℤ) (xs : List ℤ) → length xs ≡ score_places → AreScores f 0 xs → (z : ℤ) × (f (place_name 0) ≡ Some z)
scores_set f [] l a = absurd (omega arith)
scores_set f (x ∷ xs) l a = (x, a.0)

-- with these places the scores show what they are
scores_show : (f : Text → Option ℤ) (i : ℕ) (zs : List ℤ) (h : Text) → AreScores f i zs → f h ≡ shown f i zs h
scores_show f i [] h a = refl
scores_show f i (z ∷ zs) h a = go (bytes_eq (place_name i) h) refl (scores_show f (suc i) zs h a.1)
  where
    go : (b : Bool) → bytes_eq (place_name i) h ≡ b → f h ≡ shown f (suc i) zs h → f h ≡ (if b then Some z else shown f (suc i) zs h)
    go true e others = ap f (sym ((bytes_eq-Decides (place_name i) h).0 e)) ∙ a.0
    go false e others = others

-- ---- the frame's tree

pub frame_tells : (xs ys : List ℤ) → frame_tree xs ≡ frame_tree ys → xs ≡ ys
frame_tells xs ys e =
    let same : Some (ints xs) ≡ Some (ints ys) = ap (λ t. child t (key key_list)) e in
    let lists : Some xs ≡ Some ys = sym (ints_are xs) ∙ ap (option_and_then tree_ints) same ∙ ints_are ys in
    cc

-- ---- one state that is shown

pub select_one : (t : Tree) (k : Text) → select t (key k ∷ []) ≡ child t (key k)
select_one t k = go (child t (key k))
  where
    go : (o : Option Tree) → option_and_then (λ u. select u []) o ≡ o
    go None = refl
    go (Some u) = refl

-- a scratch score is no place's
pub scratch_is : (x : Scratch) → is_scratch (scratch_text x) ≡ true
scratch_is scratches.A = refl
scratch_is _ = refl

module _ (ns : Text) (w : World) (p : State) (s : IsStateOf ns w p) where
  pub score_is : (h : Text) → is_scratch h ≡ true → w.scores h ns ≡ p.scores h
  score_is h k = scratch_shown ns w p s.shows h k

  pub key_is : (r : Store) (k : Text) → is_frame r k ≡ false → select (tree_in w (store_id ns r)) (key k ∷ []) ≡ p.keys r k
  key_is r k n = select_one (tree_in w (store_id ns r)) k ∙ (s.shows.stores r).at k ∙ key_seen ns w p s.shows r k n

  pub frame_is : kept_at w ns (key key_frame ∷ []) ≡ Some (frame_tree (drop score_places p.places))
  frame_is = key_selects ns w (seen p) in_rest key_frame [] s.shows

  pub place_is : (i : ℕ) → i < score_places → w.scores (place_name i) ns ≡ Some (place_at p i)
  place_is i l = let few : score_places ≤ length p.places = s.has_scores in place_shown ns w p s.shows i l (omega arith)

  first_places : AreScores (λ h. w.scores h ns) 0 (take score_places p.places)
  first_places =
      scores_each (λ h. w.scores h ns) 0 (take score_places p.places)
      (λ k l. s.shows.scores (place_name (0 + k)) ∙ shown_at p.scores 0 (take score_places p.places) k (few_shown p.places) l)

  -- a tree under a key is at most 63 deep
  pub key_shallow : (r : Store) (k : Text) (t : Tree) → is_frame r k ≡ false → p.keys r k ≡ Some t → depth t ≤ 63
  key_shallow r k t n e =
      let below : suc (depth t) ≤ depth (tree_in w (store_id ns r)) = child_depth (tree_in w (store_id ns r)) (key k) t ((s.shows.stores r).at k ∙ key_seen ns w p s.shows r k n ∙ e) in
      let whole : depth (tree_in w (store_id ns r)) ≤ 64 = (s.shows.stores r).shallow in
      omega arith

-- ---- two of them

module _ (ns : Text) (w : World) (p q : State) (s : IsStateOf ns w p) (t : IsStateOf ns w q) where
  pub places_agree : p.places ≡ q.places
  places_agree =
      let sized : length (take score_places p.places) ≡ length (take score_places q.places) =
      take_full score_places p.places s.has_scores ∙ sym (take_full score_places q.places t.has_scores) in
      let first : take score_places p.places ≡ take score_places q.places =
      scores_tell (λ h. w.scores h ns) 0 _ _ sized (first_places ns w p s) (first_places ns w q t) in
      let trees : Some (frame_tree (drop score_places p.places)) ≡ Some (frame_tree (drop score_places q.places)) =
      sym (frame_is ns w p s) ∙ frame_is ns w q t in
      let further : drop score_places p.places ≡ drop score_places q.places = frame_tells _ _ (cc) in
      sym (take-append-drop score_places p.places)
      ∙ ap (λ zs. zs ++ drop score_places p.places) first ∙ ap (λ zs. take score_places q.places ++ zs) further
      ∙ take-append-drop score_places q.places

  pub agree : Agree p q
  agree = record {
    places = places_agree;
    scores = λ h k. sym (score_is ns w p s h k) ∙ score_is ns w q t h k;
    keys = λ r k n. sym (key_is ns w p s r k n) ∙ key_is ns w q t r k n;
  }

-- ---- the one that is made of what is read

has_all : (xs ys : List ℤ) → length xs ≡ score_places → score_places ≤ length (xs ++ ys)
has_all xs ys e = omega (arith, length-append xs ys)

-- these places, and all scores and keys of the world
abbrev pub read_state : Text → World → List ℤ → State
read_state ns w zs = record {
  places = zs;
  scores = λ h. w.scores h ns;
  keys = λ r k. child (tree_in w (store_id ns r)) (key k);
}

module _ (ns : Text) (w : World) (xs ys : List ℤ) (sized : length xs ≡ score_places) (first : AreScores (λ h. w.scores h ns) 0 xs)
    (keyed : (r : Store) → IsKeyed (tree_in w (store_id ns r))) (frame : kept_at w ns (key key_frame ∷ []) ≡ Some (frame_tree ys)) where
  key_read : (r : Store) (k : Text) → child (tree_in w (store_id ns r)) (key k) ≡ (seen (read_state ns w (xs ++ ys))).keys r k
  key_read r k = go (same_store in_rest r) refl (bytes_eq key_frame k) refl
    where
      go : (a : Bool) → same_store in_rest r ≡ a → (b : Bool) → bytes_eq key_frame k ≡ b
          → child (tree_in w (store_id ns r)) (key k) ≡ (if a && b then Some (frame_tree (drop score_places (xs ++ ys))) else child (tree_in w (store_id ns r)) (key k))
      go true e true f =
          ap (λ o. child (tree_in w (store_id ns o)) (key k)) (sym (store_same in_rest r e))
          ∙ ap (λ j. child (tree_in w (store_id ns in_rest)) (key j)) (sym ((bytes_eq-Decides key_frame k).0 f))
          ∙ sym (select_one (tree_in w (store_id ns in_rest)) key_frame) ∙ frame
          ∙ ap (λ zs. Some (frame_tree zs)) (sym (drop_append score_places xs ys sized))
      go true e false f = refl
      go false e b f = refl

  pub first_set : (z : ℤ) × (w.scores (place_name 0) ns ≡ Some z)
  first_set = scores_set (λ h. w.scores h ns) xs sized first

  pub read_shown : w.objectives ns ≡ true → IsStateOf ns w (read_state ns w (xs ++ ys))
  read_shown o = record {
    shows = record {
      objective = o;
      scores = λ h. scores_show (λ j. w.scores j ns) 0 xs h first ∙ ap (λ zs. shown (λ j. w.scores j ns) 0 zs h) (sym (take_append score_places xs ys sized));
      stores = λ r. record { fields = (keyed r).fields; is = (keyed r).is; at = key_read r; shallow = (keyed r).shallow };
    };
    has_scores = has_all xs ys sized;
  }

-- ---- storages

each_keyed : (ns : Text) (w : World) → IsKeyed (tree_in w (store_id ns in_io)) → IsKeyed (tree_in w (store_id ns in_memory)) → IsKeyed (tree_in w (store_id ns in_rest)) → HasStores ns w
each_keyed ns w x y z in_io = x
each_keyed ns w x y z in_memory = y
each_keyed ns w x y z in_rest = z

-- the last of them is looked at
pub last_keyed : (ns : Text) (w : World) (b : Bool) → IsKeyed (tree_in w (store_id ns in_io)) → IsKeyed (tree_in w (store_id ns in_memory))
    → MatchBool b (IsKeyed (tree_in w (store_id ns in_rest))) (IsKeyed (tree_in w (store_id ns in_rest)) → ⊥) → MatchBool b (HasStores ns w) (LacksStore ns w)
last_keyed ns w true x y z = each_keyed ns w x y z
last_keyed ns w false x y z = (in_rest, z)

-- ---- what is read

-- where a place isn't set no state is shown
pub lacks_place : (ns : Text) (w : World) (p : State) → LacksPlace ns w → IsStateOf ns w p → ⊥
lacks_place ns w p l s = let there = place_is ns w p s l.place l.low in let none = l.unset in cc

-- what is read is the places of all states
pub read_places : (ns : Text) (v : programs.World) (xs ys zs : List ℤ) → HasStores ns (worlds.seen v) → AreFirstPlaces ns (worlds.seen v) xs
    → kept_at (worlds.seen v) ns (key key_frame ∷ []) ≡ Some (frame_tree ys) → zs ≡ xs ++ ys → HasPlaces ns (worlds.seen v) zs
read_places ns v xs ys zs keyed first frame e =
    let w : World = worlds.seen v in
    let (z, set) = first_set ns w xs ys first.all first.scores keyed frame in
    let made : IsStateOf ns w (read_state ns w (xs ++ ys)) = read_shown ns w xs ys first.all first.scores keyed frame (objective_stands v (place_name 0) ns z set) in
    record { state = read_state ns w (xs ++ ys); is_shown = made; places = λ p s. places_agree ns w p (read_state ns w (xs ++ ys)) s made ∙ sym e }

-- ---- trees that are compared

-- a tree that stands is compared with another one
pub same_tree : (t u : Tree) (o : Option Tree) (b : Bool) → b ≡ tree_same t u → Some t ≡ o → (b ≡ true → o ≡ Some u) × (o ≡ Some u → b ≡ true)
same_tree t u o b d e = (
  λ h. sym e ∙ ap Some (tree_same_sound t u (sym d ∙ h)),
  λ h. let same : t ≡ u = cc in d ∙ ap (tree_same t) (sym same) ∙ tree_same_refl t,
)

-- ---- what is told where there is none, and where there is one

pub told_none : {A : Type 0} (o : Option A) (P : Type 0) (Q : A → Type 0) → o ≡ None → MatchOption o P Q → P
told_none None P Q e h = h
told_none (Some a) P Q e h = absurd cc

pub told_some : {A : Type 0} (o : Option A) (P : Type 0) (Q : A → Type 0) (a : A) → o ≡ Some a → MatchOption o P Q → Q a
told_some None P Q a e h = absurd cc
told_some (Some b) P Q a e h = let same : b ≡ a = cc in subst Q same h
