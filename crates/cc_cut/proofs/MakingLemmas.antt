-- On two ways through a body its cuts are made.
use Rattle.std.proofs.Common.{◌≡◌, ℕ, zero, suc, ◌+◌, ◌<◌, ◌≤◌, List, [], ◌∷◌, ◌++◌, length, map, drop, Bool, true, false, Option, Some, None, refl, sym, ap, ◌∙◌, subst, arith, append_assoc, append-nil, add-one}
use Rattle.std.specs.Prelude.{if◌then◌else◌, ◌&&◌, nat_eq}
use Rattle.std.specs.List.{FoldsTo, filter_map, cons_option}
use Rattle.std.specs.Cmp.Lexicographic.{pointwise}
use Rattle.std.specs.HashMap.{HashMap, get_by}
use Rattle.std.specs.Map.{KeepsOthers, lookup}
use Rattle.std.specs.declared.vec.Vec.{Vec}
use Rattle.std.proofs.lemmas.Bool.{cases_Bool}
use Rattle.std.proofs.lemmas.List.{map-append}
use mathlib.Core.Logic.{⊎_elim}
use Rattle.wm_ast.specs.declared.module.Func.{Func}
use Rattle.wm_ast.specs.declared.module.Module.{Module}
use Rattle.wm_ast.specs.Profile.{InProfile}
use Rattle.wm_valid.specs.Typing.{Scope}
use Rattle.wm_place.specs.Kinds.{Body, function_body}
use Rattle.wm_place.specs.Visit.{Visit, visits, body_visits, function_visits}
use Rattle.cc_cut.specs.declared.table.Cut.{Cut}
use Rattle.cc_cut.specs.Way.{Way, ways, all_ways}
use Rattle.cc_cut.specs.Piece.{place_cost, is_cut, Piece, places_in, up_to_cut, pieces_from, pieces, or_else, index_from, index_of}
use Rattle.cc_cut.specs.Cuts.{exits_from, cut_for, cuts_from, body_cuts, function_cuts, cuts_by}
use Rattle.cc_cut.specs.steps.Exits.{visit_paths, index_in, indices_in}
use Rattle.cc_cut.specs.steps.Making.{new_cut, with_exits, add_exits, IsNumbered, IsMade}
use Rattle.cc_cut.proofs.IndexLemmas.{same_self, same_is}
use Rattle.cc_cut.proofs.PieceLemmas.{piece_at}
use Rattle.cc_cut.proofs.ExitLemmas.{both_added, paths_are}

-- ---- the map of indices

module _ {A S : Type 0} where
  -- behind an insertion
  pub index_put : (old new : HashMap (Vec ℕ A) ℕ S) (key : Vec ℕ A) (k : ℕ) → get_by (λ x. pointwise nat_eq key.items x.items) new ≡ Some k
      → KeepsOthers (λ x y. pointwise nat_eq x.items y.items) (λ x. pointwise nat_eq key.items x.items) old.entries new.entries
      → (path : List ℕ) → index_in new path ≡ (if pointwise nat_eq key.items path then Some k else index_in old path)
  unfolding KeepsOthers
  index_put old new key k found keeps path = by_path (pointwise nat_eq key.items path) refl
    where
      differ : pointwise nat_eq key.items path ≡ false → (x : Vec ℕ A) → pointwise nat_eq key.items x.items ≡ true → pointwise nat_eq path x.items ≡ false
      differ e x h = ⊎_elim
          (λ (g : pointwise nat_eq path x.items ≡ true).
          let same : key.items ≡ path = same_is key.items x.items h ∙ sym (same_is path x.items g) in
          absurd (let w : true ≡ false = sym (ap (λ (l : List ℕ). pointwise nat_eq l path) same ∙ same_self path) ∙ e in cc))
          (λ (g : pointwise nat_eq path x.items ≡ false). g)
          (cases_Bool (pointwise nat_eq path x.items))

      by_path : (b : Bool) → pointwise nat_eq key.items path ≡ b → index_in new path ≡ (if b then Some k else index_in old path)
      by_path true e = ap (λ (l : List ℕ). get_by (λ x. pointwise nat_eq l x.items) new) (sym (same_is key.items path e)) ∙ found
      by_path false e =
          keeps (λ x. pointwise nat_eq path x.items) (λ x y h. ap (λ (l : List ℕ). pointwise nat_eq l y.items) (same_is path x.items h)) (differ e)

  -- a cut is passed
  pub numbered : (spent count : ℕ) (old : HashMap (Vec ℕ A) ℕ S) (v : Visit) (cost next : ℕ) (new : HashMap (Vec ℕ A) ℕ S) (key : Vec ℕ A) → is_cut spent v ≡ true → cost ≡ place_cost v → next ≡ count + 1 → key.items ≡ v.path
      → get_by (λ x. pointwise nat_eq key.items x.items) new ≡ Some next
      → KeepsOthers (λ x y. pointwise nat_eq x.items y.items) (λ x. pointwise nat_eq key.items x.items) old.entries new.entries
      → IsNumbered spent count old v cost next new
  numbered spent count old v cost next new key cut is one same found keeps =
      let sum : next ≡ suc count = omega arith in
      record {
        spent_is = is ∙ sym (ap (λ (b : Bool). if b then place_cost v else spent + place_cost v) cut);
        count_is = sum ∙ sym (ap (λ (b : Bool). if b then suc count else count) cut);
        indices_are = λ path.
            index_put old new key next found keeps path
            ∙ (ap (λ (l : List ℕ). if pointwise nat_eq l path then Some next else index_in old path) same
            ∙ (ap (λ (j : ℕ). if pointwise nat_eq v.path path then Some j else index_in old path) sum
            ∙ sym (ap (λ (b : Bool). if b && pointwise nat_eq v.path path then Some (suc count) else index_in old path) cut)));
      }

-- ---- the last cut

pub last_cut : (init : List Cut) (c : Cut) (xs : List ℕ) → add_exits (init ++ c ∷ []) xs ≡ init ++ with_exits xs c ∷ []
last_cut [] c xs = refl
last_cut (d ∷ []) c xs = refl
last_cut (d ∷ (e ∷ init)) c xs = ap (λ (l : List Cut). d ∷ l) (last_cut (e ∷ init) c xs)

-- a cut is taken and put back with its exits
pub put_back : (old init new : List Cut) (c : Cut) (exits xs : List ℕ) → old ≡ init ++ c ∷ [] → exits ≡ c.exits ++ xs
    → new ≡ init ++ (record { func = c.func; index = c.index; place = c.place; layout = c.layout; exits = exits }) ∷ [] → new ≡ add_exits old xs
put_back old init new c exits xs e is k =
    k
    ∙ (ap (λ (l : List ℕ). init ++ (record { func = c.func; index = c.index; place = c.place; layout = c.layout; exits = l }) ∷ []) is
    ∙ (sym (last_cut init c xs) ∙ ap (λ (l : List Cut). add_exits l xs) (sym e)))

-- ---- the way that numbers

or_both : (a : Option ℕ) (b : Bool) (k : ℕ) (old : Option ℕ) → or_else a (if b then Some k else old) ≡ or_else (or_else a (if b then Some k else None)) old
or_both None true k old = refl
or_both None false k old = refl
or_both (Some x) b k old = refl

module _ {V A S : Type 0} (spent count : V → ℕ) (indices : V → HashMap (Vec ℕ A) ℕ S) where
  abbrev Numbers : V → Visit → V → Type 0
  Numbers s v t = IsNumbered (spent s) (count s) (indices s) v (spent t) (count t) (indices t)

  pub folds_number : (vs : List Visit) (s t : V) → FoldsTo Numbers s vs t → (path : List ℕ)
      → index_in (indices t) path ≡ or_else (index_from (suc (count s)) (pieces_from (spent s) vs) path) (index_in (indices s) path)
  folds_number [] s t f path = ap (λ (x : V). index_in (indices x) path) (sym f)
  folds_number (v ∷ vs) s t (j, r, f) path = by_test (is_cut (spent s) v) refl (folds_number vs j t f path)
    where
      by_test : (b : Bool) → is_cut (spent s) v ≡ b → index_in (indices t) path ≡ or_else (index_from (suc (count j)) (pieces_from (spent j) vs) path) (index_in (indices j) path)
          → index_in (indices t) path ≡ or_else (index_from (suc (count s)) (pieces_from (spent s) (v ∷ vs)) path) (index_in (indices s) path)
      by_test true e h =
          let at : spent j ≡ place_cost v = r.spent_is ∙ ap (λ (b : Bool). if b then place_cost v else spent s + place_cost v) e in
          let so_many : count j ≡ suc (count s) = r.count_is ∙ ap (λ (b : Bool). if b then suc (count s) else count s) e in
          let found : index_in (indices j) path ≡ (if pointwise nat_eq v.path path then Some (suc (count s)) else index_in (indices s) path) =
          r.indices_are path ∙ ap (λ (b : Bool). if b && pointwise nat_eq v.path path then Some (suc (count s)) else index_in (indices s) path) e in
          let later : Option ℕ = index_from (suc (suc (count s))) (pieces_from (place_cost v) vs) path in
          h
          ∙ (ap (λ (k : ℕ). or_else (index_from (suc k) (pieces_from (spent j) vs) path) (index_in (indices j) path)) so_many
          ∙ (ap (λ (k : ℕ). or_else (index_from (suc (suc (count s))) (pieces_from k vs) path) (index_in (indices j) path)) at
          ∙ (ap (or_else later) found
          ∙ (or_both later (pointwise nat_eq v.path path) (suc (count s)) (index_in (indices s) path)
          ∙ sym (ap (λ (b : Bool). or_else (index_from (suc (count s)) (if b then piece_at v vs ∷ pieces_from (place_cost v) vs else pieces_from (spent s + place_cost v) vs) path) (index_in (indices s) path)) e)))))
      by_test false e h =
          let at : spent j ≡ spent s + place_cost v = r.spent_is ∙ ap (λ (b : Bool). if b then place_cost v else spent s + place_cost v) e in
          let so_many : count j ≡ count s = r.count_is ∙ ap (λ (b : Bool). if b then suc (count s) else count s) e in
          let found : index_in (indices j) path ≡ index_in (indices s) path =
          r.indices_are path ∙ ap (λ (b : Bool). if b && pointwise nat_eq v.path path then Some (suc (count s)) else index_in (indices s) path) e in
          h
          ∙ (ap (λ (k : ℕ). or_else (index_from (suc k) (pieces_from (spent j) vs) path) (index_in (indices j) path)) so_many
          ∙ (ap (λ (k : ℕ). or_else (index_from (suc (count s)) (pieces_from k vs) path) (index_in (indices j) path)) at
          ∙ (ap (or_else (index_from (suc (count s)) (pieces_from (spent s + place_cost v) vs) path)) found
          ∙ sym (ap (λ (b : Bool). or_else (index_from (suc (count s)) (if b then piece_at v vs ∷ pieces_from (place_cost v) vs else pieces_from (spent s + place_cost v) vs) path) (index_in (indices s) path)) e))))

-- ---- the way that makes

module _ {A S : Type 0} (m : HashMap (Vec ℕ A) ℕ S) (func : ℕ) where
  -- the exits from places, by the map
  abbrev exits_by : List Visit → List ℕ
  exits_by [] = []
  exits_by (v ∷ vs) = indices_in m (visit_paths v) ++ exits_by vs

  abbrev made_cut : ℕ → Piece → Cut
  made_cut index p = record { func = func; index = index; place = p.cut.path; layout = p.cut.kinds; exits = exits_by (places_in p) }

  abbrev pub made : ℕ → List Piece → List Cut
  made index [] = []
  made index (p ∷ ps) = made_cut index p ∷ made (suc index) ps

  with_none : (c : Cut) → with_exits [] c ≡ c
  with_none c = ap (λ (l : List ℕ). record { func = c.func; index = c.index; place = c.place; layout = c.layout; exits = l }) (append-nil c.exits)

  with_both : (c : Cut) (xs ys : List ℕ) → with_exits ys (with_exits xs c) ≡ with_exits (xs ++ ys) c
  with_both c xs ys = ap (λ (l : List ℕ). record { func = c.func; index = c.index; place = c.place; layout = c.layout; exits = l }) (append_assoc c.exits xs ys)

  module _ {V : Type 0} (spent count : V → ℕ) (cuts : V → List Cut) where
    abbrev Makes : V → Visit → V → Type 0
    Makes s v t = IsMade m func (spent s) (count s) (cuts s) v (spent t) (count t) (cuts t)

    -- how a state goes on
    abbrev Goes : V → List Visit → V → List Cut → Cut → Type 0
    Goes s vs t before c = cuts t ≡ before ++ with_exits (exits_by (up_to_cut (spent s) vs)) c ∷ made (suc (count s)) (pieces_from (spent s) vs)

    -- behind a cut
    record Begun (s : V) (v : Visit) (j : V) : Type 0 where
      pub at : spent j ≡ place_cost v
      pub so_many : count j ≡ suc (count s)
      pub cuts_are : cuts j ≡ cuts s ++ with_exits (indices_in m (visit_paths v)) (new_cut func (suc (count s)) v) ∷ []

    begun : (s : V) (v : Visit) (j : V) → is_cut (spent s) v ≡ true → Makes s v j → Begun s v j
    begun s v j e r = record {
      at = r.spent_is ∙ ap (λ (b : Bool). if b then place_cost v else spent s + place_cost v) e;
      so_many = r.count_is ∙ ap (λ (b : Bool). if b then suc (count s) else count s) e;
      cuts_are =
          r.cuts_are
          ∙ (ap (λ (b : Bool). add_exits (if b then cuts s ++ new_cut func (suc (count s)) v ∷ [] else cuts s) (indices_in m (visit_paths v))) e
          ∙ last_cut (cuts s) (new_cut func (suc (count s)) v) (indices_in m (visit_paths v)));
    }

    -- behind another place
    record Passed (s : V) (v : Visit) (j : V) : Type 0 where
      pub at : spent j ≡ spent s + place_cost v
      pub so_many : count j ≡ count s
      pub cuts_are : cuts j ≡ add_exits (cuts s) (indices_in m (visit_paths v))

    passed : (s : V) (v : Visit) (j : V) → is_cut (spent s) v ≡ false → Makes s v j → Passed s v j
    passed s v j e r = record {
      at = r.spent_is ∙ ap (λ (b : Bool). if b then place_cost v else spent s + place_cost v) e;
      so_many = r.count_is ∙ ap (λ (b : Bool). if b then suc (count s) else count s) e;
      cuts_are = r.cuts_are ∙ ap (λ (b : Bool). add_exits (if b then cuts s ++ new_cut func (suc (count s)) v ∷ [] else cuts s) (indices_in m (visit_paths v))) e;
    }

    -- the cut of a piece that was begun is whole
    whole : (s j t : V) (v : Visit) (vs : List Visit) (before : List Cut) → Begun s v j → Goes j vs t before (with_exits (indices_in m (visit_paths v)) (new_cut func (suc (count s)) v))
        → cuts t ≡ before ++ made (suc (count s)) (piece_at v vs ∷ pieces_from (place_cost v) vs)
    whole s j t v vs before b h =
        let c : Cut = new_cut func (suc (count s)) v in
        let xs : List ℕ = indices_in m (visit_paths v) in
        h
        ∙ (ap (λ (k : ℕ). before ++ with_exits (exits_by (up_to_cut k vs)) (with_exits xs c) ∷ made (suc (count j)) (pieces_from k vs)) b.at
        ∙ (ap (λ (k : ℕ). before ++ with_exits (exits_by (up_to_cut (place_cost v) vs)) (with_exits xs c) ∷ made (suc k) (pieces_from (place_cost v) vs)) b.so_many
        ∙ ap (λ (d : Cut). before ++ d ∷ made (suc (suc (count s))) (pieces_from (place_cost v) vs)) (with_both c xs (exits_by (up_to_cut (place_cost v) vs)))))

    folds_on : (vs : List Visit) (s t : V) → FoldsTo Makes s vs t → (before : List Cut) (c : Cut) → cuts s ≡ before ++ c ∷ [] → Goes s vs t before c
    folds_on [] s t f before c e = ap cuts (sym f) ∙ (e ∙ ap (λ (d : Cut). before ++ d ∷ []) (sym (with_none c)))
    folds_on (v ∷ vs) s t (j, r, f) before c e = by_test (is_cut (spent s) v) refl (λ b d k. folds_on vs j t f b d k)
      where
        by_test : (b : Bool) → is_cut (spent s) v ≡ b → ((before : List Cut) (c : Cut) → cuts j ≡ before ++ c ∷ [] → Goes j vs t before c) → Goes s (v ∷ vs) t before c
        by_test true h deeper =
            let b : Begun s v j = begun s v j h r in
            let d : Cut = with_exits (indices_in m (visit_paths v)) (new_cut func (suc (count s)) v) in
            let all : cuts t ≡ (before ++ c ∷ []) ++ made (suc (count s)) (piece_at v vs ∷ pieces_from (place_cost v) vs) =
            whole s j t v vs (before ++ c ∷ []) b (deeper (before ++ c ∷ []) d (b.cuts_are ∙ ap (λ (l : List Cut). l ++ d ∷ []) e)) in
            all
            ∙ (append_assoc before (c ∷ []) (made (suc (count s)) (piece_at v vs ∷ pieces_from (place_cost v) vs))
            ∙ (ap (λ (x : Cut). before ++ x ∷ made (suc (count s)) (piece_at v vs ∷ pieces_from (place_cost v) vs)) (sym (with_none c))
            ∙ sym (ap (λ (b : Bool). before ++ with_exits (exits_by (if b then [] else v ∷ up_to_cut (spent s + place_cost v) vs)) c ∷ made (suc (count s)) (if b then piece_at v vs ∷ pieces_from (place_cost v) vs else pieces_from (spent s + place_cost v) vs)) h)))
        by_test false h deeper =
            let b : Passed s v j = passed s v j h r in
            let xs : List ℕ = indices_in m (visit_paths v) in
            let on : Goes j vs t before (with_exits xs c) = deeper before (with_exits xs c) (b.cuts_are ∙ (ap (λ (l : List Cut). add_exits l xs) e ∙ last_cut before c xs)) in
            on
            ∙ (ap (λ (k : ℕ). before ++ with_exits (exits_by (up_to_cut k vs)) (with_exits xs c) ∷ made (suc (count j)) (pieces_from k vs)) b.at
            ∙ (ap (λ (k : ℕ). before ++ with_exits (exits_by (up_to_cut (spent s + place_cost v) vs)) (with_exits xs c) ∷ made (suc k) (pieces_from (spent s + place_cost v) vs)) b.so_many
            ∙ (ap (λ (d : Cut). before ++ d ∷ made (suc (count s)) (pieces_from (spent s + place_cost v) vs)) (with_both c xs (exits_by (up_to_cut (spent s + place_cost v) vs)))
            ∙ sym (ap (λ (b : Bool). before ++ with_exits (exits_by (if b then [] else v ∷ up_to_cut (spent s + place_cost v) vs)) c ∷ made (suc (count s)) (if b then piece_at v vs ∷ pieces_from (place_cost v) vs else pieces_from (spent s + place_cost v) vs)) h))))

    -- from the beginning on
    pub folds_make : (vs : List Visit) (s t : V) → FoldsTo Makes s vs t → cuts s ≡ [] → cuts t ≡ made (suc (count s)) (pieces_from (spent s) vs)
    folds_make [] s t f e = ap cuts (sym f) ∙ e
    folds_make (v ∷ vs) s t (j, r, f) e = by_test (is_cut (spent s) v) refl (λ k. folds_make vs j t f k) (λ b d k. folds_on vs j t f b d k)
      where
        by_test : (b : Bool) → is_cut (spent s) v ≡ b → (cuts j ≡ [] → cuts t ≡ made (suc (count j)) (pieces_from (spent j) vs)) → ((before : List Cut) (c : Cut) → cuts j ≡ before ++ c ∷ [] → Goes j vs t before c)
            → cuts t ≡ made (suc (count s)) (pieces_from (spent s) (v ∷ vs))
        by_test true h none some =
            let b : Begun s v j = begun s v j h r in
            let d : Cut = with_exits (indices_in m (visit_paths v)) (new_cut func (suc (count s)) v) in
            whole s j t v vs [] b (some [] d (b.cuts_are ∙ ap (λ (l : List Cut). l ++ d ∷ []) e))
            ∙ sym (ap (λ (b : Bool). made (suc (count s)) (if b then piece_at v vs ∷ pieces_from (place_cost v) vs else pieces_from (spent s + place_cost v) vs)) h)
        by_test false h none some =
            let b : Passed s v j = passed s v j h r in
            none (b.cuts_are ∙ ap (λ (l : List Cut). add_exits l (indices_in m (visit_paths v))) e)
            ∙ (ap (λ (k : ℕ). made (suc (count j)) (pieces_from k vs)) b.at
            ∙ (ap (λ (k : ℕ). made (suc k) (pieces_from (spent s + place_cost v) vs)) b.so_many
            ∙ sym (ap (λ (b : Bool). made (suc (count s)) (if b then piece_at v vs ∷ pieces_from (place_cost v) vs else pieces_from (spent s + place_cost v) vs)) h)))

  -- ---- the cuts of the definition

  module _ (scope : Scope) (all : List Piece) (known : (path : List ℕ) → index_in m path ≡ index_of all path) where
    same_found : (paths : List (List ℕ)) → indices_in m paths ≡ filter_map (index_of all) paths
    same_found [] = refl
    same_found (p ∷ ps) = ap (λ (o : Option ℕ). cons_option o (indices_in m ps)) (known p) ∙ ap (λ (l : List ℕ). cons_option (index_of all p) l) (same_found ps)

    all_paths : (vs : List Visit) → exits_by vs ≡ indices_in m (map (λ (w : Way). w.to) (all_ways scope vs))
    all_paths [] = refl
    all_paths (v ∷ vs) =
        ap (λ (l : List (List ℕ)). indices_in m l ++ exits_by vs) (sym (paths_are scope v))
        ∙ (ap (λ (l : List ℕ). indices_in m (map (λ (w : Way). w.to) (ways scope v)) ++ l) (all_paths vs)
        ∙ (sym (both_added m (map (λ (w : Way). w.to) (ways scope v)) (map (λ (w : Way). w.to) (all_ways scope vs)))
        ∙ ap (indices_in m) (sym (map-append (λ (w : Way). w.to) (ways scope v) (all_ways scope vs)))))

    same_exits : (vs : List Visit) → exits_by vs ≡ exits_from scope all vs
    same_exits vs = all_paths vs ∙ same_found (map (λ (w : Way). w.to) (all_ways scope vs))

    pub made_are : (ps : List Piece) (index : ℕ) → made index ps ≡ cuts_from func scope all index ps
    made_are [] index = refl
    made_are (p ∷ ps) index =
        ap (λ (l : List ℕ). (record { func = func; index = index; place = p.cut.path; layout = p.cut.kinds; exits = l }) ∷ made (suc index) ps) (same_exits (places_in p))
        ∙ ap (λ (cs : List Cut). cut_for func scope all index p ∷ cs) (made_are ps (suc index))

-- the way of a visitor that keeps its function and its map
module _ {V A S : Type 0} (spent count func : V → ℕ) (indices : V → HashMap (Vec ℕ A) ℕ S) (cuts : V → List Cut) where
  abbrev Wide : V → Visit → V → Type 0
  Wide s v t = IsMade (indices s) (func s) (spent s) (count s) (cuts s) v (spent t) (count t) (cuts t) × (func t ≡ func s) × (indices t ≡ indices s)

  abbrev Narrow : HashMap (Vec ℕ A) ℕ S → ℕ → V → Visit → V → Type 0
  Narrow m n s v t = IsMade m n (spent s) (count s) (cuts s) v (spent t) (count t) (cuts t)

  narrow : (vs : List Visit) (s t : V) → FoldsTo Wide s vs t → FoldsTo (Narrow (indices s) (func s)) s vs t
  narrow [] s t f = f
  narrow (v ∷ vs) s t (j, (r, same_func, same_indices), f) = (
    j,
    r,
    subst (λ (m : HashMap (Vec ℕ A) ℕ S). FoldsTo (Narrow m (func s)) j vs t) same_indices
        (subst (λ (n : ℕ). FoldsTo (Narrow (indices j) n) j vs t) same_func (narrow vs j t f)),
  )

  -- its cuts are those of the definition
  pub wide_made : (vs : List Visit) (s t : V) → FoldsTo Wide s vs t → cuts s ≡ [] → cuts t ≡ made (indices s) (func s) (suc (count s)) (pieces_from (spent s) vs)
  wide_made vs s t f e = folds_make (indices s) (func s) spent count cuts vs s t (narrow vs s t f) e

-- a map without entries
pub nothing_in : {A S : Type 0} (m : HashMap (Vec ℕ A) ℕ S) (o : Option ℕ) (path : List ℕ) → m.entries ≡ [] → or_else o (index_in m path) ≡ o
nothing_in m o path e = ap (λ (es : List _). or_else o (lookup (λ k. pointwise nat_eq path k.items) es)) e ∙ or_none o
  where
    or_none : (o : Option ℕ) → or_else o None ≡ o
    or_none None = refl
    or_none (Some x) = refl

-- ---- a function

pub function_made : {A S : Type 0} (m : Module) (n : ℕ) (indices : HashMap (Vec ℕ A) ℕ S) → ((path : List ℕ) → index_in indices path ≡ index_of (pieces (function_visits m n)) path)
    → made indices n 1 (pieces (function_visits m n)) ≡ function_cuts m n
function_made m n indices known = by_found (function_body m n) refl
  where
    by_found : (o : Option Body) → function_body m n ≡ o → made indices n 1 (pieces (function_visits m n)) ≡ function_cuts m n
    by_found None e = ap (λ (p : Option Body). made indices n 1 (pieces (body_visits p))) e ∙ sym (ap (body_cuts n) e)
    by_found (Some b) e =
        let vs : List Visit = visits b.scope b.sequence in
        let here : (path : List ℕ) → index_in indices path ≡ index_of (pieces vs) path = λ path. known path ∙ ap (λ (p : Option Body). index_of (pieces (body_visits p)) path) e in
        ap (λ (p : Option Body). made indices n 1 (pieces (body_visits p))) e ∙ (made_are indices n b.scope (pieces vs) here (pieces vs) 1 ∙ sym (ap (body_cuts n) e))

-- ---- a module

pub next_function : (m : Module) (i : ℕ) (cuts own whole : List Cut) → i < length m.funcs → own ≡ function_cuts m i → cuts ++ cuts_by m i (drop i m.funcs) ≡ whole
    → (cuts ++ own) ++ cuts_by m (i + 1) (drop (i + 1) m.funcs) ≡ whole
next_function m i cuts own whole short e so_far = by_rest (drop i m.funcs) refl so_far
  where
    sum : i + 1 ≡ suc i
    sum = add-one i

    shorter : (fs : List Func) (f : Func) → drop i m.funcs ≡ f ∷ fs → drop (i + 1) m.funcs ≡ fs
    shorter fs f h = ap (λ (k : ℕ). drop k m.funcs) sum ∙ tail m.funcs i f fs h
      where
        tail : (xs : List Func) (i : ℕ) (f : Func) (fs : List Func) → drop i xs ≡ f ∷ fs → drop (suc i) xs ≡ fs
        tail [] zero f fs h = absurd cc
        tail [] (suc i) f fs h = absurd cc
        tail (x ∷ xs) zero f fs h = cc
        tail (x ∷ xs) (suc i) f fs h = tail xs i f fs h

    none : (i : ℕ) (xs : List Func) → i < length xs → drop i xs ≡ [] → ⊥
    none i [] h k = omega arith
    none zero (x ∷ xs) h k = absurd cc
    none (suc i) (x ∷ xs) h k = none i xs (omega arith) k

    by_rest : (fs : List Func) → drop i m.funcs ≡ fs → cuts ++ cuts_by m i fs ≡ whole → (cuts ++ own) ++ cuts_by m (i + 1) (drop (i + 1) m.funcs) ≡ whole
    by_rest [] h k = absurd (none i m.funcs short h)
    by_rest (f ∷ fs) h k =
        append_assoc cuts own (cuts_by m (i + 1) (drop (i + 1) m.funcs))
        ∙ (ap (λ (l : List Cut). cuts ++ (l ++ cuts_by m (i + 1) (drop (i + 1) m.funcs))) e
        ∙ (ap (λ (l : List Func). cuts ++ (function_cuts m i ++ cuts_by m (i + 1) l)) (shorter fs f h)
        ∙ (ap (λ (j : ℕ). cuts ++ (function_cuts m i ++ cuts_by m j fs)) sum ∙ k)))

-- a module of the profile has few functions
pub few_functions : (m : Module) → InProfile m → length m.funcs ≤ 8192
few_functions m p = p.within_limits.functions
