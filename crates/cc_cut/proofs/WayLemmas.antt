-- Each way on from a place leads to a place that is reached, over the operands that it brings: to one at which a piece begins in
-- any case, or to the next of the text.
use Rattle.std.proofs.Common.{◌≡◌, ℕ, suc, ◌-◌, ◌⊎◌, inl, inr, List, [], ◌∷◌, ◌++◌, length, take, drop, true, false, Option, Some, None, option_map, refl, sym, ap, ◌∙◌, subst, append_assoc, append-nil, arith}
use Rattle.std.specs.Prelude.{slice_get, option_to_list}
use Rattle.std.proofs.lemmas.List.{length-append, reverse-reverse}
use mathlib.Core.Logic.{⊎_elim}
use Rattle.wm_ast.specs.declared.module.ValType.{ValType}
use Rattle.wm_ast.specs.declared.module.ValType.TheVariants.{I32}
use Rattle.wm_ast.specs.declared.module.Func.{Func}
use Rattle.wm_ast.specs.declared.module.Module.{Module}
use Rattle.wm_ast.specs.Code.{Op, unreachable, block, loop, if_else, br, br_if, br_table, return, Code, nil, cons}
use Rattle.wm_ast.specs.Types.{results_of}
use Rattle.wm_valid.specs.Place.{is_jump}
use Rattle.wm_valid.specs.Typing.{Context, EachTakes, Rule, TypesCode, Scope}
use Rattle.wm_valid.specs.Arrows.{◌>>=◌, Change, changed, change}
use Rattle.wm_valid.specs.PlaceReading.{run}
use Rattle.wm_valid.proofs.ChangeLaws.{Stepped, step}
use Rattle.wm_place.specs.Place.{Place, next, inside, inside_arm, lead, path_of}
use Rattle.wm_place.specs.Spot.{Level, level, Sequence, Spot, spot, followed_by, label_of, gives_of, labels_at, ends_at, spot_at}
use Rattle.wm_place.specs.Kinds.{stays_under, under, spot_kinds, first_of}
use Rattle.wm_place.specs.Visit.{Around, around, count_of, blocks_of, Visit, visits}
use Rattle.wm_place.proofs.HeldLemmas.{over_is}
use Rattle.wm_place.proofs.KindLemmas.{Typed, scope_in, body_in, place_kept}
use Rattle.wm_place.proofs.OrderLemmas.{path_leads_on}
use Rattle.wm_place.proofs.SpotLemmas.{found, find_next, find_block, find_loop, find_first_arm, find_second_arm}
use Rattle.wm_place.proofs.WalkLemmas.{lead_append, run_behind}
use Rattle.wm_ast.specs.View.{code_of}
use Rattle.cc_cut.specs.Cost.{ends_piece, is_repeated}
use Rattle.cc_cut.specs.Way.{Way, way, path_behind, block_path, lowest, landing, labelled, branch, branches, leaving, left_by, onward, op_ways, code_ways, ways}
use Rattle.cc_cut.specs.Piece.{begins_inside, begins_first, begins_at, begins_before, begins}
use Rattle.cc_cut.specs.Law.{IsNext}
use Rattle.cc_cut.proofs.ListLemmas.{In, in_either, some_of}
use Rattle.cc_cut.proofs.VisitLemmas.{visit_at, Visited, shown, visited, same_visit}
use Rattle.cc_cut.proofs.ChainLemmas.{HeadAt, HeadBehind, OpFollows, CodeFollows, Follows, path_next}
use Rattle.cc_cut.proofs.BlockLemmas.{IsBlock, innermost, Round, round, behind_block, inside_block, begins_next}
use Rattle.cc_cut.proofs.PieceLemmas.{or_true, or_also}

-- ---- lists

pub take_front : {A : Type 0} (xs ys : List A) → take (length xs) (xs ++ ys) ≡ xs
take_front [] ys = refl
take_front (x ∷ xs) ys = ap (λ (l : List _). x ∷ l) (take_front xs ys)

drop_front : {A : Type 0} (xs ys : List A) → drop (length xs) (xs ++ ys) ≡ ys
drop_front [] ys = refl
drop_front (x ∷ xs) ys = drop_front xs ys

-- the lowest operands
lowest_is : (upper low : List ValType) → lowest (length low) (upper ++ low) ≡ low
lowest_is upper low =
    let size : length (upper ++ low) - length low ≡ length upper = omega (arith, length-append upper low) in
    ap (λ (k : ℕ). drop k (upper ++ low)) size ∙ drop_front upper low

-- the operands that a label names
labels_first : (xs z below : List ValType) → take (length xs) ((xs ++ z) ++ below) ≡ xs
labels_first xs z below = ap (λ (l : List ValType). take (length xs) l) (append_assoc xs z below) ∙ take_front xs (z ++ below)

get_second : (xs ys : List ℕ) (n k : ℕ) → slice_get (xs ++ n ∷ k ∷ ys) (suc (length xs)) ≡ Some k
get_second [] ys n k = refl
get_second (x ∷ xs) ys n k = get_second xs ys n k

from_option : {B : Type 0} (g : B → Way) (o : Option B) (w : Way) → In w (option_to_list (option_map g o)) → (b : B) × (o ≡ Some b) × (g b ≡ w)
from_option g None w h = absurd h
from_option g (Some b) w (inl e) = (b, refl, e)
from_option g (Some b) w (inr h) = absurd h

-- ---- paths

pub next_path : (p : Place) → path_of (next p) ≡ path_behind (path_of p)
next_path p =
    let l = path_leads_on p in
    l.behind ∙ (sym (path_next (lead p.steps []) p.position) ∙ ap path_behind (sym l.here))

-- the path of a block
its_path : (p : Place) (others : List ℕ) (path : List ℕ) (b : Around) → path ≡ path_of p ++ others → b.lead ≡ length (lead p.steps []) → block_path path b ≡ path_of p
its_path p others path b e size =
    let whole : length (path_of p) ≡ suc b.lead = ap length (path_leads_on p).here ∙ omega (arith, length-append (lead p.steps []) (p.position ∷ []), size) in
    ap (λ (l : List ℕ). take (suc b.lead) l) e ∙ (ap (λ (k : ℕ). take k (path_of p ++ others)) (sym whole) ∙ take_front (path_of p) others)

block_ends : (i : Op) → IsBlock i → ends_piece i ≡ true
block_ends (block ty c) h = refl
block_ends (loop ty c) h = refl
block_ends (if_else ty a b) h = refl
block_ends _ h = absurd h

module _ (m : Module) (n : ℕ) (f : Func) (t : Typed m n f) where
  abbrev S : Scope
  S = scope_in m n f t

  abbrev root : Sequence
  root = body_in m n f t

  -- a way leads to a place that is reached, over the operands that it brings
  pub record Met (w : Way) : Type 0 where
    pub place : Place
    pub spot : Spot
    pub there : spot_at root place ≡ Some spot
    pub reached : spot_kinds S spot ≡ Some w.kinds
    pub to : path_of place ≡ w.to

  -- at which a piece begins
  pub record Begun (w : Way) : Type 0 where
    pub met : Met w
    pub is_begun : begins (visit_at S met.place met.spot w.kinds) ≡ true

  -- ---- behind and inside

  -- behind a block
  behind_begun : (p : Place) (at : Option Place) (before : Code) (op : Op) (rest : Code) (outer : List Level) (low : List ValType) (w : Way) → IsBlock op → spot_at root p ≡ Some (spot outer before (cons op rest))
      → under S (level at before op rest ∷ outer) ≡ Some low → w.to ≡ path_behind (path_of p) → w.kinds ≡ gives_of op ++ low → Begun w
  behind_begun p at before op rest outer low w h e u to kinds = record {
    met = record {
      place = next p;
      spot = spot outer (followed_by before op) rest;
      there = find_next root p outer before op rest e;
      reached = behind_block S (level at before op rest) outer low h u ∙ ap Some (sym kinds);
      to = next_path p ∙ sym to;
    };
    is_begun = or_true (begins_at (followed_by before op) (path_of (next p)) (blocks_of S outer)) (begins_before rest) (begins_next before op (path_of (next p)) (blocks_of S outer) ∙ block_ends op h);
  }

  -- the innermost block, and where a piece begins in it
  begins_in : (p : Place) (before : Code) (op : Op) (rest : Code) (outer : List Level) (low : List ValType) (path : List ℕ) → under S (level (Some p) before op rest ∷ outer) ≡ Some low
      → begins_first path (labelled (blocks_of S (level (Some p) before op rest ∷ outer)) 0) ≡ begins_inside op (slice_get path (suc (length (lead p.steps []))))
  begins_in p before op rest outer low path u =
      ap (λ (l : List Around). begins_first path (slice_get l 0)) (innermost (blocks_of S outer) (around op rest (length (lead p.steps [])) (count_of (under S (level (Some p) before op rest ∷ outer)))))

  -- into a loop
  pub loop_begun : (p : Place) (before : Code) (ty : Option ValType) (d rest : Code) (outer : List Level) (low : List ValType) (w : Way) → spot_at root p ≡ Some (spot outer before (cons (loop ty d) rest))
      → under S (level (Some p) before (loop ty d) rest ∷ outer) ≡ Some low → w.to ≡ path_of p ++ 0 ∷ [] → w.kinds ≡ low → Begun w
  loop_begun p before ty d rest outer low w e u to kinds = record {
    met = record {
      place = inside p;
      spot = spot (level (Some p) before (loop ty d) rest ∷ outer) nil d;
      there = find_loop root p outer before ty d rest e;
      reached = inside_block S (level (Some p) before (loop ty d) rest) outer low d u ∙ ap Some (sym kinds);
      to = (path_leads_on p).in_block ∙ sym to;
    };
    is_begun = or_true (begins_at nil (path_of (inside p)) (blocks_of S (level (Some p) before (loop ty d) rest ∷ outer))) (begins_before d) (begins_in p before (loop ty d) rest outer low (path_of (inside p)) u);
  }

  -- into a second arm
  pub arm_begun : (p : Place) (before : Code) (ty : Option ValType) (a d rest : Code) (outer : List Level) (low : List ValType) (w : Way) → spot_at root p ≡ Some (spot outer before (cons (if_else ty a d) rest))
      → under S (level (Some p) before (if_else ty a d) rest ∷ outer) ≡ Some low → w.to ≡ path_of p ++ 1 ∷ 0 ∷ [] → w.kinds ≡ low → Begun w
  arm_begun p before ty a d rest outer low w e u to kinds = record {
    met = record {
      place = inside_arm 1 p;
      spot = spot (level (Some p) before (if_else ty a d) rest ∷ outer) nil d;
      there = find_second_arm root p outer before ty a d rest e;
      reached = inside_block S (level (Some p) before (if_else ty a d) rest) outer low d u ∙ ap Some (sym kinds);
      to = (path_leads_on p).in_arm 1 ∙ sym to;
    };
    is_begun =
        or_true (begins_at nil (path_of (inside_arm 1 p)) (blocks_of S (level (Some p) before (if_else ty a d) rest ∷ outer))) (begins_before d)
        (begins_in p before (if_else ty a d) rest outer low (path_of (inside_arm 1 p)) u
        ∙ ap (λ (o : Option ℕ). begins_inside (if_else ty a d) o) (ap (λ (l : List ℕ). slice_get l (suc (length (lead p.steps [])))) (lead_append p.steps (p.position ∷ 1 ∷ 0 ∷ [])) ∙ get_second (lead p.steps []) (0 ∷ []) p.position 1));
  }

  -- ---- branches

  -- where a branch lands
  lands : (p : Place) (at : Option Place) (before : Code) (op : Op) (rest : Code) (outer : List Level) (low us z upper : List ValType) → IsBlock op → spot_at root p ≡ Some (spot outer before (cons op rest))
      → under S (level at before op rest ∷ outer) ≡ Some low → us ≡ (label_of op ++ z) ++ (upper ++ low) → Begun (landing op (path_of p) (length low) us)
  lands p at before op rest outer low us z upper h e u k = by_op op h e u k
    where
      down : (xs : List ValType) → us ≡ (xs ++ z) ++ (upper ++ low) → lowest (length low) us ≡ low
      down xs k = ap (λ (l : List ValType). lowest (length low) l) (k ∙ sym (append_assoc (xs ++ z) upper low)) ∙ lowest_is ((xs ++ z) ++ upper) low

      carried : (xs : List ValType) → us ≡ (xs ++ z) ++ (upper ++ low) → take (length xs) us ++ lowest (length low) us ≡ xs ++ low
      carried xs k =
          ap (λ (l : List ValType). l ++ lowest (length low) us) (ap (λ (l : List ValType). take (length xs) l) k ∙ labels_first xs z (upper ++ low))
          ∙ ap (λ (l : List ValType). xs ++ l) (down xs k)

      by_op : (op : Op) → IsBlock op → spot_at root p ≡ Some (spot outer before (cons op rest)) → under S (level at before op rest ∷ outer) ≡ Some low → us ≡ (label_of op ++ z) ++ (upper ++ low)
          → Begun (landing op (path_of p) (length low) us)
      by_op (block ty c) h e u k = behind_begun p at before (block ty c) rest outer low (landing (block ty c) (path_of p) (length low) us) tt e u refl (carried (results_of ty) k)
      by_op (loop ty c) h e u k = loop_begun p before ty c rest outer low (landing (loop ty c) (path_of p) (length low) us) e u refl (down [] k)
      by_op (if_else ty a b) h e u k = behind_begun p at before (if_else ty a b) rest outer low (landing (if_else ty a b) (path_of p) (length low) us) tt e u refl (carried (results_of ty) k)
      by_op _ h e u k = absurd h

  -- a block round a place, by its label
  abbrev RoundAt : Place → Spot → List ValType → ℕ → Around → Type 0
  RoundAt p x below l b = Round S root p.steps x.levels below l b

  block_at : (p : Place) (x : Spot) (below : List ValType) (l : ℕ) (b : Around) → spot_at root p ≡ Some x → under S x.levels ≡ Some below → labelled (blocks_of S x.levels) l ≡ Some b → RoundAt p x below l b
  block_at p x below l b e u h =
      let w = found root p x e in
      subst (λ (lvs : List Level). Round S root p.steps lvs below l b) w.part.levels
      (round S (first_of t.type.results) (code_of f.body) p.steps w.sequence below l b w.there (ap (λ (lvs : List Level). under S lvs) w.part.levels ∙ u) (ap (λ (lvs : List Level). labelled (blocks_of S lvs) l) w.part.levels ∙ h))

  round_path : (p : Place) (x : Spot) (below : List ValType) (l : ℕ) (b : Around) (r : RoundAt p x below l b) → block_path (path_of p) b ≡ path_of r.place
  round_path p x below l b r = its_path r.place (r.added ++ p.position ∷ []) (path_of p) b (r.path (p.position ∷ [])) (ap (λ (a : Around). a.lead) r.is)

  pub branch_begun : (p : Place) (x : Spot) (label us z below : List ValType) (l : ℕ) → spot_at root p ≡ Some x → under S x.levels ≡ Some below → slice_get (labels_at x.levels) l ≡ Some label
      → us ≡ (label ++ z) ++ below → (w : Way) → In w (branch (path_of p) (blocks_of S x.levels) us l) → Begun w
  branch_begun p x label us z below l e u at k w h =
      let o = from_option (λ b. landing b.op (block_path (path_of p) b) b.under us) (labelled (blocks_of S x.levels) l) w h in
      let b : Around = o.0 in
      let r : RoundAt p x below l b = block_at p x below l b e u o.1 in
      let same : label ≡ label_of r.level.op = some_of label (label_of r.level.op) (sym at ∙ r.label) in
      let all : us ≡ (label_of r.level.op ++ z) ++ (r.upper ++ r.low) = k ∙ (ap (λ (xs : List ValType). (xs ++ z) ++ below) same ∙ ap (λ (xs : List ValType). (label_of r.level.op ++ z) ++ xs) r.split) in
      let here : Begun (landing r.level.op (path_of r.place) (length r.low) us) = lands r.place r.level.place r.level.before r.level.op r.level.rest r.outer r.low us z r.upper r.is_block r.stands r.low_is all in
      let is : landing r.level.op (path_of r.place) (length r.low) us ≡ w =
      ap (λ (q : List ℕ). landing r.level.op q (length r.low) us) (sym (round_path p x below l b r)) ∙ (ap (λ (a : Around). landing a.op (block_path (path_of p) b) a.under us) (sym r.is) ∙ o.2) in
      subst (λ (y : Way). Begun y) is here

  branches_begun : (ls : List ℕ) (p : Place) (x : Spot) (label us z below : List ValType) → spot_at root p ≡ Some x → under S x.levels ≡ Some below → EachTakes ls (labels_at x.levels) label
      → us ≡ (label ++ z) ++ below → (w : Way) → In w (branches (path_of p) (blocks_of S x.levels) us ls) → Begun w
  branches_begun [] p x label us z below e u at k w h = absurd h
  branches_begun (l ∷ ls) p x label us z below e u at k w h =
      ⊎_elim (λ (a : In w (branch (path_of p) (blocks_of S x.levels) us l)). branch_begun p x label us z below l e u at.0 k w a)
      (λ (a : In w (branches (path_of p) (blocks_of S x.levels) us ls)). branches_begun ls p x label us z below e u at.1 k w a)
      (in_either w (branch (path_of p) (blocks_of S x.levels) us l) (branches (path_of p) (blocks_of S x.levels) us ls) h)

  -- out of a block
  leave_begun : (p : Place) (x : Spot) (own below : List ValType) → spot_at root p ≡ Some x → under S x.levels ≡ Some below → own ≡ ends_at x.levels
      → (w : Way) → In w (leaving (path_of p) (blocks_of S x.levels) (own ++ below)) → Begun w
  leave_begun p x own below e u ends w h =
      let o = from_option (λ b. way (path_behind (block_path (path_of p) b)) (own ++ below)) (labelled (blocks_of S x.levels) 0) w h in
      let b : Around = o.0 in
      let r : RoundAt p x below 0 b = block_at p x below 0 b e u o.1 in
      let low : r.low ≡ below = some_of r.low below (sym r.low_is ∙ (ap (λ (lvs : List Level). under S lvs) (sym r.drops) ∙ u)) in
      let gives : own ≡ gives_of r.level.op = ends ∙ ap ends_at r.drops in
      behind_begun r.place r.level.place r.level.before r.level.op r.level.rest r.outer r.low w r.is_block r.stands r.low_is
      (ap (λ (y : Way). y.to) (sym o.2) ∙ ap path_behind (round_path p x below 0 b r))
      (ap (λ (y : Way). y.kinds) (sym o.2) ∙ (ap (λ (l : List ValType). l ++ below) gives ∙ ap (λ (l : List ValType). gives_of r.level.op ++ l) (sym low)))

  -- ---- onward

  onward_met : (p : Place) (lvs : List Level) (before : Code) (i : Op) (is : Code) (own below : List ValType) (D : Context) (takes gives b : List ValType) → D.scope ≡ S
      → spot_at root p ≡ Some (spot lvs before (cons i is)) → run before S [] ≡ Some own → under S lvs ≡ Some below → is_jump i ≡ false → Rule i D takes gives → own ≡ takes ++ b
      → (e : Change) × (change i S ≡ Some e) × (k : Met (way (path_behind (path_of p)) (left_by (change i S) (own ++ below)))) × (k.spot.before ≡ followed_by before i)
  onward_met p lvs before i is own below D takes gives b same e ran u j r k =
      let s : Stepped i D.scope own (gives ++ b) below = step i D own takes gives b below j r k in
      let alone : Stepped i D.scope own (gives ++ b) [] = step i D own takes gives b [] j r k in
      let made : change i S ≡ Some s.made = ap (change i) (sym same) ∙ s.is in
      let one : alone.made ≡ s.made = some_of alone.made s.made (sym alone.is ∙ s.is) in
      let left : changed s.made own ≡ gives ++ b =
      ap (changed s.made) (sym (append-nil own)) ∙ (ap (λ (c : Change). changed c (own ++ [])) (sym one) ∙ (alone.leaves ∙ append-nil (gives ++ b))) in
      let after : run (followed_by before i) S [] ≡ Some (changed s.made own) =
      run_behind before i S [] ∙ (ap (λ (o : Option (List ValType)). o >>= λ us. change i S >>= λ c. Some (changed c us)) ran ∙ ap (λ (o : Option Change). o >>= λ c. Some (changed c own)) made) in
      let kinds : changed s.made own ++ below ≡ left_by (change i S) (own ++ below) =
      ap (λ (l : List ValType). l ++ below) left ∙ (sym s.leaves ∙ ap (λ (o : Option Change). left_by o (own ++ below)) (sym made)) in (
        s.made,
        made,
        record {
          place = next p;
          spot = spot lvs (followed_by before i) is;
          there = find_next root p lvs before i is e;
          reached = over_is (run (followed_by before i) S []) (under S lvs) (changed s.made own) below after u ∙ ap Some kinds;
          to = next_path p;
        },
        refl,
      )

  -- behind what ends a piece
  pub ends_begun : (p : Place) (lvs : List Level) (before : Code) (i : Op) (is : Code) (own below : List ValType) (D : Context) (takes gives b : List ValType) → D.scope ≡ S
      → spot_at root p ≡ Some (spot lvs before (cons i is)) → run before S [] ≡ Some own → under S lvs ≡ Some below → is_jump i ≡ false → Rule i D takes gives → own ≡ takes ++ b
      → ends_piece i ≡ true → Begun (way (path_behind (path_of p)) (left_by (change i S) (own ++ below)))
  ends_begun p lvs before i is own below D takes gives b same e ran u j r k ends =
      let o = onward_met p lvs before i is own below D takes gives b same e ran u j r k in
      let x : Way = way (path_behind (path_of p)) (left_by (change i S) (own ++ below)) in
      let met : Met x = o.2 in
      record {
        met = met;
        is_begun =
            or_true (begins_at met.spot.before (path_of met.place) (blocks_of S met.spot.levels)) (begins_before met.spot.code)
            (ap (λ (c : Code). begins_at c (path_of met.place) (blocks_of S met.spot.levels)) o.3 ∙ (begins_next before i (path_of met.place) (blocks_of S met.spot.levels) ∙ ends));
      }

  -- before what may be repeated
  pub here_begun : (p : Place) (lvs : List Level) (before : Code) (i : Op) (is : Code) (own below : List ValType) → spot_at root p ≡ Some (spot lvs before (cons i is))
      → run before S [] ≡ Some own → under S lvs ≡ Some below → is_repeated i ≡ true → Begun (way (path_of p) (own ++ below))
  here_begun p lvs before i is own below e ran u again = record {
    met = record {
      place = p;
      spot = spot lvs before (cons i is);
      there = e;
      reached = over_is (run before S []) (under S lvs) own below ran u;
      to = refl;
    };
    is_begun = or_also (begins_at before (path_of p) (blocks_of S lvs)) (begins_before (cons i is)) again;
  }

  -- ---- the next place of the text

  abbrev all : List Visit
  all = visits S root

  pub met_in : (w : Way) (k : Met w) → In (visit_at S k.place k.spot w.kinds) all
  met_in w k = shown S root k.place k.spot w.kinds k.there k.reached

  -- the first of these visits is the one to which the way leads
  pub next_is : (vs : List Visit) → ((v : Visit) → In v vs → In v all) → (w : Way) → Met w → HeadAt vs w.to → IsNext vs w
  next_is [] among w k h = absurd h
  next_is (y ∷ ys) among w k h =
      let same : y ≡ visit_at S k.place k.spot w.kinds = same_visit S root y (visit_at S k.place k.spot w.kinds) (among y (inl refl)) (met_in w k) (h ∙ sym k.to) in
      (h, ap (λ (v : Visit). v.kinds) same)

  pub head_of : (vs : List Visit) (q : List ℕ) (before : Code) → HeadBehind vs q before → HeadAt vs q
  head_of [] q before h = absurd h
  head_of (y ∷ ys) q before h = h.0

  -- ---- the ways on from a place

  module _ (p : Place) (lvs : List Level) (before : Code) (own below ends : List ValType) (D : Context) (same : D.scope ≡ S) (labels_are : D.labels ≡ labels_at lvs)
      (ran : run before S [] ≡ Some own) (u : under S lvs ≡ Some below) (vs : List Visit) (among : (v : Visit) → In v vs → In v all) where
    abbrev ts : List ValType
    ts = own ++ below

    abbrev here : Code → Spot
    here c = spot lvs before c

    -- the operands under a sequence inside
    under_here : (i : Op) (is : Code) → under S (level (Some p) before i is ∷ lvs) ≡ Some (stays_under i own ++ below)
    under_here i is = over_is (option_map (stays_under i) (run before S [])) (under S lvs) (stays_under i own) below (ap (λ (o : Option (List ValType)). option_map (stays_under i) o) ran) u

    body_met : (i : Op) (is c : Code) (w : Way) → stays_under i own ≡ own → spot_at root (inside p) ≡ Some (spot (level (Some p) before i is ∷ lvs) nil c) → way (path_of p ++ 0 ∷ []) ts ≡ w → Met w
    body_met i is c w stays e is_way = subst (λ (y : Way). Met y) is_way (record {
      place = inside p;
      spot = spot (level (Some p) before i is ∷ lvs) nil c;
      there = e;
      reached = inside_block S (level (Some p) before i is) lvs ts c (under_here i is ∙ ap (λ (l : List ValType). Some (l ++ below)) stays);
      to = (path_leads_on p).in_block;
    })

    only : {w x : Way} → In w (x ∷ []) → x ≡ w
    only (inl e) = e
    only (inr h) = absurd h

    onward_leads : (i : Op) (is : Code) (takes gives b : List ValType) → spot_at root p ≡ Some (here (cons i is)) → is_jump i ≡ false → Rule i D takes gives → own ≡ takes ++ b
        → ((e : Change) → change i S ≡ Some e → HeadBehind vs (path_behind (path_of p)) (followed_by before i))
        → (w : Way) → In w (onward S i (path_of p) ts) → Begun w ⊎ IsNext vs w
    onward_leads i is takes gives b e j r k follows w h =
        let o = onward_met p lvs before i is own below D takes gives b same e ran u j r k in
        let x : Way = way (path_behind (path_of p)) (left_by (change i S) ts) in
        let is_way : x ≡ w = only h in
        subst (λ (y : Way). Begun y ⊎ IsNext vs y) is_way
        (inr (next_is vs among x o.2 (head_of vs (path_behind (path_of p)) (followed_by before i) (follows o.0 o.1))))

    -- a condition is the last operand
    condition : (takes gives rest b : List ValType) → takes ≡ I32 ∷ rest → own ≡ takes ++ b → drop 1 ts ≡ (rest ++ b) ++ below
    condition takes gives rest b e k = ap (λ (l : List ValType). drop 1 (l ++ below)) (k ∙ ap (λ (l : List ValType). l ++ b) e)

    op_leads : (i : Op) (is : Code) (takes gives b : List ValType) → spot_at root p ≡ Some (here (cons i is)) → Rule i D takes gives → own ≡ takes ++ b
        → OpFollows S i (visit_at S p (here (cons i is)) ts) vs → (w : Way) → In w (op_ways S i (path_of p) (blocks_of S lvs) ts) → Begun w ⊎ IsNext vs w
    op_leads (block ty c) is takes gives b e r k follows w h =
        let is_way : way (path_of p ++ 0 ∷ []) ts ≡ w = only h in
        let met : Met w = body_met (block ty c) is c w refl (find_block root p lvs before ty c is e) is_way in
        inr (next_is vs among w met (subst (λ (y : Way). HeadAt vs y.to) is_way follows))
    op_leads (loop ty c) is takes gives b e r k follows w h =
        let is_way : way (path_of p ++ 0 ∷ []) ts ≡ w = only h in
        inl (loop_begun p before ty c is lvs ts w e (under_here (loop ty c) is) (ap (λ (y : Way). y.to) (sym is_way)) (ap (λ (y : Way). y.kinds) (sym is_way)))
    op_leads (if_else ty x y) is takes gives b e r k follows w (inl is_way) =
        let dropped : drop 1 own ++ below ≡ drop 1 ts = ap (λ (l : List ValType). drop 1 l ++ below) (k ∙ ap (λ (l : List ValType). l ++ b) r.0.0) ∙ sym (condition takes gives [] b r.0.0 k) in
        let met : Met w = subst (λ (z : Way). Met z) is_way (record {
          place = inside_arm 0 p;
          spot = spot (level (Some p) before (if_else ty x y) is ∷ lvs) nil x;
          there = find_first_arm root p lvs before ty x y is e;
          reached = inside_block S (level (Some p) before (if_else ty x y) is) lvs (drop 1 ts) x (under_here (if_else ty x y) is ∙ ap Some dropped);
          to = (path_leads_on p).in_arm 0;
        }) in
        inr (next_is vs among w met (subst (λ (z : Way). HeadAt vs z.to) is_way follows))
    op_leads (if_else ty x y) is takes gives b e r k follows w (inr (inl is_way)) =
        let dropped : drop 1 own ++ below ≡ drop 1 ts = ap (λ (l : List ValType). drop 1 l ++ below) (k ∙ ap (λ (l : List ValType). l ++ b) r.0.0) ∙ sym (condition takes gives [] b r.0.0 k) in
        inl (arm_begun p before ty x y is lvs (drop 1 ts) w e (under_here (if_else ty x y) is ∙ ap Some dropped) (ap (λ (z : Way). z.to) (sym is_way)) (ap (λ (z : Way). z.kinds) (sym is_way)))
    op_leads (if_else ty x y) is takes gives b e r k follows w (inr (inr h)) = absurd h
    op_leads (br l) is takes gives b e (label, z, at, is_label) k follows w h =
        let all_of : ts ≡ (label ++ (z ++ b)) ++ below =
        ap (λ (x : List ValType). x ++ below) (k ∙ (ap (λ (x : List ValType). x ++ b) is_label ∙ append_assoc label z b)) in
        inl (branch_begun p (here (cons (br l) is)) label ts (z ++ b) below l e u (ap (λ (x : List (List ValType)). slice_get x l) (sym labels_are) ∙ at) all_of w h)
    op_leads (br_if l) is takes gives b e (label, at, j) k follows w h =
        ⊎_elim
        (λ (g : In w (branch (path_of p) (blocks_of S lvs) (drop 1 ts) l)).
        inl (branch_begun p (here (cons (br_if l) is)) label (drop 1 ts) b below l e u (ap (λ (x : List (List ValType)). slice_get x l) (sym labels_are) ∙ at) (condition takes gives label b j.0 k) w g))
        (λ (g : In w (onward S (br_if l) (path_of p) ts)). onward_leads (br_if l) is takes gives b e refl (label, at, j) k follows w g)
        (in_either w (branch (path_of p) (blocks_of S lvs) (drop 1 ts) l) (onward S (br_if l) (path_of p) ts) h)
    op_leads (br_table ls l) is takes gives b e (label, z, at, each, is_label) k follows w h =
        let all_of : drop 1 ts ≡ (label ++ (z ++ b)) ++ below =
        condition takes gives (label ++ z) b is_label k ∙ ap (λ (x : List ValType). x ++ below) (append_assoc label z b) in
        let here_at : slice_get (labels_at lvs) l ≡ Some label = ap (λ (x : List (List ValType)). slice_get x l) (sym labels_are) ∙ at in
        let here_each : EachTakes ls (labels_at lvs) label = subst (λ (x : List (List ValType)). EachTakes ls x label) labels_are each in
        inl (branches_begun (ls ++ l ∷ []) p (here (cons (br_table ls l) is)) label (drop 1 ts) (z ++ b) below e u (each_and ls l label here_each here_at) all_of w h)
      where
        each_and : (ls : List ℕ) (l : ℕ) (label : List ValType) → EachTakes ls (labels_at lvs) label → slice_get (labels_at lvs) l ≡ Some label → EachTakes (ls ++ l ∷ []) (labels_at lvs) label
        each_and [] l label h g = (g, tt)
        each_and (x ∷ ls) l label h g = (h.0, each_and ls l label h.1 g)
    op_leads return is takes gives b e r k follows w h = absurd h
    op_leads unreachable is takes gives b e r k follows w h = absurd h
    op_leads i is takes gives b e r k follows w h = onward_leads i is takes gives b e refl r k follows w h

    code_leads : (c : Code) → spot_at root p ≡ Some (here c) → TypesCode c D own ends → ends ≡ ends_at lvs → CodeFollows S c (visit_at S p (here c) ts) vs
        → (w : Way) → In w (code_ways S c (path_of p) (blocks_of S lvs) ts) → Begun w ⊎ IsNext vs w
    code_leads nil e typed ends_are follows w h = inl (leave_begun p (here nil) own below e u (typed ∙ ends_are) w h)
    code_leads (cons i is) e (takes, gives, b, r, k, others) ends_are follows w h = op_leads i is takes gives b e r k follows w h

  -- EACH WAY ON IS MET
  pub ways_lead : (v : Visit) → In v all → (vs : List Visit) → ((x : Visit) → In x vs → In x all) → Follows S v vs → (w : Way) → In w (ways S v) → Begun w ⊎ IsNext vs w
  ways_lead v h vs among follows w g =
      let a : Visited S root v = visited S root v h in
      let x : Spot = a.spot in
      let k = place_kept m n f t a.place x a.kinds a.there a.reached in
      let both : a.kinds ≡ k.own ++ k.below = k.both in
      let is : visit_at S a.place x (k.own ++ k.below) ≡ v = ap (λ (l : List ValType). visit_at S a.place x l) (sym both) ∙ a.is in
      let seen : CodeFollows S x.code (visit_at S a.place x (k.own ++ k.below)) vs = subst (λ (y : Visit). CodeFollows S y.rest y vs) (sym is) follows in
      let there : In w (code_ways S x.code (path_of a.place) (blocks_of S x.levels) (k.own ++ k.below)) =
      subst (λ (l : List ValType). In w (code_ways S x.code (path_of a.place) (blocks_of S x.levels) l)) (reverse-reverse (k.own ++ k.below))
      (subst (λ (y : Visit). In w (ways S y)) (sym is) g) in
      code_leads a.place x.levels x.before k.own k.below k.ends k.context (ap (λ (D : Context). D.scope) k.is) (ap (λ (D : Context). D.labels) k.is) k.own_is k.below_is vs among x.code a.there k.typed k.ends_are seen w there
