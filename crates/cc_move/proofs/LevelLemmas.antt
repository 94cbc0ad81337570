-- The blocks of a standing activation by their labels, and how its code is typed.
use Rattle.std.proofs.Common.{◌≡◌, inl, inr, ℕ, zero, suc, List, [], ◌∷◌, ◌++◌, length, take, drop, reverse, Option, Some, None, option_map, refl, sym, ap, ◌∙◌, subst, append_assoc, arith}
use Rattle.std.specs.Prelude.{slice_get}
use Rattle.std.proofs.lemmas.List.{length-append}
use Rattle.mc_nbt.specs.declared.value.Value.{Value}
use Rattle.wm_ast.specs.declared.module.ValType.{ValType}
use Rattle.wm_ast.specs.declared.module.Module.{Module}
use Rattle.wm_ast.specs.Code.{Op, block, loop, if_else, Code, nil, cons}
use Rattle.wm_ast.specs.Types.{results_of}
use Rattle.wm_valid.specs.Typing.{Context, EachTakes, TypesCode, body_context, Scope}
use Rattle.wm_valid.specs.Valid.{Valid}
use Rattle.wm_valid.specs.Arrows.{◌>>=◌, changed, change}
use Rattle.wm_valid.specs.PlaceReading.{run}
use Rattle.wm_flat.specs.Flat.{Level, Activation}
use Rattle.wm_flat.specs.FlatTyping.{types_of}
use Rattle.wm_flat.specs.Operands.{under, operands}
use Rattle.wm_place.specs.Place.{Step, in_block, in_arm, Place, place, lead, path_of}
use Rattle.wm_place.specs.Spot as places
use Rattle.wm_place.specs.Spot.{level, Sequence, body_sequence, spot, followed_by, label_of, gives_of, labels_at, ends_at, position_of, sequence_at, spot_at}
use Rattle.wm_place.specs.SpotTyping.{with_labels, IsTypedSpot}
use Rattle.wm_place.specs.Kinds.{under as kinds_under, stays_under}
use Rattle.wm_place.specs.Visit.{Around, around, count_of, blocks_of, Visit}
use Rattle.wm_place.proofs.KindLemmas.{spot_typed}
use Rattle.wm_place.proofs.LevelLemmas.{some_of, map_some, last_step}
use Rattle.wm_place.proofs.OrderLemmas.{path_leads_on}
use Rattle.wm_place.proofs.WalkLemmas.{run_behind}
use Rattle.cc_cut.specs.Way.{block_path}
use Rattle.cc_cut.proofs.BlockLemmas.{IsBlock, holds, arms, step_path, innermost}
use Rattle.cc_cut.proofs.ListLemmas.{In, among}
use Rattle.cc_move.specs.Standing.{IsLevel, AreLevels, StandsAt}
use Rattle.cc_move.specs.Law.{BranchesTo, by_br, by_br_if, by_br_table}
use Rattle.cc_move.proofs.StandLemmas.{types_drop, kinds_are}

-- ---- paths of blocks

take_front : (xs ys : List ℕ) → take (length xs) (xs ++ ys) ≡ xs
take_front [] ys = refl
take_front (x ∷ xs) ys = ap (λ (l : List ℕ). x ∷ l) (take_front xs ys)

pub its_path : (p : Place) (others path : List ℕ) (x : Around) → path ≡ path_of p ++ others → x.lead ≡ length (lead p.steps []) → block_path path x ≡ path_of p
its_path p others path x e size =
    let whole : length (path_of p) ≡ suc x.lead = ap length (path_leads_on p).here ∙ omega (arith, length-append (lead p.steps []) (p.position ∷ []), size) in
    ap (λ (l : List ℕ). take (suc x.lead) l) e ∙ (ap (λ (k : ℕ). take k (path_of p ++ others)) (sym whole) ∙ take_front (path_of p) others)

-- ---- levels, from one on

-- the block of the machine for a block round a place
pub record Pair (S : Scope) (lvs : List Level) (b : places.Level) (bs : List places.Level) : Type 0 where
  pub level : Level
  pub outer : List Level
  pub is : lvs ≡ level ∷ outer
  pub is_level : IsLevel S level b
  pub others : AreLevels S outer bs

pair : (S : Scope) (lvs : List Level) (b : places.Level) (bs : List places.Level) → AreLevels S lvs (b ∷ bs) → Pair S lvs b bs
pair S [] b bs h = absurd h
pair S (lv ∷ lvs) b bs (one, others) = record { level = lv; outer = lvs; is = refl; is_level = one; others = others }

are_dropped : (S : Scope) (l : ℕ) (lvs : List Level) (bs : List places.Level) → AreLevels S lvs bs → AreLevels S (drop l lvs) (drop l bs)
are_dropped S zero lvs bs h = h
are_dropped S (suc l) [] [] h = tt
are_dropped S (suc l) [] (b ∷ bs) h = absurd h
are_dropped S (suc l) (lv ∷ lvs) [] h = absurd h
are_dropped S (suc l) (lv ∷ lvs) (b ∷ bs) h = are_dropped S l lvs bs h.1

pub paired : (S : Scope) (l : ℕ) (lvs : List Level) (bs : List places.Level) (b : places.Level) (outer : List places.Level) → AreLevels S lvs bs → drop l bs ≡ b ∷ outer → Pair S (drop l lvs) b outer
paired S l lvs bs b outer h e = pair S (drop l lvs) b outer (subst (λ (x : List places.Level). AreLevels S (drop l lvs) x) e (are_dropped S l lvs bs h))

-- a list of levels, by its first and the others
pub levels_are : (lvs : List Level) (lv made : Level) (outer others : List Level) → lvs ≡ lv ∷ outer → lv ≡ made → outer ≡ others → lvs ≡ made ∷ others
levels_are lvs lv made outer others e f g = e ∙ (ap (λ (y : Level). y ∷ outer) f ∙ ap (λ (y : List Level). made ∷ y) g)

pub no_level : (S : Scope) (lvs : List Level) → AreLevels S lvs [] → lvs ≡ []
no_level S [] h = refl
no_level S (lv ∷ lvs) h = absurd h

-- the operands under blocks further out are the lowest
pub record Above (l : ℕ) (lvs : List Level) : Type 0 where
  pub upper : List Value
  pub split : under lvs ≡ upper ++ under (drop l lvs)

pub above : (l : ℕ) (lvs : List Level) → Above l lvs
above zero lvs = record { upper = []; split = refl }
above (suc l) [] = record { upper = []; split = refl }
above (suc l) (lv ∷ lvs) =
    let w : Above l lvs = above l lvs in
    record { upper = lv.values ++ w.upper; split = ap (λ (x : List Value). lv.values ++ x) w.split ∙ sym (append_assoc lv.values w.upper (under (drop l lvs))) }

-- a block of the machine, by its parts
abbrev pub made_level : List ℕ → Code → Op → Code → List Value → Level
made_level path before op rest values = record { block = record { place = path; before = before; op = op; rest = rest }; values = values }

pub level_is : (lv : Level) (path : List ℕ) (before : Code) (op : Op) (rest : Code) → lv.block.place ≡ path → lv.block.before ≡ before → lv.block.op ≡ op → lv.block.rest ≡ rest
    → lv ≡ made_level path before op rest lv.values
level_is lv path before op rest e f g h =
    ap (λ (x : List ℕ). made_level x lv.block.before lv.block.op lv.block.rest lv.values) e
    ∙ (ap (λ (x : Code). made_level path x lv.block.op lv.block.rest lv.values) f
    ∙ (ap (λ (x : Op). made_level path before x lv.block.rest lv.values) g ∙ ap (λ (x : Code). made_level path before op x lv.values) h))

-- what a label of these takes
pub first_label : (l : ℕ) (bs : List places.Level) (b : places.Level) (outer : List places.Level) → drop l bs ≡ b ∷ outer → slice_get (labels_at bs) l ≡ Some (label_of b.op)
first_label zero [] b outer e = absurd cc
first_label zero (x ∷ bs) b outer e = ap (λ (y : List places.Level). slice_get (labels_at y) 0) e
first_label (suc l) [] b outer e = absurd cc
first_label (suc l) (x ∷ bs) b outer e = first_label l bs b outer e

-- ---- blocks round a place

-- and from that of a block further out
further_path : (s : Step) (steps : List Step) (front added path : List ℕ) → ((rest : List ℕ) → lead steps rest ≡ front ++ (added ++ rest)) → lead (s ∷ steps) path ≡ front ++ ((added ++ (position_of s ∷ arms s)) ++ path)
further_path (in_block n) steps front added path h = h (n ∷ path) ∙ ap (λ (l : List ℕ). front ++ l) (sym (append_assoc added (n ∷ []) path))
further_path (in_arm n k) steps front added path h = h (n ∷ k ∷ path) ∙ ap (λ (l : List ℕ). front ++ l) (sym (append_assoc added (n ∷ k ∷ []) path))

-- a block round the places of a sequence, by its label
pub record Round (S : Scope) (body : Sequence) (steps : List Step) (bs : List places.Level) (l : ℕ) (x : Around) : Type 0 where
  pub level : places.Level
  pub outer : List places.Level
  pub place : Place
  pub at : level.place ≡ Some place
  pub drops : drop l bs ≡ level ∷ outer
  pub stands : spot_at body place ≡ Some (spot outer level.before (cons level.op level.rest))
  pub is_block : IsBlock level.op
  pub label : slice_get (labels_at bs) l ≡ Some (label_of level.op)
  pub added : List ℕ
  pub path : (path : List ℕ) → lead steps path ≡ path_of place ++ (added ++ path)
  pub is : x ≡ around level.op level.rest (length (lead place.steps [])) (count_of (kinds_under S (level ∷ outer)))

module _ (S : Scope) (gives : Option ValType) (c : Code) where
  -- the same block, one step deeper
  deeper : (s : Step) (steps : List Step) (lv : places.Level) (outs : List places.Level) (k : ℕ) (x : Around) → Round S (body_sequence gives c) steps outs k x
      → Round S (body_sequence gives c) (s ∷ steps) (lv ∷ outs) (suc k) x
  deeper s steps lv outs k x r = record {
    level = r.level;
    outer = r.outer;
    place = r.place;
    at = r.at;
    drops = r.drops;
    stands = r.stands;
    is_block = r.is_block;
    label = r.label;
    added = r.added ++ (position_of s ∷ arms s);
    path = λ path. further_path s steps (path_of r.place) r.added path r.path;
    is = r.is;
  }

  by_label : (l : ℕ) (s : Step) (steps : List Step) (before : Code) (op : Op) (rest : Code) (outs : List places.Level) (x : Around) → spot_at (body_sequence gives c) (place steps (position_of s)) ≡ Some (spot outs before (cons op rest))
      → IsBlock op
      → slice_get (around op rest (length (lead steps [])) (count_of (kinds_under S (level (Some (place steps (position_of s))) before op rest ∷ outs))) ∷ reverse (blocks_of S outs)) l ≡ Some x
      → ((k : ℕ) → slice_get (reverse (blocks_of S outs)) k ≡ Some x → Round S (body_sequence gives c) steps outs k x)
      → Round S (body_sequence gives c) (s ∷ steps) (level (Some (place steps (position_of s))) before op rest ∷ outs) l x
  by_label zero s steps before op rest outs x stands is_block g further = record {
    level = level (Some (place steps (position_of s))) before op rest;
    outer = outs;
    place = place steps (position_of s);
    at = refl;
    drops = refl;
    stands = stands;
    is_block = is_block;
    label = refl;
    added = arms s;
    path = step_path s steps;
    is = sym (some_of (around op rest (length (lead steps [])) (count_of (kinds_under S (level (Some (place steps (position_of s))) before op rest ∷ outs)))) x g);
  }
  by_label (suc k) s steps before op rest outs x stands is_block g further = deeper s steps (level (Some (place steps (position_of s))) before op rest) outs k x (further k g)

  no_block : (l : ℕ) (x : Around) → slice_get {X = Around} [] l ≡ Some x → ⊥
  no_block l x e = absurd cc

  -- a label of a block
  pub round : (steps : List Step) (q : Sequence) (l : ℕ) (x : Around) → sequence_at (body_sequence gives c) steps ≡ Some q → slice_get (reverse (blocks_of S q.levels)) l ≡ Some x
      → Round S (body_sequence gives c) steps q.levels l x
  round [] q l x e f = absurd (no_block l x (ap (λ (y : Sequence). slice_get (reverse (blocks_of S y.levels)) l) (some_of (body_sequence gives c) q e) ∙ f))
  round (s ∷ steps) q l x e f =
      let w = last_step (body_sequence gives c) s steps q e in
      let op : Op = w.entered.op in
      let rest : Code = w.entered.rest in
      let outs : List places.Level = w.outer.levels in
      let lv : places.Level = level (Some (place steps (position_of s))) w.outer.before op rest in
      let stands : spot_at (body_sequence gives c) (place steps (position_of s)) ≡ Some (spot outs w.outer.before (cons op rest)) = w.there ∙ ap (λ (d : Code). Some (spot outs w.outer.before d)) w.entered.is_code in
      let own : Around = around op rest (length (lead steps [])) (count_of (kinds_under S (lv ∷ outs))) in
      let g : slice_get (own ∷ reverse (blocks_of S outs)) l ≡ Some x =
      sym (ap (λ (y : List Around). slice_get y l) (innermost (blocks_of S outs) own)) ∙ (sym (ap (λ (y : List places.Level). slice_get (reverse (blocks_of S y)) l) w.entered.levels) ∙ f) in
      subst (λ (y : List places.Level). Round S (body_sequence gives c) (s ∷ steps) y l x) (sym w.entered.levels)
      (by_label l s steps w.outer.before op rest outs x stands (holds s op q.code w.entered.inner) g
      (λ k h. subst (λ (y : List places.Level). Round S (body_sequence gives c) steps y k x) w.sequence.part.levels
      (round steps w.sequence.sequence k x w.sequence.there (ap (λ (y : List places.Level). slice_get (reverse (blocks_of S y)) k) w.sequence.part.levels ∙ h))))

-- ---- the body

-- a function's body is as a block, the outermost one
abbrev pub body_level : Option ValType → Code → places.Level
body_level gives c = level None nil (block gives c) nil

module _ (S : Scope) (gives : Option ValType) (c : Code) where
  -- a label that no block has is the body's
  pub outermost : (steps : List Step) (q : Sequence) (l : ℕ) (label : List ValType) → sequence_at (body_sequence gives c) steps ≡ Some q → slice_get (reverse (blocks_of S q.levels)) l ≡ None
      → slice_get (labels_at q.levels) l ≡ Some label → drop l q.levels ≡ body_level gives c ∷ []
  outermost [] q l label e f g =
      let same : body_sequence gives c ≡ q = some_of (body_sequence gives c) q e in
      subst (λ (y : Sequence). drop l y.levels ≡ body_level gives c ∷ []) same (by_label l (ap (λ (y : Sequence). slice_get (labels_at y.levels) l) same ∙ g))
    where
      by_label : (l : ℕ) → slice_get (results_of gives ∷ []) l ≡ Some label → drop l (body_level gives c ∷ []) ≡ body_level gives c ∷ []
      by_label zero g = refl
      by_label (suc l) g = absurd cc
  outermost (s ∷ steps) q l label e f g =
      let w = last_step (body_sequence gives c) s steps q e in
      let o : Sequence = w.sequence.sequence in
      let lv : places.Level = level (Some (place steps (position_of s))) w.outer.before w.entered.op w.entered.rest in
      let x : Around = around w.entered.op w.entered.rest (length (lead steps [])) (count_of (kinds_under S (lv ∷ w.outer.levels))) in
      let blocks : slice_get (x ∷ reverse (blocks_of S w.outer.levels)) l ≡ None =
      sym (ap (λ (y : List Around). slice_get y l) (innermost (blocks_of S w.outer.levels) x)) ∙ (sym (ap (λ (y : List places.Level). slice_get (reverse (blocks_of S y)) l) w.entered.levels) ∙ f) in
      let labels : slice_get (label_of w.entered.op ∷ labels_at w.outer.levels) l ≡ Some label = sym (ap (λ (y : List places.Level). slice_get (labels_at y) l) w.entered.levels) ∙ g in
      subst (λ (y : List places.Level). drop l y ≡ body_level gives c ∷ []) (sym w.entered.levels)
      (further l x lv (label_of w.entered.op) w.outer.levels label blocks labels
      (λ k f g. subst (λ (y : List places.Level). drop k y ≡ body_level gives c ∷ []) w.sequence.part.levels
      (outermost steps o k label w.sequence.there (ap (λ (y : List places.Level). slice_get (reverse (blocks_of S y)) k) w.sequence.part.levels ∙ f)
      (ap (λ (y : List places.Level). slice_get (labels_at y) k) w.sequence.part.levels ∙ g))))
    where
      further : (l : ℕ) (x : Around) (lv : places.Level) (own : List ValType) (outer : List places.Level) (label : List ValType) → slice_get (x ∷ reverse (blocks_of S outer)) l ≡ None
          → slice_get (own ∷ labels_at outer) l ≡ Some label
          → ((k : ℕ) → slice_get (reverse (blocks_of S outer)) k ≡ None → slice_get (labels_at outer) k ≡ Some label → drop k outer ≡ body_level gives c ∷ [])
          → drop l (lv ∷ outer) ≡ body_level gives c ∷ []
      further zero x lv own outer label f g deeper = absurd cc
      further (suc k) x lv own outer label f g deeper = deeper k f g

-- some block is the innermost
pub record InnermostLabel (bs : List places.Level) : Type 0 where
  pub label : List ValType
  pub there : slice_get (labels_at bs) 0 ≡ Some label

pub innermost_label : (gives : Option ValType) (c : Code) (steps : List Step) (q : Sequence) → sequence_at (body_sequence gives c) steps ≡ Some q → InnermostLabel q.levels
innermost_label gives c [] q e = record { label = results_of gives; there = ap (λ (y : Sequence). slice_get (labels_at y.levels) 0) (sym (some_of (body_sequence gives c) q e)) }
innermost_label gives c (s ∷ steps) q e =
    let w = last_step (body_sequence gives c) s steps q e in
    record { label = label_of w.entered.op; there = ap (λ (y : List places.Level). slice_get (labels_at y) 0) w.entered.levels }

-- ---- behind a block

-- the place's own operands behind a block
pub own_behind : (S : Scope) (before : Code) (op : Op) (own : List ValType) → IsBlock op → option_map (stays_under op) (run before S []) ≡ Some own → run (followed_by before op) S [] ≡ Some (gives_of op ++ own)
own_behind S before op own h e =
    let w = map_some (stays_under op) (run before S []) own e in
    run_behind before op S [] ∙ (ap (λ (o : Option (List ValType)). o >>= λ us. change op S >>= λ x. Some (changed x us)) w.1 ∙ by_op op w.0 h w.2)
  where
    by_op : (op : Op) (us : List ValType) → IsBlock op → stays_under op us ≡ own → (change op S >>= λ x. Some (changed x us)) ≡ Some (gives_of op ++ own)
    by_op (block ty d) us h k = ap (λ (l : List ValType). Some (results_of ty ++ l)) k
    by_op (loop ty d) us h k = ap (λ (l : List ValType). Some (results_of ty ++ l)) k
    by_op (if_else ty x y) us h k = ap (λ (l : List ValType). Some (results_of ty ++ l)) k
    by_op _ us h k = absurd h

-- ---- how the code of a standing is typed

module _ (m : Module) (valid : Valid m) (a : Activation) (v : Visit) (s : StandsAt m a v) where
  abbrev pub context_at : Context
  context_at = with_labels (labels_at s.spot.levels) (body_context m s.func s.type)

  pub typed_here : (c : Code) → a.code ≡ c → TypesCode c context_at (types_of a.values) (ends_at s.spot.levels)
  typed_here c e =
      let w : IsTypedSpot (body_context m s.func s.type) s.spot = spot_typed m valid a.func s.func s.type s.is_function.there s.is_function.has_type s.place s.spot (types_of (operands a)) s.there (kinds_are m a v s) in
      let own : w.own ≡ types_of a.values = some_of w.own (types_of a.values) (sym w.kinds ∙ s.kinds) in
      subst (λ (d : Code). TypesCode d context_at (types_of a.values) (ends_at s.spot.levels)) (sym s.code ∙ e)
      (subst (λ (l : List ValType). TypesCode s.spot.code context_at l (ends_at s.spot.levels)) own w.typed)

-- ---- what a branch takes along

-- the operands of a label's types stand
pub record Room (labels : List (List ValType)) (vs : List Value) (l : ℕ) : Type 0 where
  pub label : List ValType
  pub there : slice_get labels l ≡ Some label
  pub below : List ValType
  pub types : types_of vs ≡ label ++ below

each_takes : (ls : List ℕ) (last l : ℕ) (labels : List (List ValType)) (ts : List ValType) → EachTakes ls labels ts → slice_get labels last ≡ Some ts → In l (ls ++ last ∷ []) → slice_get labels l ≡ Some ts
each_takes [] last l labels ts h e (inl k) = ap (slice_get labels) (sym k) ∙ e
each_takes [] last l labels ts h e (inr k) = absurd k
each_takes (x ∷ ls) last l labels ts h e (inl k) = ap (slice_get labels) (sym k) ∙ h.0
each_takes (x ∷ ls) last l labels ts h e (inr k) = each_takes ls last l labels ts h.1 e k

pub room : (D : Context) (vs : List Value) (is : Code) (ends : List ValType) (i : Op) (l k : ℕ) → BranchesTo i l k → TypesCode (cons i is) D (types_of vs) ends → Room D.labels (drop k vs) l
room D vs is ends i l k (by_br j) (takes, gives, below, (ts, z, at, whole), e, others) = record {
  label = ts;
  there = at;
  below = z ++ below;
  types = e ∙ (ap (λ (x : List ValType). x ++ below) whole ∙ append_assoc ts z below);
}
room D vs is ends i l k (by_br_if j) (takes, gives, below, (ts, at, j1), e, others) = record {
  label = ts;
  there = at;
  below = below;
  types = types_drop 1 vs ∙ ap (λ (x : List ValType). drop 1 x) (e ∙ ap (λ (x : List ValType). x ++ below) j1.0);
}
room D vs is ends i l k (by_br_table ls last j h) (takes, gives, below, (ts, z, at, each, whole), e, others) = record {
  label = ts;
  there = each_takes ls last l D.labels ts each at (among (ls ++ last ∷ []) l h);
  below = z ++ below;
  types = types_drop 1 vs ∙ (ap (λ (x : List ValType). drop 1 x) (e ∙ ap (λ (x : List ValType). x ++ below) whole) ∙ append_assoc ts z below);
}
