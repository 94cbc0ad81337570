-- The blocks round a place: where their labels lead.
use Rattle.std.proofs.Common.{◌≡◌, ℕ, zero, suc, List, [], ◌∷◌, ◌++◌, length, drop, reverse, Option, Some, None, option_map, refl, sym, ap, ◌∙◌, subst, append_assoc}
use Rattle.std.specs.Prelude.{slice_get}
use Rattle.std.proofs.lemmas.List.{reverse-append}
use Rattle.wm_ast.specs.declared.module.ValType.{ValType}
use Rattle.wm_ast.specs.Code.{Op, block, loop, if_else, Code, nil, cons}
use Rattle.wm_ast.specs.Types.{results_of}
use Rattle.wm_valid.specs.Typing.{Scope}
use Rattle.wm_valid.specs.Arrows.{◌>>=◌, changed, change}
use Rattle.wm_valid.specs.PlaceReading.{run}
use Rattle.wm_place.specs.Place.{Step, in_block, in_arm, Place, place, lead, path_of}
use Rattle.wm_place.specs.Spot.{Level, level, Sequence, body_sequence, spot, followed_by, label_of, gives_of, labels_at, position_of, sequence_at, spot_at}
use Rattle.wm_place.specs.Kinds.{stays_under, level_kinds, over, under, spot_kinds}
use Rattle.wm_place.specs.Visit.{Around, around, count_of, blocks_of}
use Rattle.wm_place.proofs.LevelLemmas.{IsInner, last_step}
use Rattle.wm_place.proofs.HeldLemmas.{Over, over_some}
use Rattle.wm_place.proofs.WalkLemmas.{lead_append, run_behind}
use Rattle.cc_cut.specs.Cost.{ends_piece}
use Rattle.cc_cut.specs.Piece.{begins_behind, begins_at}
use Rattle.cc_cut.proofs.ListLemmas.{some_of}

-- the instruction has a sequence inside
abbrev pub IsBlock : Op → Type 0
IsBlock (block ty c) = Unit {0}
IsBlock (loop ty c) = Unit {0}
IsBlock (if_else ty a b) = Unit {0}
IsBlock _ = ⊥

pub holds : (s : Step) (i : Op) (d : Code) → IsInner s i d → IsBlock i
holds (in_block n) (block ty c) d h = tt
holds (in_block n) (loop ty c) d h = tt
holds (in_block n) _ d h = absurd h
holds (in_arm n k) (if_else ty a b) d h = tt
holds (in_arm n k) _ d h = absurd h

-- the positions that a step adds behind that of its instruction
abbrev pub arms : Step → List ℕ
arms (in_block n) = []
arms (in_arm n k) = k ∷ []

-- how a path goes on from that of a block
pub step_path : (s : Step) (steps : List Step) (path : List ℕ) → lead (s ∷ steps) path ≡ path_of (place steps (position_of s)) ++ (arms s ++ path)
step_path (in_block n) steps path = lead_append steps (n ∷ path) ∙ (sym (append_assoc (lead steps []) (n ∷ []) path) ∙ ap (λ (l : List ℕ). l ++ path) (sym (lead_append steps (n ∷ []))))
step_path (in_arm n k) steps path =
    lead_append steps (n ∷ k ∷ path) ∙ (sym (append_assoc (lead steps []) (n ∷ []) (k ∷ path)) ∙ ap (λ (l : List ℕ). l ++ k ∷ path) (sym (lead_append steps (n ∷ []))))

-- the innermost block comes last
pub innermost : (bs : List Around) (b : Around) → reverse (bs ++ b ∷ []) ≡ b ∷ reverse bs
innermost bs b = reverse-append bs (b ∷ [])

-- a block round the places of a sequence, by its label
pub record Round (S : Scope) (body : Sequence) (steps : List Step) (lvs : List Level) (below : List ValType) (l : ℕ) (b : Around) : Type 0 where
  pub level : Level
  pub outer : List Level
  pub place : Place
  pub at : level.place ≡ Some place
  pub drops : drop l lvs ≡ level ∷ outer
  pub stands : spot_at body place ≡ Some (spot outer level.before (cons level.op level.rest))
  pub is_block : IsBlock level.op
  pub label : slice_get (labels_at lvs) l ≡ Some (label_of level.op)
  pub added : List ℕ
  pub path : (path : List ℕ) → lead steps path ≡ path_of place ++ (added ++ path)
  pub upper : List ValType
  pub low : List ValType
  pub low_is : under S (level ∷ outer) ≡ Some low
  pub split : below ≡ upper ++ low
  pub is : b ≡ around level.op level.rest (length (lead place.steps [])) (length low)

-- the same block, one step deeper
module _ (S : Scope) (body : Sequence) (s : Step) (steps : List Step) (before : Code) (op : Op) (rest : Code) (outs : List Level) where
  abbrev its_level : Level
  its_level = level (Some (place steps (position_of s))) before op rest

  abbrev its_block : List ValType → Around
  its_block below = around op rest (length (lead steps [])) (length below)

  here_round : (below : List ValType) (b : Around) → spot_at body (place steps (position_of s)) ≡ Some (spot outs before (cons op rest)) → IsBlock op → under S (its_level ∷ outs) ≡ Some below → its_block below ≡ b
      → Round S body (s ∷ steps) (its_level ∷ outs) below 0 b
  here_round below b stands is_block u e = record {
    level = its_level;
    outer = outs;
    place = place steps (position_of s);
    at = refl;
    drops = refl;
    stands = stands;
    is_block = is_block;
    label = refl;
    added = arms s;
    path = step_path s steps;
    upper = [];
    low = below;
    low_is = u;
    split = refl;
    is = sym e;
  }

  outer_round : (own us below : List ValType) (k : ℕ) (b : Around) → below ≡ own ++ us → Round S body steps outs us k b → Round S body (s ∷ steps) (its_level ∷ outs) below (suc k) b
  outer_round own us below k b e r = record {
    level = r.level;
    outer = r.outer;
    place = r.place;
    at = r.at;
    drops = r.drops;
    stands = r.stands;
    is_block = r.is_block;
    label = r.label;
    added = r.added ++ (position_of s ∷ arms s);
    path = λ path. more s path;
    upper = own ++ r.upper;
    low = r.low;
    low_is = r.low_is;
    split = e ∙ (ap (λ (l : List ValType). own ++ l) r.split ∙ sym (append_assoc own r.upper r.low));
    is = r.is;
  }
    where
      more : (t : Step) (path : List ℕ) → lead (t ∷ steps) path ≡ path_of r.place ++ ((r.added ++ (position_of t ∷ arms t)) ++ path)
      more (in_block n) path = r.path (n ∷ path) ∙ ap (λ (l : List ℕ). path_of r.place ++ l) (sym (append_assoc r.added (n ∷ []) path))
      more (in_arm n k) path = r.path (n ∷ k ∷ path) ∙ ap (λ (l : List ℕ). path_of r.place ++ l) (sym (append_assoc r.added (n ∷ k ∷ []) path))

  by_label : (l : ℕ) (own us below : List ValType) (b : Around) → spot_at body (place steps (position_of s)) ≡ Some (spot outs before (cons op rest)) → IsBlock op → under S (its_level ∷ outs) ≡ Some below → below ≡ own ++ us
      → slice_get (its_block below ∷ reverse (blocks_of S outs)) l ≡ Some b → ((k : ℕ) → slice_get (reverse (blocks_of S outs)) k ≡ Some b → Round S body steps outs us k b)
      → Round S body (s ∷ steps) (its_level ∷ outs) below l b
  by_label zero own us below b stands is_block u e g deeper = here_round below b stands is_block u (some_of (its_block below) b g)
  by_label (suc k) own us below b stands is_block u e g deeper = outer_round own us below k b e (deeper k g)

module _ (S : Scope) (gives : Option ValType) (c : Code) where
  abbrev pub root : Sequence
  root = body_sequence gives c

  no_block : (l : ℕ) (b : Around) → slice_get {X = Around} [] l ≡ Some b → ⊥
  no_block l b e = absurd cc

  pub round : (steps : List Step) (q : Sequence) (below : List ValType) (l : ℕ) (b : Around) → sequence_at root steps ≡ Some q → under S q.levels ≡ Some below → slice_get (reverse (blocks_of S q.levels)) l ≡ Some b
      → Round S root steps q.levels below l b
  round [] q below l b e u f = absurd (no_block l b (ap (λ (y : Sequence). slice_get (reverse (blocks_of S y.levels)) l) (some_of root q e) ∙ f))
  round (s ∷ steps) q below l b e u f =
      let w = last_step root s steps q e in
      let n : ℕ = position_of s in
      let op : Op = w.entered.op in
      let rest : Code = w.entered.rest in
      let before : Code = w.outer.before in
      let outs : List Level = w.outer.levels in
      let lv : Level = level (Some (place steps n)) before op rest in
      let here : spot_at root (place steps n) ≡ Some (spot outs before (cons op rest)) = w.there ∙ ap (λ (d : Code). Some (spot outs before d)) w.entered.is_code in
      let v : under S (lv ∷ outs) ≡ Some below = ap (λ (x : List Level). under S x) (sym w.entered.levels) ∙ u in
      let o : Over (level_kinds S lv) (under S outs) below = over_some (level_kinds S lv) (under S outs) below v in
      let a : Around = around op rest (length (lead steps [])) (length below) in
      let blocks : reverse (blocks_of S (lv ∷ outs)) ≡ a ∷ reverse (blocks_of S outs) =
      ap (λ (x : Option (List ValType)). reverse (blocks_of S outs ++ around op rest (length (lead steps [])) (count_of x) ∷ [])) v ∙ innermost (blocks_of S outs) a in
      let g : slice_get (a ∷ reverse (blocks_of S outs)) l ≡ Some b = ap (λ (x : List Around). slice_get x l) (sym blocks) ∙ (ap (λ (x : List Level). slice_get (reverse (blocks_of S x)) l) (sym w.entered.levels) ∙ f) in
      subst (λ (x : List Level). Round S root (s ∷ steps) x below l b) (sym w.entered.levels)
      (by_label S root s steps before op rest outs l o.own_kinds o.below_kinds below b here (holds s op q.code w.entered.inner) v o.both g
      (λ k h. subst (λ (x : List Level). Round S root steps x o.below_kinds k b) w.sequence.part.levels
      (round steps w.sequence.sequence o.below_kinds k b w.sequence.there (ap (λ (x : List Level). under S x) w.sequence.part.levels ∙ o.below_is)
      (ap (λ (x : List Level). slice_get (reverse (blocks_of S x)) k) w.sequence.part.levels ∙ h))))

-- ---- behind a block, and inside a loop

module _ (S : Scope) where
  over_behind : (i : Op) (o u : Option (List ValType)) (low : List ValType) → IsBlock i → over (option_map (stays_under i) o) u ≡ Some low
      → over (o >>= λ own. change i S >>= λ e. Some (changed e own)) u ≡ Some (gives_of i ++ low)
  over_behind i None u low h e = absurd cc
  over_behind i (Some own) None low h e = absurd cc
  over_behind (block ty c) (Some own) (Some us) low h e = ap Some (append_assoc (results_of ty) own us ∙ ap (λ (l : List ValType). results_of ty ++ l) (some_of (own ++ us) low e))
  over_behind (loop ty c) (Some own) (Some us) low h e = ap Some (append_assoc (results_of ty) own us ∙ ap (λ (l : List ValType). results_of ty ++ l) (some_of (own ++ us) low e))
  over_behind (if_else ty a b) (Some own) (Some us) low h e =
      ap Some (append_assoc (results_of ty) (drop 1 own) us ∙ ap (λ (l : List ValType). results_of ty ++ l) (some_of (drop 1 own ++ us) low e))
  over_behind _ (Some own) (Some us) low h e = absurd h

  -- the operands behind a block
  pub behind_block : (lv : Level) (outer : List Level) (low : List ValType) → IsBlock lv.op → under S (lv ∷ outer) ≡ Some low
      → spot_kinds S (spot outer (followed_by lv.before lv.op) lv.rest) ≡ Some (gives_of lv.op ++ low)
  behind_block lv outer low h u =
      ap (λ (o : Option (List ValType)). over o (under S outer)) (run_behind lv.before lv.op S [])
      ∙ over_behind lv.op (run lv.before S []) (under S outer) low h u

  -- the operands at the first place inside
  pub inside_block : (lv : Level) (outer : List Level) (low : List ValType) (d : Code) → under S (lv ∷ outer) ≡ Some low → spot_kinds S (spot (lv ∷ outer) nil d) ≡ Some low
  inside_block lv outer low d u = ap (λ (o : Option (List ValType)). over (Some []) o) u

-- ---- where a piece begins in any case

pub begins_next : (before : Code) (i : Op) (path : List ℕ) (blocks : List Around) → begins_at (followed_by before i) path blocks ≡ ends_piece i
begins_next nil i path blocks = refl
begins_next (cons j js) i path blocks = at_end j js
  where
    at_end : (j : Op) (js : Code) → begins_behind (cons j (followed_by js i)) ≡ ends_piece i
    at_end j nil = refl
    at_end j (cons k ks) = at_end k ks
