-- Branches to labels, returns, and the ends of sequences.
use Rattle.std.proofs.Common.{◌≡◌, ◌≤◌, ◌+◌, ◌-◌, ℕ, zero, suc, List, [], ◌∷◌, ◌++◌, length, take, drop, reverse, Option, Some, None, option_map, refl, sym, ap, ◌∙◌, subst, append_assoc, append-nil, arith, le-ltb}
use Rattle.std.specs.Prelude.{slice_get}
use Rattle.std.proofs.lemmas.List.{length-append, length-map, take-append-le, length-take-le}
use Rattle.mc_nbt.specs.declared.value.Value.{Value}
use Rattle.wm_ast.specs.declared.item.Item.TheVariants.{Types}
use Rattle.wm_ast.specs.declared.module.ValType.{ValType}
use Rattle.wm_ast.specs.declared.module.Module.{Module}
use Rattle.wm_ast.specs.Code.{Op, block, loop, if_else, return, Code, nil, cons}
use Rattle.wm_ast.specs.Step.{arity, top}
use Rattle.wm_ast.specs.Store.{Store}
use Rattle.wm_ast.specs.Types.{const_type, results_of}
use Rattle.wm_ast.specs.View.{code_of}
use Rattle.wm_valid.specs.Valid.{Valid}
use Rattle.wm_valid.specs.Typing.{Scope}
use Rattle.wm_valid.specs.PlaceReading.{run}
use Rattle.wm_flat.specs.Flat.{Level, Activation, running, goes, count_of, behind, resumed, handed, carried, jump, leave, code_move, move}
use Rattle.wm_flat.specs.Flat.{inner}
use Rattle.wm_flat.specs.FlatTyping.{types_of}
use Rattle.wm_flat.specs.Operands.{under, operands}
use Rattle.wm_flat.specs.Runs.{Leads}
use Rattle.wm_flat.proofs.CalleeLaws.{arity_is}
use Rattle.wm_place.specs.Place.{Place, next, lead, path_of}
use Rattle.wm_place.specs.Spot as places
use Rattle.wm_place.specs.Spot.{level, spot, followed_by, label_of, arity_of, gives_of, labels_at, ends_at, spot_at}
use Rattle.wm_place.specs.Kinds.{under as kinds_under, stays_under, first_of}
use Rattle.wm_place.specs.Visit.{Around, around, count_of as visit_count, blocks_of, Visit}
use Rattle.wm_place.proofs.LevelLemmas.{some_of, map_some}
use Rattle.wm_place.proofs.SpotLemmas.{find_next, found}
use Rattle.cc_cut.specs.Way.{Way, way, path_behind, block_path, lowest, landing, labelled}
use Rattle.cc_move.specs.Standing.{AreLevels, StandsAt, Comes, IsSameCall, level_path}
use Rattle.cc_move.specs.Law.{lowest_values, at, Branched, to_block, to_end, BranchesCome, ReturnsHaveResults, Left, behind_block, out_of_body, EndsLeave}
use Rattle.cc_move.proofs.StandLemmas.{types_append, types_take, types_drop, next_path, next_is, one_more, under_are, scope_at, body_at, visit_path, visit_blocks, comes, stands, Placed}
use Rattle.cc_move.proofs.MoveLemmas.{block_comes}
use Rattle.cc_cut.proofs.BlockLemmas.{IsBlock}
use Rattle.cc_cut.proofs.VisitLemmas.{visit_at}
use Rattle.cc_move.proofs.LevelLemmas.{Round, round, its_path, Pair, paired, levels_are, no_level, first_label, Above, above, made_level, level_is, body_level, outermost, InnermostLabel, innermost_label, own_behind, context_at, typed_here, Room, room}

-- ---- numbers of operands

count_is : (op : Op) → count_of op ≡ arity_of op
count_is (block ty c) = sym (arity_is ty)
count_is (if_else ty x y) = sym (arity_is ty)
count_is _ = refl

top_some : (n : ℕ) (vs : List Value) → n ≤ length vs → top n vs ≡ Some (take n vs)
top_some n vs h = rw (le-ltb (length vs) n h) refl

-- values whose types begin with these
enough : (vs : List Value) (ts below : List ValType) → types_of vs ≡ ts ++ below → length ts ≤ length vs
enough vs ts below e =
    let all : length (types_of vs) ≡ length (ts ++ below) = ap (λ (l : List ValType). length l) e in
    omega (arith, length-map vs const_type, length-append ts below, all)

take_types : (ts below : List ValType) → take (length ts) (ts ++ below) ≡ ts
take_types [] below = refl
take_types (t ∷ ts) below = ap (λ (l : List ValType). t ∷ l) (take_types ts below)

taken_types : (vs : List Value) (ts below : List ValType) → types_of vs ≡ ts ++ below → types_of (take (length ts) vs) ≡ ts
taken_types vs ts below e = types_take (length ts) vs ∙ (ap (λ (l : List ValType). take (length ts) l) e ∙ take_types ts below)

drop_front : (xs ys : List Value) → drop (length xs) (xs ++ ys) ≡ ys
drop_front [] ys = refl
drop_front (x ∷ xs) ys = drop_front xs ys

lowest_is : (upper low : List Value) (n : ℕ) → n ≡ length low → lowest_values n (upper ++ low) ≡ low
lowest_is upper low n e =
    let size : length (upper ++ low) - n ≡ length upper = omega (arith, length-append upper low, e) in
    ap (λ (k : ℕ). drop k (upper ++ low)) size ∙ drop_front upper low

-- what a landing says of the types of these operands
lands_types : (c n : ℕ) (vs : List Value) → types_of (take c vs ++ lowest_values n vs) ≡ take c (types_of vs) ++ lowest n (types_of vs)
lands_types c n vs =
    let size : length vs - n ≡ length (types_of vs) - n = ap (λ (k : ℕ). k - n) (sym (length-map vs const_type)) in
    types_append (take c vs) (lowest_values n vs)
    ∙ (ap (λ (l : List ValType). l ++ types_of (lowest_values n vs)) (types_take c vs)
    ∙ ap (λ (l : List ValType). take c (types_of vs) ++ l) (types_drop (length vs - n) vs ∙ ap (λ (k : ℕ). drop k (types_of vs)) size))

none_left : (vs : List Value) → [] ≡ types_of vs → vs ≡ []
none_left [] e = refl
none_left (v ∷ vs) e = absurd cc

-- ---- a jump, by its label

module _ (m : Module) (s : Store) (cs : List Activation) (a : Activation) (n : ℕ) (vs : List Value) where
  jump_to : (l : ℕ) (lvs : List Level) (lv : Level) (outer : List Level) → drop l lvs ≡ lv ∷ outer → jump m s cs a n l vs lvs ≡ carried m s cs a n lv outer (top (count_of lv.block.op) vs)
  jump_to zero [] lv outer e = absurd cc
  jump_to zero (x ∷ xs) lv outer e =
      let first : x ≡ lv = cc in
      let others : xs ≡ outer = cc in
      ap (λ (y : Level). carried m s cs a n y xs (top (count_of y.block.op) vs)) first ∙ ap (λ (y : List Level). carried m s cs a n lv y (top (count_of lv.block.op) vs)) others
  jump_to (suc l) [] lv outer e = absurd cc
  jump_to (suc l) (x ∷ xs) lv outer e = jump_to l xs lv outer e

  -- where so many operands stand
  pub jump_is : (l : ℕ) (lvs : List Level) (lv made : Level) (outer : List Level) → drop l lvs ≡ lv ∷ outer → lv ≡ made → arity_of made.block.op ≤ length vs
      → jump m s cs a n l vs lvs ≡ goes n s (running cs (resumed a made.block outer (take (arity_of made.block.op) vs ++ made.values)))
  jump_is l lvs lv made outer e same room =
      jump_to l lvs lv outer e
      ∙ (ap (λ (y : Level). carried m s cs a n y outer (top (count_of y.block.op) vs)) same
      ∙ ap (carried m s cs a n made outer) (ap (λ (k : ℕ). top k vs) (count_is made.block.op) ∙ top_some (arity_of made.block.op) vs room))

-- ---- behind a block

module _ (m : Module) (a : Activation) (v : Visit) (st : StandsAt m a v) where
  abbrev pub S : Scope
  S = scope_at m a v st

  -- behind a block round the place, over what it gives
  pub behind_comes : (op : Op) (p : Place) (before rest : Code) (bs : List places.Level) (values us : List Value) (d : Activation) (w : Way) → IsBlock op
      → spot_at (body_at m a v st) p ≡ Some (spot bs before (cons op rest)) → option_map (stays_under op) (run before S []) ≡ Some (types_of values) → IsSameCall a d
      → d.place ≡ path_behind (path_of p) → d.before ≡ followed_by before op → d.code ≡ rest → AreLevels S d.levels bs → d.values ≡ us ++ values → types_of us ≡ gives_of op
      → path_behind (path_of p) ≡ w.to → types_of (operands d) ≡ w.kinds → Comes m d w
  behind_comes op p before rest bs values us d w is_block there kinds same path front code levels whole gives to all =
      comes m st.func st.type d (next p) (spot bs (followed_by before op) rest) w
      (record {
        is_function = record {
          there = ap (λ (k : ℕ). slice_get m.funcs k) same.func ∙ st.is_function.there;
          has_type = st.is_function.has_type;
        };
        there = find_next (body_at m a v st) p bs before op rest there;
        path = path ∙ sym (next_path p);
        before = front;
        code = code;
        levels = levels;
        kinds =
            own_behind S before op (types_of values) is_block kinds
            ∙ ap (λ (l : List ValType). Some l) (sym (ap (λ (l : List Value). types_of l) whole ∙ (types_append us values ∙ ap (λ (l : List ValType). l ++ types_of values) gives)));
        locals = ap (λ (l : List Value). types_of l) same.locals ∙ st.locals;
        results = same.results ∙ st.results;
      })
      (next_path p ∙ to)
      all

  -- ---- the landing of a branch

  module _ (s : Store) (cs : List Activation) (vs : List Value) where
    -- what stands over the innermost block, and under it
    abbrev pub stack : List Value
    stack = vs ++ under a.levels

    pub record Landed (op : Op) (p : Place) (before rest : Code) (outer : List Level) (values : List Value) : Type 0 where
      pub target : Activation
      pub steps : ℕ
      pub leads : Leads m steps (at s cs (resumed a (made_level (path_of p) before op rest values).block outer (take (arity_of op) vs ++ values))) (at s cs target)
      pub same : IsSameCall a target
      pub comes : Comes m target (landing op (path_of p) (length (values ++ under outer)) (types_of stack))
      pub left : operands target ≡ take (arity_of op) stack ++ lowest_values (length (values ++ under outer)) stack

    -- the operands that are left
    left_is : (c : ℕ) (values upper : List Value) (outer : List Level) → c ≤ length vs → under a.levels ≡ upper ++ (values ++ under outer)
        → (take c vs ++ values) ++ under outer ≡ take c stack ++ lowest_values (length (values ++ under outer)) stack
    left_is c values upper outer few split =
        let low : List Value = values ++ under outer in
        let whole : stack ≡ (vs ++ upper) ++ low = ap (λ (l : List Value). vs ++ l) split ∙ sym (append_assoc vs upper low) in
        let down : lowest_values (length low) stack ≡ low = ap (λ (l : List Value). lowest_values (length low) l) whole ∙ lowest_is (vs ++ upper) low (length low) refl in
        append_assoc (take c vs) values (under outer)
        ∙ (ap (λ (l : List Value). l ++ low) (sym (take-append-le c vs (under a.levels) few)) ∙ ap (λ (l : List Value). take c stack ++ l) (sym down))

    pub landed : (op : Op) (p : Place) (before rest : Code) (outer : List Level) (bs : List places.Level) (values upper : List Value) (below : List ValType) → IsBlock op
        → spot_at (body_at m a v st) p ≡ Some (spot bs before (cons op rest)) → option_map (stays_under op) (run before S []) ≡ Some (types_of values) → AreLevels S outer bs
        → under a.levels ≡ upper ++ (values ++ under outer) → types_of vs ≡ label_of op ++ below → Landed op p before rest outer values
    landed (block ty c) p before rest outer bs values upper below is_block there kinds levels split types =
        let op : Op = block ty c in
        let us : List Value = take (length (results_of ty)) vs in
        let d : Activation = resumed a (made_level (path_of p) before op rest values).block outer (us ++ values) in
        let same : IsSameCall a d = record { func = refl; results = refl; locals = refl } in
        let left : operands d ≡ take (arity_of op) stack ++ lowest_values (length (values ++ under outer)) stack = left_is (arity_of op) values upper outer (enough vs (results_of ty) below types) split in
        let w : Way = landing op (path_of p) (length (values ++ under outer)) (types_of stack) in
        record {
          target = d;
          steps = 0;
          leads = record { moves = 0; made = (refl, refl) };
          same = same;
          comes = behind_comes op p before rest bs values us d w tt there kinds same (next_is (path_of p)) (one_more before op) refl levels refl (taken_types vs (results_of ty) below types) refl
              (ap (λ (l : List Value). types_of l) left ∙ lands_types (arity_of op) (length (values ++ under outer)) stack);
          left = left;
        }
    landed (if_else ty x y) p before rest outer bs values upper below is_block there kinds levels split types =
        let op : Op = if_else ty x y in
        let us : List Value = take (length (results_of ty)) vs in
        let d : Activation = resumed a (made_level (path_of p) before op rest values).block outer (us ++ values) in
        let same : IsSameCall a d = record { func = refl; results = refl; locals = refl } in
        let left : operands d ≡ take (arity_of op) stack ++ lowest_values (length (values ++ under outer)) stack = left_is (arity_of op) values upper outer (enough vs (results_of ty) below types) split in
        let w : Way = landing op (path_of p) (length (values ++ under outer)) (types_of stack) in
        record {
          target = d;
          steps = 0;
          leads = record { moves = 0; made = (refl, refl) };
          same = same;
          comes = behind_comes op p before rest bs values us d w tt there kinds same (next_is (path_of p)) (one_more before op) refl levels refl (taken_types vs (results_of ty) below types) refl
              (ap (λ (l : List Value). types_of l) left ∙ lands_types (arity_of op) (length (values ++ under outer)) stack);
          left = left;
        }
    landed (loop ty c) p before rest outer bs values upper below is_block there kinds levels split types =
        let op : Op = loop ty c in
        let b : Activation = resumed a (made_level (path_of p) before op rest values).block outer values in
        let d : Activation = inner b op rest values (0 ∷ []) c in
        let left : operands d ≡ lowest_values (length (values ++ under outer)) stack = left_is 0 values upper outer (omega arith) split in
        let own = map_some (stays_under op) (run before S []) (types_of values) kinds in
        let placed : Placed m st.func st.type b p (spot bs before (cons op rest)) = record {
          is_function = st.is_function;
          there = there;
          path = refl;
          before = refl;
          code = refl;
          levels = levels;
          kinds = own.1 ∙ ap (λ (l : List ValType). Some l) own.2;
          locals = st.locals;
          results = st.results;
        } in
        let x : Visit = visit_at S p (spot bs before (cons op rest)) (types_of (operands b)) in
        let in_loop : Comes m d (way (path_of p ++ 0 ∷ []) (types_of (operands b))) = (block_comes m b x (stands m st.func st.type b p (spot bs before (cons op rest)) placed) ty c rest).1 refl in
        let is : types_of (operands b) ≡ lowest (length (values ++ under outer)) (types_of stack) = ap (λ (l : List Value). types_of l) left ∙ lands_types 0 (length (values ++ under outer)) stack in
        record {
          target = d;
          steps = 1;
          leads = record { moves = 1; made = (1, 0, at s cs d, refl, omega arith, (refl, refl)) };
          same = record { func = refl; results = refl; locals = refl };
          comes = subst (λ (l : List ValType). Comes m d (way (path_of p ++ 0 ∷ []) l)) is in_loop;
          left = left;
        }
    landed _ p before rest outer bs values upper below is_block there kinds levels split types = absurd is_block

  -- ---- a block round the place, by its label

  -- what the blocks round the place and those of the machine say of a label
  pub record Labelled (l : ℕ) (x : Around) : Type 0 where
    pub place : Place
    pub before : Code
    pub bs : List places.Level
    pub level : Level
    pub outer : List Level
    pub op : Op
    pub rest : Code
    pub is_block : IsBlock op
    pub there : spot_at (body_at m a v st) place ≡ Some (spot bs before (cons op rest))
    pub drops : drop l a.levels ≡ level ∷ outer
    pub spot_drops : drop l st.spot.levels ≡ places.level (Some place) before op rest ∷ bs
    pub made : level ≡ made_level (path_of place) before op rest level.values
    pub kinds : option_map (stays_under op) (run before S []) ≡ Some (types_of level.values)
    pub others : AreLevels S outer bs
    pub label : slice_get (labels_at st.spot.levels) l ≡ Some (label_of op)
    pub upper : List Value
    pub split : under a.levels ≡ upper ++ (level.values ++ under outer)
    pub is : x ≡ around op rest (length (lead place.steps [])) (length (level.values ++ under outer))
    pub path : block_path v.path x ≡ path_of place

  labelled_spot : (l : ℕ) → labelled v.blocks l ≡ slice_get (reverse (blocks_of S st.spot.levels)) l
  labelled_spot l = ap (λ (y : List Around). labelled y l) (sym (visit_blocks m a v st))

  -- what the machine has at a level
  of_round : (l : ℕ) (x : Around) → Round S (body_at m a v st) st.place.steps st.spot.levels l x → Labelled l x
  of_round l x r =
      let q : Pair S (drop l a.levels) r.level r.outer = paired S l a.levels st.spot.levels r.level r.outer st.levels r.drops in
      let w : Above l a.levels = above l a.levels in
      let drops : drop l a.levels ≡ q.level ∷ q.outer = q.is in
      let size : visit_count (kinds_under S (r.level ∷ r.outer)) ≡ length (q.level.values ++ under q.outer) =
      ap visit_count (under_are S (q.level ∷ q.outer) (r.level ∷ r.outer) (q.is_level, q.others)) ∙ length-map (q.level.values ++ under q.outer) const_type in
      let is : x ≡ around r.level.op r.level.rest (length (lead r.place.steps [])) (length (q.level.values ++ under q.outer)) =
      r.is ∙ ap (λ (k : ℕ). around r.level.op r.level.rest (length (lead r.place.steps [])) k) size in
      record {
        place = r.place;
        before = r.level.before;
        bs = r.outer;
        level = q.level;
        outer = q.outer;
        op = r.level.op;
        rest = r.level.rest;
        is_block = r.is_block;
        there = r.stands;
        drops = drops;
        spot_drops = r.drops ∙ ap (λ (o : Option Place). places.level o r.level.before r.level.op r.level.rest ∷ r.outer) r.at;
        made = level_is q.level (path_of r.place) r.level.before r.level.op r.level.rest (q.is_level.place ∙ ap level_path r.at) q.is_level.before q.is_level.op q.is_level.rest;
        kinds = q.is_level.kinds;
        others = q.others;
        label = r.label;
        upper = w.upper;
        split = w.split ∙ ap (λ (y : List Level). w.upper ++ under y) drops;
        is = is;
        path = its_path r.place (r.added ++ st.place.position ∷ []) v.path x (sym (visit_path m a v st) ∙ r.path (st.place.position ∷ [])) (ap (λ (y : Around). y.lead) r.is);
      }

  -- a label of a block
  pub at_block : (l : ℕ) (x : Around) → labelled v.blocks l ≡ Some x → Labelled l x
  at_block l x e =
      let f = found (body_at m a v st) st.place st.spot st.there in
      let here : slice_get (reverse (blocks_of S f.sequence.levels)) l ≡ Some x = ap (λ (y : List places.Level). slice_get (reverse (blocks_of S y)) l) f.part.levels ∙ (sym (labelled_spot l) ∙ e) in
      of_round l x
      (subst (λ (y : List places.Level). Round S (body_at m a v st) st.place.steps y l x) f.part.levels
      (round S (first_of st.type.results) (code_of st.func.body) st.place.steps f.sequence l x f.there here))

  -- the label of the body
  pub record Outermost (l : ℕ) : Type 0 where
    pub drops : drop l a.levels ≡ made_level [] nil (block (first_of st.type.results) (code_of st.func.body)) nil [] ∷ []
    pub spot_drops : drop l st.spot.levels ≡ body_level (first_of st.type.results) (code_of st.func.body) ∷ []

  pub at_body : (l : ℕ) (label : List ValType) → labelled v.blocks l ≡ None → slice_get (labels_at st.spot.levels) l ≡ Some label → Outermost l
  at_body l label e g =
      let f = found (body_at m a v st) st.place st.spot st.there in
      let gives : Option ValType = first_of st.type.results in
      let c : Code = code_of st.func.body in
      let here : slice_get (reverse (blocks_of S f.sequence.levels)) l ≡ None = ap (λ (y : List places.Level). slice_get (reverse (blocks_of S y)) l) f.part.levels ∙ (sym (labelled_spot l) ∙ e) in
      let drops : drop l st.spot.levels ≡ body_level gives c ∷ [] =
      ap (λ (y : List places.Level). drop l y) (sym f.part.levels) ∙ outermost S gives c st.place.steps f.sequence l label f.there here (ap (λ (y : List places.Level). slice_get (labels_at y) l) f.part.levels ∙ g) in
      let q : Pair S (drop l a.levels) (body_level gives c) [] = paired S l a.levels st.spot.levels (body_level gives c) [] st.levels drops in
      let none : q.level.values ≡ [] = none_left q.level.values (some_of [] (types_of q.level.values) q.is_level.kinds) in
      let is : q.level ≡ made_level [] nil (block gives c) nil [] =
      level_is q.level [] nil (block gives c) nil q.is_level.place q.is_level.before q.is_level.op q.is_level.rest ∙ ap (λ (y : List Value). made_level [] nil (block gives c) nil y) none in
      record {
        drops = levels_are (drop l a.levels) q.level (made_level [] nil (block gives c) nil []) q.outer [] q.is is (no_level S q.outer q.others);
        spot_drops = drops;
      }

  -- ---- a branch

  module _ (s : Store) (cs : List Activation) (n l : ℕ) (vs : List Value) where
    branch_to_block : (below label : List ValType) (x : Around) → slice_get (labels_at st.spot.levels) l ≡ Some label → types_of vs ≡ label ++ below → labelled v.blocks l ≡ Some x → Branched m s cs a v n l vs
    branch_to_block below label x at_label types h =
        let k : Labelled l x = at_block l x h in
        let same_label : label ≡ label_of k.op = some_of label (label_of k.op) (sym at_label ∙ k.label) in
        let all : types_of vs ≡ label_of k.op ++ below = types ∙ ap (λ (y : List ValType). y ++ below) same_label in
        let few : arity_of k.op ≤ length vs = enough vs (label_of k.op) below all in
        let z : Landed s cs vs k.op k.place k.before k.rest k.outer k.level.values =
        landed s cs vs k.op k.place k.before k.rest k.outer k.bs k.level.values k.upper below k.is_block k.there k.kinds k.others k.split all in
        let y : Around = around k.op k.rest (length (lead k.place.steps [])) (length (k.level.values ++ under k.outer)) in
        let path : block_path v.path y ≡ path_of k.place = ap (block_path v.path) (sym k.is) ∙ k.path in
        let split : length (under a.levels) ≡ length k.upper + length (k.level.values ++ under k.outer) = ap (λ (r : List Value). length r) k.split ∙ length-append k.upper (k.level.values ++ under k.outer) in
        to_block y (resumed a (made_level (path_of k.place) k.before k.op k.rest k.level.values).block k.outer (take (arity_of k.op) vs ++ k.level.values)) z.target z.steps
        (h ∙ ap (λ (r : Around). Some r) k.is)
        (jump_is m s cs a n vs l a.levels k.level (made_level (path_of k.place) k.before k.op k.rest k.level.values) k.outer k.drops k.made few)
        z.leads z.same
        (subst (λ (p : List ℕ). Comes m z.target (landing k.op p (length (k.level.values ++ under k.outer)) (types_of (vs ++ under a.levels)))) (sym path) z.comes)
        z.left few (omega arith)

    branch_to_end : (below label : List ValType) → slice_get (labels_at st.spot.levels) l ≡ Some label → types_of vs ≡ label ++ below → labelled v.blocks l ≡ None → Branched m s cs a v n l vs
    branch_to_end below label at_label types h =
        let gives : Option ValType = first_of st.type.results in
        let op : Op = block gives (code_of st.func.body) in
        let k : Outermost l = at_body l label h at_label in
        let labels : slice_get (labels_at st.spot.levels) l ≡ Some (results_of gives) = first_label l st.spot.levels (body_level gives (code_of st.func.body)) [] k.spot_drops in
        let same_label : label ≡ results_of gives = some_of label (results_of gives) (sym at_label ∙ labels) in
        let all : types_of vs ≡ results_of gives ++ below = types ∙ ap (λ (y : List ValType). y ++ below) same_label in
        let few : length (results_of gives) ≤ length vs = enough vs (results_of gives) below all in
        let us : List Value = take (length (results_of gives)) vs in
        to_end (resumed a (made_level [] nil op nil []).block [] (us ++ [])) us h
        (jump_is m s cs a n vs l a.levels (made_level [] nil op nil []) (made_level [] nil op nil []) [] k.drops refl few)
        (ap (λ (c : ℕ). top c vs) (st.results ∙ sym (arity_is gives)) ∙ top_some (length (results_of gives)) vs few)
        (ap (handed s cs) (append-nil us))

    pub branched : (below label : List ValType) → slice_get (labels_at st.spot.levels) l ≡ Some label → types_of vs ≡ label ++ below → Branched m s cs a v n l vs
    branched below label at_label types = by_label (labelled v.blocks l) refl
      where
        by_label : (o : Option Around) → labelled v.blocks l ≡ o → Branched m s cs a v n l vs
        by_label None h = branch_to_end below label at_label types h
        by_label (Some x) h = branch_to_block below label x at_label types h

pub branches_come : BranchesCome
branches_come m valid s cs a v n st i is l k h b =
    let r : Room (labels_at st.spot.levels) (drop k a.values) l = room (context_at m valid a v st) a.values is (ends_at st.spot.levels) i l k b (typed_here m valid a v st (cons i is) h) in
    branched m a v st s cs n l (drop k a.values) r.below r.label r.there r.types

-- ---- a return

count_first : (ts : List ValType) → length ts ≤ 1 → length (reverse ts) ≡ arity (first_of ts)
count_first [] h = refl
count_first (t ∷ []) h = refl
count_first (t ∷ u ∷ ts) h = absurd (omega arith)

pub returns_have_results : ReturnsHaveResults
returns_have_results m valid a v st is h =
    let (takes, gives, below, (z, whole), e, others) = typed_here m valid a v st (cons return is) h in
    let results : List ValType = reverse st.type.results in
    let all : types_of a.values ≡ results ++ (z ++ below) = e ∙ (ap (λ (y : List ValType). y ++ below) whole ∙ append_assoc results z below) in
    let count : length results ≡ a.results = count_first st.type.results (valid.items Types st.func.kind st.type st.is_function.has_type) ∙ sym st.results in
    let few : length results ≤ length a.values = enough a.values results (z ++ below) all in
    let room : a.results ≤ length a.values = subst (λ (c : ℕ). c ≤ length a.values) count few in
    (take a.results a.values, top_some a.results a.values room, length-take-le a.results a.values room)

-- ---- the end of a sequence

module _ (m : Module) (valid : Valid m) (s : Store) (cs : List Activation) (a : Activation) (v : Visit) (st : StandsAt m a v) (h : a.code ≡ nil) where
  -- the operands are those that the innermost block gives
  ends_are : types_of a.values ≡ ends_at st.spot.levels
  ends_are = typed_here m valid a v st nil h

  move_is : (lv : Level) (outer : List Level) → a.levels ≡ lv ∷ outer → move m s (running cs a) ≡ goes 1 s (running cs (behind a lv.block outer (a.values ++ lv.values)))
  move_is lv outer e = ap (λ (c : Code). code_move m s cs a c) h ∙ ap (λ (y : List Level). leave m s cs a y) e

  leave_block : (x : Around) → labelled v.blocks 0 ≡ Some x → Left m s cs a v
  leave_block x e =
      let k : Labelled m a v st 0 x = at_block m a v st 0 x e in
      let made : Level = made_level (path_of k.place) k.before k.op k.rest k.level.values in
      let levels : a.levels ≡ made ∷ k.outer = k.drops ∙ ap (λ (y : Level). y ∷ k.outer) k.made in
      let d : Activation = behind a made.block k.outer (a.values ++ k.level.values) in
      let left : operands d ≡ operands a = append_assoc a.values k.level.values (under k.outer) ∙ ap (λ (y : List Level). a.values ++ under y) (sym levels) in
      let gives : types_of a.values ≡ gives_of k.op = ends_are ∙ ap ends_at k.spot_drops in
      let same : IsSameCall a d = record { func = refl; results = refl; locals = refl } in
      behind_block x d e (move_is made k.outer levels) same
      (behind_comes m a v st k.op k.place k.before k.rest k.bs k.level.values a.values d (way (path_behind (block_path v.path x)) (types_of (operands a))) k.is_block k.there k.kinds same
      (next_is (path_of k.place)) (one_more k.before k.op) refl k.others refl gives (ap path_behind (sym k.path)) (ap (λ (y : List Value). types_of y) left))
      left

  leave_body : labelled v.blocks 0 ≡ None → Left m s cs a v
  leave_body e =
      let gives : Option ValType = first_of st.type.results in
      let op : Op = block gives (code_of st.func.body) in
      let f = found (body_at m a v st) st.place st.spot st.there in
      let inner : InnermostLabel f.sequence.levels = innermost_label gives (code_of st.func.body) st.place.steps f.sequence f.there in
      let label : slice_get (labels_at st.spot.levels) 0 ≡ Some inner.label = ap (λ (y : List places.Level). slice_get (labels_at y) 0) (sym f.part.levels) ∙ inner.there in
      let k : Outermost m a v st 0 = at_body m a v st 0 inner.label e label in
      let made : Level = made_level [] nil op nil [] in
      let levels : a.levels ≡ made ∷ [] = k.drops in
      let gives_all : types_of a.values ≡ results_of gives = ends_are ∙ ap ends_at k.spot_drops in
      let count : length a.values ≡ a.results =
      sym (length-map a.values const_type) ∙ (ap (λ (y : List ValType). length y) gives_all ∙ (arity_is gives ∙ sym st.results)) in
      out_of_body (behind a made.block [] (a.values ++ [])) e (move_is made [] levels) (ap (handed s cs) (append-nil a.values))
      (sym (append-nil a.values) ∙ ap (λ (y : List Level). a.values ++ under y) (sym levels)) count

  leave_by : (o : Option Around) → labelled v.blocks 0 ≡ o → Left m s cs a v
  leave_by None e = leave_body e
  leave_by (Some x) e = leave_block x e

  pub left : Left m s cs a v
  left = leave_by (labelled v.blocks 0) refl

pub ends_leave : EndsLeave
ends_leave m valid s cs a v st h = left m valid s cs a v st h
