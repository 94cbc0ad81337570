-- Where pieces stand among those of a module, and that a pack with all helpers has those of each piece.
use Rattle.std.proofs.Common.{◌≡◌, ap, refl, sym, subst, ◌⊎◌, inl, inr, ℕ, zero, suc, ◌+◌, ◌/◌, ◌<◌, ◌≤◌, max, List, [], ◌∷◌, ◌++◌, map, Option, Some, None, arith}
use Rattle.std.specs.Prelude.{option_map, slice_get}
use Rattle.std.proofs.Math.Nat.{le-max_left, le-max_right}
use Rattle.mc_cmd.specs.Chain.{Functions}
use Rattle.mc_cmd.specs.Form.{Text}
use Rattle.wm_ast.specs.declared.module.Func.{Func}
use Rattle.wm_ast.specs.declared.module.FuncType.{FuncType}
use Rattle.wm_ast.specs.declared.module.Limits.{Limits}
use Rattle.wm_ast.specs.declared.module.Module.{Module}
use Rattle.wm_ast.specs.declared.operator.BinaryOp.{BinaryOp}
use Rattle.wm_ast.specs.Code.{Op, num}
use Rattle.wm_ast.specs.Types.{function_type}
use Rattle.wm_valid.specs.Arrows.{◌>>=◌}
use Rattle.wm_valid.specs.Typing.{HasFirst}
use Rattle.wm_flat.specs.FlatTyping.{IsFunction}
use Rattle.wm_place.specs.Kinds.{body_of}
use Rattle.wm_place.specs.Visit.{body_visits}
use Rattle.cc_line.specs.Item.{HasAll, Helper, items_helpers}
use Rattle.cc_line.specs.Key.{body_piece, init_piece}
use Rattle.cc_cut.specs.Law.{widths}
use Rattle.cc_cut.specs.Piece.{function_pieces, Piece, pieces}
use Rattle.cc_call.specs.Frames.{done_piece, opening_piece}
use Rattle.cc_bulk.specs.Grow.{grower_items}
use Rattle.cc_body.specs.Behind.{last_op, call_type, call_before}
use Rattle.cc_pieces.specs.Restoring.{restore_piece}
use Rattle.cc_body.specs.Behind.{op_division, division_before}
use Rattle.cc_pieces.specs.Dividing.{turning_piece, turning_items, answering_piece}
use Rattle.cc_pieces.specs.Entry.{args_of_piece, done_items, taker, taker_items}
use Rattle.cc_pieces.specs.Fetching.{fetch_piece, fetches}
use Rattle.cc_body.specs.Pieces.{answer_items, cut_items, fetch_items, function_entry, function_opening, restore_items}
use Rattle.cc_body.specs.Parts.{cut_parts, division_parts, fetch_parts, function_parts, module_parts, most_takers_of, parts_by, parts_helpers, parts_of_type, restore_parts, shared_parts, takers_of}
use Rattle.cc_pieces.specs.Parts.{done_parts, Part, part, placer_parts, taker_parts, grower_parts}
use Rattle.cc_body.specs.Layout.{frame_size}
use Rattle.cc_pieces.specs.Growing.{grower_piece}
use Rattle.cc_body.specs.Placers.{body_placers, function_placers, most_placers_of}
use Rattle.cc_pieces.specs.Placing.{placer, placer_items}
use Rattle.cc_init.specs.Init.{later_pieces, init_items, init_parts}
use Rattle.pk_link.specs.Functions.{piece_function}
use Rattle.pk_agree.specs.Heaviest.{pack_parts}
use Rattle.pk_link.proofs.Distinct.{In}

abbrev pub PartIn : Part → List Part → Type 0
PartIn p [] = ⊥
PartIn p (q ∷ qs) = (p ≡ q) ⊎ PartIn p qs

part_front : (p : Part) (ps qs : List Part) → PartIn p ps → PartIn p (ps ++ qs)
part_front p [] qs i = absurd i
part_front p (q ∷ ps) qs (inl e) = inl e
part_front p (q ∷ ps) qs (inr i) = inr (part_front p ps qs i)

part_back : (p : Part) (ps qs : List Part) → PartIn p qs → PartIn p (ps ++ qs)
part_back p [] qs i = i
part_back p (q ∷ ps) qs i = inr (part_back p ps qs i)

part_more : (p : Part) (ps : List Part) (q : Part) (qs : List Part) → PartIn p (ps ++ (q ∷ [])) → PartIn p (ps ++ (q ∷ qs))
part_more p [] q qs (inl e) = inl e
part_more p [] q qs (inr i) = absurd i
part_more p (r ∷ ps) q qs (inl e) = inl e
part_more p (r ∷ ps) q qs (inr i) = inr (part_more p ps q qs i)

pub part_named : (ns : Text) (p : Part) (ps : List Part) → PartIn p ps → In (piece_function ns p) (map (piece_function ns) ps)
part_named ns p [] i = absurd i
part_named ns p (q ∷ ps) (inl e) = inl (ap (piece_function ns) e)
part_named ns p (q ∷ ps) (inr i) = inr (part_named ns p ps i)

-- ---- helpers

pub all_front : (functions : Functions) (ns : Text) (xs ys : List Helper) → HasAll functions ns (xs ++ ys) → HasAll functions ns xs
all_front functions ns [] ys h = tt
all_front functions ns (x ∷ xs) ys h = (h.0, all_front functions ns xs ys h.1)

pub all_back : (functions : Functions) (ns : Text) (xs ys : List Helper) → HasAll functions ns (xs ++ ys) → HasAll functions ns ys
all_back functions ns [] ys h = h
all_back functions ns (x ∷ xs) ys h = all_back functions ns xs ys h.1

pub part_helped : (functions : Functions) (ns : Text) (p : Part) (ps : List Part) → PartIn p ps → HasAll functions ns (parts_helpers ns ps) → HasAll functions ns (items_helpers ns p.items)
part_helped functions ns p [] i h = absurd i
part_helped functions ns p (q ∷ ps) (inl e) h = subst (λ (r : Part). HasAll functions ns (items_helpers ns r.items)) (sym e) (all_front functions ns (items_helpers ns q.items) (parts_helpers ns ps) h)
part_helped functions ns p (q ∷ ps) (inr i) h = part_helped functions ns p ps i (all_back functions ns (items_helpers ns q.items) (parts_helpers ns ps) h)

last_or : (k j : ℕ) → k < suc j → (k ≡ j) ⊎ (k < j)
last_or zero zero h = inl refl
last_or zero (suc j) h = inr (omega arith)
last_or (suc k) zero h = absurd (omega arith)
last_or (suc k) (suc j) h = up (last_or k j (omega arith))
  where
    up : (k ≡ j) ⊎ (k < j) → (suc k ≡ suc j) ⊎ (suc k < suc j)
    up (inl e) = inl (ap suc e)
    up (inr l) = inr (omega arith)

-- ---- which they are

module _ (m : Module) where
  parts_at : (n k : ℕ) (fs : List Func) (f : Func) (p : Part) → slice_get fs k ≡ Some f → PartIn p (function_parts m (n + k) f) → PartIn p (parts_by m n fs)
  parts_at n k [] f p e i = absurd cc
  parts_at n zero (g ∷ fs) f p e i =
      part_front p (function_parts m n g) (parts_by m (suc n) fs) (subst (λ (h : Func). PartIn p (function_parts m n h)) (sym (same g f e)) (subst (λ j. PartIn p (function_parts m j f)) (none n) i))
    where
      none : (n : ℕ) → n + 0 ≡ n
      none n = omega arith

      same : (g f : Func) → Some g ≡ Some f → g ≡ f
      same g f e = cc
  parts_at n (suc k) (g ∷ fs) f p e i = part_back p (function_parts m n g) (parts_by m (suc n) fs) (parts_at (suc n) k fs f p e (subst (λ j. PartIn p (function_parts m j f)) (more n k) i))
    where
      more : (n k : ℕ) → n + suc k ≡ suc n + k
      more n k = omega arith

  -- those of functions stand behind those of instantiation
  of_module : (p : Part) → PartIn p (module_parts m) → PartIn p (pack_parts m)
  of_module p i = part_back p (init_parts m (suc (later_pieces m))) (module_parts m) i

  function_at : (n : ℕ) (f : Func) (t : FuncType) (p : Part) → IsFunction m n f t → PartIn p (parts_of_type m n f (Some t)) → PartIn p (pack_parts m)
  function_at n f t p is i =
      of_module p (part_front p (parts_by m 0 m.funcs) (shared_parts m) (parts_at 0 n m.funcs f p is.there (subst (λ j. PartIn p (function_parts m j f)) (same n) (subst (λ (o : Option FuncType). PartIn p (parts_of_type m n f o)) (sym is.has_type) i))))
    where
      same : (n : ℕ) → n ≡ 0 + n
      same n = omega arith

  init_at : (j k : ℕ) → k < j → PartIn (part (init_piece k) (init_items m k)) (init_parts m j)
  init_at zero k h = absurd (omega arith)
  init_at (suc j) k h = by (last_or k j h) (λ l. init_at j k l)
    where
      by : (k ≡ j) ⊎ (k < j) → (k < j → PartIn (part (init_piece k) (init_items m k)) (init_parts m j)) → PartIn (part (init_piece k) (init_items m k)) (init_parts m j ++ part (init_piece j) (init_items m j) ∷ [])
      by (inl e) go = part_back (part (init_piece k) (init_items m k)) (init_parts m j) (part (init_piece j) (init_items m j) ∷ []) (inl (ap (λ i. part (init_piece i) (init_items m i)) e))
      by (inr l) go = part_front (part (init_piece k) (init_items m k)) (init_parts m j) (part (init_piece j) (init_items m j) ∷ []) (go l)

  pub init_in : (k : ℕ) → k ≤ later_pieces m → PartIn (part (init_piece k) (init_items m k)) (pack_parts m)
  init_in k h = part_front (part (init_piece k) (init_items m k)) (init_parts m (suc (later_pieces m))) (module_parts m) (init_at (suc (later_pieces m)) k (omega arith))

  pub entry_in : (n : ℕ) (f : Func) (t : FuncType) → IsFunction m n f t → PartIn (part (body_piece n 0) (function_entry m n f t)) (pack_parts m)
  entry_in n f t is = function_at n f t (part (body_piece n 0) (function_entry m n f t)) is (inl refl)

  pub opening_in : (n : ℕ) (f : Func) (t : FuncType) → IsFunction m n f t → PartIn (part (opening_piece n) (function_opening m n f t)) (pack_parts m)
  opening_in n f t is = function_at n f t (part (opening_piece n) (function_opening m n f t)) is (inr (inl refl))

  -- of the pieces from this index on, that of the cut at this position, or one of the call before it
  cut_at : (n index position : ℕ) (ps : List Piece) (q : Piece) (p : Part) → slice_get ps position ≡ Some q
      → PartIn p (restore_parts m n (index + position) q (call_before m q.cut) ++ (part (body_piece n (index + position)) (cut_items m n q) ∷ [])) → PartIn p (cut_parts m n index ps)
  cut_at n index position [] q p e i = absurd cc
  cut_at n index zero (r ∷ ps) q p e i =
      part_more p (restore_parts m n index r (call_before m r.cut)) (part (body_piece n index) (cut_items m n r)) (cut_parts m n (suc index) ps)
      (subst (λ (x : Piece). PartIn p (restore_parts m n index x (call_before m x.cut) ++ (part (body_piece n index) (cut_items m n x) ∷ []))) (same r q e)
      (subst (λ j. PartIn p (restore_parts m n j q (call_before m q.cut) ++ (part (body_piece n j) (cut_items m n q) ∷ []))) (none index) i))
    where
      none : (n : ℕ) → n + 0 ≡ n
      none n = omega arith

      same : (p q : Piece) → Some p ≡ Some q → q ≡ p
      same p q e = cc
  cut_at n index (suc position) (r ∷ ps) q p e i =
      part_back p (restore_parts m n index r (call_before m r.cut)) (part (body_piece n index) (cut_items m n r) ∷ cut_parts m n (suc index) ps)
      (inr (cut_at n (suc index) position ps q p e (subst (λ j. PartIn p (restore_parts m n j q (call_before m q.cut) ++ (part (body_piece n j) (cut_items m n q) ∷ []))) (more index position) i)))
    where
      more : (n k : ℕ) → n + suc k ≡ suc n + k
      more n k = omega arith

  -- a function that has a piece is there with its type
  pub record Typed (n : ℕ) : Type 0 where
    pub func : Func
    pub type : FuncType
    pub is_function : IsFunction m n func type

  typed_of : (n position : ℕ) (q : Piece) → slice_get (function_pieces m n) position ≡ Some q → Typed n
  typed_of n position q e = by_func (slice_get m.funcs n) refl e
    where
      by_type : (f : Func) → slice_get m.funcs n ≡ Some f → (o : Option FuncType) → function_type m f ≡ o → slice_get (pieces (body_visits (option_map (body_of m f) o))) position ≡ Some q → Typed n
      by_type f at None k e = absurd cc
      by_type f at (Some t) k e = record { func = f; type = t; is_function = record { there = at; has_type = k } }

      by_func : (o : Option Func) → slice_get m.funcs n ≡ o → slice_get (pieces (body_visits (o >>= λ f. option_map (body_of m f) (function_type m f)))) position ≡ Some q → Typed n
      by_func None k e = absurd cc
      by_func (Some f) k e = by_type f k (function_type m f) refl e

  -- the same of all pieces of the module
  piece_at : (n position : ℕ) (q : Piece) (p : Part) → slice_get (function_pieces m n) position ≡ Some q
      → PartIn p (restore_parts m n (suc position) q (call_before m q.cut) ++ (part (body_piece n (suc position)) (cut_items m n q) ∷ [])) → PartIn p (pack_parts m)
  piece_at n position q p e i =
      let t = typed_of n position q e in
      function_at n t.func t.type p t.is_function
      (inr (inr (cut_at n 1 position (function_pieces m n) q p e (subst (λ j. PartIn p (restore_parts m n j q (call_before m q.cut) ++ (part (body_piece n j) (cut_items m n q) ∷ []))) (one position) i))))
    where
      one : (k : ℕ) → suc k ≡ 1 + k
      one k = omega arith

  pub body_in : (n position : ℕ) (q : Piece) → slice_get (function_pieces m n) position ≡ Some q → PartIn (part (body_piece n (suc position)) (cut_items m n q)) (pack_parts m)
  body_in n position q e =
      let p : Part = part (body_piece n (suc position)) (cut_items m n q) in
      piece_at n position q p e (part_back p (restore_parts m n (suc position) q (call_before m q.cut)) (p ∷ []) (inl refl))

  pub restored_in : (n position : ℕ) (q : Piece) (t : FuncType) → slice_get (function_pieces m n) position ≡ Some q → call_before m q.cut ≡ Some t
      → PartIn (part (restore_piece n (suc position)) (restore_items m n (suc position) q t)) (pack_parts m)
  restored_in n position q t e b =
      let p : Part = part (restore_piece n (suc position)) (restore_items m n (suc position) q t) in
      piece_at n position q p e
      (part_front p (restore_parts m n (suc position) q (call_before m q.cut)) (part (body_piece n (suc position)) (cut_items m n q) ∷ [])
      (subst (λ (o : Option FuncType). PartIn p (restore_parts m n (suc position) q o)) (sym b) (inl refl)))

  -- no call stands where a division does
  no_call : (o : Option Op) (op : BinaryOp) → (o >>= op_division) ≡ Some op → (o >>= call_type m) ≡ None
  no_call None op e = absurd cc
  no_call (Some (num x)) op e = refl
  no_call (Some _) op e = absurd cc

  -- the pieces of a division stand before its cut
  divided_in : (n position : ℕ) (q : Piece) (op : BinaryOp) (p : Part) → slice_get (function_pieces m n) position ≡ Some q → division_before q.cut ≡ Some op
      → PartIn p (division_parts m n (suc position) q (Some op)) → PartIn p (pack_parts m)
  divided_in n position q op p e b i =
      piece_at n position q p e
      (part_front p (restore_parts m n (suc position) q (call_before m q.cut)) (part (body_piece n (suc position)) (cut_items m n q) ∷ [])
      (subst (λ (o : Option FuncType). PartIn p (restore_parts m n (suc position) q o)) (sym (no_call (last_op q.cut.before) op b))
      (subst (λ (o : Option BinaryOp). PartIn p (division_parts m n (suc position) q o)) (sym b) i)))

  pub answering_in : (n position : ℕ) (q : Piece) (op : BinaryOp) → slice_get (function_pieces m n) position ≡ Some q → division_before q.cut ≡ Some op
      → PartIn (part (answering_piece n (suc position)) (answer_items m n (suc position) q op)) (pack_parts m)
  answering_in n position q op e b = divided_in n position q op _ e b (inl refl)

  pub turning_in : (n position : ℕ) (q : Piece) (op : BinaryOp) → slice_get (function_pieces m n) position ≡ Some q → division_before q.cut ≡ Some op
      → PartIn (part (turning_piece n (suc position)) (turning_items n (suc position))) (pack_parts m)
  turning_in n position q op e b = divided_in n position q op _ e b (inr (inl refl))

  abbrev fetched : ℕ → ℕ → Piece → FuncType → ℕ → Part
  fetched n index q t k = part (fetch_piece n index k) (fetch_items m n index k q t)

  fetch_at : (n index : ℕ) (q : Piece) (t : FuncType) (j k : ℕ) → k < j → PartIn (fetched n index q t k) (fetch_parts m n index q t j)
  fetch_at n index q t zero k h = absurd (omega arith)
  fetch_at n index q t (suc j) k h = by (last_or k j h) (λ l. fetch_at n index q t j k l)
    where
      by : (k ≡ j) ⊎ (k < j) → (k < j → PartIn (fetched n index q t k) (fetch_parts m n index q t j)) → PartIn (fetched n index q t k) (fetch_parts m n index q t j ++ fetched n index q t j ∷ [])
      by (inl e) go = part_back (fetched n index q t k) (fetch_parts m n index q t j) (fetched n index q t j ∷ []) (inl (ap (fetched n index q t) e))
      by (inr l) go = part_front (fetched n index q t k) (fetch_parts m n index q t j) (fetched n index q t j ∷ []) (go l)

  pub fetched_in : (n position k : ℕ) (q : Piece) (t : FuncType) → slice_get (function_pieces m n) position ≡ Some q → call_before m q.cut ≡ Some t → k < fetches (widths t.params)
      → PartIn (part (fetch_piece n (suc position) k) (fetch_items m n (suc position) k q t)) (pack_parts m)
  fetched_in n position k q t e b h =
      let p : Part = part (fetch_piece n (suc position) k) (fetch_items m n (suc position) k q t) in
      piece_at n position q p e
      (part_front p (restore_parts m n (suc position) q (call_before m q.cut)) (part (body_piece n (suc position)) (cut_items m n q) ∷ [])
      (subst (λ (o : Option FuncType). PartIn p (restore_parts m n (suc position) q o)) (sym b) (inr (fetch_at n (suc position) q t (fetches (widths t.params)) k h))))

  taker_at : (j k : ℕ) → k < j → PartIn (part (taker k) (taker_items k)) (taker_parts j)
  taker_at zero k h = absurd (omega arith)
  taker_at (suc j) k h = by (last_or k j h) (λ l. taker_at j k l)
    where
      by : (k ≡ j) ⊎ (k < j) → (k < j → PartIn (part (taker k) (taker_items k)) (taker_parts j)) → PartIn (part (taker k) (taker_items k)) (taker_parts j ++ part (taker j) (taker_items j) ∷ [])
      by (inl e) go = part_back (part (taker k) (taker_items k)) (taker_parts j) (part (taker j) (taker_items j) ∷ []) (inl (ap (λ i. part (taker i) (taker_items i)) e))
      by (inr l) go = part_front (part (taker k) (taker_items k)) (taker_parts j) (part (taker j) (taker_items j) ∷ []) (go l)

  most_at : (k : ℕ) (fs : List Func) (f : Func) → slice_get fs k ≡ Some f → takers_of (function_type m f) ≤ most_takers_of m fs
  most_at k [] f e = absurd cc
  most_at zero (g ∷ fs) f e = subst (λ (h : Func). takers_of (function_type m h) ≤ most_takers_of m (g ∷ fs)) (same g f e) (le-max_left (takers_of (function_type m g)) (most_takers_of m fs))
    where
      same : (g f : Func) → Some g ≡ Some f → g ≡ f
      same g f e = cc
  most_at (suc k) (g ∷ fs) f e =
      let a : takers_of (function_type m f) ≤ most_takers_of m fs = most_at k fs f e in
      let b : most_takers_of m fs ≤ max (takers_of (function_type m g)) (most_takers_of m fs) = le-max_right (takers_of (function_type m g)) (most_takers_of m fs) in
      let c : takers_of (function_type m f) ≤ max (takers_of (function_type m g)) (most_takers_of m fs) = omega arith in
      c

  -- the shared pieces behind those that end a job
  abbrev last : List Part
  last = placer_parts 2 (most_placers_of m 0 m.funcs) ++ grower_parts (slice_get m.mems 0)

  abbrev late : List Part
  late = placer_parts 1 (most_placers_of m 0 m.funcs) ++ last

  pub taker_in : (n : ℕ) (f : Func) (t : FuncType) → IsFunction m n f t → (k : ℕ) → k < widths t.params / args_of_piece → PartIn (part (taker k) (taker_items k)) (pack_parts m)
  taker_in n f t is k h =
      let a : takers_of (function_type m f) ≤ most_takers_of m m.funcs = most_at n m.funcs f is.there in
      let b : widths t.params / args_of_piece ≤ most_takers_of m m.funcs = subst (λ (o : Option FuncType). takers_of o ≤ most_takers_of m m.funcs) is.has_type a in
      let c : k < most_takers_of m m.funcs = omega arith in
      of_module (part (taker k) (taker_items k))
      (part_back (part (taker k) (taker_items k)) (parts_by m 0 m.funcs) (shared_parts m)
      (part_front (part (taker k) (taker_items k)) (taker_parts (most_takers_of m m.funcs)) (done_parts ++ late) (taker_at (most_takers_of m m.funcs) k c)))

  pub done_in : (w : ℕ) → w ≤ 2 → PartIn (part (done_piece w) (done_items w)) (pack_parts m)
  done_in w h =
      of_module (part (done_piece w) (done_items w))
      (part_back (part (done_piece w) (done_items w)) (parts_by m 0 m.funcs) (shared_parts m)
      (part_back (part (done_piece w) (done_items w)) (taker_parts (most_takers_of m m.funcs)) (done_parts ++ late) (part_front (part (done_piece w) (done_items w)) done_parts late (go w h))))
    where
      go : (w : ℕ) → w ≤ 2 → PartIn (part (done_piece w) (done_items w)) done_parts
      go zero h = inl refl
      go (suc zero) h = inr (inl refl)
      go (suc (suc zero)) h = inr (inr (inl refl))
      go (suc (suc (suc w))) h = absurd (omega arith)

  abbrev placing : ℕ → ℕ → Part
  placing ints k = part (placer ints k) (placer_items ints k)

  placer_at : (ints j k : ℕ) → k < j → PartIn (placing ints k) (placer_parts ints j)
  placer_at ints zero k h = absurd (omega arith)
  placer_at ints (suc j) k h = by (last_or k j h) (λ l. placer_at ints j k l)
    where
      by : (k ≡ j) ⊎ (k < j) → (k < j → PartIn (placing ints k) (placer_parts ints j)) → PartIn (placing ints k) (placer_parts ints j ++ placing ints j ∷ [])
      by (inl e) go = part_back (placing ints k) (placer_parts ints j) (placing ints j ∷ []) (inl (ap (placing ints) e))
      by (inr l) go = part_front (placing ints k) (placer_parts ints j) (placing ints j ∷ []) (go l)

  -- of the functions from this index on, that of this number has no more placers than the most of them
  placers_at : (n k : ℕ) (fs : List Func) (f : Func) → slice_get fs k ≡ Some f → function_placers m (n + k) ≤ most_placers_of m n fs
  placers_at n k [] f e = absurd cc
  placers_at n zero (g ∷ fs) f e = subst (λ j. function_placers m j ≤ most_placers_of m n (g ∷ fs)) (none n) (le-max_left (function_placers m n) (most_placers_of m (n + 1) fs))
    where
      none : (n : ℕ) → n ≡ n + 0
      none n = omega arith
  placers_at n (suc k) (g ∷ fs) f e =
      let a : function_placers m (n + suc k) ≤ most_placers_of m (n + 1) fs = subst (λ j. function_placers m j ≤ most_placers_of m (n + 1) fs) (more n k) (placers_at (n + 1) k fs f e) in
      let b : most_placers_of m (n + 1) fs ≤ max (function_placers m n) (most_placers_of m (n + 1) fs) = le-max_right (function_placers m n) (most_placers_of m (n + 1) fs) in
      let c : function_placers m (n + suc k) ≤ max (function_placers m n) (most_placers_of m (n + 1) fs) = omega arith in
      c
    where
      more : (n k : ℕ) → n + 1 + k ≡ n + suc k
      more n k = omega arith

  -- what is no function needs none
  placers_within : (n : ℕ) → function_placers m n ≤ most_placers_of m 0 m.funcs
  placers_within n = go (slice_get m.funcs n) refl
    where
      go : (o : Option Func) → slice_get m.funcs n ≡ o → function_placers m n ≤ most_placers_of m 0 m.funcs
      go None e =
          let h : function_placers m n ≡ 0 = ap (λ (o : Option Func). body_placers (frame_size m n) (o >>= λ f. option_map (body_of m f) (function_type m f))) e in
          omega arith
      go (Some f) e = subst (λ j. function_placers m j ≤ most_placers_of m 0 m.funcs) (same n) (placers_at 0 n m.funcs f e)
        where
          same : (n : ℕ) → 0 + n ≡ n
          same n = omega arith

  late_in : (p : Part) → PartIn p late → PartIn p (pack_parts m)
  late_in p i =
      of_module p
      (part_back p (parts_by m 0 m.funcs) (shared_parts m)
      (part_back p (taker_parts (most_takers_of m m.funcs)) (done_parts ++ late) (part_back p done_parts late i)))

  pub placer_in : (n ints i : ℕ) → 1 ≤ ints → ints ≤ 2 → i < function_placers m n → PartIn (placing ints i) (pack_parts m)
  placer_in n zero i some few h = absurd (omega arith)
  placer_in n (suc zero) i some few h =
      let l : function_placers m n ≤ most_placers_of m 0 m.funcs = placers_within n in
      late_in (placing 1 i) (part_front (placing 1 i) (placer_parts 1 (most_placers_of m 0 m.funcs)) last (placer_at 1 (most_placers_of m 0 m.funcs) i (omega arith)))
  placer_in n (suc (suc zero)) i some few h =
      let l : function_placers m n ≤ most_placers_of m 0 m.funcs = placers_within n in
      late_in (placing 2 i)
      (part_back (placing 2 i) (placer_parts 1 (most_placers_of m 0 m.funcs)) last
      (part_front (placing 2 i) (placer_parts 2 (most_placers_of m 0 m.funcs)) (grower_parts (slice_get m.mems 0)) (placer_at 2 (most_placers_of m 0 m.funcs) i (omega arith))))
  placer_in n (suc (suc (suc k))) i some few h = absurd (omega arith)

  -- where there is a memory
  pub grower_in : HasFirst m.mems → PartIn (part grower_piece grower_items) (pack_parts m)
  grower_in h =
      late_in (part grower_piece grower_items)
      (part_back (part grower_piece grower_items) (placer_parts 1 (most_placers_of m 0 m.funcs)) last
      (part_back (part grower_piece grower_items) (placer_parts 2 (most_placers_of m 0 m.funcs)) (grower_parts (slice_get m.mems 0)) (there m.mems h)))
    where
      there : (ls : List Limits) → HasFirst ls → PartIn (part grower_piece grower_items) (grower_parts (slice_get ls 0))
      there [] h = absurd h
      there (l ∷ ls) h = inl refl
