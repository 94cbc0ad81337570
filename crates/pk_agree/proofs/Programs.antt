-- The items of the pieces of a module, by their names; and that a name's tree tells the name.
use Rattle.std.proofs.Common.{◌≡◌, ℕ, zero, suc, ◌+◌, ◌-◌, ◌*◌, ◌/◌, ◌%◌, ◌≤◌, ◌<◌, Option, Some, None, Bool, false, refl, sym, ap, ◌∙◌, arith}
use Rattle.std.specs.Prelude.{pos, codes, slice_get, nat_eq, nat_lt, if◌then◌else◌}
use Rattle.std.proofs.lemmas.Bool.{lt-ltb, le-ltb}
use Rattle.mc_cmd.specs.Form.{Text}
use Rattle.mc_nbt.specs.Tree.{Tree, int, key, child}
use Rattle.wm_ast.specs.declared.module.Func.{Func}
use Rattle.wm_ast.specs.declared.module.FuncType.{FuncType}
use Rattle.wm_ast.specs.declared.module.Module.{Module}
use Rattle.wm_ast.specs.declared.operator.BinaryOp.{BinaryOp}
use Rattle.wm_ast.specs.Code.{Op, num}
use Rattle.wm_valid.specs.Arrows.{◌>>=◌}
use Rattle.wm_flat.specs.FlatTyping.{IsFunction}
use Rattle.cc_line.specs.Key.{PieceId, body_piece, init_piece, shared_piece, end_piece, id_tree, group_init, group_shared, key_ends}
use Rattle.cc_line.specs.Item.{Items}
use Rattle.cc_call.specs.Frames.{first_opening, opening_piece}
use Rattle.cc_cut.specs.Piece.{Piece, function_pieces}
use Rattle.cc_sched.specs.Names.{is_end, PieceFits}
use Rattle.cc_body.specs.Behind.{last_op, call_type, call_before}
use Rattle.cc_pieces.specs.Restoring.{first_restore, restore_piece}
use Rattle.cc_body.specs.Behind.{op_division, division_before}
use Rattle.cc_pieces.specs.Dividing.{turning_piece, turning_items, answering_piece}
use Rattle.cc_pieces.specs.Fetching.{most_fetches, first_fetch, fetch_piece}
use Rattle.cc_pieces.specs.Entry.{first_taker, taker, taker_items}
use Rattle.cc_bulk.specs.Grow.{grower_items}
use Rattle.cc_pieces.specs.Growing.{grower_index, grower_piece}
use Rattle.cc_pieces.specs.Placing.{first_placer, first_pair_placer, placer, placer_items}
use Rattle.cc_body.specs.Pieces.{cut_items, function_entry, function_opening, restore_items, answer_items, fetch_items}
use Rattle.cc_simulate.specs.Named.{restore_of, answer_of, fetch_of, turning_of, typed_at, function_at}
use Rattle.cc_simulate.specs.Named.{piece_at, restore_at, fetch_at, fetch_by, items_named}
use Rattle.cc_pieces.specs.Law.{most_takers, most_placers}
use Rattle.cc_init.specs.Init.{init_items}
use Rattle.pk_agree.specs.Linked.{charged_piece}

-- ---- the items of a piece

-- without its charge
abbrev pub piece_items : Module → PieceId → Items
piece_items m (body_piece n i) = items_named m (body_piece n i)
piece_items m (init_piece j) = init_items m j
piece_items m (shared_piece j) = items_named m (shared_piece j)
piece_items m (end_piece w) = items_named m (end_piece w)

-- with it, as they are run
abbrev pub program : Module → PieceId → Items
program m i = charged_piece i (piece_items m i)

pub entry_items_are : (m : Module) (n : ℕ) (f : Func) (t : FuncType) → IsFunction m n f t
    → items_named m (body_piece n 0) ≡ function_entry m n f t
entry_items_are m n f t i =
    ap (function_at m n (function_entry m)) i.there ∙ ap (typed_at m n (function_entry m) f) i.has_type

-- the piece of a cut, one that restores a frame, and one that fetches arguments
abbrev by_index : Module → ℕ → ℕ → Bool → Bool → Items
by_index m n i cuts restores =
    if cuts
    then piece_at m n (slice_get (function_pieces m n) i)
    else (if restores
    then restore_at m n (suc (i - first_restore)) (slice_get (function_pieces m n) (i - first_restore))
    else fetch_by m n (suc i - first_fetch))

pub cut_items_are : (m : Module) (n position : ℕ) (q : Piece) → position < first_restore
    → slice_get (function_pieces m n) position ≡ Some q → items_named m (body_piece n (suc position)) ≡ cut_items m n q
cut_items_are m n position q h e =
    ap (λ b. by_index m n position b (nat_lt position first_fetch)) (lt-ltb position first_restore h) ∙ ap (piece_at m n) e

-- that of a cut, among those that restore frames, and among those that fetch arguments
restore_is : (m : Module) (n position : ℕ) (q : Piece) → position < first_restore → slice_get (function_pieces m n) position ≡ Some q
    → items_named m (restore_piece n (suc position)) ≡ restore_of m n (suc position) q (call_before m q.cut)
restore_is m n position q few e =
    let i : ℕ = first_restore + position in
    let next : first_restore + suc position ≡ suc i = omega arith in
    let high : first_restore ≤ i = omega arith in
    let low : i < first_fetch = omega arith in
    let back : i - first_restore ≡ position = omega arith in
    ap (λ j. items_named m (body_piece n j)) next
    ∙ ap (λ b. by_index m n i b (nat_lt i first_fetch)) (le-ltb i first_restore high)
    ∙ ap (λ b. by_index m n i false b) (lt-ltb i first_fetch low)
    ∙ ap (λ j. restore_at m n (suc j) (slice_get (function_pieces m n) j)) back
    ∙ ap (restore_at m n (suc position)) e

pub restore_items_are : (m : Module) (n position : ℕ) (q : Piece) (t : FuncType) → position < first_restore
    → slice_get (function_pieces m n) position ≡ Some q → call_before m q.cut ≡ Some t
    → items_named m (restore_piece n (suc position)) ≡ restore_items m n (suc position) q t
restore_items_are m n position q t few e c = restore_is m n position q few e ∙ ap (restore_of m n (suc position) q) c

fetch_is : (m : Module) (n position k : ℕ) (q : Piece) → k < most_fetches → slice_get (function_pieces m n) position ≡ Some q
    → items_named m (fetch_piece n (suc position) k) ≡ fetch_of m n (suc position) k q (call_before m q.cut)
fetch_is m n position k q few e =
    let i : ℕ = 2097159 + (most_fetches * position + k) in
    let next : first_fetch + (most_fetches * suc position + k) ≡ suc i = omega arith in
    let high : first_restore ≤ i = omega arith in
    let higher : first_fetch ≤ i = omega arith in
    let j : ℕ = most_fetches * suc position + k in
    let back : suc i - first_fetch ≡ j = omega arith in
    let whole : j / most_fetches ≡ suc position = omega arith in
    let rest : j % most_fetches ≡ k = omega arith in
    let at : suc position - 1 ≡ position = omega arith in
    ap (λ x. items_named m (body_piece n x)) next
    ∙ ap (λ b. by_index m n i b (nat_lt i first_fetch)) (le-ltb i first_restore high)
    ∙ ap (λ b. by_index m n i false b) (le-ltb i first_fetch higher)
    ∙ ap (fetch_by m n) back
    ∙ ap (λ x. fetch_at m n x (j % most_fetches) (slice_get (function_pieces m n) (x - 1))) whole
    ∙ ap (λ x. fetch_at m n (suc position) x (slice_get (function_pieces m n) (suc position - 1))) rest
    ∙ ap (λ x. fetch_at m n (suc position) k (slice_get (function_pieces m n) x)) at
    ∙ ap (fetch_at m n (suc position) k) e

pub fetch_items_are : (m : Module) (n position k : ℕ) (q : Piece) (t : FuncType) → k < most_fetches
    → slice_get (function_pieces m n) position ≡ Some q → call_before m q.cut ≡ Some t
    → items_named m (fetch_piece n (suc position) k) ≡ fetch_items m n (suc position) k q t
fetch_items_are m n position k q t few e c = fetch_is m n position k q few e ∙ ap (fetch_of m n (suc position) k q) c

-- no call stands where a division does
no_call : (m : Module) (o : Option Op) (op : BinaryOp) → (o >>= op_division) ≡ Some op → (o >>= call_type m) ≡ None
no_call m None op e = absurd cc
no_call m (Some (num x)) op e = refl
no_call m (Some _) op e = absurd cc

pub answering_items_are : (m : Module) (n position : ℕ) (q : Piece) (op : BinaryOp) → position < first_restore
    → slice_get (function_pieces m n) position ≡ Some q → division_before q.cut ≡ Some op
    → items_named m (answering_piece n (suc position)) ≡ answer_items m n (suc position) q op
answering_items_are m n position q op few e d =
    restore_is m n position q few e
    ∙ (ap (restore_of m n (suc position) q) (no_call m (last_op q.cut.before) op d) ∙ ap (answer_of m n (suc position) q) d)

pub turning_items_are : (m : Module) (n position : ℕ) (q : Piece) (op : BinaryOp) → position < first_restore
    → slice_get (function_pieces m n) position ≡ Some q → division_before q.cut ≡ Some op
    → items_named m (turning_piece n (suc position)) ≡ turning_items n (suc position)
turning_items_are m n position q op few e d =
    fetch_is m n position 0 q (omega arith) e
    ∙ (ap (fetch_of m n (suc position) 0 q) (no_call m (last_op q.cut.before) op d) ∙ ap (turning_of n (suc position)) d)

-- a shared piece that puts a value of one int to its place, or of two, or that appends pages
abbrev placed_by : ℕ → Bool → Bool → Items
placed_by j ones pairs =
    if ones then placer_items 1 (j - first_placer) else (if pairs then placer_items 2 (j - first_pair_placer) else grower_items)

-- one that takes arguments, that makes a frame, and others
abbrev by_number : Module → ℕ → Bool → Bool → Items
by_number m j takes opens =
    if takes
    then taker_items (j - first_taker)
    else (if opens
    then function_at m (j - first_opening) (function_opening m) (slice_get m.funcs (j - first_opening))
    else placed_by j (nat_lt j first_pair_placer) (nat_lt j grower_index))

pub taker_items_are : (m : Module) (k : ℕ) → k < most_takers → items_named m (taker k) ≡ taker_items k
taker_items_are m k h =
    let j : ℕ = first_taker + k in
    let low : j < first_opening = omega arith in
    ap (λ b. by_number m j b (nat_lt j first_placer)) (lt-ltb j first_opening low)
    ∙ ap taker_items (let e : first_taker + k - first_taker ≡ k = omega arith in e)

pub opening_items_are : (m : Module) (n : ℕ) (f : Func) (t : FuncType) → first_opening + n < first_placer
    → IsFunction m n f t → items_named m (opening_piece n) ≡ function_opening m n f t
opening_items_are m n f t low i =
    let j : ℕ = first_opening + n in
    let high : first_opening ≤ j = omega arith in
    let back : j - first_opening ≡ n = omega arith in
    ap (λ b. by_number m j b (nat_lt j first_placer)) (le-ltb j first_opening high)
    ∙ ap (λ b. by_number m j false b) (lt-ltb j first_placer low)
    ∙ ap (λ k. function_at m k (function_opening m) (slice_get m.funcs k)) back
    ∙ ap (function_at m n (function_opening m)) i.there
    ∙ ap (typed_at m n (function_opening m) f) i.has_type

-- those from the first one that puts a value to a place
placed : (m : Module) (j : ℕ) → first_placer ≤ j
    → items_named m (shared_piece j) ≡ placed_by j (nat_lt j first_pair_placer) (nat_lt j grower_index)
placed m j highest =
    let high : first_opening ≤ j = omega arith in
    ap (λ b. by_number m j b (nat_lt j first_placer)) (le-ltb j first_opening high)
    ∙ ap (λ b. by_number m j false b) (le-ltb j first_placer highest)

pub placer_items_are : (m : Module) (ints i : ℕ) → 1 ≤ ints → ints ≤ 2 → i ≤ most_placers
    → items_named m (placer ints i) ≡ placer_items ints i
placer_items_are m zero i some few h = absurd (omega arith)
placer_items_are m (suc zero) i some few h =
    let j : ℕ = first_placer + i in
    placed m j (omega arith)
    ∙ (ap (λ b. placed_by j b (nat_lt j grower_index)) (lt-ltb j first_pair_placer (omega arith))
    ∙ ap (placer_items 1) (let e : first_placer + i - first_placer ≡ i = omega arith in e))
placer_items_are m (suc (suc zero)) i some few h =
    let j : ℕ = first_pair_placer + i in
    placed m j (omega arith)
    ∙ (ap (λ b. placed_by j b (nat_lt j grower_index)) (le-ltb j first_pair_placer (omega arith))
    ∙ (ap (placed_by j false) (lt-ltb j grower_index (omega arith))
    ∙ ap (placer_items 2) (let e : first_pair_placer + i - first_pair_placer ≡ i = omega arith in e)))
placer_items_are m (suc (suc (suc k))) i some few h = absurd (omega arith)

pub grower_items_are : (m : Module) → items_named m grower_piece ≡ grower_items
grower_items_are m = refl

-- ---- names

abbrev natural : Option Tree → ℕ
natural (Some (int (pos n))) = n
natural o = 0

abbrev told : Tree → Text → ℕ
told t k = natural (child t (key k))

abbrev of_group : Bool → Bool → ℕ → ℕ → PieceId
of_group bodies inits i j = if bodies then body_piece i j else (if inits then init_piece j else shared_piece j)

abbrev by_end : ℕ → ℕ → ℕ → PieceId
by_end zero i j = of_group (nat_lt i group_shared) (nat_eq i group_init) i j
by_end (suc n) i j = end_piece j

-- the name that a tree tells
abbrev named_by : Tree → PieceId
named_by t = by_end (told t key_ends) (told t (codes "i")) (told t (codes "j"))

read_back : (i : PieceId) → PieceFits i → named_by (id_tree i) ≡ i
read_back (body_piece f j) h = ap (λ b. of_group b (nat_eq f group_init) f j) (lt-ltb f group_shared h.0)
read_back (init_piece j) h = refl
read_back (shared_piece j) h = refl
read_back (end_piece w) h = refl

pub same_name : (i j : PieceId) → PieceFits i → PieceFits j → id_tree i ≡ id_tree j → i ≡ j
same_name i j f g e = sym (read_back i f) ∙ ap named_by e ∙ read_back j g

-- a tree tells whether its name is that of a piece that ends the job
pub end_told : (i j : PieceId) → id_tree i ≡ id_tree j → is_end i ≡ is_end j
end_told i j e = sym (told_of i) ∙ ap (λ t. nat_lt 0 (told t key_ends)) e ∙ told_of j
  where
    told_of : (i : PieceId) → nat_lt 0 (told (id_tree i) key_ends) ≡ is_end i
    told_of (body_piece f j) = refl
    told_of (init_piece j) = refl
    told_of (shared_piece j) = refl
    told_of (end_piece w) = refl
