-- The items that pieces have, by their names.
use Rattle.std.proofs.Common.{◌≡◌, ℕ, suc, ◌+◌, ◌*◌, ◌-◌, ◌/◌, ◌%◌, ◌<◌, ◌≤◌, ◌⊎◌, inl, inr, length, Bool, true, false, Some, refl, sym, ap, ◌∙◌, subst, arith, if◌then◌else◌, nat_lt, slice_get}
use Rattle.std.proofs.lemmas.Bool.{lt-ltb, le-ltb}
use Rattle.std.proofs.lemmas.Option.{slice_get_within}
use Rattle.wm_ast.specs.declared.module.Func.{Func}
use Rattle.wm_ast.specs.declared.module.FuncType.{FuncType}
use Rattle.wm_ast.specs.declared.module.Module.{Module}
use Rattle.wm_ast.specs.declared.operator.BinaryOp.{BinaryOp}
use Rattle.wm_flat.specs.FlatTyping.{IsFunction}
use Rattle.wm_flat.specs.Program.{IsProgram}
use Rattle.cc_line.specs.Item.{Items}
use Rattle.cc_line.specs.Key.{body_piece, shared_piece}
use Rattle.cc_call.specs.Frames.{first_opening, opening_piece}
use Rattle.cc_cut.specs.Piece.{Piece, function_pieces}
use Rattle.cc_bulk.specs.Grow.{grower_items}
use Rattle.cc_pieces.specs.Restoring.{first_restore, restore_piece}
use Rattle.cc_pieces.specs.Dividing.{turning_piece, answering_piece, turning_items}
use Rattle.cc_pieces.specs.Entry.{first_taker, taker_items}
use Rattle.cc_pieces.specs.Fetching.{most_fetches, first_fetch, fetch_piece}
use Rattle.cc_pieces.specs.Growing.{grower_index, grower_piece}
use Rattle.cc_pieces.specs.Placing.{first_placer, first_pair_placer, placer, placer_items}
use Rattle.cc_pieces.specs.Law.{most_placers}
use Rattle.cc_body.specs.Behind.{call_before, division_before}
use Rattle.cc_body.specs.Pieces.{cut_items, function_opening, restore_items, fetch_items, answer_items}
use Rattle.cc_body.proofs.Bounds.{functions_are_few}
use Rattle.cc_simulate.specs.Named.{answer_of, restore_of, typed_at, function_at, piece_at, restore_at, turning_of, fetch_of, fetch_at, fetch_by, items_named}
use Rattle.cc_simulate.proofs.Divisions.{before_no_call}

-- one of two, by a test
if_true : (b : Bool) (xs ys : Items) → b ≡ true → (if b then xs else ys) ≡ xs
if_true b xs ys e = ap (λ c. if c then xs else ys) e

if_false : (b : Bool) (xs ys : Items) → b ≡ false → (if b then xs else ys) ≡ ys
if_false b xs ys e = ap (λ c. if c then xs else ys) e

module _ (m : Module) where
  -- one that makes the frame of a function
  pub named_opening : IsProgram m → (n : ℕ) (f : Func) (t : FuncType) → IsFunction m n f t → items_named m (opening_piece n) ≡ function_opening m n f t
  named_opening program n f t is =
      let few : length m.funcs ≤ 8192 = functions_are_few m program in
      let within : n < length m.funcs = slice_get_within m.funcs n f is.there in
      let over : nat_lt (first_opening + n) first_opening ≡ false = le-ltb (first_opening + n) first_opening (omega arith) in
      let under : nat_lt (first_opening + n) first_placer ≡ true = lt-ltb (first_opening + n) first_placer (omega arith) in
      let back : first_opening + n - first_opening ≡ n = omega arith in
      if_false (nat_lt (first_opening + n) first_opening) (taker_items (first_opening + n - first_taker)) _ over
      ∙ (if_true (nat_lt (first_opening + n) first_placer) (function_at m (first_opening + n - first_opening) (function_opening m) (slice_get m.funcs (first_opening + n - first_opening))) _ under
      ∙ (ap (λ k. function_at m k (function_opening m) (slice_get m.funcs k)) back
      ∙ (ap (function_at m n (function_opening m)) is.there ∙ ap (typed_at m n (function_opening m) f) is.has_type)))

  -- one that puts a value of one int to its place
  named_one : (i : ℕ) → i ≤ most_placers → items_named m (shared_piece (first_placer + i)) ≡ placer_items 1 i
  named_one i l =
      let n : ℕ = first_placer + i in
      let over : nat_lt n first_opening ≡ false = le-ltb n first_opening (omega arith) in
      let past : nat_lt n first_placer ≡ false = le-ltb n first_placer (omega arith) in
      let under : nat_lt n first_pair_placer ≡ true = lt-ltb n first_pair_placer (omega arith) in
      let back : first_placer + i - first_placer ≡ i = omega arith in
      if_false (nat_lt n first_opening) (taker_items (n - first_taker)) _ over
      ∙ (if_false (nat_lt n first_placer) (function_at m (n - first_opening) (function_opening m) (slice_get m.funcs (n - first_opening))) _ past
      ∙ (if_true (nat_lt n first_pair_placer) (placer_items 1 (n - first_placer)) _ under ∙ ap (placer_items 1) back))

  -- and one of two
  named_two : (i : ℕ) → i ≤ most_placers → items_named m (shared_piece (first_pair_placer + i)) ≡ placer_items 2 i
  named_two i l =
      let n : ℕ = first_pair_placer + i in
      let over : nat_lt n first_opening ≡ false = le-ltb n first_opening (omega arith) in
      let past : nat_lt n first_placer ≡ false = le-ltb n first_placer (omega arith) in
      let beyond : nat_lt n first_pair_placer ≡ false = le-ltb n first_pair_placer (omega arith) in
      let under : nat_lt n grower_index ≡ true = lt-ltb n grower_index (omega arith) in
      let back : first_pair_placer + i - first_pair_placer ≡ i = omega arith in
      if_false (nat_lt n first_opening) (taker_items (n - first_taker)) _ over
      ∙ (if_false (nat_lt n first_placer) (function_at m (n - first_opening) (function_opening m) (slice_get m.funcs (n - first_opening))) _ past
      ∙ (if_false (nat_lt n first_pair_placer) (placer_items 1 (n - first_placer)) _ beyond
      ∙ (if_true (nat_lt n grower_index) (placer_items 2 (n - first_pair_placer)) _ under ∙ ap (placer_items 2) back)))

  -- one that puts a value to its place
  pub named_placer : (ints i : ℕ) → (ints ≡ 1) ⊎ (ints ≡ 2) → i ≤ most_placers → items_named m (placer ints i) ≡ placer_items ints i
  named_placer ints i (inl e) l = subst (λ (k : ℕ). items_named m (placer k i) ≡ placer_items k i) (sym e) (named_one i l)
  named_placer ints i (inr e) l = subst (λ (k : ℕ). items_named m (placer k i) ≡ placer_items k i) (sym e) (named_two i l)

  -- the one that appends pages
  pub named_grower : items_named m grower_piece ≡ grower_items
  named_grower = refl

  -- that of a cut
  pub named_cut : (n position : ℕ) (q : Piece) → position < first_restore → slice_get (function_pieces m n) position ≡ Some q → items_named m (body_piece n (suc position)) ≡ cut_items m n q
  named_cut n position q l e =
      if_true (nat_lt position first_restore) (piece_at m n (slice_get (function_pieces m n) position)) _ (lt-ltb position first_restore l) ∙ ap (piece_at m n) e

  -- the piece behind a call, or behind a division: the one that is run as its routine ends
  named_behind : (n position : ℕ) (q : Piece) → position < first_restore → slice_get (function_pieces m n) position ≡ Some q
      → items_named m (restore_piece n (suc position)) ≡ restore_of m n (suc position) q (call_before m q.cut)
  named_behind n position q l e =
      let i : ℕ = first_restore + position in
      let next : first_restore + suc position ≡ suc (first_restore + position) = omega arith in
      let above : nat_lt i first_restore ≡ false = le-ltb i first_restore (omega arith) in
      let below : nat_lt i first_fetch ≡ true = lt-ltb i first_fetch (omega arith) in
      let back : first_restore + position - first_restore ≡ position = omega arith in
      ap (λ j. items_named m (body_piece n j)) next
      ∙ (if_false (nat_lt i first_restore) (piece_at m n (slice_get (function_pieces m n) i)) _ above
      ∙ (if_true (nat_lt i first_fetch) (restore_at m n (suc (i - first_restore)) (slice_get (function_pieces m n) (i - first_restore))) _ below
      ∙ (ap (λ k. restore_at m n (suc k) (slice_get (function_pieces m n) k)) back ∙ ap (restore_at m n (suc position)) e)))

  -- one that restores a frame
  pub named_restore : (n position : ℕ) (q : Piece) (t : FuncType) → position < first_restore → slice_get (function_pieces m n) position ≡ Some q → call_before m q.cut ≡ Some t
      → items_named m (restore_piece n (suc position)) ≡ restore_items m n (suc position) q t
  named_restore n position q t l e behind = named_behind n position q l e ∙ ap (restore_of m n (suc position) q) behind

  -- one that puts the answer of a division to its places
  pub named_answer : (n position : ℕ) (q : Piece) (op : BinaryOp) → position < first_restore → slice_get (function_pieces m n) position ≡ Some q → division_before q.cut ≡ Some op
      → items_named m (answering_piece n (suc position)) ≡ answer_items m n (suc position) q op
  named_answer n position q op l e behind =
      named_behind n position q l e ∙ (ap (restore_of m n (suc position) q) (before_no_call m q.cut op behind) ∙ ap (answer_of m n (suc position) q) behind)

  -- those that are run before it
  named_further : (n position k : ℕ) (q : Piece) → k < most_fetches → slice_get (function_pieces m n) position ≡ Some q
      → items_named m (fetch_piece n (suc position) k) ≡ fetch_of m n (suc position) k q (call_before m q.cut)
  named_further n position k q l e =
      let i : ℕ = first_fetch + (8 * position + (7 + k)) in
      let next : first_fetch + (8 * suc position + k) ≡ suc (first_fetch + (8 * position + (7 + k))) = omega arith in
      let above : nat_lt i first_restore ≡ false = le-ltb i first_restore (omega arith) in
      let over : nat_lt i first_fetch ≡ false = le-ltb i first_fetch (omega arith) in
      let number : suc i - first_fetch ≡ 8 * suc position + k = omega arith in
      let whole : (8 * suc position + k) / 8 ≡ suc position = omega arith in
      let part : (8 * suc position + k) % 8 ≡ k = omega arith in
      let back : suc position - 1 ≡ position = omega arith in
      ap (λ j. items_named m (body_piece n j)) next
      ∙ (if_false (nat_lt i first_restore) (piece_at m n (slice_get (function_pieces m n) i)) _ above
      ∙ (if_false (nat_lt i first_fetch) (restore_at m n (suc (i - first_restore)) (slice_get (function_pieces m n) (i - first_restore))) _ over
      ∙ (ap (fetch_by m n) number
      ∙ (ap (λ j. fetch_at m n j ((8 * suc position + k) % 8) (slice_get (function_pieces m n) (j - 1))) whole
      ∙ (ap (λ j. fetch_at m n (suc position) j (slice_get (function_pieces m n) (suc position - 1))) part
      ∙ (ap (λ j. fetch_at m n (suc position) k (slice_get (function_pieces m n) j)) back ∙ ap (fetch_at m n (suc position) k) e))))))

  -- one that fetches arguments
  pub named_fetch : (n position k : ℕ) (q : Piece) (t : FuncType) → k < most_fetches → slice_get (function_pieces m n) position ≡ Some q → call_before m q.cut ≡ Some t
      → items_named m (fetch_piece n (suc position) k) ≡ fetch_items m n (suc position) k q t
  named_fetch n position k q t l e behind = named_further n position k q l e ∙ ap (fetch_of m n (suc position) k q) behind

  -- one that makes turns of a division
  pub named_turning : (n position : ℕ) (q : Piece) (op : BinaryOp) → slice_get (function_pieces m n) position ≡ Some q → division_before q.cut ≡ Some op
      → items_named m (turning_piece n (suc position)) ≡ turning_items n (suc position)
  named_turning n position q op e behind =
      named_further n position 0 q (let l : 0 < 8 = omega arith in l) e ∙ (ap (fetch_of m n (suc position) 0 q) (before_no_call m q.cut op behind) ∙ ap (turning_of n (suc position)) behind)
