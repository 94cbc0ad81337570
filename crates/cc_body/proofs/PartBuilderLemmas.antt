-- On the way through a body whose cuts have their lean items its pieces are made.
use Rattle.std.proofs.Common.{◌≡◌, ℕ, zero, suc, ◌+◌, ◌-◌, List, [], ◌∷◌, ◌++◌, map, length, Bool, true, false, Option, Some, None, option_map, Bor, refl, sym, ap, ◌∙◌, append_assoc, append-nil, arith}
use Rattle.std.specs.Prelude.{if◌then◌else◌, slice_get}
use Rattle.std.specs.List.{FoldsTo}
use Rattle.std.specs.Slice.{IsItemAt}
use Rattle.std.proofs.lemmas.List.{map-append}
use Rattle.std.proofs.lemmas.Option.{slice_get-map}
use Rattle.wm_ast.specs.declared.module.ValType.{ValType}
use Rattle.wm_ast.specs.declared.operator.BinaryOp.{BinaryOp}
use Rattle.wm_ast.specs.declared.module.Func.{Func}
use Rattle.wm_ast.specs.declared.module.FuncType.{FuncType}
use Rattle.wm_ast.specs.declared.module.Module.{Module}
use Rattle.wm_ast.specs.Types.{results_of, run_types, function_type}
use Rattle.wm_valid.specs.Arrows.{◌>>=◌}
use Rattle.wm_place.specs.Kinds.{Body, first_of, body_of, function_body}
use Rattle.wm_place.specs.Visit.{Visit}
use Rattle.cc_call.specs.Frames.{opening_piece}
use Rattle.cc_line.specs.declared.block.Block.{Block}
use Rattle.cc_line.specs.BlockView.{block_items}
use Rattle.cc_line.specs.Item.{Items}
use Rattle.cc_line.specs.Key.{body_piece}
use Rattle.cc_cut.specs.Law.{widths}
use Rattle.cc_cut.specs.Piece.{place_cost, is_cut, Piece, up_to_cut, piece, pieces_from, function_pieces}
use Rattle.cc_tails.specs.Tails.{items_at}
use Rattle.cc_tails.proofs.CutLemmas.{cut_at_is}
use Rattle.cc_pieces.specs.declared.part.Part.{Part as Code}
use Rattle.cc_pieces.specs.Restoring.{restore_piece}
use Rattle.cc_pieces.specs.Dividing.{turning_piece, turning_items, answering_piece}
use Rattle.cc_pieces.specs.Fetching.{fetches, fetch_piece, fetching_items}
use Rattle.cc_pieces.specs.Parts.{Part, part, part_view, parts_view, fetching_parts}
use Rattle.cc_body.specs.declared.lean_body.LeanBody.{LeanBody}
use Rattle.cc_body.specs.Behind.{call_before, division_before}
use Rattle.cc_body.specs.Pieces.{items_in, lean_in, lean_cut, cut_items, opening_items, function_entry, function_opening, restore_in, restore_items, fetch_in, answer_in, tail_on, run_on}
use Rattle.cc_body.specs.Layout.{cut_heights, frame_size, top_place}
use Rattle.cc_body.specs.Parts.{fetch_parts, division_parts, restore_parts, cut_parts, parts_of_type, function_parts}
use Rattle.cc_body.specs.steps.PartBuilder.{Reached, lean_cuts, run_over, running, answered_by, restored_by, restored, own_part, own, passed, parts_from, typed_parts}
use Rattle.cc_body.specs.steps.PieceBuilder.{lean_function}
use Rattle.cc_body.specs.steps.Sizing.{shape_in}

-- ---- on the way through a body

abbrev pub state : ℕ → ℕ → List Part → Reached
state spent index parts = record { spent = spent; index = index; parts = parts }

-- the piece of the cut at a position, where there is none
pub own_none : (b : LeanBody) (position : ℕ) (old : List Part) → IsItemAt b.cuts.now position None → old ≡ old ++ own b (suc position)
own_none b position old at =
    let gone : items_at (lean_cuts b) (suc position) ≡ None = sym (cut_at_is b.cuts.now (suc position) position None (omega arith) (omega arith) at) in
    sym (ap (λ (o : Option Items). old ++ own_part b.body.func (running b) (suc position) o) gone ∙ append-nil old)

-- and where there is one
pub own_made : (b : LeanBody) (position index : ℕ) (block : Bor Block) (xs : Items) (p : Code) (old now : List Code) → IsItemAt b.cuts.now position (Some block) → index ≡ position + 1 → xs ≡ block_items block.now
    → part_view p ≡ part (body_piece b.body.func index) (running b xs) → now ≡ old ++ p ∷ [] → parts_view now ≡ parts_view old ++ own b (suc position)
own_made b position index block xs p old now at index_is items_are p_is now_is =
    let func : ℕ = b.body.func in
    let cuts : List Items = lean_cuts b in
    let next : index ≡ suc position = omega (arith, index_is) in
    let there : items_at cuts (suc position) ≡ Some (block_items block.now) = sym (cut_at_is b.cuts.now (suc position) position (Some block) (omega arith) (omega arith) at) in
    ap parts_view now_is
    ∙ (map-append part_view old (p ∷ [])
    ∙ (ap (λ (x : Part). parts_view old ++ x ∷ []) (p_is ∙ (ap (λ (k : ℕ). part (body_piece func k) (running b xs)) next ∙ ap (λ (ys : Items). part (body_piece func (suc position)) (running b ys)) items_are))
    ∙ sym (ap (λ (o : Option Items). parts_view old ++ own_part func (running b) (suc position) o) there)))

-- at a cut
pub passed_cut : (b : LeanBody) (s : Reached) (v : Visit) (cost index : ℕ) (before parts : List Part) → is_cut s.spent v ≡ true → cost ≡ place_cost v → index ≡ s.index + 1 → before ≡ s.parts ++ restored b index v → parts ≡ before ++ own b (suc s.index)
    → state cost index parts ≡ passed b s v
passed_cut b s v cost index before parts cut_is cost_is index_is before_is parts_are =
    let next : index ≡ suc s.index = omega (arith, index_is) in
    let all : List Part = (s.parts ++ restored b (suc s.index) v) ++ own b (suc s.index) in
    ap (λ (n : ℕ). state n index parts) cost_is
    ∙ (ap (λ (n : ℕ). state (place_cost v) n parts) next
    ∙ (ap (state (place_cost v) (suc s.index)) (parts_are ∙ ap (λ (l : List Part). l ++ own b (suc s.index)) (before_is ∙ ap (λ (n : ℕ). s.parts ++ restored b n v) next))
    ∙ sym (ap (λ (c : Bool). if c then state (place_cost v) (suc s.index) all else record s { spent = s.spent + place_cost v }) cut_is)))

-- what a visitor did that passed each place
module _ {V : Type 0} (seen : V → Reached) (kept : V → LeanBody) where
  abbrev pub Passes : V → Visit → V → Type 0
  Passes s v t = (seen t ≡ passed (kept s) (seen s) v) × (kept t ≡ kept s)

  -- the pieces of these cuts, which count from this index on
  abbrev those : LeanBody → ℕ → List Piece → List Part
  those b index ps = parts_from b.body.module.now b.body.func b.body.size b.body.locals.now (running b) (lean_cuts b) index ps

  -- the pieces behind a place
  behind : (b : LeanBody) (s : Reached) (v : Visit) (vs : List Visit) (c : Bool) → is_cut s.spent v ≡ c
      → (passed b s v).parts ++ those b (suc (passed b s v).index) (pieces_from (passed b s v).spent vs) ≡ s.parts ++ those b (suc s.index) (pieces_from s.spent (v ∷ vs))
  behind b s v vs true e =
      let first : List Part = restored b (suc s.index) v in
      let second : List Part = own b (suc s.index) in
      let third : List Part = those b (suc (suc s.index)) (pieces_from (place_cost v) vs) in
      let here : Reached = record { spent = place_cost v; index = suc s.index; parts = (s.parts ++ first) ++ second } in
      ap (λ (d : Bool). (let t : Reached = if d then here else record s { spent = s.spent + place_cost v } in t.parts ++ those b (suc t.index) (pieces_from t.spent vs))) e
      ∙ (append_assoc (s.parts ++ first) second third
      ∙ (append_assoc s.parts first (second ++ third)
      ∙ sym (ap (λ (d : Bool). s.parts ++ those b (suc s.index) (if d then piece v (up_to_cut (place_cost v) vs) ∷ pieces_from (place_cost v) vs else pieces_from (s.spent + place_cost v) vs)) e)))
  behind b s v vs false e =
      let here : Reached = record { spent = place_cost v; index = suc s.index; parts = (s.parts ++ restored b (suc s.index) v) ++ own b (suc s.index) } in
      ap (λ (d : Bool). (let t : Reached = if d then here else record s { spent = s.spent + place_cost v } in t.parts ++ those b (suc t.index) (pieces_from t.spent vs))) e
      ∙ sym (ap (λ (d : Bool). s.parts ++ those b (suc s.index) (if d then piece v (up_to_cut (place_cost v) vs) ∷ pieces_from (place_cost v) vs else pieces_from (s.spent + place_cost v) vs)) e)

  pub parts_made : (vs : List Visit) (s t : V) → FoldsTo Passes s vs t → (seen t).parts ≡ (seen s).parts ++ those (kept s) (suc (seen s).index) (pieces_from (seen s).spent vs)
  parts_made [] s t f = ap (λ (x : V). (seen x).parts) (sym f) ∙ sym (append-nil (seen s).parts)
  parts_made (v ∷ vs) s t (j, (r, same), f) =
      parts_made vs j t f
      ∙ (ap (λ (b : LeanBody). (seen j).parts ++ those b (suc (seen j).index) (pieces_from (seen j).spent vs)) same
      ∙ (ap (λ (x : Reached). x.parts ++ those (kept s) (suc x.index) (pieces_from x.spent vs)) r
      ∙ behind (kept s) (seen s) v vs (is_cut (seen s).spent v) refl))

-- ---- the pieces of a function

module _ (m : Module) (n : ℕ) (f : Func) (t : FuncType) (there : slice_get m.funcs n ≡ Some f) (named : function_type m f ≡ Some t) where
  abbrev locals : List ValType
  locals = t.params ++ run_types f.locals

  abbrev all : List Piece
  all = function_pieces m n

  abbrev cuts : List Items
  cuts = map (lean_cut m n) all

  found : function_body m n ≡ Some (body_of m f t)
  found = ap (λ (o : Option Func). o >>= λ h. option_map (body_of m h) (function_type m h)) there ∙ ap (option_map (body_of m f)) named

  cuts_are : lean_function m n (length (results_of (first_of t.results))) locals ≡ cuts
  cuts_are = ap (λ (o : Option Body). map (λ p. lean_in n all o (Some p) (items_in m n all o p)) all) (sym found)

  on_is : run_over n (cut_heights locals all) cuts ≡ run_on m n
  on_is = ap (λ (o : Option Body). λ xs. lean_in n all o None (tail_on m n xs)) (sym found)

  fetches_are : (index : ℕ) (p : Piece) (u : FuncType) (k : ℕ) → fetching_parts (top_place locals p.cut - widths u.results) (widths u.params) n index k ≡ fetch_parts m n index p u k
  fetches_are index p u zero = refl
  fetches_are index p u (suc k) =
      ap
      (λ (l : List Part). l ++ part (fetch_piece n index k) (fetching_items (top_place locals p.cut - widths u.results) (widths u.params) n index k) ∷ [])
      (fetches_are index p u k)
      ∙ ap (λ (b : Option Body). fetch_parts m n index p u k ++ part (fetch_piece n index k) (fetch_in m n index k p.cut u b) ∷ []) (sym found)

  answers_are : (index : ℕ) (p : Piece) (o : Option BinaryOp) → answered_by n locals (run_on m n) index p.cut o ≡ division_parts m n index p o
  answers_are index p None = refl
  answers_are index p (Some op) =
      ap (λ (b : Option Body). part (answering_piece n index) (run_on m n (answer_in n index p.cut op b)) ∷ (part (turning_piece n index) (turning_items n index) ∷ [])) (sym found)

  restores_are : (index : ℕ) (p : Piece) (o : Option FuncType) → restored_by n (frame_size m n) locals (run_on m n) index p.cut o ≡ restore_parts m n index p o
  restores_are index p None = answers_are index p (division_before p.cut)
  restores_are index p (Some u) =
      ap
      (λ (b : Option Body). part (restore_piece n index) (run_on m n (restore_in m n index p.cut u b)) ∷ fetching_parts (top_place locals p.cut - widths u.results) (widths u.params) n index (fetches (widths u.params)))
      (sym found)
      ∙ ap (λ (l : List Part). part (restore_piece n index) (restore_items m n index p u) ∷ l) (fetches_are index p u (fetches (widths u.params)))

  -- the pieces from this position on
  abbrev Follows : ℕ → List Piece → Type 0
  Follows position ps = (i : ℕ) → slice_get ps i ≡ slice_get all (position + i)

  own_is : (position : ℕ) (p : Piece) (ps : List Piece) → Follows position (p ∷ ps) → items_at cuts (suc position) ≡ Some (lean_cut m n p)
  own_is position p ps follow =
      let same : position + 0 ≡ position = omega arith in
      slice_get-map (lean_cut m n) all position ∙ (sym (ap (λ (k : ℕ). option_map (lean_cut m n) (slice_get all k)) same) ∙ sym (ap (option_map (lean_cut m n)) (follow 0)))

  parts_are : (ps : List Piece) (position : ℕ) → Follows position ps → parts_from m n (frame_size m n) locals (run_on m n) cuts (suc position) ps ≡ cut_parts m n (suc position) ps
  parts_are [] position follow = refl
  parts_are (p ∷ ps) position follow =
      let later : Follows (suc position) ps = λ i. (let same : position + suc i ≡ suc position + i = omega arith in follow (suc i) ∙ ap (slice_get all) same) in
      let rest : List Part = parts_from m n (frame_size m n) locals (run_on m n) cuts (suc (suc position)) ps in
      ap (λ (l : List Part). l ++ (own_part n (run_on m n) (suc position) (items_at cuts (suc position)) ++ rest)) (restores_are (suc position) p (call_before m p.cut))
      ∙ (ap (λ (o : Option Items). restore_parts m n (suc position) p (call_before m p.cut) ++ (own_part n (run_on m n) (suc position) o ++ rest)) (own_is position p ps follow)
      ∙ ap (λ (l : List Part). restore_parts m n (suc position) p (call_before m p.cut) ++ part (body_piece n (suc position)) (cut_items m n p) ∷ l) (parts_are ps (suc position) later))

  pub typed_are : typed_parts m n (shape_in m n f t) (widths t.results) locals (lean_function m n (length (results_of (first_of t.results))) locals) ≡ function_parts m n f
  typed_are =
      ap (typed_parts m n (shape_in m n f t) (widths t.results) locals) cuts_are
      ∙ (ap (λ (on : Items → Items). part (body_piece n 0) (function_entry m n f t) ∷ part (opening_piece n) (on (opening_items n t (run_types f.locals) (frame_size m n))) ∷ parts_from m n (frame_size m n) locals on cuts 1 all) on_is
      ∙ (ap (λ (rest : List Part). part (body_piece n 0) (function_entry m n f t) ∷ part (opening_piece n) (function_opening m n f t) ∷ rest) (parts_are all 0 (λ i. ap (slice_get all) (let same : i ≡ 0 + i = omega arith in same)))
      ∙ sym (ap (parts_of_type m n f) named)))
