-- The ways out of a piece: what branches, the next cut, returns and traps make of a state that has a frame.
use Rattle.std.proofs.Common.{◌≡◌, ℕ, zero, suc, ◌+◌, ◌-◌, ◌<◌, ◌≤◌, List, [], ◌∷◌, ◌++◌, length, take, drop, reverse, Some, None, true, Bool, refl, sym, ap, ◌∙◌, subst, arith, ℤ, pos, negsuc, slice_get, slice_set, if◌then◌else◌, take-append-drop, length-set}
use Rattle.std.proofs.Math.Seq.{drop-drop}
use Rattle.std.proofs.lemmas.Bool.{ltb-true}
use Rattle.std.proofs.lemmas.List.{length-take}
use Rattle.std.specs.Int.{w32, cast_unsigned}
use Rattle.mc_nbt.specs.Tree.{int}
use Rattle.mc_nbt.specs.Word.{is_int}
use Rattle.mc_nbt.specs.declared.value.Value.{Value}
use Rattle.mc_nbt.specs.declared.value.Value.TheVariants as values
use Rattle.wm_ast.specs.declared.module.Module.{Module}
use Rattle.wm_ast.specs.declared.module.ValType.{ValType}
use Rattle.wm_ast.specs.Step.{or_last, chosen}
use Rattle.wm_flat.specs.FlatTyping.{types_of}
use Rattle.wm_place.specs.Spot.{arity_of}
use Rattle.wm_place.specs.Visit.{Around, Visit}
use Rattle.cc_line.specs.Sight.{in_io, in_rest}
use Rattle.cc_line.specs.Key.{key_state, key_next, score_trap, PieceId, body_piece, id_tree}
use Rattle.cc_line.specs.Place.{scratch}
use Rattle.cc_line.specs.Running.{Kept}
use Rattle.cc_line.specs.State.{State, at_key, place_at, read, with_place}
use Rattle.cc_line.specs.Step.{Act, set_spot}
use Rattle.cc_line.specs.Item.{Items}
use Rattle.cc_cut.specs.Cost.{most_tested}
use Rattle.cc_cut.specs.Law.{widths}
use Rattle.cc_cut.specs.Way.{block_path, landing}
use Rattle.cc_cut.specs.Piece.{Piece, index_of}
use Rattle.cc_move.specs.Law.{lowest_values}
use Rattle.cc_call.specs.Frames.{hand_acts, return_acts}
use Rattle.cc_call.specs.Law.{IsBelow, Handed, CallsWork}
use Rattle.cc_call.proofs.ActLemmas.{acts_append, ready_append}
use Rattle.cc_body.specs.Emit.{tested, is_index, carry_acts, goto_acts, acts_to, landing_acts, branch_acts, table_items}
use Rattle.cc_body.specs.Layout.{place_above}
use Rattle.cc_simulate.specs.Frame.{stack_ints, Frame}
use Rattle.cc_simulate.specs.Stands.{RunsOver, ChangesFrameAlone}
use Rattle.cc_simulate.specs.Law.{Enters}
use Rattle.cc_simulate.proofs.Frames.{types_take, types_append, widths_append, top_of, above_is, frame_top, frame_same, frame_upper, moved, frame_moved}
use Rattle.cc_simulate.proofs.Acts.{keeps_both, keeps_places, calm_places, keeps_tree, keeps_calls, after_acts, ActsReady, ActsEnter, acts_end, QuietBelow, quiet_append, index_holds, index_fails, exit_taken, exit_passed}

-- ---- ways out

-- the last of the operands stand over the lowest ones; nothing else differs than places below the h-th one
pub record Carries (size : ℕ) (ls os : List Value) (h : ℕ) (acts : List Act) (s : State) : Type 0 where
  pub ready : ActsReady acts s
  pub frame : Frame size ls os (after_acts acts s).places
  pub keys : (after_acts acts s).keys ≡ s.keys
  pub scores : (after_acts acts s).scores ≡ s.scores
  pub quiet : QuietBelow h acts

-- a piece is next, with this frame
pub record Gone (bytes : Bool) (bs : List Kept) (size : ℕ) (ls os : List Value) (p : PieceId) (h : ℕ) (acts : List Act) (s : State) : Type 0 where
  pub ready : ActsReady acts s
  pub frame : Frame size ls os (after_acts acts s).places
  pub named : (after_acts acts s).keys in_rest key_next ≡ Some (id_tree p)
  pub calm : RunsOver bytes bs (after_acts acts s)
  pub keeps : ChangesFrameAlone s (after_acts acts s)
  pub quiet : QuietBelow h acts

-- results are handed over, and the piece is next that the last of the frames below names
pub record Returned (us : List Value) (follows : PieceId) (acts : List Act) (s : State) : Type 0 where
  pub ready : ActsReady acts s
  pub handed : Handed (stack_ints us) follows s (after_acts acts s)
  pub keeps : ChangesFrameAlone s (after_acts acts s)
  pub quiet : (h : ℕ) → QuietBelow h acts

-- numbers that are carried
pub carry_leaves : (n from to : ℕ) (s : State)
    → (let t : State = after_acts (carry_acts n from to) s in (t.places ≡ moved n from to s.places) × (t.keys ≡ s.keys) × (t.scores ≡ s.scores))
carry_leaves zero from to s = (refl, refl, refl)
carry_leaves (suc n) from to s = carry_leaves n (suc from) (suc to) (with_place s to (place_at s from))

pub carry_ready : (n from to : ℕ) (s : State) → to + n ≤ length s.places → from + n ≤ length s.places → ActsReady (carry_acts n from to) s
carry_ready zero from to s l m = tt
carry_ready (suc n) from to s l m =
    let long : length (slice_set s.places to (place_at s from)) ≡ length s.places = length-set s.places to (place_at s from) in
    let a : to < length s.places = omega arith in
    let b : from < length s.places = omega arith in
    let c : suc from + n ≤ length (slice_set s.places to (place_at s from)) = omega arith in
    let d : suc to + n ≤ length (slice_set s.places to (place_at s from)) = omega arith in
    ((a, b), carry_ready n (suc from) (suc to) (with_place s to (place_at s from)) d c)

pub carry_quiet : (h n from to : ℕ) → to + n ≤ h → QuietBelow h (carry_acts n from to)
carry_quiet h zero from to l = tt
carry_quiet h (suc n) from to l =
    let a : to < h = omega arith in
    let b : suc to + n ≤ h = omega arith in
    (a, carry_quiet h n (suc from) (suc to) b)

carried : (size : ℕ) (ls : List Value) (s : State) (us mid low : List Value) (h : ℕ) → Frame size ls (us ++ (mid ++ low)) s.places → h ≡ top_of ls (us ++ (mid ++ low))
    → Carries size ls (us ++ low) h (carry_acts (widths (types_of us)) (top_of ls (mid ++ low)) (top_of ls low)) s
carried size ls s us mid low h f e =
    let n : ℕ = widths (types_of us) in
    let from : ℕ = top_of ls (mid ++ low) in
    let to : ℕ = top_of ls low in
    let t = carry_leaves n from to s in
    let top = frame_top size ls (us ++ (mid ++ low)) s.places f in
    let a = ap widths (types_append us (mid ++ low)) in
    let b = widths_append (types_of us) (types_of (mid ++ low)) in
    let c = ap widths (types_append mid low) in
    let d = widths_append (types_of mid) (types_of low) in
    let fits : from + n ≤ length s.places = omega arith in
    let down : to + n ≤ length s.places = omega arith in
    let low_fits : to + n ≤ h = omega arith in
    record {
      ready = carry_ready n from to s down fits;
      frame = frame_same size ls (us ++ low) (moved n from to s.places) (after_acts (carry_acts n from to) s).places t.0 (frame_moved size ls us mid low s.places f);
      keys = t.1;
      scores = t.2;
      quiet = carry_quiet h n from to low_fits;
    }

-- operands as the last n, those between, and the lowest k
lowest_parts : (n k : ℕ) (os : List Value) → n + k ≤ length os → (mid : List Value) × (os ≡ take n os ++ (mid ++ lowest_values k os))
lowest_parts n k os l =
    let d : ℕ = length os - k in
    let m : ℕ = d - n in
    let e : n + m ≡ d = omega arith in
    let same : drop m (drop n os) ≡ drop d os = drop-drop m n os ∙ ap (λ j. drop j os) e in
    (take m (drop n os), sym (take-append-drop n os) ∙ ap (λ (l : List Value). take n os ++ l) (sym (take-append-drop m (drop n os)) ∙ ap (λ (l : List Value). take m (drop n os) ++ l) same))

module _ (size : ℕ) (ls : List Value) (s : State) where
  -- a branch takes n operands down over the k lowest ones
  pub carry_does : (os : List Value) (n k : ℕ) → Frame size ls os s.places → n + k ≤ length os
      → Carries size ls (take n os ++ lowest_values k os) (top_of ls os) (carry_acts (widths (take n (types_of os))) (top_of ls os - widths (take n (types_of os))) (top_of ls (lowest_values k os))) s
  carry_does os n k f l =
      let p = lowest_parts n k os l in
      let us : List Value = take n os in
      let low : List Value = lowest_values k os in
      let c = carried size ls s us p.0 low (top_of ls os) (subst (λ (ws : List Value). Frame size ls ws s.places) p.1 f) (ap (λ (ws : List Value). top_of ls ws) p.1) in
      let wide : widths (types_of us) ≡ widths (take n (types_of os)) = ap widths (types_take n os) in
      let whole : widths (types_of os) ≡ widths (types_of (us ++ (p.0 ++ low))) = ap (λ (ws : List Value). widths (types_of ws)) p.1 in
      let a = ap widths (types_append us (p.0 ++ low)) in
      let b = widths_append (types_of us) (types_of (p.0 ++ low)) in
      let from : top_of ls (p.0 ++ low) ≡ top_of ls os - widths (take n (types_of os)) = omega arith in
      subst (λ j. Carries size ls (us ++ low) (top_of ls os) (carry_acts (widths (take n (types_of os))) j (top_of ls low)) s) from
      (subst (λ j. Carries size ls (us ++ low) (top_of ls os) (carry_acts j (top_of ls (p.0 ++ low)) (top_of ls low)) s) wide c)

-- ---- returns

-- what is handed over writes no score that is tested
hand_quiet : (h n i k : ℕ) → QuietBelow h (hand_acts n i k)
hand_quiet h zero i k = tt
hand_quiet h (suc n) i zero = (refl, hand_quiet h n (suc i) 1)
hand_quiet h (suc n) i (suc k) = (refl, hand_quiet h n (suc i) (suc (suc k)))

return_quiet : (n i h : ℕ) → QuietBelow h (return_acts n i)
return_quiet n i h = quiet_append h (hand_acts n (i - n) 0) _ (hand_quiet h n (i - n) 0) (tt, tt)

pub few_wide : (us : List Value) → length us ≤ 1 → widths (types_of us) ≤ 2
few_wide [] l = omega arith
few_wide (values.I32 z ∷ []) l = omega arith
few_wide (values.I64 z ∷ []) l = omega arith
few_wide (u ∷ (v ∷ us)) l = absurd (omega arith)

module _ (works : CallsWork) (bs : List Kept) (b : Kept) (size : ℕ) (ls : List Value) (s : State) where
  -- the last operands us are the results
  returned : (us low : List Value) → length us ≤ 1 → Frame size ls (us ++ low) s.places → IsBelow (bs ++ b ∷ []) s → Returned us b.follows (return_acts (widths (types_of us)) (top_of ls (us ++ low))) s
  returned us low few f below =
      let n : ℕ = widths (types_of us) in
      let h : ℕ = top_of ls (us ++ low) in
      let a = ap widths (types_append us low) in
      let c = widths_append (types_of us) (types_of low) in
      let at : h - n ≡ top_of ls low = omega arith in
      let within : n ≤ h = omega arith in
      let top : h ≤ length s.places = frame_top size ls (us ++ low) s.places f in
      let w = works.hand n h bs b s (few_wide us few) within top below in
      let taken : take n (drop (h - n) s.places) ≡ stack_ints us = ap (λ j. take n (drop j s.places)) at ∙ frame_upper size ls us low s.places f in
      let handed : Handed (stack_ints us) b.follows s (after_acts (return_acts n h) s) = subst (λ zs. Handed zs b.follows s (after_acts (return_acts n h) s)) taken w.there in
      record {
        ready = w.ready;
        handed = handed;
        keeps = keeps_calls s (after_acts (return_acts n h) s) handed.keys handed.scores;
        quiet = return_quiet n h;
      }

  -- the last n operands are
  pub return_does : (os : List Value) (n : ℕ) → n ≤ 1 → Frame size ls os s.places → IsBelow (bs ++ b ∷ []) s → Returned (take n os) b.follows (return_acts (widths (take n (types_of os))) (top_of ls os)) s
  return_does os n few f below =
      let us : List Value = take n os in
      let low : List Value = drop n os in
      let parts : us ++ low ≡ os = take-append-drop n os in
      let short : length us ≤ 1 = let j = length-take n os in omega arith in
      let w = returned us low short (subst (λ (ws : List Value). Frame size ls ws s.places) (sym parts) f) below in
      subst (λ j. Returned us b.follows (return_acts j (top_of ls os)) s) (ap widths (types_take n os))
      (subst (λ (ws : List Value). Returned us b.follows (return_acts (widths (types_of us)) (top_of ls ws)) s) parts w)

-- ---- the next cut

goto_so : {bytes : Bool} (bs : List Kept) (size : ℕ) (ls os : List Value) (s : State) (m : Module) (func results : ℕ) (locals : List ValType) (all : List Piece) (h j : ℕ) → Frame size ls os s.places → RunsOver bytes bs s
    → Gone bytes bs size ls os (body_piece func j) h (goto_acts m func results locals all j) s
goto_so bs size ls os s m func results locals all h j f calm = record {
  ready = (tt, tt);
  frame = f;
  named = refl;
  calm = record { trap = calm.trap; state = calm.state; ending = calm.ending; standing = calm.standing; below = calm.below };
  keeps = keeps_tree s (at_key in_rest key_next) (Some (id_tree (body_piece func j))) refl;
  quiet = (tt, tt);
}

-- the next cut behind what is carried
carried_gone : {bytes : Bool} (bs : List Kept) (size : ℕ) (ls os : List Value) (p : PieceId) (h : ℕ) (xs ys : List Act) (s : State) → RunsOver bytes bs s → Carries size ls os h xs s → Gone bytes bs size ls os p h ys (after_acts xs s)
    → Gone bytes bs size ls os p h (xs ++ ys) s
carried_gone {bytes = bytes} bs size ls os p h xs ys s calm c g =
    let e : after_acts (xs ++ ys) s ≡ after_acts ys (after_acts xs s) = acts_append xs ys s in
    record {
      ready = ready_append xs ys s c.ready g.ready;
      frame = subst (λ (t : State). Frame size ls os t.places) (sym e) g.frame;
      named = ap (λ (t : State). t.keys in_rest key_next) e ∙ g.named;
      calm = subst (RunsOver bytes bs) (sym e) g.calm;
      keeps = subst (λ (t : State). ChangesFrameAlone s t) (sym e) (keeps_both s (after_acts xs s) (after_acts ys (after_acts xs s)) (keeps_places s (after_acts xs s) c.keys c.scores) g.keeps);
      quiet = quiet_append h xs ys c.quiet g.quiet;
    }

module _ {bytes : Bool} (bs : List Kept) (size : ℕ) (ls : List Value) (s : State) (m : Module) (func results : ℕ) (locals : List ValType) (all : List Piece) where
  pub goto_does : (os : List Value) (h j : ℕ) → Frame size ls os s.places → RunsOver bytes bs s → Gone bytes bs size ls os (body_piece func j) h (goto_acts m func results locals all j) s
  goto_does os h j f calm = goto_so bs size ls os s m func results locals all h j f calm

  -- a branch to a block's label, over the operands os, where those of pre are gone
  pub landing_does : (v : Visit) (x : Around) (j : ℕ) (pre os : List Value) → types_of ls ≡ locals → v.kinds ≡ reverse (types_of (pre ++ os)) → arity_of x.op + x.under ≤ length os
      → index_of all (landing x.op (block_path v.path x) x.under (types_of os)).to ≡ Some j → Frame size ls os s.places → RunsOver bytes bs s
      → Gone bytes bs size ls (take (arity_of x.op) os ++ lowest_values x.under os) (body_piece func j) (top_of ls os) (landing_acts m func results locals all v (types_of os) x) s
  landing_does v x j pre os e k l c f calm =
      let n : ℕ = arity_of x.op in
      let ts : List ValType = types_of os in
      let w : ℕ = widths (take n ts) in
      let left : List Value = take n os ++ lowest_values x.under os in
      let carry : List Act = carry_acts w (top_of ls os - w) (top_of ls (lowest_values x.under os)) in
      let goto : List Act = goto_acts m func results locals all j in
      let down = carry_does size ls s os n x.under f l in
      let s1 : State = after_acts carry s in
      let gone : Gone bytes bs size ls left (body_piece func j) (top_of ls os) (carry ++ goto) s =
      carried_gone bs size ls left (body_piece func j) (top_of ls os) carry goto s calm down
      (goto_so bs size ls left s1 m func results locals all (top_of ls os) j down.frame (calm_places bs s s1 down.keys down.scores calm))
      in
      let low : x.under ≤ length os = omega arith in
      let from : top_of ls os - w ≡ widths locals + widths ts - w = ap (λ (us : List ValType). widths us + widths ts - w) e in
      let to : top_of ls (lowest_values x.under os) ≡ place_above locals v.kinds x.under = sym (above_is locals v.kinds x.under ls pre os e k low) in
      let cut : goto ≡ acts_to m func results locals all (index_of all (landing x.op (block_path v.path x) x.under ts).to) = ap (acts_to m func results locals all) (sym c) in
      let same : carry ++ goto ≡ landing_acts m func results locals all v ts x =
      ap (λ i. carry_acts w i (top_of ls (lowest_values x.under os)) ++ goto) from
      ∙ ap (λ i. carry_acts w (widths locals + widths ts - w) i ++ goto) to
      ∙ ap (λ (acts : List Act). carry_acts w (widths locals + widths ts - w) (place_above locals v.kinds x.under) ++ acts) cut
      in
      subst (λ (acts : List Act). Gone bytes bs size ls left (body_piece func j) (top_of ls os) acts s) same gone

pub gone_enters : {bytes : Bool} (P : State → Type 0) (bs : List Kept) (size : ℕ) (ls os : List Value) (p : PieceId) (h : ℕ) (acts : List Act) (s : State) (g : Gone bytes bs size ls os p h acts s) → P (after_acts acts s) → ActsEnter acts s P
gone_enters P bs size ls os p h acts s g q = record { ready = g.ready; there = q; keeps = g.keeps }

-- `unreachable`
pub unreachable_does : {bytes : Bool} (bs : List Kept) (s : State) → RunsOver bytes bs s → ActsEnter (set_spot (scratch score_trap) (pos 1) ∷ []) s (λ t. (t.scores score_trap ≡ Some (pos 1)) × (t.keys in_io key_state ≡ Some (int (pos 1))))
unreachable_does bs s calm = record {
  ready = (tt, tt);
  there = (refl, calm.state);
  keeps = record { keys = λ r k e. refl; scores = λ h a b c. ap (λ p. if p then Some (pos 1) else s.scores h) c };
}

-- ---- a br_table leads to the label that is chosen by the number z in the place i

get_past : (ls : List ℕ) (n : ℕ) → length ls ≤ n → slice_get ls n ≡ None
get_past [] n l = refl
get_past (x ∷ ls) zero l = absurd (omega arith)
get_past (x ∷ ls) (suc n) l = get_past ls n (omega arith)

pos_same : (a b : ℕ) → pos a ≡ pos b → a ≡ b
pos_same a b e = cc

module _ (P : State → Type 0) (m : Module) (func results : ℕ) (locals : List ValType) (all : List Piece) (v : Visit) (ts : List ValType) (i : ℕ) (z : ℤ) (s : State) where
  abbrev branch_to : ℕ → List Act
  branch_to l = branch_acts m func results locals all v ts l

  abbrev table_from : ℕ → List ℕ → ℕ → Items
  table_from k ls last = table_items m func results locals all v ts i k ls last

  -- the label of the number
  to_label : (k d : ℕ) (ls : List ℕ) (last : ℕ) → read s (tested i) ≡ Some z → i < length s.places → z ≡ pos (k + d) → QuietBelow i (branch_to (or_last last (slice_get ls d))) → ActsEnter (branch_to (or_last last (slice_get ls d))) s P → Enters (table_from k ls last) s P
  to_label k d [] last e l n q f = acts_end P (branch_to last) s f
  to_label k zero (x ∷ ls) last e l n q f =
      let here : z ≡ pos k = n ∙ ap pos (let y : k + 0 ≡ k = omega arith in y) in
      exit_taken P i (is_index i k) (branch_to x) (table_from (suc k) ls last) s (refl, tt) l q (index_holds i s z e k here) f
  to_label k (suc d) (x ∷ ls) last e l n q f =
      let there : z ≡ pos (suc k + d) = n ∙ ap pos (let y : k + suc d ≡ suc k + d = omega arith in y) in
      let not_here : z ≡ pos k → ⊥ = λ m. let y : k + suc d ≡ k = pos_same (k + suc d) k (sym n ∙ m) in omega arith in
      exit_passed P i (is_index i k) (branch_to x) (table_from (suc k) ls last) s (refl, tt) l (index_fails i s z e k not_here) (to_label (suc k) d ls last e l there q f)

  -- no label's number
  to_last : (k : ℕ) (ls : List ℕ) (last : ℕ) → read s (tested i) ≡ Some z → i < length s.places → ((j : ℕ) → z ≡ pos j → ⊥) → ActsEnter (branch_to last) s P → Enters (table_from k ls last) s P
  to_last k [] last e l n f = acts_end P (branch_to last) s f
  to_last k (x ∷ ls) last e l n f = exit_passed P i (is_index i k) (branch_to x) (table_from (suc k) ls last) s (refl, tt) l (index_fails i s z e k (n k)) (to_last (suc k) ls last e l n f)

table_by : (P : State → Type 0) (m : Module) (func results : ℕ) (locals : List ValType) (all : List Piece) (v : Visit) (ts : List ValType) (i : ℕ) (z : ℤ) (s : State) (labels : List ℕ) (last : ℕ) → read s (tested i) ≡ Some z → i < length s.places → is_int z ≡ true → length labels ≤ most_tested
    → QuietBelow i (branch_acts m func results locals all v ts (chosen labels last z)) → ActsEnter (branch_acts m func results locals all v ts (chosen labels last z)) s P
    → Enters (table_items m func results locals all v ts i 0 labels last) s P
table_by P m func results locals all v ts i (pos n) s labels last e l r few q f =
    to_label P m func results locals all v ts i (pos n) s 0 n labels last e l (ap pos (let y : n ≡ 0 + n = omega arith in y)) q f
table_by P m func results locals all v ts i (negsuc n) s labels last e l r few q f =
    let small : n < 2147483648 = ltb-true n 2147483648 r in
    let past : slice_get labels (cast_unsigned w32 (negsuc n)) ≡ None = get_past labels (cast_unsigned w32 (negsuc n)) (let y : length labels ≤ 4294967296 - suc n = omega arith in y) in
    to_last P m func results locals all v ts i (negsuc n) s 0 labels last e l (λ j d. absurd cc)
    (subst (λ o. ActsEnter (branch_acts m func results locals all v ts (or_last last o)) s P) past f)

module _ (P : State → Type 0) (m : Module) (func results : ℕ) (locals : List ValType) (all : List Piece) (v : Visit) (ts : List ValType) (i : ℕ) (z : ℤ) (s : State) where
  pub table_enters : (labels : List ℕ) (last : ℕ) → read s (tested i) ≡ Some z → i < length s.places → is_int z ≡ true → length labels ≤ most_tested
      → QuietBelow i (branch_acts m func results locals all v ts (chosen labels last z)) → ActsEnter (branch_acts m func results locals all v ts (chosen labels last z)) s P
      → Enters (table_items m func results locals all v ts i 0 labels last) s P
  table_enters labels last e l r few q f = table_by P m func results locals all v ts i z s labels last e l r few q f
