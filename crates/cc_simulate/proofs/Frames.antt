-- Frames as lists of ints: where locals and operands lie, and what a frame is after one of them is written.
use Rattle.std.proofs.Common.{◌≡◌, ℕ, zero, suc, ◌+◌, ◌-◌, ◌<◌, ◌≤◌, inl, inr, ◌⊎◌, List, [], ◌∷◌, ◌++◌, length, take, drop, reverse, Some, refl, subst, sym, ap, ◌∙◌, arith, ℤ, pos, slice_get, slice_set, slice_index_or, append_assoc, length-append, append-nil, length-set, take-append-drop, length-drop}
use Rattle.std.proofs.Math.Seq.{set-append_seam, get_or-append_seam, take-append_seam, drop-append_seam, take-append-le}
use Rattle.std.proofs.lemmas.List.{reverse-append, reverse-reverse, length-reverse}
use Rattle.std.specs.Int.{w32, int_wrap}
use Rattle.mc_nbt.specs.declared.value.Value.{Value}
use Rattle.mc_nbt.specs.declared.value.Value.TheVariants as values
use Rattle.mc_cmd.specs.Pack.{high_half}
use Rattle.wm_ast.specs.declared.module.ValType.{ValType}
use Rattle.wm_ast.specs.Types.{const_type}
use Rattle.wm_flat.specs.FlatTyping.{types_of}
use Rattle.wm_place.specs.Visit.{Visit}
use Rattle.cc_line.specs.State.{State, set_places}
use Rattle.cc_line.specs.Routine.{value_ints, AreAt}
use Rattle.cc_line.proofs.CoreLemmas.{get_other}
use Rattle.cc_cut.specs.Law.{width, widths}
use Rattle.cc_move.specs.Law.{lowest_values}
use Rattle.cc_body.specs.Layout.{local_place, place_above, top_place}
use Rattle.cc_simulate.specs.Frame.{local_ints, stack_ints, Frame}

-- ---- lengths

pub value_length : (v : Value) → length (value_ints v) ≡ width (const_type v)
value_length (values.I32 z) = refl
value_length (values.I64 z) = refl

pub local_length : (vs : List Value) → length (local_ints vs) ≡ widths (types_of vs)
local_length [] = refl
local_length (v ∷ vs) = let e = length-append (value_ints v) (local_ints vs) in let f = value_length v in let g = local_length vs in omega arith

pub stack_length : (vs : List Value) → length (stack_ints vs) ≡ widths (types_of vs)
stack_length [] = refl
stack_length (v ∷ vs) = let e = length-append (stack_ints vs) (value_ints v) in let f = value_length v in let g = stack_length vs in omega arith

pub stack_append : (us vs : List Value) → stack_ints (us ++ vs) ≡ stack_ints vs ++ stack_ints us
stack_append [] vs = sym (append-nil (stack_ints vs))
stack_append (u ∷ us) vs = ap (λ l. l ++ value_ints u) (stack_append us vs) ∙ append_assoc (stack_ints vs) (stack_ints us) (value_ints u)

pub types_append : (us vs : List Value) → types_of (us ++ vs) ≡ types_of us ++ types_of vs
types_append [] vs = refl
types_append (u ∷ us) vs = ap (λ l. const_type u ∷ l) (types_append us vs)

pub types_take : (n : ℕ) (vs : List Value) → types_of (take n vs) ≡ take n (types_of vs)
types_take zero vs = refl
types_take (suc n) [] = refl
types_take (suc n) (v ∷ vs) = ap (λ l. const_type v ∷ l) (types_take n vs)

pub types_drop : (n : ℕ) (vs : List Value) → types_of (drop n vs) ≡ drop n (types_of vs)
types_drop zero vs = refl
types_drop (suc n) [] = refl
types_drop (suc n) (v ∷ vs) = types_drop n vs

pub types_length : (vs : List Value) → length (types_of vs) ≡ length vs
types_length [] = refl
types_length (v ∷ vs) = ap suc (types_length vs)

pub widths_append : (ts us : List ValType) → widths (ts ++ us) ≡ widths ts + widths us
widths_append [] us = let e : widths us ≡ 0 + widths us = omega arith in e
widths_append (t ∷ ts) us = let i = widths_append ts us in omega arith

pub widths_reverse : (ts : List ValType) → widths (reverse ts) ≡ widths ts
widths_reverse [] = refl
widths_reverse (t ∷ ts) =
    let e = ap widths (reverse-append (t ∷ []) ts) in
    let f = widths_append (reverse ts) (t ∷ []) in
    let g = widths_reverse ts in
    omega arith

-- ---- the place above all operands

abbrev pub top_of : List Value → List Value → ℕ
top_of ls os = widths (types_of ls) + widths (types_of os)

pub held_length : (ls os : List Value) → length (local_ints ls ++ stack_ints os) ≡ top_of ls os
held_length ls os = let e = length-append (local_ints ls) (stack_ints os) in let f = local_length ls in let g = stack_length os in omega arith

-- the kinds of operands, the last one first
pub reverse_kinds : (kinds ts : List ValType) → kinds ≡ reverse ts → reverse kinds ≡ ts
reverse_kinds kinds ts e = ap (λ (l : List ValType). reverse l) e ∙ reverse-reverse ts

-- the top of an activation is that of its place
pub top_is : (locals : List ValType) (v : Visit) (ls os : List Value) → types_of ls ≡ locals → v.kinds ≡ reverse (types_of os) → top_place locals v ≡ top_of ls os
top_is locals v ls os e f =
    ap (λ ts. widths ts + widths v.kinds) (sym e) ∙ ap (λ ts. widths (types_of ls) + widths ts) f ∙ ap (λ n. widths (types_of ls) + n) (widths_reverse (types_of os))

-- the lowest of some operands, the lowest first
lowest_kinds : (n : ℕ) (ts : List ValType) → n ≤ length ts → take n (reverse ts) ≡ reverse (drop (length ts - n) ts)
lowest_kinds n ts l =
    let k : ℕ = length ts - n in
    let split : reverse ts ≡ reverse (drop k ts) ++ reverse (take k ts) = ap (λ (l : List ValType). reverse l) (sym (take-append-drop k ts)) ∙ reverse-append (take k ts) (drop k ts) in
    let a = length-reverse (drop k ts) in
    let b = length-drop k ts in
    let c : n ≡ length (reverse (drop k ts)) = omega arith in
    ap (λ (l : List ValType). take n l) split ∙ ap (λ j. take j (reverse (drop k ts) ++ reverse (take k ts))) c ∙ take-append_seam (reverse (drop k ts)) (reverse (take k ts))

-- above the lowest operands, where some on top may be gone
pub above_is : (locals kinds : List ValType) (n : ℕ) (ls pre os : List Value) → types_of ls ≡ locals → kinds ≡ reverse (types_of (pre ++ os)) → n ≤ length os → place_above locals kinds n ≡ top_of ls (lowest_values n os)
above_is locals kinds n ls pre os e f l =
    let parts : kinds ≡ reverse (types_of os) ++ reverse (types_of pre) = f ∙ ap (λ (l : List ValType). reverse l) (types_append pre os) ∙ reverse-append (types_of pre) (types_of os) in
    let many = types_length os in
    let turned = length-reverse (types_of os) in
    let front : take n kinds ≡ reverse (drop (length (types_of os) - n) (types_of os)) =
    ap (λ (l : List ValType). take n l) parts ∙ take-append-le n (reverse (types_of os)) (reverse (types_of pre)) (omega arith) ∙ lowest_kinds n (types_of os) (omega arith)
    in
    let wide : widths (take n kinds) ≡ widths (types_of (lowest_values n os)) =
    ap widths front ∙ widths_reverse (drop (length (types_of os) - n) (types_of os)) ∙ ap (λ j. widths (drop (j - n) (types_of os))) many ∙ ap widths (sym (types_drop (length os - n) os))
    in
    ap (λ ts. widths ts + widths (take n kinds)) (sym e) ∙ ap (λ j. widths (types_of ls) + j) wide

-- an operand of one place more
pub one_below : (ls os : List Value) (z : ℤ) → top_of ls (values.I32 z ∷ os) - 1 ≡ top_of ls os
one_below ls os z = omega arith

pub two_below : (ls os : List Value) (z y : ℤ) → top_of ls (values.I32 z ∷ (values.I32 y ∷ os)) - 2 ≡ top_of ls os
two_below ls os z y = omega arith

pub long_below : (ls os : List Value) (z : ℤ) → top_of ls (values.I64 z ∷ os) - 2 ≡ top_of ls os
long_below ls os z = omega arith

pub value_below : (ls os : List Value) (v : Value) → top_of ls (v ∷ os) - width (const_type v) ≡ top_of ls os
value_below ls os v = omega arith

-- ---- places at a seam

get_seam : (pre rest zs : List ℤ) (x : ℤ) (k : ℕ) → zs ≡ pre ++ (x ∷ rest) → k ≡ length pre → slice_index_or zs k (pos 0) ≡ x
get_seam pre rest zs x k e f = ap (λ l. slice_index_or l k (pos 0)) e ∙ ap (λ j. slice_index_or (pre ++ (x ∷ rest)) j (pos 0)) f ∙ get_or-append_seam pre x rest (pos 0)

set_seam : (pre rest zs : List ℤ) (x v : ℤ) (k : ℕ) → zs ≡ pre ++ (x ∷ rest) → k ≡ length pre → slice_set zs k v ≡ pre ++ (v ∷ rest)
set_seam pre rest zs x v k e f = ap (λ l. slice_set l k v) e ∙ ap (λ j. slice_set (pre ++ (x ∷ rest)) j v) f ∙ set-append_seam pre x rest v

-- one number of a list to the one before it
shift_one : (pre : List ℤ) (x : ℤ) (rest : List ℤ) → pre ++ (x ∷ rest) ≡ (pre ++ (x ∷ [])) ++ rest
shift_one pre x rest = sym (append_assoc pre (x ∷ []) rest)

one_more : (pre : List ℤ) (x : ℤ) → suc (length pre) ≡ length (pre ++ (x ∷ []))
one_more pre x = let e = length-append pre (x ∷ []) in omega arith

put_seam : (us pre junk zs : List ℤ) (k : ℕ) → zs ≡ pre ++ junk → k ≡ length pre → length us ≤ length junk → set_places zs k us ≡ (pre ++ us) ++ drop (length us) junk
put_seam [] pre junk zs k e f l = e ∙ ap (λ p. p ++ junk) (sym (append-nil pre))
put_seam (u ∷ us) pre [] zs k e f l = absurd (omega arith)
put_seam (u ∷ us) pre (j ∷ junk) zs k e f l =
    let m = one_more pre u in
    put_seam us (pre ++ (u ∷ [])) junk (slice_set zs k u) (suc k) (set_seam pre junk zs j u k e f ∙ shift_one pre u junk) (omega arith) (omega arith)
    ∙ ap (λ p. p ++ drop (length us) junk) (append_assoc pre (u ∷ []) us)

put_length : (us zs : List ℤ) (k : ℕ) → length (set_places zs k us) ≡ length zs
put_length [] zs k = refl
put_length (u ∷ us) zs k = put_length us (slice_set zs k u) (suc k) ∙ length-set zs k u

-- ---- numbers that stand in places

-- these, in the places from one on
abbrev pub Stand : List ℤ → ℕ → List ℤ → Type 0
Stand zs i [] = Unit {0}
Stand zs i (u ∷ us) = (i < length zs) × (slice_index_or zs i (pos 0) ≡ u) × Stand zs (suc i) us

pub stand_seam : (us pre junk zs : List ℤ) (k : ℕ) → zs ≡ pre ++ (us ++ junk) → k ≡ length pre → Stand zs k us
stand_seam [] pre junk zs k e f = tt
stand_seam (u ∷ us) pre junk zs k e f =
    let m = one_more pre u in
    let long : length zs ≡ length (pre ++ (u ∷ (us ++ junk))) = ap length e in
    let parts = length-append pre (u ∷ (us ++ junk)) in
    (omega arith, get_seam pre (us ++ junk) zs u k e f, stand_seam us (pre ++ (u ∷ [])) junk zs (suc k) (e ∙ shift_one pre u (us ++ junk)) (omega arith))

-- another number elsewhere
stand_other : (us zs : List ℤ) (i j : ℕ) (z : ℤ) → (suc j ≤ i) ⊎ (i + length us ≤ j) → Stand zs i us → Stand (slice_set zs j z) i us
stand_other [] zs i j z d h = tt
stand_other (u ∷ us) zs i j z (inl d) (l, e, h) = (subst (λ k. i < k) (sym (length-set zs j z)) l, get_other zs j i z (λ q. omega arith) ∙ e, stand_other us zs (suc i) j z (inl (omega arith)) h)
stand_other (u ∷ us) zs i j z (inr d) (l, e, h) = (subst (λ k. i < k) (sym (length-set zs j z)) l, get_other zs j i z (λ q. omega arith) ∙ e, stand_other us zs (suc i) j z (inr (omega arith)) h)

pub stand_at : (us : List ℤ) (i : ℕ) (s : State) → Stand s.places i us → AreAt s i us
stand_at [] i s h = tt
stand_at (u ∷ us) i s (l, e, h) = (l, e, stand_at us (suc i) s h)

-- others for as many of them
put_between : (us ws pre junk zs : List ℤ) (k : ℕ) → zs ≡ pre ++ (ws ++ junk) → k ≡ length pre → length us ≡ length ws → set_places zs k us ≡ pre ++ (us ++ junk)
put_between us ws pre junk zs k e f l =
    let long = length-append ws junk in
    put_seam us pre (ws ++ junk) zs k e f (omega arith)
    ∙ (ap (λ n. (pre ++ us) ++ drop n (ws ++ junk)) l
    ∙ (ap (λ p. (pre ++ us) ++ p) (drop-append_seam ws junk) ∙ append_assoc pre us junk))

-- ---- locals

-- where the ints of a local stand among those of all
pub record LocalParts (ls : List Value) (x : ℕ) (v : Value) : Type 0 where
  pub front : List ℤ
  pub back : List ℤ
  pub is_place : local_place (types_of ls) x ≡ length front
  pub parts : local_ints ls ≡ front ++ (value_ints v ++ back)
  pub changed : (w : Value) → local_ints (slice_set ls x w) ≡ front ++ (value_ints w ++ back)

pub local_parts : (ls : List Value) (x : ℕ) (v : Value) → slice_get ls x ≡ Some v → LocalParts ls x v
local_parts [] x v e = absurd cc
local_parts (u ∷ ls) zero v e =
    let same : u ≡ v = cc in
    record { front = []; back = local_ints ls; is_place = refl; parts = ap (λ (w : Value). value_ints w ++ local_ints ls) same; changed = λ w. refl }
local_parts (u ∷ ls) (suc x) v e =
    let n = local_parts ls x v e in
    let long = length-append (value_ints u) n.front in
    let wide = value_length u in
    let below = n.is_place in
    record {
      front = value_ints u ++ n.front;
      back = n.back;
      is_place = let y : width (const_type u) + local_place (types_of ls) x ≡ length (value_ints u ++ n.front) = omega arith in y;
      parts = ap (λ l. value_ints u ++ l) n.parts ∙ sym (append_assoc (value_ints u) n.front (value_ints v ++ n.back));
      changed = λ w. ap (λ l. value_ints u ++ l) (n.changed w) ∙ sym (append_assoc (value_ints u) n.front (value_ints w ++ n.back));
    }

-- ---- what a frame shows

module _ (size : ℕ) (ls : List Value) where
  -- all operands have their places
  pub frame_top : (os : List Value) (zs : List ℤ) → Frame size ls os zs → top_of ls os ≤ length zs
  frame_top os zs f =
      let e : length zs ≡ length ((local_ints ls ++ stack_ints os) ++ f.junk) = ap length f.held in
      let g = length-append (local_ints ls ++ stack_ints os) f.junk in
      let h = held_length ls os in
      omega arith

  pub frame_same : (os : List Value) (zs ys : List ℤ) → ys ≡ zs → Frame size ls os zs → Frame size ls os ys
  frame_same os zs ys e f = record { junk = f.junk; held = e ∙ f.held; sized = ap length e ∙ f.sized }

  -- operands less
  pub frame_drop : (us os : List Value) (zs : List ℤ) → Frame size ls (us ++ os) zs → Frame size ls os zs
  frame_drop us os zs f = record {
    junk = stack_ints us ++ f.junk;
    held = f.held ∙ ap (λ l. (local_ints ls ++ l) ++ f.junk) (stack_append us os) ∙ ap (λ l. l ++ f.junk) (sym (append_assoc (local_ints ls) (stack_ints os) (stack_ints us))) ∙ append_assoc (local_ints ls ++ stack_ints os) (stack_ints us) f.junk;
    sized = f.sized;
  }

  pub frame_pop : (v : Value) (os : List Value) (zs : List ℤ) → Frame size ls (v ∷ os) zs → Frame size ls os zs
  frame_pop v os zs f = frame_drop (v ∷ []) os zs f

  -- the last operand, seen from the front
  last_seam : (z : ℤ) (os : List Value) (zs : List ℤ) → (f : Frame size ls (values.I32 z ∷ os) zs) → zs ≡ (local_ints ls ++ stack_ints os) ++ (z ∷ f.junk)
  last_seam z os zs f = f.held ∙ ap (λ l. l ++ f.junk) (sym (append_assoc (local_ints ls) (stack_ints os) (z ∷ []))) ∙ append_assoc (local_ints ls ++ stack_ints os) (z ∷ []) f.junk

  -- the last operand stands in its place
  pub frame_last : (z : ℤ) (os : List Value) (zs : List ℤ) → Frame size ls (values.I32 z ∷ os) zs → (slice_index_or zs (top_of ls os) (pos 0) ≡ z) × (top_of ls os < length zs)
  frame_last z os zs f =
      (get_seam (local_ints ls ++ stack_ints os) f.junk zs z (top_of ls os) (last_seam z os zs f) (sym (held_length ls os)), let l = frame_top (values.I32 z ∷ os) zs f in omega arith)

  pub frame_last_long : (z : ℤ) (os : List Value) (zs : List ℤ) → Frame size ls (values.I64 z ∷ os) zs
      → (slice_index_or zs (top_of ls os) (pos 0) ≡ int_wrap w32 z) × (slice_index_or zs (suc (top_of ls os)) (pos 0) ≡ high_half z) × (suc (top_of ls os) < length zs)
  frame_last_long z os zs f =
      let pre : List ℤ = local_ints ls ++ stack_ints os in
      let low : ℤ = int_wrap w32 z in
      let seam : zs ≡ pre ++ (low ∷ (high_half z ∷ f.junk)) =
      f.held ∙ ap (λ l. l ++ f.junk) (sym (append_assoc (local_ints ls) (stack_ints os) (low ∷ (high_half z ∷ [])))) ∙ append_assoc pre (low ∷ (high_half z ∷ [])) f.junk
      in
      let h = held_length ls os in
      let m = one_more pre low in
      let l = frame_top (values.I64 z ∷ os) zs f in
      (get_seam pre (high_half z ∷ f.junk) zs low (top_of ls os) seam (sym h), get_seam (pre ++ (low ∷ [])) f.junk zs (high_half z) (suc (top_of ls os)) (seam ∙ shift_one pre low (high_half z ∷ f.junk)) (omega arith), omega arith)

  -- one more operand
  pub frame_push : (v : Value) (os : List Value) (zs : List ℤ) → Frame size ls os zs → top_of ls (v ∷ os) ≤ size → Frame size ls (v ∷ os) (set_places zs (top_of ls os) (value_ints v))
  frame_push v os zs f l =
      let e : length zs ≡ length ((local_ints ls ++ stack_ints os) ++ f.junk) = ap length f.held in
      let g = length-append (local_ints ls ++ stack_ints os) f.junk in
      let h = held_length ls os in
      let w = value_length v in
      let sized = f.sized in
      record {
        junk = drop (length (value_ints v)) f.junk;
        held = put_seam (value_ints v) (local_ints ls ++ stack_ints os) f.junk zs (top_of ls os) f.held (sym h) (omega arith) ∙ ap (λ l. l ++ drop (length (value_ints v)) f.junk) (append_assoc (local_ints ls) (stack_ints os) (value_ints v));
        sized = put_length (value_ints v) zs (top_of ls os) ∙ f.sized;
      }

  -- another one in the place of the last operand
  pub frame_swap : (u v : Value) (os : List Value) (zs : List ℤ) → const_type v ≡ const_type u → Frame size ls (u ∷ os) zs → Frame size ls (v ∷ os) (set_places zs (top_of ls os) (value_ints v))
  frame_swap u v os zs e f =
      let l = frame_top (u ∷ os) zs f in
      let sized = f.sized in
      let same : width (const_type v) ≡ width (const_type u) = ap width e in
      frame_push v os zs (frame_pop u os zs f) (omega arith)

  -- the last operands stand in their places
  pub frame_stand : (us os : List Value) (zs : List ℤ) → Frame size ls (us ++ os) zs → Stand zs (top_of ls os) (stack_ints us)
  frame_stand us os zs f =
      stand_seam (stack_ints us) (local_ints ls ++ stack_ints os) f.junk zs (top_of ls os)
      (f.held ∙ (ap (λ l. (local_ints ls ++ l) ++ f.junk) (stack_append us os)
      ∙ (ap (λ l. l ++ f.junk) (sym (append_assoc (local_ints ls) (stack_ints os) (stack_ints us))) ∙ append_assoc (local_ints ls ++ stack_ints os) (stack_ints us) f.junk)))
      (sym (held_length ls os))

  -- a local stands in its places
  local_seam : (x : ℕ) (v : Value) (os : List Value) (zs : List ℤ) → (f : Frame size ls os zs) → (p : LocalParts ls x v) → zs ≡ p.front ++ (value_ints v ++ (p.back ++ (stack_ints os ++ f.junk)))
  local_seam x v os zs f p =
      f.held
      ∙ (append_assoc (local_ints ls) (stack_ints os) f.junk
      ∙ (ap (λ l. l ++ (stack_ints os ++ f.junk)) p.parts
      ∙ (append_assoc p.front (value_ints v ++ p.back) (stack_ints os ++ f.junk) ∙ ap (λ l. p.front ++ l) (append_assoc (value_ints v) p.back (stack_ints os ++ f.junk)))))

  pub frame_local : (x : ℕ) (v : Value) (os : List Value) (zs : List ℤ) → Frame size ls os zs → slice_get ls x ≡ Some v → Stand zs (local_place (types_of ls) x) (value_ints v)
  frame_local x v os zs f e =
      let p = local_parts ls x v e in
      stand_seam (value_ints v) p.front (p.back ++ (stack_ints os ++ f.junk)) zs (local_place (types_of ls) x) (local_seam x v os zs f p) p.is_place

  -- below the operands
  pub local_within : (x : ℕ) (v : Value) → slice_get ls x ≡ Some v → local_place (types_of ls) x + width (const_type v) ≤ widths (types_of ls)
  local_within x v e =
      let p = local_parts ls x v e in
      let long : length (local_ints ls) ≡ length (p.front ++ (value_ints v ++ p.back)) = ap length p.parts in
      let a = length-append p.front (value_ints v ++ p.back) in
      let b = length-append (value_ints v) p.back in
      let c = local_length ls in
      let d = value_length v in
      let is = p.is_place in
      omega arith

  -- another local
  pub frame_local_set : (x : ℕ) (u v : Value) (os : List Value) (zs : List ℤ) → Frame size ls os zs → slice_get ls x ≡ Some u → const_type v ≡ const_type u
      → Frame size (slice_set ls x v) os (set_places zs (local_place (types_of ls) x) (value_ints v))
  frame_local_set x u v os zs f e k =
      let p = local_parts ls x u e in
      let rest : List ℤ = stack_ints os ++ f.junk in
      let same : length (value_ints v) ≡ length (value_ints u) = value_length v ∙ (ap width k ∙ sym (value_length u)) in
      record {
        junk = f.junk;
        held = put_between (value_ints v) (value_ints u) p.front (p.back ++ rest) zs (local_place (types_of ls) x) (local_seam x u os zs f p) p.is_place same
            ∙ (ap (λ l. p.front ++ l) (sym (append_assoc (value_ints v) p.back rest))
            ∙ (sym (append_assoc p.front (value_ints v ++ p.back) rest)
            ∙ (ap (λ l. l ++ rest) (sym (p.changed v)) ∙ sym (append_assoc (local_ints (slice_set ls x v)) (stack_ints os) f.junk))));
        sized = put_length (value_ints v) zs (local_place (types_of ls) x) ∙ f.sized;
      }

-- ---- upper and lower operands

module _ (size : ℕ) (ls us low : List Value) (zs : List ℤ) (f : Frame size ls (us ++ low) zs) where
  upper_seam : zs ≡ (local_ints ls ++ stack_ints low) ++ (stack_ints us ++ f.junk)
  upper_seam =
      f.held
      ∙ (ap (λ l. (local_ints ls ++ l) ++ f.junk) (stack_append us low)
      ∙ (ap (λ l. l ++ f.junk) (sym (append_assoc (local_ints ls) (stack_ints low) (stack_ints us))) ∙ append_assoc (local_ints ls ++ stack_ints low) (stack_ints us) f.junk))

  -- the locals and the lower operands are the first places
  pub frame_lower : take (top_of ls low) zs ≡ local_ints ls ++ stack_ints low
  frame_lower =
      let pre : List ℤ = local_ints ls ++ stack_ints low in
      ap (λ j. take j zs) (sym (held_length ls low)) ∙ (ap (λ l. take (length pre) l) upper_seam ∙ take-append_seam pre (stack_ints us ++ f.junk))

  -- and the upper ones stand above them
  pub frame_upper : take (widths (types_of us)) (drop (top_of ls low) zs) ≡ stack_ints us
  frame_upper =
      let pre : List ℤ = local_ints ls ++ stack_ints low in
      ap (λ j. take (widths (types_of us)) (drop j zs)) (sym (held_length ls low))
      ∙ (ap (λ l. take (widths (types_of us)) (drop (length pre) l)) upper_seam
      ∙ (ap (λ l. take (widths (types_of us)) l) (drop-append_seam pre (stack_ints us ++ f.junk))
      ∙ (ap (λ j. take j (stack_ints us ++ f.junk)) (sym (stack_length us)) ∙ take-append_seam (stack_ints us) f.junk)))

-- ---- numbers that move down

-- so many numbers from one place on, to the places from another one on
abbrev pub moved : ℕ → ℕ → ℕ → List ℤ → List ℤ
moved zero from to zs = zs
moved (suc n) from to zs = moved n (suc from) (suc to) (slice_set zs to (slice_index_or zs from (pos 0)))

moved_length : (n from to : ℕ) (zs : List ℤ) → length (moved n from to zs) ≡ length zs
moved_length zero from to zs = refl
moved_length (suc n) from to zs = moved_length n (suc from) (suc to) (slice_set zs to (slice_index_or zs from (pos 0))) ∙ length-set zs to (slice_index_or zs from (pos 0))

moved_seam : (us pre mid junk zs : List ℤ) (from to : ℕ) → from ≡ length pre + length mid → to ≡ length pre → zs ≡ pre ++ (mid ++ (us ++ junk)) → (rest : List ℤ) × (moved (length us) from to zs ≡ (pre ++ us) ++ rest)
moved_seam [] pre mid junk zs from to e f g = (mid ++ junk, g ∙ ap (λ p. p ++ (mid ++ junk)) (sym (append-nil pre)))
moved_seam (u ∷ us) pre [] junk zs from to e f g =
    let read : slice_index_or zs from (pos 0) ≡ u = get_seam pre (us ++ junk) zs u from g (omega arith) in
    let written : slice_set zs to (slice_index_or zs from (pos 0)) ≡ (pre ++ (u ∷ [])) ++ (us ++ junk) = ap (λ y. slice_set zs to y) read ∙ set_seam pre (us ++ junk) zs u u to g f ∙ shift_one pre u (us ++ junk) in
    let m = one_more pre u in
    let n = moved_seam us (pre ++ (u ∷ [])) [] junk (slice_set zs to (slice_index_or zs from (pos 0))) (suc from) (suc to) (omega arith) (omega arith) written in
    (n.0, n.1 ∙ ap (λ p. p ++ n.0) (append_assoc pre (u ∷ []) us))
moved_seam (u ∷ us) pre (x ∷ mid) junk zs from to e f g =
    let whole : zs ≡ (pre ++ (x ∷ mid)) ++ (u ∷ (us ++ junk)) = g ∙ sym (append_assoc pre (x ∷ mid) (u ∷ (us ++ junk))) in
    let long = length-append pre (x ∷ mid) in
    let read : slice_index_or zs from (pos 0) ≡ u = get_seam (pre ++ (x ∷ mid)) (us ++ junk) zs u from whole (omega arith) in
    let written : slice_set zs to (slice_index_or zs from (pos 0)) ≡ (pre ++ (u ∷ [])) ++ ((mid ++ (u ∷ [])) ++ (us ++ junk)) =
    ap (λ y. slice_set zs to y) read ∙ set_seam pre (mid ++ (u ∷ (us ++ junk))) zs x u to g f ∙ shift_one pre u (mid ++ (u ∷ (us ++ junk))) ∙ ap (λ l. (pre ++ (u ∷ [])) ++ l) (shift_one mid u (us ++ junk))
    in
    let m = one_more pre u in
    let k = one_more mid u in
    let n = moved_seam us (pre ++ (u ∷ [])) (mid ++ (u ∷ [])) junk (slice_set zs to (slice_index_or zs from (pos 0))) (suc from) (suc to) (omega arith) (omega arith) written in
    (n.0, n.1 ∙ ap (λ p. p ++ n.0) (append_assoc pre (u ∷ []) us))

-- numbers that stand apart from where they come to
pub moved_stand : (us zs : List ℤ) (from to : ℕ) → (to + length us ≤ from) ⊎ (from + length us ≤ to) → Stand zs from us → moved (length us) from to zs ≡ set_places zs to us
moved_stand [] zs from to d h = refl
moved_stand (u ∷ us) zs from to (inl d) (l, e, h) =
    ap (λ y. moved (length us) (suc from) (suc to) (slice_set zs to y)) e
    ∙ moved_stand us (slice_set zs to u) (suc from) (suc to) (inl (omega arith)) (stand_other us zs (suc from) to u (inl (omega arith)) h)
moved_stand (u ∷ us) zs from to (inr d) (l, e, h) =
    ap (λ y. moved (length us) (suc from) (suc to) (slice_set zs to y)) e
    ∙ moved_stand us (slice_set zs to u) (suc from) (suc to) (inr (omega arith)) (stand_other us zs (suc from) to u (inr (omega arith)) h)

regrouped : (p q u v w : List ℤ) → (p ++ ((q ++ u) ++ v)) ++ w ≡ (p ++ q) ++ (u ++ (v ++ w))
regrouped p q u v w = simp append_assoc

-- the last operands go down over those between them and the lowest ones
pub frame_moved : (size : ℕ) (ls us mid low : List Value) (zs : List ℤ) → Frame size ls (us ++ (mid ++ low)) zs → Frame size ls (us ++ low) (moved (widths (types_of us)) (top_of ls (mid ++ low)) (top_of ls low) zs)
frame_moved size ls us mid low zs f =
    let parts : stack_ints (us ++ (mid ++ low)) ≡ (stack_ints low ++ stack_ints mid) ++ stack_ints us = stack_append us (mid ++ low) ∙ ap (λ l. l ++ stack_ints us) (stack_append mid low) in
    let whole : zs ≡ (local_ints ls ++ stack_ints low) ++ (stack_ints mid ++ (stack_ints us ++ f.junk)) =
    f.held ∙ ap (λ l. (local_ints ls ++ l) ++ f.junk) parts ∙ regrouped (local_ints ls) (stack_ints low) (stack_ints mid) (stack_ints us) f.junk
    in
    let a = held_length ls low in
    let b = held_length ls (mid ++ low) in
    let c = stack_length mid in
    let d = ap widths (types_append mid low) in
    let e = widths_append (types_of mid) (types_of low) in
    let n = moved_seam (stack_ints us) (local_ints ls ++ stack_ints low) (stack_ints mid) f.junk zs (top_of ls (mid ++ low)) (top_of ls low) (omega arith) (omega arith) whole in
    record {
      junk = n.0;
      held = ap (λ k. moved k (top_of ls (mid ++ low)) (top_of ls low) zs) (sym (stack_length us)) ∙ n.1 ∙ ap (λ l. l ++ n.0) (append_assoc (local_ints ls) (stack_ints low) (stack_ints us) ∙ ap (λ l. local_ints ls ++ l) (sym (stack_append us low)));
      sized = moved_length (widths (types_of us)) (top_of ls (mid ++ low)) (top_of ls low) zs ∙ f.sized;
    }
