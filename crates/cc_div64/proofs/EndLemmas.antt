-- Eight turns more, and the end.
use Rattle.std.proofs.Common.{◌≡◌, ℕ, zero, suc, ◌+◌, ◌-◌, ◌*◌, ◌/◌, ◌%◌, ◌<◌, ◌≤◌, [], ◌∷◌, length, ℤ, pos, ◌-ℤ◌, Option, Some, Bool, true, false, refl, sym, ap, ◌∙◌, subst, arith, codes}
use Rattle.std.proofs.lemmas.Int.{ints}
use Rattle.std.proofs.lemmas.List.{length-set}
use Rattle.std.specs.Prelude.{slice_set}
use Rattle.std.specs.Int.{w64, cast_signed}
use Rattle.mc_nbt.specs.declared.value.Value.TheVariants as values
use Rattle.mc_cmd.specs.Form.{Text}
use Rattle.mc_cmd.specs.Pack.{high_half}
use Rattle.mc_cmd.specs.Command.{exactly}
use Rattle.mc_cmd.specs.World.{wrapped, some_is_in}
use Rattle.wm_ast.specs.declared.operator.BinaryOp.{BinaryOp}
use Rattle.wm_ast.specs.declared.operator.BinaryOp.TheVariants.{DivS, DivU, RemS, RemU}
use Rattle.wm_ast.specs.Operator.{divides}
use Rattle.cc_line.specs.Key.{is_work}
use Rattle.cc_line.specs.Place.{scratch}
use Rattle.cc_line.specs.State.{State, with_place, with_score}
use Rattle.cc_line.specs.Step.{decrease, keep_place, run_act, with_kept, flow, step_weight}
use Rattle.cc_line.specs.Item.{Items, no_more, first, step_item, join, steps_items}
use Rattle.cc_line.specs.Routine.{Gives, value_ints}
use Rattle.cc_line.proofs.RunLemmas.{Leads, leads_none, leads_first, leads_join}
use Rattle.cc_line.proofs.SettleLemmas.{score_kept}
use Rattle.cc_line.proofs.Words.{unwrapped_pos}
use Rattle.cc_div64.specs.Turn.{Turn, After}
use Rattle.cc_div64.specs.Division.{score_left, dividend_low, dividend_high, minus_steps, minus_dividend, is_negated, keep_steps, take_remainder, turns_items, end_items}
use Rattle.cc_div64.specs.Law.{low_word, high_word, minus, signed_by, Signed, Dividing, Divides}
use Rattle.cc_line.proofs.Longs as longs
use Rattle.cc_div64.proofs.Turning.{turned, turns, turns_after, ends}
use Rattle.cc_div64.proofs.TurnLines.{Scores, turn_scores}
use Rattle.cc_div64.proofs.TurnLemmas.{Held, with_held, held_here, turned_below, calls_go}
use Rattle.cc_div64.proofs.MinusLemmas.{Words, minus_dividend_goes}
use Rattle.cc_div64.proofs.Passing.{Goes, goes_none, goes_join, goes_steps, goes_when, goes_so}

-- the scores of a division, by their numbers
held_of : (op : BinaryOp) (z : ℤ) (left : ℕ) (s : State) (d : Dividing op z left s) → Held (low_word d.divisor) (high_word d.divisor) (turn_scores d.turn) (Some (pos left)) (s.scores (codes "#s")) s
held_of op z left s d = record {
  dl = d.standing.dividend_low;
  dh = d.standing.dividend_high;
  rl = d.standing.remainder_low;
  rh = d.standing.remainder_high;
  bl' = d.standing.divisor_low;
  bh' = d.standing.divisor_high;
  bf = d.standing.order_low;
  bg = d.standing.order_high;
  mn = d.standing.least;
  left = d.told;
  sign = refl;
}

-- the sign is told by its score
pub signed_same : (op : BinaryOp) (b : Bool) (s t : State) → t.scores (codes "#s") ≡ s.scores (codes "#s") → Signed op b s → Signed op b t
signed_same DivS b s t e k = ap (some_is_in (exactly (pos 1))) e ∙ k
signed_same RemS b s t e k = ap (some_is_in (exactly (pos 1))) e ∙ k
signed_same _ b s t e k = k

-- ---- turns

turns_below : (k v : ℕ) (t : Turn) → t.dividend < 18446744073709551616 → t.remainder < v → (turns k v t).dividend < 18446744073709551616
turns_below zero v t d r = d
turns_below (suc k) v t d r = let b = turned_below v t d r in turns_below k v (turned v t) b.0 b.1

-- one run less
counted_down : (bl bh : ℤ) (t : Scores) (left : ℕ) (o : Option ℤ) (s : State) → left < 8 → Held bl bh t (Some (pos (suc left))) o s
    → Goes (first (step_item (run_act (decrease (scratch score_left) 1))) no_more) s (Held bl bh t (Some (pos left)) o)
counted_down bl bh t left o s l h =
    let e : wrapped (pos (suc left) -ℤ pos 1) ≡ pos left = (let m : pos (suc left) -ℤ pos 1 ≡ pos left = omega (arith, ints) in ap wrapped m) ∙ unwrapped_pos left (omega arith) in
    let u : State = with_score s (codes "#g") (pos (suc left)) in
    subst (λ x. Goes (first (step_item (run_act (decrease (scratch score_left) 1))) no_more) x (Held bl bh t (Some (pos left)) o)) (score_kept s (codes "#g") (pos (suc left)) h.left)
    (goes_steps (run_act (decrease (scratch score_left) 1) ∷ []) u (Held bl bh t (Some (pos left)) o) refl refl refl
    (record { dl = h.dl; dh = h.dh; rl = h.rl; rh = h.rh; bl' = h.bl'; bh' = h.bh'; bf = h.bf; bg = h.bg; mn = h.mn; left = ap Some e; sign = h.sign }))

pub turns_go_on : (op : BinaryOp) (z : ℤ) (left : ℕ) (s : State) → Dividing op z (suc left) s → Divides turns_items s op z left
turns_go_on op z left s d =
    let n : ℕ = d.number in
    let v : ℕ = d.divisor in
    let l : left < 8 = omega (arith, d.few) in
    let a1 : After n v (8 + 8 * left) (64 - 8 * suc left) d.turn = subst (λ j. After n v j (64 - 8 * suc left) d.turn) (omega arith) d.after in
    let a2 : After n v (8 * left) (8 + (64 - 8 * suc left)) (turns 8 v d.turn) = turns_after 8 n v (8 * left) (64 - 8 * suc left) d.turn (omega arith) a1 in
    let a3 : After n v (8 * left) (64 - 8 * left) (turns 8 v d.turn) = subst (λ x. After n v (8 * left) x (turns 8 v d.turn)) (omega arith) a2 in
    let o : Option ℤ = s.scores (codes "#s") in
    let g : Goes turns_items s (Held (low_word v) (high_word v) (turn_scores (turns 8 v d.turn)) (Some (pos left)) o) =
    calls_go 8 v d.turn (Some (pos (suc left))) o s (first (step_item (run_act (decrease (scratch score_left) 1))) no_more) (Held (low_word v) (high_word v) (turn_scores (turns 8 v d.turn)) (Some (pos left)) o) d.bounded d.wide d.after.below (held_of op z (suc left) s d)
    (λ u h. counted_down (low_word v) (high_word v) (turn_scores (turns 8 v d.turn)) left o u l h) in
    record {
      ready = g.leads.ready;
      state = g.state;
      used = g.leads.used;
      ends = g.leads.ends;
      dividing = record {
        number = n;
        divisor = v;
        negated = d.negated;
        turn = turns 8 v d.turn;
        told = g.holds.left;
        few = omega arith;
        after = a3;
        bounded = d.bounded;
        wide = turns_below 8 v d.turn d.wide d.after.below;
        standing = record {
          dividend_low = g.holds.dl;
          dividend_high = g.holds.dh;
          remainder_low = g.holds.rl;
          remainder_high = g.holds.rh;
          divisor_low = g.holds.bl';
          divisor_high = g.holds.bh';
          order_low = g.holds.bf;
          order_high = g.holds.bg;
          least = g.holds.mn;
        };
        signed = signed_same op d.negated s g.state g.holds.sign d.signed;
        answer = d.answer;
      };
      replaced = record { places = g.beside.places; keys = λ r k e. ap (λ m. m r k) g.beside.keys; scores = λ h c w. g.beside.scores h w };
    }

-- ---- the end

-- two words in their scores
abbrev AreIn : Text → Text → ℤ → ℤ → State → Type 0
AreIn l h x y u = (u.scores l ≡ Some x) × (u.scores h ≡ Some y)

-- kept in the places from one on
kept : (a : ℕ) (l h : Text) (xs : Items) (s : State) (x y : ℤ) → a + 2 ≤ length s.places → Goes xs s (AreIn l h x y) → Gives (join xs (steps_items (keep_steps a l h))) s a (x ∷ (y ∷ []))
kept a l h xs s x y n f =
    let t : State = f.state in
    let n1 : a + 2 ≤ length t.places = subst (λ zs. a + 2 ≤ length zs) (sym f.beside.places) n in
    let u : State = with_place t a x in
    let v : State = with_place u (a + 1) y in
    let n2 : a + 1 < length u.places = subst (λ m. a + 1 < m) (sym (length-set t.places a x)) (omega arith) in
    let k : Leads (steps_items (keep_steps a l h)) t v =
    leads_first (step_item (run_act (keep_place a l))) t _ u v (step_weight (run_act (keep_place a l))) (omega arith) (ap (λ o. flow false (with_kept t a o) (step_weight (run_act (keep_place a l)))) f.holds.0)
    (leads_first (step_item (run_act (keep_place (a + 1) h))) u no_more v v (step_weight (run_act (keep_place (a + 1) h))) n2 (ap (λ o. flow false (with_kept u (a + 1) o) (step_weight (run_act (keep_place (a + 1) h)))) f.holds.1)
    (leads_none v)) in
    let g : Leads (join xs (steps_items (keep_steps a l h))) s v = leads_join xs (steps_items (keep_steps a l h)) s t v f.leads k in
    record {
      ready = g.ready;
      state = v;
      used = g.used;
      ends = g.ends;
      replaced = record {
        places = ap (λ zs. slice_set (slice_set zs a x) (a + 1) y) f.beside.places ∙ ap (λ i. slice_set (slice_set s.places a x) i y) (let e : a + 1 ≡ suc a = omega arith in e);
        keys = λ r c e. ap (λ m. m r c) f.beside.keys;
        scores = λ c e w. f.beside.scores c w;
      };
    }

-- the ints of the number that a division gives
answered : (xs : Items) (s : State) (a i : ℕ) (z : ℤ) → i < 18446744073709551616 → cast_signed w64 i ≡ z → Gives xs s a (low_word i ∷ (high_word i ∷ [])) → Gives xs s a (value_ints (values.I64 z))
answered xs s a i z h e f =
    subst (λ x. Gives xs s a (value_ints (values.I64 x))) e
    (subst (λ x. Gives xs s a (x ∷ (high_half (cast_signed w64 i) ∷ []))) (sym (longs.low_word i h))
    (subst (λ x. Gives xs s a (low_word i ∷ (x ∷ []))) (sym (longs.high_word i h)) f))

signed_below : (b : Bool) (i : ℕ) → i < 18446744073709551616 → signed_by b i < 18446744073709551616
signed_below true i h = omega arith
signed_below false i h = h

-- negated where the sign says so
negated_goes : (i v : ℕ) (o : Option ℤ) (b : Bool) (s : State) → i < 18446744073709551616 → some_is_in (exactly (pos 1)) o ≡ b → Words i v o s → Goes (minus_dividend is_negated) s (AreIn (codes "#d") (codes "#e") (low_word (signed_by b i)) (high_word (signed_by b i)))
negated_goes i v o b s h e w =
    goes_when is_negated (codes "h_cc_div_minus") (steps_items (minus_steps dividend_low dividend_high)) s (AreIn (codes "#d") (codes "#e") (low_word (signed_by b i)) (high_word (signed_by b i))) b (tt, tt)
    (ap (some_is_in (exactly (pos 1))) w.sign ∙ e)
    (λ t. goes_so (steps_items (minus_steps dividend_low dividend_high)) s (Words (minus i) v o) (AreIn (codes "#d") (codes "#e") (low_word (signed_by b i)) (high_word (signed_by b i)))
    (minus_dividend_goes i v o s h w) (λ u x. subst (λ c. AreIn (codes "#d") (codes "#e") (low_word (signed_by c i)) (high_word (signed_by c i)) u) (sym t) (x.dl, x.dh)))
    (λ t. subst (λ c. AreIn (codes "#d") (codes "#e") (low_word (signed_by c i)) (high_word (signed_by c i)) s) (sym t) (w.dl, w.dh))

module _ (z : ℤ) (a : ℕ) (s : State) (n : a + 2 ≤ length s.places) where
  quotient_is : (op : BinaryOp) (d : Dividing op z 0 s) → d.turn.dividend ≡ d.number / d.divisor
  quotient_is op d = (ends d.number d.divisor d.turn d.after).0

  remainder_is : (op : BinaryOp) (d : Dividing op z 0 s) → d.turn.remainder ≡ d.number % d.divisor
  remainder_is op d = (ends d.number d.divisor d.turn d.after).1

  remainder_below : (op : BinaryOp) (d : Dividing op z 0 s) → d.turn.remainder < 18446744073709551616
  remainder_below op d = omega (arith, d.after.below, d.bounded)

  div_u_ends : Dividing DivU z 0 s → Gives (end_items DivU a) s a (value_ints (values.I64 z))
  div_u_ends d =
      answered (end_items DivU a) s a d.turn.dividend z d.wide (ap (λ i. cast_signed w64 i) (quotient_is DivU d) ∙ ap (λ b. cast_signed w64 (signed_by b (d.number / d.divisor))) (sym d.signed) ∙ d.answer)
      (kept a (codes "#d") (codes "#e") no_more s (low_word d.turn.dividend) (high_word d.turn.dividend) n (goes_none s (AreIn (codes "#d") (codes "#e") (low_word d.turn.dividend) (high_word d.turn.dividend)) (d.standing.dividend_low, d.standing.dividend_high)))

  rem_u_ends : Dividing RemU z 0 s → Gives (end_items RemU a) s a (value_ints (values.I64 z))
  rem_u_ends d =
      answered (end_items RemU a) s a d.turn.remainder z (remainder_below RemU d) (ap (λ i. cast_signed w64 i) (remainder_is RemU d) ∙ ap (λ b. cast_signed w64 (signed_by b (d.number % d.divisor))) (sym d.signed) ∙ d.answer)
      (kept a (codes "#p") (codes "#r") no_more s (low_word d.turn.remainder) (high_word d.turn.remainder) n (goes_none s (AreIn (codes "#p") (codes "#r") (low_word d.turn.remainder) (high_word d.turn.remainder)) (d.standing.remainder_low, d.standing.remainder_high)))

  div_s_ends : Dividing DivS z 0 s → Gives (end_items DivS a) s a (value_ints (values.I64 z))
  div_s_ends d =
      let i : ℕ = d.turn.dividend in
      let b : Bool = d.negated in
      answered (end_items DivS a) s a (signed_by b i) z (signed_below b i d.wide) (ap (λ i. cast_signed w64 (signed_by b i)) (quotient_is DivS d) ∙ d.answer)
      (kept a (codes "#d") (codes "#e") (minus_dividend is_negated) s (low_word (signed_by b i)) (high_word (signed_by b i)) n
      (negated_goes i d.divisor (s.scores (codes "#s")) b s d.wide d.signed
      (record { dl = d.standing.dividend_low; dh = d.standing.dividend_high; bl = d.standing.divisor_low; bh = d.standing.divisor_high; sign = refl })))

  rem_s_ends : Dividing RemS z 0 s → Gives (end_items RemS a) s a (value_ints (values.I64 z))
  rem_s_ends d =
      let i : ℕ = d.turn.remainder in
      let v : ℕ = d.divisor in
      let b : Bool = d.negated in
      let o : Option ℤ = s.scores (codes "#s") in
      let P : (State → Type 0) = AreIn (codes "#d") (codes "#e") (low_word (signed_by b i)) (high_word (signed_by b i)) in
      let taken : Goes (steps_items take_remainder) s (Words i v o) =
      subst (λ x. Goes (steps_items take_remainder) x (Words i v o)) (held_here (low_word v) (high_word v) (turn_scores d.turn) (Some (pos 0)) o s (held_of RemS z 0 s d))
      (goes_steps take_remainder (with_held s (low_word v) (high_word v) (turn_scores d.turn)) (Words i v o) refl refl refl (record { dl = refl; dh = refl; bl = refl; bh = refl; sign = refl })) in
      answered (end_items RemS a) s a (signed_by b i) z (signed_below b i (remainder_below RemS d)) (ap (λ i. cast_signed w64 (signed_by b i)) (remainder_is RemS d) ∙ d.answer)
      (kept a (codes "#d") (codes "#e") (join (steps_items take_remainder) (minus_dividend is_negated)) s (low_word (signed_by b i)) (high_word (signed_by b i)) n
      (goes_join (steps_items take_remainder) (minus_dividend is_negated) s (Words i v o) P taken (λ t w. negated_goes i v o b t (remainder_below RemS d) d.signed w)))

pub divisions_end : (op : BinaryOp) → divides op ≡ true → (z : ℤ) (a : ℕ) (s : State) → a + 2 ≤ length s.places → Dividing op z 0 s → Gives (end_items op a) s a (value_ints (values.I64 z))
divisions_end DivS k z a s n d = div_s_ends z a s n d
divisions_end DivU k z a s n d = div_u_ends z a s n d
divisions_end RemS k z a s n d = rem_s_ends z a s n d
divisions_end RemU k z a s n d = rem_u_ends z a s n d
divisions_end _ k z a s n d = absurd cc

-- ---- a division stays while its scores do

pub divisions_stay : (op : BinaryOp) (z : ℤ) (left : ℕ) (s t : State) → ((h : Text) → is_work h ≡ true → t.scores h ≡ s.scores h) → Dividing op z left s → Dividing op z left t
divisions_stay op z left s t f d = record {
  number = d.number;
  divisor = d.divisor;
  negated = d.negated;
  turn = d.turn;
  told = f score_left refl ∙ d.told;
  few = d.few;
  after = d.after;
  bounded = d.bounded;
  wide = d.wide;
  standing = record {
    dividend_low = f (codes "#d") refl ∙ d.standing.dividend_low;
    dividend_high = f (codes "#e") refl ∙ d.standing.dividend_high;
    remainder_low = f (codes "#p") refl ∙ d.standing.remainder_low;
    remainder_high = f (codes "#r") refl ∙ d.standing.remainder_high;
    divisor_low = f (codes "#m") refl ∙ d.standing.divisor_low;
    divisor_high = f (codes "#n") refl ∙ d.standing.divisor_high;
    order_low = f (codes "#u") refl ∙ d.standing.order_low;
    order_high = f (codes "#v") refl ∙ d.standing.order_high;
    least = f (codes "#k") refl ∙ d.standing.least;
  };
  signed = signed_same op d.negated s t (f (codes "#s") refl) d.signed;
  answer = d.answer;
}
