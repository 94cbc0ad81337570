-- The divisions perform what the operators do.
use Rattle.std.proofs.Common.{◌≡◌, ℕ, zero, suc, ◌/◌, ◌%◌, ◌<◌, List, [], ◌∷◌, length, ℤ, pos, negsuc, Option, Some, None, option_and_then, unwrap_or, Bool, true, false, ◌&&◌, ◌==◌, refl, sym, ap, ap₂, ◌∙◌, subst, arith, codes, if◌then◌else◌, zero-lt-suc}
use Rattle.std.specs.Prelude.{slice_set}
use Rattle.std.specs.Int.{w32}
use Rattle.mc_nbt.proofs.TestLemmas.{eq_same}
use Rattle.mc_nbt.specs.declared.value.Kind.TheVariants.{I32}
use Rattle.mc_cmd.specs.Form.{Text}
use Rattle.mc_cmd.specs.Command.{exactly}
use Rattle.mc_cmd.specs.World.{is_in, quotient, rest_by}
use Rattle.wm_ast.specs.declared.answer.TrapKind.{TrapKind}
use Rattle.wm_ast.specs.declared.answer.TrapKind.TheVariants.{DivideByZero, Overflow}
use Rattle.wm_ast.specs.Integer.{Outcome, number, divides_by_zero, overflows, idiv_s, irem_s, idiv_u, irem_u}
use Rattle.wm_ast.specs.Apply.{outcome}
use Rattle.cc_line.specs.Key.{score_trap, is_work}
use Rattle.cc_line.specs.Place.{scratch}
use Rattle.cc_line.specs.State.{State, place_at, with_place, with_score}
use Rattle.cc_line.specs.Step.{set_spot, load_place, keep_place, Cond, Step, run_act, when, stop_when, with_kept, conds_hold, flow, step_weight, CondsReady}
use Rattle.cc_line.specs.Item.{Items, no_more, first, step_item, call_when, join, steps_items}
use Rattle.cc_line.specs.Routine.{trap_number, Gives, Traps, Performs, outcome_of, trap_when}
use Rattle.cc_line.specs.Within.{steps_within}
use Rattle.cc_line.proofs.RunLemmas.{Leads, Halts, leads_none, leads_first, halts_first, halts_here, leads_join, halts_before, straight_leads, called_leads, uncalled_leads}
use Rattle.cc_line.proofs.SettleLemmas.{with_two, works, pinned, settled, settled_straight, settled_beside, settled_places, settled_keys, score_beside, all_hold_is}
use Rattle.cc_line.proofs.Words.{score, by_sign}
use Rattle.cc_i32.specs.Light.{least}
use Rattle.cc_i32.specs.Division.{on_scratch, by_zero, too_great, signed_quotient, signed_rest, div_s, rem_s, high_by_low, high_quotient, high_rest, plain_quotient, plain_rest, unsigned_quotient, unsigned_rest, div_u, rem_u}
use Rattle.cc_i32.proofs.Dividing.{one_more, less_divisor}
use Rattle.cc_i32.proofs.SignedWords.{scored, div_s_word, rem_s_word}
use Rattle.cc_i32.proofs.UnsignedWords.{calls_helper, high_quotient_value, high_rest_value, plain_quotient_value, plain_rest_value, quotient_value, rest_value, quotient_value_is, rest_value_is}

-- ---- traps

abbrev trap_state : State → TrapKind → State
trap_state s k = with_score s score_trap (pos (trap_number k))

passed : (cs : List Cond) (k : TrapKind) (xs : Items) (s t : State) → CondsReady cs s → conds_hold cs s ≡ false → Leads xs s t → Leads (trap_when cs k xs) s t
passed cs k xs s t r e f =
    leads_first (step_item (when cs (set_spot (scratch score_trap) (pos (trap_number k))))) s (first (step_item (stop_when cs)) xs) s t 2 (r, λ q. tt) (ap (λ b. flow false (if b then trap_state s k else s) 2) e)
    (leads_first (step_item (stop_when cs)) s xs s t 2 r (ap (λ b. flow b s 2) e) f)

passed_halts : (cs : List Cond) (k : TrapKind) (xs : Items) (s t : State) → CondsReady cs s → conds_hold cs s ≡ false → Halts xs s t → Halts (trap_when cs k xs) s t
passed_halts cs k xs s t r e f =
    halts_first (step_item (when cs (set_spot (scratch score_trap) (pos (trap_number k))))) s (first (step_item (stop_when cs)) xs) s t 2 (r, λ q. tt) (ap (λ b. flow false (if b then trap_state s k else s) 2) e)
    (halts_first (step_item (stop_when cs)) s xs s t 2 r (ap (λ b. flow b s 2) e) f)

sprung : (cs : List Cond) (k : TrapKind) (xs : Items) (s : State) → CondsReady cs s → conds_hold cs s ≡ true → CondsReady cs (trap_state s k) → conds_hold cs (trap_state s k) ≡ true → Halts (trap_when cs k xs) s (trap_state s k)
sprung cs k xs s r e r' e' =
    halts_first (step_item (when cs (set_spot (scratch score_trap) (pos (trap_number k))))) s (first (step_item (stop_when cs)) xs) (trap_state s k) (trap_state s k) 2 (r, λ q. tt) (ap (λ b. flow false (if b then trap_state s k else s) 2) e)
    (halts_here (step_item (stop_when cs)) (trap_state s k) xs (trap_state s k) 2 r' (ap (λ b. flow b (trap_state s k) 2) e'))

-- nothing but scratch scores of routines differs
record Beside (s t : State) : Type 0 where
  places : t.places ≡ s.places
  keys : t.keys ≡ s.keys
  scores : (h : Text) → is_work h ≡ false → t.scores h ≡ s.scores h

beside_none : (s : State) → Beside s s
beside_none s = record { places = refl; keys = refl; scores = λ h w. refl }

beside_both : (s t u : State) → Beside s t → Beside t u → Beside s u
beside_both s t u f g = record { places = g.places ∙ f.places; keys = g.keys ∙ f.keys; scores = λ h w. g.scores h w ∙ f.scores h w }

settled_is_beside : (xs : List Step) (s : State) → works xs ≡ true → Beside s (settled xs s)
settled_is_beside xs s w = record { places = settled_places xs s; keys = settled_keys xs s; scores = λ h k. settled_beside xs s h w k }

-- steps by computation
settled_leads : (xs : List Step) (s : State) → steps_within 0 xs ≡ true → pinned xs s ≡ true → Leads (steps_items xs) s (settled xs s)
settled_leads xs s w p = straight_leads xs s (settled xs s) (settled_straight xs s w p)

-- ---- from places to `#a` and `#b` and back

module _ (a b r : ℕ) (h : Text) (xs : Items) (s : State) (la : a < length s.places) (lb : b < length s.places) (lr : r < length s.places) where
  abbrev started : State
  started = with_two s (place_at s a) (place_at s b)

  started_scores : (g : Text) → is_work g ≡ false → started.scores g ≡ s.scores g
  started_scores g w = score_beside (with_score s (codes "#a") (place_at s a)) (codes "#b") g (place_at s b) refl w ∙ score_beside s (codes "#a") g (place_at s a) refl w

  gives : (t : State) (z : ℤ) → Leads xs (with_two s (place_at s a) (place_at s b)) t → Beside (with_two s (place_at s a) (place_at s b)) t → t.scores h ≡ Some z → Gives (on_scratch a b r h xs) s r (z ∷ [])
  gives t z f d e =
      let k : Leads (first (step_item (run_act (keep_place r h))) no_more) t (with_place t r z) =
      leads_first (step_item (run_act (keep_place r h))) t no_more (with_place t r z) (with_place t r z) (step_weight (run_act (keep_place r h))) (subst (λ zs. r < length zs) (sym d.places) lr) (ap (λ o. flow false (with_kept t r o) (step_weight (run_act (keep_place r h)))) e) (leads_none (with_place t r z)) in
      let l : Leads (on_scratch a b r h xs) s (with_place t r z) =
      leads_first (step_item (run_act (load_place (codes "#a") a))) s _ (with_score s (codes "#a") (place_at s a)) (with_place t r z) (step_weight (run_act (load_place (codes "#a") a))) la refl
      (leads_first (step_item (run_act (load_place (codes "#b") b))) (with_score s (codes "#a") (place_at s a)) _ started (with_place t r z) (step_weight (run_act (load_place (codes "#b") b))) lb refl
      (leads_join xs (first (step_item (run_act (keep_place r h))) no_more) started t (with_place t r z) f k)) in
      record {
        ready = l.ready;
        state = with_place t r z;
        used = l.used;
        ends = l.ends;
        replaced = record { places = ap (λ zs. slice_set zs r z) d.places; keys = λ i j n. ap (λ m. m i j) d.keys; scores = λ g n w. d.scores g w ∙ started_scores g w };
      }

  traps : (k : TrapKind) → Halts xs (with_two s (place_at s a) (place_at s b)) (trap_state (with_two s (place_at s a) (place_at s b)) k) → Traps (on_scratch a b r h xs) s (trap_number k)
  traps k f =
      let l : Halts (on_scratch a b r h xs) s (trap_state started k) =
      halts_first (step_item (run_act (load_place (codes "#a") a))) s _ (with_score s (codes "#a") (place_at s a)) (trap_state started k) (step_weight (run_act (load_place (codes "#a") a))) la refl
      (halts_first (step_item (run_act (load_place (codes "#b") b))) (with_score s (codes "#a") (place_at s a)) _ started (trap_state started k) (step_weight (run_act (load_place (codes "#b") b))) lb refl
      (halts_before xs (first (step_item (run_act (keep_place r h))) no_more) started (trap_state started k) f)) in
      record {
        ready = l.ready;
        state = trap_state started k;
        used = l.used;
        ends = l.ends;
        recorded = refl;
        places = refl;
        keys = λ i j n. refl;
        scores = λ g n w e. ap (λ b. if b then Some (pos (trap_number k)) else started.scores g) e ∙ started_scores g w;
      }

-- ---- which trap

zero_test : (n : ℕ) → n < 4294967296 → 0 < n → is_in (exactly (pos 0)) (score n) ≡ false
zero_test = by_sign (λ n b. 0 < n → is_in (exactly (pos 0)) b ≡ false) (λ m h p. grind arith) (λ k h p. refl)

least_test : (m : ℕ) → m < 4294967296 → is_in (exactly least) (score m) ≡ (m == 2147483648)
least_test = by_sign (λ m a. is_in (exactly least) a ≡ (m == 2147483648)) (λ m h. grind arith) (λ k h. grind arith)

minus_test : (n : ℕ) → n < 4294967296 → is_in (exactly (negsuc 0)) (score n) ≡ (n == 4294967295)
minus_test = by_sign (λ n b. is_in (exactly (negsuc 0)) b ≡ (n == 4294967295)) (λ m h. grind arith) (λ k h. grind arith)

equal_to : (n k : ℕ) → n ≡ k → (n == k) ≡ true
equal_to n k e = grind arith

-- the lines' numbers, from what they come to where nothing fails
quotient_line : (o p : Option ℤ) (a x y z : ℤ) → option_and_then (λ q. option_and_then (λ m. Some (one_more a m q)) p) o ≡ Some z → one_more a (unwrap_or p x) (unwrap_or o y) ≡ z
quotient_line None p a x y z e = absurd cc
quotient_line (Some q) None a x y z e = absurd cc
quotient_line (Some q) (Some m) a x y z e = cc

rest_line : (p : Option ℤ) (a b x z : ℤ) → option_and_then (λ m. Some (less_divisor a b m)) p ≡ Some z → less_divisor a b (unwrap_or p x) ≡ z
rest_line None a b x z e = absurd cc
rest_line (Some m) a b x z e = cc

module _ (a b r : ℕ) (s : State) (la : a < length s.places) (lb : b < length s.places) (lr : r < length s.places) (m n : ℕ) (hm : m < 4294967296) (hn : n < 4294967296) (ea : place_at s a ≡ score m) (eb : place_at s b ≡ score n) where
  abbrev u : State
  u = with_two s (place_at s a) (place_at s b)

  by_zero_is : conds_hold by_zero u ≡ is_in (exactly (pos 0)) (score n)
  by_zero_is = all_hold_is by_zero u ∙ ap (is_in (exactly (pos 0))) eb

  not_by_zero : 0 < n → conds_hold by_zero u ≡ false
  not_by_zero p = by_zero_is ∙ zero_test n hn p

  zero_traps : (h : Text) (xs : Items) → n ≡ 0 → Traps (on_scratch a b r h (trap_when by_zero DivideByZero xs)) s 2
  zero_traps h xs e =
      let c : conds_hold by_zero u ≡ true = by_zero_is ∙ ap (λ n. is_in (exactly (pos 0)) (score n)) e in
      traps a b r h (trap_when by_zero DivideByZero xs) s la lb lr DivideByZero (sprung by_zero DivideByZero xs u (tt, tt) c (tt, tt) c)

  too_great_is : conds_hold too_great u ≡ (m == 2147483648) && (n == 4294967295)
  too_great_is = all_hold_is too_great u ∙ ap₂ (λ x y. is_in (exactly least) x && is_in (exactly (negsuc 0)) y) ea eb ∙ ap₂ (λ p q. p && q) (least_test m hm) (minus_test n hn)

  -- ---- with sign

  signed : (o : Outcome) → 0 < n → conds_hold too_great u ≡ false → scored o (option_and_then (λ q. option_and_then (λ m'. Some (one_more (score m) m' q)) (rest_by (score m) (score n))) (quotient (score m) (score n)))
      → Performs (div_s a b r) s r (outcome_of (outcome I32 o))
  signed (number q) p g e =
      let v : one_more (place_at s a) (unwrap_or (rest_by (place_at s a) (place_at s b)) (place_at s a)) (unwrap_or (quotient (place_at s a) (place_at s b)) (place_at s a)) ≡ score q =
      ap₂ (λ x y. one_more x (unwrap_or (rest_by x y) x) (unwrap_or (quotient x y) x)) ea eb ∙ quotient_line (quotient (score m) (score n)) (rest_by (score m) (score n)) (score m) (score m) (score m) (score q) e in
      gives a b r (codes "#c") _ s la lb lr (settled signed_quotient u) (score q)
      (passed by_zero DivideByZero _ u (settled signed_quotient u) (tt, tt) (not_by_zero p) (passed too_great Overflow (steps_items signed_quotient) u (settled signed_quotient u) (tt, (tt, tt)) g (settled_leads signed_quotient u refl refl)))
      (settled_is_beside signed_quotient u refl)
      (ap Some v)
  signed divides_by_zero p g e = absurd e
  signed overflows p g e = absurd e

  div_s_positive : 0 < n → Performs (div_s a b r) s r (outcome_of (outcome I32 (idiv_s w32 m n)))
  div_s_positive p = go (m == 2147483648) refl (n == 4294967295) refl
    where
      not_zero : n ≡ 0 → ⊥
      not_zero e = omega arith

      under : conds_hold too_great u ≡ false → (n ≡ 4294967295 → m ≡ 2147483648 → ⊥) → Performs (div_s a b r) s r (outcome_of (outcome I32 (idiv_s w32 m n)))
      under g f = signed (idiv_s w32 m n) p g (div_s_word m n hm hn not_zero f)

      go : (x : Bool) → (m == 2147483648) ≡ x → (y : Bool) → (n == 4294967295) ≡ y → Performs (div_s a b r) s r (outcome_of (outcome I32 (idiv_s w32 m n)))
      go true ex true ey =
          let c : conds_hold too_great u ≡ true = too_great_is ∙ ap₂ (λ x y. x && y) ex ey in
          let o : idiv_s w32 m n ≡ overflows = ap₂ (idiv_s w32) (eq_same m 2147483648 ex) (eq_same n 4294967295 ey) in
          subst (λ o. Performs (div_s a b r) s r (outcome_of (outcome I32 o))) (sym o)
          (traps a b r (codes "#c") _ s la lb lr Overflow (passed_halts by_zero DivideByZero _ u (trap_state u Overflow) (tt, tt) (not_by_zero p) (sprung too_great Overflow (steps_items signed_quotient) u (tt, (tt, tt)) c (tt, (tt, tt)) c)))
      go true ex false ey = under (too_great_is ∙ ap₂ (λ x y. x && y) ex ey) (λ e f. let z : true ≡ false = sym (equal_to n 4294967295 e) ∙ ey in cc)
      go false ex y ey = under (too_great_is ∙ ap (λ x. x && (n == 4294967295)) ex) (λ e f. let z : true ≡ false = sym (equal_to m 2147483648 f) ∙ ex in cc)

  signed_rest_of : (o : Outcome) → 0 < n → scored o (option_and_then (λ m'. Some (less_divisor (score m) (score n) m')) (rest_by (score m) (score n))) → Performs (rem_s a b r) s r (outcome_of (outcome I32 o))
  signed_rest_of (number q) p e =
      let v : less_divisor (place_at s a) (place_at s b) (unwrap_or (rest_by (place_at s a) (place_at s b)) (place_at s a)) ≡ score q =
      ap₂ (λ x y. less_divisor x y (unwrap_or (rest_by x y) x)) ea eb ∙ rest_line (rest_by (score m) (score n)) (score m) (score n) (score m) (score q) e in
      gives a b r (codes "#c") _ s la lb lr (settled signed_rest u) (score q)
      (passed by_zero DivideByZero (steps_items signed_rest) u (settled signed_rest u) (tt, tt) (not_by_zero p) (settled_leads signed_rest u refl refl))
      (settled_is_beside signed_rest u refl)
      (ap Some v)
  signed_rest_of divides_by_zero p e = absurd e
  signed_rest_of overflows p e = absurd e

  rem_s_positive : 0 < n → Performs (rem_s a b r) s r (outcome_of (outcome I32 (irem_s w32 m n)))
  rem_s_positive p = signed_rest_of (irem_s w32 m n) p (rem_s_word m n hm hn (λ e. omega arith))

  -- ---- without sign

  -- where lines lead that leave this in `#d`
  record Found (xs : Items) (z : ℤ) : Type 0 where
    state : State
    leads : Leads xs u state
    beside : Beside u state
    left : state.scores (codes "#d") ≡ Some z

  -- the state behind the plain lines, and the two ways from there
  found : (xs ys : List Step) (f : Text) (high low : ℤ → ℤ → ℤ) → works xs ≡ true → steps_within 0 xs ≡ true → pinned xs u ≡ true → works ys ≡ true → steps_within 0 ys ≡ true → pinned ys (settled xs u) ≡ true
      → CondsReady high_by_low (settled xs u) → conds_hold high_by_low (settled xs u) ≡ calls_helper (place_at s a) (place_at s b)
      → (settled ys (settled xs u)).scores (codes "#d") ≡ Some (high (place_at s a) (place_at s b)) → (settled xs u).scores (codes "#d") ≡ Some (low (place_at s a) (place_at s b))
      → Found (join (steps_items xs) (first (call_when high_by_low f (steps_items ys)) no_more)) (if calls_helper (place_at s a) (place_at s b) then high (place_at s a) (place_at s b) else low (place_at s a) (place_at s b))
  found xs ys f high low wx nx px wy ny py k c eh el = go (calls_helper (place_at s a) (place_at s b)) refl
    where
      go : (p : Bool) → calls_helper (place_at s a) (place_at s b) ≡ p → Found (join (steps_items xs) (first (call_when high_by_low f (steps_items ys)) no_more)) (if p then high (place_at s a) (place_at s b) else low (place_at s a) (place_at s b))
      go true e = record {
        state = settled ys (settled xs u);
        leads = leads_join (steps_items xs) _ u (settled xs u) (settled ys (settled xs u)) (settled_leads xs u nx px) (called_leads high_by_low f (steps_items ys) (settled xs u) (settled ys (settled xs u)) k (c ∙ e) (settled_leads ys (settled xs u) ny py));
        beside = beside_both u (settled xs u) (settled ys (settled xs u)) (settled_is_beside xs u wx) (settled_is_beside ys (settled xs u) wy);
        left = eh;
      }
      go false e = record {
        state = settled xs u;
        leads = leads_join (steps_items xs) _ u (settled xs u) (settled xs u) (settled_leads xs u nx px) (uncalled_leads high_by_low f (steps_items ys) (settled xs u) k (c ∙ e));
        beside = settled_is_beside xs u wx;
        left = el;
      }

  found_quotient : Found unsigned_quotient (quotient_value (place_at s a) (place_at s b))
  found_quotient = found plain_quotient high_quotient (codes "h_cc_i32_div_high") high_quotient_value plain_quotient_value refl refl refl refl refl refl (tt, (tt, tt)) (all_hold_is high_by_low (settled plain_quotient u)) refl refl

  found_rest : Found unsigned_rest (rest_value (place_at s a) (place_at s b))
  found_rest = found plain_rest high_rest (codes "h_cc_i32_rem_high") high_rest_value plain_rest_value refl refl refl refl refl refl (tt, (tt, tt)) (all_hold_is high_by_low (settled plain_rest u)) refl refl

  given_found : (xs : Items) (z w : ℤ) → Found xs z → z ≡ w → 0 < n → Gives (on_scratch a b r (codes "#d") (trap_when by_zero DivideByZero xs)) s r (w ∷ [])
  given_found xs z w f e p = gives a b r (codes "#d") (trap_when by_zero DivideByZero xs) s la lb lr f.state w (passed by_zero DivideByZero xs u f.state (tt, tt) (not_by_zero p) f.leads) f.beside (f.left ∙ ap Some e)

  quotient_given : 0 < n → Gives (div_u a b r) s r (score (m / n) ∷ [])
  quotient_given p = given_found unsigned_quotient (quotient_value (place_at s a) (place_at s b)) (score (m / n)) found_quotient (ap₂ quotient_value ea eb ∙ quotient_value_is m n hm hn p) p

  rest_given : 0 < n → Gives (rem_u a b r) s r (score (m % n) ∷ [])
  rest_given p = given_found unsigned_rest (rest_value (place_at s a) (place_at s b)) (score (m % n)) found_rest (ap₂ rest_value ea eb ∙ rest_value_is m n hm hn p) p

-- ---- by any divisor

abbrev pub Divides : (ℕ → ℕ → ℕ → Items) → (ℕ → ℕ → Outcome) → Type 0
Divides items op = (a b r : ℕ) (s : State) → a < length s.places → b < length s.places → r < length s.places → (m n : ℕ) → m < 4294967296 → n < 4294967296 → place_at s a ≡ score m → place_at s b ≡ score n → Performs (items a b r) s r (outcome_of (outcome I32 (op m n)))

pub div_s_performs : Divides div_s (idiv_s w32)
div_s_performs a b r s la lb lr m zero hm hn ea eb = zero_traps a b r s la lb lr m zero hm hn ea eb (codes "#c") (trap_when too_great Overflow (steps_items signed_quotient)) refl
div_s_performs a b r s la lb lr m (suc n) hm hn ea eb = div_s_positive a b r s la lb lr m (suc n) hm hn ea eb (zero-lt-suc n)

pub rem_s_performs : Divides rem_s (irem_s w32)
rem_s_performs a b r s la lb lr m zero hm hn ea eb = zero_traps a b r s la lb lr m zero hm hn ea eb (codes "#c") (steps_items signed_rest) refl
rem_s_performs a b r s la lb lr m (suc n) hm hn ea eb = rem_s_positive a b r s la lb lr m (suc n) hm hn ea eb (zero-lt-suc n)

pub div_u_performs : Divides div_u (idiv_u w32)
div_u_performs a b r s la lb lr m zero hm hn ea eb = zero_traps a b r s la lb lr m zero hm hn ea eb (codes "#d") unsigned_quotient refl
div_u_performs a b r s la lb lr m (suc n) hm hn ea eb = quotient_given a b r s la lb lr m (suc n) hm hn ea eb (zero-lt-suc n)

pub rem_u_performs : Divides rem_u (irem_u w32)
rem_u_performs a b r s la lb lr m zero hm hn ea eb = zero_traps a b r s la lb lr m zero hm hn ea eb (codes "#d") unsigned_rest refl
rem_u_performs a b r s la lb lr m (suc n) hm hn ea eb = rest_given a b r s la lb lr m (suc n) hm hn ea eb (zero-lt-suc n)
