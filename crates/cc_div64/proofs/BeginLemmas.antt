-- The beginning: its traps, or a division whose turns are still to be run.
use Rattle.std.proofs.Common.{◌≡◌, ℕ, zero, suc, ◌+◌, ◌/◌, ◌%◌, ◌<◌, ◌==◌, length, ℤ, pos, negsuc, Option, Some, Bool, true, false, ◌&&◌, refl, sym, ap, ap₂, ◌∙◌, subst, arith, codes, zero-lt-suc}
use Rattle.std.specs.Int.{w64, cast_signed}
use Rattle.mc_nbt.proofs.TestLemmas.{eq_same}
use Rattle.mc_nbt.specs.declared.value.Kind.TheVariants.{I64}
use Rattle.mc_cmd.specs.Command.{exactly}
use Rattle.mc_cmd.specs.World.{is_in, some_is_in}
use Rattle.wm_ast.specs.declared.answer.TrapKind.TheVariants.{DivideByZero, Overflow}
use Rattle.wm_ast.specs.declared.operator.BinaryOp.{BinaryOp}
use Rattle.wm_ast.specs.declared.operator.BinaryOp.TheVariants.{DivS, DivU, RemS, RemU}
use Rattle.wm_ast.specs.Integer.{Outcome, number, overflows, idiv_s, irem_s, idiv_u, irem_u}
use Rattle.wm_ast.specs.Apply.{outcome}
use Rattle.cc_line.specs.State.{State, place_at}
use Rattle.cc_line.specs.Step.{conds_hold}
use Rattle.cc_line.specs.Item.{Items, join, steps_items}
use Rattle.cc_line.specs.Routine.{trap_when}
use Rattle.cc_line.proofs.SettleLemmas.{settled, all_hold_is}
use Rattle.cc_line.proofs.Words.{score, by_sign, unwrapped_pos}
use Rattle.cc_div64.specs.Division.{least, by_zero, count_greatest, too_great, load_steps, prepare, magnitudes, quotient_sign, remainder_sign, begin_items}
use Rattle.cc_div64.specs.Law.{low_word, high_word, signed_by, result_of, Signed, Dividing, Divides, Begins}
use Rattle.cc_div64.proofs.Signs.{magnitude, is_minus, differ, div_s_by_magnitudes, rem_s_by_magnitudes, magnitude_below, magnitude_above}
use Rattle.cc_div64.proofs.MinusLemmas.{Words, with_words, words_here, zero_score}
use Rattle.cc_div64.proofs.SignLemmas.{both_signs, Unsigned, quotient_magnitudes, remainder_magnitudes}
use Rattle.cc_div64.proofs.PrepareLemmas.{Prepared, prepare_goes}
use Rattle.cc_div64.proofs.TrapLemmas.{Springs, springs_traps, springs_join, goes_past, springs_past, springs_here, loaded, loads_go, loads_spring}
use Rattle.cc_div64.proofs.Passing.{Goes, goes_join, goes_steps, goes_so}

-- ---- the tests

zero_pair : (j : ℕ) → ((j % 4294967296 == 0) && (j / 4294967296 == 0)) ≡ (j == 0)
zero_pair j = grind arith

by_zero_is : (i j : ℕ) (o : Option ℤ) (u : State) → j < 18446744073709551616 → Words i j o u → conds_hold by_zero u ≡ (j == 0)
by_zero_is i j o u h w =
    all_hold_is by_zero u
    ∙ ap₂ (λ x y. some_is_in (exactly (pos 0)) x && some_is_in (exactly (pos 0)) y) w.bl w.bh
    ∙ ap₂ (λ p q. p && q) (zero_score (j % 4294967296) (omega arith)) (zero_score (j / 4294967296) (omega arith))
    ∙ zero_pair j

least_test : (m : ℕ) → m < 4294967296 → is_in (exactly least) (score m) ≡ (m == 2147483648)
least_test = by_sign (λ m a. is_in (exactly least) a ≡ (m == 2147483648)) (λ m h. grind arith) (λ k h. grind arith)

minus_test : (n : ℕ) → n < 4294967296 → is_in (exactly (negsuc 0)) (score n) ≡ (n == 4294967295)
minus_test = by_sign (λ n b. is_in (exactly (negsuc 0)) b ≡ (n == 4294967295)) (λ m h. grind arith) (λ k h. grind arith)

least_pair : (i : ℕ) → i < 18446744073709551616 → ((i % 4294967296 == 0) && (i / 4294967296 == 2147483648)) ≡ (i == 9223372036854775808)
least_pair i h = grind arith

minus_pair : (j : ℕ) → j < 18446744073709551616 → ((j % 4294967296 == 4294967295) && (j / 4294967296 == 4294967295)) ≡ (j == 18446744073709551615)
minus_pair j h = grind arith

two_told : (p q : Bool) → is_in (exactly (pos 2)) (both_signs p q) ≡ (q && p)
two_told true true = ap (is_in (exactly (pos 2))) (unwrapped_pos 2 (omega arith))
two_told true false = refl
two_told false true = ap (is_in (exactly (pos 2))) (unwrapped_pos 1 (omega arith))
two_told false false = refl

-- both told, and the words as they were
record Counted (i j : ℕ) (o : Option ℤ) (u : State) : Type 0 where
  words : Words i j o u
  told : conds_hold too_great u ≡ ((i == 9223372036854775808) && (j == 18446744073709551615))

module _ (i j : ℕ) (o : Option ℤ) (hi : i < 18446744073709551616) (hj : j < 18446744073709551616) where
  abbrev is_one : Bool
  is_one = is_in (exactly (negsuc 0)) (low_word j) && is_in (exactly (negsuc 0)) (high_word j)

  abbrev is_least : Bool
  is_least = is_in (exactly (pos 0)) (low_word i) && is_in (exactly least) (high_word i)

  is_one_is : is_one ≡ (j == 18446744073709551615)
  is_one_is = ap₂ (λ p q. p && q) (minus_test (j % 4294967296) (omega arith)) (minus_test (j / 4294967296) (omega arith)) ∙ minus_pair j hj

  is_least_is : is_least ≡ (i == 9223372036854775808)
  is_least_is = ap₂ (λ p q. p && q) (zero_score (i % 4294967296) (omega arith)) (least_test (i / 4294967296) (omega arith)) ∙ least_pair i hi

  count_goes : (s : State) → Words i j o s → Goes (steps_items count_greatest) s (Counted i j o)
  count_goes s w =
      subst (λ x. Goes (steps_items count_greatest) x (Counted i j o)) (words_here i j o s w)
      (goes_steps count_greatest (with_words s i j) (Counted i j o) refl refl refl
      (record {
        words = record { dl = refl; dh = refl; bl = refl; bh = refl; sign = w.sign };
        told = all_hold_is too_great (settled count_greatest (with_words s i j)) ∙ two_told is_one is_least ∙ ap₂ (λ p q. p && q) is_least_is is_one_is;
      }))

-- ---- what is prepared

dividing : (op : BinaryOp) (z : ℤ) (n v : ℕ) (b : Bool) (o : Option ℤ) (u : State) → v < 18446744073709551616 → (p : Prepared n v o u) → Signed op b u → cast_signed w64 (signed_by b (result_of op n v)) ≡ z → Dividing op z p.left u
dividing op z n v b o u hv p k e = record {
  number = n;
  divisor = v;
  negated = b;
  turn = p.turn;
  told = p.held.left;
  few = p.few;
  after = p.after;
  bounded = hv;
  wide = p.wide;
  standing = record {
    dividend_low = p.held.dl;
    dividend_high = p.held.dh;
    remainder_low = p.held.rl;
    remainder_high = p.held.rh;
    divisor_low = p.held.bl';
    divisor_high = p.held.bh';
    order_low = p.held.bf;
    order_high = p.held.bg;
    least = p.held.mn;
  };
  signed = k;
  answer = e;
}

abbrev Begun : BinaryOp → ℤ → State → Type 0
Begun op z u = (left : ℕ) × Dividing op z left u

begun : (op : BinaryOp) (a : ℕ) (s : State) (z : ℤ) → Goes (begin_items op a) s (Begun op z) → (left : ℕ) × Divides (begin_items op a) s op z left
begun op a s z f = (
  f.holds.0,
  record {
    ready = f.leads.ready;
    state = f.state;
    used = f.leads.used;
    ends = f.leads.ends;
    dividing = f.holds.1;
    replaced = record { places = f.beside.places; keys = λ r k e. ap (λ m. m r k) f.beside.keys; scores = λ h c w. f.beside.scores h w };
  },
)

-- ---- from operands in their places

module _ (a : ℕ) (s : State) (la : a < length s.places) (lb : a + 1 < length s.places) (lc : a + 2 < length s.places) (ld : a + 3 < length s.places) (i j : ℕ) (hi : i < 18446744073709551616) (hj : j < 18446744073709551616)
    (ea : place_at s a ≡ low_word i) (eb : place_at s (a + 1) ≡ high_word i) (ec : place_at s (a + 2) ≡ low_word j) (ed : place_at s (a + 3) ≡ high_word j) where
  abbrev u : State
  u = loaded a s la lb lc ld

  abbrev o : Option ℤ
  o = s.scores (codes "#s")

  words : Words i j o u
  words = record { dl = ap Some ea; dh = ap Some eb; bl = ap Some ec; bh = ap Some ed; sign = refl }

  zero_springs : (xs : Items) → j ≡ 0 → Springs (join (steps_items (load_steps a)) (trap_when by_zero DivideByZero xs)) s DivideByZero
  zero_springs xs e =
      let c : conds_hold by_zero u ≡ true = by_zero_is i j o u hj words ∙ ap (λ n. n == 0) e in
      loads_spring a s la lb lc ld (trap_when by_zero DivideByZero xs) DivideByZero (springs_here by_zero DivideByZero xs u (tt, (tt, tt)) c (tt, (tt, tt)) c)

  not_zero : 0 < j → conds_hold by_zero u ≡ false
  not_zero p = by_zero_is i j o u hj words ∙ (let e : (j == 0) ≡ false = grind arith in e)

  past_zero : (xs : Items) (P : State → Type 0) → 0 < j → Goes xs u P → Goes (join (steps_items (load_steps a)) (trap_when by_zero DivideByZero xs)) s P
  past_zero xs P p f = loads_go a s la lb lc ld (trap_when by_zero DivideByZero xs) P (goes_past by_zero DivideByZero xs u P (tt, (tt, tt)) (not_zero p) f)

  -- without sign
  unsigned_goes : 0 < j → Goes (join (steps_items (load_steps a)) (trap_when by_zero DivideByZero prepare)) s (Prepared i j o)
  unsigned_goes p = past_zero prepare (Prepared i j o) p (prepare_goes i j o p hi hj u words)

  -- with sign: the magnitudes prepared
  abbrev Signs : Bool → State → Type 0
  Signs b t = (z : ℤ) × (is_in (exactly (pos 1)) z ≡ b) × Prepared (magnitude i) (magnitude j) (Some z) t

  prepared : 0 < j → (b : Bool) (t : State) → Unsigned (magnitude i) (magnitude j) b t → Goes prepare t (Signs b)
  prepared p b t m =
      goes_so prepare t (Prepared (magnitude i) (magnitude j) (Some m.score)) (Signs b)
      (prepare_goes (magnitude i) (magnitude j) (Some m.score) (magnitude_above j hj p) (magnitude_below i hi) (magnitude_below j hj) t m.words)
      (λ x q. (m.score, m.told, q))

  remainder_goes : 0 < j → Goes (join (steps_items (load_steps a)) (trap_when by_zero DivideByZero (join (magnitudes remainder_sign) prepare))) s (Signs (is_minus i))
  remainder_goes p =
      past_zero (join (magnitudes remainder_sign) prepare) (Signs (is_minus i)) p
      (goes_join (magnitudes remainder_sign) prepare u (Unsigned (magnitude i) (magnitude j) (is_minus i)) (Signs (is_minus i)) (remainder_magnitudes i j hi hj o u words) (prepared p (is_minus i)))

  abbrev counted : Items
  counted = join (steps_items count_greatest) (trap_when too_great Overflow (join (magnitudes quotient_sign) prepare))

  great_springs : 0 < j → ((i == 9223372036854775808) && (j == 18446744073709551615)) ≡ true → Springs (join (steps_items (load_steps a)) (trap_when by_zero DivideByZero counted)) s Overflow
  great_springs p e =
      loads_spring a s la lb lc ld (trap_when by_zero DivideByZero counted) Overflow
      (springs_past by_zero DivideByZero Overflow counted u (tt, (tt, tt)) (not_zero p)
      (springs_join (steps_items count_greatest) _ u (Counted i j o) Overflow (count_goes i j o hi hj u words)
      (λ t k. springs_here too_great Overflow (join (magnitudes quotient_sign) prepare) t (tt, tt) (k.told ∙ e) (tt, tt) (k.told ∙ e))))

  quotient_goes : 0 < j → ((i == 9223372036854775808) && (j == 18446744073709551615)) ≡ false → Goes (join (steps_items (load_steps a)) (trap_when by_zero DivideByZero counted)) s (Signs (differ (is_minus i) (is_minus j)))
  quotient_goes p e =
      past_zero counted (Signs (differ (is_minus i) (is_minus j))) p
      (goes_join (steps_items count_greatest) _ u (Counted i j o) (Signs (differ (is_minus i) (is_minus j))) (count_goes i j o hi hj u words)
      (λ t k. goes_past too_great Overflow (join (magnitudes quotient_sign) prepare) t (Signs (differ (is_minus i) (is_minus j))) (tt, tt) (k.told ∙ e)
      (goes_join (magnitudes quotient_sign) prepare t (Unsigned (magnitude i) (magnitude j) (differ (is_minus i) (is_minus j))) (Signs (differ (is_minus i) (is_minus j))) (quotient_magnitudes i j hi hj o t k.words) (prepared p (differ (is_minus i) (is_minus j))))))

  -- ---- each operation by a divisor above 0

  abbrev Answers : BinaryOp → Outcome → Type 0
  Answers op x = Begins op a s (outcome I64 x)

  div_u_begins : 0 < j → Answers DivU (number (i / j))
  div_u_begins p =
      begun DivU a s (cast_signed w64 (i / j)) (goes_so (begin_items DivU a) s (Prepared i j o) (Begun DivU (cast_signed w64 (i / j))) (unsigned_goes p) (λ t q. (q.left, dividing DivU (cast_signed w64 (i / j)) i j false o t hj q refl refl)))

  rem_u_begins : 0 < j → Answers RemU (number (i % j))
  rem_u_begins p =
      begun RemU a s (cast_signed w64 (i % j)) (goes_so (begin_items RemU a) s (Prepared i j o) (Begun RemU (cast_signed w64 (i % j))) (unsigned_goes p) (λ t q. (q.left, dividing RemU (cast_signed w64 (i % j)) i j false o t hj q refl refl)))

  rem_s_begins : 0 < j → Answers RemS (irem_s w64 i j)
  rem_s_begins p =
      let z : ℤ = cast_signed w64 (signed_by (is_minus i) (magnitude i % magnitude j)) in
      subst (Answers RemS) (sym (rem_s_by_magnitudes i j hi hj (λ e. omega arith)))
      (begun RemS a s z (goes_so (begin_items RemS a) s (Signs (is_minus i)) (Begun RemS z) (remainder_goes p)
      (λ t q. (q.2.left, dividing RemS z (magnitude i) (magnitude j) (is_minus i) (Some q.0) t (magnitude_below j hj) q.2 (ap (some_is_in (exactly (pos 1))) q.2.held.sign ∙ q.1) refl))))

  div_s_begins : 0 < j → Answers DivS (idiv_s w64 i j)
  div_s_begins p = go (i == 9223372036854775808) refl (j == 18446744073709551615) refl
    where
      equal_to : (n k : ℕ) → n ≡ k → (n == k) ≡ true
      equal_to n k e = grind arith

      z : ℤ
      z = cast_signed w64 (signed_by (differ (is_minus i) (is_minus j)) (magnitude i / magnitude j))

      under : ((i == 9223372036854775808) && (j == 18446744073709551615)) ≡ false → (i ≡ 9223372036854775808 → j ≡ 18446744073709551615 → ⊥) → Answers DivS (idiv_s w64 i j)
      under e f =
          subst (Answers DivS) (sym (div_s_by_magnitudes i j hi hj (λ e. omega arith) f))
          (begun DivS a s z (goes_so (begin_items DivS a) s (Signs (differ (is_minus i) (is_minus j))) (Begun DivS z) (quotient_goes p e)
          (λ t q. (q.2.left, dividing DivS z (magnitude i) (magnitude j) (differ (is_minus i) (is_minus j)) (Some q.0) t (magnitude_below j hj) q.2 (ap (some_is_in (exactly (pos 1))) q.2.held.sign ∙ q.1) refl))))

      go : (x : Bool) → (i == 9223372036854775808) ≡ x → (y : Bool) → (j == 18446744073709551615) ≡ y → Answers DivS (idiv_s w64 i j)
      go true ex true ey =
          let e : idiv_s w64 i j ≡ overflows = ap₂ (idiv_s w64) (eq_same i 9223372036854775808 ex) (eq_same j 18446744073709551615 ey) in
          subst (Answers DivS) (sym e) (springs_traps (begin_items DivS a) s Overflow (great_springs p (ap₂ (λ x y. x && y) ex ey)))
      go true ex false ey = under (ap₂ (λ x y. x && y) ex ey) (λ e f. let z : true ≡ false = sym (equal_to j 18446744073709551615 f) ∙ ey in cc)
      go false ex y ey = under (ap (λ x. x && (j == 18446744073709551615)) ex) (λ e f. let z : true ≡ false = sym (equal_to i 9223372036854775808 e) ∙ ex in cc)

-- ---- by any divisor

abbrev pub BeginsOn : BinaryOp → (ℕ → ℕ → Outcome) → Type 0
BeginsOn op f = (a : ℕ) (s : State) → a < length s.places → a + 1 < length s.places → a + 2 < length s.places → a + 3 < length s.places → (i j : ℕ) → i < 18446744073709551616 → j < 18446744073709551616
    → place_at s a ≡ low_word i → place_at s (a + 1) ≡ high_word i → place_at s (a + 2) ≡ low_word j → place_at s (a + 3) ≡ high_word j → Begins op a s (outcome I64 (f i j))

pub div_s_any : BeginsOn DivS (idiv_s w64)
div_s_any a s la lb lc ld i zero hi hj ea eb ec ed = springs_traps (begin_items DivS a) s DivideByZero (zero_springs a s la lb lc ld i zero hi hj ea eb ec ed _ refl)
div_s_any a s la lb lc ld i (suc j) hi hj ea eb ec ed = div_s_begins a s la lb lc ld i (suc j) hi hj ea eb ec ed (zero-lt-suc j)

pub rem_s_any : BeginsOn RemS (irem_s w64)
rem_s_any a s la lb lc ld i zero hi hj ea eb ec ed = springs_traps (begin_items RemS a) s DivideByZero (zero_springs a s la lb lc ld i zero hi hj ea eb ec ed _ refl)
rem_s_any a s la lb lc ld i (suc j) hi hj ea eb ec ed = rem_s_begins a s la lb lc ld i (suc j) hi hj ea eb ec ed (zero-lt-suc j)

pub div_u_any : BeginsOn DivU (idiv_u w64)
div_u_any a s la lb lc ld i zero hi hj ea eb ec ed = springs_traps (begin_items DivU a) s DivideByZero (zero_springs a s la lb lc ld i zero hi hj ea eb ec ed _ refl)
div_u_any a s la lb lc ld i (suc j) hi hj ea eb ec ed = div_u_begins a s la lb lc ld i (suc j) hi hj ea eb ec ed (zero-lt-suc j)

pub rem_u_any : BeginsOn RemU (irem_u w64)
rem_u_any a s la lb lc ld i zero hi hj ea eb ec ed = springs_traps (begin_items RemU a) s DivideByZero (zero_springs a s la lb lc ld i zero hi hj ea eb ec ed _ refl)
rem_u_any a s la lb lc ld i (suc j) hi hj ea eb ec ed = rem_u_begins a s la lb lc ld i (suc j) hi hj ea eb ec ed (zero-lt-suc j)
