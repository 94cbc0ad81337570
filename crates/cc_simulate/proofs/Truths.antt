-- What conditions of comparisons say of the numbers in two places: what the comparison answers.
use Rattle.std.proofs.Common.{◌≡◌, ℕ, suc, ◌-◌, ◌≤◌, ◌<◌, List, [], ◌∷◌, ◌++◌, length, reverse, Bool, true, false, inl, inr, ◌⊎◌, Some, refl, sym, ap, ap₂, ◌∙◌, subst, arith, ℤ, pos, ◌+ℤ◌, not, ◌&&◌, ◌==◌, if◌then◌else◌, codes, nat_lt, nat_le, int_lt, int_le, slice_index_or, slice_set, append_assoc, length-set}
use Rattle.std.specs.Int.{w32}
use Rattle.std.specs.Prelude.{All}
use Rattle.std.proofs.lemmas.Int.{ints}
use Rattle.mc_nbt.specs.Word.{is_int}
use Rattle.mc_nbt.specs.declared.value.Kind.TheVariants.{I32}
use Rattle.mc_nbt.specs.declared.value.Value.{Value}
use Rattle.mc_nbt.specs.declared.value.Value.TheVariants as values
use Rattle.mc_cmd.specs.Form.{Text}
use Rattle.mc_cmd.specs.Command.{add, Cmp, less, less_equal, equal, greater_equal, greater, exactly}
use Rattle.mc_cmd.specs.World.{wrapped, or_zero, is_in, compares, both_compare, some_is_in}
use Rattle.wm_ast.specs.declared.answer.Answer.{Answer}
use Rattle.wm_ast.specs.declared.answer.Answer.TheVariants as answers
use Rattle.wm_ast.specs.declared.operator.Operator.{Operator}
use Rattle.wm_ast.specs.declared.operator.Operator.TheVariants.{Test, Comparison}
use Rattle.wm_ast.specs.declared.operator.CompareOp.{CompareOp}
use Rattle.wm_ast.specs.declared.operator.CompareOp.TheVariants.{Eq, Ne, LtS, LtU, GtS, GtU, LeS, LeU, GeS, GeU}
use Rattle.wm_ast.specs.Apply.{compare_op, operate}
use Rattle.wm_ast.specs.Integer.{ieqz}
use Rattle.wm_valid.specs.InRange.{IsInRange}
use Rattle.cc_line.specs.Key.{is_work}
use Rattle.cc_line.specs.Place.{score_places, is_scratch, Spot, scratch, placed}
use Rattle.cc_line.specs.Running.{Kept}
use Rattle.cc_line.specs.State.{State, read, place_at, set_places, with_spot}
use Rattle.cc_line.specs.Step.{set_spot, combine, in_range, compare, combined, after_act, cond_holds, conds_hold, Step, run_act, SpotReady, CheckReady}
use Rattle.cc_line.specs.Core.{Differ, IsAt, fetch, Replaced, Straight}
use Rattle.cc_line.specs.Item.{steps_items}
use Rattle.cc_line.proofs.CoreLemmas.{fetched, left_by, read_other, spot_ready, straight_append, straight_none, straight_one, work_apart}
use Rattle.cc_line.proofs.RunLemmas.{steps_run, steps_ready}
use Rattle.cc_line.proofs.Words.{score, by_sign, by_signs, by_word, flipped, flipped_lt, flipped_le}
use Rattle.cc_i32.specs.Light.{least}
use Rattle.cc_i32.proofs.LightLemmas.{word, score_word, by_words, truth_of}
use Rattle.cc_cut.proofs.ListLemmas.{some_of}
use Rattle.cc_body.specs.Conditions.{compares_i32, first_operand, first_spot, second_spot, shifted_spot, shifting, shift_steps, sign_steps, condition_steps, comparing, comparing_shifted, compare_condition, condition, is_so, is_not_so}
use Rattle.cc_body.specs.Emit.{tested}
use Rattle.cc_simulate.specs.Frame.{Frame}
use Rattle.cc_simulate.specs.Stands.{RunsOver}
use Rattle.cc_simulate.proofs.Acts.{Above, Passes, is_tested, keeps_replaced, calm_replaced, tested_above, tested_ready}
use Rattle.cc_simulate.proofs.Frames.{top_of, one_below, two_below, frame_same, frame_pop, frame_last, frame_swap}
use Rattle.cc_simulate.proofs.Operating.{OneI32, TwoI32, arithmetic_one, arithmetic_two, turned, first_in_range, second_in_range}
use Rattle.cc_simulate.proofs.SteadyTests.{Steady, SteadyOne, holds_steady, fails_steady, against_holds, against_steady, alone_steady}

-- ---- numbers

zero_word : (m : ℕ) → m < 4294967296 → is_in (exactly (pos 0)) (score m) ≡ ieqz w32 m
zero_word = by_sign (λ m a. is_in (exactly (pos 0)) a ≡ (m == 0)) (λ m h. grind arith) (λ k h. grind arith)

zero_true : (x : ℤ) → is_int x ≡ true → ieqz w32 (word x) ≡ is_in (exactly (pos 0)) x
zero_true x fx = sym (by_word (λ m a. is_in (exactly (pos 0)) a ≡ ieqz w32 m) zero_word x fx)

equal_words : (m n : ℕ) → m < 4294967296 → n < 4294967296 → compares equal (score m) (score n) ≡ (m == n)
equal_words = by_signs (λ m a n b. compares equal a b ≡ (m == n)) (λ m n hm hn. grind arith) (λ m k hm hk. grind arith) (λ k n hk hn. grind arith) (λ k l hk hl. grind arith)

-- what a condition says of two numbers
abbrev pub compare_says : CompareOp → ℤ → ℤ → Bool
compare_says Eq x y = compares equal x y
compare_says Ne x y = not (compares equal x y)
compare_says LtS x y = compares less x y
compare_says LtU x y = compares less (flipped x) (flipped y)
compare_says GtS x y = compares greater x y
compare_says GtU x y = compares greater (flipped x) (flipped y)
compare_says LeS x y = compares less_equal x y
compare_says LeU x y = compares less_equal (flipped x) (flipped y)
compare_says GeS x y = compares greater_equal x y
compare_says GeU x y = compares greater_equal (flipped x) (flipped y)

compare_true : (op : CompareOp) (x y : ℤ) → is_int x ≡ true → is_int y ≡ true → compare_op op w32 (word x) (word y) ≡ compare_says op x y
compare_true Eq x y fx fy = sym (by_words (λ m a n b. compares equal a b ≡ (m == n)) equal_words x y fx fy)
compare_true Ne x y fx fy = ap not (sym (by_words (λ m a n b. compares equal a b ≡ (m == n)) equal_words x y fx fy))
compare_true LtS x y fx fy = ap₂ int_lt (score_word x fx) (score_word y fy)
compare_true LtU x y fx fy = sym (by_words (λ m a n b. int_lt (flipped a) (flipped b) ≡ nat_lt m n) flipped_lt x y fx fy)
compare_true GtS x y fx fy = ap₂ int_lt (score_word y fy) (score_word x fx)
compare_true GtU x y fx fy = sym (by_words (λ n b m a. int_lt (flipped b) (flipped a) ≡ nat_lt n m) flipped_lt y x fy fx)
compare_true LeS x y fx fy = ap₂ int_le (score_word x fx) (score_word y fy)
compare_true LeU x y fx fy = sym (by_words (λ m a n b. int_le (flipped a) (flipped b) ≡ nat_le m n) flipped_le x y fx fy)
compare_true GeS x y fx fy = ap₂ int_le (score_word y fy) (score_word x fx)
compare_true GeU x y fx fy = sym (by_words (λ n b m a. int_le (flipped b) (flipped a) ≡ nat_le n m) flipped_le y x fy fx)

-- ---- what conditions read

-- how many places they need
abbrev pub extent : Operator → ℕ → ℕ
extent (Comparison k op) i = suc (suc i)
extent _ i = suc i

second_above : (i : ℕ) → Above i (second_spot i)
second_above i = go (nat_lt (suc i) score_places)
  where
    go : (b : Bool) → Above i (if b then placed (suc i) else scratch (codes "#b"))
    go true = let l : i ≤ suc i = omega arith in l
    go false = refl

second_ready : (i : ℕ) (s : State) → suc i < length s.places → SpotReady (second_spot i) s
second_ready i s l = go (nat_lt (suc i) score_places)
  where
    go : (b : Bool) → SpotReady (if b then placed (suc i) else scratch (codes "#b")) s
    go true = l
    go false = tt

both_ready : (c : Cmp) (i : ℕ) (s : State) → suc (suc i) ≤ length s.places → CheckReady (compare (first_spot i) c (second_spot i)) s
both_ready c i s l = (tested_ready i s (omega arith), second_ready i s (omega arith))

shifted_ready : (c : Cmp) (i : ℕ) (s : State) → suc (suc i) ≤ length s.places → CheckReady (compare (first_spot i) c shifted_spot) s
shifted_ready c i s l = (tested_ready i s (omega arith), tt)

comparing_steady : (c : Cmp) (i : ℕ) → SteadyOne i (suc (suc i)) (comparing c i)
comparing_steady c i = holds_steady i (suc (suc i)) (compare (first_spot i) c (second_spot i)) (tested_above i, second_above i) (both_ready c i)

shifted_steady : (c : Cmp) (i : ℕ) → SteadyOne i (suc (suc i)) (comparing_shifted c i)
shifted_steady c i = holds_steady i (suc (suc i)) (compare (first_spot i) c shifted_spot) (tested_above i, refl) (shifted_ready c i)

compare_steady : (op : CompareOp) (i : ℕ) → SteadyOne i (suc (suc i)) (compare_condition op i)
compare_steady Eq i = comparing_steady equal i
compare_steady Ne i = fails_steady i (suc (suc i)) (compare (first_spot i) equal (second_spot i)) (tested_above i, second_above i) (both_ready equal i)
compare_steady LtS i = comparing_steady less i
compare_steady LtU i = shifted_steady less i
compare_steady GtS i = comparing_steady greater i
compare_steady GtU i = shifted_steady greater i
compare_steady LeS i = comparing_steady less_equal i
compare_steady LeU i = shifted_steady less_equal i
compare_steady GeS i = comparing_steady greater_equal i
compare_steady GeU i = shifted_steady greater_equal i

first_ready : (i : ℕ) (s : State) → suc i ≤ length s.places → SpotReady (first_spot i) s
first_ready i s l = tested_ready i s (omega arith)

condition_steady : (q : Operator) (i : ℕ) → SteadyOne i (extent q i) (condition q i)
condition_steady (Comparison k op) i = compare_steady op i
condition_steady _ i = holds_steady i (suc i) (in_range (first_spot i) (exactly (pos 0))) (tested_above i) (first_ready i)

pub so_steady : (q : Operator) (i : ℕ) → Steady i (extent q i) (is_so q i)
so_steady q i = alone_steady i (extent q i) (condition q i) (condition_steady q i)

pub not_so_steady : (q : Operator) (i : ℕ) → Steady i (extent q i) (is_not_so q i)
not_so_steady q i = alone_steady i (extent q i) _ (against_steady i (extent q i) (condition q i) (condition_steady q i))

-- ---- a number that stands nowhere

-- it is 1 where the condition holds, and else 0
pub record Decides (q : Operator) (i : ℕ) (z : ℤ) (s : State) : Type 0 where
  pub within : extent q i ≤ length s.places
  pub value : z ≡ truth_of (cond_holds (condition q i) s)

module _ (q : Operator) (i : ℕ) (z : ℤ) (s : State) (d : Decides q i z s) where
  is_one : z ≡ pos 0 → cond_holds (condition q i) s ≡ false
  is_one e = go (cond_holds (condition q i) s) d.value
    where
      go : (b : Bool) → z ≡ truth_of b → b ≡ false
      go true k = absurd (let y : pos 1 ≡ pos 0 = sym k ∙ e in cc)
      go false k = refl

  isnt_one : (z ≡ pos 0 → ⊥) → cond_holds (condition q i) s ≡ true
  isnt_one e = go (cond_holds (condition q i) s) d.value
    where
      go : (b : Bool) → z ≡ truth_of b → b ≡ true
      go true k = refl
      go false k = absurd (e k)

  pub so_fails : z ≡ pos 0 → conds_hold (is_so q i) s ≡ false
  so_fails e = ap (λ b. b && true) (is_one e)

  pub so_holds : (z ≡ pos 0 → ⊥) → conds_hold (is_so q i) s ≡ true
  so_holds e = ap (λ b. b && true) (isnt_one e)

  pub not_so_holds : z ≡ pos 0 → conds_hold (is_not_so q i) s ≡ true
  not_so_holds e = ap (λ b. b && true) (against_holds (condition q i) s) ∙ ap (λ b. not b && true) (is_one e)

  pub not_so_fails : (z ≡ pos 0 → ⊥) → conds_hold (is_not_so q i) s ≡ false
  not_so_fails e = ap (λ b. b && true) (against_holds (condition q i) s) ∙ ap (λ b. not b && true) (isnt_one e)

-- ---- what conditions need

-- both operands are where the condition looks for them
record Two (i : ℕ) (s t : State) (x y : ℤ) : Type 0 where
  straight : Straight (fetch i (codes "#a") ++ fetch (suc i) (codes "#b")) s t
  first : read t (first_spot i) ≡ Some x
  second : read t (second_spot i) ≡ Some y
  places : t.places ≡ s.places
  keys : t.keys ≡ s.keys
  scores : (h : Text) → is_work h ≡ false → t.scores h ≡ s.scores h

two_fetched : (i : ℕ) (s : State) (x y : ℤ) → suc i < length s.places → place_at s i ≡ x → place_at s (suc i) ≡ y → (t : State) × Two i s t x y
two_fetched i s x y l ex ey =
    let f = fetched i (codes "#a") s refl (omega arith) in
    let g = fetched (suc i) (codes "#b") f.0 refl (subst (λ zs. suc i < length zs) (sym f.1.places) l) in (
      g.0,
      record {
        straight = straight_append (fetch i (codes "#a")) (fetch (suc i) (codes "#b")) s f.0 g.0 f.1.straight g.1.straight;
        first = beside f.0 g.0 g.1.places (g.1.scores (codes "#a") refl) (nat_lt i score_places) ∙ f.1.reads ∙ ap Some ex;
        second = g.1.reads ∙ ap Some (ap (λ zs. slice_index_or zs (suc i) (pos 0)) f.1.places ∙ ey);
        places = g.1.places ∙ f.1.places;
        keys = g.1.keys ∙ f.1.keys;
        scores = λ h w. g.1.scores h (work_apart (codes "#b") h refl w) ∙ f.1.scores h (work_apart (codes "#a") h refl w);
      },
    )
  where
    beside : (t u : State) → u.places ≡ t.places → u.scores (codes "#a") ≡ t.scores (codes "#a") → (b : Bool) → read u (if b then placed i else scratch (codes "#a")) ≡ read t (if b then placed i else scratch (codes "#a"))
    beside t u p q true = ap (λ zs. Some (slice_index_or zs i (pos 0))) p
    beside t u p q false = q

-- a sum in a spot
adds : (s : State) (x y : Spot) (a b : ℤ) → read s x ≡ Some a → read s y ≡ Some b → after_act (combine x add y) s ≡ with_spot s x (wrapped (a +ℤ b))
adds s x y a b ea eb = ap (combined s x add) eb ∙ ap (λ o. with_spot s x (wrapped (or_zero o +ℤ b))) ea

add_straight : (s : State) (x y : Spot) (a b : ℤ) → SpotReady x s → SpotReady y s → read s x ≡ Some a → read s y ≡ Some b → Straight (run_act (combine x add y) ∷ []) s (with_spot s x (wrapped (a +ℤ b)))
add_straight s x y a b rx ry ea eb = subst (Straight (run_act (combine x add y) ∷ []) s) (adds s x y a b ea eb) (straight_one (run_act (combine x add y)) s (rx, ry) refl)

least_first : (y : ℤ) → wrapped (least +ℤ y) ≡ flipped y
least_first y = ap wrapped (let e : least +ℤ y ≡ y +ℤ least = omega (arith, ints) in e)

-- the least number is added to both
record Shifted (x y : Spot) (s t : State) (a b : ℤ) : Type 0 where
  straight : Straight (shifting x y) s t
  first : read t x ≡ Some (flipped a)
  second : read t shifted_spot ≡ Some (flipped b)
  places : t.places ≡ (with_spot s x (flipped a)).places
  keys : t.keys ≡ s.keys
  scores : (h : Text) → is_scratch h ≡ true → is_work h ≡ false → t.scores h ≡ s.scores h

shifted : (x y : Spot) (s : State) (a b : ℤ) → Differ shifted_spot x → Differ x shifted_spot → Differ shifted_spot y → Differ x y → IsAt (codes "#a") x → SpotReady x s → SpotReady y s → read s x ≡ Some a → read s y ≡ Some b
    → ((z : ℤ) → (with_spot (with_spot s shifted_spot least) x z).places ≡ (with_spot s x z).places) → (t : State) × Shifted x y s t a b
shifted x y s a b dx xd dy xy at rx ry ea eb same =
    let s1 : State = with_spot s shifted_spot least in
    let s2 : State = with_spot s1 x (flipped a) in
    let s3 : State = with_spot s2 shifted_spot (wrapped (least +ℤ b)) in
    let l1 = left_by s shifted_spot least (codes "#d") refl refl tt in
    let x1 : SpotReady x s1 = spot_ready s shifted_spot x least rx in
    let l2 = left_by s1 x (flipped a) (codes "#a") refl at x1 in
    let l3 = left_by s2 shifted_spot (wrapped (least +ℤ b)) (codes "#d") refl refl tt in
    let ea1 : read s1 x ≡ Some a = read_other s shifted_spot x least dx ∙ ea in
    let eb1 : read s1 y ≡ Some b = read_other s shifted_spot y least dy ∙ eb in
    let d2 : read s2 shifted_spot ≡ Some least = read_other s1 x shifted_spot (flipped a) xd ∙ l1.result in
    let eb2 : read s2 y ≡ Some b = read_other s1 x y (flipped a) xy ∙ eb1 in
    let y2 : SpotReady y s2 = spot_ready s1 x y (flipped a) (spot_ready s shifted_spot y least ry) in
    let one : Straight (run_act (set_spot shifted_spot least) ∷ []) s s1 = straight_one (run_act (set_spot shifted_spot least)) s tt refl in
    let two : Straight (run_act (combine x add shifted_spot) ∷ []) s1 s2 = add_straight s1 x shifted_spot a least x1 tt ea1 l1.result in
    let three : Straight (run_act (combine shifted_spot add y) ∷ []) s2 s3 = add_straight s2 shifted_spot y least b tt y2 d2 eb2 in (
      s3,
      record {
        straight = straight_append (run_act (set_spot shifted_spot least) ∷ []) _ s s1 s3 one (straight_append (run_act (combine x add shifted_spot) ∷ []) _ s1 s2 s3 two three);
        first = read_other s2 shifted_spot x (wrapped (least +ℤ b)) dx ∙ l2.result;
        second = l3.result ∙ ap Some (least_first b);
        places = same (flipped a);
        keys = l3.keys ∙ (l2.keys ∙ l1.keys);
        scores = λ h p w. l3.scores h p w ∙ (l2.scores h p w ∙ l1.scores h p w);
      },
    )

-- ---- on places

shift_apart : (i : ℕ) → Differ shifted_spot (first_spot i)
shift_apart i = go (nat_lt i score_places)
  where
    go : (b : Bool) → Differ shifted_spot (if b then placed i else scratch (codes "#a"))
    go true = tt
    go false = refl

first_apart : (i : ℕ) → Differ (first_spot i) shifted_spot
first_apart i = go (nat_lt i score_places)
  where
    go : (b : Bool) → Differ (if b then placed i else scratch (codes "#a")) shifted_spot
    go true = tt
    go false = refl

second_apart : (i : ℕ) → Differ shifted_spot (second_spot i)
second_apart i = go (nat_lt (suc i) score_places)
  where
    go : (b : Bool) → Differ shifted_spot (if b then placed (suc i) else scratch (codes "#b"))
    go true = tt
    go false = refl

operands_apart : (i : ℕ) → Differ (first_spot i) (second_spot i)
operands_apart i = go (nat_lt i score_places) (nat_lt (suc i) score_places)
  where
    go : (b c : Bool) → Differ (if b then placed i else scratch (codes "#a")) (if c then placed (suc i) else scratch (codes "#b"))
    go true true = λ e. omega arith
    go true false = tt
    go false true = tt
    go false false = refl

first_at : (i : ℕ) → IsAt (codes "#a") (first_spot i)
first_at i = go (nat_lt i score_places)
  where
    go : (b : Bool) → IsAt (codes "#a") (if b then placed i else scratch (codes "#a"))
    go true = tt
    go false = refl

first_same : (i : ℕ) (s : State) (z : ℤ) → (with_spot (with_spot s shifted_spot least) (first_spot i) z).places ≡ (with_spot s (first_spot i) z).places
first_same i s z = go (nat_lt i score_places)
  where
    go : (b : Bool) → (with_spot (with_spot s shifted_spot least) (if b then placed i else scratch (codes "#a")) z).places ≡ (with_spot s (if b then placed i else scratch (codes "#a")) z).places
    go true = refl
    go false = refl

-- a state in which the condition of a comparison can be asked
record Asked (xs : List Step) (op : CompareOp) (i : ℕ) (s t : State) (x y : ℤ) : Type 0 where
  straight : Straight xs s t
  says_so : cond_holds (compare_condition op i) t ≡ compare_says op x y
  places : (t.places ≡ s.places) ⊎ ((z : ℤ) × (t.places ≡ slice_set s.places i z))
  keys : t.keys ≡ s.keys
  scores : (h : Text) → is_scratch h ≡ true → is_work h ≡ false → t.scores h ≡ s.scores h

reads_both : (c : Cmp) (t : State) (u v : Spot) (x y : ℤ) → read t u ≡ Some x → read t v ≡ Some y → both_compare c (read t u) (read t v) ≡ compares c x y
reads_both c t u v x y ex ey = ap (λ o. both_compare c o (read t v)) ex ∙ ap (both_compare c (Some x)) ey

module _ (i : ℕ) (s : State) (x y : ℤ) (l : suc i < length s.places) (ex : read s (first_spot i) ≡ Some x) (ey : read s (second_spot i) ≡ Some y) where
  with_sign : (op : CompareOp) → cond_holds (compare_condition op i) s ≡ compare_says op x y → (t : State) × Asked [] op i s t x y
  with_sign op e = (s, record { straight = straight_none s; says_so = e; places = inl refl; keys = refl; scores = λ h p w. refl })

  set_places_so : (z : ℤ) → ((with_spot s (first_spot i) z).places ≡ s.places) ⊎ ((u : ℤ) × ((with_spot s (first_spot i) z).places ≡ slice_set s.places i u))
  set_places_so z = go (nat_lt i score_places)
    where
      go : (b : Bool) → ((with_spot s (if b then placed i else scratch (codes "#a")) z).places ≡ s.places) ⊎ ((u : ℤ) × ((with_spot s (if b then placed i else scratch (codes "#a")) z).places ≡ slice_set s.places i u))
      go true = inr (z, refl)
      go false = inl refl

  both : (t : State) × Shifted (first_spot i) (second_spot i) s t x y
  both =
      shifted (first_spot i) (second_spot i) s x y (shift_apart i) (first_apart i) (second_apart i) (operands_apart i) (first_at i) (tested_ready i s (omega arith)) (second_ready i s l) ex ey
      (first_same i s)

  without : (op : CompareOp) → ((t : State) → read t (first_spot i) ≡ Some (flipped x) → read t shifted_spot ≡ Some (flipped y) → cond_holds (compare_condition op i) t ≡ compare_says op x y) → (t : State) × Asked (shift_steps i) op i s t x y
  without op f =
      let g = both.1 in (
        both.0,
        record {
          straight = g.straight;
          says_so = f both.0 g.first g.second;
          places = subst (λ (zs : List ℤ). (zs ≡ s.places) ⊎ ((u : ℤ) × (zs ≡ slice_set s.places i u))) (sym g.places) (set_places_so (flipped x));
          keys = g.keys;
          scores = g.scores;
        },
      )

  signs : (op : CompareOp) → (t : State) × Asked (sign_steps op i) op i s t x y
  signs Eq = with_sign Eq (reads_both equal s (first_spot i) (second_spot i) x y ex ey)
  signs Ne = with_sign Ne (ap not (reads_both equal s (first_spot i) (second_spot i) x y ex ey))
  signs LtS = with_sign LtS (reads_both less s (first_spot i) (second_spot i) x y ex ey)
  signs LtU = without LtU (λ t p q. reads_both less t (first_spot i) shifted_spot (flipped x) (flipped y) p q)
  signs GtS = with_sign GtS (reads_both greater s (first_spot i) (second_spot i) x y ex ey)
  signs GtU = without GtU (λ t p q. reads_both greater t (first_spot i) shifted_spot (flipped x) (flipped y) p q)
  signs LeS = with_sign LeS (reads_both less_equal s (first_spot i) (second_spot i) x y ex ey)
  signs LeU = without LeU (λ t p q. reads_both less_equal t (first_spot i) shifted_spot (flipped x) (flipped y) p q)
  signs GeS = with_sign GeS (reads_both greater_equal s (first_spot i) (second_spot i) x y ex ey)
  signs GeU = without GeU (λ t p q. reads_both greater_equal t (first_spot i) shifted_spot (flipped x) (flipped y) p q)

-- ---- a comparison of the last operands us over the operands os

pub record Compares (bytes : Bool) (bs : List Kept) (size : ℕ) (ls os : List Value) (q : Operator) (i : ℕ) (s : State) (o : Answer) : Type 0 where
  pub number : ℤ
  pub answers_so : o ≡ answers.Value (values.I32 number)
  pub state : State
  pub passes : Passes (steps_items (condition_steps q i)) s state
  pub frame : Frame size ls os state.places
  pub calm : RunsOver bytes bs state
  pub decides : Decides q i number state

-- what is written is in one place at most
put_places : (i : ℕ) (ws zs ys : List ℤ) → zs ≡ ws → (ys ≡ zs) ⊎ ((z : ℤ) × (ys ≡ slice_set zs i z)) → (us : List ℤ) × (ys ≡ set_places ws i us)
put_places i ws zs ys e (inl k) = ([], k ∙ e)
put_places i ws zs ys e (inr (z, k)) = (z ∷ [], k ∙ ap (λ l. slice_set l i z) e)

module _ {bytes : Bool} (bs : List Kept) (size : ℕ) (ls : List Value) (s : State) (calm : RunsOver bytes bs s) where
  straight_passes : (xs : List Step) (i : ℕ) (zs : List ℤ) (t : State) → Straight xs s t → Replaced s t i zs → Passes (steps_items xs) s t × RunsOver bytes bs t
  straight_passes xs i zs t f r = (
    record { ready = steps_ready xs s f.ready; used = _; ends = steps_run xs s ∙ f.ends; keeps = keeps_replaced s t i zs r },
    calm_replaced bs s t i zs r calm,
  )

  -- with 0
  test_does : (x : ℤ) (os : List Value) (o : Answer) → is_int x ≡ true → operate (Test I32) (values.I32 x ∷ []) ≡ Some o → Frame size ls (values.I32 x ∷ os) s.places → Compares bytes bs size ls os (Test I32) (top_of ls os) s o
  test_does x os o fx e f =
      let i : ℕ = top_of ls os in
      let last = frame_last size ls x os s.places f in
      let t = is_tested i s last.1 in
      let reads : read t.0 (tested i) ≡ Some x = t.1.reads ∙ ap Some last.0 in
      record {
        number = truth_of (ieqz w32 (word x));
        answers_so = sym (some_of (answers.Value (values.I32 (truth_of (ieqz w32 (word x))))) o e);
        state = t.0;
        passes = t.1.passes;
        frame = frame_same size ls os s.places t.0.places t.1.places (frame_pop size ls (values.I32 x) os s.places f);
        calm = t.1.calm bs calm;
        decides = record {
          within = let w : top_of ls os < length t.0.places = t.1.within in let r : suc (top_of ls os) ≤ length t.0.places = omega arith in r;
          value = ap truth_of (zero_true x fx) ∙ ap (λ r. truth_of (some_is_in (exactly (pos 0)) r)) (sym reads);
        };
      }

  -- of two
  compare_does : (op : CompareOp) (x y : ℤ) (os : List Value) (o : Answer) → is_int x ≡ true → is_int y ≡ true → operate (Comparison I32 op) (values.I32 x ∷ (values.I32 y ∷ [])) ≡ Some o
      → Frame size ls (values.I32 y ∷ (values.I32 x ∷ os)) s.places → Compares bytes bs size ls os (Comparison I32 op) (top_of ls os) s o
  compare_does op x y os o fx fy e f =
      let i : ℕ = top_of ls os in
      let g : Frame size ls (values.I32 x ∷ os) s.places = frame_pop size ls (values.I32 y) (values.I32 x ∷ os) s.places f in
      let first = frame_last size ls x os s.places g in
      let second = frame_last size ls y (values.I32 x ∷ os) s.places f in
      let place : top_of ls (values.I32 x ∷ os) ≡ suc (top_of ls os) = next_top os x in
      let l : suc (top_of ls os) < length s.places = subst (λ j. j < length s.places) place second.1 in
      let p = two_fetched i s x y l first.0 (ap (λ j. place_at s j) (sym place) ∙ second.0) in
      let w : suc (top_of ls os) < length p.0.places = subst (λ zs. suc (top_of ls os) < length zs) (sym p.1.places) l in
      let a = signs i p.0 x y w p.1.first p.1.second op in
      let all : Straight (condition_steps (Comparison I32 op) i) s a.0 =
      subst (λ xs. Straight xs s a.0) (append_assoc (fetch i (codes "#a")) (fetch (suc i) (codes "#b")) (sign_steps op i))
      (straight_append (fetch i (codes "#a") ++ fetch (suc i) (codes "#b")) (sign_steps op i) s p.0 a.0 p.1.straight a.1.straight) in
      let put : (zs : List ℤ) × (a.0.places ≡ set_places s.places i zs) = put_places i s.places p.0.places a.0.places p.1.places a.1.places in
      let replaced : Replaced s a.0 i put.0 = record { places = put.1; keys = λ r k e. ap (λ m. m r k) (a.1.keys ∙ p.1.keys); scores = λ h b c. a.1.scores h b c ∙ p.1.scores h c } in
      let done = straight_passes (condition_steps (Comparison I32 op) i) i put.0 a.0 all replaced in
      let framed : Frame size ls (values.I32 x ∷ os) p.0.places = frame_same size ls (values.I32 x ∷ os) s.places p.0.places p.1.places g in
      record {
        number = truth_of (compare_op op w32 (word x) (word y));
        answers_so = sym (some_of (answers.Value (values.I32 (truth_of (compare_op op w32 (word x) (word y))))) o e);
        state = a.0;
        passes = done.0;
        frame = kept_below x os p.0.places a.0.places framed a.1.places;
        calm = done.1;
        decides = record {
          within = long_enough os p.0.places a.0.places w a.1.places;
          value = ap truth_of (compare_true op x y fx fy) ∙ ap truth_of (sym a.1.says_so);
        };
      }
    where
      next_top : (os : List Value) (x : ℤ) → top_of ls (values.I32 x ∷ os) ≡ suc (top_of ls os)
      next_top os x = let r : top_of ls (values.I32 x ∷ os) ≡ suc (top_of ls os) = omega arith in r

      kept_below : (x : ℤ) (os : List Value) (zs ys : List ℤ) → Frame size ls (values.I32 x ∷ os) zs → (ys ≡ zs) ⊎ ((z : ℤ) × (ys ≡ slice_set zs (top_of ls os) z)) → Frame size ls os ys
      kept_below x os zs ys f (inl e) = frame_same size ls os zs ys e (frame_pop size ls (values.I32 x) os zs f)
      kept_below x os zs ys f (inr (z, e)) =
          frame_same size ls os (slice_set zs (top_of ls os) z) ys e
          (frame_pop size ls (values.I32 z) os (slice_set zs (top_of ls os) z) (frame_swap size ls (values.I32 x) (values.I32 z) os zs refl f))

      long_enough : (os : List Value) (zs ys : List ℤ) → suc (top_of ls os) < length zs → (ys ≡ zs) ⊎ ((z : ℤ) × (ys ≡ slice_set zs (top_of ls os) z)) → suc (suc (top_of ls os)) ≤ length ys
      long_enough os zs ys l (inl e) = let k : length ys ≡ length zs = ap length e in omega arith
      long_enough os zs ys l (inr (z, e)) = let k : length ys ≡ length zs = ap length e ∙ length-set zs (top_of ls os) z in omega arith

  -- any of them
  pub comparison_does : (q : Operator) → compares_i32 q ≡ true → (us os : List Value) (o : Answer) → operate q (reverse us) ≡ Some o → All IsInRange us → Frame size ls (us ++ os) s.places
      → (first_operand q (top_of ls (us ++ os)) ≡ top_of ls os) × Compares bytes bs size ls os q (top_of ls os) s o
  comparison_does (Test I32) c us os o e r f =
      let w : OneI32 (reverse us) = arithmetic_one (Test I32) refl (reverse us) o e in
      let is : us ≡ values.I32 w.first ∷ [] = turned us _ w.operands in (
        ap (λ (ws : List Value). top_of ls (ws ++ os) - 1) is ∙ one_below ls os w.first,
        test_does w.first os o (first_in_range w.first [] (subst (λ (ws : List Value). All IsInRange ws) is r)) (sym (ap (operate (Test I32)) w.operands) ∙ e)
            (subst (λ (ws : List Value). Frame size ls (ws ++ os) s.places) is f),
      )
  comparison_does (Comparison I32 op) c us os o e r f =
      let w : TwoI32 (reverse us) = arithmetic_two (Comparison I32 op) refl (reverse us) o e in
      let is : us ≡ values.I32 w.second ∷ (values.I32 w.first ∷ []) = turned us _ w.operands in
      let range : All IsInRange (values.I32 w.second ∷ (values.I32 w.first ∷ [])) = subst (λ (ws : List Value). All IsInRange ws) is r in (
        ap (λ (ws : List Value). top_of ls (ws ++ os) - 2) is ∙ two_below ls os w.second w.first,
        compare_does op w.first w.second os o (second_in_range w.second w.first [] range) (first_in_range w.second (values.I32 w.first ∷ []) range) (sym (ap (operate (Comparison I32 op)) w.operands) ∙ e)
            (subst (λ (ws : List Value). Frame size ls (ws ++ os) s.places) is f),
      )
  comparison_does _ c us os o e r f = absurd cc
