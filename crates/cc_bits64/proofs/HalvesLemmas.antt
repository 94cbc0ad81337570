-- Operations on each half by itself, and counts, do what they are to do.
use Rattle.std.proofs.Common.{◌≡◌, ℕ, zero, suc, ◌+◌, ◌<◌, ◌≤◌, List, [], ◌∷◌, length, Some, true, false, refl, sym, ap, ap₂, ◌∙◌, subst, arith}
use Rattle.std.specs.Prelude.{ℤ, pos, ◌+ℤ◌, not, if◌then◌else◌, codes}
use Rattle.std.specs.Int.{w32, w64, cast_unsigned}
use Rattle.std.proofs.lemmas.Int.{of_z-to_z}
use Rattle.std.proofs.lemmas.Nat.{ones-le}
use Rattle.mc_cmd.specs.Command.{exactly}
use Rattle.mc_cmd.specs.World.{wrapped, is_in}
use Rattle.mc_nbt.specs.declared.value.Value.TheVariants as values
use Rattle.wm_ast.specs.declared.answer.Answer.TheVariants as answers
use Rattle.wm_ast.specs.declared.operation.NumOp.{NumOp}
use Rattle.wm_ast.specs.declared.operation.NumOp.TheVariants.{I32Popcnt}
use Rattle.wm_ast.specs.Apply.{apply}
use Rattle.wm_ast.specs.Integer.{ipopcnt}
use Rattle.cc_line.specs.Standing.{Standing, takes_bytes}
use Rattle.cc_line.specs.State.{State, place_at, with_place}
use Rattle.cc_line.specs.Step.{Step, step_weight}
use Rattle.cc_line.specs.Item.{step_item, Items, join, steps_items}
use Rattle.cc_line.specs.Routine.{Gives, PerformsOne, PerformsTwoStanding}
use Rattle.cc_line.specs.Within.{steps_within}
use Rattle.cc_line.proofs.RunLemmas.{Leads, leads_first, leads_join, straight_leads}
use Rattle.cc_line.proofs.SettleLemmas.{with_one, with_two, settled, settled_straight, works, pinned}
use Rattle.cc_line.proofs.StandingLemmas.{standing_replaced}
use Rattle.cc_line.proofs.Words.{score, by_sign, sum_of, score_is_int}
use Rattle.cc_bits.specs.Line.{loads, one_step}
use Rattle.cc_bits.specs.Operation as words
use Rattle.cc_bits.proofs.LookLemmas.{Near, near_then, near_settled, near_score}
use Rattle.cc_bits64.specs.Halves.{halves_items, small_result, two_loads, sum_items, sum_steps, popcnt_items, choose_steps, choose_items, whole_half, zeros_items}
use Rattle.cc_bits64.proofs.Pairs.{pair}
use Rattle.cc_bits64.proofs.Counts.{pair_popcnt}
use Rattle.cc_bits64.proofs.Places.{one_long, beside_one, pair_long, low_after, high_after, low_alone, high_alone, pair_then, halves_then, both_from, both_kept_lead, small_kept_lead, pair_given}
use Rattle.cc_bits64.proofs.Operands.{StandsAt, Makes}

-- ---- operations of i32 on words

abbrev pub TwoAnswers : NumOp → (ℕ → ℕ → ℕ) → Type 0
TwoAnswers op f = (x y : ℤ) → apply op (values.I32 x ∷ (values.I32 y ∷ [])) ≡ Some (answers.Value (values.I32 (score (f (cast_unsigned w32 x) (cast_unsigned w32 y)))))

abbrev pub OneAnswers : NumOp → (ℕ → ℕ) → Type 0
OneAnswers op f = (x : ℤ) → apply op (values.I32 x ∷ []) ≡ Some (answers.Value (values.I32 (score (f (cast_unsigned w32 x)))))

two_words : (op : NumOp) (f : ℕ → ℕ → ℕ) (xs : Items) (a b r : ℕ) → PerformsTwoStanding op xs a b r → TwoAnswers op f → (s : State) (l m : ℕ) → Standing (takes_bytes op) s → l < 4294967296 → m < 4294967296
    → a < length s.places → b < length s.places → r < length s.places → place_at s a ≡ score l → place_at s b ≡ score m → Gives xs s r (score (f l m) ∷ [])
two_words op f xs a b r perform is s l m st p q la lb lr ea eb =
    subst (λ n. Gives xs s r (score n ∷ [])) (ap₂ f (of_z-to_z w32 l p) (of_z-to_z w32 m q))
    (perform s (score l) (score m) _ st la lb lr ea eb (score_is_int l p) (score_is_int m q) (is (score l) (score m)))

one_word : (op : NumOp) (f : ℕ → ℕ) (xs : Items) (a r : ℕ) → PerformsOne op xs a r → OneAnswers op f → (s : State) (l : ℕ) → l < 4294967296
    → a < length s.places → r < length s.places → place_at s a ≡ score l → Gives xs s r (score (f l) ∷ [])
one_word op f xs a r perform is s l p la lr ea =
    subst (λ n. Gives xs s r (score n ∷ [])) (ap f (of_z-to_z w32 l p))
    (perform s (score l) _ la lr ea (score_is_int l p) (is (score l)))

-- ---- on each half by itself

abbrev pub IsByHalves : (ℕ → ℕ → ℕ) → Type 0
IsByHalves f = (h n l m : ℕ) → l < 4294967296 → m < 4294967296 → f (pair h l) (pair n m) ≡ pair (f h n) (f l m)

abbrev pub KeepsWords : (ℕ → ℕ → ℕ) → Type 0
KeepsWords f = (x y : ℕ) → x < 4294967296 → y < 4294967296 → f x y < 4294967296

pub halves_make : (op : NumOp) (f : ℕ → ℕ → ℕ) → ((a b r : ℕ) → PerformsTwoStanding op (words.op_items op a b r) a b r) → TwoAnswers op f → IsByHalves f → KeepsWords f
    → (a : ℕ) (s : State) (h l n m : ℕ) → Standing (takes_bytes op) s → StandsAt s a h l → StandsAt s (suc (suc a)) n m → Makes (halves_items op a) s a (f (pair h l) (pair n m))
halves_make op f perform is split small a s h l n m st one two =
    let xs : Items = words.op_items op a (suc (suc a)) a in
    let ys : Items = words.op_items op (suc a) (suc (suc (suc a))) (suc a) in
    let room = one.room in
    let more = two.room in
    let g : Gives xs s a (score (f l m) ∷ []) = two_words op f xs a (suc (suc a)) a (perform a (suc (suc a)) a) is s l m st one.low two.low (omega arith) (omega arith) (omega arith) one.low_at two.low_at in
    let long : length g.state.places ≡ length s.places = one_long xs s a (score (f l m)) g in
    let k : Gives ys g.state (suc a) (score (f h n) ∷ []) =
    two_words op f ys (suc a) (suc (suc (suc a))) (suc a) (perform (suc a) (suc (suc (suc a))) (suc a)) is g.state h n (standing_replaced s g.state a (score (f l m) ∷ []) g.replaced st) one.high two.high (omega arith) (omega arith) (omega arith)
    (beside_one xs s a (score (f l m)) g (suc a) (λ e. omega arith) ∙ one.high_at)
    (beside_one xs s a (score (f l m)) g (suc (suc (suc a))) (λ e. omega arith) ∙ two.high_at)
    in record {
      high = f h n;
      low = f l m;
      high_small = small h n one.high two.high;
      low_small = small l m one.low two.low;
      is = split h n l m one.low two.low;
      gives = halves_then xs ys s a (score (f l m)) (score (f h n)) g k;
    }

-- ---- two places through scores

near_loaded : (s : State) (x y : ℤ) → Near s (with_two s x y)
near_loaded s x y = near_then s (with_one s x) (with_two s x y) (near_score s (codes "#a") x refl) (near_score (with_one s x) (codes "#b") y refl)

-- steps on two places that stand
between : (p q : ℕ) (xs : List Step) (ys : Items) (s t : State) → p < length s.places → q < length s.places → steps_within 0 xs ≡ true → pinned xs (with_two s (place_at s p) (place_at s q)) ≡ true
    → Leads ys (settled xs (with_two s (place_at s p) (place_at s q))) t → Leads (two_loads p q (join (steps_items xs) ys)) s t
between p q xs ys s t lp lq w pin l =
    let x : ℤ = place_at s p in
    let y : ℤ = place_at s q in
    let two : State = with_two s x y in
    let rest : Items = join (steps_items xs) ys in
    leads_first (step_item (loads (codes "#a") p)) s (one_step (loads (codes "#b") q) rest) (with_one s x) t (step_weight (loads (codes "#a") p)) lp refl
    (leads_first (step_item (loads (codes "#b") q)) (with_one s x) rest two t (step_weight (loads (codes "#b") q)) lq refl
    (leads_join (steps_items xs) ys two (settled xs two) t (straight_leads xs two (settled xs two) (settled_straight xs two w pin)) l))

near_between : (xs : List Step) (s : State) (x y : ℤ) → works xs ≡ true → Near s (settled xs (with_two s x y))
near_between xs s x y k = near_then s (with_two s x y) (settled xs (with_two s x y)) (near_loaded s x y) (near_settled xs (with_two s x y) k)

sum_gives : (a : ℕ) (xs : List Step) (s : State) (z : ℤ) → suc a < length s.places → steps_within 0 xs ≡ true → works xs ≡ true → pinned xs (with_two s (place_at s a) (place_at s (suc a))) ≡ true
    → (settled xs (with_two s (place_at s a) (place_at s (suc a)))).scores (codes "#a") ≡ Some z → Gives (sum_items a xs) s a (z ∷ (pos 0 ∷ []))
sum_gives a xs s z room w k pin e =
    let t : State = settled xs (with_two s (place_at s a) (place_at s (suc a))) in
    let near : Near s t = near_between xs s (place_at s a) (place_at s (suc a)) k in
    pair_given (sum_items a xs) s t a z (pos 0) near
    (between a (suc a) xs (small_result a (codes "#a")) s (with_place (with_place t a z) (suc a) (pos 0)) (omega arith) room w pin
    (small_kept_lead t a (subst (λ ps. suc a < length ps) (sym near.places) room) (codes "#a") z e))

-- ---- ones

pub popcnt_make : ((a b r : ℕ) → PerformsOne I32Popcnt (words.op_items I32Popcnt a b r) a r) → (a : ℕ) (s : State) (h l : ℕ) → StandsAt s a h l → Makes (popcnt_items a) s a (ipopcnt w64 (pair h l))
popcnt_make perform a s h l one =
    let xs : Items = words.op_items I32Popcnt a a a in
    let ys : Items = words.op_items I32Popcnt (suc a) (suc a) (suc a) in
    let room = one.room in
    let low : ℕ = ipopcnt w32 l in
    let high : ℕ = ipopcnt w32 h in
    let few : ipopcnt w32 l ≤ 32 = ones-le 32 l one.low in
    let few' : ipopcnt w32 h ≤ 32 = ones-le 32 h one.high in
    let g0 : Gives xs s a (score low ∷ []) = one_word I32Popcnt (ipopcnt w32) xs a a (perform a a a) (λ x. refl) s l one.low (omega arith) (omega arith) one.low_at in
    let g : Gives xs s a (score low ∷ (place_at s (suc a) ∷ [])) = low_alone xs s a (score low) g0 in
    let gl : length g.state.places ≡ length s.places = pair_long xs s a (score low) (place_at s (suc a)) g in
    let k0 : Gives ys g.state (suc a) (score high ∷ []) =
    one_word I32Popcnt (ipopcnt w32) ys (suc a) (suc a) (perform (suc a) (suc a) (suc a)) (λ x. refl) g.state h one.high (omega arith) (omega arith)
    (high_after xs s a (score low) (place_at s (suc a)) g room ∙ one.high_at)
    in
    let k : Gives ys g.state a (place_at g.state a ∷ (score high ∷ [])) = high_alone ys g.state a (score high) k0 in
    let kl : length k.state.places ≡ length g.state.places = pair_long ys g.state a (place_at g.state a) (score high) k in
    let ea : place_at k.state a ≡ score low = low_after ys g.state a (place_at g.state a) (score high) k (omega arith) ∙ low_after xs s a (score low) (place_at s (suc a)) g (omega arith) in
    let eb : place_at k.state (suc a) ≡ score high = high_after ys g.state a (place_at g.state a) (score high) k (omega arith) in
    let e : wrapped (place_at k.state a +ℤ place_at k.state (suc a)) ≡ score (ipopcnt w32 l + ipopcnt w32 h) =
    ap₂ (λ x y. wrapped (x +ℤ y)) ea eb ∙ sum_of (ipopcnt w32 l) (ipopcnt w32 h) (omega arith) (omega arith) ∙ ap score (omega arith)
    in
    let m : Gives (sum_items a sum_steps) k.state a (score (ipopcnt w32 l + ipopcnt w32 h) ∷ (pos 0 ∷ [])) = sum_gives a sum_steps k.state (score (ipopcnt w32 l + ipopcnt w32 h)) (omega arith) refl refl refl (ap Some e) in
    record {
      high = 0;
      low = ipopcnt w32 l + ipopcnt w32 h;
      high_small = omega arith;
      low_small = omega arith;
      is = pair_popcnt h l one.low ∙ omega arith;
      gives = pair_then xs (join ys (sum_items a sum_steps)) s a _ _ _ _ g (pair_then ys (sum_items a sum_steps) g.state a _ _ _ _ k m);
    }

-- ---- zeros

-- the half that decides, and what the first half adds
abbrev chosen : ℤ → ℤ → ℤ
chosen x y = if not (is_in (exactly (pos 0)) x) then x else y

abbrev with_whole : ℤ → ℤ → ℤ
with_whole x y = if is_in (exactly (pos 0)) y then wrapped (x +ℤ pos 32) else x

choose_gives : (a p q : ℕ) (s : State) → p < length s.places → q < length s.places → suc a < length s.places → Gives (choose_items a p q) s a (chosen (place_at s p) (place_at s q) ∷ (place_at s p ∷ []))
choose_gives a p q s lp lq room =
    let x : ℤ = place_at s p in
    let y : ℤ = place_at s q in
    let t : State = settled choose_steps (with_two s x y) in
    let near : Near s t = near_between choose_steps s x y refl in
    pair_given (choose_items a p q) s t a (chosen x y) x near
    (between p q choose_steps (both_from a (codes "#b") (codes "#a")) s (with_place (with_place t a (chosen x y)) (suc a) x) lp lq refl refl
    (both_kept_lead t a (subst (λ ps. suc a < length ps) (sym near.places) room) (codes "#b") (codes "#a") (chosen x y) x refl refl))

module _ (op : NumOp) (c : ℕ → ℕ) (perform : (a b r : ℕ) → PerformsOne op (words.op_items op a b r) a r) (is : OneAnswers op c) (few : (m : ℕ) → c m ≤ 32) where
  zeros_by : (a p q : ℕ) (s : State) (u v d i : ℕ) → d < 4294967296 → p < length s.places → q < length s.places → suc a < length s.places → place_at s p ≡ score u → place_at s q ≡ score v
      → chosen (score u) (score v) ≡ score d → with_whole (score (c d)) (score u) ≡ score i → Gives (zeros_items op a p q) s a (score i ∷ (pos 0 ∷ []))
  zeros_by a p q s u v d i hd lp lq room eu ev e1 e2 =
      let x : ℤ = place_at s p in
      let y : ℤ = place_at s q in
      let xs : Items = choose_items a p q in
      let ys : Items = words.op_items op a a a in
      let g : Gives xs s a (chosen x y ∷ (x ∷ [])) = choose_gives a p q s lp lq room in
      let gl : length g.state.places ≡ length s.places = pair_long xs s a (chosen x y) x g in
      let k0 : Gives ys g.state a (score (c d) ∷ []) =
      one_word op c ys a a (perform a a a) is g.state d hd (omega arith) (omega arith) (low_after xs s a (chosen x y) x g (omega arith) ∙ ap₂ chosen eu ev ∙ e1)
      in
      let k : Gives ys g.state a (score (c d) ∷ (place_at g.state (suc a) ∷ [])) = low_alone ys g.state a (score (c d)) k0 in
      let kl : length k.state.places ≡ length g.state.places = pair_long ys g.state a (score (c d)) (place_at g.state (suc a)) k in
      let ea : place_at k.state a ≡ score (c d) = low_after ys g.state a (score (c d)) (place_at g.state (suc a)) k (omega arith) in
      let eb : place_at k.state (suc a) ≡ score u = high_after ys g.state a (score (c d)) (place_at g.state (suc a)) k (omega arith) ∙ high_after xs s a (chosen x y) x g room ∙ eu in
      let m : Gives (sum_items a whole_half) k.state a (score i ∷ (pos 0 ∷ [])) = sum_gives a whole_half k.state (score i) (omega arith) refl refl refl (ap Some (ap₂ with_whole ea eb ∙ e2)) in
      pair_then xs (join ys (sum_items a whole_half)) s a _ _ _ _ g (pair_then ys (sum_items a whole_half) g.state a _ _ _ _ k m)

  -- u is the first half
  pub zeros_make : (a p q : ℕ) (s : State) (u v i : ℕ) → u < 4294967296 → v < 4294967296 → p < length s.places → q < length s.places → suc a < length s.places → place_at s p ≡ score u → place_at s q ≡ score v
      → (u ≡ 0 → i ≡ 32 + c v) → (0 < u → i ≡ c u) → Makes (zeros_items op a p q) s a i
  zeros_make a p q s zero v i hu hv lp lq room eu ev none some =
      let e : i ≡ 32 + c v = none refl in
      let l : c v ≤ 32 = few v in
      let f : with_whole (score (c v)) (score 0) ≡ score i = sum_of (c v) 32 (omega arith) (omega arith) ∙ ap score (omega arith) in
      record {
        high = 0;
        low = i;
        high_small = omega arith;
        low_small = omega arith;
        is = omega arith;
        gives = zeros_by a p q s 0 v v i hv lp lq room eu ev refl f;
      }
  zeros_make a p q s (suc u) v i hu hv lp lq room eu ev none some =
      let e : i ≡ c (suc u) = some (omega arith) in
      let l : c (suc u) ≤ 32 = few (suc u) in
      let z : is_in (exactly (pos 0)) (score (suc u)) ≡ false = not_zero (suc u) (omega arith) hu in
      record {
        high = 0;
        low = i;
        high_small = omega arith;
        low_small = omega arith;
        is = omega arith;
        gives = zeros_by a p q s (suc u) v (suc u) i hu lp lq room eu ev (ap (λ b. if not b then score (suc u) else score v) z) (ap (λ b. if b then wrapped (score (c (suc u)) +ℤ pos 32) else score (c (suc u))) z ∙ ap score (sym e));
      }
    where
      not_zero : (m : ℕ) → 0 < m → m < 4294967296 → is_in (exactly (pos 0)) (score m) ≡ false
      not_zero m p h = by_sign (λ n b. 0 < n → is_in (exactly (pos 0)) b ≡ false) (λ m h p. grind arith) (λ k h p. refl) m h p
