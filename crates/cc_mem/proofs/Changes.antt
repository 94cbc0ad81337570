-- The words that a store makes, by the steps of its helpers.
use Rattle.std.proofs.Common.{◌≡◌, ℕ, ◌+◌, ◌-◌, ◌/◌, ◌%◌, ◌^◌, ◌<◌, ◌≤◌, List, [], ◌∷◌, ◌++◌, Some, true, false, refl, ap, ◌∙◌, arith}
use Rattle.std.specs.Prelude.{ℤ, pos, codes}
use Rattle.std.proofs.lemmas.Fmt.{decimal_digit}
use Rattle.mc_nbt.specs.Tree.{int, compound}
use Rattle.mc_cmd.specs.Form.{Text}
use Rattle.mc_cmd.specs.Command.{subtract, add, multiply, divide, remainder}
use Rattle.cc_line.specs.Key.{is_work, scale_of}
use Rattle.cc_line.specs.State.{State, selected}
use Rattle.cc_line.specs.Step.{Step}
use Rattle.cc_line.specs.Core.{Straight}
use Rattle.cc_line.specs.OpenStep.{steps_with, ints_in}
use Rattle.cc_line.proofs.CoreLemmas.{straight_none}
use Rattle.cc_page.specs.Pages.{signed_word, part_of, with_part, first_with, second_with}
use Rattle.cc_mem.specs.Standing.{stem_byte, stem_rest, Constants}
use Rattle.cc_mem.specs.Store.{spread_steps, change_steps, half_over_steps}
use Rattle.cc_mem.proofs.Filled.{straight_combine, straight_assign, straight_load, Steady, nest, all_work, steady_nest}
use Rattle.cc_mem.proofs.Words.{word_site}
use Rattle.cc_mem.proofs.WordSums.{Changed, changed, last_changed, First, first_word, Second, second_word}
use Rattle.cc_mem.proofs.Puts.{filling_fields}

-- ---- standing scores behind others that are written

scale_plain : (h : Text) (r : ℕ) → r < 4 → ((x : ℕ) → is_work (h ++ (x ∷ [])) ≡ false) → is_work (scale_of h r) ≡ false
scale_plain h r l a = ap (λ e. is_work (h ++ e)) (decimal_digit r (omega arith)) ∙ a (48 + r)

module _ (s : State) (c : Constants s) where
  pub byte_scale : (r : ℕ) → r < 4 → (l : List (Text × ℤ)) → all_work l ≡ true → (nest s l).scores (scale_of stem_byte r) ≡ Some (pos (256 ^ r))
  byte_scale r h l w = (steady_nest s l w).scores (scale_of stem_byte r) (scale_plain stem_byte r h (λ x. refl)) ∙ c.bytes r h

  rest_scale : (r : ℕ) → 0 < r → r < 4 → (l : List (Text × ℤ)) → all_work l ≡ true → (nest s l).scores (scale_of stem_rest r) ≡ Some (pos (256 ^ (4 - r)))
  rest_scale r k h l w = (steady_nest s l w).scores (scale_of stem_rest r) (scale_plain stem_rest r h (λ x. refl)) ∙ c.rests r k h

-- ---- bytes within a word

-- steps that make another word of the one that stands there
pub record Makes (xs : List Step) (s : State) (x : ℕ) : Type 0 where
  pub state : State
  pub straight : Straight xs s state
  pub steady : Steady s state
  pub first : state.scores (codes "#u") ≡ Some (signed_word x)
  pub number : state.scores (codes "#r") ≡ s.scores (codes "#r")

module _ (s : State) (c : Constants s) (page i m x r w : ℕ) (hm : m < 4294967296) (hx : x < 4294967296) (hr : r < 4) (lw : 0 < w) (hw : w < 4) (fit : r + w ≤ 4)
    (there : selected s (word_site (pos page) (pos i)) ≡ Some (int (signed_word m))) (es : s.scores (codes "#s") ≡ Some (signed_word x)) where
  abbrev k : Changed m x r w
  k = changed m x r w hm hx hr lw hw fit

  abbrev u0 : List (Text × ℤ)
  u0 = (codes "#u", signed_word m) ∷ []

  abbrev u1 : List (Text × ℤ)
  u1 = (codes "#y", signed_word m) ∷ u0

  abbrev u2 : List (Text × ℤ)
  u2 = (codes "#y", k.quotient) ∷ u1

  abbrev u3 : List (Text × ℤ)
  u3 = (codes "#y", pos (part_of m r w)) ∷ u2

  abbrev u4 : List (Text × ℤ)
  u4 = (codes "#z", signed_word x) ∷ u3

  abbrev u5 : List (Text × ℤ)
  u5 = (codes "#z", pos (x % 256 ^ w)) ∷ u4

  abbrev u6 : List (Text × ℤ)
  u6 = (codes "#z", k.difference) ∷ u5

  abbrev u7 : List (Text × ℤ)
  u7 = (codes "#z", k.scaled) ∷ u6

  abbrev u8 : List (Text × ℤ)
  u8 = (codes "#u", signed_word (with_part m r w x)) ∷ u7

  pub change_makes : Makes (steps_with (ints_in (Some (compound (filling_fields page (pos i) (pos r))))) (change_steps w)) s (with_part m r w x)
  change_makes = record {
    state = nest s u8;
    straight =
        straight_load (codes "#u") (word_site (pos page) (pos i)) (signed_word m) _ s (nest s u8) there
        (straight_assign (codes "#y") (codes "#u") (signed_word m) _ (nest s u0) (nest s u8) refl
        (straight_combine (codes "#y") (scale_of stem_byte r) divide (signed_word m) (pos (256 ^ r)) k.quotient _ (nest s u1) (nest s u8) refl (byte_scale s c r hr u1 refl) k.divided
        (straight_combine (codes "#y") (scale_of stem_byte w) remainder k.quotient (pos (256 ^ w)) _ _ (nest s u2) (nest s u8) refl (byte_scale s c w hw u2 refl) k.old
        (straight_assign (codes "#z") (codes "#s") (signed_word x) _ (nest s u3) (nest s u8) es
        (straight_combine (codes "#z") (scale_of stem_byte w) remainder (signed_word x) (pos (256 ^ w)) _ _ (nest s u4) (nest s u8) refl (byte_scale s c w hw u4 refl) k.new
        (straight_combine (codes "#z") (codes "#y") subtract _ _ k.difference _ (nest s u5) (nest s u8) refl refl k.differs
        (straight_combine (codes "#z") (scale_of stem_byte r) multiply k.difference (pos (256 ^ r)) k.scaled _ (nest s u6) (nest s u8) refl (byte_scale s c r hr u6 refl) k.scales
        (straight_combine (codes "#u") (codes "#z") add (signed_word m) k.scaled _ _ (nest s u7) (nest s u8) refl refl k.added
        (straight_none (nest s u8))))))))));
    steady = steady_nest s u8 refl;
    first = refl;
    number = refl;
  }

-- ---- bytes over two words

-- steps that make of two words two others
pub record MakesTwo (xs : List Step) (s : State) (x y : ℕ) : Type 0 where
  pub state : State
  pub straight : Straight xs s state
  pub steady : Steady s state
  pub first : state.scores (codes "#u") ≡ Some (signed_word x)
  pub number : state.scores (codes "#r") ≡ s.scores (codes "#r")
  pub second : state.scores (codes "#d") ≡ Some (signed_word y)

module _ (s : State) (c : Constants s) (m n x : ℕ) (hm : m < 4294967296) (hn : n < 4294967296) (hx : x < 4294967296)
    (eu : s.scores (codes "#u") ≡ Some (signed_word m)) (ed : s.scores (codes "#d") ≡ Some (signed_word n)) (es : s.scores (codes "#s") ≡ Some (signed_word x)) where
  module _ (page i r : ℕ) (lr : 0 < r) (hr : r < 4) where
    abbrev f : First m x r
    f = first_word m x r hm hx lr hr

    abbrev g : Second n x r (4 - r)
    g = second_word n x r (4 - r) hn hx lr hr (omega arith) (omega arith)

    abbrev v1 : List (Text × ℤ)
    v1 = (codes "#u", pos (m % 256 ^ r)) ∷ []

    abbrev v2 : List (Text × ℤ)
    v2 = (codes "#y", signed_word x) ∷ v1

    abbrev v3 : List (Text × ℤ)
    v3 = (codes "#y", f.high) ∷ v2

    abbrev v4 : List (Text × ℤ)
    v4 = (codes "#u", signed_word (first_with m r x)) ∷ v3

    abbrev v5 : List (Text × ℤ)
    v5 = (codes "#y", signed_word n) ∷ v4

    abbrev v6 : List (Text × ℤ)
    v6 = (codes "#y", pos (n % 256 ^ r)) ∷ v5

    abbrev v7 : List (Text × ℤ)
    v7 = (codes "#d", g.high) ∷ v6

    abbrev v8 : List (Text × ℤ)
    v8 = (codes "#s", g.quotient) ∷ v7

    abbrev v9 : List (Text × ℤ)
    v9 = (codes "#s", pos (part_of x (4 - r) r)) ∷ v8

    abbrev v10 : List (Text × ℤ)
    v10 = (codes "#d", signed_word (with_part n 0 r (x / 256 ^ (4 - r)))) ∷ v9

    pub spread_makes : MakesTwo (steps_with (ints_in (Some (compound (filling_fields page (pos i) (pos r))))) spread_steps) s (first_with m r x) (second_with n r 4 x)
    spread_makes =
        let e : r ≡ r + 4 - 4 = omega arith in
        record {
          state = nest s v10;
          straight =
              straight_combine (codes "#u") (scale_of stem_byte r) remainder (signed_word m) (pos (256 ^ r)) _ _ s (nest s v10) eu (byte_scale s c r hr [] refl) f.low
              (straight_assign (codes "#y") (codes "#s") (signed_word x) _ (nest s v1) (nest s v10) es
              (straight_combine (codes "#y") (scale_of stem_byte r) multiply (signed_word x) (pos (256 ^ r)) f.high _ (nest s v2) (nest s v10) refl (byte_scale s c r hr v2 refl) f.scales
              (straight_combine (codes "#u") (codes "#y") add _ f.high _ _ (nest s v3) (nest s v10) refl refl f.added
              (straight_assign (codes "#y") (codes "#d") (signed_word n) _ (nest s v4) (nest s v10) ed
              (straight_combine (codes "#y") (scale_of stem_byte r) remainder (signed_word n) (pos (256 ^ r)) _ _ (nest s v5) (nest s v10) refl (byte_scale s c r hr v5 refl) g.low
              (straight_combine (codes "#d") (codes "#y") subtract (signed_word n) _ g.high _ (nest s v6) (nest s v10) ed refl g.differs
              (straight_combine (codes "#s") (scale_of stem_rest r) divide (signed_word x) (pos (256 ^ (4 - r))) g.quotient _ (nest s v7) (nest s v10) es (rest_scale s c r lr hr v7 refl) g.divided
              (straight_combine (codes "#s") (scale_of stem_byte r) remainder g.quotient (pos (256 ^ r)) _ _ (nest s v8) (nest s v10) refl (byte_scale s c r hr v8 refl) g.new
              (straight_combine (codes "#d") (codes "#s") add g.high _ _ _ (nest s v9) (nest s v10) refl refl g.added
              (straight_none (nest s v10)))))))))));
          steady = steady_nest s v10 refl;
          first = refl;
          number = refl;
          second = ap (λ k. Some (signed_word (with_part n 0 k (x / 256 ^ (4 - r))))) e;
        }

  -- two bytes, from the last byte of a word on
  abbrev p : Changed m x 3 1
  p = changed m x 3 1 hm hx (omega arith) (omega arith) (omega arith) (omega arith)

  abbrev q : Second n x 1 1
  q = second_word n x 1 1 hn hx (omega arith) (omega arith) (omega arith) (omega arith)

  abbrev w1 : List (Text × ℤ)
  w1 = (codes "#y", signed_word m) ∷ []

  abbrev w2 : List (Text × ℤ)
  w2 = (codes "#y", p.quotient) ∷ w1

  abbrev w3 : List (Text × ℤ)
  w3 = (codes "#y", pos (part_of m 3 1)) ∷ w2

  abbrev w4 : List (Text × ℤ)
  w4 = (codes "#z", signed_word x) ∷ w3

  abbrev w5 : List (Text × ℤ)
  w5 = (codes "#z", pos (x % 256 ^ 1)) ∷ w4

  abbrev w6 : List (Text × ℤ)
  w6 = (codes "#z", p.difference) ∷ w5

  abbrev w7 : List (Text × ℤ)
  w7 = (codes "#z", p.scaled) ∷ w6

  abbrev w8 : List (Text × ℤ)
  w8 = (codes "#u", signed_word (with_part m 3 1 x)) ∷ w7

  abbrev w9 : List (Text × ℤ)
  w9 = (codes "#y", signed_word n) ∷ w8

  abbrev w10 : List (Text × ℤ)
  w10 = (codes "#y", pos (n % 256 ^ 1)) ∷ w9

  abbrev w11 : List (Text × ℤ)
  w11 = (codes "#d", q.high) ∷ w10

  abbrev w12 : List (Text × ℤ)
  w12 = (codes "#s", q.quotient) ∷ w11

  abbrev w13 : List (Text × ℤ)
  w13 = (codes "#s", pos (part_of x 1 1)) ∷ w12

  abbrev w14 : List (Text × ℤ)
  w14 = (codes "#d", signed_word (with_part n 0 1 (x / 256 ^ 1))) ∷ w13

  pub half_makes : MakesTwo half_over_steps s (first_with m 3 x) (second_with n 3 2 x)
  half_makes = record {
    state = nest s w14;
    straight =
        straight_assign (codes "#y") (codes "#u") (signed_word m) _ s (nest s w14) eu
        (straight_combine (codes "#y") (scale_of stem_byte 3) divide (signed_word m) _ p.quotient _ (nest s w1) (nest s w14) refl (byte_scale s c 3 (omega arith) w1 refl) p.divided
        (straight_combine (codes "#y") (scale_of stem_byte 1) remainder p.quotient _ _ _ (nest s w2) (nest s w14) refl (byte_scale s c 1 (omega arith) w2 refl) p.old
        (straight_assign (codes "#z") (codes "#s") (signed_word x) _ (nest s w3) (nest s w14) es
        (straight_combine (codes "#z") (scale_of stem_byte 1) remainder (signed_word x) _ _ _ (nest s w4) (nest s w14) refl (byte_scale s c 1 (omega arith) w4 refl) p.new
        (straight_combine (codes "#z") (codes "#y") subtract _ _ p.difference _ (nest s w5) (nest s w14) refl refl p.differs
        (straight_combine (codes "#z") (scale_of stem_byte 3) multiply p.difference _ p.scaled _ (nest s w6) (nest s w14) refl (byte_scale s c 3 (omega arith) w6 refl) p.scales
        (straight_combine (codes "#u") (codes "#z") add (signed_word m) p.scaled _ _ (nest s w7) (nest s w14) eu refl p.added
        (straight_assign (codes "#y") (codes "#d") (signed_word n) _ (nest s w8) (nest s w14) ed
        (straight_combine (codes "#y") (scale_of stem_byte 1) remainder (signed_word n) _ _ _ (nest s w9) (nest s w14) refl (byte_scale s c 1 (omega arith) w9 refl) q.low
        (straight_combine (codes "#d") (codes "#y") subtract (signed_word n) _ q.high _ (nest s w10) (nest s w14) ed refl q.differs
        (straight_combine (codes "#s") (scale_of stem_byte 1) divide (signed_word x) _ q.quotient _ (nest s w11) (nest s w14) es (byte_scale s c 1 (omega arith) w11 refl) q.divided
        (straight_combine (codes "#s") (scale_of stem_byte 1) remainder q.quotient _ _ _ (nest s w12) (nest s w14) refl (byte_scale s c 1 (omega arith) w12 refl) q.new
        (straight_combine (codes "#d") (codes "#s") add q.high _ _ _ (nest s w13) (nest s w14) refl refl q.added
        (straight_none (nest s w14)))))))))))))));
    steady = steady_nest s w14 refl;
    first = ap (λ k. Some (signed_word k)) (last_changed m x hm);
    number = refl;
    second = refl;
  }
