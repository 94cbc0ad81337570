-- And, or and xor do what they are to do.
use Rattle.std.proofs.Common.{◌≡◌, ℕ, ◌*◌, ◌/◌, ◌%◌, ◌<◌, List, [], ◌∷◌, Some, true, refl, sym, ap, ◌∙◌, subst, arith, mod-lt}
use Rattle.std.specs.Prelude.{ℤ, pos, ◌+ℤ◌, ◌-ℤ◌, ◌*ℤ◌, codes, bit_and, option_and_then}
use Rattle.std.specs.Int.{w32}
use Rattle.std.proofs.lemmas.Option.{same_Some}
use Rattle.mc_nbt.specs.Tree.{Tree, int, key, place, select}
use Rattle.mc_nbt.specs.Word.{is_int}
use Rattle.mc_cmd.specs.Form.{Text}
use Rattle.mc_cmd.specs.World.{wrapped, floor_by}
use Rattle.wm_ast.specs.Integer.{iand, ior, ixor}
use Rattle.cc_line.specs.Sight.{in_rest}
use Rattle.cc_line.specs.Key.{key_choice, key_low, key_high, key_and, key_raised}
use Rattle.cc_line.specs.Standing.{Standing}
use Rattle.cc_line.specs.State.{State, Site, number_at, selected, with_copy, with_score, with_set}
use Rattle.cc_line.specs.Step.{Step, copy_site, after_act}
use Rattle.cc_line.specs.Core.{Straight}
use Rattle.cc_line.specs.OpenStep.{HasSomeInts, steps_names}
use Rattle.cc_line.specs.Item.{fill_item, first, join, no_more, steps_items, filled_steps}
use Rattle.cc_line.proofs.RunLemmas.{Leads, leads_none, leads_join, straight_leads}
use Rattle.cc_line.proofs.SettleLemmas.{with_two, score_kept}
use Rattle.cc_line.proofs.StandingLemmas.{with_constants, constants_set}
use Rattle.cc_line.proofs.TableLemmas.{low_table, high_table, byte_and_table, raised_and_table}
use Rattle.cc_line.proofs.Words.{score}
use Rattle.cc_bits.specs.Line.{choice_site}
use Rattle.cc_bits.specs.Digit.{told_steps, split_steps, found_steps, both_items, sum_steps, less_both, or_body, xor_body, and_items, or_items, xor_items}
use Rattle.cc_bits.proofs.LookLemmas.{Near, near_then, near_two, near_standing, final, final_near, final_straight, leads_call, leads_fill, Comes}
use Rattle.cc_bits.proofs.Digits.{low_half, high_half_is, Placed, placed_low, placed_high, put_together, and_is, or_is, xor_is}

-- ---- the halves as the lines make them

abbrev Low : ℤ → ℤ
Low z = z -ℤ (pos 65536 *ℤ floor_by z 65536)

abbrev High : ℤ → ℤ
High z = wrapped (floor_by z 65536)

low_placed : (m : ℕ) → m < 4294967296 → Placed (m % 65536) (Low (score m))
low_placed m h = subst (Placed (m % 65536)) (sym (same_Some _ _ (low_half m h))) (placed_low (m % 65536) (mod-lt m (omega arith)))

high_placed : (m : ℕ) → m < 4294967296 → Placed (m / 65536) (High (score m))
high_placed m h = subst (Placed (m / 65536)) (sym (high_half_is m h)) (placed_high m h)

-- ---- the lines

-- a key of the compound, and an element of a standing table
abbrev told_site : Text → Site
told_site k = record { store = in_rest; name = key_choice; parts = key k ∷ [] }

abbrev table_at : Text → ℤ → Site
table_at k z = record { store = in_rest; name = k; parts = place z ∷ [] }

-- a copy of what stands is as good as the number itself
copied : (p q : Site) (t : Tree) (u : State) → selected u q ≡ Some t → after_act (copy_site p q) u ≡ with_set u p t
copied p q t u e = ap (with_copy u p) e

-- what stands in the table of two bytes
abbrev found : State → Text → ℕ → ℕ → ℤ
found s k a b = number_at (option_and_then (λ u. select u (place (pos a) ∷ place (pos b) ∷ [])) (s.keys in_rest k))

module _ (s : State) (stands : Standing true s) (m n : ℕ) (hm : m < 4294967296) (hn : n < 4294967296) where
  abbrev two : State
  two = with_two (with_constants s) (score m) (score n)

  abbrev told : State
  told = final told_steps two

  abbrev split : List Step
  split = filled_steps choice_site split_steps told

  -- the bytes of a half, by its place in the tables
  low_found : (z : ℤ) (h : ℕ) → Placed h z → option_and_then (λ u. select u (place z ∷ [])) (s.keys in_rest key_low) ≡ Some (int (pos (h % 256)))
  low_found z h p = ap (option_and_then (λ u. select u (place z ∷ []))) (stands.low refl) ∙ low_table z p.within ∙ ap (λ i. Some (int (pos (i % 256)))) p.index

  high_found : (z : ℤ) (h : ℕ) → Placed h z → option_and_then (λ u. select u (place z ∷ [])) (s.keys in_rest key_high) ≡ Some (int (pos (h / 256)))
  high_found z h p = ap (option_and_then (λ u. select u (place z ∷ []))) (stands.high refl) ∙ high_table z p.within ∙ ap (λ i. Some (int (pos (i / 256)))) p.index

  abbrev tells_byte : Text → ℕ → State → State
  tells_byte k i u = with_set u (told_site k) (int (pos i))

  abbrev T1 : State
  T1 = tells_byte (codes "a2") (m % 65536 % 256) told

  abbrev T2 : State
  T2 = tells_byte (codes "a3") (m % 65536 / 256) T1

  abbrev T3 : State
  T3 = tells_byte (codes "a4") (m / 65536 % 256) T2

  abbrev T4 : State
  T4 = tells_byte (codes "a5") (m / 65536 / 256) T3

  abbrev T5 : State
  T5 = tells_byte (codes "b2") (n % 65536 % 256) T4

  abbrev T6 : State
  T6 = tells_byte (codes "b3") (n % 65536 / 256) T5

  abbrev T7 : State
  T7 = tells_byte (codes "b4") (n / 65536 % 256) T6

  abbrev T8 : State
  T8 = tells_byte (codes "b5") (n / 65536 / 256) T7

  -- one line: the rest of the lines goes on from the state with the byte
  abbrev takes_to : Text → Text → ℤ → State → State
  takes_to k t z u = after_act (copy_site (told_site k) (table_at t z)) u

  abbrev La : ℤ
  La = Low (score m)

  abbrev Ha : ℤ
  Ha = High (score m)

  abbrev Lb : ℤ
  Lb = Low (score n)

  abbrev Hb : ℤ
  Hb = High (score n)

  pa : Placed (m % 65536) (Low (score m))
  pa = low_placed m hm

  qa : Placed (m / 65536) (High (score m))
  qa = high_placed m hm

  pb : Placed (n % 65536) (Low (score n))
  pb = low_placed n hn

  qb : Placed (n / 65536) (High (score n))
  qb = high_placed n hn

  split_ends : final split told ≡ T8
  split_ends =
      ap (λ u. takes_to (codes "b5") key_high Hb (takes_to (codes "b4") key_low Hb (takes_to (codes "b3") key_high Lb (takes_to (codes "b2") key_low Lb (takes_to (codes "a5") key_high Ha (takes_to (codes "a4") key_low Ha (takes_to (codes "a3") key_high La u)))))))
      (copied (told_site (codes "a2")) (table_at key_low La) _ told (low_found La (m % 65536) pa))
      ∙ ap (λ u. takes_to (codes "b5") key_high Hb (takes_to (codes "b4") key_low Hb (takes_to (codes "b3") key_high Lb (takes_to (codes "b2") key_low Lb (takes_to (codes "a5") key_high Ha (takes_to (codes "a4") key_low Ha u))))))
      (copied (told_site (codes "a3")) (table_at key_high La) _ T1 (high_found La (m % 65536) pa))
      ∙ ap (λ u. takes_to (codes "b5") key_high Hb (takes_to (codes "b4") key_low Hb (takes_to (codes "b3") key_high Lb (takes_to (codes "b2") key_low Lb (takes_to (codes "a5") key_high Ha u)))))
      (copied (told_site (codes "a4")) (table_at key_low Ha) _ T2 (low_found Ha (m / 65536) qa))
      ∙ ap (λ u. takes_to (codes "b5") key_high Hb (takes_to (codes "b4") key_low Hb (takes_to (codes "b3") key_high Lb (takes_to (codes "b2") key_low Lb u))))
      (copied (told_site (codes "a5")) (table_at key_high Ha) _ T3 (high_found Ha (m / 65536) qa))
      ∙ ap (λ u. takes_to (codes "b5") key_high Hb (takes_to (codes "b4") key_low Hb (takes_to (codes "b3") key_high Lb u)))
      (copied (told_site (codes "b2")) (table_at key_low Lb) _ T4 (low_found Lb (n % 65536) pb))
      ∙ ap (λ u. takes_to (codes "b5") key_high Hb (takes_to (codes "b4") key_low Hb u))
      (copied (told_site (codes "b3")) (table_at key_high Lb) _ T5 (high_found Lb (n % 65536) pb))
      ∙ ap (λ u. takes_to (codes "b5") key_high Hb u)
      (copied (told_site (codes "b4")) (table_at key_low Hb) _ T6 (low_found Hb (n / 65536) qb))
      ∙ copied (told_site (codes "b5")) (table_at key_high Hb) _ T7 (high_found Hb (n / 65536) qb)

  split_straight : Straight split told T8
  split_straight = subst (Straight split told) split_ends (final_straight split told refl refl)

  split_near : Near told T8
  split_near = subst (Near told) split_ends (final_near split told refl)

  halves_told : HasSomeInts (selected told choice_site) (steps_names split_steps)
  halves_told = (La, refl, pa.ranged, (La, refl, pa.ranged, (Ha, refl, qa.ranged, (Ha, refl, qa.ranged, (Lb, refl, pb.ranged, (Lb, refl, pb.ranged, (Hb, refl, qb.ranged, (Hb, refl, qb.ranged, tt))))))))

  byte_ranged : (i : ℕ) → i < 256 → is_int (pos i) ≡ true
  byte_ranged i l = (placed_low i (omega arith)).ranged

  -- the bytes of the second number and of the first one are below 256
  low_byte : (i : ℕ) → i % 256 < 256
  low_byte i = mod-lt i (omega arith)

  top_byte : (i : ℕ) → i < 4294967296 → i / 65536 / 256 < 256
  top_byte i h = omega arith

  mid_byte : (i : ℕ) → i % 65536 / 256 < 256
  mid_byte i = let l : i % 65536 < 65536 = mod-lt i (omega arith) in omega arith

  bytes_told : HasSomeInts (selected T8 choice_site) (steps_names found_steps)
  bytes_told = (
    pos (m / 65536 / 256),
    refl,
    byte_ranged (m / 65536 / 256) (top_byte m hm),
    (
      pos (n / 65536 / 256),
      refl,
      byte_ranged (n / 65536 / 256) (top_byte n hn),
      (
        pos (m / 65536 % 256),
        refl,
        byte_ranged (m / 65536 % 256) (low_byte (m / 65536)),
        (
          pos (n / 65536 % 256),
          refl,
          byte_ranged (n / 65536 % 256) (low_byte (n / 65536)),
          (
            pos (m % 65536 / 256),
            refl,
            byte_ranged (m % 65536 / 256) (mid_byte m),
            (
              pos (n % 65536 / 256),
              refl,
              byte_ranged (n % 65536 / 256) (mid_byte n),
              (pos (m % 65536 % 256), refl, byte_ranged (m % 65536 % 256) (low_byte (m % 65536)), (pos (n % 65536 % 256), refl, byte_ranged (n % 65536 % 256) (low_byte (n % 65536)), tt)),
            ),
          ),
        ),
      ),
    ),
  )

  abbrev put : List Step
  put = filled_steps choice_site found_steps T8

  abbrev over : State
  over = final put T8

  result_is : over.scores (codes "#d") ≡ Some (put_together (found s key_raised (m / 65536 / 256) (n / 65536 / 256)) (found s key_and (m / 65536 % 256) (n / 65536 % 256)) (found s key_raised (m % 65536 / 256) (n % 65536 / 256)) (found s key_and (m % 65536 % 256) (n % 65536 % 256)))
  result_is = refl

  and_found : (i j : ℕ) → i < 256 → j < 256 → found s key_and i j ≡ pos (bit_and i j)
  and_found i j h k = ap number_at (ap (option_and_then (λ u. select u (place (pos i) ∷ place (pos j) ∷ []))) (stands.ands refl) ∙ byte_and_table i j h k)

  raised_found : (i j : ℕ) → i < 256 → j < 256 → found s key_raised i j ≡ pos (bit_and i j * 256)
  raised_found i j h k = ap number_at (ap (option_and_then (λ u. select u (place (pos i) ∷ place (pos j) ∷ []))) (stands.raised refl) ∙ raised_and_table i j h k)

  result : over.scores (codes "#d") ≡ Some (score (iand w32 m n))
  result =
      result_is ∙ ap Some (
      put_as _ _ _ _ _ _ _ _ (raised_found (m / 65536 / 256) (n / 65536 / 256) (top_byte m hm) (top_byte n hn)) (and_found (m / 65536 % 256) (n / 65536 % 256) (low_byte (m / 65536)) (low_byte (n / 65536)))
      (raised_found (m % 65536 / 256) (n % 65536 / 256) (mid_byte m) (mid_byte n)) (and_found (m % 65536 % 256) (n % 65536 % 256) (low_byte (m % 65536)) (low_byte (n % 65536)))
      ∙ and_is m n hm hn
      )
    where
      put_as : (a b c d a' b' c' d' : ℤ) → a ≡ a' → b ≡ b' → c ≡ c' → d ≡ d' → put_together a b c d ≡ put_together a' b' c' d'
      put_as a b c d a' b' c' d' e f g h = λ i. put_together (e i) (f i) (g i) (h i)

  both_lead : Leads both_items two over
  both_lead =
      leads_join (steps_items told_steps) (first (fill_item (codes "h_cc_bits_bytes") choice_site split_steps) (first (fill_item (codes "h_cc_bits_both") choice_site found_steps) no_more)) two told over
      (straight_leads told_steps two told (final_straight told_steps two refl refl))
      (leads_fill (codes "h_cc_bits_bytes") choice_site split_steps (first (fill_item (codes "h_cc_bits_both") choice_site found_steps) no_more) told T8 over halves_told split_straight
      (leads_fill (codes "h_cc_bits_both") choice_site found_steps no_more T8 over over bytes_told (final_straight put T8 refl refl) (leads_none over)))

  both_near : Near two over
  both_near = near_then two told over (final_near told_steps two refl) (near_then told T8 over split_near (final_near put T8 refl))

-- from a state with the numbers in `#a` and `#b`: the and comes to `#d`, and `#e` stays
record Both (u : State) (d : ℤ) : Type 0 where
  state : State
  leads : Leads both_items u state
  near : Near u state
  result : state.scores (codes "#d") ≡ Some d
  kept : state.scores (codes "#e") ≡ u.scores (codes "#e")

both : (u : State) (m n : ℕ) → m < 4294967296 → n < 4294967296 → Standing true u → u.scores (codes "#a") ≡ Some (score m) → u.scores (codes "#b") ≡ Some (score n) → Both u (score (iand w32 m n))
both u m n hm hn st ea eb =
    subst (λ v. Both v (score (iand w32 m n)))
    (ap (λ v. with_two v (score m) (score n)) (constants_set u st) ∙ ap (λ v. with_score v (codes "#b") (score n)) (score_kept u (codes "#a") (score m) ea) ∙ score_kept u (codes "#b") (score n) eb)
    (record {
      state = over u st m n hm hn;
      leads = both_lead u st m n hm hn;
      near = both_near u st m n hm hn;
      result = result u st m n hm hn;
      kept = refl;
    })

pub and_comes : (m n : ℕ) → m < 4294967296 → n < 4294967296 → Comes true and_items (codes "#d") (score m) (score n) (score (iand w32 m n))
and_comes m n hm hn = record {
  on = λ s st.
      let u : State = with_two s (score m) (score n) in
      let b : Both u (score (iand w32 m n)) = both u m n hm hn (near_standing s u (near_two s (score m) (score n)) st) refl refl in
      (b.state, leads_call (codes "h_cc_bits_and") both_items u b.state b.leads, b.near, b.result);
}

-- ---- or and xor

abbrev less_once : List Step
less_once = less_both ∷ []

abbrev less_twice : List Step
less_twice = less_both ∷ less_both ∷ []

-- the scores that are read are set
abbrev pinned_at : State → ℤ → ℤ → State
pinned_at t e d = with_score (with_score t (codes "#e") e) (codes "#d") d

pin : (t : State) (e d : ℤ) → t.scores (codes "#e") ≡ Some e → t.scores (codes "#d") ≡ Some d → pinned_at t e d ≡ t
pin t e d p q = ap (λ v. with_score v (codes "#d") d) (score_kept t (codes "#e") e p) ∙ score_kept t (codes "#d") d q

module _ (m n : ℕ) (hm : m < 4294967296) (hn : n < 4294967296) where
  abbrev E : ℤ
  E = wrapped (score m +ℤ score n)

  abbrev D : ℤ
  D = score (iand w32 m n)

  by_sum : (xs : List Step) (z : ℤ) → ((t : State) → Straight xs (pinned_at t E D) (final xs (pinned_at t E D)))
      → ((t : State) → Near (pinned_at t E D) (final xs (pinned_at t E D))) → ((t : State) → (final xs (pinned_at t E D)).scores (codes "#e") ≡ Some z)
      → (s : State) → Standing true s
      → (t : State) × Leads (join (steps_items sum_steps) (join both_items (steps_items xs))) (with_two s (score m) (score n)) t × Near (with_two s (score m) (score n)) t × (t.scores (codes "#e") ≡ Some z)
  by_sum xs z goes nears makes s st =
      let u : State = with_two s (score m) (score n) in
      let v : State = final sum_steps u in
      let un : Near u v = final_near sum_steps u refl in
      let stands : Standing true v = near_standing u v un (near_standing s u (near_two s (score m) (score n)) st) in
      let b : Both v D = both v m n hm hn stands refl refl in
      let p : pinned_at b.state E D ≡ b.state = pin b.state E D (b.kept ∙ refl) b.result in
      let t : State = final xs b.state in
      let g : Straight xs b.state t = subst (λ w. Straight xs w (final xs w)) p (goes b.state) in
      let r : Near b.state t = subst (λ w. Near w (final xs w)) p (nears b.state) in
      let e : t.scores (codes "#e") ≡ Some z = subst (λ w. (final xs w).scores (codes "#e") ≡ Some z) p (makes b.state) in (
        t,
        leads_join (steps_items sum_steps) (join both_items (steps_items xs)) u v t (straight_leads sum_steps u v (final_straight sum_steps u refl refl))
            (leads_join both_items (steps_items xs) v b.state t b.leads (straight_leads xs b.state t g)),
        near_then u v t un (near_then v b.state t b.near r),
        e,
      )

  pub or_comes : Comes true or_items (codes "#e") (score m) (score n) (score (ior w32 m n))
  or_comes = record {
    on = λ s st.
        let r = by_sum less_once (score (ior w32 m n)) (λ t. final_straight less_once (pinned_at t E D) refl refl) (λ t. final_near less_once (pinned_at t E D) refl) (λ t. ap Some (or_is m n hm hn)) s st in
        (r.0, leads_call (codes "h_cc_bits_or") or_body (with_two s (score m) (score n)) r.0 r.1, r.2, r.3);
  }

  pub xor_comes : Comes true xor_items (codes "#e") (score m) (score n) (score (ixor w32 m n))
  xor_comes = record {
    on = λ s st.
        let r = by_sum less_twice (score (ixor w32 m n)) (λ t. final_straight less_twice (pinned_at t E D) refl refl) (λ t. final_near less_twice (pinned_at t E D) refl) (λ t. ap Some (xor_is m n hm hn)) s st in
        (r.0, leads_call (codes "h_cc_bits_xor") xor_body (with_two s (score m) (score n)) r.0 r.1, r.2, r.3);
  }
