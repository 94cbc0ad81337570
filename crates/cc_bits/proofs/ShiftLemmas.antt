-- Shifts and rotations do what they are to do.
use Rattle.std.proofs.Common.{◌≡◌, ℕ, zero, suc, ◌+◌, ◌-◌, ◌/◌, ◌%◌, ◌^◌, ◌<◌, min, List, [], ◌∷◌, Option, Some, Bool, true, false, unwrap_or, refl, sym, ap, ap₂, ◌∙◌, subst, arith, ⊎_elim, ◌⊎◌, inl, inr, mod-lt, mod-eq_of_lt, div-le_self, div-one}
use Rattle.std.specs.Prelude.{ℤ, pos, ◌+ℤ◌, ◌*ℤ◌, if◌then◌else◌, codes, option_and_then}
use Rattle.std.specs.Int.{w32}
use Rattle.std.proofs.lemmas.Bool.{cases_lt, lt-ltb}
use Rattle.std.proofs.lemmas.Nat.{pow_below, pow_pos}
use Rattle.std.proofs.lemmas.Option.{same_Some}
use Rattle.mc_nbt.specs.Tree.{Tree, int, compound, no_fields, key, place, select}
use Rattle.mc_nbt.specs.Word.{is_int}
use Rattle.mc_cmd.specs.Form.{Text}
use Rattle.mc_cmd.specs.Command.{exactly, from}
use Rattle.mc_cmd.specs.World.{wrapped, is_in, quotient, floor_by}
use Rattle.wm_ast.specs.Integer.{ishl, ishr_s, ishr_u, irotl, irotr, rotated}
use Rattle.cc_line.specs.declared.table.Table.{Table}
use Rattle.cc_line.specs.declared.table.Table.TheVariants.{ShiftLeft, ShiftRightSigned, ShiftRight, RotateLeft, RotateRight}
use Rattle.cc_line.specs.Sight.{in_rest}
use Rattle.cc_line.specs.Key.{key_choice, key_left, key_right_signed, key_right, key_turn_left, key_turn_right}
use Rattle.cc_line.specs.Standing.{Standing}
use Rattle.cc_line.specs.State.{State, selected, number_at, with_score, with_set}
use Rattle.cc_line.specs.Table.{table_tree, power}
use Rattle.cc_line.specs.Step.{Step}
use Rattle.cc_line.specs.Core.{Straight}
use Rattle.cc_line.specs.OpenStep.{OpenStep, HasSomeInts, steps_names}
use Rattle.cc_line.specs.Item.{fill_item, first, steps_items, filled_steps}
use Rattle.cc_line.specs.Within.{steps_within}
use Rattle.cc_line.proofs.RunLemmas.{Leads, leads_join, straight_leads}
use Rattle.cc_line.proofs.StandingLemmas.{with_constants, constants_set}
use Rattle.cc_line.proofs.SettleLemmas.{with_two, settled, settled_straight, works, pinned}
use Rattle.cc_line.proofs.TableLemmas.{shift_left_table, shift_signed_table, shift_right_table, rotate_left_table, rotate_right_table}
use Rattle.cc_line.proofs.Words.{score, low_score, unwrapped_pos}
use Rattle.cc_bits.specs.Line.{choice_site}
use Rattle.cc_bits.specs.Shifting.{count_steps, look_number, look_row, filled_items, shl_steps, shr_s_steps, shr_u_steps, rotate_steps, shl_items, shr_s_items, shr_u_items, rotl_items, rotr_items}
use Rattle.cc_bits.proofs.LookLemmas.{Near, near_then, near_settled, near_score, final_near, final_straight, leads_fill, Comes}
use Rattle.cc_bits.proofs.ShiftFacts.{count_is, shl_is, shr_s_is, shr_s_by, half_of, half_is, rotation_is, rotation_by_none, to_the_right, shr_u_by_half}

-- ---- the count, and what is looked up for it

module _ (s : State) (x : ℤ) (n : ℕ) (h : n < 4294967296) where
  abbrev two : State
  two = with_two (with_constants s) x (score n)

  abbrev reduced : ℤ → State
  reduced q =
      with_set (with_set (with_score (with_two (with_constants s) x (score n)) (codes "#b") q) choice_site (compound no_fields))
      (record { store = in_rest; name = key_choice; parts = key (codes "k") ∷ [] }) (int q)

  abbrev begun : State
  begun = reduced (pos (n % 32))

  counted : Straight count_steps two begun
  counted = subst (Straight count_steps two) (ap reduced (same_Some _ _ (count_is n h))) (final_straight count_steps two refl refl)

  begun_near : Near two begun
  begun_near = subst (Near two) (ap reduced (same_Some _ _ (count_is n h))) (final_near count_steps two refl)

  told_int : is_int (pos (n % 32)) ≡ true
  told_int = let l : n % 32 < 32 = mod-lt n (omega arith) in lt-ltb (n % 32) 2147483648 (omega arith)

  -- one number
  abbrev with_number : ℤ → State
  with_number v = with_score begun (codes "#p") v

  number_near : (v : ℤ) → Near begun (with_number v)
  number_near v = near_score begun (codes "#p") v refl

  -- two numbers
  abbrev with_row : ℤ → ℤ → State
  with_row v w = with_score (with_score begun (codes "#p") v) (codes "#q") w

  row_near : (v w : ℤ) → Near begun (with_row v w)
  row_near v w = near_then begun (with_number v) (with_row v w) (number_near v) (near_score (with_number v) (codes "#q") w refl)

  -- the steps behind them
  shift_comes : (f : Text) (ls : List OpenStep) (xs : List Step) (u v : State)
      → HasSomeInts (selected begun choice_site) (steps_names ls)
      → Straight (filled_steps choice_site ls begun) begun u → Straight xs u v → Leads (filled_items f ls xs) two v
  shift_comes f ls xs u v i g r =
      leads_join (steps_items count_steps) (first (fill_item f choice_site ls) (steps_items xs)) two begun v
      (straight_leads count_steps two begun counted)
      (leads_fill f choice_site ls (steps_items xs) begun u v i g (straight_leads xs u v r))

  -- the same from the state itself, where constants stand
  shift_ends : (f : Text) (ls : List OpenStep) (xs : List Step) (z : ℤ) (u : State) → Standing false s
      → HasSomeInts (selected begun choice_site) (steps_names ls) → Straight (filled_steps choice_site ls begun) begun u → Near begun u
      → Straight xs u (settled xs u) → works xs ≡ true → (settled xs u).scores (codes "#a") ≡ Some z
      → (t : State) × Leads (filled_items f ls xs) (with_two s x (score n)) t × Near (with_two s x (score n)) t × (t.scores (codes "#a") ≡ Some z)
  shift_ends f ls xs z u st i g near r k e =
      subst (λ v. (t : State) × Leads (filled_items f ls xs) (with_two v x (score n)) t × Near (with_two v x (score n)) t × (t.scores (codes "#a") ≡ Some z)) (constants_set s st) (
        settled xs u,
        shift_comes f ls xs u (settled xs u) i g r,
        near_then two begun (settled xs u) begun_near (near_then begun u (settled xs u) near (near_settled xs u k)),
        e,
      )

-- one number looked up, and what the steps make with it
number_comes : (f k : Text) (t : Table) (xs : List Step) (m n : ℕ) (hn : n < 4294967296) (v z : ℤ) → ((s : State) → Standing false s → (begun s (score m) n hn).keys in_rest k ≡ Some (table_tree t))
    → select (table_tree t) (place (pos (n % 32)) ∷ []) ≡ Some (int v) → steps_within 0 xs ≡ true → works xs ≡ true
    → ((s : State) → pinned xs (with_number s (score m) n hn v) ≡ true) → ((s : State) → (settled xs (with_number s (score m) n hn v)).scores (codes "#a") ≡ Some z)
    → Comes false (filled_items f (look_number k) xs) (codes "#a") (score m) (score n) z
number_comes f k t xs m n hn v z stands e w works pin result = record {
  on = λ s st.
      let u : State = with_number s (score m) n hn v in
      let looked : Option Tree → State = λ o. with_number s (score m) n hn (number_at (option_and_then (λ x. select x (place (pos (n % 32)) ∷ [])) o)) in
      shift_ends s (score m) n hn f (look_number k) xs z u st (pos (n % 32), refl, told_int s (score m) n hn, tt)
      (subst (Straight (filled_steps choice_site (look_number k) (begun s (score m) n hn)) (begun s (score m) n hn)) (ap looked (stands s st) ∙ ap (λ o. with_number s (score m) n hn (number_at o)) e) (final_straight (filled_steps choice_site (look_number k) (begun s (score m) n hn)) (begun s (score m) n hn) refl refl))
      (number_near s (score m) n hn v) (settled_straight xs u w (pin s)) works (result s);
}

-- two numbers
row_comes : (f k : Text) (t : Table) (xs : List Step) (m n : ℕ) (hn : n < 4294967296) (v y z : ℤ) → ((s : State) → Standing false s → (begun s (score m) n hn).keys in_rest k ≡ Some (table_tree t))
    → select (table_tree t) (place (pos (n % 32)) ∷ place (pos 0) ∷ []) ≡ Some (int v) → select (table_tree t) (place (pos (n % 32)) ∷ place (pos 1) ∷ []) ≡ Some (int y)
    → steps_within 0 xs ≡ true → works xs ≡ true
    → ((s : State) → pinned xs (with_row s (score m) n hn v y) ≡ true) → ((s : State) → (settled xs (with_row s (score m) n hn v y)).scores (codes "#a") ≡ Some z)
    → Comes false (filled_items f (look_row k) xs) (codes "#a") (score m) (score n) z
row_comes f k t xs m n hn v y z stands e d w works pin result = record {
  on = λ s st.
      let u : State = with_row s (score m) n hn v y in
      let looked : Option Tree → State = λ o. with_row s (score m) n hn (number_at (option_and_then (λ x. select x (place (pos (n % 32)) ∷ place (pos 0) ∷ [])) o)) (number_at (option_and_then (λ x. select x (place (pos (n % 32)) ∷ place (pos 1) ∷ [])) o)) in
      shift_ends s (score m) n hn f (look_row k) xs z u st (pos (n % 32), refl, told_int s (score m) n hn, (pos (n % 32), refl, told_int s (score m) n hn, tt))
      (subst (Straight (filled_steps choice_site (look_row k) (begun s (score m) n hn)) (begun s (score m) n hn)) (ap looked (stands s st) ∙ ap₂ (λ o p. with_row s (score m) n hn (number_at o) (number_at p)) e d) (final_straight (filled_steps choice_site (look_row k) (begun s (score m) n hn)) (begun s (score m) n hn) refl refl))
      (row_near s (score m) n hn v y) (settled_straight xs u w (pin s)) works (result s);
}

-- ---- powers, and quotients by them

pub power_is : (k : ℕ) → k < 32 → power k ≡ 2 ^ k
power_is k l = ap (λ j. 2 ^ j) (mod-eq_of_lt l)

power_low : (k : ℕ) → k < 31 → score (power k) ≡ pos (2 ^ k)
power_low k l = ap score (power_is k (omega arith)) ∙ low_score (2 ^ k) (pow_below k 31 l)

quotient_by : (a : ℤ) (b : ℕ) → 0 < b → quotient a (pos b) ≡ Some (wrapped (floor_by a b))
quotient_by a zero h = absurd (omega arith)
quotient_by a (suc b) h = refl

pub by_power : (a : ℤ) (k : ℕ) → k < 31 → unwrap_or (quotient a (score (power k))) a ≡ wrapped (floor_by a (2 ^ k))
by_power a k l = ap (λ p. unwrap_or (quotient a p) a) (power_low k l) ∙ ap (λ o. unwrap_or o a) (quotient_by a (2 ^ k) (pow_pos k))

-- ---- to the left

pub shl_comes : (m n : ℕ) → m < 4294967296 → n < 4294967296 → Comes false shl_items (codes "#a") (score m) (score n) (score (ishl w32 m n))
shl_comes m n hm hn =
    let l : n % 32 < 32 = mod-lt n (omega arith) in
    let e : wrapped (score m *ℤ score (power (n % 32))) ≡ score (ishl w32 m n) = ap (λ p. wrapped (score m *ℤ score p)) (power_is (n % 32) l) ∙ shl_is m n hm in
    number_comes (codes "h_cc_bits_shl") key_left ShiftLeft shl_steps m n hn (score (power (n % 32))) (score (ishl w32 m n)) (λ s st. st.left) (shift_left_table (n % 32) l) refl refl (λ s. refl) (λ s. ap Some e)

-- ---- to the right with the sign

abbrev shr_s_lines : ℤ → ℤ → ℤ → ℤ
shr_s_lines a p k = if is_in (exactly (pos 31)) k then wrapped (floor_by (unwrap_or (quotient a p) a) 2) else unwrap_or (quotient a p) a

abbrev last_half : ℤ → Bool → ℤ
last_half q b = if b then wrapped (floor_by q 2) else q

below_31 : (k : ℕ) → k < 31 → is_in (exactly (pos 31)) (pos k) ≡ false
below_31 k l = grind arith

shr_s_value : (m n : ℕ) → m < 4294967296 → shr_s_lines (score m) (score (power (min (n % 32) 30))) (pos (n % 32)) ≡ score (ishr_s w32 m n)
shr_s_value m n h =
    let l : n % 32 < 32 = mod-lt n (omega arith) in
    ⊎_elim
    (λ b.
    let e : min (n % 32) 30 ≡ n % 32 = omega arith in
    ap (λ j. shr_s_lines (score m) (score (power j)) (pos (n % 32))) e
    ∙ ap (last_half (unwrap_or (quotient (score m) (score (power (n % 32)))) (score m))) (below_31 (n % 32) b)
    ∙ by_power (score m) (n % 32) b ∙ shr_s_by m n h)
    (λ g.
    let e : min (n % 32) 30 ≡ 30 = omega arith in
    let d : 31 ≡ n % 32 = omega arith in
    ap (λ j. shr_s_lines (score m) (score (power j)) (pos (n % 32))) e
    ∙ ap (λ k. shr_s_lines (score m) (score (power 30)) (pos k)) (sym d)
    ∙ ap (λ q. wrapped (floor_by q 2)) (by_power (score m) 30 (omega arith))
    ∙ shr_s_is m n 30 2 h (ap (λ k. 2 ^ k) d))
    (cases_lt (n % 32) 31)

pub shr_s_comes : (m n : ℕ) → m < 4294967296 → n < 4294967296 → Comes false shr_s_items (codes "#a") (score m) (score n) (score (ishr_s w32 m n))
shr_s_comes m n hm hn =
    let l : n % 32 < 32 = mod-lt n (omega arith) in
    number_comes (codes "h_cc_bits_shr_s") key_right_signed ShiftRightSigned shr_s_steps m n hn (score (power (min (n % 32) 30))) (score (ishr_s w32 m n)) (λ s st. st.right_signed) (shift_signed_table (n % 32) l) refl refl (λ s. refl) (λ s. ap Some (shr_s_value m n hm))

-- ---- to the right with zeros

abbrev shr_u_lines : ℤ → ℤ → ℤ → ℤ → ℤ
shr_u_lines a h p k = if is_in (from (pos 1)) k then unwrap_or (quotient h p) h else a

shr_u_value : (m k : ℕ) → m < 4294967296 → k < 32 → shr_u_lines (score m) (half_of (score m)) (score (power (k - 1))) (pos k) ≡ score (m / 2 ^ k)
shr_u_value m zero h l = ap score (sym (div-one m))
shr_u_value m (suc j) h l =
    let e : suc j - 1 ≡ j = omega arith in
    let c : is_in (from (pos 1)) (pos (suc j)) ≡ true = grind arith in
    ap (λ b. if b then unwrap_or (quotient (half_of (score m)) (score (power (suc j - 1)))) (half_of (score m)) else score m) c
    ∙ ap₂ (λ q i. unwrap_or (quotient q (score (power i))) q) (half_is m h) e
    ∙ by_power (pos (m / 2)) j (omega arith)
    ∙ shr_u_by_half m j h

pub shr_u_comes : (m n : ℕ) → m < 4294967296 → n < 4294967296 → Comes false shr_u_items (codes "#a") (score m) (score n) (score (ishr_u w32 m n))
shr_u_comes m n hm hn =
    let l : n % 32 < 32 = mod-lt n (omega arith) in
    number_comes (codes "h_cc_bits_shr_u") key_right ShiftRight shr_u_steps m n hn (score (power (n % 32 - 1))) (score (ishr_u w32 m n)) (λ s st. st.right) (shift_right_table (n % 32) l) refl refl (λ s. refl) (λ s. ap Some (shr_u_value m (n % 32) hm l))

-- ---- rotations

abbrev rotate_lines : ℤ → ℤ → ℤ → ℤ → ℤ → ℤ
rotate_lines a h p q k = wrapped (wrapped (a *ℤ p) +ℤ (if is_in (exactly (pos 0)) k then pos 0 else unwrap_or (quotient h q) h))

-- by r, where the count is none exactly where r is
rotate_value : (m r k : ℕ) → m < 4294967296 → r < 32 → ((r ≡ 0) × (k ≡ 0)) ⊎ ((0 < r) × (0 < k)) → rotate_lines (score m) (half_of (score m)) (score (power r)) (score (power (31 - r))) (pos k) ≡ score (rotated w32 m r)
rotate_value m r k h l (inl e) =
    ap₂ (λ i j. rotate_lines (score m) (half_of (score m)) (score (power i)) (score (power (31 - i))) (pos j)) e.0 e.1
    ∙ rotation_by_none m h ∙ ap (λ i. score (rotated w32 m i)) (sym e.0)
rotate_value m r k h l (inr e) =
    let c : is_in (exactly (pos 0)) (pos k) ≡ false = apart k e.1 in
    let sum : 31 - r + r ≡ 31 = omega arith in
    let x : ℕ = m / 2 / 2 ^ (31 - r) in
    let small : m / 2 / 2 ^ (31 - r) < 2147483648 = omega (arith, div-le_self (m / 2) (2 ^ (31 - r))) in
    ap (λ b. wrapped (wrapped (score m *ℤ score (power r)) +ℤ (if b then pos 0 else unwrap_or (quotient (half_of (score m)) (score (power (31 - r)))) (half_of (score m))))) c
    ∙ ap (λ q. wrapped (wrapped (score m *ℤ score (power r)) +ℤ unwrap_or (quotient q (score (power (31 - r)))) q)) (half_is m h)
    ∙ ap₂ (λ p q. wrapped (wrapped (score m *ℤ score p) +ℤ q)) (power_is r l) (by_power (pos (m / 2)) (31 - r) (omega arith) ∙ unwrapped_pos (m / 2 / 2 ^ (31 - r)) small)
    ∙ rotation_is m r (31 - r) h sum
  where
    apart : (k : ℕ) → 0 < k → is_in (exactly (pos 0)) (pos k) ≡ false
    apart k l = grind arith

pub rotl_comes : (m n : ℕ) → m < 4294967296 → n < 4294967296 → Comes false rotl_items (codes "#a") (score m) (score n) (score (irotl w32 m n))
rotl_comes m n hm hn =
    let k : ℕ = n % 32 in
    let l : n % 32 < 32 = mod-lt n (omega arith) in
    row_comes (codes "h_cc_bits_rotl") key_turn_left RotateLeft rotate_steps m n hn (score (power (n % 32))) (score (power (31 - n % 32))) (score (irotl w32 m n))
    (λ s st. st.turn_left) (rotate_left_table (n % 32) 0 l (omega arith)) (rotate_left_table (n % 32) 1 l (omega arith)) refl refl (λ s. refl)
    (λ s. ap Some (rotate_value m (n % 32) (n % 32) hm l (⊎_elim (λ z. let e : n % 32 ≡ 0 = omega arith in inl (e, e)) (λ p. inr (p, p)) (cases_lt (n % 32) 1))))

pub rotr_comes : (m n : ℕ) → m < 4294967296 → n < 4294967296 → Comes false rotr_items (codes "#a") (score m) (score n) (score (irotr w32 m n))
rotr_comes m n hm hn =
    let l : n % 32 < 32 = mod-lt n (omega arith) in
    let r : ℕ = (32 - n % 32) % 32 in
    let small : (32 - n % 32) % 32 < 32 = mod-lt (32 - n % 32) (omega arith) in
    row_comes (codes "h_cc_bits_rotr") key_turn_right RotateRight rotate_steps m n hn (score (power ((32 - n % 32) % 32))) (score (power (31 - (32 - n % 32) % 32))) (score (irotr w32 m n))
    (λ s st. st.turn_right) (rotate_right_table (n % 32) 0 l (omega arith)) (rotate_right_table (n % 32) 1 l (omega arith)) refl refl (λ s. refl)
    (λ s. ap Some (
    rotate_value m ((32 - n % 32) % 32) (n % 32) hm small (⊎_elim (λ z. inl (omega arith, omega arith)) (λ p. inr (omega arith, p)) (cases_lt (n % 32) 1))
    ∙ ap score (to_the_right m n hm)
    ))
