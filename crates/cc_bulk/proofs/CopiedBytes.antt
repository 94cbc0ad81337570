-- A byte of a copy is copied.
use Rattle.std.proofs.Common.{◌≡◌, ℕ, suc, ◌+◌, ◌-◌, ◌*◌, ◌%◌, ◌<◌, ◌≤◌, List, [], ◌∷◌, ◌++◌, length, Some, Bool, true, false, not, ◌&&◌, ltb, refl, sym, ap, ◌∙◌, subst, ⊎_elim, arith, slice_set, slice_index}
use Rattle.std.specs.Prelude.{ℤ, pos, negsuc, ◌+ℤ◌, nat_le, if◌then◌else◌, option_and_then, codes}
use Rattle.std.specs.Int.{w32, cast_signed, cast_unsigned}
use Rattle.std.proofs.lemmas.Bool.{lt-ltb, le-ltb, le-leb, lt-leb, cases_lt}
use Rattle.mc_nbt.specs.Tree.{int, select}
use Rattle.mc_cmd.specs.Command.{subtract, add, greater}
use Rattle.mc_cmd.specs.World.{wrapped, or_zero, both_compare}
use Rattle.wm_ast.specs.declared.operation.LoadOp.TheVariants.{I32Load8U}
use Rattle.wm_ast.specs.declared.operation.StoreOp.TheVariants.{I32Store8}
use Rattle.wm_ast.specs.Simple.{address}
use Rattle.wm_ast.specs.Store.{items_at}
use Rattle.cc_line.specs.Key.{key_entry}
use Rattle.cc_line.specs.Sight.{in_rest}
use Rattle.cc_line.specs.State.{State, number_at, place_at, with_place, with_score}
use Rattle.cc_line.specs.Step.{increase, decrease, combine, load_place, keep_place, load_site, keep_site, run_act, when, with_kept, conds_hold}
use Rattle.cc_line.specs.Item.{Items, no_more, first, join, step_item, steps_items}
use Rattle.cc_line.proofs.RunLemmas.{Leads, leads_none, leads_join}
use Rattle.cc_page.specs.Pages.{pages_bytes}
use Rattle.cc_page.proofs.ShownLemmas.{pages_many}
use Rattle.cc_mem.specs.Address.{at_c}
use Rattle.cc_bulk.specs.Copy.{count_site, goes_up, goes_down, toward_steps, onward_steps, copy_byte_items}
use Rattle.cc_bulk.specs.Fill.{at_a}
use Rattle.cc_bulk.specs.FillLaw.{Operands, Open, Turns, counting, turn_at, next_at, CopiesGoOn}
use Rattle.cc_mem.specs.Law.{Does, LoadsAreDone, StoresAreDone}
use Rattle.cc_mem.specs.Load.{at_d, load_items}
use Rattle.cc_mem.specs.Standing.{HasMemory}
use Rattle.cc_mem.specs.Store.{store_items}
use Rattle.cc_bulk.proofs.FilledBytes.{Puts, byte_put}
use Rattle.cc_mem.proofs.Filled.{keeps}
use Rattle.cc_mem.proofs.Near.{small_int, spares_none, spares_then}
use Rattle.cc_mem.proofs.Stepping.{act_leads, when_leads, unless_leads, combines}
use Rattle.cc_bulk.proofs.Turning.{first_within, second_within, third_within, first_reads, second_reads, third_reads, operands_same, first_set, second_set, third_set, Still, still_here, still_score, still_place, before, sum_stays, rest_stays, one_more, one_less, one_read}

-- ---- three scores

-- the number of the other bytes, and the two addresses
record Has (t : State) (n a b : ℕ) : Type 0 where
  pub count : t.scores (codes "#a") ≡ Some (pos n)
  pub to : t.scores (codes "#c") ≡ Some (pos a)
  pub source : t.scores (codes "#d") ≡ Some (pos b)

module _ (t : State) (n a b : ℕ) (h : Has t n a b) where
  up_is : (v : Bool) → ltb b a ≡ v → conds_hold goes_up t ≡ (v && true)
  up_is v e =
      ap (λ x. both_compare greater x (t.scores (codes "#d")) && true) h.to
      ∙ ap (λ x. both_compare greater (Some (pos a)) x && true) h.source ∙ ap (λ x. x && true) e

  down_is : (v : Bool) → ltb b a ≡ v → conds_hold goes_down t ≡ (not v && true)
  down_is v e =
      ap (λ x. not (both_compare greater x (t.scores (codes "#d"))) && true) h.to
      ∙ ap (λ x. not (both_compare greater (Some (pos a)) x) && true) h.source ∙ ap (λ x. not x && true) e

  -- another address
  to_set : (m : ℕ) → Has (with_score t (codes "#c") (pos m)) n m b
  to_set m = record { count = h.count; to = refl; source = h.source }

  source_set : (m : ℕ) → Has (with_score t (codes "#d") (pos m)) n a m
  source_set m = record { count = h.count; to = h.to; source = refl }

-- a later state with the same places and keys, and these scores
record Later (ps : List (List ℕ)) (s t u : State) (n a b : ℕ) : Type 0 where
  pub has : Has u n a b
  pub places : u.places ≡ t.places
  pub keys : u.keys ≡ t.keys
  pub still : Still ps s u

abbrev two_sums : Items → Items
two_sums xs = first (step_item (when goes_up (combine at_c add at_a))) (first (step_item (when goes_up (combine at_d add at_a))) xs)

abbrev four_more : Items → Items
four_more xs =
    first (step_item (when goes_up (combine at_d subtract at_a)))
    (first (step_item (when goes_up (combine at_c subtract at_a)))
    (first (step_item (when goes_down (increase at_d 1))) (first (step_item (when goes_down (increase at_c 1))) xs)))

-- so many bytes behind the first ones, and back
module _ (ps : List (List ℕ)) (s t : State) (n a b : ℕ) (f : Still ps s t) where
  same_later : Has t n a b → Later ps s t t n a b
  same_later h = record { has = h; places = refl; keys = refl; still = f }

  -- bytes don't go up
  module _ (h : Has t n a b) (l : a ≤ b) (small : b < 2147483646) where
    stays_toward : (xs : Items) (w : State) → Leads xs t w → Leads (two_sums xs) t w
    stays_toward xs w g =
        let no : conds_hold goes_up t ≡ false = up_is t n a b h false (le-ltb b a l) in
        unless_leads goes_up (combine at_c add at_a) _ t w ((tt, tt), tt) no (unless_leads goes_up (combine at_d add at_a) xs t w ((tt, tt), tt) no g)

    abbrev d1 : State
    d1 = with_score t (codes "#d") (pos (suc b))

    abbrev d2 : State
    d2 = with_score d1 (codes "#c") (pos (suc a))

    down_later : Later ps s t d2 n (suc a) (suc b)
    down_later = record {
      has = to_set d1 n a (suc b) (source_set t n a b h (suc b)) (suc a);
      places = refl;
      keys = refl;
      still = still_score ps s d1 (codes "#c") (pos (suc a)) refl (still_score ps s t (codes "#d") (pos (suc b)) refl f);
    }

    down_leads : (xs : Items) (w : State) → Leads xs d2 w → Leads (four_more xs) t w
    down_leads xs w g =
        let no : conds_hold goes_up t ≡ false = up_is t n a b h false (le-ltb b a l) in
        let yes : conds_hold goes_down t ≡ true = down_is t n a b h false (le-ltb b a l) in
        let still_yes : conds_hold goes_down d1 ≡ true = down_is d1 n a (suc b) (source_set t n a b h (suc b)) false (le-ltb (suc b) a (omega arith)) in
        unless_leads goes_up (combine at_d subtract at_a) _ t w ((tt, tt), tt) no
        (unless_leads goes_up (combine at_c subtract at_a) _ t w ((tt, tt), tt) no
        (when_leads goes_down (increase at_d 1) _ t d1 w ((tt, tt), tt) yes tt (more_is (codes "#d") b h.source (omega arith))
        (when_leads goes_down (increase at_c 1) xs d1 d2 w ((tt, tt), tt) still_yes tt (more_then a h.to (omega arith)) g)))
      where
        more_is : (g : List ℕ) (m : ℕ) → t.scores g ≡ Some (pos m) → m < 2147483647 → with_score t g (wrapped (or_zero (t.scores g) +ℤ pos 1)) ≡ with_score t g (pos (suc m))
        more_is g m e k = ap (λ o. with_score t g (wrapped (or_zero o +ℤ pos 1))) e ∙ ap (with_score t g) (one_more m k)

        more_then : (m : ℕ) → t.scores (codes "#c") ≡ Some (pos m) → m < 2147483647 → with_score d1 (codes "#c") (wrapped (or_zero (t.scores (codes "#c")) +ℤ pos 1)) ≡ with_score d1 (codes "#c") (pos (suc m))
        more_then m e k = ap (λ o. with_score d1 (codes "#c") (wrapped (or_zero o +ℤ pos 1))) e ∙ ap (with_score d1 (codes "#c")) (one_more m k)

  -- bytes go up
  module _ (l : b < a) (small : a + n < 2147483648) where
    module _ (h : Has t n a b) where
      abbrev u1 : State
      u1 = with_score t (codes "#c") (pos (a + n))

      abbrev u2 : State
      u2 = with_score u1 (codes "#d") (pos (b + n))

      up_toward : Later ps s t u2 n (a + n) (b + n)
      up_toward = record {
        has = source_set u1 n (a + n) b (to_set t n a b h (a + n)) (b + n);
        places = refl;
        keys = refl;
        still = still_score ps s u1 (codes "#d") (pos (b + n)) refl (still_score ps s t (codes "#c") (pos (a + n)) refl f);
      }

      up_toward_leads : (xs : Items) (w : State) → Leads xs u2 w → Leads (two_sums xs) t w
      up_toward_leads xs w g =
          let above : Has u1 n (a + n) b = to_set t n a b h (a + n) in
          when_leads goes_up (combine at_c add at_a) _ t u1 w ((tt, tt), tt) (up_is t n a b h true (lt-ltb b a l)) (tt, tt)
          (combines t (codes "#c") (codes "#a") add (pos a) (pos n) (pos (a + n)) h.to h.count (ap Some (sum_stays a n small)))
          (when_leads goes_up (combine at_d add at_a) xs u1 u2 w ((tt, tt), tt) (up_is u1 n (a + n) b above true (lt-ltb b (a + n) (omega arith))) (tt, tt)
          (combines u1 (codes "#d") (codes "#a") add (pos b) (pos n) (pos (b + n)) h.source h.count (ap Some (sum_stays b n (omega arith)))) g)

    module _ (h : Has t n (a + n) (b + n)) where
      abbrev v1 : State
      v1 = with_score t (codes "#d") (pos b)

      abbrev v2 : State
      v2 = with_score v1 (codes "#c") (pos a)

      up_onward : Later ps s t v2 n a b
      up_onward = record {
        has = to_set v1 n (a + n) b (source_set t n (a + n) (b + n) h b) a;
        places = refl;
        keys = refl;
        still = still_score ps s v1 (codes "#c") (pos a) refl (still_score ps s t (codes "#d") (pos b) refl f);
      }

      up_onward_leads : (xs : Items) (w : State) → Leads xs v2 w → Leads (four_more xs) t w
      up_onward_leads xs w g =
          let above : Has v1 n (a + n) b = source_set t n (a + n) (b + n) h b in
          let no : conds_hold goes_down v2 ≡ false = down_is v2 n a b (to_set v1 n (a + n) b above a) true (lt-ltb b a l) in
          when_leads goes_up (combine at_d subtract at_a) _ t v1 w ((tt, tt), tt) (up_is t n (a + n) (b + n) h true (lt-ltb (b + n) (a + n) (omega arith))) (tt, tt)
          (combines t (codes "#d") (codes "#a") subtract (pos (b + n)) (pos n) (pos b) h.source h.count (ap Some (rest_stays b n (omega arith))))
          (when_leads goes_up (combine at_c subtract at_a) _ v1 v2 w ((tt, tt), tt) (up_is v1 n (a + n) b above true (lt-ltb b (a + n) (omega arith))) (tt, tt)
          (combines v1 (codes "#c") (codes "#a") subtract (pos (a + n)) (pos n) (pos a) h.to h.count (ap Some (rest_stays a n (omega arith))))
          (unless_leads goes_down (increase at_d 1) _ v2 w ((tt, tt), tt) no (unless_leads goes_down (increase at_c 1) xs v2 w ((tt, tt), tt) no g)))

-- ---- the count under its key

counted_memory : (ps : List (List ℕ)) (s : State) (n : ℕ) → HasMemory ps s → HasMemory ps (counting s n)
counted_memory ps s n m = record {
  pages = m.pages;
  are_pages = m.are_pages;
  few = m.few;
  constants = record { four = m.constants.four; page_words = m.constants.page_words; bytes = m.constants.bytes; tops = m.constants.tops; halves = m.constants.halves; rests = m.constants.rests };
  window = record { page = m.window.page; stands = m.window.stands; base = m.window.base; place = m.window.place; byte = m.window.byte; ints = m.window.ints; filling = m.window.filling };
}

counted_still : (ps : List (List ℕ)) (s t : State) (n : ℕ) → t.keys ≡ s.keys → Still ps s t → Still ps (counting s n) (counting t n)
counted_still ps s t n e f = record {
  memory = counted_memory ps t n f.memory;
  trap = f.trap;
  spares = record { keys = λ r k a. ap (λ g. (counting (record t { keys = g }) n).keys r k) e; scores = f.spares.scores };
}

low_signed : (n : ℕ) → n < 256 → cast_signed w32 n ≡ pos n
low_signed n l = ap (λ b. if b then pos n else negsuc (4294967296 - suc n)) (lt-ltb n 2147483648 (omega arith))

-- ---- all of it

-- it is told which address is which on the way, and where the others begin
module _ (loads : LoadsAreDone) (stores : StoresAreDone) (sure : Bool) (p q r : ℕ) (ps : List (List ℕ)) (s : State) (us zs : List ℤ) (to source others : ℕ) (o : Open sure ps s)
    (k : Operands p q r us (pos to) (pos source) (pos (suc others)) zs s) (lt : to + suc others ≤ length (pages_bytes ps)) (ls : source + suc others ≤ length (pages_bytes ps))
    (bytes : (i : ℕ) → slice_index (pages_bytes ps) i < 256) where
  abbrev M : List ℕ
  M = pages_bytes ps

  low : length M ≤ 16777216
  low = let many : length M ≡ 65536 * length ps = pages_many ps o.memory.are_pages in let f = o.memory.few in omega arith

  abbrev base : State
  base = counting s others

  abbrev s1 : State
  s1 = with_score s (codes "#a") (pos (suc others))

  abbrev s2 : State
  s2 = with_score s1 (codes "#a") (pos others)

  abbrev s3 : State
  s3 = counting s2 others

  abbrev s4 : State
  s4 = with_score s3 (codes "#c") (pos to)

  abbrev s5 : State
  s5 = with_score s4 (codes "#d") (pos source)

  begins : (xs : Items) (u : State) → Leads xs s5 u
      → Leads (first (step_item (run_act (load_place (codes "#a") r)))
      (first (step_item (run_act (decrease at_a 1)))
      (first (step_item (run_act (keep_site count_site (codes "#a"))))
      (first (step_item (run_act (load_place (codes "#c") p))) (first (step_item (run_act (load_place (codes "#d") q))) xs))))) s u
  begins xs u g =
      let x = pos to in
      let y = pos source in
      let z = pos (suc others) in
      act_leads (load_place (codes "#a") r) _ s s1 u (third_within p q r us zs x y z s k) (ap (with_score s (codes "#a")) (third_reads p q r us zs x y z s k))
      (act_leads (decrease at_a 1) _ s1 s2 u tt (let l = low in ap (with_score s1 (codes "#a")) (one_less others (omega arith)))
      (act_leads (keep_site count_site (codes "#a")) _ s2 s3 u tt (keeps s2 count_site (codes "#a") (pos others) (int (pos others)) refl refl (omega arith))
      (act_leads (load_place (codes "#c") p) _ s3 s4 u (first_within p q r us zs x y z s k) (ap (with_score s3 (codes "#c")) (first_reads p q r us zs x y z s k))
      (act_leads (load_place (codes "#d") q) xs s4 s5 u (second_within p q r us zs x y z s k) (ap (with_score s4 (codes "#d")) (second_reads p q r us zs x y z s k)) g))))

  has_begun : Has s5 others to source
  has_begun = record { count = refl; to = refl; source = refl }

  begun_still : Still ps base s5
  begun_still =
      still_score ps base s4 (codes "#d") (pos source) refl
      (still_score ps base s3 (codes "#c") (pos to) refl
      (counted_still ps s s2 others refl
      (still_score ps s s1 (codes "#a") (pos others) refl (still_score ps s s (codes "#a") (pos (suc others)) refl (still_here sure ps s o)))))

  module _ (a b c d : ℕ) (la : a < length M) (lb : b < length M) (u : State) (later : Later ps base s5 u others a b)
      (there : (xs : Items) (w : State) → Leads xs u w → Leads (two_sums xs) s5 w)
      (ends : (qs : List (List ℕ)) (t : State) → Still qs base t → Has t others a b → (v : State) × Later qs base t v others c d × ((xs : Items) (w : State) → Leads xs v w → Leads (four_more xs) t w)) where
    -- the addresses are told
    abbrev told1 : State
    told1 = with_place u p (pos a)

    abbrev t : State
    t = with_place told1 q (pos b)

    o0 : Operands p q r us (pos to) (pos source) (pos (suc others)) zs u
    o0 = operands_same p q r us zs (pos to) (pos source) (pos (suc others)) s k u later.places

    o1 : Operands p q r us (pos a) (pos source) (pos (suc others)) zs told1
    o1 = first_set p q r us zs (pos to) (pos source) (pos (suc others)) u o0 (pos a)

    ot : Operands p q r us (pos a) (pos b) (pos (suc others)) zs t
    ot = second_set p q r us zs (pos a) (pos source) (pos (suc others)) told1 o1 (pos b)

    toward : Leads (steps_items (toward_steps p q r)) s t
    toward =
        begins _ t
        (there _ t
        (act_leads (keep_place p (codes "#c")) _ u told1 t (first_within p q r us zs (pos to) (pos source) (pos (suc others)) u o0) (ap (with_kept u p) later.has.to)
        (act_leads (keep_place q (codes "#d")) no_more told1 t t (second_within p q r us zs (pos a) (pos source) (pos (suc others)) told1 o1) (ap (with_kept told1 q) later.has.source) (leads_none t))))

    still_t : Still ps base t
    still_t = still_place ps base told1 q (pos b) (still_place ps base u p (pos a) later.still)

    count_t : t.keys in_rest key_entry ≡ Some (int (pos others))
    count_t = ap (λ f. f in_rest key_entry) later.keys

    -- the byte is loaded
    abbrev byte : ℕ
    byte = slice_index M b

    abbrev number : ℤ
    number = cast_signed w32 (byte + 256 * 0)

    number_is : number ≡ pos byte
    number_is = let e : byte + 256 * 0 ≡ byte = omega arith in ap (cast_signed w32) e ∙ low_signed byte (bytes b)

    reads : Does (load_items sure I32Load8U q 0 r) t r (number ∷ []) ps
    reads =
        let l = low in
        let e = second_reads p q r us zs (pos a) (pos b) (pos (suc others)) t ot in
        let at : address (place_at t q) 0 ≡ b = ap (λ (z : ℤ). address z 0) e ∙ omega arith in
        (loads sure I32Load8U q 0 r ps t (before sure ps base t q (pos b) o.a_page still_t (second_within p q r us zs (pos a) (pos b) (pos (suc others)) t ot) e (small_int b (omega arith))) refl
        (third_within p q r us zs (pos a) (pos b) (pos (suc others)) t ot)).0 (byte ∷ []) (ap (λ i. items_at M i 1) at ∙ one_read M b lb)

    abbrev v : State
    v = reads.state

    ov : Operands p q r us (pos a) (pos b) number zs v
    ov =
        operands_same p q r us zs (pos a) (pos b) number (with_place t r number) (third_set p q r us zs (pos a) (pos b) (pos (suc others)) t ot number) v reads.places

    count_v : v.keys in_rest key_entry ≡ Some (int (pos others))
    count_v = reads.spares.keys in_rest key_entry refl ∙ count_t

    -- and stored
    puts : Puts sure p r ps v a (cast_unsigned w32 (pos byte) % 256)
    puts =
        let l = bytes b in
        byte_put stores sure p r ps v a (pos byte) o.a_page (record { memory = reads.memory; trap = reads.trap; spares = spares_none v }) (first_within p q r us zs (pos a) (pos b) number v ov)
        (first_reads p q r us zs (pos a) (pos b) number v ov) (third_within p q r us zs (pos a) (pos b) number v ov) (third_reads p q r us zs (pos a) (pos b) number v ov ∙ number_is) (small_int byte (omega arith)) la

    abbrev w : State
    w = puts.does.state

    ow : Operands p q r us (pos a) (pos b) number zs w
    ow = operands_same p q r us zs (pos a) (pos b) number v ov w puts.does.places

    still_w : Still puts.pages base w
    still_w = record { memory = puts.does.memory; trap = puts.does.trap; spares = spares_then base v w (spares_then base t v still_t.spares reads.spares) puts.does.spares }

    count_w : w.keys in_rest key_entry ≡ Some (int (pos others))
    count_w = puts.does.spares.keys in_rest key_entry refl ∙ count_v

    -- what is said of the others
    abbrev w1 : State
    w1 = with_score w (codes "#a") (pos others)

    abbrev w2 : State
    w2 = with_score w1 (codes "#c") (pos a)

    abbrev w3 : State
    w3 = with_score w2 (codes "#d") (pos b)

    still_w3 : Still puts.pages base w3
    still_w3 =
        still_score puts.pages base w2 (codes "#d") (pos b) refl
        (still_score puts.pages base w1 (codes "#c") (pos a) refl (still_score puts.pages base w (codes "#a") (pos others) refl still_w))

    told : (x : State) × Later puts.pages base w3 x others c d × ((xs : Items) (y : State) → Leads xs x y → Leads (four_more xs) w3 y)
    told = ends puts.pages w3 still_w3 (record { count = refl; to = refl; source = refl })

    abbrev x : State
    x = told.0

    abbrev x1 : State
    x1 = with_place x p (pos c)

    abbrev x2 : State
    x2 = with_place x1 q (pos d)

    abbrev x3 : State
    x3 = with_place x2 r (pos others)

    ox : Operands p q r us (pos a) (pos b) number zs x
    ox = operands_same p q r us zs (pos a) (pos b) number w ow x told.1.places

    ox1 : Operands p q r us (pos c) (pos b) number zs x1
    ox1 = first_set p q r us zs (pos a) (pos b) number x ox (pos c)

    ox2 : Operands p q r us (pos c) (pos d) number zs x2
    ox2 = second_set p q r us zs (pos c) (pos b) number x1 ox1 (pos d)

    ox3 : Operands p q r us (pos c) (pos d) (pos others) zs x3
    ox3 = third_set p q r us zs (pos c) (pos d) number x2 ox2 (pos others)

    onward : Leads (steps_items (onward_steps p q r)) w x3
    onward =
        act_leads (load_site (codes "#a") count_site) _ w w1 x3 tt (ap (λ g. with_score w (codes "#a") (number_at (option_and_then (λ y. select y []) g))) count_w)
        (act_leads (load_place (codes "#c") p) _ w1 w2 x3 (first_within p q r us zs (pos a) (pos b) number w ow) (ap (with_score w1 (codes "#c")) (first_reads p q r us zs (pos a) (pos b) number w ow))
        (act_leads (load_place (codes "#d") q) _ w2 w3 x3 (second_within p q r us zs (pos a) (pos b) number w ow) (ap (with_score w2 (codes "#d")) (second_reads p q r us zs (pos a) (pos b) number w ow))
        (told.2 _ x3
        (act_leads (keep_place p (codes "#c")) _ x x1 x3 (first_within p q r us zs (pos a) (pos b) number x ox) (ap (with_kept x p) told.1.has.to)
        (act_leads (keep_place q (codes "#d")) _ x1 x2 x3 (second_within p q r us zs (pos c) (pos b) number x1 ox1) (ap (with_kept x1 q) told.1.has.source)
        (act_leads (keep_place r (codes "#a")) no_more x2 x3 x3 (third_within p q r us zs (pos c) (pos d) number x2 ox2) (ap (with_kept x2 r) told.1.has.count) (leads_none x3)))))))

    leads : Leads (copy_byte_items sure p q r) s x3
    leads =
        leads_join (steps_items (toward_steps p q r)) (join (load_items sure I32Load8U q 0 r) (join (store_items sure I32Store8 p 0 r) (steps_items (onward_steps p q r)))) s t x3 toward
        (leads_join (load_items sure I32Load8U q 0 r) (join (store_items sure I32Store8 p 0 r) (steps_items (onward_steps p q r))) t v x3 (record { ready = reads.ready; used = reads.used; ends = reads.ends })
        (leads_join (store_items sure I32Store8 p 0 r) (steps_items (onward_steps p q r)) v w x3 (record { ready = puts.does.ready; used = puts.does.used; ends = puts.does.ends }) onward))

    still : Still puts.pages base x3
    still =
        still_place puts.pages base x2 r (pos others) (still_place puts.pages base x1 q (pos d) (still_place puts.pages base x p (pos c) told.1.still))

    copied : (qs : List (List ℕ)) × (pages_bytes qs ≡ slice_set M a byte) × Turns (copy_byte_items sure p q r) s base (us ++ (pos c ∷ (pos d ∷ (pos others ∷ zs)))) qs
    copied =
        let l = bytes b in
        let same : cast_unsigned w32 (pos byte) % 256 ≡ byte = omega arith in (
          puts.pages,
          puts.bytes ∙ ap (slice_set M a) same,
          record { ready = leads.ready; state = x3; used = leads.used; ends = leads.ends; is = ox3.stand; trap = still.trap; memory = still.memory; spares = still.spares },
        )

  abbrev Result : Bool → Type 0
  Result down = (qs : List (List ℕ)) × (pages_bytes qs ≡ slice_set M (turn_at down to others) (slice_index M (turn_at down source others)))
      × Turns (copy_byte_items sure p q r) s base (us ++ (pos (next_at down to) ∷ (pos (next_at down source) ∷ (pos others ∷ zs)))) qs

  pub copies : Result (nat_le to source)
  copies = ⊎_elim up down (cases_lt source to)
    where
      up : source < to → Result (nat_le to source)
      up h =
          let l = low in
          subst Result (sym (lt-leb to source h))
          (copied (to + others) (source + others) to source (omega arith) (omega arith) _ (up_toward ps base s5 others to source begun_still h (omega arith) has_begun)
          (up_toward_leads ps base s5 others to source begun_still h (omega arith) has_begun)
          (λ qs t f e. (_, up_onward qs base t others to source f h (omega arith) e, up_onward_leads qs base t others to source f h (omega arith) e)))

      down : to ≤ source → Result (nat_le to source)
      down h =
          let l = low in
          subst Result (sym (le-leb to source h))
          (copied to source (suc to) (suc source) (omega arith) (omega arith) s5 (same_later ps base s5 others to source begun_still has_begun)
          (stays_toward ps base s5 others to source begun_still has_begun h (omega arith))
          (λ qs t f e. (_, down_later qs base t others to source f e h (omega arith), down_leads qs base t others to source f e h (omega arith))))

pub copies_go_on : LoadsAreDone → StoresAreDone → CopiesGoOn
copies_go_on loads stores sure p q r ps s us zs to source others o k lt ls bytes = copies loads stores sure p q r ps s us zs to source others o k lt ls bytes
