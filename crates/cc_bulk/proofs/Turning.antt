-- What the bytes of fills and copies are written by: three operands in places one above the other, lists of bytes, and steps that
-- count.
use Rattle.std.proofs.Common.{◌≡◌, ℕ, zero, suc, ◌+◌, ◌<◌, ◌≤◌, List, [], ◌∷◌, ◌++◌, length, take, drop, Some, None, Bool, true, refl, ap, ◌∙◌, arith, length-append, slice_set, slice_index, slice_index_or}
use Rattle.std.specs.Prelude.{ℤ, pos, ◌+ℤ◌, ◌-ℤ◌, if◌then◌else◌, codes}
use Rattle.std.proofs.lemmas.Bool.{le-ltb}
use Rattle.std.proofs.lemmas.Int.{ints}
use Rattle.mc_nbt.specs.Word.{is_int}
use Rattle.mc_cmd.specs.Form.{Text}
use Rattle.mc_cmd.specs.World.{wrapped}
use Rattle.wm_ast.specs.Store.{items_at, overwritten}
use Rattle.cc_line.specs.Key.{score_trap, is_work}
use Rattle.cc_line.specs.State.{State, place_at, with_place, with_score}
use Rattle.cc_line.specs.Step.{increase, decrease, load_place, keep_place}
use Rattle.cc_line.specs.Item.{no_more, steps_items}
use Rattle.cc_line.proofs.RunLemmas.{Leads, leads_none}
use Rattle.cc_mem.specs.Standing.{HasMemory}
use Rattle.cc_bulk.specs.Fill.{at_a, more_steps, less_steps}
use Rattle.cc_bulk.specs.FillLaw.{Operands, Open}
use Rattle.cc_mem.specs.Law.{Spares, Before}
use Rattle.cc_mem.proofs.AddressNumbers.{small}
use Rattle.cc_mem.proofs.Filled.{steady_score, steady_spares, steady_goes}
use Rattle.cc_mem.proofs.Loads.{memory_placed, spares_placed}
use Rattle.cc_mem.proofs.Near.{at_memory, memory_at, spares_none, spares_then}
use Rattle.cc_mem.proofs.Stepping.{act_leads}

-- ---- three numbers of a list

get_first : (us zs : List ℤ) (x y z : ℤ) → slice_index_or (us ++ (x ∷ (y ∷ (z ∷ zs)))) (length us) (pos 0) ≡ x
get_first [] zs x y z = refl
get_first (u ∷ us) zs x y z = get_first us zs x y z

get_second : (us zs : List ℤ) (x y z : ℤ) → slice_index_or (us ++ (x ∷ (y ∷ (z ∷ zs)))) (suc (length us)) (pos 0) ≡ y
get_second [] zs x y z = refl
get_second (u ∷ us) zs x y z = get_second us zs x y z

get_third : (us zs : List ℤ) (x y z : ℤ) → slice_index_or (us ++ (x ∷ (y ∷ (z ∷ zs)))) (suc (suc (length us))) (pos 0) ≡ z
get_third [] zs x y z = refl
get_third (u ∷ us) zs x y z = get_third us zs x y z

set_first : (us zs : List ℤ) (x y z v : ℤ) → slice_set (us ++ (x ∷ (y ∷ (z ∷ zs)))) (length us) v ≡ us ++ (v ∷ (y ∷ (z ∷ zs)))
set_first [] zs x y z v = refl
set_first (u ∷ us) zs x y z v = ap (λ l. u ∷ l) (set_first us zs x y z v)

set_second : (us zs : List ℤ) (x y z v : ℤ) → slice_set (us ++ (x ∷ (y ∷ (z ∷ zs)))) (suc (length us)) v ≡ us ++ (x ∷ (v ∷ (z ∷ zs)))
set_second [] zs x y z v = refl
set_second (u ∷ us) zs x y z v = ap (λ l. u ∷ l) (set_second us zs x y z v)

set_third : (us zs : List ℤ) (x y z v : ℤ) → slice_set (us ++ (x ∷ (y ∷ (z ∷ zs)))) (suc (suc (length us))) v ≡ us ++ (x ∷ (y ∷ (v ∷ zs)))
set_third [] zs x y z v = refl
set_third (u ∷ us) zs x y z v = ap (λ l. u ∷ l) (set_third us zs x y z v)

-- ---- the operands

module _ (p q r : ℕ) (us zs : List ℤ) (x y z : ℤ) (s : State) (o : Operands p q r us x y z zs s) where
  abbrev places : List ℤ
  places = us ++ (x ∷ (y ∷ (z ∷ zs)))

  long : suc (suc (length us)) < length s.places
  long =
      let e : length s.places ≡ length places = ap length o.stand in
      let f : length places ≡ length us + length (x ∷ (y ∷ (z ∷ zs))) = length-append us (x ∷ (y ∷ (z ∷ zs))) in
      let g : length (x ∷ (y ∷ (z ∷ zs))) ≡ suc (suc (suc (length zs))) = refl in
      omega arith

  pub first_within : p < length s.places
  first_within = let l = long in let e = o.first in omega arith

  pub second_within : q < length s.places
  second_within = let l = long in let e = o.second in omega arith

  pub third_within : r < length s.places
  third_within = let l = long in let e = o.third in omega arith

  pub first_reads : place_at s p ≡ x
  first_reads = ap (λ l. slice_index_or l p (pos 0)) o.stand ∙ ap (λ i. slice_index_or places i (pos 0)) o.first ∙ get_first us zs x y z

  pub second_reads : place_at s q ≡ y
  second_reads = ap (λ l. slice_index_or l q (pos 0)) o.stand ∙ ap (λ i. slice_index_or places i (pos 0)) o.second ∙ get_second us zs x y z

  pub third_reads : place_at s r ≡ z
  third_reads = ap (λ l. slice_index_or l r (pos 0)) o.stand ∙ ap (λ i. slice_index_or places i (pos 0)) o.third ∙ get_third us zs x y z

  -- in a state with the same places
  pub operands_same : (t : State) → t.places ≡ s.places → Operands p q r us x y z zs t
  operands_same t e = record { first = o.first; second = o.second; third = o.third; stand = e ∙ o.stand }

  -- another one of them
  pub first_set : (v : ℤ) → Operands p q r us v y z zs (with_place s p v)
  first_set v = record {
    first = o.first;
    second = o.second;
    third = o.third;
    stand = ap (λ l. slice_set l p v) o.stand ∙ ap (λ i. slice_set places i v) o.first ∙ set_first us zs x y z v;
  }

  pub second_set : (v : ℤ) → Operands p q r us x v z zs (with_place s q v)
  second_set v = record {
    first = o.first;
    second = o.second;
    third = o.third;
    stand = ap (λ l. slice_set l q v) o.stand ∙ ap (λ i. slice_set places i v) o.second ∙ set_second us zs x y z v;
  }

  pub third_set : (v : ℤ) → Operands p q r us x y v zs (with_place s r v)
  third_set v = record {
    first = o.first;
    second = o.second;
    third = o.third;
    stand = ap (λ l. slice_set l r v) o.stand ∙ ap (λ i. slice_set places i v) o.third ∙ set_third us zs x y z v;
  }

-- ---- what stays

-- the memory stands, no trap is recorded, and what is not an access's to change is as it was
pub record Still (ps : List (List ℕ)) (s t : State) : Type 0 where
  pub memory : HasMemory ps t
  pub trap : t.scores score_trap ≡ Some (pos 0)
  pub spares : Spares s t

pub still_here : (sure : Bool) (ps : List (List ℕ)) (s : State) → Open sure ps s → Still ps s s
still_here sure ps s o = record { memory = o.memory; trap = o.trap; spares = spares_none s }

pub still_score : (ps : List (List ℕ)) (s t : State) (h : Text) (z : ℤ) → is_work h ≡ true → Still ps s t → Still ps s (with_score t h z)
still_score ps s t h z k f =
    let w = f.memory.window in
    let g = steady_score t h z k in
    record {
      memory = at_memory ps w.page w.place w.byte (with_score t h z) (steady_goes ps w.page w.place w.byte t (with_score t h z) (memory_at ps t f.memory) g).at;
      trap = g.scores score_trap refl ∙ f.trap;
      spares = spares_then s t (with_score t h z) f.spares (steady_spares t (with_score t h z) g);
    }

pub still_place : (ps : List (List ℕ)) (s t : State) (i : ℕ) (z : ℤ) → Still ps s t → Still ps s (with_place t i z)
still_place ps s t i z f = record {
  memory = memory_placed ps t i z f.memory;
  trap = f.trap;
  spares = spares_then s t (with_place t i z) f.spares (spares_placed t i z);
}

-- before an access
pub before : (sure : Bool) (ps : List (List ℕ)) (s t : State) (i : ℕ) (z : ℤ) → (sure ≡ true → 1 ≤ length ps) → Still ps s t → i < length t.places → place_at t i ≡ z → is_int z ≡ true → Before sure i ps t
before sure ps s t i z a f l e k = record { memory = f.memory; a_page = a; trap = f.trap; there = l; int = ap is_int e ∙ k }

-- ---- numbers that don't wrap

pub sum_stays : (a b : ℕ) → a + b < 2147483648 → wrapped (pos a +ℤ pos b) ≡ pos (a + b)
sum_stays a b l = let e : pos a +ℤ pos b ≡ pos (a + b) = omega (arith, ints) in ap wrapped e ∙ small (a + b) l

pub rest_stays : (a b : ℕ) → a < 2147483648 → wrapped (pos (a + b) -ℤ pos b) ≡ pos a
rest_stays a b l = let e : pos (a + b) -ℤ pos b ≡ pos a = omega (arith, ints) in ap wrapped e ∙ small a l

pub one_more : (a : ℕ) → a < 2147483647 → wrapped (pos a +ℤ pos 1) ≡ pos (suc a)
one_more a l = let e : pos a +ℤ pos 1 ≡ pos (suc a) = omega (arith, ints) in ap wrapped e ∙ small (suc a) (omega arith)

pub one_less : (a : ℕ) → a < 2147483648 → wrapped (pos (suc a) -ℤ pos 1) ≡ pos a
one_less a l = let e : pos (suc a) -ℤ pos 1 ≡ pos a = omega (arith, ints) in ap wrapped e ∙ small a l

-- ---- steps that count

-- the state with a number in `#a` and in a place, and another one before in `#a`
abbrev pub counted : State → ℕ → ℤ → ℤ → State
counted s i x y = with_place (with_score (with_score s (codes "#a") x) (codes "#a") y) i y

pub counted_still : (ps : List (List ℕ)) (s t : State) (i : ℕ) (x y : ℤ) → Still ps s t → Still ps s (counted t i x y)
counted_still ps s t i x y f =
    still_place ps s (with_score (with_score t (codes "#a") x) (codes "#a") y) i y
    (still_score ps s (with_score t (codes "#a") x) (codes "#a") y refl (still_score ps s t (codes "#a") x refl f))

pub more_leads : (s : State) (i m : ℕ) → i < length s.places → place_at s i ≡ pos m → m < 2147483647 → Leads (steps_items (more_steps i)) s (counted s i (pos m) (pos (suc m)))
more_leads s i m l e k =
    let s1 : State = with_score s (codes "#a") (pos m) in
    let s2 : State = with_score s1 (codes "#a") (pos (suc m)) in
    let t : State = counted s i (pos m) (pos (suc m)) in
    act_leads (load_place (codes "#a") i) _ s s1 t l (ap (with_score s (codes "#a")) e)
    (act_leads (increase at_a 1) _ s1 s2 t tt (ap (with_score s1 (codes "#a")) (one_more m k)) (act_leads (keep_place i (codes "#a")) no_more s2 t t l refl (leads_none t)))

pub less_leads : (s : State) (i m : ℕ) → i < length s.places → place_at s i ≡ pos (suc m) → m < 2147483648 → Leads (steps_items (less_steps i)) s (counted s i (pos (suc m)) (pos m))
less_leads s i m l e k =
    let s1 : State = with_score s (codes "#a") (pos (suc m)) in
    let s2 : State = with_score s1 (codes "#a") (pos m) in
    let t : State = counted s i (pos (suc m)) (pos m) in
    act_leads (load_place (codes "#a") i) _ s s1 t l (ap (with_score s (codes "#a")) e)
    (act_leads (decrease at_a 1) _ s1 s2 t tt (ap (with_score s1 (codes "#a")) (one_less m k)) (act_leads (keep_place i (codes "#a")) no_more s2 t t l refl (leads_none t)))

-- ---- one byte of a list

one_taken : (xs : List ℕ) (i : ℕ) → i < length xs → take 1 (drop i xs) ≡ slice_index xs i ∷ []
one_taken [] i l = absurd (omega arith)
one_taken (x ∷ xs) zero l = refl
one_taken (x ∷ xs) (suc i) l = one_taken xs i (omega arith)

pub one_read : (xs : List ℕ) (i : ℕ) → i < length xs → items_at xs i 1 ≡ Some (slice_index xs i ∷ [])
one_read xs i l = ap (λ b. if b then None else Some (take 1 (drop i xs))) (le-ltb (length xs) (i + 1) (omega arith)) ∙ ap Some (one_taken xs i l)

pub one_written : (xs : List ℕ) (i v : ℕ) → i < length xs → overwritten xs i (v ∷ []) ≡ slice_set xs i v
one_written [] i v l = absurd (omega arith)
one_written (x ∷ xs) zero v l = refl
one_written (x ∷ xs) (suc i) v l =
    let e : suc i + 1 ≡ suc (i + 1) = omega arith in
    ap (λ k. (x ∷ take i xs) ++ (v ∷ drop k (x ∷ xs))) e ∙ ap (λ l. x ∷ l) (one_written xs i v (omega arith))
