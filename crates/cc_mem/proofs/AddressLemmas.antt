-- Addresses are found: in the window, or beside it, where the page becomes the window if it stands.
use Rattle.std.proofs.Common.{◌≡◌, inr, ⊎_elim, ℕ, ◌+◌, ◌*◌, ◌/◌, ◌%◌, ◌<◌, ◌≤◌, List, [], ◌∷◌, length, Some, Bool, true, false, refl, sym, ap, ◌∙◌, subst, arith}
use Rattle.std.specs.Prelude.{ℤ, pos, ◌+ℤ◌, ◌&&◌, not, if◌then◌else◌, nat_le, is_some, option_and_then, codes}
use Rattle.std.proofs.lemmas.Bool.{cases_lt, leb-true, leb-false, lt-ltb}
use Rattle.mc_nbt.specs.Tree.{Tree, int, fields, key, place, select}
use Rattle.mc_nbt.specs.Word.{is_int}
use Rattle.mc_cmd.specs.Command.{between}
use Rattle.mc_cmd.specs.Layout.{page_words}
use Rattle.mc_cmd.specs.World.{wrapped, or_zero, some_is_in, is_in}
use Rattle.wm_ast.specs.Simple.{address}
use Rattle.cc_line.specs.Sight.{in_memory, in_rest}
use Rattle.cc_line.specs.Place.{scratch}
use Rattle.cc_line.specs.Key.{key_memory, key_filling, score_trap}
use Rattle.cc_line.specs.State.{State, place_at, number_at, set_under, within_key, with_tree, with_score, with_set}
use Rattle.cc_line.specs.Step.{Flow, flow, more, set_spot, keep_site, run_act, when, stop_when, step_weight, conds_hold}
use Rattle.cc_line.specs.Item.{step_item, call_when, Items, no_more, first, join, steps_items, run_items, ItemsReady}
use Rattle.cc_line.proofs.RunLemmas.{Leads, Halts, leads_none, leads_first, leads_join, halts_first, halts_here, items_then, called_leads, uncalled_leads}
use Rattle.cc_page.specs.Pages.{ArePages, pages_tree, byte_address}
use Rattle.cc_mem.specs.Standing.{filling_tree, HasMemory}
use Rattle.cc_mem.specs.Address.{filling_at, bounds_trap, stop_step, no_page, empty_steps, no_offset, lost_steps, least_place, start_steps, beside_window, locate_steps, there_item, move_steps, move_items, move_name, find_items, address_items}
use Rattle.cc_mem.specs.Law.{Before, Found, Missed, AddressesAreFound}
use Rattle.cc_mem.proofs.PageTrees.{page_stands, page_misses, first_stands}
use Rattle.cc_mem.proofs.AddressNumbers.{taken, counted, sought, from_base, word_of, byte_of, from_base_int, again_is, back_is, within_is, counted_within, near_address, IsSplit, split_is}
use Rattle.cc_mem.proofs.AddressStarts.{Starts, starts}
use Rattle.cc_mem.proofs.AddressMoves.{Located, locates, there_leads, misses, moves}
use Rattle.cc_mem.proofs.Stepping.{act_leads, unless_leads}
use Rattle.cc_mem.proofs.Holding.{with_rest, Holding, holding_work, holding_trap, holding_filling, held, has_memory}

-- ---- what comes of it

-- the byte is found, or the trap is recorded
pub data Result (xs : Items) (ps : List (List ℕ)) (n : ℕ) (s : State) : Type 0 where
  found_at : n < 65536 * length ps → (t : State) → Leads xs s t → Found ps n s t → Result xs ps n s
  missed_at : 65536 * length ps ≤ n → (b : Bool) (t : State) (k : ℕ) → ItemsReady xs s → run_items xs s ≡ flow b t k → Missed b ps s t → Result xs ps n s

-- as the law says it
abbrev AsLaw : Items → List (List ℕ) → ℕ → State → Type 0
AsLaw xs ps n s =
    ItemsReady xs s
    × (n < 65536 * length ps → (t : State) × (k : ℕ) × (run_items xs s ≡ flow false t k) × Found ps n s t)
    × (65536 * length ps ≤ n → (b : Bool) (t : State) (k : ℕ) → run_items xs s ≡ flow b t k → Missed b ps s t)

as_law : (xs : Items) (ps : List (List ℕ)) (n : ℕ) (s : State) → Result xs ps n s → AsLaw xs ps n s
as_law xs ps n s (found_at l t a f) = (a.ready, λ k. (t, a.used, a.ends, f), λ k. absurd (omega arith))
as_law xs ps n s (missed_at l b t k r e m) = (
  r,
  λ h. absurd (omega arith),
  λ h. λ c. λ u. λ j. λ g. subst (λ (f : Flow). Missed f.stopped ps s f.state) (sym e ∙ g) m,
)

-- behind items that leave the state as it is
result_behind : (xs ys : Items) (ps : List (List ℕ)) (n : ℕ) (s : State) → Leads xs s s → Result ys ps n s → Result (join xs ys) ps n s
result_behind xs ys ps n s a (found_at l t b f) = found_at l t (leads_join xs ys s s t a b) f
result_behind xs ys ps n s a (missed_at l b t k r e m) =
    let i = items_then xs ys s s a.used a.ends a.ready r in
    missed_at l b t (a.used + k) i.0 (i.1 ∙ ap (more a.used) e) m

-- ---- the place in the window's compound

place_kept : (s : State) (page i : ℕ) (x y : ℤ) → s.keys in_rest key_filling ≡ Some (filling_tree page x y) → s.scores (codes "#i") ≡ Some (pos i)
    → with_set s (filling_at (codes "i")) (int (or_zero (s.scores (codes "#i")))) ≡ with_rest s key_filling (filling_tree page (pos i) y)
place_kept s page i x y e f =
    ap (λ o. with_set s (filling_at (codes "i")) (int (or_zero o))) f
    ∙ ap (λ o. with_tree s (filling_at (codes "i")) (option_and_then within_key (set_under o (key (codes "i") ∷ []) (int (pos i))))) e

abbrev place_items : Items
place_items = first (step_item (run_act (keep_site (filling_at (codes "i")) (codes "#i")))) no_more

place_leads : (s : State) (page i : ℕ) (x y : ℤ) → s.keys in_rest key_filling ≡ Some (filling_tree page x y) → s.scores (codes "#i") ≡ Some (pos i)
    → Leads place_items s (with_rest s key_filling (filling_tree page (pos i) y))
place_leads s page i x y e f =
    let t : State = with_rest s key_filling (filling_tree page (pos i) y) in
    act_leads (keep_site (filling_at (codes "i")) (codes "#i")) no_more s t t tt (place_kept s page i x y e f) (leads_none t)

-- ---- with a page

module _ (ps : List (List ℕ)) (are : ArePages ps) (few : length ps ≤ 256) (page : ℕ) (stands : page < length ps) (x y : ℤ) (ix : is_int x ≡ true) (iy : is_int y ≡ true) (s : State) where
  small_int : (i : ℕ) → i < page_words → is_int (pos i) ≡ true
  small_int i l = lt-ltb i 2147483648 (omega arith)

  -- the window as it is, with another place
  was_window : (i : ℕ) (z : ℤ) (t : State) → i < page_words → Holding ps (pos (65536 * page)) (filling_tree page x y) z s t
      → HasMemory ps (with_rest t key_filling (filling_tree page (pos i) y))
  was_window i z t l h =
      has_memory ps page (pos i) y z s (with_rest t key_filling (filling_tree page (pos i) y)) are few (inr stands) (small_int i l) iy
      (holding_filling ps (pos (65536 * page)) (filling_tree page x y) z s t h (filling_tree page (pos i) y))

  -- a page that stands is the window, and its place is told
  finds : (p i r n : ℕ) (t : State) → p < length ps → i < page_words → r < 4 → byte_address p i r ≡ n → Holding ps (pos (65536 * p)) (filling_tree p x y) (pos 0) s t
      → t.scores (codes "#i") ≡ Some (pos i) → t.scores (codes "#r") ≡ Some (pos r) → Found ps n s (with_rest t key_filling (filling_tree p (pos i) y))
  finds p i r n t lp li lr e h fi fr =
      let u : State = with_rest t key_filling (filling_tree p (pos i) y) in
      let g = holding_filling ps (pos (65536 * p)) (filling_tree p x y) (pos 0) s t h (filling_tree p (pos i) y) in
      record {
        page = p;
        place = i;
        byte = r;
        within = (lp, li, lr);
        is = e;
        at_place = fi;
        at_byte = fr;
        filling = (y, iy, refl);
        trap = g.trap;
        places = g.places;
        memory = has_memory ps p (pos i) y (pos 0) s u are few (inr lp) (small_int i li) iy g;
        spares = g.spares;
      }

  module _ (a offset : ℕ) (la : a < length s.places) (int_there : is_int (place_at s a) ≡ true) (near : offset < no_offset) (h : Holding ps (pos (65536 * page)) (filling_tree page x y) (pos 0) s s) where
    abbrev base : ℤ
    base = pos (65536 * page)

    abbrev tree : Tree
    tree = filling_tree page x y

    abbrev operand : ℤ
    operand = place_at s a

    abbrev begun : Starts ps base tree (pos 0) a offset s
    begun = starts ps base tree (pos 0) a offset s h la

    abbrev number : ℤ
    number = from_base base offset operand

    abbrev call : Items
    call = first (call_when (beside_window offset) (move_name offset) (move_items offset)) no_more

    abbrev all : Items
    all = join (steps_items (start_steps a offset)) (join call place_items)

    beside : (b : Bool) → is_in (between (pos (least_place offset)) (pos 16383)) (word_of number) ≡ b → conds_hold (beside_window offset) begun.state ≡ not b && true
    beside b e = ap (λ o. not (some_is_in (between (pos (least_place offset)) (pos 16383)) o) && true) begun.at_word ∙ ap (λ b. not b && true) e

    inside : is_in (between (pos (least_place offset)) (pos 16383)) (word_of number) ≡ true → Result all ps (address operand offset) s
    inside e =
        let w = within_is (least_place offset) number (from_base_int base offset operand) e in
        let n : ℕ = w.number in
        let t : State = begun.state in
        let again : taken (wrapped (pos n +ℤ base)) offset ≡ counted offset operand = ap (λ z. taken (wrapped (z +ℤ base)) offset) (sym w.is) ∙ again_is base offset operand int_there in
        let same = counted_within n page offset (counted offset operand) w.low (omega arith) near again in
        let is : address operand offset ≡ n + 65536 * page = near_address n page offset operand w.low (omega arith) near w.from same in
        let fi : t.scores (codes "#i") ≡ Some (pos (n / 4)) = begun.at_word ∙ ap Some w.word in
        let fr : t.scores (codes "#r") ≡ Some (pos (n % 4)) = begun.at_byte ∙ ap Some w.byte in
        let l : n < 65536 = w.low in
        let li : n / 4 < page_words = omega arith in
        found_at (omega arith) (with_rest t key_filling (filling_tree page (pos (n / 4)) y))
        (leads_join (steps_items (start_steps a offset)) (join call place_items) s t (with_rest t key_filling (filling_tree page (pos (n / 4)) y)) begun.leads
        (leads_join call place_items t t (with_rest t key_filling (filling_tree page (pos (n / 4)) y))
        (uncalled_leads (beside_window offset) (move_name offset) (move_items offset) t (tt, tt) (beside true e))
        (place_leads t page (n / 4) x y begun.holding.filling fi)))
        (finds page (n / 4) (n % 4) (address operand offset) t stands li (omega arith) (omega arith) begun.holding fi fr)

    -- the address again, and its page
    abbrev parts : IsSplit (sought offset operand) (address operand offset)
    parts = split_is offset operand int_there near

    abbrev located : Located ps base tree (pos 0) offset parts.page parts.place parts.byte s begun.state
    located =
        locates ps base tree (pos 0) operand offset (address operand offset) parts s begun.state begun.holding (word_of number) (byte_of number) begun.at_word begun.at_byte
        (back_is base offset operand int_there)

    -- the page's length
    abbrev asked : ℤ → State
    asked c = with_score located.state (codes "#c") c

    asked_holding : (c : ℤ) → Holding ps base tree (pos 0) s (asked c)
    asked_holding c = holding_work ps base tree (pos 0) s located.state located.holding (codes "#c") c refl

    asks : (c : ℤ) → number_at (select (pages_tree ps) (place (pos parts.page) ∷ [])) ≡ c → Leads (first there_item no_more) located.state (asked c)
    asks c e =
        let k = parts.within in
        there_leads (fields ((codes "a0", int (pos parts.page)) ∷ [])) parts.page (pages_tree ps) c located.state located.telling refl (omega arith) located.holding.pages e

    -- what moving the window leads to, and then the place
    moved : (c : ℤ) (t u : State) → number_at (select (pages_tree ps) (place (pos parts.page) ∷ [])) ≡ c
        → is_in (between (pos (least_place offset)) (pos 16383)) (word_of number) ≡ false → Leads (steps_items move_steps) (asked c) t → Leads place_items t u → Leads all s u
    moved c t u e f m l =
        leads_join (steps_items (start_steps a offset)) (join call place_items) s begun.state u begun.leads
        (leads_join call place_items begun.state t u
        (called_leads (beside_window offset) (move_name offset) (move_items offset) begun.state t (tt, tt) (beside false f)
        (leads_join (steps_items (locate_steps offset)) (first there_item (steps_items move_steps)) begun.state located.state t located.leads
        (leads_join (first there_item no_more) (steps_items move_steps) located.state (asked c) t (asks c e) m)))
        l)

    outside : is_in (between (pos (least_place offset)) (pos 16383)) (word_of number) ≡ false → Result all ps (address operand offset) s
    outside e = ⊎_elim there missing (cases_lt parts.page (length ps))
      where
        there : parts.page < length ps → Result all ps (address operand offset) s
        there l =
            let k = parts.within in
            let v = moves ps base page parts.page x y (pos 0) s (asked (pos 16384)) (asked_holding (pos 16384)) (omega arith) refl located.at_page in
            let u : State = with_rest v.0 key_filling (filling_tree parts.page (pos parts.place) y) in
            let fi : v.0.scores (codes "#i") ≡ Some (pos parts.place) = v.3 ∙ located.at_place in
            let fr : v.0.scores (codes "#r") ≡ Some (pos parts.byte) = v.4 ∙ located.at_byte in
            let is : byte_address parts.page parts.place parts.byte ≡ address operand offset = parts.is (omega arith) in
            let li : parts.place < 16384 = k.1 in
            let lr : parts.byte < 4 = k.2 in
            found_at (omega arith) u
            (moved (pos 16384) v.0 u (page_stands ps parts.page are l) e v.1 (place_leads v.0 parts.page parts.place x y v.2.filling fi))
            (finds parts.page parts.place parts.byte (address operand offset) v.0 l k.1 k.2 is v.2 fi fr)

        missing : length ps ≤ parts.page → Result all ps (address operand offset) s
        missing l =
            let k = parts.within in
            let t : State = with_score (asked (pos 0)) score_trap (pos bounds_trap) in
            let h1 = holding_trap ps base tree (pos 0) s (asked (pos 0)) (asked_holding (pos 0)) (pos bounds_trap) in
            let u : State = with_rest t key_filling (filling_tree page (pos parts.place) y) in
            let g = holding_filling ps base tree (pos bounds_trap) s t h1 (filling_tree page (pos parts.place) y) in
            let leads : Leads all s u = moved (pos 0) t u (page_misses ps parts.page l) e (misses (asked (pos 0)) refl) (place_leads t page parts.place x y h1.filling located.at_place) in
            let beyond : 65536 * length ps ≤ address operand offset =
            ⊎_elim (λ c. let is = parts.is c in omega arith) (λ c. let far = parts.beyond c in omega arith) (cases_lt parts.page 256) in
            missed_at beyond false u leads.used leads.ready leads.ends record {
              trap = refl;
              goes_on = λ q. (parts.place, parts.byte, k.1, k.2, located.at_place, located.at_byte);
              places = g.places;
              memory = was_window parts.place (pos bounds_trap) t k.1 h1;
              spares = g.spares;
            }

    with_page : Result all ps (address operand offset) s
    with_page = by (is_in (between (pos (least_place offset)) (pos 16383)) (word_of number)) refl
      where
        by : (b : Bool) → is_in (between (pos (least_place offset)) (pos 16383)) (word_of number) ≡ b → Result all ps (address operand offset) s
        by true e = inside e
        by false e = outside e

-- ---- whether there is a page at all

first_is : (s : State) (m : Tree) → s.keys in_memory key_memory ≡ Some m → (b : Bool) → is_some (select m (place (pos 0) ∷ [])) ≡ b → conds_hold no_page s ≡ not b && true
first_is s m e b f = ap (λ o. not (is_some (option_and_then (λ u. select u (place (pos 0) ∷ [])) o)) && true) e ∙ ap (λ b. not b && true) f

-- where there is one, the steps do nothing
goes_by : (sure : Bool) (ps : List (List ℕ)) (s : State) → ArePages ps → 1 ≤ length ps → s.keys in_memory key_memory ≡ Some (pages_tree ps) → Leads (steps_items (empty_steps sure)) s s
goes_by true ps s are l e = leads_none s
goes_by false ps s are l e =
    let n : conds_hold no_page s ≡ false = first_is s (pages_tree ps) e true (first_stands ps are l) in
    unless_leads no_page (set_spot (scratch score_trap) (pos bounds_trap)) _ s s (tt, tt) n
    (leads_first (step_item (stop_when no_page)) s no_more s s (step_weight (stop_when no_page)) (tt, tt) (ap (λ b. flow b s (step_weight (stop_when no_page))) n) (leads_none s))

-- where there is none, the trap is recorded, and the list ends
no_page_leads : (xs : Items) (n : ℕ) (s : State) → (m : HasMemory [] s) → s.scores score_trap ≡ Some (pos 0) → Result (join (steps_items (empty_steps false)) xs) [] n s
no_page_leads xs n s m e =
    let t : State = with_score s score_trap (pos bounds_trap) in
    let h = holding_trap [] _ _ (pos 0) s s (held [] s m (pos 0) e) (pos bounds_trap) in
    let k : ℕ = step_weight (when no_page (set_spot (scratch score_trap) (pos bounds_trap))) in
    let l : ℕ = step_weight (stop_when no_page) in
    let set : conds_hold no_page s ≡ true = first_is s (pages_tree []) m.pages false refl in
    let stop : conds_hold no_page t ≡ true = first_is t (pages_tree []) m.pages false refl in
    let halts : Halts (join (steps_items (empty_steps false)) xs) s t =
    halts_first (step_item (when no_page (set_spot (scratch score_trap) (pos bounds_trap)))) s (first (step_item (stop_when no_page)) xs) t t k ((tt, tt), λ q. tt)
    (ap (λ b. flow false (if b then t else s) k) set)
    (halts_here (step_item (stop_when no_page)) t xs t l (tt, tt) (ap (λ b. flow b t l) stop)) in
    missed_at (omega arith) true t halts.used halts.ready halts.ends record {
      trap = refl;
      goes_on = λ q. absurd cc;
      places = refl;
      memory = has_memory [] m.window.page m.window.place m.window.byte (pos bounds_trap) s t m.are_pages m.few m.window.stands m.window.ints.0 m.window.ints.1 h;
      spares = h.spares;
    }

-- ---- an offset that leads nowhere

-- the trap is recorded, and the list ends
lost_leads : (ps : List (List ℕ)) (n : ℕ) (s : State) → HasMemory ps s → s.scores score_trap ≡ Some (pos 0) → 65536 * length ps ≤ n → Result (steps_items lost_steps) ps n s
lost_leads ps n s m e beyond =
    let t : State = with_score s score_trap (pos bounds_trap) in
    let h = holding_trap ps _ _ (pos 0) s s (held ps s m (pos 0) e) (pos bounds_trap) in
    let k : ℕ = step_weight (run_act (set_spot (scratch score_trap) (pos bounds_trap))) in
    let halts : Halts (steps_items lost_steps) s t =
    halts_first (step_item (run_act (set_spot (scratch score_trap) (pos bounds_trap)))) s (first (step_item stop_step) no_more) t t k tt refl
    (halts_here (step_item stop_step) t no_more t (step_weight stop_step) (tt, tt) refl) in
    missed_at beyond true t halts.used halts.ready halts.ends record {
      trap = refl;
      goes_on = λ q. absurd cc;
      places = refl;
      memory = has_memory ps m.window.page m.window.place m.window.byte (pos bounds_trap) s t m.are_pages m.few m.window.stands m.window.ints.0 m.window.ints.1 h;
      spares = h.spares;
    }

-- ---- THE LAW

any_page : (sure : Bool) (a offset : ℕ) (ps : List (List ℕ)) (s : State) (b : Before sure a ps s) → 1 ≤ length ps → offset < no_offset → Result (find_items sure a offset) ps (address (place_at s a) offset) s
any_page sure a offset ps s b l near =
    let m = b.memory in
    let w = m.window in
    let in_memory : w.page < length ps = ⊎_elim (λ e. let z : w.page ≡ 0 = e in omega arith) (λ h. h) w.stands in
    result_behind (steps_items (empty_steps sure)) _ ps (address (place_at s a) offset) s (goes_by sure ps s m.are_pages l m.pages)
    (with_page ps m.are_pages m.few w.page in_memory w.place w.byte w.ints.0 w.ints.1 s a offset b.there b.int near (held ps s m (pos 0) b.trap))

found_result : (sure : Bool) (a offset : ℕ) (ps : List (List ℕ)) (s : State) → Before sure a ps s → offset < no_offset → Result (find_items sure a offset) ps (address (place_at s a) offset) s
found_result true a offset [] s b near = let l : 1 ≤ 0 = b.a_page refl in absurd (omega arith)
found_result false a offset [] s b near = no_page_leads _ (address (place_at s a) offset) s b.memory b.trap
found_result sure a offset (p ∷ ps) s b near = any_page sure a offset (p ∷ ps) s b (omega arith) near

pub result : (sure : Bool) (a offset : ℕ) (ps : List (List ℕ)) (s : State) → Before sure a ps s → Result (address_items sure a offset) ps (address (place_at s a) offset) s
result sure a offset ps s b = by (nat_le no_offset offset) refl
  where
    few : length ps ≤ 256
    few = b.memory.few

    by : (c : Bool) → nat_le no_offset offset ≡ c → Result (if c then steps_items lost_steps else find_items sure a offset) ps (address (place_at s a) offset) s
    by true e =
        let l : no_offset ≤ offset = leb-true no_offset offset e in
        lost_leads ps (address (place_at s a) offset) s b.memory b.trap (omega arith)
    by false e = found_result sure a offset ps s b (leb-false no_offset offset e)

pub addresses_found : AddressesAreFound
addresses_found sure a offset ps s b = as_law (address_items sure a offset) ps (address (place_at s a) offset) s (result sure a offset ps s b)
