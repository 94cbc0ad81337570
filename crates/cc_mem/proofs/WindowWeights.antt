-- What accesses to the window weigh.
use Rattle.std.proofs.Common.{◌≡◌, ◌⊎◌, ⊎_elim, ℕ, ◌+◌, ◌-◌, ◌*◌, ◌/◌, ◌<◌, ◌≤◌, List, [], ◌∷◌, ◌++◌, length, Option, Some, None, Bool, true, false, refl, sym, ap, ◌∙◌, subst, arith}
use Rattle.std.specs.Prelude.{ℤ, pos, negsuc, ◌+ℤ◌, ◌-ℤ◌, ◌&&◌, not, if◌then◌else◌, nat_eq, option_and_then, codes}
use Rattle.std.proofs.lemmas.Bool.{lt-ltb, le-leb, lt-leb, eqb-true}
use Rattle.std.proofs.lemmas.Int.{ints}
use Rattle.mc_nbt.proofs.TestLemmas.{and_both}
use Rattle.mc_nbt.specs.Tree.{Tree, int}
use Rattle.mc_cmd.specs.Form.{Text}
use Rattle.mc_cmd.specs.Command.{subtract, multiply, divide, remainder, between, exactly}
use Rattle.mc_cmd.specs.World.{wrapped, or_zero, is_in, some_is_in}
use Rattle.mc_cmd.specs.Chain.{cmd_weight}
use Rattle.wm_ast.specs.Simple.{address}
use Rattle.wm_ast.specs.declared.operation.LoadOp.{LoadOp}
use Rattle.wm_ast.specs.declared.operation.LoadOp.TheVariants.{I32Load, I32Load8S, I32Load8U}
use Rattle.wm_ast.specs.declared.operation.StoreOp.{StoreOp}
use Rattle.wm_ast.specs.declared.operation.StoreOp.TheVariants.{I32Store, I32Store8}
use Rattle.cc_line.specs.Key.{score_trap, score_window}
use Rattle.cc_line.specs.Place.{score_places, in_score, in_list, scratch}
use Rattle.cc_line.specs.State.{State, Site, selected, place_at, set_under, within_key, with_score, with_tree}
use Rattle.cc_line.specs.Step.{Flow, flow, more, Cond, holds, in_range, Step, increase, combine, load_place, keep_place, keep_site, run_act, when, load_home, keep_home, said_command, step_weight, steps_weight, stops, after_act, after_step, run_steps, conds_hold}
use Rattle.cc_line.specs.OpenStep.{OpenStep, open_act, open_keep_site, site_with, ints_in}
use Rattle.cc_line.specs.Item.{step_item, call_when, fill_item, Items, no_more, first, join, steps_items, called, run_item, run_items, filled_steps}
use Rattle.cc_line.proofs.RunLemmas.{Leads, steps_run}
use Rattle.cc_line.proofs.Words.{low_score, by_word}
use Rattle.cc_page.specs.Pages.{signed_word, byte_address}
use Rattle.cc_mem.specs.Standing.{stem_byte, stem_top, filling_tree}
use Rattle.cc_mem.specs.Address.{at_i, at_r, filling_at, window_word, unless_inside, move_name, most_near, no_offset, lost_steps, add_steps, far_steps, split_steps, start_steps, least_place, beside_window, move_items, find_items, address_items, filling_site, stop_step}
use Rattle.cc_mem.specs.Load.{word_item, access_items, load_items, glued_items, byte_step}
use Rattle.cc_mem.specs.Store.{is_calm, put_item, across_items, change_steps, write_first, write_items, store_items}
use Rattle.cc_mem.specs.Law.{Found, InWindow, offset_weight, WordsWeigh, BytesWeigh}
use Rattle.cc_mem.proofs.AddressNumbers.{low_or, counted, from_base, word_of, small, difference_stays}
use Rattle.cc_mem.proofs.AddressStarts.{Starts, starts}
use Rattle.cc_mem.proofs.AddressLemmas.{addresses_found}
use Rattle.cc_mem.proofs.Holding.{held}
use Rattle.cc_mem.proofs.Lines.{both_weigh}
use Rattle.cc_mem.proofs.Near.{At, at_near, found_at, near_score, page_small, small_int}
use Rattle.cc_mem.proofs.Accesses.{Notes, noted, notes, any_fill}
use Rattle.cc_mem.proofs.LoadBytes.{part_any}
use Rattle.cc_mem.proofs.Loads.{end_items, calm}
use Rattle.cc_mem.proofs.Puts.{calm as untrapped}

-- ---- items one after the other

more_more : (j k : ℕ) (f : Flow) → more j (more k f) ≡ more (j + k) f
more_more j k f = let e : j + (k + f.used) ≡ (j + k) + f.used = omega arith in ap (λ n. flow f.stopped f.state n) e

-- what follows items that lead on
run_then : (xs ys : Items) (s : State) → (run_items xs s).stopped ≡ false → run_items (join xs ys) s ≡ more (run_items xs s).used (run_items ys (run_items xs s).state)
run_then no_more ys s e = let k : (run_items ys s).used ≡ 0 + (run_items ys s).used = omega arith in ap (λ n. flow (run_items ys s).stopped (run_items ys s).state n) k
run_then (first x xs) ys s e = by (run_item x s).stopped refl e (run_then xs ys (run_item x s).state)
  where
    whole : Bool → Flow
    whole b = if b then run_item x s else more (run_item x s).used (run_items xs (run_item x s).state)

    Goes : Items → Items → State → Type 0
    Goes xs ys t = run_items (join xs ys) t ≡ more (run_items xs t).used (run_items ys (run_items xs t).state)

    by : (b : Bool) → (run_item x s).stopped ≡ b → (whole b).stopped ≡ false → ((run_items xs (run_item x s).state).stopped ≡ false → Goes xs ys (run_item x s).state)
        → run_items (first x (join xs ys)) s ≡ more (whole (run_item x s).stopped).used (run_items ys (whole (run_item x s).stopped).state)
    by true d e rest = absurd (let y : true ≡ false = sym d ∙ e in cc)
    by false d e rest =
        ap (λ b. if b then run_item x s else more (run_item x s).used (run_items (join xs ys) (run_item x s).state)) d
        ∙ ap (more (run_item x s).used) (rest e)
        ∙ more_more (run_item x s).used (run_items xs (run_item x s).state).used (run_items ys (run_items xs (run_item x s).state).state)
        ∙ sym (ap (λ b. more (whole b).used (run_items ys (whole b).state)) d)

-- what they weigh
weigh_then : (xs ys : Items) (s t : State) (k : ℕ) → run_items xs s ≡ flow false t k → (run_items (join xs ys) s).used ≡ k + (run_items ys t).used
weigh_then xs ys s t k e =
    ap (λ (f : Flow). f.used) (run_then xs ys s (ap (λ (f : Flow). f.stopped) e))
    ∙ ap (λ (f : Flow). f.used + (run_items ys f.state).used) e

-- steps weigh what they weigh in any state
steps_weigh : (xs : List Step) (s : State) → (run_steps xs s).stopped ≡ false → (run_steps xs s).used ≡ steps_weight xs
steps_weigh [] s e = refl
steps_weigh (x ∷ xs) s e = by (stops x s) e (steps_weigh xs (after_step x s))
  where
    whole : Bool → Flow
    whole b = if b then flow true s (step_weight x) else more (step_weight x) (run_steps xs (after_step x s))

    by : (b : Bool) → (whole b).stopped ≡ false → ((run_steps xs (after_step x s)).stopped ≡ false → (run_steps xs (after_step x s)).used ≡ steps_weight xs)
        → (whole b).used ≡ step_weight x + steps_weight xs
    by true e rest = absurd cc
    by false e rest = ap (λ n. step_weight x + n) (rest e)

leads_weigh : (xs : List Step) (s t : State) (l : Leads (steps_items xs) s t) → l.used ≡ steps_weight xs
leads_weigh xs s t l =
    let e : run_steps xs s ≡ flow false t l.used = sym (steps_run xs s) ∙ l.ends in
    sym (ap (λ (f : Flow). f.used) e) ∙ steps_weigh xs s (ap (λ (f : Flow). f.stopped) e)

-- ---- places that are scores

load_weighs : (h : Text) (i : ℕ) → i < score_places → step_weight (run_act (load_place h i)) ≡ 1
load_weighs h i l = ap (λ b. cmd_weight (said_command (load_home [] h (if b then in_score i else in_list (i - score_places))))) (lt-ltb i score_places l)

keep_weighs : (h : Text) (i : ℕ) → i < score_places → step_weight (run_act (keep_place i h)) ≡ 1
keep_weighs h i l = ap (λ b. cmd_weight (said_command (keep_home [] (if b then in_score i else in_list (i - score_places)) h))) (lt-ltb i score_places l)

-- the end of a load, and that of a store
load_ends : (r : ℕ) (u : State) → r < score_places → u.scores score_trap ≡ Some (pos 0) → (run_items (end_items r) u).used ≡ 3
load_ends r u l e =
    ap (λ b. (let f : Flow = flow b u 2 in if f.stopped then f else more f.used (run_items (first (step_item (run_act (keep_place r (codes "#u")))) no_more) u)).used) (calm u e)
    ∙ ap (λ n. 2 + (n + 0)) (keep_weighs (codes "#u") r l)

store_ends : (u : State) → (run_items (first (step_item stop_step) no_more) u).used ≡ 2
store_ends u = by (stops stop_step u)
  where
    by : (b : Bool) → (let f : Flow = flow b u 2 in if f.stopped then f else more f.used (flow false u 0)).used ≡ 2
    by true = refl
    by false = refl

abbrev store_end : Items
store_end = first (step_item stop_step) no_more

-- a write to a path leaves the scores alone
kept_scores : (cs : List Cond) (p : Site) (h : Text) (s : State) → (after_step (when cs (keep_site p h)) s).scores ≡ s.scores
kept_scores cs p h s = by (conds_hold cs s)
  where
    set : (o : Option Tree) → (with_tree s p o).scores ≡ s.scores
    set None = refl
    set (Some t) = refl

    by : (b : Bool) → (if b then after_act (keep_site p h) s else s).scores ≡ s.scores
    by true = set (option_and_then within_key (set_under (s.keys p.store p.name) p.parts (int (or_zero (s.scores h)))))
    by false = refl

-- the scores that a change of bytes writes
abbrev changed_scores : List Text
changed_scores = codes "#u" ∷ codes "#y" ∷ codes "#z" ∷ []

abbrev put_conds : List Cond
put_conds = is_calm ∷ (holds (in_range at_r (exactly (pos 0))) ∷ [])

abbrev write_steps : List OpenStep
write_steps = open_act (open_keep_site window_word (codes "#u")) ∷ []

-- ---- the address

offset_extra : (offset : ℕ) → steps_weight (add_steps offset) ≡ offset_weight offset
offset_extra offset = by (nat_eq offset 0)
  where
    by : (c : Bool) → steps_weight (if c then [] else run_act (increase at_i offset) ∷ []) ≡ (if c then 0 else 1)
    by true = refl
    by false = refl

start_weighs : (a offset : ℕ) → a < score_places → offset ≤ most_near → steps_weight (start_steps a offset) ≡ 5 + offset_weight offset
start_weighs a offset l near =
    let i = load_weighs (codes "#i") a l in
    let n : steps_weight (far_steps offset) ≡ 0 = ap (λ b. steps_weight (if b then [] else unless_inside (negsuc 33554431) ∷ [])) (le-leb offset most_near near) in
    let f = both_weigh (far_steps offset) (run_act (combine at_i subtract (scratch score_window)) ∷ (add_steps offset ++ split_steps)) in
    let d = both_weigh (add_steps offset) split_steps in
    let e = offset_extra offset in
    omega arith

module _ (a offset : ℕ) (ps : List (List ℕ)) (s : State) (w : InWindow a offset ps s) where
  abbrev operand : ℤ
  operand = place_at s a

  abbrev page : ℕ
  page = w.before.memory.window.page

  abbrev base : ℤ
  base = pos (65536 * page)

  abbrev begun : Starts ps base (filling_tree page w.before.memory.window.place w.before.memory.window.byte) (pos 0) a offset s
  begun = starts ps base _ (pos 0) a offset s (held ps s w.before.memory (pos 0) w.before.trap) w.before.there

  -- the page stands
  page_within : page < length ps
  page_within = ⊎_elim (λ e. let z : page ≡ 0 = e in let o : 1 ≤ length ps = w.before.a_page refl in omega arith) (λ h. h) w.before.memory.window.stands

  -- the operand has no sign
  natural : (m : ℕ) × (operand ≡ pos m) × (m + offset ≡ byte_address page w.place w.byte)
  natural = by_word (λ u y. u + offset ≡ byte_address page w.place w.byte → (m : ℕ) × (y ≡ pos m) × (m + offset ≡ byte_address page w.place w.byte)) made operand w.before.int w.is
    where
      small_page : page < 256
      small_page = let f : length ps ≤ 256 = w.before.memory.few in let p = page_within in omega arith

      made : (u : ℕ) → u < 4294967296 → u + offset ≡ byte_address page w.place w.byte → (m : ℕ) × (signed_word u ≡ pos m) × (m + offset ≡ byte_address page w.place w.byte)
      made u l e =
          let p : page < 256 = small_page in
          let i : w.place < 16384 = w.within.1 in
          let r : w.byte < 4 = w.within.2 in (u, low_score u (omega arith), e)

  -- from the window's beginning on it is place and byte
  number_is : from_base base offset operand ≡ pos (4 * w.place + w.byte)
  number_is = by (nat_eq offset 0) refl
    where
      m : ℕ
      m = natural.0

      near : counted offset operand ≡ pos m
      near = ap (λ b. if b then operand else low_or (negsuc 33554431) operand) (le-leb offset most_near w.near) ∙ natural.1

      less : wrapped (counted offset operand -ℤ base) ≡ pos m -ℤ base
      less =
          let f : length ps ≤ 256 = w.before.memory.few in
          let p : page < length ps = page_within in
          let i : w.place < 16384 = w.within.1 in
          let r : w.byte < 4 = w.within.2 in
          let e : m + offset ≡ byte_address page w.place w.byte = natural.2 in
          ap (λ y. wrapped (y -ℤ base)) near ∙ difference_stays m (65536 * page) (omega arith) (omega arith)

      by : (b : Bool) → nat_eq offset 0 ≡ b → (let y : ℤ = wrapped (counted offset operand -ℤ base) in if b then y else wrapped (y +ℤ pos offset)) ≡ pos (4 * w.place + w.byte)
      by true q =
          let o : offset ≡ 0 = eqb-true offset 0 q in
          let e : m + offset ≡ 65536 * page + (4 * w.place + w.byte) = natural.2 in
          less ∙ omega (arith, ints)
      by false q =
          let i : w.place < 16384 = w.within.1 in
          let r : w.byte < 4 = w.within.2 in
          let e : m + offset ≡ 65536 * page + (4 * w.place + w.byte) = natural.2 in
          let g : (pos m -ℤ base) +ℤ pos offset ≡ pos (4 * w.place + w.byte) = omega (arith, ints) in
          ap (λ y. wrapped (y +ℤ pos offset)) less ∙ ap wrapped g ∙ small (4 * w.place + w.byte) (omega arith)

  inside : is_in (between (pos (least_place offset)) (pos 16383)) (word_of (from_base base offset operand)) ≡ true
  inside =
      let i : w.place < 16384 = w.within.1 in
      let r : w.byte < 4 = w.within.2 in
      let q : (4 * w.place + w.byte) / 4 ≡ w.place = omega arith in
      ap (λ y. is_in (between (pos (least_place offset)) (pos 16383)) (word_of y)) number_is
      ∙ ap (λ y. is_in (between (pos (least_place offset)) (pos 16383)) y) (small ((4 * w.place + w.byte) / 4) (omega arith) ∙ ap pos q)
      ∙ and_both _ _ (le-leb (least_place offset) w.place w.within.0) (le-leb w.place 16383 (omega arith))

  -- the helper isn't called
  stays : conds_hold (beside_window offset) begun.state ≡ false
  stays = ap (λ o. not (some_is_in (between (pos (least_place offset)) (pos 16383)) o) && true) begun.at_word ∙ ap (λ b. not b && true) inside

  address_weighs : (run_items (address_items true a offset) s).used ≡ 9 + offset_weight offset
  address_weighs =
      let x = weigh_then (steps_items (start_steps a offset)) tail s begun.state begun.leads.used begun.leads.ends in
      let k = leads_weigh (start_steps a offset) s begun.state begun.leads in
      let v = start_weighs a offset w.is_score w.near in
      let n : offset ≤ most_near = w.near in
      let y = tail_weighs in
      ap (λ b. (run_items (if b then steps_items lost_steps else find_items true a offset) s).used) (lt-leb no_offset offset (omega arith)) ∙ omega arith
    where
      tail : Items
      tail = first (call_when (beside_window offset) (move_name offset) (move_items offset)) (first (step_item (run_act (keep_site (filling_at (codes "i")) (codes "#i")))) no_more)

      tail_weighs : (run_items tail begun.state).used ≡ 4
      tail_weighs =
          ap (λ c. (let f : Flow = (if c then called 2 (run_items (move_items offset) begun.state) else flow false begun.state 2) in
          if f.stopped then f else more f.used (run_items (first (step_item (run_act (keep_site (filling_at (codes "i")) (codes "#i")))) no_more) f.state)).used) stays

  -- ---- where the address is found

  there : address operand offset < 65536 * length ps
  there =
      let p : page < length ps = page_within in
      let i : w.place < 16384 = w.within.1 in
      let r : w.byte < 4 = w.within.2 in
      let e : address operand offset ≡ 65536 * page + (4 * w.place + w.byte) = w.is in
      omega arith

  abbrev reached : State
  reached = ((addresses_found true a offset ps s w.before).1 there).0

  abbrev weight : ℕ
  weight = ((addresses_found true a offset ps s w.before).1 there).1

  reaches : run_items (address_items true a offset) s ≡ flow false reached weight
  reaches = ((addresses_found true a offset ps s w.before).1 there).2

  abbrev found : Found ps (address operand offset) s reached
  found = ((addresses_found true a offset ps s w.before).1 there).3

  weight_is : weight ≡ 9 + offset_weight offset
  weight_is = sym (ap (λ (f : Flow). f.used) reaches) ∙ address_weighs

  byte_is : found.byte ≡ w.byte
  byte_is =
      let l : found.byte < 4 = found.within.2 in
      let r : w.byte < 4 = w.within.2 in
      let e : 65536 * found.page + (4 * found.place + found.byte) ≡ 65536 * page + (4 * w.place + w.byte) = found.is ∙ w.is in
      omega arith

  -- ---- loads

  abbrev at_byte : At ps found.page (pos found.place) found.filling.0 reached
  at_byte = found_at ps (address operand offset) s reached found

  module _ (r : ℕ) (l : r < score_places) where
    -- a word's byte is the first one
    word_tail : w.byte ≡ 0 → (run_items (join (access_items I32Load) (end_items r)) reached).used ≡ 8
    word_tail z =
        let t : State = (run_items (first word_item no_more) reached).state in
        let e : reached.scores (codes "#r") ≡ Some (pos 0) = found.at_byte ∙ ap (λ n. Some (pos n)) (byte_is ∙ z) in
        ap (λ o. (let f : Flow = (if not (some_is_in (exactly (pos 0)) o) && true then called 2 (run_items glued_items t) else flow false t 2) in 3 + (if f.stopped then f else more f.used (run_items (end_items r) f.state)).used)) e
        ∙ ap (λ n. 3 + (2 + n)) (load_ends r t l found.trap)

    pub word_load : w.byte ≡ 0 → (run_items (load_items true I32Load a offset r) s).used ≡ 17 + offset_weight offset
    word_load z =
        let x = weigh_then (address_items true a offset) (join (access_items I32Load) (end_items r)) s reached weight reaches in
        let y = word_tail z in
        let k = weight_is in
        x ∙ omega arith

    byte_tail : (op : LoadOp) (u : State) → Leads (access_items op) reached u → u.scores score_trap ≡ Some (pos 0) → (run_items (access_items op) reached).used ≡ 7 → (run_items (join (access_items op) (end_items r)) reached).used ≡ 10
    byte_tail op u g e k =
        let j : g.used ≡ 7 = sym (ap (λ (f : Flow). f.used) g.ends) ∙ k in
        let x = weigh_then (access_items op) (end_items r) reached u g.used g.ends in
        let y = load_ends r u l e in
        x ∙ omega arith

    pub byte_load : (op : LoadOp) → (op ≡ I32Load8S) ⊎ (op ≡ I32Load8U) → (run_items (load_items true op a offset r) s).used ≡ 19 + offset_weight offset
    byte_load op o = ⊎_elim (λ e. subst Weighs (sym e) signed) (λ e. subst Weighs (sym e) unsigned) o
      where
        Weighs : LoadOp → Type 0
        Weighs op = (run_items (load_items true op a offset r) s).used ≡ 19 + offset_weight offset

        signed : Weighs I32Load8S
        signed =
            let d = part_any (codes "h_mem_byte_s") multiply stem_top divide 3 ps found.page found.byte reached found.within.2 (pos found.place) found.filling.0 at_byte found.at_byte in
            let x = weigh_then (address_items true a offset) (join (access_items I32Load8S) (end_items r)) s reached weight reaches in
            let y = byte_tail I32Load8S d.0 d.1.leads (d.1.scores score_trap refl ∙ found.trap) refl in
            let k = weight_is in
            x ∙ omega arith

        unsigned : Weighs I32Load8U
        unsigned =
            let d = part_any (codes "h_mem_byte_u") divide stem_byte remainder 1 ps found.page found.byte reached found.within.2 (pos found.place) found.filling.0 at_byte found.at_byte in
            let x = weigh_then (address_items true a offset) (join (access_items I32Load8U) (end_items r)) s reached weight reaches in
            let y = byte_tail I32Load8U d.0 d.1.leads (d.1.scores score_trap refl ∙ found.trap) refl in
            let k = weight_is in
            x ∙ omega arith

  -- ---- stores

  module _ (v : ℕ) (l : v < score_places) where
    abbrev valued : State
    valued = with_score reached (codes "#s") (place_at reached v)

    -- a store, by what its writes weigh with the end
    store_by : (op : StoreOp) (k : ℕ) → (run_items (join (write_items op) store_end) valued).used ≡ k → (run_items (store_items true op a offset v) s).used ≡ (10 + k) + offset_weight offset
    store_by op k e =
        let x = weigh_then (address_items true a offset) (first (step_item (run_act (load_place (codes "#s") v))) (join (write_items op) store_end)) s reached weight reaches in
        let y = load_weighs (codes "#s") v l in
        let z = weight_is in
        x ∙ omega arith

    word_put : w.byte ≡ 0 → (run_items (join (write_items I32Store) store_end) valued).used ≡ 7
    word_put z =
        let t : State = (run_items (first put_item no_more) valued).state in
        let e : t.scores (codes "#r") ≡ Some (pos 0) = ap (λ f. f (codes "#r")) (kept_scores put_conds (site_with (ints_in (selected valued filling_site)) window_word) (codes "#s") valued) ∙ found.at_byte ∙ ap (λ n. Some (pos n)) (byte_is ∙ z) in
        ap (λ o. (let f : Flow = (if not (some_is_in (exactly (pos 0)) o) && true then called 2 (run_items across_items t) else flow false t 2) in 3 + (if f.stopped then f else more f.used (run_items store_end f.state)).used)) e
        ∙ ap (λ n. 3 + (2 + n)) (store_ends t)

    pub word_store : w.byte ≡ 0 → (run_items (store_items true I32Store a offset v) s).used ≡ 17 + offset_weight offset
    word_store z = store_by I32Store 7 (word_put z)

    value_at : At ps found.page (pos found.place) found.filling.0 valued
    value_at =
        at_near (codes "#s" ∷ []) ps found.page (pos found.place) found.filling.0 reached valued refl at_byte
        (near_score (codes "#s" ∷ []) reached (codes "#s") (place_at reached v) refl)

    byte_put : (run_items (join (write_items I32Store8) store_end) valued).used ≡ 19
    byte_put =
        let k = page_small ps found.page (pos found.place) found.filling.0 reached at_byte in
        let t : State = noted ps found.page (pos found.place) found.filling.0 found.byte valued value_at found.at_byte found.within.2 in
        let n : Notes ps found.page (pos found.place) found.byte valued t = notes ps found.page (pos found.place) found.filling.0 found.byte valued value_at found.at_byte found.within.2 in
        let g = n.goes.at in
        let d = any_fill changed_scores (codes "h_mem_change8") (change_steps 1) ps found.page (pos found.place) (pos found.byte) t g
        (pos found.page, refl, small_int found.page (omega arith), (pos found.place, refl, g.place_int, (pos found.byte, refl, g.byte_int, (pos found.byte, refl, g.byte_int, tt)))) refl in
        let e : d.0.scores score_trap ≡ Some (pos 0) = d.2.scores score_trap refl ∙ ap (λ f. f score_trap) n.scores ∙ found.trap in
        let x = weigh_then (first (step_item byte_step) no_more) (join (first (fill_item (codes "h_mem_change8") filling_site (change_steps 1)) no_more) (first write_first store_end)) valued t n.leads.used n.leads.ends in
        let j : n.leads.used ≡ 2 = sym (ap (λ (f : Flow). f.used) n.leads.ends) in
        let y = weigh_then (first (fill_item (codes "h_mem_change8") filling_site (change_steps 1)) no_more) (first write_first store_end) t d.0 d.1.used d.1.ends in
        let i : d.1.used ≡ 11 = sym (ap (λ (f : Flow). f.used) d.1.ends) in
        let z = writes d.0 e in
        x ∙ omega arith
      where
        writes : (u : State) → u.scores score_trap ≡ Some (pos 0) → (run_items (first write_first store_end) u).used ≡ 6
        writes u e =
            ap (λ b. (let f : Flow = (if b then called 2 (run_steps (filled_steps filling_site write_steps u) u) else flow false u 2) in if f.stopped then f else more f.used (run_items store_end f.state)).used) (untrapped u e)
            ∙ ap (λ n. 4 + n) (store_ends (run_steps (filled_steps filling_site write_steps u) u).state)

    pub byte_store : (run_items (store_items true I32Store8 a offset v) s).used ≡ 29 + offset_weight offset
    byte_store = store_by I32Store8 19 byte_put

-- ---- THE LAWS

pub words_weigh : WordsWeigh
words_weigh a offset ps s w z = (λ r l. word_load a offset ps s w r l z, λ v l. word_store a offset ps s w v l z)

pub bytes_weigh : BytesWeigh
bytes_weigh a offset ps s w = (λ op r l o. byte_load a offset ps s w r l op o, λ v l. byte_store a offset ps s w v l)
