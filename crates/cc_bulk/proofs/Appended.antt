-- The grower: pages of zeros behind the others, as many as are missing, but no more than a run appends.
use Rattle.std.proofs.Common.{◌≡◌, ℕ, zero, suc, ◌+◌, ◌-◌, ◌≤◌, ◌<◌, min, List, [], ◌∷◌, ◌++◌, length, map, replicate, Some, Bool, true, false, refl, sym, ap, ◌∙◌, subst, ⊎_elim, inl, inr, ◌⊎◌, append_assoc, arith}
use Rattle.std.specs.Prelude.{ℤ, pos, negsuc, ◌-ℤ◌, ◌&&◌, if◌then◌else◌, nat_le, option_and_then}
use Rattle.std.specs.Str.{bytes_eq}
use Rattle.std.proofs.lemmas.Bool.{le-leb, lt-leb, cases_lt, or_parts}
use Rattle.std.proofs.lemmas.Int.{ints}
use Rattle.std.proofs.lemmas.List.{append-nil, length-append, length-replicate, replicate-append-replicate, map-append}
use Rattle.mc_nbt.specs.Tree.{Tree, list_of, add_to, depth, select}
use Rattle.mc_nbt.proofs.TreeLemmas.{of_items-items}
use Rattle.mc_cmd.specs.Form.{Text}
use Rattle.mc_cmd.specs.Command.{exactly, from, up_to}
use Rattle.mc_cmd.specs.World.{or_zero, wrapped, is_in, some_is_in}
use Rattle.cc_line.specs.Sight.{Store, in_io, in_memory, in_rest, same_store}
use Rattle.cc_line.specs.Key.{key_memory, key_filling, key_next, key_follows, key_table, key_choice, is_work, is_work_key, score_window, PieceId, body_piece, init_piece, shared_piece, end_piece, id_tree}
use Rattle.cc_line.specs.State.{State, at_key, selected, append_under, within_key, with_tree, with_score, with_set, with_append_copy}
use Rattle.cc_line.specs.Step.{Act, decrease, set_site, append_site, run_act, when, step_weight, after_act, conds_hold}
use Rattle.cc_line.specs.Item.{step_item, no_more, steps_items}
use Rattle.cc_line.proofs.CoreLemmas.{work_apart}
use Rattle.cc_line.proofs.RunLemmas.{Leads, leads_none, leads_first}
use Rattle.cc_line.proofs.KeyLemmas.{Written, set_writes, copy_writes}
use Rattle.cc_page.specs.Pages.{ArePages, zero_page, page_tree, pages_tree}
use Rattle.cc_page.proofs.ShownLemmas.{pages_grown}
use Rattle.cc_mem.specs.Standing.{Constants, HasMemory}
use Rattle.cc_mem.specs.Size.{memory_site}
use Rattle.cc_mem.specs.Law.{Spares}
use Rattle.cc_bulk.specs.Grow.{score_missing, at_missing, is_below, zero_tree, table_site, pages_of_run, are_missing, append_steps, none_is_missing, to_next, onward_steps}
use Rattle.cc_bulk.specs.GrowLaw.{is_grower_key, PagesAreAppended}
use Rattle.cc_mem.proofs.AddressNumbers.{difference_stays}
use Rattle.cc_mem.proofs.Near.{spares_constants}
use Rattle.cc_mem.proofs.Puts.{page_low, pages_low}
use Rattle.cc_mem.proofs.Stepping.{act_leads, when_leads, unless_leads, steps_lead}
use Rattle.cc_bulk.proofs.Told.{when_sets}

-- ---- a page more

pub page_added : (ps : List (List ℕ)) (page : List ℕ) → add_to (page_tree page) (pages_tree ps) ≡ Some (pages_tree (ps ++ (page ∷ [])))
page_added [] page = refl
page_added (p ∷ ps) page =
    ap (λ (us : List Tree). Some (list_of (page_tree p ∷ (us ++ (page_tree page ∷ []))))) (of_items-items (map page_tree ps))
    ∙ ap (λ (us : List Tree). Some (list_of (page_tree p ∷ us))) (sym (map-append page_tree ps (page ∷ [])))

written_then : (r : Store) (k : Text) (a b : Tree) (s t u : State) → Written r k a s t → Written r k b t u → Written r k b s u
written_then r k a b s t u f g = record {
  places = g.places ∙ f.places;
  scores = g.scores ∙ f.scores;
  there = g.there;
  others = λ q j e. g.others q j e ∙ f.others q j e;
}

-- pages with so many of the same behind them
abbrev pub more : List (List ℕ) → ℕ → List ℕ → List (List ℕ)
more qs n page = qs ++ replicate n page

one_and_more : (qs : List (List ℕ)) (n m : ℕ) (page : List ℕ) → suc n ≡ m → more (qs ++ (page ∷ [])) n page ≡ more qs m page
one_and_more qs n m page e = append_assoc qs (page ∷ []) (replicate n page) ∙ ap (λ k. more qs k page) e

-- what a run appends, and then the others that are missing, is all of it
pub all_appended : (ps : List (List ℕ)) (k : ℕ) (page : List ℕ) → more (more ps (min k pages_of_run) page) (k - pages_of_run) page ≡ more ps k page
all_appended ps k page =
    let e : min k 32 + (k - 32) ≡ k = omega arith in
    append_assoc ps (replicate (min k 32) page) (replicate (k - 32) page)
    ∙ ap (λ l. ps ++ l) (replicate-append-replicate (min k 32) (k - 32) page ∙ ap (λ n. replicate n page) e)

module _ (page : List ℕ) (tree : Tree) (is : tree ≡ page_tree page) where
  abbrev append : Act
  append = append_site memory_site table_site

  append_writes : (qs : List (List ℕ)) (s : State) → s.keys in_memory key_memory ≡ Some (pages_tree qs) → s.keys in_rest key_table ≡ Some tree
      → Written in_memory key_memory (pages_tree (qs ++ (page ∷ []))) s (after_act append s)
  append_writes qs s e f =
      let u : Tree = pages_tree (qs ++ (page ∷ [])) in
      let adds : append_under (s.keys in_memory key_memory) [] tree ≡ Some u =
      ap (λ o. append_under o [] tree) e ∙ ap (λ t. add_to t (pages_tree qs)) is ∙ page_added qs page in
      let same : after_act append s ≡ with_set s memory_site u =
      ap (λ o. with_append_copy s memory_site (option_and_then (λ t. select t []) o)) f ∙ ap (λ o. with_tree s memory_site (option_and_then within_key o)) adds in
      subst (Written in_memory key_memory u s) (sym same) (set_writes s memory_site u u refl (pages_low (qs ++ (page ∷ []))))

  -- a run from here: as many pages as there are numbers up to k from n on, of so many
  abbrev pub Run : ℕ → ℕ → ℕ → List (List ℕ) → State → Type 0
  Run j n k qs s = (u : State) × Leads (steps_items (append_steps n j)) s u × Written in_memory key_memory (pages_tree (more qs (min (suc k - n) j) page)) s u

  pub appends : (j n k : ℕ) (qs : List (List ℕ)) (s : State) → s.scores score_missing ≡ Some (pos k) → s.keys in_memory key_memory ≡ Some (pages_tree qs) → s.keys in_rest key_table ≡ Some tree → Run j n k qs s
  appends zero n k qs s g e f =
      let none : 0 ≡ min (suc k - n) 0 = omega arith in
      (s, leads_none s, record { places = refl; scores = refl; there = e ∙ ap (λ l. Some (pages_tree l)) (sym (append-nil qs) ∙ ap (λ m. more qs m page) none); others = λ q i h. refl })
  appends (suc j) n k qs s g e f =
      ⊎_elim (past (appends j (suc n) k qs s g e f)) (here (λ ps t a b c. appends j (suc n) k ps t a b c)) (cases_lt k n)
    where
      held : conds_hold (are_missing n) s ≡ nat_le n k && true
      held = ap (λ o. some_is_in (from (pos n)) o && true) g

      past : Run j (suc n) k qs s → k < n → Run (suc j) n k qs s
      past (u, leads, written) l =
          let same : min (suc k - suc n) j ≡ min (suc k - n) (suc j) = omega arith in (
            u,
            unless_leads (are_missing n) append (steps_items (append_steps (suc n) j)) s u (tt, tt) (held ∙ ap (λ b. b && true) (lt-leb n k l)) leads,
            subst (λ m. Written in_memory key_memory (pages_tree (more qs m page)) s u) same written,
          )

      here : ((ps : List (List ℕ)) (t : State) → t.scores score_missing ≡ Some (pos k) → t.keys in_memory key_memory ≡ Some (pages_tree ps) → t.keys in_rest key_table ≡ Some tree → Run j (suc n) k ps t)
          → n ≤ k → Run (suc j) n k qs s
      here again l =
          let t : State = after_act append s in
          let w : Written in_memory key_memory (pages_tree (qs ++ (page ∷ []))) s t = append_writes qs s e f in
          let (u, leads, written) = again (qs ++ (page ∷ [])) t (ap (λ h. h score_missing) w.scores ∙ g) w.there (w.others in_rest key_table refl ∙ f) in
          let same : suc (min (suc k - suc n) j) ≡ min (suc k - n) (suc j) = omega arith in (
            u,
            when_leads (are_missing n) append (steps_items (append_steps (suc n) j)) s t u (tt, tt) (held ∙ ap (λ b. b && true) (le-leb n k l)) tt refl leads,
            written_then in_memory key_memory (pages_tree (qs ++ (page ∷ []))) (pages_tree (more qs (min (suc k - n) (suc j)) page)) s t u w
                (subst (λ l. Written in_memory key_memory (pages_tree l) t u) (one_and_more qs (min (suc k - suc n) j) (min (suc k - n) (suc j)) page same) written),
          )

-- ---- the numbers of a run

-- what is missing after it, before a sign is taken away, and then
abbrev fewer : ℕ → ℤ
fewer k = wrapped (pos k -ℤ pos pages_of_run)

fewer_is : (k : ℕ) → k ≤ 256 → (if is_in (up_to (negsuc 0)) (fewer k) && true then pos 0 else fewer k) ≡ pos (k - pages_of_run)
fewer_is k h =
    let stays : fewer k ≡ pos k -ℤ pos 32 = difference_stays k 32 (omega arith) (omega arith) in
    ⊎_elim
    (λ l.
    let e : fewer k ≡ negsuc (31 - k) = stays ∙ omega (arith, ints) in
    let z : 0 ≡ k - 32 = omega arith in
    ap (λ x. if is_in (up_to (negsuc 0)) x && true then pos 0 else x) e
    ∙ ap (λ b. if b && true then pos 0 else negsuc (31 - k)) (le-leb 0 (31 - k) (omega arith)) ∙ ap pos z)
    (λ g.
    let e : fewer k ≡ pos (k - 32) = stays ∙ omega (arith, ints) in
    ap (λ x. if is_in (up_to (negsuc 0)) x && true then pos 0 else x) e)
    (cases_lt k 32)

is_none : (m : ℕ) → is_in (exactly (pos 0)) (pos m) && true ≡ nat_le m 0
is_none m = ap (λ b. (b && nat_le m 0) && true) (le-leb 0 m (omega arith)) ∙ itself (nat_le m 0)
  where
    itself : (b : Bool) → b && true ≡ b
    itself true = refl
    itself false = refl

done_is : (k : ℕ) → is_in (exactly (pos 0)) (pos (k - pages_of_run)) && true ≡ nat_le k pages_of_run
done_is k =
    is_none (k - 32)
    ∙ ⊎_elim
    (λ l. lt-leb (k - 32) 0 (omega arith) ∙ sym (lt-leb k 32 l))
    (λ g. le-leb (k - 32) 0 (omega arith) ∙ sym (le-leb k 32 g))
    (cases_lt 32 k)

-- ---- the piece that is next

-- the piece that follows is next, if so, and nothing else differs
record Onward (b : Bool) (follows : PieceId) (s t : State) : Type 0 where
  places : t.places ≡ s.places
  scores : t.scores ≡ s.scores
  next : t.keys in_rest key_next ≡ (if b then Some (id_tree follows) else s.keys in_rest key_next)
  others : (r : Store) (k : Text) → same_store in_rest r && bytes_eq key_next k ≡ false → t.keys r k ≡ s.keys r k

piece_low : (p : PieceId) → depth (id_tree p) ≤ 63
piece_low (body_piece f j) = omega arith
piece_low (init_piece j) = omega arith
piece_low (shared_piece j) = omega arith
piece_low (end_piece w) = omega arith

goes_on : (b : Bool) (follows : PieceId) (s : State) → s.keys in_rest key_follows ≡ Some (id_tree follows) → Onward b follows s (if b then after_act to_next s else s)
goes_on false follows s e = record { places = refl; scores = refl; next = refl; others = λ r k h. refl }
goes_on true follows s e =
    let w : Written in_rest key_next (id_tree follows) s (after_act to_next s) =
    copy_writes s (at_key in_rest key_next) (selected s (at_key in_rest key_follows)) (id_tree follows) (id_tree follows) (ap (option_and_then (λ t. select t [])) e) refl (piece_low follows) in
    record { places = w.places; scores = w.scores; next = w.there; others = w.others }

-- ---- what is spared

not_memory : (r : Store) (k : Text) → is_grower_key r k ≡ false → same_store in_memory r && bytes_eq key_memory k ≡ false
not_memory in_io k e = refl
not_memory in_memory k e = e
not_memory in_rest k e = refl

not_next : (r : Store) (k : Text) → is_grower_key r k ≡ false → same_store in_rest r && bytes_eq key_next k ≡ false
not_next in_io k e = refl
not_next in_memory k e = refl
not_next in_rest k e = (or_parts (bytes_eq key_next k) (is_work_key in_rest k) e).0

not_table : (r : Store) (k : Text) → is_grower_key r k ≡ false → same_store in_rest r && bytes_eq key_table k ≡ false
not_table in_io k e = refl
not_table in_memory k e = refl
not_table in_rest k e = (or_parts (bytes_eq key_table k) (bytes_eq key_choice k) (or_parts (bytes_eq key_next k) (is_work_key in_rest k) e).1).0

-- standing scores are as they were
constants_stand : (s t : State) → ((h : Text) → is_work h ≡ false → t.scores h ≡ s.scores h) → Constants s → Constants t
constants_stand s t f c =
    let u : State = record s { scores = t.scores } in
    let spares : Spares s u = record { keys = λ r k e. refl; scores = λ h a b d e. f h b } in
    let d : Constants u = spares_constants s u spares c in
    record { four = d.four; page_words = d.page_words; bytes = d.bytes; tops = d.tops; halves = d.halves; rests = d.rests }

-- ---- all of it

few_pages : (ps : List (List ℕ)) (page : List ℕ) (n k : ℕ) → length ps + k ≤ 256 → n ≤ k → length (more ps n page) ≤ 256
few_pages ps page n k h l = omega (arith, length-append ps (replicate n page), length-replicate n page)

still_stands : (ps : List (List ℕ)) (page : List ℕ) (n i : ℕ) → (i ≡ 0) ⊎ (i < length ps) → (i ≡ 0) ⊎ (i < length (more ps n page))
still_stands ps page n i (inl e) = inl e
still_stands ps page n i (inr l) = let e = length-append ps (replicate n page) in inr (omega arith)

module _ (page : List ℕ) (tree : Tree) (is : tree ≡ page_tree page) (k : ℕ) (follows : PieceId) (ps : List (List ℕ)) (s : State) (h : HasMemory ps s) (g : s.scores score_missing ≡ Some (pos k))
    (few : length ps + k ≤ 256) (f : s.keys in_rest key_follows ≡ Some (id_tree follows)) where
  abbrev count : ℕ
  count = min k pages_of_run

  -- the page is at hand
  abbrev s1 : State
  s1 = with_set s table_site tree

  at_hand : Written in_rest key_table tree s s1
  at_hand = set_writes s table_site tree tree refl (subst (λ t. depth t ≤ 63) (sym is) (let l = page_low page in omega arith))

  -- pages are appended
  grown : (u : State) × Leads (steps_items (append_steps 1 pages_of_run)) s1 u × Written in_memory key_memory (pages_tree (more ps (min (suc k - 1) pages_of_run) page)) s1 u
  grown = appends page tree is pages_of_run 1 k ps s1 (ap (λ w. w score_missing) at_hand.scores ∙ g) (at_hand.others in_memory key_memory refl ∙ h.pages) at_hand.there

  abbrev s2 : State
  s2 = grown.0

  -- fewer are missing
  abbrev s3 : State
  s3 = with_score s2 score_missing (fewer k)

  abbrev rest : ℤ
  rest = if is_in (up_to (negsuc 0)) (fewer k) && true then pos 0 else fewer k

  abbrev s4 : State
  s4 = with_score s3 score_missing rest

  abbrev done : Bool
  done = is_in (exactly (pos 0)) rest && true

  -- the piece that follows is next
  abbrev s5 : State
  s5 = if done then after_act to_next s4 else s4

  missing : s2.scores score_missing ≡ Some (pos k)
  missing = ap (λ w. w score_missing) (grown.2.scores ∙ at_hand.scores) ∙ g

  onward : Onward done follows s4 s5
  onward = goes_on done follows s4 (grown.2.others in_rest key_follows refl ∙ at_hand.others in_rest key_follows refl ∙ f)

  ends : Leads (steps_items onward_steps) s2 s5
  ends =
      act_leads (decrease at_missing pages_of_run) _ s2 s3 s5 tt (ap (λ o. with_score s2 score_missing (wrapped (or_zero o -ℤ pos pages_of_run))) missing)
      (when_sets is_below score_missing (fewer k) (pos 0) _ s3 s5 (tt, tt) refl
      (leads_first (step_item (when none_is_missing to_next)) s4 no_more s5 s5 (step_weight (when none_is_missing to_next)) ((tt, tt), λ e. tt) refl (leads_none s5)))

  leads : Leads (steps_items (run_act (set_site table_site tree) ∷ (append_steps 1 pages_of_run ++ onward_steps))) s s5
  leads = act_leads (set_site table_site tree) _ s s1 s5 tt refl (steps_lead (append_steps 1 pages_of_run) onward_steps s1 s2 s5 grown.1 ends)

  scores : (j : Text) → is_work j ≡ false → s5.scores j ≡ s.scores j
  scores j w =
      let apart : bytes_eq score_missing j ≡ false = work_apart score_missing j refl w in
      ap (λ q. q j) onward.scores ∙ ap (λ b. if b then Some rest else s3.scores j) apart ∙ ap (λ b. if b then Some (fewer k) else s2.scores j) apart ∙ ap (λ q. q j) (grown.2.scores ∙ at_hand.scores)

  keys : (r : Store) (j : Text) → is_grower_key r j ≡ false → s5.keys r j ≡ s.keys r j
  keys r j e = onward.others r j (not_next r j e) ∙ grown.2.others r j (not_memory r j e) ∙ at_hand.others r j (not_table r j e)

  pages : s5.keys in_memory key_memory ≡ Some (pages_tree (more ps count page))
  pages =
      let e : suc k - 1 ≡ k = omega arith in
      onward.others in_memory key_memory refl ∙ grown.2.there ∙ ap (λ m. Some (pages_tree (more ps (min m pages_of_run) page))) e

  -- it is a memory again
  memory : ArePages (more ps count page) → HasMemory (more ps count page) s5
  memory a =
      let l : count ≤ k = omega arith in
      record {
        pages = pages;
        are_pages = a;
        few = few_pages ps page count k few l;
        constants = constants_stand s s5 scores h.constants;
        window = record {
          page = h.window.page;
          stands = still_stands ps page count h.window.page h.window.stands;
          base = scores score_window refl ∙ h.window.base;
          place = h.window.place;
          byte = h.window.byte;
          ints = h.window.ints;
          filling = keys in_rest key_filling refl ∙ h.window.filling;
        };
      }

  rest_is : rest ≡ pos (k - pages_of_run)
  rest_is = fewer_is k (omega arith)

  told : s5.scores score_missing ≡ Some (pos (k - pages_of_run))
  told = ap (λ q. q score_missing) onward.scores ∙ ap Some rest_is

  next : s5.keys in_rest key_next ≡ (if nat_le k pages_of_run then Some (id_tree follows) else s.keys in_rest key_next)
  next =
      onward.next
      ∙ ap (λ b. if b then Some (id_tree follows) else s2.keys in_rest key_next) (ap (λ x. is_in (exactly (pos 0)) x && true) rest_is ∙ done_is k)
      ∙ ap (λ o. if nat_le k pages_of_run then Some (id_tree follows) else o) (grown.2.others in_rest key_next refl ∙ at_hand.others in_rest key_next refl)

  places : s5.places ≡ s.places
  places = onward.places ∙ grown.2.places ∙ at_hand.places

zero_is : zero_tree ≡ page_tree zero_page
unfolding zero_tree
zero_is = refl

pub pages_appended : PagesAreAppended
pages_appended k follows ps s h g few f =
    let l = leads zero_page zero_tree zero_is k follows ps s h g few f in
    record {
      ready = l.ready;
      state = s5 zero_page zero_tree zero_is k follows ps s h g few f;
      used = l.used;
      ends = l.ends;
      memory = memory zero_page zero_tree zero_is k follows ps s h g few f (pages_grown ps (min k pages_of_run) h.are_pages).0;
      told = told zero_page zero_tree zero_is k follows ps s h g few f;
      next = next zero_page zero_tree zero_is k follows ps s h g few f;
      places = places zero_page zero_tree zero_is k follows ps s h g few f;
      keys = keys zero_page zero_tree zero_is k follows ps s h g few f;
      scores = scores zero_page zero_tree zero_is k follows ps s h g few f;
    }
