-- The word behind that at the window's place, over a page's end too.
use Rattle.std.proofs.Common.{◌≡◌, ℕ, ◌+◌, ◌<◌, ◌≤◌, List, [], ◌∷◌, length, Some, Bool, true, false, refl, ap, ◌∙◌, arith, ⊎_elim}
use Rattle.std.specs.Prelude.{ℤ, pos, ◌&&◌, nat_le, option_and_then, codes}
use Rattle.std.proofs.lemmas.Bool.{cases_eq, cases_lt, lt-leb, leb-true}
use Rattle.mc_nbt.specs.Tree.{Tree, int, no_fields, fields, compound, compound_of, key, select}
use Rattle.mc_nbt.specs.Word.{is_int}
use Rattle.mc_cmd.specs.Form.{Text}
use Rattle.mc_cmd.specs.Command.{assign, exactly}
use Rattle.mc_cmd.specs.World.{or_zero, some_is_in}
use Rattle.cc_line.specs.Sight.{in_rest}
use Rattle.cc_line.specs.Key.{key_filling, key_choice, score_trap}
use Rattle.cc_line.specs.State.{State, selected, number_at, set_under, with_score, with_set, with_copy}
use Rattle.cc_line.specs.Step.{Act, combine, increase, set_spot, load_site, keep_site, set_site, copy_site, when, conds_hold}
use Rattle.cc_line.specs.Place.{scratch}
use Rattle.cc_line.specs.OpenStep.{open_act, open_load_site}
use Rattle.cc_line.specs.Item.{step_item, call_when, fill_item, Items, no_more, first, join, steps_items}
use Rattle.cc_line.proofs.CoreLemmas.{straight_none}
use Rattle.cc_line.proofs.RunLemmas.{Leads, leads_join, straight_leads, called_leads, uncalled_leads}
use Rattle.cc_line.proofs.KeyLemmas.{Written, set_writes}
use Rattle.cc_page.specs.Pages.{signed_word, word_at, next_page, next_place}
use Rattle.cc_page.proofs.ReadLemmas.{words_stand}
use Rattle.cc_mem.specs.Standing.{filling_tree}
use Rattle.cc_mem.specs.Address.{filling_at, choice_site, choice_at, at_i, at_p, bounds_trap, told_word, there_item, is_missing}
use Rattle.cc_mem.specs.Load.{at_k, next_steps, is_over, over_steps, next_items}
use Rattle.cc_mem.proofs.Near.{Near, near_then, near_more, near_score, At, at_near, page_small, small_int}
use Rattle.cc_mem.proofs.Fills.{straight_act, straight_taken, straight_left, assign_is, unwrapped, near_choice}
use Rattle.cc_mem.proofs.Words.{number_in, number_is}
use Rattle.cc_mem.proofs.There.{count_in, count_there, count_missing, there_leads, telling, told_leads}

-- the scores that are written
abbrev pub next_scores : List Text
next_scores = codes "#k" ∷ (codes "#p" ∷ (codes "#c" ∷ (codes "#d" ∷ [])))

page_told : (s : State) (page : ℕ) (x y : ℤ) → s.keys in_rest key_filling ≡ Some (filling_tree page x y) → selected s (filling_at (codes "p")) ≡ Some (int (pos page))
page_told s page x y e = ap (option_and_then (λ u. select u (key (codes "p") ∷ []))) e

-- ---- its place, as if it were in the same page

abbrev first_only : ℕ → Tree
first_only p = compound_of ((codes "a0", int (pos p)) ∷ [])

-- a state in which it is told
record Points (p i : ℕ) (xs : Items) (s t : State) : Type 0 where
  pub leads : Leads xs s t
  pub choice : t.keys in_rest key_choice ≡ Some (telling p i)
  pub near : Near next_scores s t

record Begins (p i : ℕ) (s t : State) : Type 0 where
  pub points : Points p i (steps_items next_steps) s t
  pub number : t.scores (codes "#k") ≡ Some (pos i)

module _ (page i : ℕ) (x y : ℤ) (s : State) (e : s.keys in_rest key_filling ≡ Some (filling_tree page x y)) (at : s.scores (codes "#i") ≡ Some (pos i)) (l : i < 16384) where
  abbrev counted : State
  counted = with_score (with_score s (codes "#k") (pos i)) (codes "#k") (pos (i + 1))

  abbrev cleared : State
  cleared = with_set counted choice_site (compound no_fields)

  abbrev paged : State
  paged = with_set cleared (choice_at (codes "a0")) (int (pos page))

  abbrev placed : State
  placed = with_set paged (choice_at (codes "a1")) (int (pos (i + 1)))

  counts : Near next_scores s counted
  counts =
      let s1 : State = with_score s (codes "#k") (pos i) in
      near_then next_scores s s1 counted (near_score next_scores s (codes "#k") (pos i) refl) (near_score next_scores s1 (codes "#k") (pos (i + 1)) refl)

  clears : Written in_rest key_choice (compound no_fields) counted cleared
  clears = set_writes counted choice_site (compound no_fields) (compound no_fields) refl (omega arith)

  pages : Written in_rest key_choice (first_only page) cleared paged
  pages =
      set_writes cleared (choice_at (codes "a0")) (int (pos page)) (first_only page)
      (ap (λ o. set_under o (choice_at (codes "a0")).parts (int (pos page))) clears.there) (omega arith)

  places : Written in_rest key_choice (telling page (i + 1)) paged placed
  places =
      set_writes paged (choice_at (codes "a1")) (int (pos (i + 1))) (telling page (i + 1))
      (ap (λ o. set_under o (choice_at (codes "a1")).parts (int (pos (i + 1)))) pages.there) (omega arith)

  number_paged : paged.scores (codes "#k") ≡ Some (pos (i + 1))
  number_paged = ap (λ f. f (codes "#k")) (pages.scores ∙ clears.scores)

  begins : Begins page (i + 1) s placed
  begins = record {
    points = record {
      leads =
          straight_leads next_steps s placed
          (straight_act (combine at_k assign at_i) _ s (with_score s (codes "#k") (pos i)) placed (tt, tt) (assign_is s (codes "#k") (codes "#i") (pos i) at)
          (straight_act (increase at_k 1) _ (with_score s (codes "#k") (pos i)) counted placed tt (ap (with_score (with_score s (codes "#k") (pos i)) (codes "#k")) (unwrapped (i + 1) (omega arith)))
          (straight_act (set_site choice_site (compound no_fields)) _ counted cleared placed tt refl
          (straight_act (copy_site (choice_at (codes "a0")) (filling_at (codes "p"))) _ cleared paged placed tt
          (ap (with_copy cleared (choice_at (codes "a0"))) (page_told cleared page x y (clears.others in_rest key_filling refl ∙ e)))
          (straight_act (keep_site (choice_at (codes "a1")) (codes "#k")) [] paged placed placed tt
          (ap (λ o. with_set paged (choice_at (codes "a1")) (int (or_zero o))) number_paged)
          (straight_none placed))))));
      choice = places.there;
      near =
          near_then next_scores s counted placed counts
          (near_then next_scores counted cleared placed (near_choice next_scores (compound no_fields) counted cleared clears)
          (near_then next_scores cleared paged placed (near_choice next_scores (first_only page) cleared paged pages)
          (near_choice next_scores (telling page (i + 1)) paged placed places)));
    };
    number = ap (λ f. f (codes "#k")) places.scores ∙ number_paged;
  }

-- ---- over the page's end

module _ (page i : ℕ) (x y : ℤ) (t : State) (e : t.keys in_rest key_filling ≡ Some (filling_tree page x y)) (c : t.keys in_rest key_choice ≡ Some (telling page i)) (l : page ≤ 256) where
  abbrev loaded : State
  loaded = with_score t (codes "#p") (pos page)

  abbrev turned : State
  turned = with_score loaded (codes "#p") (pos (page + 1))

  abbrev page_kept : State
  page_kept = with_set turned (choice_at (codes "a0")) (int (pos (page + 1)))

  abbrev over : State
  over = with_set page_kept (choice_at (codes "a1")) (int (pos 0))

  keeps : Written in_rest key_choice (telling (page + 1) i) turned page_kept
  keeps =
      set_writes turned (choice_at (codes "a0")) (int (pos (page + 1))) (telling (page + 1) i)
      (ap (λ o. set_under o (choice_at (codes "a0")).parts (int (pos (page + 1)))) c) (omega arith)

  starts : Written in_rest key_choice (telling (page + 1) 0) page_kept over
  starts =
      set_writes page_kept (choice_at (codes "a1")) (int (pos 0)) (telling (page + 1) 0)
      (ap (λ o. set_under o (choice_at (codes "a1")).parts (int (pos 0))) keeps.there) (omega arith)

  turns : Near next_scores t turned
  turns = near_then next_scores t loaded turned (near_score next_scores t (codes "#p") (pos page) refl) (near_score next_scores loaded (codes "#p") (pos (page + 1)) refl)

  goes_over : Points (page + 1) 0 (steps_items over_steps) t over
  goes_over = record {
    leads =
        straight_leads over_steps t over
        (straight_act (load_site (codes "#p") (filling_at (codes "p"))) _ t loaded over tt
        (ap (λ o. with_score t (codes "#p") (number_at o)) (page_told t page x y e))
        (straight_act (increase at_p 1) _ loaded turned over tt (ap (with_score loaded (codes "#p")) (unwrapped (page + 1) (omega arith)))
        (straight_act (keep_site (choice_at (codes "a0")) (codes "#p")) _ turned page_kept over tt refl
        (straight_act (set_site (choice_at (codes "a1")) (int (pos 0))) [] page_kept over over tt refl
        (straight_none over)))));
    choice = starts.there;
    near =
        near_then next_scores t turned over turns
        (near_then next_scores turned page_kept over (near_choice next_scores (telling (page + 1) i) turned page_kept keeps)
        (near_choice next_scores (telling (page + 1) 0) page_kept over starts));
  }

-- ---- its place

-- a score is one number or not
pub not_exactly : (a n : ℕ) → (n ≡ a → ⊥) → some_is_in (exactly (pos a)) (Some (pos n)) ≡ false
not_exactly a n ne = go (nat_le a n) refl
  where
    go : (b : Bool) → nat_le a n ≡ b → b && nat_le n a ≡ false
    go false e = refl
    go true e = let l = leb-true a n e in lt-leb n a (omega (arith, ne))

abbrev over_call : Items
over_call = first (call_when is_over (codes "h_mem_over") (steps_items over_steps)) no_more

abbrev place_items : Items
place_items = join (steps_items next_steps) over_call

module _ (ps : List (List ℕ)) (page i : ℕ) (x y : ℤ) (s : State) (a : At ps page x y s) (at : s.scores (codes "#i") ≡ Some (pos i)) (l : i < 16384) where
  abbrev behind : State
  behind = placed page i x y s a.filling at l

  begun : Begins page (i + 1) s behind
  begun = begins page i x y s a.filling at l

  -- whatever the place
  abbrev Placed : Type 0
  Placed = (t : State) × Points (next_page page i) (next_place i) place_items s t

  last_place : i + 1 ≡ 16384 → Placed
  last_place e =
      let f : behind.keys in_rest key_filling ≡ Some (filling_tree page x y) = begun.points.near.keys in_rest key_filling refl ∙ a.filling in
      let k = page_small ps page x y s a in
      let o : State = over page (i + 1) x y behind f begun.points.choice k in
      let g : Points (page + 1) 0 (steps_items over_steps) behind o = goes_over page (i + 1) x y behind f begun.points.choice k in
      let p : page + 1 ≡ next_page page i = omega arith in
      let q : 0 ≡ next_place i = omega arith in
      let h : conds_hold is_over behind ≡ true =
      ap (λ n. some_is_in (exactly (pos 16384)) n && true) begun.number ∙ ap (λ n. some_is_in (exactly (pos 16384)) (Some (pos n)) && true) e in (
        o,
        record {
          leads = leads_join (steps_items next_steps) over_call s behind o begun.points.leads (called_leads is_over (codes "h_mem_over") (steps_items over_steps) behind o (tt, tt) h g.leads);
          choice = g.choice ∙ ap (λ n. Some (telling n 0)) p ∙ ap (λ n. Some (telling (next_page page i) n)) q;
          near = near_then next_scores s behind o begun.points.near g.near;
        },
      )

  inner_place : (i + 1 ≡ 16384 → ⊥) → Placed
  inner_place ne =
      let p : page ≡ next_page page i = omega (arith, ne) in
      let q : i + 1 ≡ next_place i = omega (arith, ne) in
      let h : conds_hold is_over behind ≡ false =
      ap (λ n. some_is_in (exactly (pos 16384)) n && true) begun.number ∙ ap (λ b. b && true) (not_exactly 16384 (i + 1) ne) in (
        behind,
        record {
          leads = leads_join (steps_items next_steps) over_call s behind behind begun.points.leads (uncalled_leads is_over (codes "h_mem_over") (steps_items over_steps) behind (tt, tt) h);
          choice = begun.points.choice ∙ ap (λ n. Some (telling n (i + 1))) p ∙ ap (λ n. Some (telling (next_page page i) n)) q;
          near = begun.points.near;
        },
      )

  is_placed : Placed
  is_placed = ⊎_elim last_place inner_place (cases_eq (i + 1) 16384)

-- ---- all of it

abbrev trap_act : Act
trap_act = set_spot (scratch score_trap) (pos bounds_trap)

abbrev trap_item : Items
trap_item = first (step_item (when is_missing trap_act)) no_more

abbrev told_item : Items
told_item = first (fill_item (codes "h_mem_told") choice_site (open_act (open_load_site (codes "#d") told_word) ∷ [])) no_more

-- the page stands, and the word comes to its score
pub record NextFound (page i n : ℕ) (s t : State) : Type 0 where
  pub leads : Leads next_items s t
  pub near : Near next_scores s t
  pub word : t.scores (codes "#d") ≡ Some (signed_word n)
  pub choice : t.keys in_rest key_choice ≡ Some (telling (next_page page i) (next_place i))

-- the page doesn't stand, and the trap is recorded
pub record NextMissing (s t : State) : Type 0 where
  pub leads : Leads next_items s t
  pub near : Near (score_trap ∷ next_scores) s t
  pub trap : t.scores score_trap ≡ Some (pos bounds_trap)

abbrev pub FindsNext : List (List ℕ) → ℕ → ℕ → State → Type 0
FindsNext ps page i s = (n : ℕ) × (word_at ps (next_page page i) (next_place i) ≡ Some n) × (n < 4294967296) × (t : State) × NextFound page i n s t

module _ (ps : List (List ℕ)) (page i : ℕ) (x y : ℤ) (s : State) (a : At ps page x y s) (at : s.scores (codes "#i") ≡ Some (pos i)) (l : i < 16384) where
  abbrev P : ℕ
  P = next_page page i

  abbrev I : ℕ
  I = next_place i

  pub page_int : is_int (pos P) ≡ true
  page_int = let k = page_small ps page x y s a in small_int P (omega arith)

  place_int : is_int (pos I) ≡ true
  place_int = small_int I (omega arith)

  -- where the page is looked for
  module _ (t : State) (g : Points P I place_items s t) where
    abbrev seen : State
    seen = with_score t (codes "#c") (count_in t (pos P))

    abbrev trapped : State
    trapped = with_score seen score_trap (pos bounds_trap)

    abbrev told : State → State
    told u = with_score u (codes "#d") (number_in u (pos P) (pos I))

    looks : Leads (first there_item no_more) t seen
    looks = there_leads (fields ((codes "a0", int (pos P)) ∷ ((codes "a1", int (pos I)) ∷ []))) (pos P) t g.choice refl page_int

    after : At ps page x y t
    after = at_near next_scores ps page x y s t refl a g.near

    near_seen : Near next_scores s seen
    near_seen = near_then next_scores s t seen g.near (near_score next_scores t (codes "#c") (count_in t (pos P)) refl)

    follows : (u : State) → Leads trap_item seen u → u.keys in_rest key_choice ≡ Some (telling P I) → Leads next_items s (told u)
    follows u f c =
        leads_join place_items (join (first there_item no_more) (join trap_item told_item)) s t (told u) g.leads
        (leads_join (first there_item no_more) (join trap_item told_item) t seen (told u) looks
        (leads_join trap_item told_item seen u (told u) f (told_leads P I u c page_int place_int)))

    found_there : (n : ℕ) → P < length ps → word_at ps P I ≡ Some n → NextFound page i n s (told seen)
    found_there n there w =
        let h : conds_hold is_missing seen ≡ false = ap (λ z. some_is_in (exactly (pos 0)) (Some z) && true) (count_there ps P t after.pages after.are_pages there) in
        record {
          leads = follows seen (straight_leads (when is_missing trap_act ∷ []) seen seen (straight_left is_missing trap_act [] seen seen (tt, tt) h (straight_none seen))) g.choice;
          near = near_then next_scores s seen (told seen) near_seen (near_score next_scores seen (codes "#d") (number_in seen (pos P) (pos I)) refl);
          word = ap Some (number_is ps P I n seen after.pages after.are_pages w);
          choice = g.choice;
        }

    missing_there : length ps ≤ P → NextMissing s (told trapped)
    missing_there out =
        let h : conds_hold is_missing seen ≡ true = ap (λ z. some_is_in (exactly (pos 0)) (Some z) && true) (count_missing ps P t after.pages after.are_pages out) in
        let hs : List Text = score_trap ∷ next_scores in
        record {
          leads = follows trapped (straight_leads (when is_missing trap_act ∷ []) seen trapped (straight_taken is_missing trap_act [] seen trapped trapped (tt, tt) tt h refl (straight_none trapped))) g.choice;
          near =
              near_then hs s seen (told trapped) (near_more next_scores hs s seen refl near_seen)
              (near_then hs seen trapped (told trapped) (near_score hs seen score_trap (pos bounds_trap) refl)
              (near_score hs trapped (codes "#d") (number_in trapped (pos P) (pos I)) refl));
          trap = refl;
        }

  abbrev pointed : Placed ps page i x y s a at l
  pointed = is_placed ps page i x y s a at l

  pub next_found : P < length ps → FindsNext ps page i s
  next_found there =
      let w = words_stand ps a.are_pages P I there (omega arith) in
      (w.0, w.1, w.2, told pointed.0 pointed.1 (seen pointed.0 pointed.1), found_there pointed.0 pointed.1 w.0 there w.1)

  pub next_missing : length ps ≤ P → (t : State) × NextMissing s t
  next_missing out = (told pointed.0 pointed.1 (trapped pointed.0 pointed.1), missing_there pointed.0 pointed.1 out)

  -- where a trap is recorded already it stays so
  pub next_trapped : s.scores score_trap ≡ Some (pos bounds_trap) → (t : State) × NextMissing s t
  next_trapped e = ⊎_elim there next_missing (cases_lt P (length ps))
    where
      there : P < length ps → (t : State) × NextMissing s t
      there h = let f = next_found h in (
        f.3,
        record {
          leads = f.4.leads;
          near = near_more next_scores (score_trap ∷ next_scores) s f.3 refl f.4.near;
          trap = f.4.near.scores score_trap refl ∙ e;
        },
      )
