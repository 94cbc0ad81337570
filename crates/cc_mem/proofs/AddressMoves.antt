-- An address beside the window: its page is found anew, and becomes the window where it stands.
use Rattle.std.proofs.Common.{◌≡◌, ℕ, ◌+◌, ◌*◌, ◌<◌, List, [], ◌∷◌, ◌++◌, Option, Some, true, false, refl, sym, ap, ◌∙◌, subst, arith}
use Rattle.std.specs.Prelude.{ℤ, pos, ◌+ℤ◌, ◌*ℤ◌, ◌&&◌, not, option_and_then, codes}
use Rattle.std.proofs.lemmas.Bool.{lt-ltb}
use Rattle.mc_nbt.specs.Tree.{Tree, Fields, int, compound, compound_of, no_fields, of_fields, find, key, place, select}
use Rattle.mc_nbt.specs.Word.{is_int}
use Rattle.mc_cmd.specs.Command.{assign, add, multiply, divide, remainder, exactly}
use Rattle.mc_cmd.specs.Layout.{page_words}
use Rattle.mc_cmd.specs.World.{wrapped, or_zero, operate, some_is_in}
use Rattle.cc_line.specs.Sight.{in_memory, in_rest}
use Rattle.cc_line.specs.Key.{key_memory, key_filling, key_choice, score_trap, score_window, score_four, score_page_words, scale_of}
use Rattle.cc_line.specs.Place.{scratch}
use Rattle.cc_line.specs.State.{State, number_at, set_under, within_key, with_tree, with_score, with_set}
use Rattle.cc_line.specs.Step.{Flow, flow, set_spot, keep_site, set_site, combine, combined, conds_hold, run_steps}
use Rattle.cc_line.specs.OpenStep.{HasSomeInts, steps_names, ints_in, int_in, steps_with}
use Rattle.cc_line.specs.Item.{no_more, first, steps_items}
use Rattle.cc_line.proofs.RunLemmas.{Leads, leads_none}
use Rattle.cc_mem.specs.Standing.{stem_byte, filling_tree}
use Rattle.cc_mem.specs.Address.{at_p, choice_site, choice_at, filling_at, bounds_trap, no_offset, take_steps, unless_inside, split_steps, again_steps, page_steps, locate_steps, there_steps, there_item, is_missing, is_there, move_steps}
use Rattle.cc_mem.proofs.AddressNumbers.{added, taken, low_or, told_part, sum_of, sought, word_of, byte_of, put_back, small, IsSplit}
use Rattle.cc_mem.proofs.AddressStarts.{low_leads, take_leads, more_leads, split, split_leads}
use Rattle.cc_mem.proofs.Stepping.{act_leads, when_leads, unless_leads, combines, combine_leads, assign_leads, steps_lead, fill_leads}
use Rattle.cc_mem.proofs.Holding.{with_rest, Holding, holding_work, holding_base, holding_choice, holding_filling}

-- ---- page, place and byte anew

-- the compound that tells a page
abbrev pub telling : ℤ → Tree
telling z = compound_of ((codes "a0", int z) ∷ [])

pub record Located (ps : List (List ℕ)) (b : ℤ) (u : Tree) (z : ℤ) (offset page place byte : ℕ) (s t : State) : Type 0 where
  pub state : State
  pub leads : Leads (steps_items (locate_steps offset)) t state
  pub holding : Holding ps b u z s state
  pub at_place : state.scores (codes "#i") ≡ Some (pos place)
  pub at_byte : state.scores (codes "#r") ≡ Some (pos byte)
  pub at_page : state.scores (codes "#p") ≡ Some (pos page)
  pub telling : state.keys in_rest key_choice ≡ Some (telling (pos page))

module _ (ps : List (List ℕ)) (b : ℤ) (u : Tree) (z : ℤ) (n : ℤ) (offset m : ℕ) (d : IsSplit (sought offset n) m) (s t : State) (h : Holding ps b u z s t) where
  pub locates : (q r : ℤ) → t.scores (codes "#i") ≡ Some q → t.scores (codes "#r") ≡ Some r → put_back b q r ≡ sum_of offset n
      → Located ps b u z offset d.page d.place d.byte s t
  locates q r e f g =
      let i = codes "#i" in
      let v1 : ℤ = wrapped (q *ℤ pos 4) in
      let v2 : ℤ = wrapped (v1 +ℤ r) in
      let v3 : ℤ = wrapped (v2 +ℤ b) in
      let v4 : ℤ = taken v3 (told_part offset) in
      let v5 : ℤ = low_or (pos 16777216) v4 in
      let v6 : ℤ = added v5 (told_part offset) in
      let v6' : v6 ≡ pos (65536 * d.page + (4 * d.place + d.byte)) = ap (λ y. added (low_or (pos 16777216) (taken y (told_part offset))) (told_part offset)) g ∙ d.sum in
      let w : word_of v6 ≡ pos (page_words * d.page + d.place) = ap word_of v6' ∙ d.word in
      let t1 : State = with_score t i v1 in
      let t2 : State = with_score t1 i v2 in
      let t3 : State = with_score t2 i v3 in
      let t4 : State = with_score t3 i v4 in
      let t5 : State = with_score t4 i v5 in
      let t6 : State = with_score t5 i v6 in
      let t7 : State = with_score t6 (codes "#r") v6 in
      let t8 : State = with_score t7 (codes "#r") (byte_of v6) in
      let t9 : State = split t6 v6 in
      let t10 : State = with_score t9 (codes "#p") (word_of v6) in
      let t11 : State = with_score t10 (codes "#p") (pos d.page) in
      let t12 : State = with_score t11 i (pos d.place) in
      let t13 : State = with_rest t12 key_choice (compound no_fields) in
      let t14 : State = with_rest t13 key_choice (telling (pos d.page)) in
      let h1 = holding_work ps b u z s t h i v1 refl in
      let h2 = holding_work ps b u z s t1 h1 i v2 refl in
      let h3 = holding_work ps b u z s t2 h2 i v3 refl in
      let h4 = holding_work ps b u z s t3 h3 i v4 refl in
      let h5 = holding_work ps b u z s t4 h4 i v5 refl in
      let h6 = holding_work ps b u z s t5 h5 i v6 refl in
      let h7 = holding_work ps b u z s t6 h6 (codes "#r") v6 refl in
      let h8 = holding_work ps b u z s t7 h7 (codes "#r") (byte_of v6) refl in
      let h9 = holding_work ps b u z s t8 h8 i (word_of v6) refl in
      let h10 = holding_work ps b u z s t9 h9 (codes "#p") (word_of v6) refl in
      let h11 = holding_work ps b u z s t10 h10 (codes "#p") (pos d.page) refl in
      let h12 = holding_work ps b u z s t11 h11 i (pos d.place) refl in
      let h13 = holding_choice ps b u z s t12 h12 (compound no_fields) in
      let h14 = holding_choice ps b u z s t13 h13 (telling (pos d.page)) in
      let quotient : operate divide (word_of v6) (pos 16384) ≡ Some (pos d.page) = ap (λ y. operate divide y (pos 16384)) w ∙ d.quotient in
      let rest : operate remainder (word_of v6) (pos 16384) ≡ Some (pos d.place) = ap (λ y. operate remainder y (pos 16384)) w ∙ d.remains in
      record {
        state = t14;
        leads =
            steps_lead (again_steps offset) (split_steps ++ page_steps) t t6 t14
            (combine_leads i score_four multiply q (pos 4) v1 _ t t6 e h.constants.four refl
            (combine_leads i (codes "#r") add v1 r v2 _ t1 t6 refl f refl
            (combine_leads i score_window add v2 b v3 _ t2 t6 refl h.base refl
            (steps_lead (take_steps offset) _ t3 t4 t6 (take_leads t3 v3 refl offset)
            (steps_lead (unless_inside (pos no_offset) ∷ []) _ t4 t5 t6 (low_leads t4 v4 refl (pos 16777216)) (more_leads t5 v5 refl offset))))))
            (steps_lead split_steps page_steps t6 t9 t14 (split_leads t6 v6 refl h.constants.four)
            (assign_leads (codes "#p") i (word_of v6) _ t9 t14 refl
            (combine_leads (codes "#p") score_page_words divide (word_of v6) (pos 16384) (pos d.page) _ t10 t14 refl h.constants.page_words quotient
            (combine_leads i score_page_words remainder (word_of v6) (pos 16384) (pos d.place) _ t11 t14 refl h.constants.page_words rest
            (act_leads (set_site choice_site (compound no_fields)) _ t12 t13 t14 tt refl
            (act_leads (keep_site (choice_at (codes "a0")) (codes "#p")) no_more t13 t14 t14 tt refl (leads_none t14)))))));
        holding = h14;
        at_place = refl;
        at_byte = ap Some (ap byte_of v6' ∙ d.rest);
        at_page = refl;
        telling = refl;
      }

-- ---- whether a page stands

-- A compound tells a page, and other numbers maybe: `#c` gets what a `get` of the page gives.
pub there_leads : (fs : Fields) (page : ℕ) (m : Tree) (c : ℤ) (s : State) → s.keys in_rest key_choice ≡ Some (compound fs) → find (codes "a0") (of_fields fs) ≡ Some (int (pos page)) → page < 2147483648
    → s.keys in_memory key_memory ≡ Some m → number_at (select m (place (pos page) ∷ [])) ≡ c → Leads (first there_item no_more) s (with_score s (codes "#c") c)
there_leads fs page m c s e f l g v =
    let t : State = with_score s (codes "#c") c in
    let i : is_int (pos page) ≡ true = lt-ltb page 2147483648 l in
    let named : HasSomeInts (Some (compound fs)) (steps_names there_steps) = (pos page, f, i, tt) in
    let run : Option Tree → Flow = λ o. run_steps (steps_with (ints_in (option_and_then (λ y. select y []) o)) there_steps) s in
    let read : Option Tree → ℤ → Flow = λ o p. flow false (with_score s (codes "#c") (number_at (option_and_then (λ y. select y (place p ∷ [])) o))) 2 in
    fill_leads (codes "h_mem_there") choice_site there_steps no_more s t t 2
    (subst (λ o. HasSomeInts (option_and_then (λ y. select y []) o) (steps_names there_steps)) (sym e) named)
    (tt, λ q. tt)
    (ap run e ∙ ap (λ o. read (s.keys in_memory key_memory) (int_in o)) f ∙ ap (λ o. read o (pos page)) g ∙ ap (λ y. flow false (with_score s (codes "#c") y) 2) v)
    (leads_none t)

-- ---- it becomes the window, or not

missing_is : (s : State) (c : ℤ) → s.scores (codes "#c") ≡ Some c → conds_hold is_missing s ≡ some_is_in (exactly (pos 0)) (Some c) && true
missing_is s c e = ap (λ o. some_is_in (exactly (pos 0)) o && true) e

there_is : (s : State) (c : ℤ) → s.scores (codes "#c") ≡ Some c → conds_hold is_there s ≡ not (some_is_in (exactly (pos 0)) (Some c)) && true
there_is s c e = ap (λ o. not (some_is_in (exactly (pos 0)) o) && true) e

-- the trap is recorded
pub misses : (s : State) → s.scores (codes "#c") ≡ Some (pos 0) → Leads (steps_items move_steps) s (with_score s score_trap (pos bounds_trap))
misses s e =
    let t : State = with_score s score_trap (pos bounds_trap) in
    when_leads is_missing (set_spot (scratch score_trap) (pos bounds_trap)) _ s t t (tt, tt) (missing_is s (pos 0) e) tt refl
    (unless_leads is_there (keep_site (filling_at (codes "p")) (codes "#p")) _ t t (tt, tt) (there_is t (pos 0) e)
    (unless_leads is_there (combine (scratch score_window) assign at_p) _ t t (tt, tt) (there_is t (pos 0) e)
    (unless_leads is_there (combine (scratch score_window) multiply (scratch (scale_of stem_byte 2))) no_more t t (tt, tt) (there_is t (pos 0) e) (leads_none t))))

-- the page of the window's compound, exchanged
pub page_kept : (s : State) (page p : ℕ) (x y : ℤ) → s.keys in_rest key_filling ≡ Some (filling_tree page x y) → s.scores (codes "#p") ≡ Some (pos p)
    → with_set s (filling_at (codes "p")) (int (or_zero (s.scores (codes "#p")))) ≡ with_rest s key_filling (filling_tree p x y)
page_kept s page p x y e f =
    ap (λ o. with_set s (filling_at (codes "p")) (int (or_zero o))) f
    ∙ ap (λ o. with_tree s (filling_at (codes "p")) (option_and_then within_key (set_under o (key (codes "p") ∷ []) (int (pos p))))) e

-- the window is another page
pub moves : (ps : List (List ℕ)) (b : ℤ) (page p : ℕ) (x y z : ℤ) (s t : State) → Holding ps b (filling_tree page x y) z s t → p < 256
    → t.scores (codes "#c") ≡ Some (pos 16384) → t.scores (codes "#p") ≡ Some (pos p)
    → (v : State) × Leads (steps_items move_steps) t v × Holding ps (pos (65536 * p)) (filling_tree p x y) z s v × (v.scores (codes "#i") ≡ t.scores (codes "#i")) × (v.scores (codes "#r") ≡ t.scores (codes "#r"))
moves ps b page p x y z s t h l e f =
    let u : Tree = filling_tree page x y in
    let u' : Tree = filling_tree p x y in
    let t1 : State = with_rest t key_filling u' in
    let t2 : State = with_score t1 score_window (pos p) in
    let t3 : State = with_score t2 score_window (pos (65536 * p)) in
    let h1 = holding_filling ps b u z s t h u' in
    let h2 = holding_base ps b u' z s t1 h1 (pos p) in
    let h3 = holding_base ps (pos p) u' z s t2 h2 (pos (65536 * p)) in
    let m : p * 65536 ≡ 65536 * p = omega arith in
    let product : operate multiply (pos p) (pos 65536) ≡ Some (pos (65536 * p)) = ap (λ n. Some (wrapped (pos n))) m ∙ ap Some (small (65536 * p) (omega arith)) in
    let scale : t2.scores (scale_of stem_byte 2) ≡ Some (pos 65536) = h2.constants.bytes 2 (omega arith) in (
      t3,
      unless_leads is_missing (set_spot (scratch score_trap) (pos bounds_trap)) _ t t3 (tt, tt) (missing_is t (pos 16384) e)
          (when_leads is_there (keep_site (filling_at (codes "p")) (codes "#p")) _ t t1 t3 (tt, tt) (there_is t (pos 16384) e) tt (page_kept t page p x y h.filling f)
          (when_leads is_there (combine (scratch score_window) assign at_p) _ t1 t2 t3 (tt, tt) (there_is t1 (pos 16384) e) (tt, tt) (ap (combined t1 (scratch score_window) assign) f)
          (when_leads is_there (combine (scratch score_window) multiply (scratch (scale_of stem_byte 2))) no_more t2 t3 t3 (tt, tt) (there_is t2 (pos 16384) e) (tt, tt)
          (combines t2 score_window (scale_of stem_byte 2) multiply (pos p) (pos 65536) (pos (65536 * p)) refl scale product) (leads_none t3)))),
      h3,
      refl,
      refl,
    )
