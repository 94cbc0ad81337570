-- Loads of a byte or two within a word.
use Rattle.std.proofs.Common.{◌≡◌, ℕ, ◌-◌, ◌^◌, ◌<◌, List, [], Some, false, refl, sym, ap, ◌∙◌, arith}
use Rattle.std.specs.Prelude.{ℤ, pos, if◌then◌else◌, codes}
use Rattle.std.specs.Int.{w8, w32, cast_signed}
use Rattle.std.specs.Str.{bytes_eq}
use Rattle.mc_cmd.specs.Form.{Text}
use Rattle.mc_cmd.specs.Command.{Op, multiply, divide, remainder}
use Rattle.mc_cmd.specs.World.{operate}
use Rattle.wm_ast.specs.Integer.{extend_s}
use Rattle.cc_line.specs.Place.{scratch}
use Rattle.cc_line.specs.Key.{score_trap, scale_of}
use Rattle.cc_line.specs.State.{State, with_score}
use Rattle.cc_line.specs.Step.{combine, load_site}
use Rattle.cc_line.specs.Core.{Straight}
use Rattle.cc_line.specs.OpenStep.{steps_with, ints_in}
use Rattle.cc_line.specs.Item.{fill_item, Items, no_more, first, join}
use Rattle.cc_line.proofs.CoreLemmas.{straight_none}
use Rattle.cc_line.proofs.RunLemmas.{Leads, leads_join}
use Rattle.cc_page.specs.Pages.{signed_word, word_at, part_of}
use Rattle.cc_page.proofs.Scores.{parts_by_scores}
use Rattle.cc_mem.specs.Standing.{stem_byte, stem_top, filling_tree}
use Rattle.cc_mem.specs.Address.{bounds_trap, filling_site}
use Rattle.cc_mem.specs.Load.{at_u, scale, part_steps, load8u_items, load8s_items}
use Rattle.cc_mem.proofs.Near.{is_one, Near, near_then, near_score, At, page_small, small_int}
use Rattle.cc_mem.proofs.Fills.{straight_act, combine_is, fill_leads}
use Rattle.cc_mem.proofs.Words.{word_site, number_is, filling_selected}
use Rattle.cc_mem.proofs.LoadSums.{SignedByte, signed_byte, unsigned_part}
use Rattle.cc_mem.proofs.Accesses.{Goes, near_goes, goes_then, Reads, reads_so, Misses, misses_so, Notes, noted, notes, any_fill}
use Rattle.cc_mem.proofs.LoadWords.{word_scores, byte_items}

abbrev pub part_fill : Text → Op → Text → Op → ℕ → Items
part_fill f op stem op' k = first (fill_item f filling_site (part_steps op stem op' k)) no_more

abbrev pub part_items : Text → Op → Text → Op → ℕ → Items
part_items f op stem op' k = join byte_items (part_fill f op stem op' k)

-- what they leave
pub record Parts (xs : Items) (ps : List (List ℕ)) (page : ℕ) (x : ℤ) (r : ℕ) (s t : State) : Type 0 where
  pub leads : Leads xs s t
  pub goes : Goes ps page x (pos r) s t
  pub scores : (h : Text) → is_one word_scores h ≡ false → t.scores h ≡ s.scores h

parts_so : (f : Text) (op : Op) (stem : Text) (op' : Op) (k : ℕ) (ps : List (List ℕ)) (page : ℕ) (x : ℤ) (r : ℕ) (s t u : State) → Notes ps page x r s t → Leads (part_fill f op stem op' k) t u → Near word_scores t u
    → Parts (part_items f op stem op' k) ps page x r s u
parts_so f op stem op' k ps page x r s t u n l e = record {
  leads = leads_join byte_items (part_fill f op stem op' k) s t u n.leads l;
  goes = goes_then ps page x (pos r) x (pos r) s t u n.goes (near_goes word_scores ps page x (pos r) t u refl n.goes.at e);
  scores = λ h a. e.scores h a ∙ ap (λ g. g h) n.scores;
}

module _ (f : Text) (op : Op) (stem : Text) (op' : Op) (k : ℕ) (ps : List (List ℕ)) (page r : ℕ) (s : State) (l : r < 4) where
  -- whatever the scores
  pub part_any : (x y : ℤ) → At ps page x y s → s.scores (codes "#r") ≡ Some (pos r) → (t : State) × Parts (part_items f op stem op' k) ps page x r s t
  part_any x y a e =
      let n : Notes ps page x r s (noted ps page x y r s a e l) = notes ps page x y r s a e l in
      let t : State = noted ps page x y r s a e l in
      let q = page_small ps page x y s a in
      let d = any_fill word_scores f (part_steps op stem op' k) ps page x (pos r) t n.goes.at
      (pos page, refl, small_int page (omega arith), (x, refl, a.place_int, (pos r, refl, n.goes.at.byte_int, tt))) refl in
      (d.0, parts_so f op stem op' k ps page x r s t d.0 n d.1 d.2)

  -- of a word, with these scales
  module _ (i m : ℕ) (y b c q z : ℤ) (a : At ps page (pos i) y s) (e : s.scores (codes "#r") ≡ Some (pos r)) (w : word_at ps page i ≡ Some m)
      (apart : bytes_eq (codes "#u") (scale_of stem r) ≡ false) (apart' : bytes_eq (codes "#u") (scale_of stem_byte k) ≡ false)
      (eb : s.scores (scale_of stem r) ≡ Some b) (ec : s.scores (scale_of stem_byte k) ≡ Some c) (eq : operate op (signed_word m) b ≡ Some q) (ez : operate op' q c ≡ Some z) where
    abbrev start : State
    start = noted ps page (pos i) y r s a e l

    abbrev worded : State
    worded = with_score start (codes "#u") (signed_word m)

    abbrev turned : State
    turned = with_score worded (codes "#u") q

    abbrev pub parted : State
    parted = with_score turned (codes "#u") z

    begun : Notes ps page (pos i) r s start
    begun = notes ps page (pos i) y r s a e l

    sb : worded.scores (scale_of stem r) ≡ Some b
    sb = ap (λ t. if t then Some (signed_word m) else start.scores (scale_of stem r)) apart ∙ ap (λ f. f (scale_of stem r)) begun.scores ∙ eb

    sc : turned.scores (scale_of stem_byte k) ≡ Some c
    sc =
        ap (λ t. if t then Some q else worded.scores (scale_of stem_byte k)) apart'
        ∙ ap (λ t. if t then Some (signed_word m) else start.scores (scale_of stem_byte k)) apart'
        ∙ ap (λ f. f (scale_of stem_byte k)) begun.scores ∙ ec

    part_straight : Straight (steps_with (ints_in (Some (filling_tree page (pos i) (pos r)))) (part_steps op stem op' k)) start parted
    part_straight =
        straight_act (load_site (codes "#u") (word_site (pos page) (pos i))) _ start worded parted tt
        (ap (with_score start (codes "#u")) (number_is ps page i m start begun.goes.at.pages begun.goes.at.are_pages w))
        (straight_act (combine at_u op (scratch (scale_of stem r))) _ worded turned parted (tt, tt) (combine_is worded (codes "#u") (scale_of stem r) op (signed_word m) b q refl sb eq)
        (straight_act (combine at_u op' (scale k)) [] turned parted parted (tt, tt) (combine_is turned (codes "#u") (scale_of stem_byte k) op' q c z refl sc ez)
        (straight_none parted)))

    part_near : Near word_scores start parted
    part_near =
        near_then word_scores start worded parted (near_score word_scores start (codes "#u") (signed_word m) refl)
        (near_then word_scores worded turned parted (near_score word_scores worded (codes "#u") q refl) (near_score word_scores turned (codes "#u") z refl))

    pub part_is : Parts (part_items f op stem op' k) ps page (pos i) r s parted
    part_is =
        let h = page_small ps page (pos i) y s a in
        parts_so f op stem op' k ps page (pos i) r s start parted begun
        (fill_leads f filling_site (part_steps op stem op' k) start parted (Some (filling_tree page (pos i) (pos r))) (filling_selected start page (pos i) (pos r) begun.goes.at.filling)
        (pos page, refl, small_int page (omega arith), (pos i, refl, a.place_int, (pos r, refl, begun.goes.at.byte_int, tt))) part_straight)
        part_near

-- ---- one byte

pub parts_read : (xs : Items) (ps : List (List ℕ)) (page : ℕ) (x : ℤ) (r : ℕ) (z : ℤ) (s t : State) → Parts xs ps page x r s t → t.scores (codes "#u") ≡ Some z → Reads xs ps z s t
parts_read xs ps page x r z s t p e = reads_so xs ps z page x (pos r) s t p.leads e (p.scores score_trap refl) p.goes

pub parts_miss : (xs : Items) (ps : List (List ℕ)) (page : ℕ) (x : ℤ) (r : ℕ) (s t : State) → Parts xs ps page x r s t → s.scores score_trap ≡ Some (pos bounds_trap) → Misses xs ps s t
parts_miss xs ps page x r s t p e = misses_so xs ps page x (pos r) s t p.leads (p.scores score_trap refl ∙ e) p.goes

module _ (ps : List (List ℕ)) (page i r m : ℕ) (y : ℤ) (s : State) (a : At ps page (pos i) y s) (er : s.scores (codes "#r") ≡ Some (pos r)) (l : r < 4) (w : word_at ps page i ≡ Some m) (hm : m < 4294967296) where
  pub load8u_reads : (u : State) × Reads load8u_items ps (cast_signed w32 (part_of m r 1)) s u
  load8u_reads =
      let p = parts_by_scores m r 1 hm l (omega arith) (omega arith) (omega arith) in
      let e = part_is (codes "h_mem_byte_u") divide stem_byte remainder 1 ps page r s l i m y (pos (256 ^ r)) (pos (256 ^ 1)) p.0 (pos (part_of m r 1)) a er w refl refl (a.constants.bytes r l) (a.constants.bytes 1 (omega arith)) p.1 p.2 in
      (_, parts_read load8u_items ps page (pos i) r (cast_signed w32 (part_of m r 1)) s _ e (ap Some (sym (unsigned_part m r))))

  pub load8s_reads : (u : State) × Reads load8s_items ps (cast_signed w32 (extend_s w8 w32 (part_of m r 1))) s u
  load8s_reads =
      let p : SignedByte m r = signed_byte m r hm l in
      let e = part_is (codes "h_mem_byte_s") multiply stem_top divide 3 ps page r s l i m y (pos (256 ^ (3 - r))) (pos (256 ^ 3)) p.raised (cast_signed w32 (extend_s w8 w32 (part_of m r 1))) a er w refl refl (a.constants.tops r l) (a.constants.bytes 3 (omega arith)) p.multiplies p.divides in
      (_, parts_read load8s_items ps page (pos i) r (cast_signed w32 (extend_s w8 w32 (part_of m r 1))) s _ e refl)

-- where a trap is recorded
module _ (ps : List (List ℕ)) (page r : ℕ) (x y : ℤ) (s : State) (a : At ps page x y s) (er : s.scores (codes "#r") ≡ Some (pos r)) (l : r < 4) (e : s.scores score_trap ≡ Some (pos bounds_trap)) where
  pub load8u_misses : (u : State) × Misses load8u_items ps s u
  load8u_misses = let d = part_any (codes "h_mem_byte_u") divide stem_byte remainder 1 ps page r s l x y a er in (d.0, parts_miss load8u_items ps page x r s d.0 d.1 e)

  pub load8s_misses : (u : State) × Misses load8s_items ps s u
  load8s_misses = let d = part_any (codes "h_mem_byte_s") multiply stem_top divide 3 ps page r s l x y a er in (d.0, parts_miss load8s_items ps page x r s d.0 d.1 e)
