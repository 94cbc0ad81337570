-- The test of whether bytes from an address on lie within the memory.
use Rattle.std.proofs.Common.{◌≡◌, ℕ, suc, ◌+◌, ◌-◌, ◌*◌, ◌<◌, ◌≤◌, List, [], ◌∷◌, length, Some, Bool, true, false, refl, ap, ◌∙◌, ⊎_elim, arith}
use Rattle.std.specs.Prelude.{ℤ, pos, negsuc, ◌-ℤ◌, ◌*ℤ◌, ◌&&◌, if◌then◌else◌, int_lt, codes}
use Rattle.std.specs.Int.{w32, cast_unsigned}
use Rattle.std.proofs.lemmas.Bool.{lt-ltb, le-ltb, le-leb, ltb-true, cases_lt}
use Rattle.std.proofs.lemmas.Int.{ints}
use Rattle.mc_nbt.specs.Word.{is_int}
use Rattle.mc_cmd.specs.Command.{subtract, multiply, greater, up_to}
use Rattle.mc_cmd.specs.World.{wrapped, is_in, compares, operate}
use Rattle.cc_line.specs.Key.{score_trap, scale_of}
use Rattle.cc_line.specs.State.{State, place_at, with_score}
use Rattle.cc_line.specs.Step.{combine, load_place, load_site, Step, run_act, when}
use Rattle.cc_line.specs.Item.{step_item, Items, no_more, first, steps_items}
use Rattle.cc_line.proofs.RunLemmas.{Leads, Halts, leads_none, leads_join, halts_join}
use Rattle.cc_page.specs.Pages.{pages_bytes}
use Rattle.cc_page.proofs.ShownLemmas.{pages_many}
use Rattle.cc_mem.specs.Address.{at_c, bounds_trap, record_trap, stop_step}
use Rattle.cc_bulk.specs.Fill.{at_a, has_sign, is_too_much, reach_items}
use Rattle.cc_bulk.specs.FillLaw.{ReachesAreTested}
use Rattle.cc_mem.specs.Law.{Does, Faults, Before}
use Rattle.cc_mem.specs.Load.{at_d, scale}
use Rattle.cc_mem.specs.Size.{memory_site}
use Rattle.cc_mem.specs.Standing.{stem_byte, filling_tree, HasMemory}
use Rattle.cc_mem.proofs.AddressNumbers.{small, difference_stays}
use Rattle.cc_mem.proofs.Changes.{byte_scale}
use Rattle.cc_mem.proofs.Holding.{Holding, held, holding_work, holding_trap, has_memory}
use Rattle.cc_mem.proofs.Sizes.{size_is}
use Rattle.cc_mem.proofs.Stepping.{act_leads, combine_leads}
use Rattle.cc_mem.proofs.StoreLaw.{stop_passes, stop_halts}
use Rattle.cc_bulk.proofs.Told.{when_sets}

-- ---- the trap, by the numbers

-- where a number has a sign, and where more bytes are wanted than there are behind an address; else as it was
abbrev by_sign : ℤ → ℤ → ℤ
by_sign x old = if is_in (up_to (negsuc 0)) x && true then pos bounds_trap else old

abbrev behind : ℕ → ℤ → ℤ
behind k x = wrapped (pos (65536 * k) -ℤ x)

abbrev by_end : ℕ → ℤ → ℤ → ℤ → ℤ
by_end k x z old = if compares greater z (behind k x) && true then pos bounds_trap else old

abbrev trap_of : ℕ → ℤ → ℤ → ℤ
trap_of k x z = by_end k x z (by_sign z (by_sign x (pos 0)))

either : (b : Bool) → (if b && true then pos bounds_trap else pos bounds_trap) ≡ pos bounds_trap
either true = refl
either false = refl

signed : (m : ℕ) (old : ℤ) → by_sign (negsuc m) old ≡ pos bounds_trap
signed m old = ap (λ b. if b && true then pos bounds_trap else old) (le-leb 0 m (omega arith))

module _ (k : ℕ) (few : k ≤ 256) where
  within : (x z : ℤ) → is_int x ≡ true → is_int z ≡ true → cast_unsigned w32 x + cast_unsigned w32 z ≤ 65536 * k → trap_of k x z ≡ pos 0
  within (pos p) (pos q) i j h =
      let l : p < 2147483648 = ltb-true p 2147483648 i in
      let e : behind k (pos p) ≡ pos (65536 * k - p) = difference_stays (65536 * k) p (omega arith) l ∙ omega (arith, ints) in
      ap (λ d. if int_lt d (pos q) && true then pos bounds_trap else pos 0) e
      ∙ ap (λ b. if b && true then pos bounds_trap else pos 0) (le-ltb (65536 * k - p) q (omega arith))
  within (pos p) (negsuc q) i j h = let l : q < 2147483648 = ltb-true q 2147483648 j in absurd (omega arith)
  within (negsuc p) z i j h = let l : p < 2147483648 = ltb-true p 2147483648 i in absurd (omega arith)

  beyond : (x z : ℤ) → is_int x ≡ true → 65536 * k < cast_unsigned w32 x + cast_unsigned w32 z → trap_of k x z ≡ pos bounds_trap
  beyond (pos p) (pos q) i h =
      let l : p < 2147483648 = ltb-true p 2147483648 i in
      ⊎_elim
      (λ g.
      let e : behind k (pos p) ≡ negsuc (p - suc (65536 * k)) = difference_stays (65536 * k) p (omega arith) l ∙ omega (arith, ints) in
      ap (λ d. if int_lt d (pos q) && true then pos bounds_trap else pos 0) e)
      (λ g.
      let e : behind k (pos p) ≡ pos (65536 * k - p) = difference_stays (65536 * k) p (omega arith) l ∙ omega (arith, ints) in
      ap (λ d. if int_lt d (pos q) && true then pos bounds_trap else pos 0) e
      ∙ ap (λ b. if b && true then pos bounds_trap else pos 0) (lt-ltb (65536 * k - p) q (omega arith)))
      (cases_lt (65536 * k) p)
  beyond (pos p) (negsuc q) i h = ap (by_end k (pos p) (negsuc q)) (signed q (pos 0)) ∙ either (compares greater (negsuc q) (behind k (pos p)))
  beyond (negsuc p) z i h =
      ap (λ y. by_end k (negsuc p) z (by_sign z y)) (signed p (pos 0))
      ∙ ap (by_end k (negsuc p) z) (either (is_in (up_to (negsuc 0)) z)) ∙ either (compares greater z (behind k (negsuc p)))

  -- so many bytes have the pages
  bytes_of_pages : operate multiply (pos k) (pos 65536) ≡ Some (pos (65536 * k))
  bytes_of_pages = let e : pos k *ℤ pos 65536 ≡ pos (65536 * k) = omega (arith, ints) in ap Some (ap wrapped e ∙ small (65536 * k) (omega arith))

-- ---- the steps

module _ (a n : ℕ) (ps : List (List ℕ)) (s : State) (b : Before false a ps s) (there : n < length s.places) where
  abbrev x : ℤ
  x = place_at s a

  abbrev z : ℤ
  z = place_at s n

  abbrev k : ℕ
  k = length ps

  abbrev s1 : State
  s1 = with_score s (codes "#a") x

  abbrev s2 : State
  s2 = with_score s1 (codes "#d") z

  abbrev s3 : State
  s3 = with_score s2 (codes "#c") (pos k)

  abbrev s4 : State
  s4 = with_score s3 (codes "#c") (pos (65536 * k))

  abbrev s5 : State
  s5 = with_score s4 score_trap (by_sign x (pos 0))

  abbrev s6 : State
  s6 = with_score s5 score_trap (by_sign z (by_sign x (pos 0)))

  abbrev s7 : State
  s7 = with_score s6 (codes "#c") (behind k x)

  abbrev tested : State
  tested = with_score s7 score_trap (trap_of k x z)

  -- all but the end of the list
  abbrev tests : List Step
  tests =
      run_act (load_place (codes "#a") a)
      ∷ (run_act (load_place (codes "#d") n)
      ∷ (run_act (load_site (codes "#c") memory_site)
      ∷ (run_act (combine at_c multiply (scale 2))
      ∷ (when (has_sign at_a) record_trap ∷ (when (has_sign at_d) record_trap ∷ (run_act (combine at_c subtract at_a) ∷ (when is_too_much record_trap ∷ [])))))))

  leads : Leads (steps_items tests) s tested
  leads =
      act_leads (load_place (codes "#a") a) _ s s1 tested b.there refl
      (act_leads (load_place (codes "#d") n) _ s1 s2 tested there refl
      (act_leads (load_site (codes "#c") memory_site) _ s2 s3 tested tt (ap (with_score s2 (codes "#c")) (size_is ps s b.memory))
      (combine_leads (codes "#c") (scale_of stem_byte 2) multiply (pos k) (pos 65536) (pos (65536 * k)) _ s3 tested refl
      (byte_scale s b.memory.constants 2 (omega arith) ((codes "#c", pos k) ∷ ((codes "#d", z) ∷ ((codes "#a", x) ∷ []))) refl) (bytes_of_pages k b.memory.few)
      (when_sets (has_sign at_a) score_trap (pos 0) (pos bounds_trap) _ s4 tested (tt, tt) b.trap
      (when_sets (has_sign at_d) score_trap (by_sign x (pos 0)) (pos bounds_trap) _ s5 tested (tt, tt) refl
      (combine_leads (codes "#c") (codes "#a") subtract (pos (65536 * k)) x (behind k x) _ s6 tested refl refl refl
      (when_sets is_too_much score_trap (by_sign z (by_sign x (pos 0))) (pos bounds_trap) no_more s7 tested ((tt, tt), tt) refl (leads_none tested))))))))

  abbrev base : ℤ
  base = pos (65536 * b.memory.window.page)

  holds : Holding ps base (filling_tree b.memory.window.page b.memory.window.place b.memory.window.byte) (trap_of k x z) s tested
  holds =
      let u = filling_tree b.memory.window.page b.memory.window.place b.memory.window.byte in
      let h1 = holding_work ps base u (pos 0) s s (held ps s b.memory (pos 0) b.trap) (codes "#a") x refl in
      let h2 = holding_work ps base u (pos 0) s s1 h1 (codes "#d") z refl in
      let h3 = holding_work ps base u (pos 0) s s2 h2 (codes "#c") (pos k) refl in
      let h4 = holding_work ps base u (pos 0) s s3 h3 (codes "#c") (pos (65536 * k)) refl in
      let h5 = holding_trap ps base u (pos 0) s s4 h4 (by_sign x (pos 0)) in
      let h6 = holding_trap ps base u (by_sign x (pos 0)) s s5 h5 (by_sign z (by_sign x (pos 0))) in
      let h7 = holding_work ps base u (by_sign z (by_sign x (pos 0))) s s6 h6 (codes "#c") (behind k x) refl in
      holding_trap ps base u (by_sign z (by_sign x (pos 0))) s s7 h7 (trap_of k x z)

  memory : HasMemory ps tested
  memory =
      let m = b.memory in
      has_memory ps m.window.page m.window.place m.window.byte (trap_of k x z) s tested m.are_pages m.few m.window.stands m.window.ints.0 m.window.ints.1 holds

  abbrev last : Items
  last = first (step_item stop_step) no_more

  goes_on : trap_of k x z ≡ pos 0 → Does (reach_items a n) s 0 [] ps
  goes_on e =
      let l : Leads (reach_items a n) s tested = leads_join (steps_items tests) last s tested tested leads (stop_passes tested (ap Some e)) in
      record { ready = l.ready; state = tested; used = l.used; ends = l.ends; places = refl; trap = ap Some e; memory = memory; spares = holds.spares }

  ends : trap_of k x z ≡ pos bounds_trap → Faults (reach_items a n) s ps
  ends e =
      let l : Halts (reach_items a n) s tested = halts_join (steps_items tests) last s tested tested leads (stop_halts tested (ap Some e)) in
      record { ready = l.ready; state = tested; used = l.used; ends = l.ends; trap = ap Some e; memory = memory; spares = holds.spares }

pub reaches_tested : ReachesAreTested
reaches_tested a n ps s b there int =
    let many : length (pages_bytes ps) ≡ 65536 * length ps = pages_many ps b.memory.are_pages in (
      λ h. goes_on a n ps s b there (within (length ps) b.memory.few (place_at s a) (place_at s n) b.int int (omega arith)),
      λ h. ends a n ps s b there (beyond (length ps) b.memory.few (place_at s a) (place_at s n) b.int (omega arith)),
    )
