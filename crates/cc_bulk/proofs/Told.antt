-- The machine's step of growing: the old number of pages, or -1, and how many pages are missing.
use Rattle.std.proofs.Common.{◌≡◌, ℕ, suc, ◌+◌, ◌-◌, ◌<◌, ◌≤◌, List, [], ◌∷◌, length, Some, Bool, true, false, refl, ap, ◌∙◌, subst, ⊎_elim, arith}
use Rattle.std.specs.Prelude.{ℤ, pos, negsuc, ◌-ℤ◌, ◌&&◌, if◌then◌else◌, int_lt, codes}
use Rattle.std.specs.Int.{w32, cast_unsigned}
use Rattle.std.proofs.lemmas.Bool.{lt-ltb, le-ltb, le-leb, ltb-true, cases_lt}
use Rattle.std.proofs.lemmas.Int.{ints}
use Rattle.mc_nbt.specs.Word.{is_int}
use Rattle.mc_cmd.specs.Form.{Text}
use Rattle.mc_cmd.specs.Command.{subtract, greater, exactly, up_to}
use Rattle.mc_cmd.specs.World.{wrapped, is_in, compares}
use Rattle.cc_line.specs.Place.{scratch}
use Rattle.cc_line.specs.State.{State, place_at, with_place, with_score}
use Rattle.cc_line.specs.Step.{set_spot, load_place, keep_place, load_site, Cond, when, conds_hold, CondsReady}
use Rattle.cc_line.specs.Item.{step_item, Items, no_more, first}
use Rattle.cc_line.proofs.RunLemmas.{Leads, leads_none}
use Rattle.cc_line.proofs.SettleLemmas.{score_kept}
use Rattle.cc_mem.specs.Load.{at_d}
use Rattle.cc_mem.specs.Size.{memory_site}
use Rattle.cc_mem.specs.Law.{Before}
use Rattle.cc_bulk.specs.Grow.{score_missing, is_below, is_more, is_refused, grow_items}
use Rattle.cc_bulk.specs.GrowLaw.{TellsMissing, GrowsAreTold}
use Rattle.cc_mem.proofs.AddressNumbers.{difference_stays}
use Rattle.cc_mem.proofs.Loads.{memory_placed, spares_placed}
use Rattle.cc_mem.proofs.Near.{at_memory, memory_at, spares_then}
use Rattle.cc_mem.proofs.Sizes.{size_is}
use Rattle.cc_mem.proofs.Filled.{nest, steady_nest, steady_goes}
use Rattle.cc_mem.proofs.Accesses.{Goes}
use Rattle.cc_mem.proofs.Stepping.{act_leads, when_leads, unless_leads, combine_leads}

-- ---- the numbers of the step

-- how many pages the maximum leaves
abbrev left : ℕ → ℕ → ℤ
left most n = wrapped (pos most -ℤ pos n)

-- what the place gets, of a number with a sign, and of one that is more than is left
abbrev by_sign : ℕ → ℤ → ℤ
by_sign n z = if is_in (up_to (negsuc 0)) z && true then negsuc 0 else pos n

abbrev answer : ℕ → ℕ → ℤ → ℤ
answer most n z = if compares greater z (left most n) && true then negsuc 0 else by_sign n z

-- what is missing then
abbrev lacking : ℤ → ℤ → ℤ
lacking c z = if is_in (exactly (negsuc 0)) c && true then pos 0 else z

module _ (most n : ℕ) (low : most < 2147483648) (few : n ≤ 256) where
  left_is : left most n ≡ pos most -ℤ pos n
  left_is = difference_stays most n low (omega arith)

  fits_pos : (k : ℕ) → n + k ≤ most → answer most n (pos k) ≡ pos n
  fits_pos k h =
      let e : left most n ≡ pos (most - n) = left_is ∙ omega (arith, ints) in
      ap (λ d. if int_lt d (pos k) && true then negsuc 0 else pos n) e ∙ ap (λ b. if b && true then negsuc 0 else pos n) (le-ltb (most - n) k (omega arith))

  refused_pos : (k : ℕ) → most < n + k → answer most n (pos k) ≡ negsuc 0
  refused_pos k h =
      ⊎_elim
      (λ l.
      let e : left most n ≡ negsuc (n - suc most) = left_is ∙ omega (arith, ints) in
      ap (λ d. if int_lt d (pos k) && true then negsuc 0 else pos n) e)
      (λ g.
      let e : left most n ≡ pos (most - n) = left_is ∙ omega (arith, ints) in
      ap (λ d. if int_lt d (pos k) && true then negsuc 0 else pos n) e ∙ ap (λ b. if b && true then negsuc 0 else pos n) (lt-ltb (most - n) k (omega arith)))
      (cases_lt most n)

  refused_below : (m : ℕ) → answer most n (negsuc m) ≡ negsuc 0
  refused_below m = by (compares greater (negsuc m) (left most n))
    where
      signed : by_sign n (negsuc m) ≡ negsuc 0
      signed = ap (λ b. if b && true then negsuc 0 else pos n) (le-leb 0 m (omega arith))

      by : (b : Bool) → (if b && true then negsuc 0 else by_sign n (negsuc m)) ≡ negsuc 0
      by true = refl
      by false = signed

  pub fits : (z : ℤ) → is_int z ≡ true → n + cast_unsigned w32 z ≤ most → (answer most n z ≡ pos n) × (lacking (answer most n z) z ≡ pos (cast_unsigned w32 z))
  fits (pos k) i h = let e = fits_pos k h in (e, ap (λ c. lacking c (pos k)) e)
  fits (negsuc m) i h = let l : m < 2147483648 = ltb-true m 2147483648 i in absurd (omega arith)

  pub refuses : (z : ℤ) → most < n + cast_unsigned w32 z → (answer most n z ≡ negsuc 0) × (lacking (answer most n z) z ≡ pos 0)
  refuses (pos k) h = let e = refused_pos k h in (e, ap (λ c. lacking c (pos k)) e)
  refuses (negsuc m) h = let e = refused_below m in (e, ap (λ c. lacking c (negsuc m)) e)

-- ---- the steps

-- a score that becomes another number where conditions hold
pub when_sets : (cs : List Cond) (h : Text) (x y : ℤ) (xs : Items) (s u : State) → CondsReady cs s → s.scores h ≡ Some x → Leads xs (with_score s h (if conds_hold cs s then y else x)) u
    → Leads (first (step_item (when cs (set_spot (scratch h) y))) xs) s u
when_sets cs h x y xs s u c e = by (conds_hold cs s) refl
  where
    by : (b : Bool) → conds_hold cs s ≡ b → Leads xs (with_score s h (if b then y else x)) u → Leads (first (step_item (when cs (set_spot (scratch h) y))) xs) s u
    by true k l = when_leads cs (set_spot (scratch h) y) xs s (with_score s h y) u c k tt refl l
    by false k l = unless_leads cs (set_spot (scratch h) y) xs s u c k (subst (λ v. Leads xs v u) (score_kept s h x e) l)

module _ (most a : ℕ) (ps : List (List ℕ)) (s : State) (b : Before false a ps s) (low : most < 2147483648) where
  abbrev z : ℤ
  z = place_at s a

  abbrev n : ℕ
  n = length ps

  abbrev c : ℤ
  c = answer most n z

  abbrev written : List (Text × ℤ)
  written =
      (score_missing, lacking c z)
      ∷ ((codes "#c", c)
      ∷ ((codes "#c", by_sign n z)
      ∷ ((codes "#d", left most n) ∷ ((codes "#d", pos most) ∷ ((codes "#c", pos n) ∷ ((score_missing, z) ∷ []))))))

  abbrev told : State
  told = nest s written

  goes : Goes ps b.memory.window.page b.memory.window.place b.memory.window.byte s told
  goes = steady_goes ps b.memory.window.page b.memory.window.place b.memory.window.byte s told (memory_at ps s b.memory) (steady_nest s written refl)

  leads : Leads (grow_items most a) s (with_place told a c)
  leads =
      let s1 : State = with_score s score_missing z in
      let s2 : State = with_score s1 (codes "#c") (pos n) in
      let s3 : State = with_score s2 (codes "#d") (pos most) in
      let s4 : State = with_score s3 (codes "#d") (left most n) in
      let s5 : State = with_score s4 (codes "#c") (by_sign n z) in
      let s6 : State = with_score s5 (codes "#c") c in
      let t : State = with_place told a c in
      act_leads (load_place score_missing a) _ s s1 t b.there refl
      (act_leads (load_site (codes "#c") memory_site) _ s1 s2 t tt (ap (with_score s1 (codes "#c")) (size_is ps s b.memory))
      (act_leads (set_spot at_d (pos most)) _ s2 s3 t tt refl
      (combine_leads (codes "#d") (codes "#c") subtract (pos most) (pos n) (left most n) _ s3 t refl refl refl
      (when_sets is_below (codes "#c") (pos n) (negsuc 0) _ s4 t (tt, tt) refl
      (when_sets is_more (codes "#c") (by_sign n z) (negsuc 0) _ s5 t ((tt, tt), tt) refl
      (when_sets is_refused score_missing z (pos 0) _ s6 t (tt, tt) refl
      (act_leads (keep_place a (codes "#c")) no_more told t t b.there refl (leads_none t))))))))

  tells : (y : ℤ) (missing : ℕ) → c ≡ y → lacking c z ≡ pos missing → TellsMissing (grow_items most a) ps s a y missing
  tells y missing e f = record {
    does = record {
      ready = leads.ready;
      state = with_place told a c;
      used = leads.used;
      ends = leads.ends;
      places = ap (λ x. (with_place s a x).places) e;
      trap = b.trap;
      memory = memory_placed ps told a c (at_memory ps b.memory.window.page b.memory.window.place b.memory.window.byte told goes.at);
      spares = spares_then s told (with_place told a c) goes.spares (spares_placed told a c);
    };
    told = ap Some f;
  }

pub grows_told : GrowsAreTold
grows_told most a ps s b low = (
  λ h. let e = fits most (length ps) low b.memory.few (place_at s a) b.int h in tells most a ps s b low (pos (length ps)) (cast_unsigned w32 (place_at s a)) e.0 e.1,
  λ h. let e = refuses most (length ps) low b.memory.few (place_at s a) h in tells most a ps s b low (negsuc 0) 0 e.0 e.1,
)
