-- Accesses on their way: what is as it was, the byte that is noted in the window's compound, and steps whatever the scores.
use Rattle.std.proofs.Common.{◌≡◌, ℕ, ◌+◌, ◌<◌, List, [], ◌∷◌, Option, Some, None, Bool, true, false, refl, ap, ◌∙◌, arith}
use Rattle.std.specs.Prelude.{ℤ, pos, ◌&&◌, codes}
use Rattle.std.specs.Str.{bytes_eq}
use Rattle.std.proofs.lemmas.Bool.{or_parts}
use Rattle.mc_nbt.specs.Tree.{int}
use Rattle.mc_nbt.proofs.TestLemmas.{and_first, and_second}
use Rattle.mc_cmd.specs.Form.{Text}
use Rattle.mc_cmd.specs.Command.{Op}
use Rattle.mc_cmd.specs.World.{or_zero, operate}
use Rattle.cc_line.specs.Sight.{Store, in_io, in_memory, in_rest, same_store}
use Rattle.cc_line.specs.Place.{scratch}
use Rattle.cc_line.specs.Key.{key_memory, key_filling, score_trap, is_work_key, score_window}
use Rattle.cc_line.specs.State.{State, selected, number_at, set_under, with_set}
use Rattle.cc_line.specs.Step.{Act, combine, load_site, keep_site, in_range, Cond, holds, Step, run_act, when, with_some_spot, combined, after_act, conds_hold, ActReady, CondsReady}
use Rattle.cc_line.specs.Core.{Straight}
use Rattle.cc_line.specs.OpenStep.{OpenStep, steps_with, steps_names, HasSomeInts, ints_in}
use Rattle.cc_line.specs.Item.{step_item, call_item, fill_item, Items, no_more, first, called}
use Rattle.cc_line.proofs.CoreLemmas.{straight_none}
use Rattle.cc_line.proofs.RunLemmas.{Leads, leads_none, leads_first, straight_leads}
use Rattle.cc_line.proofs.KeyLemmas.{Written, set_writes}
use Rattle.cc_mem.specs.Standing.{filling_tree, HasMemory}
use Rattle.cc_mem.specs.Address.{bounds_trap, filling_site, filling_at}
use Rattle.cc_mem.specs.Law.{is_access_key, Spares}
use Rattle.cc_mem.specs.Load.{byte_step}
use Rattle.cc_mem.proofs.Near.{is_one, are_loose, Near, near_none, near_then, near_score, near_spares, spares_then, spares_constants, At, at_memory, at_near, small_int}
use Rattle.cc_mem.proofs.Fills.{straight_act, straight_taken, straight_left, fill_leads}
use Rattle.cc_mem.proofs.Words.{filling_selected}

-- ---- what an access leaves on its way

pub record Goes (ps : List (List ℕ)) (page : ℕ) (x y : ℤ) (s t : State) : Type 0 where
  pub at : At ps page x y t
  pub places : t.places ≡ s.places
  pub spares : Spares s t

pub near_goes : (hs : List Text) (ps : List (List ℕ)) (page : ℕ) (x y : ℤ) (s t : State) → are_loose hs ≡ true → At ps page x y s → Near hs s t → Goes ps page x y s t
near_goes hs ps page x y s t l a n = record { at = at_near hs ps page x y s t l a n; places = n.places; spares = near_spares hs s t l n }

pub goes_then : (ps : List (List ℕ)) (page : ℕ) (x y v w : ℤ) (s t u : State) → Goes ps page x y s t → Goes ps page v w t u → Goes ps page v w s u
goes_then ps page x y v w s t u f g = record { at = g.at; places = g.places ∙ f.places; spares = spares_then s t u f.spares g.spares }

-- items that read a number
pub record Reads (xs : Items) (ps : List (List ℕ)) (z : ℤ) (s t : State) : Type 0 where
  pub leads : Leads xs s t
  pub number : t.scores (codes "#u") ≡ Some z
  pub places : t.places ≡ s.places
  pub trap : t.scores score_trap ≡ s.scores score_trap
  pub memory : HasMemory ps t
  pub spares : Spares s t

pub reads_so : (xs : Items) (ps : List (List ℕ)) (z : ℤ) (page : ℕ) (x y : ℤ) (s t : State) → Leads xs s t → t.scores (codes "#u") ≡ Some z → t.scores score_trap ≡ s.scores score_trap → Goes ps page x y s t
    → Reads xs ps z s t
reads_so xs ps z page x y s t l n e g = record { leads = l; number = n; places = g.places; trap = e; memory = at_memory ps page x y t g.at; spares = g.spares }

-- items after which the trap is recorded
pub record Misses (xs : Items) (ps : List (List ℕ)) (s t : State) : Type 0 where
  pub leads : Leads xs s t
  pub places : t.places ≡ s.places
  pub trap : t.scores score_trap ≡ Some (pos bounds_trap)
  pub memory : HasMemory ps t
  pub spares : Spares s t

pub misses_so : (xs : Items) (ps : List (List ℕ)) (page : ℕ) (x y : ℤ) (s t : State) → Leads xs s t → t.scores score_trap ≡ Some (pos bounds_trap) → Goes ps page x y s t → Misses xs ps s t
misses_so xs ps page x y s t l e g = record { leads = l; places = g.places; trap = e; memory = at_memory ps page x y t g.at; spares = g.spares }

-- ---- a call

pub call_leads : (f : Text) (xs : Items) (s t : State) → Leads xs s t → Leads (first (call_item f xs) no_more) s t
call_leads f xs s t g = leads_first (call_item f xs) s no_more t t (1 + g.used) g.ready (ap (called 1) g.ends) (leads_none t)

-- ---- the byte is noted

pub record Notes (ps : List (List ℕ)) (page : ℕ) (x : ℤ) (r : ℕ) (s t : State) : Type 0 where
  pub leads : Leads (first (step_item byte_step) no_more) s t
  pub goes : Goes ps page x (pos r) s t
  pub scores : t.scores ≡ s.scores

not_filling : (r : Store) (k : Text) → is_access_key r k ≡ false → same_store in_rest r && bytes_eq key_filling k ≡ false
not_filling in_io k e = refl
not_filling in_memory k e = refl
not_filling in_rest k e = (or_parts (bytes_eq key_filling k) (is_work_key in_rest k) e).0

module _ (ps : List (List ℕ)) (page : ℕ) (x y : ℤ) (r : ℕ) (s : State) (a : At ps page x y s) (e : s.scores (codes "#r") ≡ Some (pos r)) (l : r < 4) where
  abbrev pub noted : State
  noted = with_set s (filling_at (codes "r")) (int (pos r))

  pub note_writes : Written in_rest key_filling (filling_tree page x (pos r)) s noted
  note_writes =
      set_writes s (filling_at (codes "r")) (int (pos r)) (filling_tree page x (pos r))
      (ap (λ o. set_under o (filling_at (codes "r")).parts (int (pos r))) a.filling) (omega arith)

  note_spares : Spares s noted
  note_spares = record { keys = λ q k n. note_writes.others q k (not_filling q k n); scores = λ h b c d f. ap (λ g. g h) note_writes.scores }

  note_at : At ps page x (pos r) noted
  note_at = record {
    pages = note_writes.others in_memory key_memory refl ∙ a.pages;
    are_pages = a.are_pages;
    few = a.few;
    constants = spares_constants s noted note_spares a.constants;
    stands = a.stands;
    base = ap (λ f. f score_window) note_writes.scores ∙ a.base;
    place_int = a.place_int;
    byte_int = small_int r (omega arith);
    filling = note_writes.there;
  }

  pub notes : Notes ps page x r s noted
  notes = record {
    leads =
        straight_leads (byte_step ∷ []) s noted
        (straight_act (keep_site (filling_at (codes "r")) (codes "#r")) [] s noted noted tt (ap (λ o. with_set s (filling_at (codes "r")) (int (or_zero o))) e) (straight_none noted));
    goes = record { at = note_at; places = note_writes.places; spares = note_spares };
    scores = note_writes.scores;
  }

-- ---- steps whatever the scores

-- acts that write one of these scores and nothing else
abbrev pub act_only : List Text → Act → Bool
act_only hs (combine (scratch h) op (scratch g)) = is_one hs h
act_only hs (load_site h p) = is_one hs h
act_only hs _ = false

abbrev pub only : List Text → List Step → Bool
only hs [] = true
only hs (run_act a ∷ xs) = act_only hs a && only hs xs
only hs (when (holds (in_range (scratch g) r) ∷ []) a ∷ xs) = act_only hs a && only hs xs
only hs _ = false

some_near : (hs : List Text) (s : State) (h : Text) (o : Option ℤ) → is_one hs h ≡ true → Near hs s (with_some_spot s (scratch h) o)
some_near hs s h None k = near_none hs s
some_near hs s h (Some z) k = near_score hs s h z k

combined_near : (hs : List Text) (s : State) (h : Text) (op : Op) (o : Option ℤ) → is_one hs h ≡ true → Near hs s (combined s (scratch h) op o)
combined_near hs s h op None k = near_none hs s
combined_near hs s h op (Some b) k = some_near hs s h (operate op (or_zero (s.scores h)) b) k

act_near : (hs : List Text) (a : Act) (s : State) → act_only hs a ≡ true → ActReady a s × Near hs s (after_act a s)
act_near hs (combine (scratch h) op (scratch g)) s k = ((tt, tt), combined_near hs s h op (s.scores g) k)
act_near hs (load_site h p) s k = (tt, near_score hs s h (number_at (selected s p)) k)
act_near hs _ s k = absurd cc

abbrev pub Ends : List Text → List Step → State → Type 0
Ends hs xs s = (t : State) × Straight xs s t × Near hs s t

when_near : (hs : List Text) (cs : List Cond) (a : Act) (xs : List Step) (s : State) → CondsReady cs s → ActReady a s × Near hs s (after_act a s)
    → ((w : State) → Ends hs xs w) → Ends hs (when cs a ∷ xs) s
when_near hs cs a xs s c one rest = go (conds_hold cs s) refl
  where
    go : (b : Bool) → conds_hold cs s ≡ b → Ends hs (when cs a ∷ xs) s
    go true e =
        let d = rest (after_act a s) in
        (d.0, straight_taken cs a xs s (after_act a s) d.0 c one.0 e refl d.1, near_then hs s (after_act a s) d.0 one.1 d.2)
    go false e = let d = rest s in (d.0, straight_left cs a xs s d.0 c e d.1, d.2)

pub any_near : (hs : List Text) (xs : List Step) (s : State) → only hs xs ≡ true → Ends hs xs s
any_near hs [] s k = (s, straight_none s, near_none hs s)
any_near hs (run_act a ∷ xs) s k =
    let one = act_near hs a s (and_first (act_only hs a) (only hs xs) k) in
    let rest = any_near hs xs (after_act a s) (and_second (act_only hs a) (only hs xs) k) in
    (rest.0, straight_act a xs s (after_act a s) rest.0 one.0 refl rest.1, near_then hs s (after_act a s) rest.0 one.1 rest.2)
any_near hs (when (holds (in_range (scratch g) r) ∷ []) a ∷ xs) s k =
    when_near hs (holds (in_range (scratch g) r) ∷ []) a xs s (tt, tt)
    (act_near hs a s (and_first (act_only hs a) (only hs xs) k)) (λ w. any_near hs xs w (and_second (act_only hs a) (only hs xs) k))
any_near hs _ s k = absurd cc

-- a helper with such lines
pub any_fill : (hs : List Text) (f : Text) (xs : List OpenStep) (ps : List (List ℕ)) (page : ℕ) (x y : ℤ) (s : State) → At ps page x y s → HasSomeInts (Some (filling_tree page x y)) (steps_names xs)
    → only hs (steps_with (ints_in (Some (filling_tree page x y))) xs) ≡ true → (t : State) × Leads (first (fill_item f filling_site xs) no_more) s t × Near hs s t
any_fill hs f xs ps page x y s a g k =
    let d = any_near hs (steps_with (ints_in (Some (filling_tree page x y))) xs) s k in
    (d.0, fill_leads f filling_site xs s d.0 (Some (filling_tree page x y)) (filling_selected s page x y a.filling) g d.1, d.2)
