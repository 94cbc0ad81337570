-- The high half of a narrow load: zeros, or the sign.
use Rattle.std.proofs.Common.{◌≡◌, ℕ, suc, ◌<◌, List, [], ◌∷◌, length, Some, Bool, true, false, refl, sym, subst}
use Rattle.std.specs.Prelude.{ℤ, pos, negsuc, ◌&&◌, if◌then◌else◌, codes}
use Rattle.std.proofs.lemmas.List.{length-set}
use Rattle.mc_cmd.specs.Command.{up_to}
use Rattle.mc_cmd.specs.World.{is_in}
use Rattle.cc_line.specs.Key.{score_trap}
use Rattle.cc_line.specs.State.{State, place_at, with_place, with_score}
use Rattle.cc_line.specs.Step.{set_place, load_place, conds_hold}
use Rattle.cc_line.specs.Item.{steps_items}
use Rattle.cc_line.proofs.RunLemmas.{Leads, leads_none}
use Rattle.cc_mem.specs.Standing.{HasMemory}
use Rattle.cc_mem.specs.Law.{Does, Spares}
use Rattle.cc_mem.proofs.Loads.{memory_placed, spares_placed}
use Rattle.cc_mem.proofs.Near.{near_score, near_spares, spares_then, at_near, at_memory, memory_at}
use Rattle.cc_mem.proofs.Stepping.{act_leads, when_leads, unless_leads}
use Rattle.cc_access.specs.Access.{is_signed, zero_steps, sign_steps}
use Rattle.cc_access.proofs.Halves.{sign}
use Rattle.cc_access.proofs.Sequel.{set_again}

module _ (a : ℕ) (ps : List (List ℕ)) (s : State) (m : HasMemory ps s) (e : s.scores score_trap ≡ Some (pos 0)) (l : suc a < length s.places) where
  pub zeros : Does (steps_items (zero_steps a)) s (suc a) (pos 0 ∷ []) ps
  zeros =
      let t : State = with_place s (suc a) (pos 0) in
      let d : Leads (steps_items (zero_steps a)) s t = act_leads (set_place (suc a) (pos 0)) _ s t t l refl (leads_none t) in
      record {
        ready = d.ready;
        state = t;
        used = d.used;
        ends = d.ends;
        places = refl;
        trap = e;
        memory = memory_placed ps s (suc a) (pos 0) m;
        spares = spares_placed s (suc a) (pos 0);
      }

  abbrev z : ℤ
  z = place_at s a

  abbrev read : State
  read = with_score s (codes "#u") z

  abbrev cleared : State
  cleared = with_place read (suc a) (pos 0)

  memory_read : HasMemory ps read
  memory_read =
      let g = memory_at ps s m in
      at_memory ps m.window.page m.window.place m.window.byte read
      (at_near (codes "#u" ∷ []) ps m.window.page m.window.place m.window.byte s read refl g (near_score (codes "#u" ∷ []) s (codes "#u") z refl))

  spares_cleared : Spares s cleared
  spares_cleared = spares_then s read cleared (near_spares (codes "#u" ∷ []) s read refl (near_score (codes "#u" ∷ []) s (codes "#u") z refl)) (spares_placed read (suc a) (pos 0))

  memory_cleared : HasMemory ps cleared
  memory_cleared = memory_placed ps read (suc a) (pos 0) memory_read

  pub signs : a < length s.places → Does (steps_items (sign_steps a)) s (suc a) (sign z ∷ []) ps
  signs la = by (is_in (up_to (negsuc 0)) z && true) refl
    where
      long : suc a < length cleared.places
      long = subst (λ n. suc a < n) (sym (length-set s.places (suc a) (pos 0))) l

      by : (b : Bool) → conds_hold is_signed cleared ≡ b → Does (steps_items (sign_steps a)) s (suc a) ((if b then negsuc 0 else pos 0) ∷ []) ps
      by true h =
          let t : State = with_place cleared (suc a) (negsuc 0) in
          let d : Leads (steps_items (sign_steps a)) s t =
          act_leads (load_place (codes "#u") a) _ s read t la refl
          (act_leads (set_place (suc a) (pos 0)) _ read cleared t l refl
          (when_leads is_signed (set_place (suc a) (negsuc 0)) _ cleared t t (tt, tt) h long refl (leads_none t))) in
          record {
            ready = d.ready;
            state = t;
            used = d.used;
            ends = d.ends;
            places = set_again s.places (suc a) (pos 0) (negsuc 0);
            trap = e;
            memory = memory_placed ps cleared (suc a) (negsuc 0) memory_cleared;
            spares = spares_then s cleared t spares_cleared (spares_placed cleared (suc a) (negsuc 0));
          }
      by false h =
          let d : Leads (steps_items (sign_steps a)) s cleared =
          act_leads (load_place (codes "#u") a) _ s read cleared la refl
          (act_leads (set_place (suc a) (pos 0)) _ read cleared cleared l refl
          (unless_leads is_signed (set_place (suc a) (negsuc 0)) _ cleared cleared (tt, tt) h (leads_none cleared))) in
          record {
            ready = d.ready;
            state = cleared;
            used = d.used;
            ends = d.ends;
            places = refl;
            trap = e;
            memory = memory_cleared;
            spares = spares_cleared;
          }
