-- What accesses to a memory need: the acts that make it fit, and behind them the constants and the window stand.
use Rattle.std.proofs.Common.{◌≡◌, ℕ, zero, suc, ◌-◌, ◌^◌, ◌≤◌, ◌<◌, inl, List, [], ◌∷◌, ◌++◌, length, Some, true, refl, arith, pos}
use Rattle.std.specs.Fmt.{digits}
use Rattle.std.specs.List.{list_all}
use Rattle.mc_nbt.specs.Path.{is_path}
use Rattle.mc_nbt.specs.Tree.{list, no_items}
use Rattle.mc_nbt.specs.Word.{is_key}
use Rattle.mc_cmd.specs.Form.{Text}
use Rattle.mc_cmd.specs.Word.{is_holder}
use Rattle.wm_ast.specs.declared.module.Limits.{Limits}
use Rattle.cc_line.specs.Sight.{in_io, in_memory, in_rest}
use Rattle.cc_line.specs.Key.{key_memory, key_end, key_fail, score_trap, scale_of}
use Rattle.cc_line.specs.State.{State}
use Rattle.cc_line.proofs.StandingLemmas.{SameKeys, SameScores, keys_stay}
use Rattle.cc_line.specs.Step.{Act}
use Rattle.cc_line.specs.Fit.{act_fits}
use Rattle.cc_call.specs.Acts.{after_acts, ActsReady}
use Rattle.cc_sched.specs.Charge.{act_avoids_sched}
use Rattle.cc_mem.specs.Standing.{stem_byte, stem_top, stem_half, stem_rest, Constants, Window}
use Rattle.cc_simulate.specs.Stored.{HasPages}
use Rattle.cc_init.specs.Init.{constants_acts, window_acts, memory_acts}

-- ---- that they fit

pub memory_fits : (ls : List Limits) → list_all act_fits (memory_acts ls) ≡ true
unfolding is_path is_key is_holder digits
memory_fits [] = refl
memory_fits (l ∷ ls) = refl

pub memory_avoids : (ls : List Limits) → list_all act_avoids_sched (memory_acts ls) ≡ true
unfolding digits
memory_avoids [] = refl
memory_avoids (l ∷ ls) = refl

pub memory_length : (ls : List Limits) → length (memory_acts ls) ≤ 21
memory_length [] = omega arith
memory_length (l ∷ ls) = omega arith

-- ---- what they do

abbrev both_acts : List Act
both_acts = constants_acts ++ window_acts

module _ (v : State) where
  byte_scales : (r : ℕ) → r < 4 → (after_acts both_acts v).scores (scale_of stem_byte r) ≡ Some (pos (256 ^ r))
  unfolding digits
  byte_scales zero l = refl
  byte_scales (suc zero) l = refl
  byte_scales (suc (suc zero)) l = refl
  byte_scales (suc (suc (suc zero))) l = refl
  byte_scales (suc (suc (suc (suc r)))) l = absurd (omega arith)

  top_scales : (r : ℕ) → r < 4 → (after_acts both_acts v).scores (scale_of stem_top r) ≡ Some (pos (256 ^ (3 - r)))
  unfolding digits
  top_scales zero l = refl
  top_scales (suc zero) l = refl
  top_scales (suc (suc zero)) l = refl
  top_scales (suc (suc (suc zero))) l = refl
  top_scales (suc (suc (suc (suc r)))) l = absurd (omega arith)

  half_scales : (r : ℕ) → r < 3 → (after_acts both_acts v).scores (scale_of stem_half r) ≡ Some (pos (256 ^ (2 - r)))
  unfolding digits
  half_scales zero l = refl
  half_scales (suc zero) l = refl
  half_scales (suc (suc zero)) l = refl
  half_scales (suc (suc (suc r))) l = absurd (omega arith)

  rest_scales : (r : ℕ) → 1 ≤ r → r < 4
      → (after_acts both_acts v).scores (scale_of stem_rest r) ≡ Some (pos (256 ^ (4 - r)))
  unfolding digits
  rest_scales zero k l = absurd (omega arith)
  rest_scales (suc zero) k l = refl
  rest_scales (suc (suc zero)) k l = refl
  rest_scales (suc (suc (suc zero))) k l = refl
  rest_scales (suc (suc (suc (suc r)))) k l = absurd (omega arith)

  constants_stand : Constants (after_acts both_acts v)
  unfolding digits
  constants_stand = record {
    four = refl;
    page_words = refl;
    bytes = byte_scales;
    tops = top_scales;
    halves = half_scales;
    rests = rest_scales;
  }

  -- the window is the first page, before that stands
  window_is : Window [] (after_acts both_acts v)
  unfolding digits
  window_is =
      record { page = 0; stands = inl refl; base = refl; place = pos 0; byte = pos 0; ints = (refl, refl); filling = refl }

-- the memory has no pages yet, and accesses have what they need; nothing else has changed
pub record Furnished (ls : List Limits) (s t : State) : Type 0 where
  pub places : t.places ≡ s.places
  pub trap : t.scores score_trap ≡ s.scores score_trap
  pub public : (k : Text) → t.keys in_memory k ≡ s.keys in_memory k
  pub io : (k : Text) → t.keys in_io k ≡ s.keys in_io k
  pub ending : t.keys in_rest key_end ≡ s.keys in_rest key_end
  pub failing : t.keys in_rest key_fail ≡ s.keys in_rest key_fail
  pub pages : HasPages ls [] t
  pub numbers : SameScores s t
  pub tables : SameKeys s t

pub furnishes : (ls : List Limits) (s : State) → s.keys in_memory key_memory ≡ Some (list no_items)
    → ActsReady (memory_acts ls) s × Furnished ls s (after_acts (memory_acts ls) s)
unfolding digits
furnishes [] s e = (
  tt,
  record { places = refl; trap = refl; public = λ k. refl; io = λ k. refl; ending = refl; failing = refl; pages = (refl, e); numbers = (refl, (refl, (refl, (refl, tt)))); tables = keys_stay s },
)
furnishes (l ∷ ls) s e = (
  (tt, (tt, (tt, (tt, (tt, (tt, (tt, (tt, (tt, (tt, (tt, (tt, (tt, (tt, (tt, (tt, (tt, (tt, (tt, (tt, (tt, tt))))))))))))))))))))),
  record {
    places = refl;
    trap = refl;
    public = λ k. refl;
    io = λ k. refl;
    ending = refl;
    failing = refl;
    pages = record {
      pages = e;
      are_pages = tt;
      few = omega arith;
      constants = constants_stand s;
      window = window_is s;
    };
    numbers = (refl, (refl, (refl, (refl, tt))));
    tables = keys_stay s;
  },
)
