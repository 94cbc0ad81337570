-- When the places of an entry hold the locals and operands of a caller.
use Rattle.std.proofs.Common.{◌≡◌, ℕ, ◌+◌, ◌≤◌, ◌<◌, List, [], ◌∷◌, ◌++◌, length, take, drop, true, false, refl, sym, ap, ◌∙◌, subst, arith, append_assoc, length-append}
use Rattle.std.specs.Prelude.{ℤ, nat_lt}
use Rattle.std.proofs.lemmas.Bool.{ltb-true, lt-ltb}
use Rattle.std.proofs.lemmas.List.{take-append-drop}
use Rattle.std.proofs.Math.Seq.{take-append_seam, drop-append_seam}
use Rattle.mc_nbt.specs.declared.value.Value.{Value}
use Rattle.wm_ast.specs.declared.module.ValType.{ValType}
use Rattle.wm_flat.specs.FlatTyping.{types_of}
use Rattle.cc_line.specs.Place.{score_places}
use Rattle.cc_line.specs.Routine.{value_ints}
use Rattle.cc_cut.specs.Law.{widths}
use Rattle.cc_move.proofs.StandLemmas.{types_append, types_take, types_drop}
use Rattle.cc_simulate.specs.Callers.{IsHeld}
use Rattle.cc_simulate.specs.Frame.{local_ints}
use Rattle.cc_simulate.proofs.Frames.{local_length}
use Rattle.cc_values.specs.Told.{AreFirst}

locals_append : (us vs : List Value) → local_ints (us ++ vs) ≡ local_ints us ++ local_ints vs
locals_append [] vs = refl
locals_append (u ∷ us) vs =
    ap (λ zs. value_ints u ++ zs) (locals_append us vs)
    ∙ sym (append_assoc (value_ints u) (local_ints us) (local_ints vs))

module _ (size : ℕ) (locals stay : List ValType) (places : List ℤ) where
  -- the places hold values of these types
  abbrev pub Holds : List Value → List Value → Type 0
  Holds ls os = (types_of ls ≡ locals) × (types_of os ≡ stay) × IsHeld size (local_ints ls ++ local_ints os) places

  types_are : (ls os : List Value) → types_of ls ≡ locals → types_of os ≡ stay → types_of (ls ++ os) ≡ locals ++ stay
  types_are ls os l s = types_append ls os ∙ ap (λ ts. ts ++ types_of os) l ∙ ap (λ ts. locals ++ ts) s

  count_is : (ls os : List Value) → types_of ls ≡ locals → types_of os ≡ stay → length (local_ints ls ++ local_ints os) ≡ widths (locals ++ stay)
  count_is ls os l s = ap length (sym (locals_append ls os)) ∙ local_length (ls ++ os) ∙ ap widths (types_are ls os l s)

  -- they are the first values of these types
  pub not_first : ((vs : List Value) (rest : List ℤ) → AreFirst (locals ++ stay) places vs rest → ⊥)
      → (ls os : List Value) → types_of ls ≡ locals → types_of os ≡ stay → IsHeld size (local_ints ls ++ local_ints os) places → ⊥
  not_first none ls os l s h =
      let n : ℕ = length (local_ints ls ++ local_ints os) in
      none (ls ++ os) (drop n places) (
        types_are ls os l s,
        sym (take-append-drop n places)
            ∙ ap (λ zs. zs ++ drop n places) (h.held ∙ sym (locals_append ls os)),
      )

  -- an entry of more places than are scores has all places of its frame
  pub not_whole : ((score_places < widths (locals ++ stay) → length places ≡ size) → ⊥)
      → (ls os : List Value) → types_of ls ≡ locals → types_of os ≡ stay → IsHeld size (local_ints ls ++ local_ints os) places → ⊥
  not_whole differs ls os l s h =
      differs (λ many. h.kept.high (ap (nat_lt score_places) (count_is ls os l s) ∙ lt-ltb score_places (widths (locals ++ stay)) many))

  held_so : (vs : List Value) → AreFirst (locals ++ stay) places vs (drop (widths (locals ++ stay)) places)
      → (score_places < widths (locals ++ stay) → length places ≡ size)
      → Holds (take (length locals) vs) (drop (length locals) vs)
  held_so vs f sized = (front, back, record { kept = record { low = low; high = high }; held = held })
    where
      front : types_of (take (length locals) vs) ≡ locals
      front = types_take (length locals) vs ∙ ap (take (length locals)) f.0 ∙ take-append_seam locals stay

      back : types_of (drop (length locals) vs) ≡ stay
      back = types_drop (length locals) vs ∙ ap (drop (length locals)) f.0 ∙ drop-append_seam locals stay

      whole : places ≡ (local_ints (take (length locals) vs) ++ local_ints (drop (length locals) vs)) ++ drop (widths (locals ++ stay)) places
      whole =
          f.1 ∙ ap (λ us. local_ints us ++ drop (widths (locals ++ stay)) places) (sym (take-append-drop (length locals) vs))
          ∙ ap (λ zs. zs ++ drop (widths (locals ++ stay)) places) (locals_append (take (length locals) vs) (drop (length locals) vs))

      count : length (local_ints (take (length locals) vs) ++ local_ints (drop (length locals) vs)) ≡ widths (locals ++ stay)
      count = count_is (take (length locals) vs) (drop (length locals) vs) front back

      held : take (length (local_ints (take (length locals) vs) ++ local_ints (drop (length locals) vs))) places ≡ local_ints (take (length locals) vs) ++ local_ints (drop (length locals) vs)
      held =
          ap (take (length (local_ints (take (length locals) vs) ++ local_ints (drop (length locals) vs)))) whole
          ∙ take-append_seam (local_ints (take (length locals) vs) ++ local_ints (drop (length locals) vs)) (drop (widths (locals ++ stay)) places)

      low : nat_lt score_places (length (local_ints (take (length locals) vs) ++ local_ints (drop (length locals) vs))) ≡ false → length (local_ints (take (length locals) vs) ++ local_ints (drop (length locals) vs)) ≤ length places
      low e =
          let sizes : length places ≡ length (local_ints (take (length locals) vs) ++ local_ints (drop (length locals) vs)) + length (drop (widths (locals ++ stay)) places) =
          ap length whole ∙ length-append (local_ints (take (length locals) vs) ++ local_ints (drop (length locals) vs)) (drop (widths (locals ++ stay)) places) in
          omega arith

      high : nat_lt score_places (length (local_ints (take (length locals) vs) ++ local_ints (drop (length locals) vs))) ≡ true → length places ≡ size
      high e = sized (ltb-true score_places (widths (locals ++ stay)) (sym (ap (nat_lt score_places) count) ∙ e))

  pub held_by : (vs ls os : List Value) (n : ℕ) → n ≡ length locals → ls ≡ take n vs → os ≡ drop n vs
      → AreFirst (locals ++ stay) places vs (drop (widths (locals ++ stay)) places) → (score_places < widths (locals ++ stay) → length places ≡ size)
      → Holds ls os
  held_by vs ls os n e f g first sized =
      let h = held_so vs first sized in
      let front : take (length locals) vs ≡ ls = ap (λ k. take k vs) (sym e) ∙ sym f in
      let back : drop (length locals) vs ≡ os = ap (λ k. drop k vs) (sym e) ∙ sym g in
      subst (Holds ls) back (subst (λ (us : List Value). Holds us (drop (length locals) vs)) front h)
