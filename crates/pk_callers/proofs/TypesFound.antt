-- The types below others that are the last ones.
use Rattle.std.proofs.Common.{◌≡◌, ℕ, ◌+◌, ◌<◌, List, ◌++◌, length, take, drop, true, false, sym, ap, ◌∙◌, arith, length-append}
use Rattle.std.proofs.lemmas.List.{take-append-drop}
use Rattle.std.proofs.Math.Seq.{drop-append_seam}
use Rattle.wm_ast.specs.declared.module.ValType.{ValType}
use Rattle.wm_ast.specs.Types.{same_types}
use Rattle.wm_ast.proofs.TypeLaws.{same_types_is, same_types_self}

-- there are too few
pub too_few : (types last ts : List ValType) → length types < length last → types ≡ ts ++ last → ⊥
too_few types last ts few e = let sizes = ap length e ∙ length-append ts last in omega arith

module _ (types last : List ValType) (n : ℕ) (is : n + length last ≡ length types) where
  -- the last ones are others
  pub others : false ≡ same_types (drop n types) last → (ts : List ValType) → types ≡ ts ++ last → ⊥
  others differs ts e =
      let sizes : length types ≡ length ts + length last = ap length e ∙ length-append ts last in
      let count : n ≡ length ts = omega arith in
      let behind : drop n types ≡ last = ap (drop n) e ∙ ap (λ k. drop k (ts ++ last)) count ∙ drop-append_seam ts last in
      let same : same_types (drop n types) last ≡ true = ap (λ us. same_types us last) behind ∙ same_types_self last in
      cc

  -- they are these
  pub these : true ≡ same_types (drop n types) last → types ≡ take n types ++ last
  these same = sym (take-append-drop n types) ∙ ap (λ us. take n types ++ us) (same_types_is (drop n types) last (sym same))
