-- The pieces of a pack, name by name.
use Rattle.std.proofs.Common.{◌≡◌, ◌∙◌, sym, ap, refl, ℕ, zero, suc, ◌+◌, List, [], ◌∷◌, ◌++◌, Bool, true, false, cond, Option, Some, None, take, filter_map}
use Rattle.std.proofs.lemmas.List.Elements.{filter_map-append}
use Rattle.std.proofs.lemmas.Slice.Eq.{bytes_eq-Decides}
use Rattle.std.specs.Prelude.{is_some, option_to_list, slice_get}
use Rattle.std.specs.List.{cons_option}
use Rattle.std.specs.Map.{lookup, keys_of}
use Rattle.std.specs.Str.{bytes_eq}
use Rattle.mc_cmd.specs.Form.{Text}
use Rattle.mc_cmd.specs.Chain.{Texts}
use Rattle.mc_cmd.specs.Packing.{Written, lines_at, names}
use Rattle.mc_cmd.proofs.FormLemmas.{some_same}
use Rattle.app_report.specs.Costs.{piece_in}
use Rattle.app_report.specs.declared.pieces.Piece.{Piece}
use Rattle.app_report.proofs.PagesLemmas.{take_one}

-- a function that the pack names has lines
named_lines : (fs : List (Text × Texts)) (at : ℕ) (name : Text) → slice_get (keys_of fs) at ≡ Some name → is_some (lookup (bytes_eq name) fs) ≡ true
named_lines [] at name h = absurd cc
named_lines (e ∷ es) zero name h =
    let same : e.0 ≡ name = some_same e.0 name h in
    ap (λ b. is_some (cond b (Some e.1) (lookup (bytes_eq name) es))) ((bytes_eq-Decides name e.0).1 (sym same))
named_lines (e ∷ es) (suc at) name h = go (bytes_eq name e.0) (named_lines es at name h)
  where
    go : (b : Bool) → is_some (lookup (bytes_eq name) es) ≡ true → is_some (cond b (Some e.1) (lookup (bytes_eq name) es)) ≡ true
    go true ih = refl
    go false ih = ih

pub has_lines : (p : Written) (at : ℕ) (name : Text) → slice_get (names p) at ≡ Some name → is_some (lines_at p name) ≡ true
has_lines p at name h = named_lines p.functions at name h

one_piece : (h : Text → Option Piece) (name : Text) → filter_map h (name ∷ []) ≡ option_to_list (h name)
one_piece h name = go (h name)
  where
    go : (o : Option Piece) → cons_option o [] ≡ option_to_list o
    go None = refl
    go (Some q) = refl

pub piece_more : (p : Written) (funcs at : ℕ) (name : Text) (qs rs : List Piece) (o : Option Piece) → slice_get (names p) at ≡ Some name → o ≡ piece_in p funcs name → rs ≡ qs ++ option_to_list o → qs ≡ filter_map (piece_in p funcs) (take at (names p))
    → rs ≡ filter_map (piece_in p funcs) (take (at + 1) (names p))
piece_more p funcs at name qs rs o named e pushed so_far =
    pushed ∙ ap (λ (l : List Piece). l ++ option_to_list o) so_far
    ∙ ap (λ (x : Option Piece). filter_map (piece_in p funcs) (take at (names p)) ++ option_to_list x) e
    ∙ ap (λ (l : List Piece). filter_map (piece_in p funcs) (take at (names p)) ++ l) (sym (one_piece (piece_in p funcs) name))
    ∙ sym (filter_map-append (piece_in p funcs) (take at (names p)) (name ∷ []))
    ∙ ap (filter_map (piece_in p funcs)) (sym (take_one (names p) at name named))
