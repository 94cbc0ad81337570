-- Each function of a pack with the name of a piece is light.
use Rattle.std.proofs.Common.{◌≡◌, ◌∙◌, ap, refl, sym, subst, inl, inr, ℕ, ◌+◌, ◌≤◌, List, [], ◌∷◌, ◌++◌, map, Bool, true, false, Some, None, arith}
use Rattle.std.specs.Prelude.{if◌then◌else◌}
use Rattle.std.specs.Map.{lookup}
use Rattle.std.specs.Str.{bytes_eq}
use Rattle.mc_cmd.specs.declared.pack.Index.{Index}
use Rattle.mc_cmd.specs.Form.{Text}
use Rattle.mc_cmd.specs.Chain.{Functions, Texts}
use Rattle.mc_cmd.specs.Layout.{full_name}
use Rattle.mc_cmd.specs.Packing.{pack_view}
use Rattle.mc_cmd.specs.Word.{is_namespace}
use Rattle.mc_cmd.proofs.PackLemmas.{function_at}
use Rattle.mc_cmd.specs.declared.TheConstants.{PIECE}
use Rattle.cc_line.specs.Item.{HasAll, Helper, items_helpers, items_most, items_texts}
use Rattle.cc_line.specs.Key.{PieceId}
use Rattle.cc_sched.specs.Names.{piece_name}
use Rattle.cc_sched.specs.Pieces.{turn_weight}
use Rattle.cc_pieces.specs.Parts.{Part}
use Rattle.cc_body.specs.Parts.{parts_helpers}
use Rattle.pk_link.specs.Functions.{entry, piece_function}
use Rattle.pk_link.specs.Linked.{PieceIsLight}
use Rattle.mc_cmd.specs.Weight.{Weighs}
use Rattle.cc_text.proofs.OnceLemmas.{Every, every_both, NoneNamed}
use Rattle.pk_link.proofs.Distinct.{none_found, packed}
use Rattle.pk_link.proofs.PartFits.{IsPiece, PartsFit}
use Rattle.pk_link.proofs.PartsIn.{all_back, all_front, part_helped, PartIn}
use Rattle.pk_link.proofs.StaticWeights.{helpers_weigh, IsNoHeavier, items_weigh}

-- functions that haven't the name are passed over
found_behind : (n : Text) (xs ys : List Helper) → NoneNamed n xs → lookup (bytes_eq n) (map entry (xs ++ ys)) ≡ lookup (bytes_eq n) (map entry ys)
found_behind n [] ys a = refl
found_behind n (x ∷ xs) ys a = ap (λ b. if b then Some x.lines else lookup (bytes_eq n) (map entry (xs ++ ys))) a.0 ∙ found_behind n xs ys a.1

-- a piece whose items fit, with its lines
record Found (ns : Text) (ps : List Part) (ts : Texts) : Type 0 where
  part : Part
  within : PartIn part ps
  piece : IsPiece part.items
  lines : items_texts ns part.items ≡ ts

found_piece : (ns n : Text) (ps : List Part) (after : List Helper) (ts : Texts) → NoneNamed n after → PartsFit ps → lookup (bytes_eq n) (map entry (map (piece_function ns) ps ++ after)) ≡ Some ts → Found ns ps ts
found_piece ns n [] after ts a f e = absurd (none_some ts (sym (none_found n after a) ∙ e))
  where
    none_some : (ts : Texts) → None ≡ Some ts → ⊥
    none_some ts e = absurd cc
found_piece ns n (p ∷ ps) after ts a f e = go (bytes_eq n (piece_name p.id)) e (found_piece ns n ps after ts a f.1)
  where
    go : (b : Bool) → (if b then Some (items_texts ns p.items) else lookup (bytes_eq n) (map entry (map (piece_function ns) ps ++ after))) ≡ Some ts → (lookup (bytes_eq n) (map entry (map (piece_function ns) ps ++ after)) ≡ Some ts → Found ns ps ts) → Found ns (p ∷ ps) ts
    go true e more = record { part = p; within = inl refl; piece = f.0; lines = cc }
    go false e more = let r = more e in record { part = r.part; within = inr r.within; piece = r.piece; lines = r.lines }

-- a pack of pieces between functions that haven't the name of a piece, which has the helpers of the pieces
module _ (index : Index) (n : is_namespace index.ns ≡ true) (before : List Helper) (parts : List Part) (after : List Helper) where
  abbrev ns : Text
  ns = index.ns

  abbrev functions : Functions
  functions = (pack_view (packed index (before ++ (map (piece_function ns) parts ++ after)))).functions

  pub pieces_are_light : ((id : PieceId) → NoneNamed (piece_name id) before) → ((id : PieceId) → NoneNamed (piece_name id) after) → PartsFit parts → HasAll functions ns (parts_helpers ns parts)
      → (id : PieceId) (ts : Texts) → functions (full_name ns (piece_name id)) ≡ Some ts → PieceIsLight functions ts
  pieces_are_light a b f there id ts e =
      let at : lookup (bytes_eq (piece_name id)) (map entry (before ++ (map (piece_function ns) parts ++ after))) ≡ Some ts = sym (function_at (packed index (before ++ (map (piece_function ns) parts ++ after))) (piece_name id)) ∙ e in
      let r : Found ns parts ts = found_piece ns (piece_name id) parts after ts (b id) f (sym (found_behind (piece_name id) before (map (piece_function ns) parts ++ after) (a id)) ∙ at) in
      let light : items_most r.part.items + turn_weight ≤ PIECE = r.piece.light in (
        items_most r.part.items,
        subst (λ us. Weighs functions us (items_most r.part.items)) r.lines (items_weigh ns n functions r.part.items r.piece.fits (part_helped functions ns r.part parts r.within there)),
        light,
      )

  -- the helpers of such pieces are light
  all_light : (most : ℕ) (hs : List Helper) → most + turn_weight ≤ PIECE → Every (IsNoHeavier functions most) hs → Every (λ h. PieceIsLight functions h.lines) hs
  all_light most [] l a = tt
  all_light most (h ∷ hs) l a = ((a.0.0, a.0.1, (let le : a.0.0 ≤ most = a.0.2 in omega arith)), all_light most hs l a.1)

  parts_light : (ps : List Part) → PartsFit ps → HasAll functions ns (parts_helpers ns ps) → Every (λ h. PieceIsLight functions h.lines) (parts_helpers ns ps)
  parts_light [] f there = tt
  parts_light (p ∷ ps) f there =
      every_both (λ h. PieceIsLight functions h.lines) (items_helpers ns p.items) (parts_helpers ns ps)
      (all_light (items_most p.items) (items_helpers ns p.items) f.0.light (helpers_weigh ns n functions p.items f.0.fits (all_front functions ns (items_helpers ns p.items) (parts_helpers ns ps) there)))
      (parts_light ps f.1 (all_back functions ns (items_helpers ns p.items) (parts_helpers ns ps) there))

  found_light : (f : Text) (hs : List Helper) (ts : Texts) → Every (λ h. PieceIsLight functions h.lines) hs → lookup (bytes_eq f) (map entry hs) ≡ Some ts → PieceIsLight functions ts
  found_light f [] ts a e = absurd cc
  found_light f (h ∷ hs) ts a e = by (bytes_eq f h.name) e (found_light f hs ts a.1)
    where
      same : (us : Texts) → Some us ≡ Some ts → us ≡ ts
      same us e = cc

      by : (b : Bool) → (if b then Some h.lines else lookup (bytes_eq f) (map entry hs)) ≡ Some ts → (lookup (bytes_eq f) (map entry hs) ≡ Some ts → PieceIsLight functions ts) → PieceIsLight functions ts
      by true e more = subst (λ us. PieceIsLight functions us) (same h.lines e) a.0
      by false e more = more e

  -- so a function of another name than those before is
  pub helpers_are_light : PartsFit parts → HasAll functions ns (parts_helpers ns parts) → ((P : Helper → Type 0) → Every P (parts_helpers ns parts) → Every P after)
      → (f : Text) → NoneNamed f before → NoneNamed f (map (piece_function ns) parts) → (ts : Texts) → functions (full_name ns f) ≡ Some ts → PieceIsLight functions ts
  helpers_are_light fits there each f a b ts e =
      let at : lookup (bytes_eq f) (map entry (before ++ (map (piece_function ns) parts ++ after))) ≡ Some ts = sym (function_at (packed index (before ++ (map (piece_function ns) parts ++ after))) f) ∙ e in
      found_light f after ts (each (λ h. PieceIsLight functions h.lines) (parts_light parts fits there))
      (sym (found_behind f (map (piece_function ns) parts) after b) ∙ (sym (found_behind f before (map (piece_function ns) parts ++ after) a) ∙ at))
