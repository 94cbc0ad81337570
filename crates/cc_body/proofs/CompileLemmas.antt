-- The pieces of a module, one function after the other.
use Rattle.std.proofs.Common.{◌≡◌, ℕ, ◌+◌, List, [], ◌∷◌, ◌++◌, map, length, Option, Some, refl, sym, ap, ◌∙◌, subst, append_assoc, add-one}
use Rattle.std.specs.Prelude.{option_map, slice_get}
use Rattle.std.proofs.lemmas.List.{map-append}
use Rattle.mc_cmd.specs.Form.{Text}
use Rattle.wm_ast.specs.declared.module.Func.{Func}
use Rattle.wm_ast.specs.declared.module.FuncType.{FuncType}
use Rattle.wm_ast.specs.declared.module.Module.{Module}
use Rattle.wm_ast.specs.declared.module.ValType.{ValType}
use Rattle.wm_ast.specs.Types.{results_of, run_types, function_type}
use Rattle.wm_valid.specs.declared.scope.Scope.{Scope}
use Rattle.wm_valid.specs.Arrows.{◌>>=◌}
use Rattle.wm_valid.specs.ScopeView.{ScopeFound}
use Rattle.wm_place.specs.Kinds.{first_of}
use Rattle.cc_line.specs.BlockView.{block_items}
use Rattle.cc_line.specs.Helpers.{with_helper, with_helpers}
use Rattle.cc_line.specs.Item.{Helper, Items, no_more, items_helpers}
use Rattle.cc_line.specs.Key.{body_piece}
use Rattle.cc_call.specs.Acts.{acts_then}
use Rattle.cc_call.specs.Frames.{opening_piece}
use Rattle.cc_cut.specs.Law.{widths}
use Rattle.cc_cut.specs.Piece.{Piece, function_pieces, index_of}
use Rattle.cc_cut.proofs.ListLemmas.{some_of}
use Rattle.cc_pieces.specs.declared.shape.Shape.{Shape}
use Rattle.cc_pieces.specs.declared.part.Part.{Part as Code}
use Rattle.cc_pieces.specs.Entry.{entry_acts}
use Rattle.cc_pieces.specs.Fetching.{opened_acts}
use Rattle.cc_pieces.specs.Parts.{Part, part, part_view, parts_view}
use Rattle.cc_body.specs.Layout.{cut_heights}
use Rattle.cc_body.specs.Parts.{function_parts, parts_by, parts_helpers}
use Rattle.cc_body.specs.steps.Emission.{Ground}
use Rattle.cc_body.specs.steps.PartBuilder.{run_over, body_parts, parts_from, typed_parts}
use Rattle.cc_body.specs.steps.PieceBuilder.{made_lean, lean_function}
use Rattle.cc_body.specs.steps.Sizing.{function_shape, shape_in, shape_of}
use Rattle.cc_body.proofs.PartBuilderLemmas.{typed_are}
use Rattle.cc_body.proofs.PieceBuilderLemmas.{cuts_are as all_lean}

-- ---- a function

pub body_made : (m : Module) (n size : ℕ) (locals : List ValType) (x : Shape) (given given_is : ℕ) (heights : List ℕ) (cuts cuts_are : List Items) (all : List Piece) (first opening : Code) (before one both after : List Code) → cuts ≡ cuts_are
    → part_view first ≡ part (body_piece n 0) (acts_then (entry_acts n x.params x.locals given x.size) no_more) → given ≡ given_is
    → part_view opening ≡ part (opening_piece n) (run_over n heights cuts (acts_then (opened_acts x.params x.locals x.size (body_piece n 1)) no_more)) → before ≡ [] → one ≡ before ++ first ∷ [] → both ≡ one ++ opening ∷ []
    → parts_view after ≡ parts_view both ++ parts_from m n size locals (run_over n heights cuts) cuts 1 all → parts_view after ≡ body_parts m n size locals x given_is heights cuts_are all
body_made m n size locals x given given_is heights cuts cuts_are all first opening before one both after cuts_same first_is given_same opening_is before_is one_is both_is after_is =
    let begun : both ≡ first ∷ opening ∷ [] = both_is ∙ ap (λ (l : List Code). l ++ opening ∷ []) (one_is ∙ ap (λ (l : List Code). l ++ first ∷ []) before_is) in
    let entry : ℕ → Part = λ k. part (body_piece n 0) (acts_then (entry_acts n x.params x.locals k x.size) no_more) in
    let rest : List Part = parts_from m n size locals (run_over n heights cuts) cuts 1 all in
    after_is
    ∙ (ap (λ (l : List Code). parts_view l ++ rest) begun
    ∙ (ap (λ (p : Part). p ∷ part_view opening ∷ rest) (first_is ∙ ap entry given_same)
    ∙ (ap (λ (p : Part). entry given_is ∷ p ∷ rest) opening_is
    ∙ ap (λ (l : List Items). body_parts m n size locals x given_is heights l all) cuts_same)))

pub typed_made : (m : Module) (g : Ground) (x : Shape) (given results : ℕ) (ps : List Part) → g.program ≡ m → ((path : List ℕ) → g.find path ≡ index_of (function_pieces m g.func) path)
    → ((f : ℕ) → g.shape f ≡ shape_of m f) → g.heights ≡ cut_heights g.locals (function_pieces m g.func) → g.size ≡ x.size → g.results ≡ results
    → ps ≡ body_parts g.program g.func g.size g.locals x given g.heights (map (made_lean g) (function_pieces m g.func)) (function_pieces m g.func) → ps ≡ typed_parts m g.func x given g.locals (lean_function m g.func results g.locals)
typed_made m g x given results ps known same shaped measured size_is results_are parts_are =
    let n : ℕ = g.func in
    let all : List Piece = function_pieces m n in
    let made : List Items = map (made_lean g) all in
    let lean : made ≡ lean_function m n results g.locals = all_lean m g all known same shaped measured all ∙ ap (λ (k : ℕ). lean_function m n k g.locals) results_are in
    parts_are
    ∙ (ap (λ (y : Module). body_parts y n g.size g.locals x given g.heights made all) known
    ∙ (ap (λ (k : ℕ). body_parts m n k g.locals x given g.heights made all) size_is
    ∙ (ap (λ (hs : List ℕ). body_parts m n x.size g.locals x given hs made all) measured
    ∙ ap (typed_parts m n x given g.locals) lean)))

pub function_made : (m seen : Module) (n : ℕ) (f : Func) (ty : FuncType) (x : Shape) (there : Option Shape) (found : Option Scope) (scope : Scope) (locals : List ValType) (ps : List Part)
    → slice_get m.funcs n ≡ Some f → seen ≡ m → Some ty ≡ slice_get seen.types f.kind → Some x ≡ there → there ≡ shape_of m n → ScopeFound found seen f → found ≡ Some scope → locals ≡ scope.locals.items
    → ps ≡ typed_parts m n x (widths ty.results) locals (lean_function m n (length (results_of (first_of ty.results))) locals) → ps ≡ function_parts m n f
function_made m seen n f ty x there found scope locals ps here same named shape_is shape_here is_found is locals_are parts_are = by_scope (subst (λ (o : Option Scope). ScopeFound o seen f) is is_found)
  where
    named_here : function_type m f ≡ Some ty
    named_here = ap (λ (y : Module). slice_get y.types f.kind) (sym same) ∙ sym named

    shaped : Some x ≡ Some (shape_in m n f ty)
    shaped = shape_is ∙ (shape_here ∙ (ap (λ (o : Option Func). o >>= function_shape m n) here ∙ ap (option_map (shape_in m n f)) named_here))

    by_scope : ScopeFound (Some scope) seen f → ps ≡ function_parts m n f
    by_scope (t, s) =
        let one : Some ty ≡ Some t = named ∙ s.named in
        let alike : t ≡ ty = sym (some_of ty t one) in
        let like : x ≡ shape_in m n f ty = some_of x (shape_in m n f ty) shaped in
        let all : locals ≡ ty.params ++ run_types f.locals = locals_are ∙ (s.locals ∙ ap (λ (y : FuncType). y.params ++ run_types f.locals) alike) in
        parts_are
        ∙ (ap (λ (y : Shape). typed_parts m n y (widths ty.results) locals (lean_function m n (length (results_of (first_of ty.results))) locals)) like
        ∙ (ap (λ (ks : List ValType). typed_parts m n (shape_in m n f ty) (widths ty.results) ks (lean_function m n (length (results_of (first_of ty.results))) ks)) all ∙ typed_are m n f ty here named_here))

-- ---- functions, one after the other

pub parts_more : (m : Module) (fs rest : List Func) (n : ℕ) (f : Func) (own before now : List Code) (whole : List Part) → fs ≡ f ∷ rest → parts_view own ≡ function_parts m n f → now ≡ before ++ own
    → parts_view before ++ parts_by m n fs ≡ whole → parts_view now ++ parts_by m (n + 1) rest ≡ whole
parts_more m fs rest n f own before now whole are own_is now_is so_far =
    ap (λ (l : List Code). parts_view l ++ parts_by m (n + 1) rest) now_is
    ∙ (ap (λ (l : List Part). l ++ parts_by m (n + 1) rest) (map-append part_view before own)
    ∙ (append_assoc (parts_view before) (parts_view own) (parts_by m (n + 1) rest)
    ∙ (ap (λ (l : List Part). parts_view before ++ (l ++ parts_by m (n + 1) rest)) own_is
    ∙ (ap (λ (k : ℕ). parts_view before ++ (function_parts m n f ++ parts_by m k rest)) (add-one n)
    ∙ (ap (λ (l : List Func). parts_view before ++ parts_by m n l) (sym are) ∙ so_far)))))

-- ---- shared pieces, and those that fetch arguments

-- the shared ones, one kind after the other
pub shared_made : (old takers dones ones pairs now a b c d e : List Part) → takers ≡ old ++ a → dones ≡ takers ++ b → ones ≡ dones ++ c → pairs ≡ ones ++ d → now ≡ pairs ++ e
    → now ≡ old ++ (a ++ (b ++ (c ++ (d ++ e))))
shared_made old takers dones ones pairs now a b c d e a_are b_are c_are d_are e_are =
    e_are
    ∙ (ap (λ (l : List Part). l ++ e) (d_are ∙ ap (λ (l : List Part). l ++ d) (c_are ∙ ap (λ (l : List Part). l ++ c) (b_are ∙ ap (λ (l : List Part). l ++ b) a_are)))
    ∙ (append_assoc (((old ++ a) ++ b) ++ c) d e
    ∙ (append_assoc ((old ++ a) ++ b) c (d ++ e) ∙ (append_assoc (old ++ a) b (c ++ (d ++ e)) ∙ append_assoc old a (b ++ (c ++ (d ++ e)))))))

-- ---- helpers

one_by_one : (hs xs ys : List Helper) → with_helpers hs (xs ++ ys) ≡ with_helpers (with_helpers hs xs) ys
one_by_one hs [] ys = refl
one_by_one hs (x ∷ xs) ys = one_by_one (with_helper hs x) xs ys

pub helpers_more : (ns : Text) (p : Code) (left rest : List Code) (found now whole : List Helper) → left ≡ p ∷ rest → now ≡ with_helpers found (items_helpers ns (block_items p.block))
    → with_helpers found (parts_helpers ns (parts_view left)) ≡ whole → with_helpers now (parts_helpers ns (parts_view rest)) ≡ whole
helpers_more ns p left rest found now whole e n h =
    ap (λ (l : List Helper). with_helpers l (parts_helpers ns (parts_view rest))) n
    ∙ (sym (one_by_one found (items_helpers ns (block_items p.block)) (parts_helpers ns (parts_view rest)))
    ∙ (ap (λ (l : List Code). with_helpers found (parts_helpers ns (parts_view l))) (sym e) ∙ h))
