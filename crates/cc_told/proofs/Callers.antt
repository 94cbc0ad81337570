-- The entries below tell the callers.
use Rattle.std.proofs.Common.{◌≡◌, ℕ, ◌+◌, List, [], ◌∷◌, ◌++◌, length, take, drop, reverse, ℤ, refl, sym, ap, ap₂, subst, ◌∙◌, append_assoc, arith}
use Rattle.std.proofs.lemmas.List.Elements.{All-nil, All-push}
use Rattle.std.proofs.lemmas.List.{take-append-drop, append_cancel_left}
use Rattle.mc_nbt.specs.declared.value.Value.{Value}
use Rattle.wm_ast.specs.declared.module.FuncType.{FuncType}
use Rattle.wm_ast.specs.declared.module.Module.{Module}
use Rattle.wm_flat.specs.Flat.{Activation}
use Rattle.wm_flat.specs.FlatTyping.{types_of}
use Rattle.wm_flat.specs.Operands.{under, operands}
use Rattle.wm_flat.specs.Program.{IsProgram}
use Rattle.wm_place.proofs.LevelLemmas.{some_of}
use Rattle.cc_line.specs.Running.{Kept, below_tree}
use Rattle.cc_line.specs.State.{State}
use Rattle.cc_call.specs.Frames.{base}
use Rattle.cc_call.specs.Law.{IsBelow}
use Rattle.cc_entries.specs.Law.{NameTells, AllTell}
use Rattle.cc_entries.proofs.Telling.{entries_tell}
use Rattle.cc_cut.specs.Law.{widths}
use Rattle.cc_cut.specs.Piece.{Piece}
use Rattle.cc_move.specs.Calls.{with_results, gives_of}
use Rattle.cc_pieces.specs.Restoring.{first_restore, restore_piece}
use Rattle.cc_body.specs.Behind.{call_before}
use Rattle.cc_simulate.specs.Callers.{IsHeld, Waits, Waiting}
use Rattle.cc_simulate.proofs.Behind.{kept_of}
use Rattle.cc_simulate.proofs.Frames.{types_append}
use Rattle.cc_told.specs.Law.{CallersHaveNames, EntriesTellCallers}
use Rattle.cc_told.proofs.Activations.{activation_same, IsAtCut, locals_alike, operands_alike, activation_told}
use Rattle.cc_told.proofs.Cuts.{piece_told, func_low}
use Rattle.cc_told.proofs.Names.{func_same, index_same, last_told, not_empty}
use Rattle.cc_told.proofs.Results.{results_there}
use Rattle.cc_told.proofs.Values.{parts_told}

-- ---- one caller, whichever functions it waits for

module _ (m : Module) (program : IsProgram m) (n k : ℕ) (c d : Activation) (b : Kept) (x : Waits m n c b) (y : Waits m k d b) where
  named : restore_piece c.func x.cut.index ≡ restore_piece d.func y.cut.index
  named = sym x.follows ∙ y.follows

  func : c.func ≡ d.func
  func = func_same c.func d.func (first_restore + x.cut.index) (first_restore + y.cut.index) named

  index : x.cut.index ≡ y.cut.index
  index =
      let e : first_restore + x.cut.index ≡ first_restore + y.cut.index =
      index_same c.func d.func (first_restore + x.cut.index) (first_restore + y.cut.index) named in
      omega arith

  piece : x.piece ≡ y.piece
  piece = piece_told m c.func d.func x.cut y.cut x.piece y.piece x.is_piece y.is_piece func index

  type : x.type ≡ y.type
  type = some_of x.type y.type (sym x.behind ∙ ap (λ (p : Piece). call_before m p.cut) piece ∙ y.behind)

  -- these give the same, since the cut is behind one call
  pub gives_same : gives_of m n ≡ gives_of m k
  gives_same = sym x.gives ∙ ap (λ (t : FuncType). reverse t.results) type ∙ y.gives

  -- both go on with some results
  abbrev us : List Value
  us = (results_there m program n).0

  types : types_of us ≡ gives_of m n
  types = (results_there m program n).1

  abbrev here : IsAtCut m (with_results c us)
  here = record {
    cut = x.cut;
    is_cut = x.is_cut;
    visit = (x.stands us types).0;
    stands = (x.stands us types).1;
    place = (x.stands us types).2;
  }

  abbrev there : IsAtCut m (with_results d us)
  there = record {
    cut = y.cut;
    is_cut = y.is_cut;
    visit = (y.stands us (types ∙ gives_same)).0;
    stands = (y.stands us (types ∙ gives_same)).1;
    place = (y.stands us (types ∙ gives_same)).2;
  }

  parted : (e : Activation) → types_of (operands (with_results e us)) ≡ types_of us ++ types_of (operands e)
  parted e = ap types_of (append_assoc us e.values (under e.levels)) ∙ types_append us (operands e)

  alike : types_of (operands c) ≡ types_of (operands d)
  alike =
      append_cancel_left (types_of us) (types_of (operands c)) (types_of (operands d))
      (sym (parted c) ∙ operands_alike m (with_results c us) (with_results d us) here there func index ∙ parted d)

  -- the entry has the locals and the operands
  whole : (size : ℕ) (e : Activation) → IsHeld size (kept_of e) b.places → kept_of e ++ drop (length (kept_of e)) b.places ≡ b.places
  whole size e h = ap (λ (l : List ℤ). l ++ drop (length (kept_of e)) b.places) (sym h.held) ∙ take-append-drop (length (kept_of e)) b.places

  held : (c.locals ≡ d.locals) × (operands c ≡ operands d)
  held =
      parts_told c.locals d.locals (operands c) (operands d) (drop (length (kept_of c)) b.places) (drop (length (kept_of d)) b.places)
      (locals_alike m (with_results c us) (with_results d us) here there func index) alike
      (whole _ c x.held ∙ sym (whole _ d y.held))

  resumed : with_results c us ≡ with_results d us
  resumed =
      activation_told m (with_results c us) (with_results d us) here there func index held.0
      (append_assoc us c.values (under c.levels) ∙ ap (λ (l : List Value). us ++ l) held.1 ∙ sym (append_assoc us d.values (under d.levels)))

  pub caller_told : c ≡ d
  caller_told =
      activation_same c d func (ap (λ (a : Activation). a.results) resumed) (ap (λ (a : Activation). a.place) resumed)
      (ap (λ (a : Activation). a.before) resumed) (ap (λ (a : Activation). a.code) resumed) held.0
      (ap (λ (a : Activation). a.levels) resumed)
      (append_cancel_left us c.values d.values (ap (λ (a : Activation). a.values) resumed))

-- ---- all of them

empty_waits : (m : Module) (n : ℕ) (ds : List Activation) → Waiting m n ds [] → ⊥
empty_waits m n [] x = cc
empty_waits m n (d ∷ ds) x = not_empty x.0 x.1 x.2

at_base : (m : Module) (n k : ℕ) (d : Activation) (ds : List Activation) (bs : List Kept) → Waiting m n [] bs → Waiting m k (d ∷ ds) bs → ⊥
at_base m n k d ds bs x y =
    let parts = last_told [] y.0 (base (widths (gives_of m n))) y.1 (sym x ∙ y.2) in
    empty_waits m d.func ds (subst (Waiting m d.func ds) (sym parts.0) y.4)

pub callers_told : EntriesTellCallers
callers_told m program n k [] [] bs x y = refl
callers_told m program n k [] (d ∷ ds) bs x y = absurd (at_base m n k d ds bs x y)
callers_told m program n k (c ∷ cs) [] bs x y = absurd (at_base m k n c cs bs y x)
callers_told m program n k (c ∷ cs) (d ∷ ds) bs x y =
    let same = last_told x.0 y.0 x.1 y.1 (sym x.2 ∙ y.2) in
    let one : c ≡ d = caller_told m program n k c d y.1 (subst (Waits m n c) same.1 x.3) y.3 in
    ap₂ (λ a l. a ∷ l) one
    (callers_told m program c.func d.func cs ds y.0 (subst (Waiting m c.func cs) same.0 x.4) y.4)

-- ---- names of entries

waits_tells : (m : Module) → IsProgram m → (n : ℕ) (c : Activation) (b : Kept) → Waits m n c b → NameTells b.follows
waits_tells m program n c b x = subst NameTells (sym x.follows) (func_low m program c.func x.cut x.is_cut)

pub callers_have_names : CallersHaveNames
callers_have_names m program n [] bs x =
    subst AllTell (sym x)
    (All-push (λ b. NameTells b.follows) [] (base (widths (gives_of m n))) (All-nil (λ b. NameTells b.follows)) tt)
callers_have_names m program n (c ∷ cs) bs x =
    subst AllTell (sym x.2)
    (All-push (λ b. NameTells b.follows) x.0 x.1 (callers_have_names m program c.func cs x.0 x.4) (waits_tells m program n c x.1 x.3))

-- ---- the frames below in a state

below_told : (bs es : List Kept) (s : State) → AllTell bs → AllTell es → IsBelow bs s → IsBelow es s → bs ≡ es
below_told bs es s g h x y = entries_tell bs es g h (some_of (below_tree bs) (below_tree es) (sym x ∙ y))

module _ (m : Module) (program : IsProgram m) (n k : ℕ) (cs ds : List Activation) (bs es : List Kept) (s : State) where
  -- those of whole lists of callers
  pub callers_same : Waiting m n cs bs → Waiting m k ds es → IsBelow bs s → IsBelow es s → cs ≡ ds
  callers_same x y h i =
      let same : bs ≡ es = below_told bs es s (callers_have_names m program n cs bs x) (callers_have_names m program k ds es y) h i in
      callers_told m program n k cs ds es (subst (Waiting m n cs) same x) y

  -- those with the entry of one caller more at the end
  pub record LastSame (c d : Activation) (b e : Kept) : Type 0 where
    pub callers : cs ≡ ds
    pub caller : c ≡ d
    pub entry : b ≡ e
    pub gives : gives_of m n ≡ gives_of m k

  pub last_same : (c d : Activation) (b e : Kept) → Waits m n c b → Waits m k d e → Waiting m c.func cs bs → Waiting m d.func ds es
      → IsBelow (bs ++ b ∷ []) s → IsBelow (es ++ e ∷ []) s → LastSame c d b e
  last_same c d b e x y u v h i =
      let whole : bs ++ b ∷ [] ≡ es ++ e ∷ [] =
      below_told (bs ++ b ∷ []) (es ++ e ∷ []) s
      (All-push (λ z. NameTells z.follows) bs b (callers_have_names m program c.func cs bs u) (waits_tells m program n c b x))
      (All-push (λ z. NameTells z.follows) es e (callers_have_names m program d.func ds es v) (waits_tells m program k d e y)) h i in
      let parts = last_told bs es b e whole in
      let w : Waits m n c e = subst (Waits m n c) parts.1 x in
      record {
        callers = callers_told m program c.func d.func cs ds es (subst (Waiting m c.func cs) parts.0 u) v;
        caller = caller_told m program n k c d e w y;
        entry = parts.1;
        gives = gives_same m program n k c d e w y;
      }
