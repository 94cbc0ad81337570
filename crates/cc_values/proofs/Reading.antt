-- Values read from ints, one type behind the other.
use Rattle.std.proofs.Common.{◌≡◌, ℕ, ◌+◌, ◌<◌, ◌≤◌, List, [], ◌∷◌, ◌++◌, length, take, drop, get_or, ℤ, sym, ap, ap₂, ◌∙◌, append_assoc}
use Rattle.std.proofs.lemmas.List.{append-nil, drop_at, drop_more, map_push, take_all, take_more}
use Rattle.mc_nbt.specs.declared.value.Value.{Value}
use Rattle.wm_ast.specs.declared.module.ValType.{ValType}
use Rattle.wm_ast.specs.Types.{const_type}
use Rattle.wm_flat.specs.FlatTyping.{types_of}
use Rattle.cc_line.specs.Routine.{value_ints}
use Rattle.cc_cut.specs.Law.{widths}
use Rattle.cc_simulate.specs.Frame.{local_ints}
use Rattle.cc_simulate.proofs.Frames.{local_length}
use Rattle.cc_simulate.proofs.Opened.{local_append}
use Rattle.cc_values.specs.Told.{IsFirst, AreFirst}
use Rattle.cc_values.proofs.Values.{first_same, rest_same, value_told}

-- ---- in a loop over types

-- the values so far have the first ints, and what may stand behind them has values of the other types
pub record IsRead (kinds : List ValType) (ints : List ℤ) (i : ℕ) (vs : List Value) (rest : List ℤ) : Type 0 where
  pub here : AreFirst (take i kinds) ints vs rest
  pub all : (us : List Value) (r : List ℤ) → AreFirst kinds ints us r → (ws : List Value) × AreFirst (drop i kinds) rest ws r

-- the types that are left: the next one, and those behind it
next : (kinds : List ValType) (i : ℕ) (t d : ValType) → i < length kinds → t ≡ get_or kinds i d → drop i kinds ≡ t ∷ drop (i + 1) kinds
next kinds i t d l r = drop_more kinds i d l ∙ ap (λ u. u ∷ drop (i + 1) kinds) (sym r)

-- values of a type and others
first_of_all : (t : ValType) (ts : List ValType) (zs : List ℤ) (ws : List Value) (r : List ℤ) → AreFirst (t ∷ ts) zs ws r
    → (w : Value) × ((us : List Value) × (IsFirst t zs w (local_ints us ++ r) × (types_of us ≡ ts)))
first_of_all t ts zs [] r h = absurd (let e : [] ≡ t ∷ ts = h.0 in cc)
first_of_all t ts zs (w ∷ ws) r h = (
  w,
  (
    ws,
    (
      (first_same (const_type w) t (types_of ws) ts h.0, h.1 ∙ append_assoc (value_ints w) (local_ints ws) r),
      rest_same (const_type w) t (types_of ws) ts h.0,
    ),
  ),
)

pub one_read : (kinds : List ValType) (ints : List ℤ) (i : ℕ) (vs us : List Value) (rest others : List ℤ) (t d : ValType) (v : Value) → i < length kinds
    → t ≡ get_or kinds i d → us ≡ vs ++ (v ∷ []) → IsFirst t rest v others → IsRead kinds ints i vs rest → IsRead kinds ints (i + 1) us others
one_read kinds ints i vs us rest others t d v l r p k h = record {
  here = (
    ap types_of p ∙ map_push const_type vs v ∙ ap₂ (λ ts x. ts ++ (x ∷ [])) h.here.0 (k.0 ∙ r) ∙ sym (take_more kinds i d l),
    h.here.1
        ∙ ap (λ zs. local_ints vs ++ zs) k.1
        ∙ sym (append_assoc (local_ints vs) (value_ints v) others)
        ∙ ap (λ zs. zs ++ others)
        (ap (λ zs. local_ints vs ++ zs) (sym (append-nil (value_ints v))) ∙ sym (local_append vs (v ∷ [])) ∙ ap local_ints (sym p)),
  );
  all = λ ws x a.
      let b = h.all ws x a in
      let c = first_of_all t (drop (i + 1) kinds) rest b.0 x (b.1.0 ∙ next kinds i t d l r, b.1.1) in
      (c.1.0, (c.1.1.1, (value_told v c.0 others (local_ints c.1.0 ++ x) (k.0 ∙ sym c.1.1.0.0) (sym k.1 ∙ c.1.1.0.1)).1));
}

pub one_missing : (kinds : List ValType) (ints : List ℤ) (i : ℕ) (vs : List Value) (rest : List ℤ) (t d : ValType) → i < length kinds → t ≡ get_or kinds i d
    → ((v : Value) (r : List ℤ) → IsFirst t rest v r → ⊥) → IsRead kinds ints i vs rest
    → (us : List Value) (r : List ℤ) → AreFirst kinds ints us r → ⊥
one_missing kinds ints i vs rest t d l r n h us x a =
    let b = h.all us x a in
    let c = first_of_all t (drop (i + 1) kinds) rest b.0 x (b.1.0 ∙ next kinds i t d l r, b.1.1) in
    n c.0 (local_ints c.1.0 ++ x) c.1.1.0

pub all_read : (kinds : List ValType) (ints : List ℤ) (i : ℕ) (vs : List Value) (rest : List ℤ) → length kinds ≤ i → IsRead kinds ints i vs rest
    → AreFirst kinds ints vs (drop (widths kinds) ints)
all_read kinds ints i vs rest l h =
    let t : types_of vs ≡ kinds = h.here.0 ∙ take_all i kinds l in
    let e : drop (widths kinds) ints ≡ rest =
    ap (drop (widths kinds)) h.here.1 ∙ drop_at (local_ints vs) rest (widths kinds) (local_length vs ∙ ap (λ ts. widths ts) t) in
    (t, h.here.1 ∙ ap (λ zs. local_ints vs ++ zs) (sym e))
