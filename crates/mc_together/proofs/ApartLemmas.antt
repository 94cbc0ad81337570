-- What belongs to different namespaces is different.
use Rattle.std.proofs.Common.{◌≡◌, ◌≢◌, ℕ, zero, suc, List, [], ◌∷◌, Option, Some, None, Bool, true, false, refl, sym, ap, ◌∙◌, arith}
use Rattle.std.specs.Prelude.{◌||◌, codes, slice_get}
use Rattle.std.specs.Option.{option_or}
use Rattle.std.specs.Str.{bytes_eq}
use Rattle.std.proofs.lemmas.Slice.Eq.{bytes_eq-Decides}
use Rattle.mc_nbt.proofs.TreeLemmas.{bytes_refl}
use Rattle.mc_cmd.specs.Form.{Text, lacks, cut_at}
use Rattle.mc_cmd.specs.Word.{is_namespace}
use Rattle.mc_cmd.specs.World.{World}
use Rattle.mc_cmd.specs.Layout.{full_name, io_of, memory_of, rest_of}
use Rattle.mc_cmd.specs.Foreign.{is_own, IsKept}
use Rattle.mc_cmd.specs.Pack.{Pack, functions_of}
use Rattle.mc_cmd.specs.Tidy.{own_objective, own_storage, own_function, is_before}
use Rattle.mc_cmd.proofs.FormLemmas.{cut_at_text, cut_at_none}
use Rattle.mc_cmd.proofs.NameLemmas.{namespace_lacks}
use Rattle.mc_together.specs.Bare.{bare_in}
use Rattle.mc_together.specs.Part.{SamePart, Bare}

or_true : (a b : Bool) → b ≡ true → a || b ≡ true
or_true true b e = refl
or_true false b e = e

left_true : (a b : Bool) → a ≡ true → a || b ≡ true
left_true true b e = refl
left_true false b e = absurd cc

pub objective_own : (ns o : Text) → own_objective ns o ≡ true → is_own ns o ≡ true
objective_own ns o h = left_true (bytes_eq o ns) _ h

pub storage_own : (ns i : Text) → own_storage ns i ≡ true → is_own ns i ≡ true
storage_own ns i h = or_true (bytes_eq i ns) _ h

pub io_storage : (ns : Text) → own_storage ns (io_of ns) ≡ true
io_storage ns = left_true (bytes_eq (io_of ns) (io_of ns)) _ (bytes_refl (io_of ns))

pub memory_storage : (ns : Text) → own_storage ns (memory_of ns) ≡ true
memory_storage ns = or_true (bytes_eq (memory_of ns) (io_of ns)) _ (left_true (bytes_eq (memory_of ns) (memory_of ns)) _ (bytes_refl (memory_of ns)))

-- the namespace of a name: what stands before its colon, or all of it
abbrev space_in : Text → Option (Text × Text) → Text
space_in n None = n
space_in n (Some p) = p.0

abbrev space : Text → Text
space n = space_in n (cut_at 58 n)

module _ (ns : Text) (good : is_namespace ns ≡ true) where
  bare_space : lacks 58 ns ≡ true
  bare_space = namespace_lacks ns 58 refl good

  full_space : (name : Text) → space (full_name ns name) ≡ ns
  full_space name = ap (space_in (full_name ns name)) (cut_at_text 58 ns name bare_space)

  pub full_own : (name : Text) → own_function ns (full_name ns name) ≡ true
  full_own name = ap (is_before ns) (cut_at_text 58 ns name bare_space) ∙ bytes_refl ns

  own_space : (n : Text) → is_own ns n ≡ true → space n ≡ ns
  own_space n h = go (bytes_eq n ns) refl (bytes_eq n (io_of ns)) refl (bytes_eq n (memory_of ns)) refl (bytes_eq n (rest_of ns)) refl h
    where
      go : (a : Bool) → bytes_eq n ns ≡ a → (b : Bool) → bytes_eq n (io_of ns) ≡ b → (c : Bool) → bytes_eq n (memory_of ns) ≡ c → (d : Bool) → bytes_eq n (rest_of ns) ≡ d → a || (b || (c || d)) ≡ true → space n ≡ ns
      go true e b f c g d i h = let s : n ≡ ns = (bytes_eq-Decides n ns).0 e in ap space s ∙ ap (space_in ns) (cut_at_none 58 ns bare_space)
      go false e true f c g d i h = let s : n ≡ io_of ns = (bytes_eq-Decides n (io_of ns)).0 f in ap space s ∙ full_space (codes "io")
      go false e false f true g d i h = let s : n ≡ memory_of ns = (bytes_eq-Decides n (memory_of ns)).0 g in ap space s ∙ full_space (codes "m")
      go false e false f false g true i h = let s : n ≡ rest_of ns = (bytes_eq-Decides n (rest_of ns)).0 i in ap space s ∙ full_space (codes "c")
      go false e false f false g false i h = absurd cc

-- a name that is the one's own is not the other's
pub names_differ : (p q : Text) → is_namespace p ≡ true → is_namespace q ≡ true → p ≢ q → (n : Text) → is_own p n ≡ true → is_own q n ≡ false
names_differ p q g h other n own = go (is_own q n) refl
  where
    go : (b : Bool) → is_own q n ≡ b → b ≡ false
    go false e = refl
    go true e = absurd (other (sym (own_space p g n own) ∙ own_space q h n e))

-- and so with functions
pub functions_differ : (p q : Text) → p ≢ q → (f : Text) → own_function p f ≡ true → own_function q f ≡ false
functions_differ p q other f own = go (cut_at 58 f) own
  where
    both : (x : Text) → bytes_eq x p ≡ true → (b : Bool) → bytes_eq x q ≡ b → b ≡ false
    both x h false e = refl
    both x h true e = let s : x ≡ p = (bytes_eq-Decides x p).0 h in let t : x ≡ q = (bytes_eq-Decides x q).0 e in absurd (other (sym s ∙ t))

    go : (o : Option (Text × Text)) → is_before p o ≡ true → is_before q o ≡ false
    go None h = absurd cc
    go (Some c) h = both c.0 h (bytes_eq c.0 q) refl

-- ---- the functions of one pack among those of all

no_functions : (qs : List Pack) (f : Text) → ((j : ℕ) (q : Pack) → slice_get qs j ≡ Some q → q.functions f ≡ None) → functions_of qs f ≡ None
no_functions [] f h = refl
no_functions (q ∷ qs) f h = ap (λ o. option_or o (functions_of qs f)) (h 0 q refl) ∙ no_functions qs f (λ j r e. h (suc j) r e)

or_last : {A : Type 0} (o p : Option A) → p ≡ None → option_or o p ≡ o
or_last None p e = e
or_last (Some a) p e = refl

pub own_functions : (qs : List Pack) (k : ℕ) (p : Pack) (f : Text) → slice_get qs k ≡ Some p → ((j : ℕ) (q : Pack) → slice_get qs j ≡ Some q → j ≢ k → q.functions f ≡ None) → functions_of qs f ≡ p.functions f
own_functions [] k p f e h = absurd cc
own_functions (q ∷ qs) zero p f e h =
    let s : q ≡ p = cc in
    or_last (q.functions f) (functions_of qs f) (no_functions qs f (λ j r g. h (suc j) r g (λ x. omega arith))) ∙ ap (λ p. p.functions f) s
own_functions (q ∷ qs) (suc k) p f e h =
    ap (λ o. option_or o (functions_of qs f)) (h 0 q refl (λ x. omega arith))
    ∙ own_functions qs k p f e (λ j r g n. h (suc j) r g (λ x. n (omega arith)))

-- ---- what is kept of all names is the same part

pub kept_same : (ns : Text) (w w' : World) → ((n : Text) → is_own ns n ≡ true → IsKept n w w') → SamePart ns w' w
kept_same ns w w' h = record {
  objective = λ o own. (h o (objective_own ns o own)).objective;
  scores = λ i o own. (h o (objective_own ns o own)).scores i;
  storages = λ i own. (h i (storage_own ns i own)).storage;
}

pub same_bare : (ns : Text) (w v : World) → SamePart ns v w → Bare ns w → Bare ns v
same_bare ns w v k b i own = ap bare_in (k.storages i own) ∙ b i own

pub same_self : (ns : Text) (w : World) → SamePart ns w w
same_self ns w = record { objective = λ o h. refl; scores = λ i o h. refl; storages = λ i h. refl }
