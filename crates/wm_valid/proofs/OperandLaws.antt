-- The stack of operands with unknowns, against the types that its operands may have.
use Rattle.std.proofs.Common.{◌≡◌, List, [], ◌∷◌, ◌++◌, Bool, true, false, cond, Option, Some, None, refl, sym, ap, subst, ◌∙◌}
use Rattle.std.proofs.lemmas.List.{append-nil}
use Rattle.wm_ast.specs.declared.module.ValType.{ValType}
use Rattle.wm_ast.specs.declared.module.ValType.TheVariants.{I32}
use Rattle.wm_valid.specs.Arrows.{◌>>=◌}
use Rattle.wm_ast.specs.Types.{same_type}
use Rattle.wm_ast.proofs.TypeLaws.{same_is, same_self}
use Rattle.wm_valid.specs.steps.Checking.{Shape, over, anything, popped, take_any, of_type, take_one, take_all, push_all, left, ends_with, agreed}

-- this type is among those that the operand may have
abbrev pub Matches : Option ValType → ValType → Type 0
Matches None t = Unit {0}
Matches (Some s) t = s ≡ t

-- operands of these types may stand
abbrev pub Fits : List (Option ValType) → Bool → List ValType → Type 0
Fits [] true ts = Unit {0}
Fits [] false ts = ts ≡ []
Fits (k ∷ ks) o [] = ⊥
Fits (k ∷ ks) o (t ∷ ts) = Matches k t × Fits ks o ts

abbrev pub Suits : Shape → List ValType → Type 0
Suits s ts = Fits s.known s.open' ts

pub some_is : {A : Type 0} (x y : A) → Some x ≡ Some y → x ≡ y
some_is x y e = cc

pub bind_some : {A B : Type 0} (r : Option A) (f : A → Option B) (y : B) → (r >>= f) ≡ Some y → (x : A) × (r ≡ Some x) × (f x ≡ Some y)
bind_some None f y e = absurd cc
bind_some (Some x) f y e = (x, refl, e)

pub if_some : {A : Type 0} (b : Bool) (x : Option A) (y : A) → cond b x None ≡ Some y → (b ≡ true) × (x ≡ Some y)
if_some true x y e = (refl, e)
if_some false x y e = absurd cc

pub is_same : (s t : ValType) → s ≡ t → same_type s t ≡ true
is_same s t e = ap (same_type s) (sym e) ∙ same_self s

suits_along : (r s : Shape) (ts : List ValType) → r ≡ s → Suits s ts → Suits r ts
suits_along r s ts e f = subst (λ (z : Shape). Suits z ts) (sym e) f

popped_sound : (t : ValType) (ks : List (Option ValType)) (o : Bool) (x : Option ValType × Shape) (ts : List ValType) → popped ks o ≡ Some x → Matches x.0 t → Suits x.1 ts → Fits ks o (t ∷ ts)
popped_sound t [] true x ts e m f = tt
popped_sound t [] false x ts e m f = absurd cc
popped_sound t (k ∷ ks) o x ts e m f =
    let same : (k, over ks o) ≡ x = some_is (k, over ks o) x e in
    (subst (λ (z : Option ValType × Shape). Matches z.0 t) (sym same) m, subst (λ (z : Option ValType × Shape). Suits z.1 ts) (sym same) f)

pub any_sound : (t : ValType) (s : Shape) (x : Option ValType × Shape) (ts : List ValType) → take_any s ≡ Some x → Matches x.0 t → Suits x.1 ts → Suits s (t ∷ ts)
any_sound t s x ts e m f = popped_sound t s.known s.open' x ts e m f

popped_complete : (t : ValType) (ks : List (Option ValType)) (o : Bool) (ts : List ValType) → Fits ks o (t ∷ ts) → (x : Option ValType × Shape) × (popped ks o ≡ Some x) × Matches x.0 t × Suits x.1 ts
popped_complete t [] true ts f = ((None, anything), refl, tt, tt)
popped_complete t [] false ts f = absurd cc
popped_complete t (k ∷ ks) o ts f = ((k, over ks o), refl, f.0, f.1)

pub any_complete : (t : ValType) (s : Shape) (ts : List ValType) → Suits s (t ∷ ts) → (x : Option ValType × Shape) × (take_any s ≡ Some x) × Matches x.0 t × Suits x.1 ts
any_complete t s ts f = popped_complete t s.known s.open' ts f

of_type_sound : (t : ValType) (k : Option ValType) (r s : Shape) → of_type t k r ≡ Some s → Matches k t × (r ≡ s)
of_type_sound t None r s e = (tt, some_is r s e)
of_type_sound t (Some u) r s e =
    let g = if_some (same_type u t) (Some r) s e in
    (same_is u t g.0, some_is r s g.1)

of_type_complete : (t : ValType) (k : Option ValType) (r : Shape) → Matches k t → of_type t k r ≡ Some r
of_type_complete t None r m = refl
of_type_complete t (Some u) r m = let e = is_same u t m in rw e refl

pub one_sound : (t : ValType) (s r : Shape) (ts : List ValType) → take_one t s ≡ Some r → Suits r ts → Suits s (t ∷ ts)
one_sound t s r ts e f =
    let x = bind_some (take_any s) (λ x. of_type t x.0 x.1) r e in
    let m = of_type_sound t x.0.0 x.0.1 r x.2 in
    any_sound t s x.0 ts x.1 m.0 (suits_along x.0.1 r ts m.1 f)

pub one_complete : (t : ValType) (s : Shape) (ts : List ValType) → Suits s (t ∷ ts) → (r : Shape) × (take_one t s ≡ Some r) × Suits r ts
one_complete t s ts f =
    let x = any_complete t s ts f in
    (x.0.1, rw x.1 (of_type_complete t x.0.0 x.0.1 x.2), x.3)

pub all_sound : (ts : List ValType) (s r : Shape) (below : List ValType) → take_all ts s ≡ Some r → Suits r below → Suits s (ts ++ below)
all_sound [] s r below e f = suits_along s r below (some_is s r e) f
all_sound (t ∷ ts) s r below e f =
    let a = bind_some (take_one t s) (take_all ts) r e in
    one_sound t s a.0 (ts ++ below) a.1 (all_sound ts a.0 r below a.2 f)

-- where any operands may stand, those of any types are taken
any_taken : (ts : List ValType) → take_all ts anything ≡ Some anything
any_taken [] = refl
any_taken (t ∷ ts) = any_taken ts

pub takes_from_any : (ts : List ValType) (s : Shape) → s.known ≡ [] → s.open' ≡ true → take_all ts s ≡ Some s
takes_from_any ts s none o =
    let e : s ≡ anything = ap (λ ks. over ks s.open') none ∙ ap (over []) o in
    ap (take_all ts) e ∙ any_taken ts ∙ ap Some (sym e)

pub all_complete : (ts : List ValType) (s : Shape) (below : List ValType) → Suits s (ts ++ below) → (r : Shape) × (take_all ts s ≡ Some r) × Suits r below
all_complete [] s below f = (s, refl, f)
all_complete (t ∷ ts) s below f =
    let a = one_complete t s (ts ++ below) f in
    let b = all_complete ts a.0 below a.2 in
    (b.0, rw a.1 b.1, b.2)

pub push_sound : (ts : List ValType) (s : Shape) (b : List ValType) → Suits (push_all ts s) b → (below : List ValType) × (b ≡ ts ++ below) × Suits s below
push_sound [] s b f = (b, refl, f)
push_sound (t ∷ ts) s [] f = absurd f
push_sound (t ∷ ts) s (u ∷ b) f =
    let r = push_sound ts s b f.1 in
    (r.0, ap (λ (l : List ValType). u ∷ l) r.1 ∙ ap (λ x. x ∷ (ts ++ r.0)) (sym f.0), r.2)

pub push_complete : (ts : List ValType) (s : Shape) (below : List ValType) → Suits s below → Suits (push_all ts s) (ts ++ below)
push_complete [] s below f = f
push_complete (t ∷ ts) s below f = (refl, push_complete ts s below f)

-- some types that the operands may have
pub some_types : (ks : List (Option ValType)) (o : Bool) → (ts : List ValType) × Fits ks o ts
some_types [] true = ([], tt)
some_types [] false = ([], refl)
some_types (None ∷ ks) o = let r = some_types ks o in (I32 ∷ r.0, (tt, r.1))
some_types (Some s ∷ ks) o = let r = some_types ks o in (s ∷ r.0, (refl, r.1))

left_sound : (ks : List (Option ValType)) (o : Bool) (u : Unit {0}) → left ks ≡ Some u → Fits ks o []
left_sound [] true u e = tt
left_sound [] false u e = refl
left_sound (k ∷ ks) o u e = absurd cc

left_complete : (ks : List (Option ValType)) (o : Bool) → Fits ks o [] → left ks ≡ Some tt
left_complete [] o f = refl
left_complete (k ∷ ks) o f = absurd f

pub ends_sound : (ts : List ValType) (s : Shape) (u : Unit {0}) → ends_with ts s ≡ Some u → Suits s ts
ends_sound ts s u e =
    let a = bind_some (take_all ts s) (λ r. left r.known) u e in
    subst (λ (l : List ValType). Suits s l) (append-nil ts) (all_sound ts s a.0 [] a.1 (left_sound a.0.known a.0.open' u a.2))

pub ends_complete : (ts : List ValType) (s : Shape) → Suits s ts → ends_with ts s ≡ Some tt
ends_complete ts s f =
    let a = all_complete ts s [] (subst (λ (l : List ValType). Suits s l) (sym (append-nil ts)) f) in
    rw a.1 (left_complete a.0.known a.0.open' a.2)

pub agreed_sound : (j k l : Option ValType) (t : ValType) → agreed j k ≡ Some l → Matches l t → Matches j t × Matches k t
agreed_sound None k l t e m = (tt, subst (λ (z : Option ValType). Matches z t) (sym (some_is k l e)) m)
agreed_sound (Some u) None l t e m = (subst (λ (z : Option ValType). Matches z t) (sym (some_is (Some u) l e)) m, tt)
agreed_sound (Some u) (Some v) l t e m =
    let g = if_some (same_type u v) (Some (Some u)) l e in
    let first : u ≡ t = subst (λ (z : Option ValType). Matches z t) (sym (some_is (Some u) l g.1)) m in
    (first, sym (same_is u v g.0) ∙ first)

pub agreed_complete : (j k : Option ValType) (t : ValType) → Matches j t → Matches k t → (l : Option ValType) × (agreed j k ≡ Some l) × Matches l t
agreed_complete None k t m n = (k, refl, n)
agreed_complete (Some u) None t m n = (Some u, refl, m)
agreed_complete (Some u) (Some v) t m n = let e = is_same u v (m ∙ sym n) in (Some u, rw e refl, m)
