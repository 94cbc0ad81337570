-- Each way to put forms together is read as it is spelled, and what is read is spelled so.
use Rattle.std.proofs.Common.{◌≡◌, ℕ, zero, suc, ◌-◌, [], ◌∷◌, ◌++◌, length, take, drop, Bool, true, false, Option, Some, None, refl, sym, ap, ◌∙◌, subst, arith, length-append, append-nil}
use Rattle.std.specs.Prelude.{◌&&◌, nat_eq, if◌then◌else◌, option_map, option_and_then}
use Rattle.std.specs.Option.{option_or}
use Rattle.std.specs.Str.{bytes_eq}
use Rattle.std.proofs.lemmas.Bool.Decides.{Decides-eqb}
use Rattle.std.proofs.lemmas.Slice.Eq.{bytes_eq-Decides}
use Rattle.mc_cmd.specs.Form.{Text, Last, Front, only_if, strip, strip_end, cut_here, cut_at, lacks, word, with_rest, spaced, after, before, ended, closed, follow, both, compared, guessed, done_at, fixed}
pub use Rattle.mc_nbt.proofs.TestLemmas.{and_first, and_second, and_both, some_same}
pub use Rattle.mc_nbt.proofs.TreeLemmas.{bytes_refl}

-- a form is read as it is spelled, and what is read is spelled so and fits
pub record IsLast {A : Type 0} (l : Last A) : Type 0 where
  pub reads : (a : A) → l.fits a ≡ true → l.read (l.text a) ≡ Some a
  pub spells : (t : Text) (a : A) → l.read t ≡ Some a → (t ≡ l.text a) × (l.fits a ≡ true)

pub record IsFront {A : Type 0} (f : Front A) : Type 0 where
  pub reads : (a : A) (t : Text) → f.fits a ≡ true → f.read (f.text a t) ≡ Some (a, t)
  pub spells : (t : Text) (a : A) (rest : Text) → f.read t ≡ Some (a, rest) → (t ≡ f.text a rest) × (f.fits a ≡ true)

-- tests
nat_eq_refl : (n : ℕ) → nat_eq n n ≡ true
nat_eq_refl n = (Decides-eqb n n).1 refl

-- fixed texts
pub strip_text : (w t : Text) → strip w (w ++ t) ≡ Some t
strip_text [] t = refl
strip_text (a ∷ w) t = ap (λ b. only_if b (strip w (w ++ t))) (nat_eq_refl a) ∙ strip_text w t

pub strip_spells : (w t rest : Text) → strip w t ≡ Some rest → t ≡ w ++ rest
strip_spells [] t rest h = cc
strip_spells (a ∷ w) [] rest h = absurd cc
strip_spells (a ∷ w) (b ∷ t) rest h = go (nat_eq a b) refl h (strip_spells w t rest)
  where
    go : (c : Bool) → nat_eq a b ≡ c → only_if c (strip w t) ≡ Some rest → (strip w t ≡ Some rest → t ≡ w ++ rest) → b ∷ t ≡ a ∷ (w ++ rest)
    go true e h ih =
        let x : a ≡ b = (Decides-eqb a b).0 e in
        let y : t ≡ w ++ rest = ih h in
        cc
    go false e h ih = absurd cc

pub take_front : (t w : Text) → take (length t) (t ++ w) ≡ t
take_front [] w = refl
take_front (b ∷ t) w = ap (λ l. b ∷ l) (take_front t w)

pub drop_front : (t w : Text) → drop (length t) (t ++ w) ≡ w
drop_front [] w = refl
drop_front (b ∷ t) w = drop_front t w

front_length : (t w : Text) → length (t ++ w) - length w ≡ length t
front_length t w = omega (arith, length-append t w)

pub strip_end_text : (w t : Text) → strip_end w (t ++ w) ≡ Some t
strip_end_text w t =
    ap (λ n. if bytes_eq (drop n (t ++ w)) w then Some (take n (t ++ w)) else None) (front_length t w)
    ∙ ap (λ r. if bytes_eq r w then Some (take (length t) (t ++ w)) else None) (drop_front t w)
    ∙ ap (λ b. if b then Some (take (length t) (t ++ w)) else None) (bytes_refl w)
    ∙ ap Some (take_front t w)

pub take_drop : (n : ℕ) (t : Text) → take n t ++ drop n t ≡ t
take_drop zero t = refl
take_drop (suc n) [] = refl
take_drop (suc n) (b ∷ t) = ap (λ l. b ∷ l) (take_drop n t)

pub strip_end_spells : (w t rest : Text) → strip_end w t ≡ Some rest → t ≡ rest ++ w
strip_end_spells w t rest h = go (bytes_eq (drop (length t - length w) t) w) refl h
  where
    go : (c : Bool) → bytes_eq (drop (length t - length w) t) w ≡ c → (if c then Some (take (length t - length w) t) else None) ≡ Some rest → t ≡ rest ++ w
    go true e h =
        let end : drop (length t - length w) t ≡ w = (bytes_eq-Decides _ w).0 e in
        let front : take (length t - length w) t ≡ rest = cc in
        sym (take_drop (length t - length w) t) ∙ ap (λ r. r ++ drop (length t - length w) t) front ∙ ap (λ r. rest ++ r) end
    go false e h = absurd cc

-- separators
pub cut_at_text : (c : ℕ) (w t : Text) → lacks c w ≡ true → cut_at c (w ++ (c ∷ t)) ≡ Some (w, t)
cut_at_text c [] t h = ap (λ b. cut_here b c t (cut_at c t)) (nat_eq_refl c)
cut_at_text c (b ∷ w) t h = go (nat_eq b c) h (cut_at_text c w t)
  where
    go : (d : Bool) → (if d then false else lacks c w) ≡ true → (lacks c w ≡ true → cut_at c (w ++ (c ∷ t)) ≡ Some (w, t)) → cut_here d b (w ++ (c ∷ t)) (cut_at c (w ++ (c ∷ t))) ≡ Some (b ∷ w, t)
    go true h ih = absurd cc
    go false h ih = ap (option_map (λ p. (b ∷ p.0, p.1))) (ih h)

pair_first : {A B : Type 0} (p q : A × B) → Some p ≡ Some q → p.0 ≡ q.0
pair_first p q h = ap (λ p. p.0) (some_same p q h)

pair_second : {A B : Type 0} (p q : A × B) → Some p ≡ Some q → p.1 ≡ q.1
pair_second p q h = ap (λ p. p.1) (some_same p q h)

pub cut_at_spells : (c : ℕ) (t w rest : Text) → cut_at c t ≡ Some (w, rest) → t ≡ w ++ (c ∷ rest)
cut_at_spells c [] w rest h = absurd cc
cut_at_spells c (b ∷ t) w rest h = go (nat_eq b c) (cut_at c t) refl refl h (cut_at_spells c t)
  where
    go : (d : Bool) (o : Option (Text × Text)) → nat_eq b c ≡ d → cut_at c t ≡ o → cut_here d b t o ≡ Some (w, rest) → ((w rest : Text) → cut_at c t ≡ Some (w, rest) → t ≡ w ++ (c ∷ rest)) → b ∷ t ≡ w ++ (c ∷ rest)
    go true o e f h ih =
        let x : b ≡ c = (Decides-eqb b c).0 e in
        let y : [] ≡ w = pair_first _ _ h in
        let z : t ≡ rest = pair_second _ _ h in
        cc
    go false None e f h ih = absurd cc
    go false (Some p) e f h ih =
        let y : b ∷ p.0 ≡ w = pair_first _ _ h in
        let z : p.1 ≡ rest = pair_second _ _ h in
        ap (λ l. b ∷ l) (ih p.0 p.1 f) ∙ ap (λ l. b ∷ (p.0 ++ (c ∷ l))) z ∙ ap (λ l. l ++ (c ∷ rest)) y

-- a text without the separator isn't cut
pub cut_at_none : (c : ℕ) (w : Text) → lacks c w ≡ true → cut_at c w ≡ None
cut_at_none c [] h = refl
cut_at_none c (b ∷ w) h = go (nat_eq b c) h (cut_at_none c w)
  where
    go : (d : Bool) → (if d then false else lacks c w) ≡ true → (lacks c w ≡ true → cut_at c w ≡ None) → cut_here d b w (cut_at c w) ≡ None
    go true h ih = absurd cc
    go false h ih = ap (option_map (λ p. (b ∷ p.0, p.1))) (ih h)

-- what comes of a step and another
pub and_then_some : {A B : Type 0} (f : A → Option B) (o : Option A) (b : B) → option_and_then f o ≡ Some b → (a : A) × (o ≡ Some a) × (f a ≡ Some b)
and_then_some f None b h = absurd cc
and_then_some f (Some a) b h = (a, refl, h)

pub map_some : {A B : Type 0} (f : A → B) (o : Option A) (b : B) → option_map f o ≡ Some b → (a : A) × (o ≡ Some a) × (f a ≡ b)
map_some f None b h = absurd cc
map_some f (Some a) b h = (a, refl, cc)

-- the laws of each way to put forms together
pub word_is : (p : Text → Bool) → IsLast (word p)
word_is p = record {
  reads = λ w h. ap (λ b. if b then Some w else None) h;
  spells = λ w a h. go w a (p w) refl h;
}
  where
    go : (w a : Text) (b : Bool) → p w ≡ b → (if b then Some w else None) ≡ Some a → (w ≡ a) × (p a ≡ true)
    go w a true e h = let x : w ≡ a = cc in (x, ap p (sym x) ∙ e)
    go w a false e h = absurd cc

pub after_is : {A : Type 0} (w : Text) (l : Last A) → IsLast l → IsLast (after w l)
after_is w l i = record {
  reads = λ a h. ap (option_and_then l.read) (strip_text w (l.text a)) ∙ i.reads a h;
  spells = λ t a h.
      let q = and_then_some l.read (strip w t) a h in
      let s = i.spells q.0 a q.2 in
      (strip_spells w t q.0 q.1 ∙ ap (λ r. w ++ r) s.0, s.1);
}

pub ended_is : {A : Type 0} (l : Last A) (w : Text) → IsLast l → IsLast (ended l w)
ended_is l w i = record {
  reads = λ a h. ap (option_and_then l.read) (strip_end_text w (l.text a)) ∙ i.reads a h;
  spells = λ t a h.
      let q = and_then_some l.read (strip_end w t) a h in
      let s = i.spells q.0 a q.2 in
      (strip_end_spells w t q.0 q.1 ∙ ap (λ r. r ++ w) s.0, s.1);
}

pub spaced_is : {A : Type 0} (l : Last A) → IsLast l → ((a : A) → l.fits a ≡ true → lacks 32 (l.text a) ≡ true) → IsFront (spaced l)
spaced_is l i bare = record {
  reads = λ a t h.
      ap (option_and_then (λ p. with_rest (l.read p.0) p.1)) (cut_at_text 32 (l.text a) t (bare a h))
      ∙ ap (λ o. with_rest o t) (i.reads a h);
  spells = λ t a rest h.
      let q = and_then_some (λ p. with_rest (l.read p.0) p.1) (cut_at 32 t) (a, rest) h in
      let r = map_some (λ a. (a, q.0.1)) (l.read q.0.0) (a, rest) q.2 in
      let x : r.0 ≡ a = ap (λ p. p.0) r.2 in
      let y : q.0.1 ≡ rest = ap (λ p. p.1) r.2 in
      let s = i.spells q.0.0 r.0 r.1 in (
        cut_at_spells 32 t q.0.0 q.0.1 q.1 ∙ ap (λ w. w ++ (32 ∷ q.0.1)) (s.0 ∙ ap l.text x) ∙ ap (λ z. l.text a ++ (32 ∷ z)) y,
        ap l.fits (sym x) ∙ s.1,
      );
}

pub before_is : {A : Type 0} (w : Text) (f : Front A) → IsFront f → IsFront (before w f)
before_is w f i = record {
  reads = λ a t h. ap (option_and_then f.read) (strip_text w (f.text a t)) ∙ i.reads a t h;
  spells = λ t a rest h.
      let q = and_then_some f.read (strip w t) (a, rest) h in
      let s = i.spells q.0 a rest q.2 in
      (strip_spells w t q.0 q.1 ∙ ap (λ r. w ++ r) s.0, s.1);
}

pub closed_is : {A : Type 0} (f : Front A) (w : Text) → IsFront f → IsFront (closed f w)
closed_is f w i = record {
  reads = λ a t h.
      ap (option_and_then (λ p. option_map (λ r. (p.0, r)) (strip w p.1))) (i.reads a (w ++ t) h)
      ∙ ap (option_map (λ r. (a, r))) (strip_text w t);
  spells = λ t a rest h.
      let q = and_then_some (λ p. option_map (λ r. (p.0, r)) (strip w p.1)) (f.read t) (a, rest) h in
      let r = map_some (λ r. (q.0.0, r)) (strip w q.0.1) (a, rest) q.2 in
      let x : q.0.0 ≡ a = ap (λ z. z.0) r.2 in
      let y : r.0 ≡ rest = ap (λ z. z.1) r.2 in
      let s = i.spells t q.0.0 q.0.1 q.1 in (
        s.0 ∙ ap (f.text q.0.0) (strip_spells w q.0.1 r.0 r.1) ∙ ap (λ z. f.text z (w ++ r.0)) x ∙ ap (λ z. f.text a (w ++ z)) y,
        ap f.fits (sym x) ∙ s.1,
      );
}

pub both_is : {A B : Type 0} (f : Front A) (g : Front B) → IsFront f → IsFront g → IsFront (both f g)
both_is f g i j = record {
  reads = λ p t h.
      ap (option_and_then (λ q. option_map (λ r. ((q.0, r.0), r.1)) (g.read q.1))) (i.reads p.0 (g.text p.1 t) (and_first _ _ h))
      ∙ ap (option_map (λ r. ((p.0, r.0), r.1))) (j.reads p.1 t (and_second (f.fits p.0) _ h));
  spells = λ t p rest h.
      let q = and_then_some (λ q. option_map (λ r. ((q.0, r.0), r.1)) (g.read q.1)) (f.read t) (p, rest) h in
      let r = map_some (λ r. ((q.0.0, r.0), r.1)) (g.read q.0.1) (p, rest) q.2 in
      let s = i.spells t q.0.0 q.0.1 q.1 in
      let u = j.spells q.0.1 r.0.0 r.0.1 r.1 in
      let x : (q.0.0, r.0.0) ≡ p = ap (λ z. z.0) r.2 in
      let y : r.0.1 ≡ rest = ap (λ z. z.1) r.2 in (
        s.0 ∙ ap (f.text q.0.0) u.0 ∙ ap (λ p. f.text p.0 (g.text p.1 r.0.1)) x ∙ ap (λ z. f.text p.0 (g.text p.1 z)) y,
        ap (λ p. f.fits p.0 && g.fits p.1) (sym x) ∙ and_both _ _ s.1 u.1,
      );
}

pub follow_is : {A B : Type 0} (f : Front A) (l : Last B) → IsFront f → IsLast l → IsLast (follow f l)
follow_is f l i j = record {
  reads = λ p h.
      ap (option_and_then (λ q. option_map (λ b. (q.0, b)) (l.read q.1))) (i.reads p.0 (l.text p.1) (and_first _ _ h))
      ∙ ap (option_map (λ b. (p.0, b))) (j.reads p.1 (and_second (f.fits p.0) _ h));
  spells = λ t p h.
      let q = and_then_some (λ q. option_map (λ b. (q.0, b)) (l.read q.1)) (f.read t) p h in
      let r = map_some (λ b. (q.0.0, b)) (l.read q.0.1) p q.2 in
      let s = i.spells t q.0.0 q.0.1 q.1 in
      let u = j.spells q.0.1 r.0 r.1 in
      (s.0 ∙ ap (f.text q.0.0) u.0 ∙ ap (λ p. f.text p.0 (l.text p.1)) r.2, ap (λ p. f.fits p.0 && l.fits p.1) (sym r.2) ∙ and_both _ _ s.1 u.1);
}

pub compared_is : {A : Type 0} (text : A → Text) (fits : A → Bool) (guess : Text → A) → ((a : A) → fits a ≡ true → guess (text a) ≡ a) → IsLast (guessed text fits guess)
compared_is {A = A} text fits guess h = record {
  reads = λ a f. ap (λ b. compared text fits b (text a)) (h a f) ∙ ap (λ b. if b then Some a else None) (and_both _ _ f (bytes_refl (text a)));
  spells = λ w a e. go (guess w) w a (fits (guess w) && bytes_eq (text (guess w)) w) refl e;
}
  where
    go : (g : A) (w : Text) (a : A) (b : Bool) → fits g && bytes_eq (text g) w ≡ b → (if b then Some g else None) ≡ Some a → (w ≡ text a) × (fits a ≡ true)
    go g w a true e h =
        let x : g ≡ a = some_same g a h in
        (sym ((bytes_eq-Decides (text g) w).0 (and_second (fits g) _ e)) ∙ ap text x, ap fits (sym x) ∙ and_first _ _ e)
    go g w a false e h = absurd cc

-- one of several forms: what is read so far is spelled so and fits
abbrev pub Told : {A : Type 0} → (A → Text) → (A → Bool) → Text → Option A → Type 0
Told text fits t None = Unit {0}
Told text fits t (Some a) = (t ≡ text a) × (fits a ≡ true)

pub told_some : {A : Type 0} (text : A → Text) (fits : A → Bool) (t : Text) (a : A) (o : Option A) → o ≡ Some a → Told text fits t o → (t ≡ text a) × (fits a ≡ true)
told_some text fits t a o e h = let P = Told text fits t in subst P e h

pub told_or : {T A : Type 0} (text : A → Text) (fits : A → Bool) (f : Last T) (i : IsLast f) (mk : T → A) (t : Text) (more : Option A) → ((x : T) → f.text x ≡ text (mk x)) → ((x : T) → fits (mk x) ≡ f.fits x) → Told text fits t more → Told text fits t (option_or (option_map mk (f.read t)) more)
told_or {T = T} text fits f i mk t more a b m = go (f.read t) refl
  where
    go : (o : Option T) → f.read t ≡ o → Told text fits t (option_or (option_map mk o) more)
    go None e = m
    go (Some x) e = let s = i.spells t x e in (s.0 ∙ a x, b x ∙ s.1)

pub or_some : {T A : Type 0} (o : Option T) (mk : T → A) (x : T) (more : Option A) → o ≡ Some x → option_or (option_map mk o) more ≡ Some (mk x)
or_some o mk x more e = ap (λ o. option_or (option_map mk o) more) e

pub or_none : {T A : Type 0} (o : Option T) (mk : T → A) (more : Option A) → o ≡ None → option_or (option_map mk o) more ≡ more
or_none o mk more e = ap (λ o. option_or (option_map mk o) more) e

pub told_fixed : {A : Type 0} (text : A → Text) (fits : A → Bool) (w : Text) (a : A) (t : Text) (more : Option A) → w ≡ text a → fits a ≡ true → Told text fits t more → Told text fits t (option_or (fixed w a t) more)
told_fixed text fits w a t more e f m = go (strip w t) refl
  where
    go : (o : Option Text) → strip w t ≡ o → Told text fits t (option_or (done_at a o) more)
    go None s = m
    go (Some []) s = (strip_spells w t [] s ∙ append-nil w ∙ e, f)
    go (Some (b ∷ r)) s = m

-- the same for a text before others
abbrev pub ToldFront : {A : Type 0} → (A → Text → Text) → (A → Bool) → Text → Option (A × Text) → Type 0
ToldFront text fits t None = Unit {0}
ToldFront text fits t (Some p) = (t ≡ text p.0 p.1) × (fits p.0 ≡ true)

pub told_front_some : {A : Type 0} (text : A → Text → Text) (fits : A → Bool) (t : Text) (p : A × Text) (o : Option (A × Text)) → o ≡ Some p → ToldFront text fits t o → (t ≡ text p.0 p.1) × (fits p.0 ≡ true)
told_front_some text fits t p o e h = let P = ToldFront text fits t in subst P e h

pub told_front_or : {T A : Type 0} (text : A → Text → Text) (fits : A → Bool) (f : Front T) (i : IsFront f) (mk : T → A) (t : Text) (more : Option (A × Text)) → ((x : T) (r : Text) → f.text x r ≡ text (mk x) r) → ((x : T) → fits (mk x) ≡ f.fits x) → ToldFront text fits t more → ToldFront text fits t (option_or (option_map (λ p. (mk p.0, p.1)) (f.read t)) more)
told_front_or {T = T} text fits f i mk t more a b m = go (f.read t) refl
  where
    go : (o : Option (T × Text)) → f.read t ≡ o → ToldFront text fits t (option_or (option_map (λ p. (mk p.0, p.1)) o) more)
    go None e = m
    go (Some p) e = let s = i.spells t p.0 p.1 e in (s.0 ∙ a p.0 p.1, b p.0 ∙ s.1)

-- where the second form isn't read, neither are both
pub follow_none : {A B : Type 0} (f : Front A) (l : Last B) → IsFront f → (a : A) (t : Text) → f.fits a ≡ true → l.read t ≡ None → (follow f l).read (f.text a t) ≡ None
follow_none f l i a t h e =
    ap (option_and_then (λ q. option_map (λ b. (q.0, b)) (l.read q.1))) (i.reads a t h) ∙ ap (option_map (λ b. (a, b))) e

pub both_none : {A B : Type 0} (f : Front A) (g : Front B) → IsFront f → (a : A) (t : Text) → f.fits a ≡ true → g.read t ≡ None → (both f g).read (f.text a t) ≡ None
both_none f g i a t h e =
    ap (option_and_then (λ q. option_map (λ r. ((q.0, r.0), r.1)) (g.read q.1))) (i.reads a t h) ∙ ap (option_map (λ r. ((a, r.0), r.1))) e

pub after_none : {A : Type 0} (w : Text) (l : Last A) (t : Text) → l.read t ≡ None → (after w l).read (w ++ t) ≡ None
after_none w l t e = ap (option_and_then l.read) (strip_text w t) ∙ e

pub before_none : {A : Type 0} (w : Text) (f : Front A) (t : Text) → f.read t ≡ None → (before w f).read (w ++ t) ≡ None
before_none w f t e = ap (option_and_then f.read) (strip_text w t) ∙ e
