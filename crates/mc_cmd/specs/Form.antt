-- Forms: how the values of some kind are spelled, which of them may be spelled, and how a text is read.
use Rattle.std.specs.Prelude.{ℕ, ◌-◌, List, [], ◌∷◌, ◌++◌, length, take, drop, Bool, true, false, ◌&&◌, nat_eq}
use Rattle.std.specs.Prelude.{if◌then◌else◌, Option, Some, None, option_map, option_and_then}
use Rattle.std.specs.Str.{bytes_eq}

-- a text, as the list of its bytes
abbrev pub Text : Type 0
Text = List ℕ

-- a form whose text is all of what is left
pub record Last (A : Type 0) : Type 0 where
  pub text : A → Text
  pub fits : A → Bool
  pub read : Text → Option A

-- a form whose text stands before others; `text` is told with what follows it
pub record Front (A : Type 0) : Type 0 where
  pub text : A → Text → Text
  pub fits : A → Bool
  pub read : Text → Option (A × Text)

-- what follows a fixed text, where the text begins so
abbrev pub only_if : Bool → Option Text → Option Text
only_if true o = o
only_if false o = None

abbrev pub strip : Text → Text → Option Text
strip [] t = Some t
strip (a ∷ w) [] = None
strip (a ∷ w) (b ∷ t) = only_if (nat_eq a b) (strip w t)

-- what stands before a fixed text, where the text ends so
abbrev pub strip_end : Text → Text → Option Text
strip_end w t = if bytes_eq (drop (length t - length w) t) w then Some (take (length t - length w) t) else None

-- the bytes before the first separator, and those behind it
abbrev pub cut_here : Bool → ℕ → Text → Option (Text × Text) → Option (Text × Text)
cut_here true b t o = Some ([], t)
cut_here false b t o = option_map (λ p. (b ∷ p.0, p.1)) o

abbrev pub cut_at : ℕ → Text → Option (Text × Text)
cut_at c [] = None
cut_at c (b ∷ t) = cut_here (nat_eq b c) b t (cut_at c t)

abbrev pub lacks : ℕ → Text → Bool
lacks c [] = true
lacks c (b ∷ t) = if nat_eq b c then false else lacks c t

-- a text that passes a test, as it stands
abbrev pub word : (Text → Bool) → Last Text
word p = record { text = λ w. w; fits = p; read = λ w. if p w then Some w else None }

-- a word and the space behind it
abbrev pub with_rest : {A : Type 0} → Option A → Text → Option (A × Text)
with_rest o t = option_map (λ a. (a, t)) o

abbrev pub spaced : {A : Type 0} → Last A → Front A
spaced l = record {
  text = λ a t. l.text a ++ (32 ∷ t);
  fits = l.fits;
  read = λ t. option_and_then (λ p. with_rest (l.read p.0) p.1) (cut_at 32 t);
}

-- a form behind a fixed text
abbrev pub after : {A : Type 0} → Text → Last A → Last A
after w l = record { text = λ a. w ++ l.text a; fits = l.fits; read = λ t. option_and_then l.read (strip w t) }

-- a form before a fixed text
abbrev pub ended : {A : Type 0} → Last A → Text → Last A
ended l w = record { text = λ a. l.text a ++ w; fits = l.fits; read = λ t. option_and_then l.read (strip_end w t) }

-- a front behind a fixed text; before a fixed text; one front and then another
abbrev pub before : {A : Type 0} → Text → Front A → Front A
before w f = record { text = λ a t. w ++ f.text a t; fits = f.fits; read = λ t. option_and_then f.read (strip w t) }

abbrev pub closed : {A : Type 0} → Front A → Text → Front A
closed f w = record {
  text = λ a t. f.text a (w ++ t);
  fits = f.fits;
  read = λ t. option_and_then (λ p. option_map (λ r. (p.0, r)) (strip w p.1)) (f.read t);
}

abbrev pub both : {A B : Type 0} → Front A → Front B → Front (A × B)
both f g = record {
  text = λ p t. f.text p.0 (g.text p.1 t);
  fits = λ p. f.fits p.0 && g.fits p.1;
  read = λ t. option_and_then (λ p. option_map (λ q. ((p.0, q.0), q.1)) (g.read p.1)) (f.read t);
}

-- one form and then another
abbrev pub follow : {A B : Type 0} → Front A → Last B → Last (A × B)
follow f l = record {
  text = λ p. f.text p.0 (l.text p.1);
  fits = λ p. f.fits p.0 && l.fits p.1;
  read = λ t. option_and_then (λ p. option_map (λ b. (p.0, b)) (l.read p.1)) (f.read t);
}

-- a value by a guess that is compared: the guess may be anything where the text spells nothing
abbrev pub compared : {A : Type 0} → (A → Text) → (A → Bool) → A → Text → Option A
compared text fits a w = if fits a && bytes_eq (text a) w then Some a else None

abbrev pub guessed : {A : Type 0} → (A → Text) → (A → Bool) → (Text → A) → Last A
guessed text fits guess = record { text = text; fits = fits; read = λ w. compared text fits (guess w) w }

-- a form whose text is fixed
abbrev pub done_at : {A : Type 0} → A → Option Text → Option A
done_at a None = None
done_at a (Some []) = Some a
done_at a (Some (b ∷ t)) = None

abbrev pub fixed : {A : Type 0} → Text → A → Text → Option A
fixed w a t = done_at a (strip w t)
