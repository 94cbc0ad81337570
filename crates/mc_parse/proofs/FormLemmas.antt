-- Two readers of one form read the same.
use Rattle.std.proofs.Common.{◌≡◌, Option, Some, None, refl, sym, ap, ◌∙◌}
use Rattle.mc_cmd.specs.Form.{Text, Last}
use Rattle.mc_cmd.proofs.FormLemmas.{IsLast}

carried : {A : Type 0} (l m : Last A) → IsLast l → IsLast m → ((a : A) → l.text a ≡ m.text a) → ((a : A) → m.fits a ≡ l.fits a) → (t : Text) (a : A) → l.read t ≡ Some a → m.read t ≡ Some a
carried l m i j same fit t a h = let s = i.spells t a h in ap m.read (s.0 ∙ same a) ∙ j.reads a (fit a ∙ s.1)

pub same_reads : {A : Type 0} (l m : Last A) → IsLast l → IsLast m → ((a : A) → l.text a ≡ m.text a) → ((a : A) → m.fits a ≡ l.fits a) → (t : Text) → l.read t ≡ m.read t
same_reads {A = A} l m i j same fit t = go (l.read t) (m.read t) refl refl
  where
    go : (o p : Option A) → l.read t ≡ o → m.read t ≡ p → l.read t ≡ m.read t
    go (Some a) p e f = e ∙ sym (carried l m i j same fit t a e)
    go None None e f = e ∙ sym f
    go None (Some a) e f = carried m l j i (λ a. sym (same a)) (λ a. sym (fit a)) t a f ∙ sym f
