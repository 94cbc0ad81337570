-- The text of `pack.mcmeta`, and its beginnings.
use Rattle.std.proofs.Common.{◌≡◌, sym, ap, subst, refl, length, ℕ, zero, suc, ◌<◌, Bool, true, false, ◌&&◌, Option, Some, None, take, codes, arith}
use Rattle.std.specs.Prelude.{is_none, if◌then◌else◌}
use Rattle.std.specs.Str.{is_utf8, chars}
use Rattle.std.specs.Fmt.{digits}
use Rattle.serde_json.specs.Data.{Data}
use Rattle.serde_json.specs.Read.{read}
use Rattle.serde_json.specs.Written.{compact_text}
use Rattle.serde_json.proofs.OnLiterals.{serde_json_on_literals}
use Rattle.std.proofs.lemmas.Bool.{eqb-true}
use Rattle.std.specs.Prelude.{nat_eq}
use Rattle.mc_cmd.specs.Form.{Text}
use Rattle.pk_files.specs.Json.{json_said, meta_data, meta_in, meta_said}

abbrev pub meta_text : Text
meta_text = codes "{\"pack\":{\"description\":\"dpwasm\",\"pack_format\":26}}"

pub text_is : compact_text meta_data ≡ meta_text
unfolding serde_json_on_literals digits
text_is = refl

pub read_is : read meta_text ≡ Some meta_data
unfolding serde_json_on_literals
read_is = refl

pub is_text : is_utf8 meta_text ≡ true
unfolding serde_json_on_literals is_utf8 chars
is_text = refl

are_refused : ℕ → Bool
are_refused zero = true
are_refused (suc n) = is_none (read (take n meta_text)) && are_refused n

all_refused : are_refused 50 ≡ true
unfolding serde_json_on_literals are_refused
all_refused = refl

both_true : (a b : Bool) → (a && b) ≡ true → (a ≡ true) × (b ≡ true)
both_true true b e = (refl, e)
both_true false b e = absurd cc

is_refused : {A : Type 0} (o : Option A) → is_none o ≡ true → o ≡ None
is_refused None e = refl
is_refused (Some a) e = absurd cc

under_a : (b : Bool) (o : Option Data) → o ≡ None → meta_in (if b then o else None) ≡ false
under_a true o e = rw e refl
under_a false o e = refl

below : (m n : ℕ) → are_refused m ≡ true → n < m → read (take n meta_text) ≡ None
unfolding are_refused
below zero n e lt = absurd (omega arith)
below (suc m) n e lt =
    let parts = both_true (is_none (read (take m meta_text))) (are_refused m) e in
    (elim (nat_eq n m) as (λ b. nat_eq n m ≡ b → read (take n meta_text) ≡ None) [
      | true ↦ λ same. rw (eqb-true n m same) (is_refused _ parts.0)
      | false ↦ λ other. below m n parts.1 (grind arith)
    ]) refl

pub no_beginning : (n : ℕ) → n < 50 → meta_in (json_said (take n meta_text)) ≡ false
no_beginning n lt = under_a (is_utf8 (take n meta_text)) (read (take n meta_text)) (below 50 n all_refused lt)

-- the text is of its form, and none of its proper beginnings is
pub meta_is_said : meta_said (compact_text meta_data) ≡ Some tt
meta_is_said = rw (text_is, is_text, read_is) refl

pub beginning_unsaid : (n : ℕ) → n < length (compact_text meta_data) → meta_said (take n (compact_text meta_data)) ≡ None
beginning_unsaid n = subst (λ (t : Text). n < length t → meta_said (take n t) ≡ None) (sym text_is) (λ lt. ap (λ b. if b then Some tt else None) (no_beginning n lt))
