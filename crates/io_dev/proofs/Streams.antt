-- Streams that are read and written in pieces.
use Rattle.std.proofs.Common.{◌≡◌, ◌∙◌, sym, ap, refl, subst, ℕ, List, ◌++◌, length, take, drop, Option, arith}
use Rattle.std.proofs.KnownBytes.{Appends-trans, Appends-kept}
use Rattle.std.proofs.lemmas.List.{append_assoc, take-append-drop, take_all, take_at}
use Rattle.std.specs.Io.KnownBytes.{Appends, Keeps}
use Rattle.io_dev.specs.Stream.{AppendsPrefix}

-- some first bytes were written, and the rest of them is left
pub record Wrote (old new : Option (List ℕ)) (bytes rest : List ℕ) : Type 0 where
  pub done : List ℕ
  pub split : bytes ≡ done ++ rest
  pub appended : Appends old new done

-- one more piece is written
pub wrote_more : (old middle new : Option (List ℕ)) (bytes rest : List ℕ) (count : ℕ) → Wrote old middle bytes rest → Appends middle new (take count rest) → Wrote old new bytes (drop count rest)
wrote_more old middle new bytes rest count before piece = record {
  done = before.done ++ take count rest;
  split = before.split ∙ ap (λ tail. before.done ++ tail) (sym (take-append-drop count rest)) ∙ sym (append_assoc before.done (take count rest) (drop count rest));
  appended = Appends-trans old middle new before.done (take count rest) before.appended piece;
}

-- a call that keeps what is written
pub wrote_kept : (old middle new : Option (List ℕ)) (bytes rest : List ℕ) → Wrote old middle bytes rest → Keeps middle new → Wrote old new bytes rest
wrote_kept old middle new bytes rest before keeps =
    record { done = before.done; split = before.split; appended = Appends-kept old middle new before.done before.appended keeps }

-- what is written is a prefix
pub wrote_prefix : (old new : Option (List ℕ)) (bytes rest : List ℕ) → Wrote old new bytes rest → AppendsPrefix old new bytes
wrote_prefix old new bytes rest wrote =
    (length wrote.done, subst (λ text. Appends old new text) (sym (ap (take (length wrote.done)) wrote.split ∙ take_at wrote.done rest (length wrote.done) refl)) wrote.appended)

-- the whole is a prefix
pub whole_prefix : (old new : Option (List ℕ)) (bytes : List ℕ) → Appends old new bytes → AppendsPrefix old new bytes
whole_prefix old new bytes appends =
    (length bytes, subst (λ text. Appends old new text) (sym (take_all (length bytes) bytes (omega arith))) appends)
