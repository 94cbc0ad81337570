-- Answers that are printed as one line are alike.
use Rattle.std.proofs.Common.{◌≡◌, ◌∙◌, ap, refl, sym, ℕ, ◌+◌, ◌*◌, [], ◌∷◌, Option, Some, None, arith}
use Rattle.std.proofs.lemmas.List.{append_cancel_right}
use Rattle.mc_nbt.specs.declared.value.Value.{Value}
use Rattle.mc_cmd.specs.Form.{Text}
use Rattle.mc_cmd.specs.Layout.{Answer, new, running, done, trap, dead}
use Rattle.app_words.specs.Lines.{shown, trap_name, value_text}
use Rattle.app_tell.specs.Law.{IsAlike}

-- the first two letters of a line, in which answers of two kinds differ
abbrev mark : Text → ℕ
mark [] = 0
mark (a ∷ []) = 0
mark (a ∷ b ∷ t) = a * 256 + b

abbrev mark_of : Answer → ℕ
mark_of new = 28261
mark_of running = 29301
mark_of (done v) = 25711
mark_of (trap n) = 29810
mark_of (dead n) = 25701

marked : (a : Answer) → mark (shown (Some a)) ≡ mark_of a
marked new = refl
marked running = refl
marked (done None) = refl
marked (done (Some v)) = refl
marked (trap n) = refl
marked (dead n) = refl

-- what stands behind five letters, and the fifth of them
abbrev behind : Text → Text
behind (a ∷ b ∷ c ∷ d ∷ e ∷ t) = t
behind t = t

abbrev fifth : Text → ℕ
fifth (a ∷ b ∷ c ∷ d ∷ e ∷ t) = e
fifth t = 0

done_alike : (v w : Option Value) → shown (Some (done v)) ≡ shown (Some (done w)) → IsAlike (done v) (done w)
done_alike None None e = tt
done_alike None (Some w) e = let f : 10 ≡ 32 = ap fifth e in absurd (omega (arith, f))
done_alike (Some v) None e = let f : 32 ≡ 10 = ap fifth e in absurd (omega (arith, f))
done_alike (Some v) (Some w) e = append_cancel_right (value_text v) (value_text w) (10 ∷ []) (ap behind e)

pub shown_alike : (a b : Answer) → shown (Some a) ≡ shown (Some b) → IsAlike a b
shown_alike new new e = tt
shown_alike running running e = tt
shown_alike (done v) (done w) e = done_alike v w e
shown_alike (trap n) (trap k) e = append_cancel_right (trap_name n) (trap_name k) (10 ∷ []) (ap behind e)
shown_alike (dead n) (dead k) e = tt
shown_alike a b e = let f : mark_of a ≡ mark_of b = sym (marked a) ∙ ap mark e ∙ marked b in absurd (omega (arith, f))
