-- Of the answers to how bytes are divided into sections at most one is true.
use Rattle.std.proofs.Common.{◌≡◌, ℕ, zero, suc, ◌+◌, ◌<◌, List, [], ◌∷◌, length, map, take, Result, Ok, Err, refl, sym, ap, subst, ◌∙◌, arith, inl, inr}
use Rattle.std.specs.Prelude.{MatchResult, IfOk}
use Rattle.std.proofs.lemmas.Bool.{cases_lt}
use Rattle.std.proofs.lemmas.List.{take-take}
use Rattle.wm_ast.specs.Section.{Section, IsRising, IsFramed}
use Rattle.wm_frame.specs.Framing.{section_of, AreWhole, IsBroken, IsFirstAstray, AreFramesOf}
use Rattle.wm_frame.specs.declared.fault.FrameFault.{FrameFault}
use Rattle.wm_frame.specs.declared.fault.FrameFault.TheVariants as faults
use Rattle.wm_frame.specs.declared.section.Frame.{Frame}
use Rattle.wm_frame.proofs.FramingLaws.{stops_at_end, stops_where_broken, one_division, framed_whole, whole_framed}

-- a front of sections in order is in order
pub rising_front : (last n : ℕ) (ss : List Section) → IsRising last ss → IsRising last (take n ss)
rising_front last zero ss r = tt
rising_front last (suc n) [] r = tt
rising_front last (suc n) (s ∷ ss) (inl r) = inl (r.0, rising_front last n ss r.1)
rising_front last (suc n) (s ∷ ss) (inr r) = inr (r.0, rising_front s.id n ss r.1)

-- sections of which one is astray aren't in order
pub not_rising : (ss : List Section) (i : ℕ) → IsFirstAstray ss i → IsRising 0 ss → ⊥
not_rising ss i a r = a.astray (rising_front 0 (i + 1) ss r)

-- at most one section is the first astray
earlier : (ss : List Section) (i j : ℕ) → IsFirstAstray ss i → IsFirstAstray ss j → i < j → ⊥
earlier ss i j a b lt =
    a.astray (subst (IsRising 0) (take-take (i + 1) j ss (omega arith)) (rising_front 0 (i + 1) (take j ss) b.before))

pub one_astray : (ss : List Section) (i j : ℕ) → IsFirstAstray ss i → IsFirstAstray ss j → i ≡ j
one_astray ss i j a b =
    elim (cases_lt i j) [
      | inl lt ↦ absurd (earlier ss i j a b lt)
      | inr ge ↦ elim (cases_lt j i) [
        | inl lt ↦ absurd (earlier ss j i b a lt)
        | inr le ↦ omega arith
      ]
    ]

whole_twice : (bytes : List ℕ) (fs gs : List Frame) → AreWhole bytes fs → AreWhole bytes gs → fs ≡ gs
whole_twice bytes fs gs p q = (one_division bytes 8 (length bytes) (length bytes) fs gs p.1 q.1 (stops_at_end bytes) (stops_at_end bytes)).0

whole_not_broken : (bytes : List ℕ) (fs : List Frame) (at : ℕ) → AreWhole bytes fs → IsBroken bytes at → ⊥
whole_not_broken bytes fs at p b =
    let e = (one_division bytes 8 (length bytes) at fs b.before p.1 b.whole (stops_at_end bytes) (stops_where_broken bytes at b.none)).1 in
    absurd (omega (arith, e, b.more))

broken_once : (bytes : List ℕ) (i j : ℕ) → IsBroken bytes i → IsBroken bytes j → i ≡ j
broken_once bytes i j a b = (one_division bytes 8 i j a.before b.before a.whole b.whole (stops_where_broken bytes i a.none) (stops_where_broken bytes j b.none)).1

sorted : (bytes : List ℕ) (fs gs : List Frame) (i : ℕ) → AreWhole bytes fs → AreWhole bytes gs → IsRising 0 (map (section_of bytes) fs) → IsFirstAstray (map (section_of bytes) gs) i → ⊥
sorted bytes fs gs i p q r a =
    not_rising (map (section_of bytes) gs) i a (subst (λ (hs : List Frame). IsRising 0 (map (section_of bytes) hs)) (whole_twice bytes fs gs p q) r)

abbrev Answer : Type 0
Answer = Result (List Frame) FrameFault

pub one_answer : (bytes : List ℕ) (r s : Answer) → AreFramesOf bytes r → AreFramesOf bytes s → (r ≡ Err faults.Memory → ⊥) → (s ≡ Err faults.Memory → ⊥) → r ≡ s
one_answer bytes (Ok fs) (Ok gs) p q u v = ap Ok (whole_twice bytes fs gs p.0 q.0)
one_answer bytes (Ok fs) (Err faults.NotWasm) p q u v = absurd (q p.0.0)
one_answer bytes (Ok fs) (Err (faults.BadFrame j)) p q u v = absurd (whole_not_broken bytes fs j p.0 q)
one_answer bytes (Ok fs) (Err (faults.BadOrder j)) p q u v = absurd (sorted bytes fs q.0 j p.0 q.1 p.1 q.2)
one_answer bytes (Err faults.NotWasm) (Ok gs) p q u v = absurd (p q.0.0)
one_answer bytes (Err faults.NotWasm) (Err faults.NotWasm) p q u v = refl
one_answer bytes (Err faults.NotWasm) (Err (faults.BadFrame j)) p q u v = absurd (p q.begins)
one_answer bytes (Err faults.NotWasm) (Err (faults.BadOrder j)) p q u v = absurd (p q.1.0)
one_answer bytes (Err (faults.BadFrame i)) (Ok gs) p q u v = absurd (whole_not_broken bytes gs i q.0 p)
one_answer bytes (Err (faults.BadFrame i)) (Err faults.NotWasm) p q u v = absurd (q p.begins)
one_answer bytes (Err (faults.BadFrame i)) (Err (faults.BadFrame j)) p q u v = ap (λ k. Err (faults.BadFrame k)) (broken_once bytes i j p q)
one_answer bytes (Err (faults.BadFrame i)) (Err (faults.BadOrder j)) p q u v = absurd (whole_not_broken bytes q.0 i q.1 p)
one_answer bytes (Err (faults.BadOrder i)) (Ok gs) p q u v = absurd (sorted bytes gs p.0 i q.0 p.1 q.1 p.2)
one_answer bytes (Err (faults.BadOrder i)) (Err faults.NotWasm) p q u v = absurd (q p.1.0)
one_answer bytes (Err (faults.BadOrder i)) (Err (faults.BadFrame j)) p q u v = absurd (whole_not_broken bytes p.0 j p.1 q)
one_answer bytes (Err (faults.BadOrder i)) (Err (faults.BadOrder j)) p q u v =
    let e = whole_twice bytes q.0 p.0 q.1 p.1 in
    ap (λ k. Err (faults.BadOrder k)) (one_astray (map (section_of bytes) p.0) i j p.2 (subst (λ (hs : List Frame). IsFirstAstray (map (section_of bytes) hs) j) e q.2))
one_answer bytes (Err faults.Memory) s p q u v = absurd (u refl)
one_answer bytes r (Err faults.Memory) p q u v = absurd (v refl)

-- a true answer on bytes that are sections in order
pub only_answer : (bytes : List ℕ) (r : Answer) → AreFramesOf bytes r → (sections : List Section) → IsFramed sections bytes → IsRising 0 sections → MatchResult r (λ fs. map (section_of bytes) fs ≡ sections) (λ e. e ≡ faults.Memory)
only_answer bytes r p sections framed rising =
    let w = framed_whole bytes sections framed in
    let whole : AreWhole bytes w.1.frames = (w.0, w.1.stand) in
    let sorted' : IsRising 0 (map (section_of bytes) w.1.frames) = subst (IsRising 0) (sym w.1.same) rising in
    by_cases r p w.1.frames whole sorted' w.1.same
  where
    by_cases : (r : Answer) → AreFramesOf bytes r → (gs : List Frame) → AreWhole bytes gs → IsRising 0 (map (section_of bytes) gs) → map (section_of bytes) gs ≡ sections → MatchResult r (λ fs. map (section_of bytes) fs ≡ sections) (λ e. e ≡ faults.Memory)
    by_cases (Ok fs) p gs whole sorted' same = ap (map (section_of bytes)) (whole_twice bytes fs gs p.0 whole) ∙ same
    by_cases (Err faults.NotWasm) p gs whole sorted' same = absurd (p whole.0)
    by_cases (Err (faults.BadFrame i)) p gs whole sorted' same = absurd (whole_not_broken bytes gs i whole p)
    by_cases (Err (faults.BadOrder i)) p gs whole sorted' same = absurd (sorted bytes gs p.0 i whole p.1 sorted' p.2)
    by_cases (Err faults.Memory) p gs whole sorted' same = refl

pub answer_framed : (bytes : List ℕ) (r : Answer) → AreFramesOf bytes r → IfOk r (λ fs. IsFramed (map (section_of bytes) fs) bytes)
answer_framed bytes (Ok fs) p = whole_framed bytes fs p.0
answer_framed bytes (Err e) p = tt
