-- What stands at one place of the bytes, and one step through the order of sections.
use Rattle.std.proofs.Common.{◌≡◌, ◌≢◌, ℕ, ◌+◌, ◌-◌, ◌<◌, ◌≤◌, List, [], ◌∷◌, ◌++◌, length, map, take, drop, get_or, sym, ap, subst, ◌∙◌, arith, append_assoc, length-append, inl, inr}
use Rattle.std.specs.Prelude.{slice_range}
use Rattle.std.proofs.lemmas.List.{append-nil, append_cancel_right, drop-drop, drop_more, take-append-drop, take_rest, take_all, take_more, length-drop, length-map, get_or-map}
use Rattle.std.proofs.lemmas.List.Folds.{drop_split}
use Rattle.wm_ast.specs.Number.{IsUnsigned}
use Rattle.wm_ast.specs.Section.{Section, SpellsSection, IsRising}
use Rattle.wm_frame.specs.Framing.{section_of, IsFrameAt, IsFirstAstray}
use Rattle.wm_frame.specs.Front.{NoneAtFront, Unsigned}
use Rattle.wm_frame.specs.Reading.{unsigned_at}
use Rattle.wm_frame.specs.declared.section.Frame.{Frame}
use Rattle.wm_frame.proofs.NumberLaws.{unsigned_reads}
use Rattle.wm_frame.proofs.Readers.{one_front}

-- the number that a cursor passed, and what follows it
record Passed (bytes : List ℕ) (from to : ℕ) : Type 0 where
  number : List ℕ
  is : take (to - from) (take (length bytes - from) (drop from bytes)) ≡ number
  parts : drop from bytes ≡ number ++ drop to bytes

passed : (bytes : List ℕ) (from to : ℕ) → from ≤ to → Passed bytes from to
passed bytes from to le =
    let r : take (length bytes - from) (drop from bytes) ≡ drop from bytes = take_rest bytes from in
    let e : from + (to - from) ≡ to = omega arith in
    let d : drop (to - from) (drop from bytes) ≡ drop to bytes = drop-drop (to - from) from bytes ∙ ap (λ i. drop i bytes) e in
    record {
      number = take (to - from) (drop from bytes);
      is = ap (take (to - from)) r;
      parts = sym (take-append-drop (to - from) (drop from bytes)) ∙ ap (λ (l : List ℕ). take (to - from) (drop from bytes) ++ l) d;
    }

-- a section of an id, a size and so many bytes
pub is_frame : (bytes : List ℕ) (at id from size : ℕ) → at < length bytes → id ≡ get_or bytes at 0 → id ≤ 11 → at + 1 < from
    → IsUnsigned 32 (take (from - (at + 1)) (take (length bytes - (at + 1)) (drop (at + 1) bytes))) size → from + size ≤ length bytes → IsFrameAt bytes at (record { id = id; start = from; end = from + size })
is_frame bytes at id from size lt first low past spelled within =
    let p = passed bytes (at + 1) from (omega arith) in
    let end = from + size in
    let content = slice_range bytes from end in
    let c : drop from bytes ≡ content ++ drop end bytes = drop_split bytes from end (omega arith) in
    let n : length content ≡ size = (let l = ap length c ∙ length-append content (drop end bytes) in omega (arith, l, length-drop from bytes, length-drop end bytes)) in
    let front : drop at bytes ≡ id ∷ drop (at + 1) bytes = drop_more bytes at 0 lt ∙ ap (λ i. i ∷ drop (at + 1) bytes) (sym first) in
    let whole : drop at bytes ≡ (id ∷ (p.number ++ content)) ++ drop end bytes =
    front ∙ ap (λ (l : List ℕ). id ∷ l) (p.parts ∙ ap (λ (l : List ℕ). p.number ++ l) c ∙ sym (append_assoc p.number content (drop end bytes))) in
    let range : slice_range bytes at end ≡ id ∷ (p.number ++ content) = append_cancel_right (slice_range bytes at end) (id ∷ (p.number ++ content)) (drop end bytes) (sym (drop_split bytes at end (omega arith)) ∙ whole) in
    let number : IsUnsigned 32 p.number (length content) = subst (IsUnsigned 32 p.number) (sym n) (subst (λ (l : List ℕ). IsUnsigned 32 l size) p.is spelled) in
    record { ordered = omega arith; within = within; past = omega arith; spells = (p.number, low, number, range) }

-- a section at a place: its id is the byte there, and its size follows
record Begins (bytes : List ℕ) (at : ℕ) (s : Section) (size rest : List ℕ) : Type 0 where
  first : get_or bytes at 0 ≡ s.id
  others : drop (at + 1) bytes ≡ size ++ (s.content ++ rest)

begins : (bytes : List ℕ) (at : ℕ) (s : Section) (front rest : List ℕ) → at < length bytes → (g : SpellsSection s front) → drop at bytes ≡ front ++ rest → Begins bytes at s g.0 rest
begins bytes at s front rest lt g parts =
    let e : get_or bytes at 0 ∷ drop (at + 1) bytes ≡ s.id ∷ (g.0 ++ (s.content ++ rest)) =
    sym (drop_more bytes at 0 lt) ∙ parts ∙ ap (λ (l : List ℕ). l ++ rest) g.3 ∙ ap (λ (l : List ℕ). s.id ∷ l) (append_assoc g.0 s.content rest) in
    record { first = cc; others = cc }

pub no_id : (bytes : List ℕ) (at : ℕ) → at < length bytes → 11 < get_or bytes at 0 → NoneAtFront SpellsSection (drop at bytes)
no_id bytes at lt above s front rest g parts =
    let b = begins bytes at s front rest lt g parts in
    absurd (omega (arith, b.first, g.1))

pub no_size : (bytes : List ℕ) (at : ℕ) → at < length bytes → NoneAtFront (λ n front. IsUnsigned 32 front n) (take (length bytes - (at + 1)) (drop (at + 1) bytes)) → NoneAtFront SpellsSection (drop at bytes)
no_size bytes at lt none s front rest g parts =
    let b = begins bytes at s front rest lt g parts in
    none (length s.content) g.0 (s.content ++ rest) g.2 (take_rest bytes (at + 1) ∙ b.others)

pub too_short : (bytes : List ℕ) (at from size : ℕ) → at < length bytes → at + 1 ≤ from → IsUnsigned 32 (take (from - (at + 1)) (take (length bytes - (at + 1)) (drop (at + 1) bytes))) size → length bytes - from < size
    → NoneAtFront SpellsSection (drop at bytes)
too_short bytes at from size lt le spelled short s front rest g parts =
    let b = begins bytes at s front rest lt g parts in
    let p = passed bytes (at + 1) from le in
    let o = one_front (Unsigned 32) (unsigned_at 32) (unsigned_reads 32) size (length s.content) p.number g.0 (drop from bytes) (s.content ++ rest)
    (subst (λ (l : List ℕ). IsUnsigned 32 l size) p.is spelled) g.2 (sym p.parts ∙ b.others) in
    let l = sym (length-drop from bytes) ∙ ap length o.rest ∙ length-append s.content rest in
    absurd (omega (arith, l, o.value))

-- The sections up to a place are in order, and what follows them is so where it is above the last id.
pub record Continues (ss : List Section) (i last : ℕ) : Type 0 where
  pub into : (rest : List Section) → IsRising last rest → IsRising 0 (take i ss ++ rest)
  pub back : (rest : List Section) → IsRising 0 (take i ss ++ rest) → IsRising last rest

pub continues_first : (ss : List Section) → Continues ss 0 0
continues_first ss = record { into = λ rest r. r; back = λ rest r. r }

-- the sections with that of one more frame
pub one_more : (bytes : List ℕ) (fs : List Frame) (i : ℕ) (f : Frame) (rest : List Section) → i < length fs → f ≡ get_or fs i f → take (i + 1) (map (section_of bytes) fs) ++ rest ≡ take i (map (section_of bytes) fs) ++ (section_of bytes f ∷ rest)
one_more bytes fs i f rest lt is =
    let ss = map (section_of bytes) fs in
    let s = section_of bytes f in
    let long : i < length ss = omega (arith, length-map fs (section_of bytes)) in
    let e : get_or ss i s ≡ s = get_or-map (section_of bytes) fs i f s lt ∙ ap (section_of bytes) (sym is) in
    let m : take (i + 1) ss ≡ take i ss ++ s ∷ [] = take_more ss i s long ∙ ap (λ (t : Section). take i ss ++ t ∷ []) e in
    ap (λ (l : List Section). l ++ rest) m ∙ append_assoc (take i ss) (s ∷ []) rest

pub continues_custom : (bytes : List ℕ) (fs : List Frame) (i last : ℕ) (f : Frame) → i < length fs → f ≡ get_or fs i f → f.id ≡ 0 → Continues (map (section_of bytes) fs) i last → Continues (map (section_of bytes) fs) (i + 1) last
continues_custom bytes fs i last f lt is custom w = record {
  into = λ rest r. subst (IsRising 0) (sym (one_more bytes fs i f rest lt is)) (w.into (section_of bytes f ∷ rest) (inl (custom, r)));
  back = λ rest r. of rest (w.back (section_of bytes f ∷ rest) (subst (IsRising 0) (one_more bytes fs i f rest lt is) r));
}
  where
    of : (rest : List Section) → IsRising last (section_of bytes f ∷ rest) → IsRising last rest
    of rest (inl r) = r.1
    of rest (inr r) = absurd (omega (arith, r.0))

pub continues_above : (bytes : List ℕ) (fs : List Frame) (i last : ℕ) (f : Frame) → i < length fs → f ≡ get_or fs i f → last < f.id → Continues (map (section_of bytes) fs) i last → Continues (map (section_of bytes) fs) (i + 1) f.id
continues_above bytes fs i last f lt is above w = record {
  into = λ rest r. subst (IsRising 0) (sym (one_more bytes fs i f rest lt is)) (w.into (section_of bytes f ∷ rest) (inr (above, r)));
  back = λ rest r. of rest (w.back (section_of bytes f ∷ rest) (subst (IsRising 0) (one_more bytes fs i f rest lt is) r));
}
  where
    of : (rest : List Section) → IsRising last (section_of bytes f ∷ rest) → IsRising f.id rest
    of rest (inl r) = absurd (omega (arith, r.0))
    of rest (inr r) = r.1

pub is_astray : (bytes : List ℕ) (fs : List Frame) (i last : ℕ) (f : Frame) → i < length fs → f ≡ get_or fs i f → f.id ≢ 0 → f.id ≤ last → Continues (map (section_of bytes) fs) i last → IsFirstAstray (map (section_of bytes) fs) i
is_astray bytes fs i last f lt is other low w =
    let ss = map (section_of bytes) fs in
    record {
      stands = omega (arith, length-map fs (section_of bytes));
      before = subst (IsRising 0) (append-nil (take i ss)) (w.into [] tt);
      astray = λ r. of (w.back (section_of bytes f ∷ []) (subst (IsRising 0) (one_more bytes fs i f [] lt is) (subst (IsRising 0) (sym (append-nil (take (i + 1) ss))) r)));
    }
  where
    of : IsRising last (section_of bytes f ∷ []) → ⊥
    of (inl r) = other r.0
    of (inr r) = absurd (omega (arith, r.0))

pub is_rising : (ss : List Section) (i last : ℕ) → length ss ≤ i → Continues ss i last → IsRising 0 ss
is_rising ss i last le w = subst (IsRising 0) (append-nil (take i ss) ∙ take_all i ss le) (w.into [] tt)
