-- Sections at their places: there is one way to divide bytes into them, and it is the grammar's.
use Rattle.std.proofs.Common.{◌≡◌, ℕ, ◌+◌, ◌-◌, ◌<◌, ◌≤◌, List, [], ◌∷◌, ◌++◌, length, map, take, drop, refl, sym, ap, subst, ◌∙◌, arith, append_assoc, length-append}
use Rattle.std.specs.Prelude.{slice_range}
use Rattle.std.proofs.lemmas.List.{append_cancel_right, take_at, drop_at, drop-drop, drop_all, take-append-drop, length-take, length-drop}
use Rattle.std.proofs.lemmas.List.Folds.{drop_split}
use Rattle.wm_ast.specs.Section.{Section, SpellsSection, header, IsFramed}
use Rattle.wm_ast.specs.Vector.{SpellsEach}
use Rattle.wm_frame.specs.Framing.{section_of, IsFrameAt, AreFrames, HasHeader, AreWhole}
use Rattle.wm_frame.specs.Front.{NoneAtFront, Unsigned}
use Rattle.wm_frame.specs.Reading.{unsigned_at}
use Rattle.wm_frame.specs.declared.section.Frame.{Frame}
use Rattle.wm_frame.proofs.NumberLaws.{unsigned_reads}
use Rattle.wm_frame.proofs.Readers.{one_front}

-- the heads and the rests of two equal lists
first_is : (a b : ℕ) (xs ys : List ℕ) → a ∷ xs ≡ b ∷ ys → a ≡ b
first_is a b xs ys e = cc

rest_is : (a b : ℕ) (xs ys : List ℕ) → a ∷ xs ≡ b ∷ ys → xs ≡ ys
rest_is a b xs ys e = cc

-- two lists of one length before others are the same where the whole is
same_length : (a b c d : List ℕ) → length a ≡ length b → a ++ c ≡ b ++ d → (a ≡ b) × (c ≡ d)
same_length a b c d l e =
    let p : a ≡ b = sym (take_at a c (length a) refl) ∙ ap (take (length a)) e ∙ take_at b d (length a) (sym l) in
    let q : c ≡ d = sym (drop_at a c (length a) refl) ∙ ap (drop (length a)) e ∙ drop_at b d (length a) (sym l) in
    (p, q)

same_section : (i j : ℕ) (c d : List ℕ) → i ≡ j → c ≡ d → (let s : Section = record { id = i; content = c } in s) ≡ record { id = j; content = d }
same_section i j c d e f = cc

-- bytes begin with one section at most
pub one_section : (s t : Section) (a b rest more : List ℕ) → SpellsSection s a → SpellsSection t b → a ++ rest ≡ b ++ more → (s ≡ t) × (a ≡ b) × (rest ≡ more)
one_section s t a b rest more g h e =
    let p : s.id ∷ (g.0 ++ (s.content ++ rest)) ≡ t.id ∷ (h.0 ++ (t.content ++ more)) =
    ap (λ (l : List ℕ). s.id ∷ l) (sym (append_assoc g.0 s.content rest)) ∙ sym (ap (λ (l : List ℕ). l ++ rest) g.3) ∙ e ∙ ap (λ (l : List ℕ). l ++ more) h.3 ∙ ap (λ (l : List ℕ). t.id ∷ l) (append_assoc h.0 t.content more) in
    let ids : s.id ≡ t.id = first_is s.id t.id _ _ p in
    let sizes = one_front (Unsigned 32) (unsigned_at 32) (unsigned_reads 32) (length s.content) (length t.content) g.0 h.0 (s.content ++ rest) (t.content ++ more) g.2 h.2 (rest_is s.id t.id _ _ p) in
    let parts = same_length s.content t.content rest more sizes.value sizes.rest in
    let same : s ≡ t = same_section s.id t.id s.content t.content ids parts.0 in
    let all : a ++ rest ≡ b ++ rest = subst (λ (l : List ℕ). a ++ rest ≡ b ++ l) (sym parts.1) e in
    (same, append_cancel_right a b rest all, parts.1)

-- a spelling of a section isn't empty
not_empty : (s : Section) → SpellsSection s [] → ⊥
not_empty s g = let e = g.3 in cc

-- what stands at a place and what follows
split_at : (bytes : List ℕ) (at end : ℕ) → at ≤ end → drop at bytes ≡ slice_range bytes at end ++ drop end bytes
split_at bytes at end le = drop_split bytes at end le

length_range : (bytes : List ℕ) (at end : ℕ) → at ≤ end → end ≤ length bytes → length (slice_range bytes at end) ≡ end - at
length_range bytes at end le within =
    let e = ap length (split_at bytes at end le) ∙ length-append (slice_range bytes at end) (drop end bytes) in
    omega (arith, e, length-drop at bytes, length-drop end bytes)

-- a frame goes past its place
pub goes_past : (bytes : List ℕ) (at : ℕ) (f : Frame) → IsFrameAt bytes at f → at < f.end
goes_past bytes at f g =
    let l = length_range bytes at f.end g.past g.within in
    let k = ap length g.spells.3 in
    omega (arith, l, k)

same_frame : (i j s t e k : ℕ) → i ≡ j → s ≡ t → e ≡ k → (let f : Frame = record { id = i; start = s; end = e } in f) ≡ record { id = j; start = t; end = k }
same_frame i j s t e k p q r = cc

-- one frame at most stands at a place
pub one_frame : (bytes : List ℕ) (at : ℕ) (f g : Frame) → IsFrameAt bytes at f → IsFrameAt bytes at g → f ≡ g
one_frame bytes at f g p q =
    let e = sym (split_at bytes at f.end p.past) ∙ split_at bytes at g.end q.past in
    let o = one_section (section_of bytes f) (section_of bytes g) (slice_range bytes at f.end) (slice_range bytes at g.end) (drop f.end bytes) (drop g.end bytes) p.spells q.spells e in
    let ids : f.id ≡ g.id = ap (λ (s : Section). s.id) o.0 in
    let contents : slice_range bytes f.start f.end ≡ slice_range bytes g.start g.end = ap (λ (s : Section). s.content) o.0 in
    let ends : f.end ≡ g.end = omega (arith, ap length o.2, length-drop f.end bytes, length-drop g.end bytes, p.within, q.within) in
    let lengths = sym (length_range bytes f.start f.end p.ordered p.within) ∙ ap length contents ∙ length_range bytes g.start g.end q.ordered q.within in
    let starts : f.start ≡ g.start = omega (arith, lengths, ends, p.ordered, q.ordered) in
    same_frame f.id g.id f.start g.start f.end g.end ids starts ends

-- no section stands at a place
abbrev pub Stops : List ℕ → ℕ → Type 0
Stops bytes at = (f : Frame) → IsFrameAt bytes at f → ⊥

pub stops_at_end : (bytes : List ℕ) → Stops bytes (length bytes)
stops_at_end bytes f g = let p = goes_past bytes (length bytes) f g in absurd (omega (arith, p, g.within))

pub stops_where_broken : (bytes : List ℕ) (at : ℕ) → NoneAtFront SpellsSection (drop at bytes) → Stops bytes at
stops_where_broken bytes at none f g = none (section_of bytes f) (slice_range bytes at f.end) (drop f.end bytes) g.spells (split_at bytes at f.end g.past)

cons_frames : (f g : Frame) (fs gs : List Frame) → f ≡ g → fs ≡ gs → f ∷ fs ≡ g ∷ gs
cons_frames f g fs gs p q = cc

-- frames from a place on, up to where no section stands, are determined
pub one_division : (bytes : List ℕ) (at d e : ℕ) (fs gs : List Frame) → AreFrames bytes at fs d → AreFrames bytes at gs e → Stops bytes d → Stops bytes e → (fs ≡ gs) × (d ≡ e)
one_division bytes at d e [] [] p q u v = (refl, sym p ∙ q)
one_division bytes at d e [] (g ∷ gs) p q u v = absurd (u g (subst (λ i. IsFrameAt bytes i g) p q.0))
one_division bytes at d e (f ∷ fs) [] p q u v = absurd (v f (subst (λ i. IsFrameAt bytes i f) q p.0))
one_division bytes at d e (f ∷ fs) (g ∷ gs) p q u v =
    let s = one_frame bytes at f g p.0 q.0 in
    let q' : AreFrames bytes f.end gs e = subst (λ (h : Frame). AreFrames bytes h.end gs e) (sym s) q.1 in
    let r = one_division bytes f.end d e fs gs p.1 q' u v in
    (cons_frames f g fs gs s r.0, r.1)

-- one more frame at the end
pub frames_push : (bytes : List ℕ) (at mid : ℕ) (fs : List Frame) (f : Frame) → AreFrames bytes at fs mid → IsFrameAt bytes mid f → AreFrames bytes at (fs ++ f ∷ []) f.end
frames_push bytes at mid [] f p g = (subst (λ i. IsFrameAt bytes i f) (sym p) g, refl)
frames_push bytes at mid (h ∷ fs) f p g = (p.0, frames_push bytes h.end mid fs f p.1 g)

-- frames up to the end are the grammar's sections
pub frames_spell : (bytes : List ℕ) (at : ℕ) (fs : List Frame) → AreFrames bytes at fs (length bytes) → SpellsEach SpellsSection (map (section_of bytes) fs) (drop at bytes)
frames_spell bytes at [] p = drop_all at bytes (omega (arith, p))
frames_spell bytes at (f ∷ fs) p =
    (slice_range bytes at f.end, drop f.end bytes, p.0.spells, frames_spell bytes f.end fs p.1, split_at bytes at f.end p.0.past)

-- the frames of sections that follow a place
pub record Framed (bytes : List ℕ) (at : ℕ) (sections : List Section) : Type 0 where
  pub frames : List Frame
  pub stand : AreFrames bytes at frames (length bytes)
  pub same : map (section_of bytes) frames ≡ sections

cons_sections : (s t : Section) (ss ts : List Section) → s ≡ t → ss ≡ ts → s ∷ ss ≡ t ∷ ts
cons_sections s t ss ts p q = cc

-- the bytes from a place on that are given, and those after them
range_is : (bytes : List ℕ) (at : ℕ) (front rest : List ℕ) → at ≤ length bytes → drop at bytes ≡ front ++ rest → (slice_range bytes at (at + length front) ≡ front) × (drop (at + length front) bytes ≡ rest) × (at + length front ≤ length bytes)
range_is bytes at front rest le e =
    let l = sym (length-drop at bytes) ∙ ap length e ∙ length-append front rest in
    let within : at + length front ≤ length bytes = omega (arith, l) in
    let d : drop (at + length front) bytes ≡ rest = sym (drop-drop (length front) at bytes) ∙ ap (drop (length front)) e ∙ drop_at front rest (length front) refl in
    let s = sym (split_at bytes at (at + length front) (omega arith)) ∙ e in
    let c : slice_range bytes at (at + length front) ++ rest ≡ front ++ rest = subst (λ (r : List ℕ). slice_range bytes at (at + length front) ++ r ≡ front ++ rest) d s in
    (append_cancel_right _ front rest c, d, within)

pub sections_framed : (bytes : List ℕ) (at : ℕ) (sections : List Section) → at ≤ length bytes → SpellsEach SpellsSection sections (drop at bytes) → Framed bytes at sections
sections_framed bytes at [] le p =
    let l = sym (length-drop at bytes) ∙ ap length p in
    record { frames = []; stand = omega (arith, l); same = refl }
sections_framed bytes at (s ∷ ss) le p =
    let g = p.2 in
    let size = g.0 in
    let r = range_is bytes at p.0 p.1 le p.4 in
    let whole : drop at bytes ≡ (s.id ∷ size) ++ (s.content ++ p.1) = p.4 ∙ ap (λ (l : List ℕ). l ++ p.1) g.3 ∙ ap (λ (l : List ℕ). s.id ∷ l) (append_assoc size s.content p.1) in
    let a = range_is bytes at (s.id ∷ size) (s.content ++ p.1) le whole in
    let start = at + length (s.id ∷ size) in
    let b = range_is bytes start s.content p.1 a.2 a.1 in
    let k : length p.0 ≡ length (s.id ∷ size) + length s.content = ap length g.3 ∙ length-append (s.id ∷ size) s.content in
    let ends : start + length s.content ≡ at + length p.0 = omega (arith, k) in
    let f : Frame = record { id = s.id; start = start; end = at + length p.0 } in
    let content : slice_range bytes start (at + length p.0) ≡ s.content = subst (λ i. slice_range bytes start i ≡ s.content) ends b.0 in
    let is : section_of bytes f ≡ s = same_section s.id s.id _ s.content refl content in
    let stands : IsFrameAt bytes at f = record {
      ordered = omega (arith, ends);
      within = r.2;
      past = omega arith;
      spells = subst (λ (l : List ℕ). SpellsSection (section_of bytes f) l) (sym r.0) (subst (λ (t : Section). SpellsSection t p.0) (sym is) g);
    } in
    let rest = sections_framed bytes (at + length p.0) ss r.2 (subst (SpellsEach SpellsSection ss) (sym r.1) p.3) in
    record { frames = f ∷ rest.frames; stand = (stands, rest.stand); same = cons_sections (section_of bytes f) s _ ss is rest.same }

-- the header and what follows
pub header_split : (bytes : List ℕ) → HasHeader bytes → bytes ≡ header ++ drop 8 bytes
header_split bytes h = sym (take-append-drop 8 bytes) ∙ ap (λ (l : List ℕ). l ++ drop 8 bytes) h

pub header_long : (bytes : List ℕ) → HasHeader bytes → 8 ≤ length bytes
header_long bytes h = let l = sym (length-take 8 bytes) ∙ ap length h in omega (arith, l)

pub whole_framed : (bytes : List ℕ) (fs : List Frame) → AreWhole bytes fs → IsFramed (map (section_of bytes) fs) bytes
whole_framed bytes fs w = (drop 8 bytes, frames_spell bytes 8 fs w.1, header_split bytes w.0)

pub framed_whole : (bytes : List ℕ) (sections : List Section) → IsFramed sections bytes → HasHeader bytes × Framed bytes 8 sections
framed_whole bytes sections p =
    let h : HasHeader bytes = ap (take 8) p.2 ∙ take_at header p.0 8 refl in
    let d : drop 8 bytes ≡ p.0 = ap (drop 8) p.2 ∙ drop_at header p.0 8 refl in
    (h, sections_framed bytes 8 sections (header_long bytes h) (subst (SpellsEach SpellsSection sections) (sym d) p.1))
