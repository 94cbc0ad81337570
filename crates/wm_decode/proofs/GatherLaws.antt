-- Reading the sections one after the other.
use Rattle.std.proofs.Common.{◌≡◌, ◌≢◌, ℕ, zero, suc, ◌+◌, ◌<◌, ◌≤◌, List, [], ◌∷◌, ◌++◌, length, map, take, drop, get_or, Option, Some, None, Err, refl, sym, ap, subst, ◌∙◌, arith}
use Rattle.std.specs.Prelude.{slice_get, slice_range, option_map}
use Rattle.std.proofs.lemmas.List.{append-nil, length-map}
use Rattle.std.proofs.lemmas.List.Folds.{drop_split}
use Rattle.wm_ast.specs.declared.module.Module.{Module}
use Rattle.wm_ast.specs.Section.{Section, IsRising}
use Rattle.wm_ast.specs.Spelling as grammar
use Rattle.wm_ast.specs.Spelling.{Content, IsSectionOf, AreSectionsOf, no_parts, with_content, parts_of, IsMadeOf, Spells}
use Rattle.wm_frame.specs.Framing.{section_of, AreFrames, AreWhole, AreFramesOf}
use Rattle.wm_frame.specs.declared.section.Frame.{Frame}
use Rattle.wm_frame.specs.declared.fault.FrameFault.{FrameFault}
use Rattle.wm_frame.specs.declared.fault.FrameFault.TheVariants as frames
use Rattle.wm_frame.proofs.FrameLemmas.{one_more}
use Rattle.wm_frame.proofs.FramingLaws.{whole_framed}
use Rattle.wm_frame.proofs.Readers.{IsBytes, IsBytes-drop, IsBytes-front, some_is}
use Rattle.wm_decode.specs.steps.ContentReading.{seen_body, content_at}
use Rattle.wm_decode.specs.Decoding.{IsFirstBad, IsMismatched, IsDecoded}
use Rattle.wm_decode.specs.FaultLine.{from_frames}
use Rattle.wm_decode.specs.steps.Gathering.{seen}
use Rattle.wm_decode.specs.steps.SectionsReading.{IsGathered, AreGathered}
use Rattle.wm_decode.specs.declared.decoding.DecodeFault.{DecodeFault}
use Rattle.wm_decode.specs.declared.decoding.DecodeFault.TheVariants as faults
use Rattle.wm_decode.specs.declared.section.Parts.{Parts}
use Rattle.wm_decode.proofs.ContentLaws.{content_takes, no_content}

-- one more section, and what it holds
hold_push : (ss : List Section) (cs : List Content) (s : Section) (c : Content) → AreSectionsOf ss cs → IsSectionOf s c → AreSectionsOf (ss ++ s ∷ []) (cs ++ c ∷ [])
hold_push [] [] s c p h = (h, tt)
hold_push [] (d ∷ cs) s c p h = absurd p
hold_push (t ∷ ss) [] s c p h = absurd p
hold_push (t ∷ ss) (d ∷ cs) s c p h = (p.0, hold_push ss cs s c p.1 h)

parts_push : (p : grammar.Parts) (cs : List Content) (c : Content) → parts_of p (cs ++ c ∷ []) ≡ with_content c (parts_of p cs)
parts_push p [] c = refl
parts_push p (d ∷ cs) c = parts_push (with_content d p) cs c

-- a frame's bounds are within the bytes
pub bounds : (bytes : List ℕ) (at end : ℕ) (fs : List Frame) (i : ℕ) (f : Frame) → AreFrames bytes at fs end → i < length fs → f ≡ get_or fs i f → (f.start ≤ f.end) × (f.end ≤ length bytes)
bounds bytes at end [] i f p lt e = absurd (omega arith)
bounds bytes at end (g ∷ fs) zero f p lt e = subst (λ (h : Frame). (h.start ≤ h.end) × (h.end ≤ length bytes)) (sym e) (p.0.ordered, p.0.within)
bounds bytes at end (g ∷ fs) (suc i) f p lt e = bounds bytes g.end end fs i f p.1 (omega arith) e

-- the section of the frame at a place
at_place : (bytes : List ℕ) (fs : List Frame) (i : ℕ) (f : Frame) → i < length fs → f ≡ get_or fs i f → slice_get (map (section_of bytes) fs) i ≡ Some (section_of bytes f)
at_place bytes [] i f lt e = absurd (omega arith)
at_place bytes (g ∷ fs) zero f lt e = ap (λ (h : Frame). Some (section_of bytes h)) (sym e)
at_place bytes (g ∷ fs) (suc i) f lt e = at_place bytes fs i f (omega arith) e

-- the content of a frame are bytes
content_fits : (bytes : List ℕ) (start end : ℕ) → start ≤ end → IsBytes bytes → IsBytes (slice_range bytes start end)
content_fits bytes start end le fits = IsBytes-front (slice_range bytes start end) (drop end bytes) (subst IsBytes (drop_split bytes start end le) (IsBytes-drop start bytes fits))

pub gathered_first : (ss : List Section) (p : Parts) → seen p ≡ no_parts → IsGathered (take 0 ss) p
gathered_first ss p e = record { contents = []; hold = tt; made = e }

-- what is added is a content
content_of : (old : grammar.Parts) (new : grammar.Parts) (r : Option Content) → option_map (λ c. with_content c old) r ≡ Some new → (c : Content) × (r ≡ Some c) × (with_content c old ≡ new)
content_of old new None e = absurd cc
content_of old new (Some c) e = (c, refl, some_is (with_content c old) new e)

pub gathered_more : (bytes : List ℕ) (fs : List Frame) (i : ℕ) (f : Frame) (old new : Parts) → IsBytes bytes → f.start ≤ f.end → i < length fs → f ≡ get_or fs i f
    → option_map (λ c. with_content c (seen old)) (content_at f.id (slice_range bytes f.start f.end)) ≡ Some (seen new)
    → IsGathered (take i (map (section_of bytes) fs)) old → IsGathered (take (i + 1) (map (section_of bytes) fs)) new
gathered_more bytes fs i f old new fits ordered lt is e g =
    let s = section_of bytes f in
    let ss = map (section_of bytes) fs in
    let a = content_of (seen old) (seen new) (content_at f.id (slice_range bytes f.start f.end)) e in
    let h : IsSectionOf s a.0 = content_takes s a.0 (content_fits bytes f.start f.end ordered fits) a.1 in
    let m : take (i + 1) ss ≡ take i ss ++ s ∷ [] = sym (append-nil (take (i + 1) ss)) ∙ one_more bytes fs i f [] lt is in
    record {
      contents = g.contents ++ a.0 ∷ [];
      hold = subst (λ (l : List Section). AreSectionsOf l (g.contents ++ a.0 ∷ [])) (sym m) (hold_push (take i ss) g.contents s a.0 g.hold h);
      made = sym a.2 ∙ ap (with_content a.0) g.made ∙ sym (parts_push no_parts g.contents a.0);
    }

pub gathered_bad : (bytes : List ℕ) (fs : List Frame) (i : ℕ) (f : Frame) (old : Parts) → i < length fs → f ≡ get_or fs i f → content_at f.id (slice_range bytes f.start f.end) ≡ None
    → IsGathered (take i (map (section_of bytes) fs)) old → IsFirstBad (map (section_of bytes) fs) i
gathered_bad bytes fs i f old lt is e g = record {
  before = g.contents;
  hold = g.hold;
  section = section_of bytes f;
  stands = at_place bytes fs i f lt is;
  none = no_content (section_of bytes f) e;
}

-- a fault of the bounds of sections is one of decoding
pub frames_fault : (bytes : List ℕ) (f : FrameFault) → AreFramesOf bytes (Err f) → IsDecoded bytes (Err (from_frames f))
frames_fault bytes frames.Memory p = tt
frames_fault bytes frames.NotWasm p = p
frames_fault bytes (frames.BadFrame at) p = p
frames_fault bytes (frames.BadOrder index) p = p

pub gather_fault : (bytes : List ℕ) (fs : List Frame) (e : DecodeFault) → AreWhole bytes fs → IsRising 0 (map (section_of bytes) fs) → AreGathered (map (section_of bytes) fs) (Err e) → IsDecoded bytes (Err e)
gather_fault bytes fs (faults.BadSection index) w r b = record { sections = map (section_of bytes) fs; framed = whole_framed bytes fs w; rising = r; bad = b }
gather_fault bytes fs faults.Memory w r b = tt
gather_fault bytes fs (faults.Frame f) w r b = absurd b
gather_fault bytes fs (faults.CountMismatch f d) w r b = absurd b

pub mismatch : (bytes : List ℕ) (fs : List Frame) (p : Parts) → AreWhole bytes fs → IsRising 0 (map (section_of bytes) fs) → IsGathered (map (section_of bytes) fs) p → length p.kinds ≢ length p.bodies
    → IsMismatched bytes (length p.kinds) (length p.bodies)
mismatch bytes fs p w r g differ = record {
  sections = map (section_of bytes) fs;
  contents = g.contents;
  framed = whole_framed bytes fs w;
  rising = r;
  hold = g.hold;
  functions_are = ap (λ (q : grammar.Parts). length q.kinds) g.made;
  bodies_are = sym (length-map p.bodies seen_body) ∙ ap (λ (q : grammar.Parts). length q.bodies) g.made;
  differ = differ;
}

pub spelled : (bytes : List ℕ) (fs : List Frame) (p : Parts) (m : Module) → AreWhole bytes fs → IsRising 0 (map (section_of bytes) fs) → IsGathered (map (section_of bytes) fs) p → IsMadeOf m (seen p) → Spells bytes m
spelled bytes fs p m w r g made = record {
  sections = map (section_of bytes) fs;
  contents = g.contents;
  framed = whole_framed bytes fs w;
  rising = r;
  hold = g.hold;
  made = subst (IsMadeOf m) g.made made;
}
