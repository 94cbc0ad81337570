use Rattle.std.proofs.Common.{◌≡◌, ◌<◌, ◌+◌, ℕ, List, length, map, get_or, sym, subst, arith}
use Rattle.std.proofs.lemmas.List.{length-map, get_or_default}
use Rattle.wm_ast.specs.Section.{IsRising}
use Rattle.wm_frame.specs.Framing.{section_of, IsFirstAstray}
use Rattle.wm_frame.specs.declared.section.Frame.{Frame}
use Rattle.wm_frame.proofs.FrameLemmas.{Continues, continues_custom, continues_above, is_astray, is_rising}
use Rattle.wm_frame.proofs.section.first_astray.Goals as goal
use Rattle.wm_frame.proofs.section.first_astray.Goals.{then-frame-ne0+else-frame-last, else-frame-ne0}

-- the frame at a place, as the loop reads it
abbrev at : List Frame → ℕ → Frame
at fs i = get_or fs i (record { id = 0; start = 0; end = 0 })

same : (fs : List Frame) (i : ℕ) → i < length fs → at fs i ≡ get_or fs i (at fs i)
same fs i lt = get_or_default fs i (record { id = 0; start = 0; end = 0 }) (at fs i) lt

pub returns-then-frame-last : goal.returns-then-frame-last
returns-then-frame-last c bytes =
    let fs = c.as_slice-items.result.now in
    let i = c.loop-index.index in
    subst (λ gs. IsFirstAstray (map (section_of bytes) gs) i) c.as_slice-items.ensures
    (is_astray bytes fs i c.loop-index.last (at fs i) c.loop-index-test.true (same fs i c.loop-index-test.true) c.if-frame-ne0.true c.if-frame-last.true (c.loop-index.invariant bytes))

pub loop-index-preserved : goal.loop-index-preserved
loop-index-preserved c bytes =
    let fs = c.as_slice-items.result.now in
    let i = c.loop-index.index in
    let s = same fs i c.loop-index-test.true in
    elim c.if-frame-ne0.branch [
      | then-frame-ne0+else-frame-last w ↦
          subst (λ n. Continues (map (section_of bytes) fs) (i + 1) n) (sym w.last-is)
          (continues_above bytes fs i c.loop-index.last (at fs i) c.loop-index-test.true s w.if-frame-last.false (c.loop-index.invariant bytes))
      | else-frame-ne0 w ↦
          subst (λ n. Continues (map (section_of bytes) fs) (i + 1) n) (sym w.last-is)
          (continues_custom bytes fs i c.loop-index.last (at fs i) c.loop-index-test.true s w.if-frame-ne0.false (c.loop-index.invariant bytes))
    ]

pub returns : goal.returns
returns c bytes =
    subst (λ fs. IsRising 0 (map (section_of bytes) fs)) c.as_slice-items.ensures
    (is_rising (map (section_of bytes) c.as_slice-items.result.now) c.loop-index.index c.loop-index.last (omega (arith, length-map c.as_slice-items.result.now (section_of bytes))) (c.loop-index.invariant bytes))
