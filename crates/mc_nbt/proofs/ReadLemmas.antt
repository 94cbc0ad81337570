-- What the scanner's answer says of the tree that is built.
use Rattle.std.proofs.Common.{◌≡◌, ◌<◌, ◌≤◌, ℕ, List, [], Some, refl, sym, ap, ◌∙◌, subst}
use Rattle.std.specs.Prelude.{nat_le, option_and_then}
use Rattle.std.proofs.lemmas.Bool.{le-leb, and_from}
use Rattle.mc_nbt.specs.Tree.{Tree, depth}
use Rattle.mc_nbt.specs.Shape.{IsTree}
use Rattle.mc_nbt.specs.Spelling.{Spells}
use Rattle.mc_nbt.specs.Beginning.{Answer, spelled, broken, IsAnswered, Reaches, SpellsNone, SpellsDeep}
use Rattle.mc_nbt.specs.steps.Reading.{start, read_text, ended, built}
use Rattle.mc_nbt.specs.steps.Scanning as scanning
use Rattle.mc_nbt.specs.steps.Scanning.{scan_text, verdict_of, IsVerdict}
use Rattle.mc_nbt.proofs.TestLemmas.{some_same}
use Rattle.mc_nbt.proofs.ReadingSound.{answers, spelled_ran}
use Rattle.mc_nbt.proofs.ScanningLemmas.{scan_same, scanned}

-- what the reader says is spelled is what is built
spelled_built : (text : List ℕ) (t : Tree) (d : ℕ) → read_text text ≡ spelled t d → built text ≡ Some t
spelled_built text t d h =
    let ran = spelled_ran text (start []) 0 0 t d h in
    ap (option_and_then ended) ran.1 ∙ ran.2

-- the scanner's text of this depth: the tree that it spells is built
pub whole_built : (text : List ℕ) (d : ℕ) → scan_text text ≡ scanning.whole d → (t : Tree) × (built text ≡ Some t) × Spells text t × (d ≡ depth t)
whole_built text d h = go (read_text text) refl (sym (scan_same text) ∙ h) (answers text)
  where
    go : (a : Answer) → read_text text ≡ a → verdict_of a ≡ scanning.whole d → IsAnswered text a → (t : Tree) × (built text ≡ Some t) × Spells text t × (d ≡ depth t)
    go (spelled t e) f g s = let same : d ≡ e = cc in (t, spelled_built text t e f, s.0, same ∙ s.1)
    go (broken n) f g s = absurd cc

-- the scanner's break: the text spells none, and its beginning that begins a spelling is so long
pub broken_read : (text : List ℕ) (n : ℕ) → scan_text text ≡ scanning.broken n → Reaches text n × SpellsNone text
broken_read text n h = subst (IsVerdict text) h (scanned text)

-- a text whose depth is too great spells a tree that is too deep
pub deep_read : (text : List ℕ) (d : ℕ) → scan_text text ≡ scanning.whole d → 64 < d → SpellsDeep text
deep_read text d h deep = let w = whole_built text d h in record { tree = w.0; spells = w.2; deep = subst (λ e. 64 < e) w.3 deep }

-- what is built of a text that is not too deep is the tree that it spells, and may stand in a storage
pub shallow_read : (text : List ℕ) (d : ℕ) (t : Tree) → scan_text text ≡ scanning.whole d → d ≤ 64 → built text ≡ Some t → Spells text t × IsTree t
shallow_read text d t h shallow b =
    let w = whole_built text d h in
    let same : w.0 ≡ t = some_same w.0 t (sym w.1 ∙ b) in
    let spells : Spells text t = subst (Spells text) same w.2 in
    let within : depth t ≤ 64 = subst (λ e. e ≤ 64) (w.3 ∙ ap depth same) shallow in
    (spells, and_from _ (nat_le (depth t) 64) spells.shaped (le-leb (depth t) 64 within))
