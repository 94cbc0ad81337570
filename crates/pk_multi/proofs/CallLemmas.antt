-- What is told of the program at a place.
use Rattle.std.proofs.Common.{◌≡◌, ℕ, zero, suc, List, [], ◌∷◌, map, Some, refl, sym, ap, ◌∙◌}
use Rattle.std.specs.Prelude.{option_and_then, option_map, slice_get}
use Rattle.mc_cmd.specs.Pack.{Pack}
use Rattle.mc_cmd.specs.Packing.{Written, index_view, pack_view}
use Rattle.mc_cmd.specs.World.{World}
use Rattle.mc_cmd.specs.declared.pack.Index.{Index}
use Rattle.mc_layout.specs.State.{state_in}
use Rattle.pk_multi.specs.Counting.{AreNamed}
use Rattle.pk_multi.specs.declared.program.Program.{Program}
use Rattle.pk_multi.proofs.TurnLemmas.{owner}

-- the pack at a place, whose index is told
record Indexed (ws : List Written) (who : ℕ) (i : Index) : Type 0 where
  pack : Written
  at : slice_get (map pack_view ws) who ≡ Some (pack_view pack)
  same : pack.index ≡ i

indexed : (ws : List Written) (who : ℕ) (i : Index) → option_map (λ (w : Written). w.index) (slice_get ws who) ≡ Some i → Indexed ws who i
indexed [] who i e = absurd cc
indexed (w ∷ ws) zero i e = let h : w.index ≡ i = cc in record { pack = w; at = refl; same = h }
indexed (w ∷ ws) (suc who) i e = let n = indexed ws who i e in record { pack = n.pack; at = n.at; same = n.same }

-- what is told of the pack at a place is its index
pub index_of : (ws : List Written) (who : ℕ) (i : Index) → option_map (λ (w : Written). w.index) (slice_get ws who) ≡ Some i → option_map (λ (p : Pack). p.index) (slice_get (map pack_view ws) who) ≡ Some (index_view i)
index_of ws who i e =
    let n = indexed ws who i e in
    ap (option_map (λ (p : Pack). p.index)) n.at ∙ ap (λ (j : Index). Some (index_view j)) n.same

-- the state of the program at a place
pub state_of_program : (ps : List Program) (ws : List Written) (who : ℕ) (p : Program) (w : World) → AreNamed ps ws → slice_get ps who ≡ Some p → state_in p.names.ns w ≡ option_and_then (λ (q : Pack). state_in q.index.ns w) (slice_get (map pack_view ws) who)
state_of_program ps ws who p w n e =
    let o = owner ps ws who p n e in
    ap (λ ns. state_in ns w) o.same ∙ sym (ap (option_and_then (λ (q : Pack). state_in q.index.ns w)) o.at)

-- its namespace
pub space_of_program : (ps : List Program) (ws : List Written) (who : ℕ) (p : Program) → AreNamed ps ws → slice_get ps who ≡ Some p → option_map (λ (q : Pack). q.index.ns) (slice_get (map pack_view ws) who) ≡ Some p.names.ns
space_of_program ps ws who p n e =
    let o = owner ps ws who p n e in
    ap (option_map (λ (q : Pack). q.index.ns)) o.at ∙ ap Some (sym o.same)
