-- The entries of a text stay below the greatest offset as they move.
use Rattle.std.proofs.Common.{◌≡◌, ℕ, ◌+◌, ◌-◌, ◌^◌, ◌<◌, ◌≤◌, List, ◌++◌, length, map, take, drop, ap, arith, length-append, length-drop}
use Rattle.std.specs.List.{All}
use Rattle.std.proofs.Math.ListN as each
use Rattle.std.proofs.lemmas.List.{length-map, length-take-le}
use Rattle.cell_units.specs.Record.{Block, Fold, Inlay}
use Rattle.cell_units.specs.Operation.{replaced_text}
use Rattle.cell_units.specs.Lawful.{IsBlockOf, IsFoldOf, IsInlayOf}
use Rattle.plain_rows.specs.declared.plain.PlainBlock.{PlainBlock}
use Rattle.plain_rows.specs.declared.plain.PlainFold.{PlainFold}
use Rattle.plain_rows.specs.declared.plain.PlainInlay.{PlainInlay}
use Rattle.plain_rows.specs.Plain.{block_of, fold_of, inlay_of}

pub length-replaced : (text s : List ℕ) (a b : ℕ) → a ≤ b → b ≤ length text → length (replaced_text text a b s) ≡ a + length s + (length text - b)
length-replaced text s a b le within =
    omega (arith, le, within, length-append (take a text) (s ++ drop b text), length-append s (drop b text), length-take-le a text (omega (arith, le, within)), length-drop b text)

module _ (text : List ℕ) (n : ℕ) (size : length text + n < 2 ^ 32) where
  pub inlays_fit : (inlays : List PlainInlay) → All (IsInlayOf text) (map inlay_of inlays) → All (λ (i : PlainInlay). i.offset + n < 2 ^ 32) inlays
  inlays_fit inlays all k d lt =
      let within = (all k (inlay_of d) (omega (arith, lt, length-map inlays inlay_of))).boundary.0 in
      omega (arith, within, size, ap (λ (i : Inlay). i.offset) (each.get_or-map inlay_of inlays k d))

  pub folds_fit : (folds : List PlainFold) → All (IsFoldOf text) (map fold_of folds) → All (λ (f : PlainFold). (f.start + n < 2 ^ 32) × (f.end + n < 2 ^ 32)) folds
  folds_fit folds all k d lt =
      let is = all k (fold_of d) (omega (arith, lt, length-map folds fold_of)) in
      let same = each.get_or-map fold_of folds k d in (
        omega (arith, is.start.0, size, ap (λ (f : Fold). f.start) same),
        omega (arith, is.end.0, size, ap (λ (f : Fold). f.end) same),
      )

  pub blocks_fit : (blocks : List PlainBlock) → All (IsBlockOf text) (map block_of blocks) → All (λ (b : PlainBlock). b.offset + n < 2 ^ 32) blocks
  blocks_fit blocks all k d lt =
      let within = (all k (block_of d) (omega (arith, lt, length-map blocks block_of))).boundary.0 in
      omega (arith, within, size, ap (λ (b : Block). b.offset) (each.get_or-map block_of blocks k d))
