-- Lines that are all alike fit, for tests.
use Rattle.std.proofs.Common.{ℕ, ◌^◌, ◌<◌, ◌≤◌, List, [], ◌∷◌, length, arith, sym, subst}
use Rattle.std.specs.Prelude.{replicate}
use Rattle.std.proofs.lemmas.List.{get_or-replicate, length-replicate}
use Rattle.cell_units.specs.declared.piece.Piece.{Piece}
use Rattle.cell_units.specs.declared.piece.PieceKind.TheVariants.{Buffer}
use Rattle.cell_line.specs.Laws.{IsBoundedByBytes}
use Rattle.cell_line.specs.Lines.{FitsU32, LineFitsU32}
use Rattle.cell_line.specs.Worked.{line_of}

pub same_fit : (text : List ℕ) (count : ℕ) → length text ≤ 1000 → count < 2 ^ 32 →
    ((pieces : List Piece) (tab : ℕ) → tab ≤ 16 → IsBoundedByBytes pieces tab) →
    FitsU32 (replicate count (line_of text))
same_fit text count short few laws =
    let bound = laws (record { kind = Buffer; text = text; start = 0; end = 0 } ∷ []) 4 (omega arith) in (
      omega (arith, few, length-replicate count (line_of text)),
      λ k d lt.
          subst LineFitsU32 (sym (get_or-replicate count k (line_of text) d (omega (arith, lt, length-replicate count (line_of text)))))
          (omega (arith, bound.1, short), omega (arith, bound.0, short)),
    )
