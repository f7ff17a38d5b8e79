-- The display line of a position is one of the record's.
use Rattle.std.proofs.Common.{◌≡◌, ℕ, ◌<◌, ◌≤◌, List, [], ◌∷◌, ◌++◌, length, ap, arith}
use Rattle.cell_units.specs.declared.place.Bias.{Bias}
use Rattle.cell_units.specs.declared.place.Bias.TheVariants.{Left, Right}
use Rattle.cell_units.specs.Text.{line_feed}
use Rattle.cell_units.specs.Record.{Record}
use Rattle.cell_units.specs.Inlaid.{Byte, Token, is_break}
use Rattle.cell_units.specs.Cutting.{cut_lines}
use Rattle.cell_units.specs.Folded.{folded, line_of}
use Rattle.cell_units.specs.Lawful.{IsLawful, source_of}
use Rattle.cell_units.proofs.ShownText.{folded_is}
use Rattle.cell_units.proofs.Sources.{ends_open}
use Rattle.plain_rows.proofs.Fronts.{IsFront, count_by-front, front-trans}
use Rattle.plain_rows.proofs.FoldedFronts.{to-rises, to-sides, tokens_to}
use Rattle.plain_rows.proofs.LineAt.{line-within}

module _ (r : Record) (lawful : IsLawful r) where
  abbrev to : ℕ → Bias → List Token
  to o bias = tokens_to r.text r.inlays r.folds o bias

  -- all but the last break
  all-tokens : folded r.text r.inlays r.folds ≡ to (length r.text) Right ++ Byte (length r.text) line_feed ∷ []
  all-tokens = folded_is (source_of r) (ends_open (source_of r) lawful.entries.source)

  to-end : (o : ℕ) (bias : Bias) → o ≤ length r.text → IsFront (to o bias) (to (length r.text) Right)
  to-end o Right le = to-rises r.text r.inlays r.folds o (length r.text) Right le (omega arith)
  to-end o Left le =
      front-trans (to o Left) (to o Right) (to (length r.text) Right) (to-sides r.text r.inlays r.folds o)
      (to-rises r.text r.inlays r.folds o (length r.text) Right le (omega arith))

  pub line_of-within : (o : ℕ) (bias : Bias) → o ≤ length r.text → line_of r.text r.inlays r.folds o bias < length r.marks
  line_of-within o bias le =
      let n = length r.text in
      omega (
        arith,
        lawful.marked,
        count_by-front is_break (to o bias) (to n Right) (to-end o bias le),
        ap (λ (ts : List Token). length (cut_lines is_break ts)) all-tokens,
        line-within is_break (to n Right) (Byte n line_feed) [],
      )
