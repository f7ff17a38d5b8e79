use Rattle.std.proofs.Common.{refl, arith, ap, length, Bool, true, false, List, [], ◌∷◌}
use Rattle.std.proofs.lemmas.Bool.{false≢true}
use Rattle.display_sheet.specs.LineStep.{line_step}
use Rattle.row_pieces.specs.Changed.{Look, RowLook}
use Rattle.row_pieces.specs.declared.row_piece.RowPieceKind.{RowPieceKind}
use Rattle.row_pieces.specs.declared.row_piece.RowPieceKind.TheVariants.{Text}
use Rattle.row_pieces.proofs.Computing.{row_pieces}
use Rattle.row_pieces.proofs.worked_changes.worked_changes.Goals as goal

pub returns-clause-letter : goal.returns-clause-letter
unfolding row_pieces line_step
returns-clause-letter c = record { order = omega arith; within_old = omega arith; within_new = omega arith; before = refl; after = refl }

pub returns-clause-line_feed : goal.returns-clause-line_feed
unfolding row_pieces line_step
returns-clause-line_feed c = record { order = omega arith; within_old = omega arith; within_new = omega arith; before = refl; after = refl }

pub returns-clause-unwrapped : goal.returns-clause-unwrapped
unfolding row_pieces line_step
returns-clause-unwrapped c = record { order = omega arith; within_old = omega arith; within_new = omega arith; before = refl; after = refl }

pub returns-clause-folded : goal.returns-clause-folded
unfolding row_pieces line_step
returns-clause-folded c = record { order = omega arith; within_old = omega arith; within_new = omega arith; before = refl; after = refl }

pub returns-clause-block_below : goal.returns-clause-block_below
unfolding row_pieces line_step
returns-clause-block_below c = record { order = omega arith; within_old = omega arith; within_new = omega arith; before = refl; after = refl }

pub returns-clause-other_width : goal.returns-clause-other_width
unfolding row_pieces line_step
returns-clause-other_width c = record { order = omega arith; within_old = omega arith; within_new = omega arith; before = refl; after = refl }

pub returns-clause-landed : goal.returns-clause-landed
unfolding row_pieces line_step
returns-clause-landed c = record { order = omega arith; within_old = omega arith; within_new = omega arith; before = refl; after = refl }

pub returns-clause-block_of_a_folded_row : goal.returns-clause-block_of_a_folded_row
unfolding row_pieces line_step
returns-clause-block_of_a_folded_row c = record { order = omega arith; within_old = omega arith; within_new = omega arith; before = refl; after = refl }

pub returns-clause-same_text : goal.returns-clause-same_text
unfolding row_pieces line_step
returns-clause-same_text c = (refl, record { order = omega arith; within_old = omega arith; within_new = omega arith; before = refl; after = refl })

pub returns-clause-two_covered : goal.returns-clause-two_covered
returns-clause-two_covered c = refl

pub returns-clause-nothing_covered : goal.returns-clause-nothing_covered
returns-clause-nothing_covered c = refl

pub returns-clause-one_row_short : goal.returns-clause-one_row_short
unfolding row_pieces line_step
returns-clause-one_row_short c = λ t. omega (arith, ap length t.after)

is_text : RowPieceKind → Bool
is_text Text = true
is_text _ = false

first_is_text : List Look → Bool
first_is_text [] = false
first_is_text (l ∷ ls) = is_text l.kind

row_is_text : List RowLook → Bool
row_is_text [] = false
row_is_text (row ∷ rows) = first_is_text row.1

pub returns-clause-same_text_looks_other : goal.returns-clause-same_text_looks_other
unfolding row_pieces line_step is_text first_is_text row_is_text
returns-clause-same_text_looks_other c = λ t. false≢true (ap row_is_text t.after)
