-- No two neighbours of joined pieces are of one piece.
use Rattle.std.proofs.Common.{◌≡◌, Bool, true, false, cond, List, [], ◌∷◌, refl, ap, ◌∙◌, arith}
use Rattle.std.proofs.lemmas.Bool.{false≢true}
use Rattle.std.proofs.lemmas.Bool.Decides.{nat_tests}
use Rattle.row_pieces.specs.declared.row_piece.RowPiece.{RowPiece}
use Rattle.row_pieces.specs.declared.row_piece.RowPieceKind.{RowPieceKind}
use Rattle.row_pieces.specs.declared.row_piece.RowPieceKind.TheVariants.{Block, Indent, Inlay, Placeholder, Tab, Text}
use Rattle.row_pieces.specs.Laws.{AreApart}
use Rattle.row_pieces.specs.Pieces.{is_one, joined, merged, piece_before}

pub one-kind : (a b : RowPieceKind) → is_one a b ≡ true → a ≡ b
one-kind Text Text e = refl
one-kind Text Tab e = absurd (false≢true e)
one-kind Text (Inlay j) e = absurd (false≢true e)
one-kind Text Placeholder e = absurd (false≢true e)
one-kind Text (Block j) e = absurd (false≢true e)
one-kind Text Indent e = absurd (false≢true e)
one-kind Tab Text e = absurd (false≢true e)
one-kind Tab Tab e = absurd (false≢true e)
one-kind Tab (Inlay j) e = absurd (false≢true e)
one-kind Tab Placeholder e = absurd (false≢true e)
one-kind Tab (Block j) e = absurd (false≢true e)
one-kind Tab Indent e = absurd (false≢true e)
one-kind (Inlay i) Text e = absurd (false≢true e)
one-kind (Inlay i) Tab e = absurd (false≢true e)
one-kind (Inlay i) (Inlay j) e = let same : i ≡ j = grind (arith, nat_tests, e) in ap Inlay same
one-kind (Inlay i) Placeholder e = absurd (false≢true e)
one-kind (Inlay i) (Block j) e = absurd (false≢true e)
one-kind (Inlay i) Indent e = absurd (false≢true e)
one-kind Placeholder Text e = absurd (false≢true e)
one-kind Placeholder Tab e = absurd (false≢true e)
one-kind Placeholder (Inlay j) e = absurd (false≢true e)
one-kind Placeholder Placeholder e = absurd (false≢true e)
one-kind Placeholder (Block j) e = absurd (false≢true e)
one-kind Placeholder Indent e = absurd (false≢true e)
one-kind (Block i) Text e = absurd (false≢true e)
one-kind (Block i) Tab e = absurd (false≢true e)
one-kind (Block i) (Inlay j) e = absurd (false≢true e)
one-kind (Block i) Placeholder e = absurd (false≢true e)
one-kind (Block i) (Block j) e = absurd (false≢true e)
one-kind (Block i) Indent e = absurd (false≢true e)
one-kind Indent Text e = absurd (false≢true e)
one-kind Indent Tab e = absurd (false≢true e)
one-kind Indent (Inlay j) e = absurd (false≢true e)
one-kind Indent Placeholder e = absurd (false≢true e)
one-kind Indent (Block j) e = absurd (false≢true e)
one-kind Indent Indent e = absurd (false≢true e)

before-apart : (p : RowPiece) (qs : List RowPiece) → AreApart qs → AreApart (piece_before p qs)
before-apart p [] h = tt
before-apart p (q ∷ qs) h = go (is_one p.kind q.kind) refl where
  same : p.kind ≡ q.kind → (rs : List RowPiece) → AreApart (q ∷ rs) → AreApart (merged p q ∷ rs)
  same e [] k = tt
  same e (r ∷ rs) k = (ap (λ (a : RowPieceKind). is_one a r.kind) e ∙ k.0, k.1)

  go : (b : Bool) → is_one p.kind q.kind ≡ b → AreApart (cond b (merged p q ∷ qs) (p ∷ q ∷ qs))
  go true e = same (one-kind p.kind q.kind e) qs h
  go false e = (e, h)

pub joined-apart : (ps : List RowPiece) → AreApart (joined ps)
joined-apart [] = tt
joined-apart (p ∷ ps) = before-apart p (joined ps) (joined-apart ps)
