-- A moved line has the moved pieces.
use Rattle.std.proofs.Common.{◌≡◌, ℕ, Bool, true, false, List, [], ◌∷◌, map, refl, ◌∙◌}
use Rattle.cell_units.specs.declared.place.Bias.TheVariants.{Right}
use Rattle.cell_units.specs.declared.piece.Piece.{Piece}
use Rattle.cell_units.specs.Anchor.{move}
use Rattle.cell_units.specs.Inlaid.{Token, Byte, InlayByte, Hidden, offset_of}
use Rattle.cell_units.specs.Pieces.{is_one_piece, piece_before, pieces_of}
use Rattle.cell_units.specs.LineCounts.{move_piece}
use Rattle.cell_units.proofs.Moves.{move_token}

module _ (a b n : ℕ) where
  before-moved : (is_one : Bool) (t : Token) (e : ℕ) (ps : List Piece) →
      piece_before is_one (move_token a b n t) (move e Right a b n) (map (move_piece a b n) ps) ≡ map (move_piece a b n) (piece_before is_one t e ps)
  before-moved is_one (Byte o c) e [] = refl
  before-moved is_one (InlayByte o i c) e [] = refl
  before-moved is_one (Hidden o) e [] = refl
  before-moved true (Byte o c) e (p ∷ ps) = refl
  before-moved true (InlayByte o i c) e (p ∷ ps) = refl
  before-moved true (Hidden o) e (p ∷ ps) = refl
  before-moved false (Byte o c) e (p ∷ ps) = refl
  before-moved false (InlayByte o i c) e (p ∷ ps) = refl
  before-moved false (Hidden o) e (p ∷ ps) = refl

  offset-moved : (t : Token) → offset_of (move_token a b n t) ≡ move (offset_of t) Right a b n
  offset-moved (Byte o c) = refl
  offset-moved (InlayByte o i c) = refl
  offset-moved (Hidden o) = refl

  one-moved : (t u : Token) → is_one_piece (move_token a b n t) (move_token a b n u) ≡ is_one_piece t u
  one-moved (Byte o c) (Byte p d) = refl
  one-moved (Byte o c) (InlayByte p j d) = refl
  one-moved (Byte o c) (Hidden p) = refl
  one-moved (InlayByte o i c) (Byte p d) = refl
  one-moved (InlayByte o i c) (InlayByte p j d) = refl
  one-moved (InlayByte o i c) (Hidden p) = refl
  one-moved (Hidden o) (Byte p d) = refl
  one-moved (Hidden o) (InlayByte p j d) = refl
  one-moved (Hidden o) (Hidden p) = refl

  pub pieces-moved : (l : List Token) → pieces_of (map (move_token a b n) l) ≡ map (move_piece a b n) (pieces_of l)
  pieces-moved [] = refl
  pieces-moved (t ∷ []) = refl
  pieces-moved (t ∷ u ∷ us) =
      (λ i. piece_before (one-moved t u i) (move_token a b n t) (offset-moved u i) (pieces-moved (u ∷ us) i))
      ∙ before-moved (is_one_piece t u) t (offset_of u) (pieces_of (u ∷ us))
