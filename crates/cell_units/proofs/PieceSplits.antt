-- Where the pieces of a line may be taken apart.
use Rattle.std.proofs.Common.{◌≡◌, ℕ, Bool, true, false, List, [], ◌∷◌, ◌++◌, refl, sym, ap, ◌∙◌}
use Rattle.cell_units.specs.declared.piece.Piece.{Piece}
use Rattle.cell_units.specs.Inlaid.{Token}
use Rattle.cell_units.specs.Pieces.{piece_before}

-- a list that has a first piece
pub record Some (ps : List Piece) : Type 0 where
  pub head : Piece
  pub rest : List Piece
  pub is : ps ≡ head ∷ rest

pub some_before : (c : Bool) (t : Token) (end : ℕ) (ps : List Piece) → Some (piece_before c t end ps)
some_before c t end [] = record { head = _; rest = []; is = refl }
some_before true t end (p ∷ ps) = record { head = _; rest = ps; is = refl }
some_before false t end (p ∷ ps) = record { head = _; rest = p ∷ ps; is = refl }

-- a piece before pieces, with more after them
pub before_both : (c : Bool) (t : Token) (end : ℕ) (ps qs : List Piece) → Some ps → piece_before c t end (ps ++ qs) ≡ piece_before c t end ps ++ qs
before_both c t end ps qs s =
    ap (λ (k : List Piece). piece_before c t end (k ++ qs)) s.is
    ∙ go c
    ∙ ap (λ (k : List Piece). piece_before c t end k ++ qs) (sym s.is) where
      go : (c : Bool) → piece_before c t end ((s.head ∷ s.rest) ++ qs) ≡ piece_before c t end (s.head ∷ s.rest) ++ qs
      go true = refl
      go false = refl

pub before_other : (t : Token) (end : ℕ) (qs : List Piece) → piece_before false t end qs ≡ piece_before false t end [] ++ qs
before_other t end [] = refl
before_other t end (q ∷ qs) = refl
