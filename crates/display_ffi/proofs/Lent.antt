-- What a session lends of a row is what C is given of it.
use Rattle.std.proofs.Common.{◌≡◌, ◌⊎◌, ℕ, ◌+◌, ◌<◌, ◌≤◌, min, List, [], ◌∷◌, ◌++◌, length, map, take, drop, get_or, refl, sym, ap, ◌∙◌, inl, inr, arith}
use Rattle.std.specs.Prelude.{None, Option, Some, option_map, slice_get, slice_set}
use Rattle.std.proofs.lemmas.Bool.{cases_lt}
use Rattle.std.proofs.lemmas.List.{drop-drop, drop-set-lt, drop_all, length-map, map-append, take-append-drop, take-map, take_all, take_more, take_more_set}
use Rattle.std.proofs.lemmas.Option.{get_or_from_slice_get, none-some, same_Some}
use Rattle.row_pieces.specs.declared.row_piece.RowPiece.{RowPiece}
use Rattle.row_pieces.specs.Pieces.{text_of}
use Rattle.display_session.specs.declared.lent_pieces.LentPiece.{LentPiece}
use Rattle.display_session.specs.LentPieces.{lent_piece}
use Rattle.display_ffi.specs.declared.pieces.Piece.{Piece}
use Rattle.display_ffi.specs.Pieces.{AreGiven, as_given, filled}

pub no-row : (o : Option (List RowPiece)) → None ≡ option_map (map lent_piece) o → o ≡ None
no-row None e = refl
no-row (Some pieces) e = absurd (none-some (map lent_piece pieces) e)

pub lent-given : (rows : List (List RowPiece)) (row : ℕ) (lent : List LentPiece) (answer : List ℕ) (count : ℕ) (room out : List Piece) →
    Some lent ≡ option_map (map lent_piece) (slice_get rows row) → answer ≡ text_of (get_or rows row []) → count ≡ length lent → out ≡ filled (map as_given lent) room →
    AreGiven (slice_get rows row) answer count room out
lent-given rows row lent answer count room out is text size filled_is = go (slice_get rows row) refl is where
  go : (o : Option (List RowPiece)) → slice_get rows row ≡ o → Some lent ≡ option_map (map lent_piece) o → AreGiven o answer count room out
  go None e is = absurd (none-some lent (sym is))
  go (Some pieces) e is =
      let same : lent ≡ map lent_piece pieces = same_Some lent (map lent_piece pieces) is in (
        text ∙ ap text_of (get_or_from_slice_get rows row pieces [] e),
        size ∙ ap length same ∙ length-map pieces lent_piece,
        filled_is ∙ ap (λ (l : List LentPiece). filled (map as_given l) room) same,
      )

-- ---- writing one after another

pub more-given : (pieces : List LentPiece) (out : List Piece) (i : ℕ) (d : LentPiece) → i < length pieces → i < length out → take i out ≡ map as_given (take i pieces) →
    take (i + 1) (slice_set out i (as_given (get_or pieces i d))) ≡ map as_given (take (i + 1) pieces)
more-given pieces out i d lt within given =
    let x = get_or pieces i d in
    take_more_set out i (as_given x) within
    ∙ ap (λ (l : List Piece). l ++ as_given x ∷ []) given
    ∙ sym (ap (map as_given) (take_more pieces i d lt) ∙ map-append as_given (take i pieces) (x ∷ []))

pub rest-same : (room out : List Piece) (i : ℕ) (v : Piece) → drop i out ≡ drop i room → drop (i + 1) (slice_set out i v) ≡ drop (i + 1) room
rest-same room out i v rest =
    drop-set-lt (i + 1) out i v (omega arith) ∙ sym (drop-drop 1 i out) ∙ ap (drop 1) rest ∙ drop-drop 1 i room

-- as many as fit are written
pub all-given : (pieces : List LentPiece) (room out : List Piece) (n : ℕ) → n ≡ min (length pieces) (length room) → take n out ≡ map as_given (take n pieces) → drop n out ≡ drop n room →
    out ≡ filled (map as_given pieces) room
all-given pieces room out n is given rest =
    let first : map as_given (take n pieces) ≡ take (length room) (map as_given pieces) = go (cases_lt (length room) (length pieces)) in
    let second : drop n room ≡ drop (length (map as_given pieces)) room = left (cases_lt (length room) (length pieces)) in
    sym (take-append-drop n out) ∙ (λ i. (given ∙ first) i ++ (rest ∙ second) i) where
      go : (length room < length pieces) ⊎ (length pieces ≤ length room) → map as_given (take n pieces) ≡ take (length room) (map as_given pieces)
      go (inl lt) = let e : n ≡ length room = omega (arith, is, lt) in sym (take-map as_given n pieces) ∙ ap (λ (k : ℕ). take k (map as_given pieces)) e
      go (inr le) =
          let few : length pieces ≤ n = omega (arith, is, le) in
          ap (map as_given) (take_all n pieces few) ∙ sym (take_all (length room) (map as_given pieces) (omega (arith, le, length-map pieces as_given)))

      left : (length room < length pieces) ⊎ (length pieces ≤ length room) → drop n room ≡ drop (length (map as_given pieces)) room
      left (inl lt) = drop_all n room (omega (arith, is, lt)) ∙ sym (drop_all (length (map as_given pieces)) room (omega (arith, lt, length-map pieces as_given)))
      left (inr le) = let e : n ≡ length (map as_given pieces) = omega (arith, is, le, length-map pieces as_given) in ap (λ (k : ℕ). drop k room) e
