-- The untouched lines after a change are those before it, moved.
use Rattle.std.proofs.Common.{◌≡◌, ℕ, ◌+◌, ◌<◌, ◌≤◌, Bool, true, false, leb, List, [], ◌∷◌, ◌++◌, length, map, replicate, take, drop, refl, sym, ap, subst, ◌∙◌, arith, append_assoc, length-append}
use Rattle.std.proofs.lemmas.Bool.{le-leb, lt-leb, and_left, and_right, and_from}
use Rattle.std.proofs.lemmas.List.{append-nil, take_at, drop_at, length-map, map-append}
use Rattle.cell_units.specs.declared.piece.Piece.{Piece}
use Rattle.cell_units.specs.Record.{Record}
use Rattle.cell_units.specs.Inlaid.{Token, is_break}
use Rattle.cell_units.specs.Folded.{display_lines, folded, token_row, span_start, span_end}
use Rattle.cell_units.specs.Pieces.{pieces_of}
use Rattle.cell_units.specs.Touched.{RowRange, Touched, NoLine, EachLine, Rows, is_touched, touched_before, untouched, one_run}
use Rattle.cell_units.specs.LineCounts.{TouchesOneRun, KeepsPieces}
use Rattle.cell_units.proofs.CutLists.{Every, FirstIs, LastIs}
use Rattle.cell_units.proofs.CutRuns.{Counted}

-- ---- lists in three parts

all_same : {X : Type 0} (q : X → Bool) (v : Bool) (xs : List X) → Every (λ x. q x ≡ v) xs → map q xs ≡ replicate (length xs) v
all_same q v [] h = refl
all_same q v (x ∷ xs) h = λ i. h.0 i ∷ all_same q v xs h.1 i

in_three : {X : Type 0} (q : X → Bool) (front middle back : List X) → Every (λ x. q x ≡ false) front → Every (λ x. q x ≡ true) middle → Every (λ x. q x ≡ false) back →
    map q (front ++ (middle ++ back)) ≡ one_run (length front) (length middle) (length back)
in_three q front middle back f m b =
    map-append q front (middle ++ back)
    ∙ (λ i. all_same q false front f i ++ map-append q middle back i)
    ∙ (λ i. replicate (length front) false ++ (all_same q true middle m i ++ all_same q false back b i))

-- of the untouched ones what a function makes of each
untouched_back : {X Y : Type 0} (f : X → Y) (back : List X) → untouched (replicate (length back) false) (map f back) ≡ map f back
untouched_back f [] = refl
untouched_back f (x ∷ xs) = λ i. f x ∷ untouched_back f xs i

untouched_middle : {X Y : Type 0} (f : X → Y) (middle back : List X) →
    untouched (replicate (length middle) true ++ replicate (length back) false) (map f (middle ++ back)) ≡ map f back
untouched_middle f [] back = untouched_back f back
untouched_middle f (x ∷ xs) back = untouched_middle f xs back

pub untouched_run : {X Y : Type 0} (f : X → Y) (front middle back : List X) →
    untouched (one_run (length front) (length middle) (length back)) (map f (front ++ (middle ++ back))) ≡ map f (front ++ back)
untouched_run f [] middle back = untouched_middle f middle back
untouched_run f (x ∷ xs) middle back = λ i. f x ∷ untouched_run f xs middle back i

-- ---- which lines are touched

module _ (text : List ℕ) (rows : RowRange) where
  end_is : (P : ℕ → Type 0) (l : List Token) → LastIs (λ x. P (token_row text x)) l → P (span_end text l)
  end_is P [] h = absurd h
  end_is P (t ∷ []) h = h
  end_is P (t ∷ u ∷ us) h = end_is P (u ∷ us) h

  start_is : (P : ℕ → Type 0) (l : List Token) → FirstIs (λ x. P (token_row text x)) l → P (span_start text l)
  start_is P [] h = absurd h
  start_is P (t ∷ ts) h = h

  above : (ls : List (List Token)) → Every (LastIs (λ x. token_row text x < rows.first)) ls → Every (λ l. is_touched text rows l ≡ false) ls
  above [] a = tt
  above (l ∷ ls) a = (and_right (leb (span_start text l) rows.last) (leb rows.first (span_end text l)) (lt-leb rows.first (span_end text l) (end_is (λ k. k < rows.first) l a.0)), above ls a.1)

  below : (ls : List (List Token)) → Every (FirstIs (λ x. rows.last < token_row text x)) ls → Every (λ l. is_touched text rows l ≡ false) ls
  below [] a = tt
  below (l ∷ ls) a = (and_left (leb (span_start text l) rows.last) (leb rows.first (span_end text l)) (lt-leb (span_start text l) rows.last (start_is (λ k. rows.last < k) l a.0)), below ls a.1)

  within : (ls : List (List Token)) → Every (FirstIs (λ x. token_row text x ≤ rows.last)) ls → Every (LastIs (λ x. rows.first ≤ token_row text x)) ls →
      Every (λ l. is_touched text rows l ≡ true) ls
  within [] a b = tt
  within (l ∷ ls) a b = (
    and_from (leb (span_start text l) rows.last) (leb rows.first (span_end text l)) (le-leb (span_start text l) rows.last (start_is (λ k. k ≤ rows.last) l a.0)) (le-leb rows.first (span_end text l) (end_is (λ k. rows.first ≤ k) l b.0)),
    within ls a.1 b.1,
  )

  pub run_is : (front middle back : List (List Token)) → Every (LastIs (λ x. token_row text x < rows.first)) front →
      Every (FirstIs (λ x. token_row text x ≤ rows.last)) middle → Every (LastIs (λ x. rows.first ≤ token_row text x)) middle →
      Every (FirstIs (λ x. rows.last < token_row text x)) back →
      map (is_touched text rows) (front ++ (middle ++ back)) ≡ one_run (length front) (length middle) (length back)
  run_is front middle back f m m' b = in_three (is_touched text rows) front middle back (above front f) (within middle m m') (below back b)

-- ---- two records

-- there is a touched line, the lines before the touched ones end before the rows, and those after them start after
-- these
pub record LieApart (rows : RowRange) (r : Record) (front middle : ℕ) : Type 0 where
  pub some : 0 < middle
  pub in_front : Every (λ l. span_end r.text l < rows.first) (take front (display_lines r.text r.inlays r.folds))
  pub behind : Every (λ l. rows.last < span_start r.text l) (drop (front + middle) (display_lines r.text r.inlays r.folds))

abbrev pub AreApart : Touched → Record → ℕ → ℕ → Type 0
AreApart (Rows before after) r front middle = LieApart before r front middle
AreApart _ r front middle = Unit {0}

-- what is proved of an operation
pub record KeepsLines (touched : Touched) (moved : Piece → Piece) (r r' : Record) : Type 0 where
  pub run : TouchesOneRun touched r r'
  pub pieces : KeepsPieces touched moved r r'
  pub apart : AreApart touched r run.front run.before

-- two records whose lines are counted keep their lines
module _ (sh : Token → Token) (moved : Piece → Piece) (moves : (l : List Token) → pieces_of (map sh l) ≡ map moved (pieces_of l))
    (r r' : Record) (first last last' : ℕ)
    (c : Counted is_break sh (token_row r.text) (token_row r'.text) first last last' (folded r.text r.inlays r.folds) (folded r'.text r'.inlays r'.folds)) where
  abbrev rows : RowRange
  rows = record { first = first; last = last }

  abbrev rows' : RowRange
  rows' = record { first = first; last = last' }

  before_are : map (is_touched r.text rows) (display_lines r.text r.inlays r.folds) ≡ one_run (length c.front) (length c.middle) (length c.back)
  before_are = ap (map (is_touched r.text rows)) c.before_is ∙ run_is r.text rows c.front c.middle c.back c.front_above c.middle_from c.middle_to c.back_below

  after_are : map (is_touched r'.text rows') (display_lines r'.text r'.inlays r'.folds) ≡ one_run (length c.front) (length c.middle') (length (map (map sh) c.back))
  after_are = ap (map (is_touched r'.text rows')) c.after_is ∙ run_is r'.text rows' c.front c.middle' (map (map sh) c.back) c.front_above' c.middle_from' c.middle_to' c.back_below'

  ends : (ls : List (List Token)) → Every (LastIs (λ x. token_row r.text x < first)) ls → Every (λ l. span_end r.text l < first) ls
  ends [] a = tt
  ends (l ∷ ls) a = (end_is r.text rows (λ k. k < first) l a.0, ends ls a.1)

  starts : (ls : List (List Token)) → Every (FirstIs (λ x. last < token_row r.text x)) ls → Every (λ l. last < span_start r.text l) ls
  starts [] a = tt
  starts (l ∷ ls) a = (start_is r.text rows (λ k. last < k) l a.0, starts ls a.1)

  apart : LieApart rows r (length c.front) (length c.middle)
  apart = record {
    some = some c.middle c.middle_some;
    in_front = subst (Every (λ l. span_end r.text l < first)) (sym (ap (take (length c.front)) c.before_is ∙ take_at c.front (c.middle ++ c.back) (length c.front) refl)) (ends c.front c.front_above);
    behind = subst (Every (λ l. last < span_start r.text l))
        (sym (ap (drop (length c.front + length c.middle)) (c.before_is ∙ sym (append_assoc c.front c.middle c.back)) ∙ drop_at (c.front ++ c.middle) c.back (length c.front + length c.middle) (length-append c.front c.middle)))
        (starts c.back c.back_below);
  } where
    some : (ls : List (List Token)) → (ls ≡ [] → ⊥) → 0 < length ls
    some [] h = absurd (h refl)
    some (l ∷ ls) h = omega arith

  moves_all : (ls : List (List Token)) → map pieces_of (map (map sh) ls) ≡ map (map moved) (map pieces_of ls)
  moves_all [] = refl
  moves_all (l ∷ ls) = λ i. moves l i ∷ moves_all ls i

  pieces_are : KeepsPieces (Rows rows rows') moved r r'
  pieces_are =
      (λ i. untouched (after_are i) (map pieces_of (c.after_is i)))
      ∙ untouched_run pieces_of c.front c.middle' (map (map sh) c.back)
      ∙ ap (map pieces_of) ((λ i. sym c.front_still i ++ map (map sh) c.back) ∙ sym (map-append (map sh) c.front c.back))
      ∙ moves_all (c.front ++ c.back)
      ∙ ap (map (map moved)) (sym (untouched_run pieces_of c.front c.middle c.back) ∙ (λ i. untouched (sym before_are i) (map pieces_of (sym c.before_is i))))

  pub lines_kept : KeepsLines (Rows rows rows') moved r r'
  lines_kept = record {
    run = record {
      front = length c.front;
      before = length c.middle;
      after = length c.middle';
      back = length c.back;
      before_are = before_are;
      after_are = after_are ∙ ap (one_run (length c.front) (length c.middle')) (length-map c.back (map sh));
    };
    pieces = pieces_are;
    apart = apart;
  }

-- ---- none and all

each_line : {X : Type 0} (v : Bool) (xs : List X) → map (λ x. v) xs ≡ replicate (length xs) v
each_line v [] = refl
each_line v (x ∷ xs) = λ i. v ∷ each_line v xs i

same_lines : (ls : List (List Piece)) → ls ≡ map (map (λ p. p)) ls
same_lines [] = refl
same_lines (l ∷ ls) = λ i. same l i ∷ same_lines ls i where
  same : (ps : List Piece) → ps ≡ map (λ p. p) ps
  same [] = refl
  same (p ∷ ps) = λ i. p ∷ same ps i

-- records that show the same lines
module _ (r r' : Record) (same : display_lines r'.text r'.inlays r'.folds ≡ display_lines r.text r.inlays r.folds) where
  pub lines_kept-none : KeepsLines NoLine (λ p. p) r r'
  lines_kept-none = record {
    run = record {
      front = 0;
      before = 0;
      after = 0;
      back = length (display_lines r.text r.inlays r.folds);
      before_are = each_line false (display_lines r.text r.inlays r.folds);
      after_are = ap (map (λ line. false)) same ∙ each_line false (display_lines r.text r.inlays r.folds);
    };
    pieces = (λ i. untouched (map (λ line. false) (same i)) (map pieces_of (same i))) ∙ same_lines (untouched (touched_before NoLine r) (map pieces_of (display_lines r.text r.inlays r.folds)));
    apart = tt;
  }

  pub lines_kept-each : KeepsLines EachLine (λ p. p) r r'
  lines_kept-each = record {
    run = record {
      front = 0;
      before = length (display_lines r.text r.inlays r.folds);
      after = length (display_lines r.text r.inlays r.folds);
      back = 0;
      before_are = each_line true (display_lines r.text r.inlays r.folds) ∙ sym (append-nil (replicate (length (display_lines r.text r.inlays r.folds)) true));
      after_are = ap (map (λ line. true)) same ∙ each_line true (display_lines r.text r.inlays r.folds) ∙ sym (append-nil (replicate (length (display_lines r.text r.inlays r.folds)) true));
    };
    pieces = (λ i. untouched (map (λ line. true) (same i)) (map pieces_of (same i))) ∙ same_lines (untouched (touched_before EachLine r) (map pieces_of (display_lines r.text r.inlays r.folds)));
    apart = tt;
  }
