-- The display lines of blocks before and after an operation: one that is touched stays among the touched ones.
use Rattle.std.proofs.Common.{◌≡◌, ◌⊎◌, ℕ, ◌+◌, ◌-◌, ◌<◌, ◌≤◌, zero, suc, Bool, true, false, cond, List, [], ◌∷◌, ◌++◌, length, map, take, drop, get_or, Option, Some, None, refl, sym, ap, subst, ◌∙◌, inl, inr, arith, length-drop}
use Rattle.std.specs.Prelude.{◌==◌}
use Rattle.std.specs.List.{count_by, find}
use Rattle.std.proofs.Math.Seq.{take-add}
use Rattle.std.proofs.lemmas.Bool.{cases_lt}
use Rattle.std.proofs.lemmas.List.{take-append-drop, take_more}
use Rattle.cell_units.specs.declared.place.Bias.TheVariants.{Left, Right}
use Rattle.cell_units.specs.declared.place.Side.{Side}
use Rattle.cell_units.specs.declared.place.Side.TheVariants.{Above, Below}
use Rattle.cell_units.specs.Text.{clean, is_feed, row_end, row_of, row_start}
use Rattle.cell_units.specs.Record.{Fold, Inlay, Record}
use Rattle.cell_units.specs.Inlaid.{inlays_at, is_break}
use Rattle.cell_units.specs.Folded.{display_lines, folded_before, inside, line_of}
use Rattle.cell_units.specs.Lawful.{HasLawfulEntries, IsAllowed, IsFoldOf, IsInlayOf, IsLawful}
use Rattle.cell_units.specs.LineCounts.{IsLineThen, LiesBefore, LiesBehind, TouchesOneRun, line_of_row_end, line_of_row_start, lines_of, operated_offset}
use Rattle.cell_units.specs.Operation.{AddBlock, AddFold, AddInlay, Operation, RemoveBlock, RemoveFold, RemoveInlay, Replace, SetTab, SetWidth, operated}
use Rattle.cell_units.specs.Touched.{EachLine, NoLine, Rows, Touched, one_run, row_range, rows_of, rows_of_fold, rows_of_inlay, touched, touched_after, touched_before}
use Rattle.cell_units.proofs.KeptRows.{keeps_rows}
use Rattle.cell_units.proofs.LawfulOperations.{lawful-operated}
use Rattle.cell_units.proofs.Moves.{Place, Below as Under, Within, Above as Over, place}
use Rattle.cell_units.proofs.ReplacedRows.{row_of-le}
use Rattle.cell_units.proofs.RowsAway.{Spliced, spliced-replaced, taken-before}
use Rattle.cell_units.proofs.RowsWithLines.{go_with_lines}
use Rattle.cell_units.proofs.TouchedRuns.{count-append, count-cons, rows_are_one_run}
use Rattle.plain_rows.specs.Rows.{is_above}
use Rattle.plain_rows.proofs.RisingLines.{line_of-rises, row_end-other, row_end-rises, row_end-within, row_start-le, row_start-next, row_start-rises}
use Rattle.plain_rows.proofs.SpotFronts.{line_of-within}
use Rattle.display_sheet.proofs.StepLaws.{IsLawful-step, length-after, length-before, length-marked, length-run}
use Rattle.display_sheet.proofs.StepRuns.{count_true}
use Rattle.display_sheet.proofs.StepSplices.{same_run}
use Rattle.row_pieces.proofs.OperatedLooks.{each-count, marks-stepped, step-is, stepped'}

-- ---- rows of a text

row_of-next : (text : List ℕ) (o : ℕ) → o < length text → row_of text (o + 1) ≡ row_of text o + cond (is_feed (get_or text o 0)) 1 0
row_of-next text o lt =
    ap (count_by is_feed) (take_more text o 0 lt)
    ∙ count-append is_feed (take o text) (get_or text o 0 ∷ [])
    ∙ ap (λ (n : ℕ). row_of text o + n) (count-cons is_feed (get_or text o 0) [] ∙ omega arith)

same-rows : (text : List ℕ) (y k : ℕ) → y + k ≤ length text → row_of text (y + k) ≤ row_of text y →
    (row_start text (y + k) ≡ row_start text y) × (row_end text (y + k) ≡ row_end text y)
same-rows text y zero within h = let e : y + 0 ≡ y = omega arith in (ap (row_start text) e, ap (row_end text) e)
same-rows text y (suc k) within h = go (is_feed (get_or text (y + k) 0)) refl (λ less. same-rows text y k (omega (arith, within)) less) where
  e : y + suc k ≡ y + k + 1
  e = omega arith

  lt : y + k < length text
  lt = omega (arith, within)

  go : (c : Bool) → is_feed (get_or text (y + k) 0) ≡ c →
      (row_of text (y + k) ≤ row_of text y → (row_start text (y + k) ≡ row_start text y) × (row_end text (y + k) ≡ row_end text y)) →
      (row_start text (y + suc k) ≡ row_start text y) × (row_end text (y + suc k) ≡ row_end text y)
  go true c ih =
      absurd (omega (arith, h, ap (row_of text) e, row_of-next text (y + k) lt, ap {B = ℕ} (λ (d : Bool). cond d 1 0) c, row_of-le text y (y + k) (omega arith)))
  go false c ih =
      let less : row_of text (y + k) ≤ row_of text y = omega (arith, h, row_of-le text (y + k) (y + suc k) (omega arith)) in
      let rest = ih less in (
        ap (row_start text) e ∙ row_start-next text (y + k) false lt c ∙ rest.0,
        ap (row_end text) e ∙ sym (row_end-other text (y + k) lt c) ∙ rest.1,
      )

pub rows-rise : (text : List ℕ) (x y : ℕ) → x ≤ length text → y ≤ length text → row_of text x ≤ row_of text y →
    (row_start text x ≤ row_start text y) × (row_end text x ≤ row_end text y)
rows-rise text x y xs ys h = go (cases_lt y x) where
  go : (y < x) ⊎ (x ≤ y) → (row_start text x ≤ row_start text y) × (row_end text x ≤ row_end text y)
  go (inl lt) =
      let at : y + (x - y) ≡ x = omega (arith, lt) in
      let same = same-rows text y (x - y) (omega (arith, at, xs)) (omega (arith, h, ap (row_of text) at)) in
      (omega (arith, same.0, ap (row_start text) at), omega (arith, same.1, ap (row_end text) at))
  go (inr le) = (row_start-rises text x y le ys, row_end-rises text x y le ys)

-- ---- lines of a record

-- the line of a block of this side that is at this offset
abbrev pub side_line : Record → Side → ℕ → ℕ
side_line q side o = cond (is_above side) (line_of_row_start q o) (line_of_row_end q o)

module _ (q : Record) where
  left-right : (o : ℕ) → line_of q.text q.inlays q.folds o Left ≤ line_of q.text q.inlays q.folds o Right
  left-right o = go (inside q.folds o) where
    go : (b : Bool) → count_by is_break (cond b (take (length (folded_before q.text q.inlays q.folds o) - 1) (folded_before q.text q.inlays q.folds o)) (folded_before q.text q.inlays q.folds o))
        ≤ count_by is_break (cond b (folded_before q.text q.inlays q.folds o) (folded_before q.text q.inlays q.folds o ++ inlays_at q.inlays o))
    go true =
        let bf = folded_before q.text q.inlays q.folds o in
        let n = length bf - 1 in
        omega (arith, count-append is_break (take n bf) (drop n bf), ap (count_by is_break) (take-append-drop n bf))
    go false = omega (arith, count-append is_break (folded_before q.text q.inlays q.folds o) (inlays_at q.inlays o))

  row_end-past : (o : ℕ) → o ≤ row_end q.text o
  row_end-past o = omega arith

  pub from-start : (side : Side) (a o : ℕ) → a ≤ length q.text → o ≤ length q.text → row_of q.text a ≤ row_of q.text o → line_of_row_start q a ≤ side_line q side o
  from-start Above a o aw ow h =
      line_of-rises q.text q.inlays q.folds (row_start q.text a) (row_start q.text o) Left (rows-rise q.text a o aw ow h).0 (omega (arith, row_start-le q.text o, ow))
  from-start Below a o aw ow h =
      omega (
        arith,
        left-right (row_start q.text a),
        line_of-rises q.text q.inlays q.folds (row_start q.text a) (row_end q.text o) Right
            (omega (arith, (rows-rise q.text a o aw ow h).0, row_start-le q.text o, row_end-past o)) (row_end-within q.text o ow),
      )

  pub upto-end : (side : Side) (o b : ℕ) → o ≤ length q.text → b ≤ length q.text → row_of q.text o ≤ row_of q.text b → side_line q side o ≤ line_of_row_end q b
  upto-end Above o b ow bw h =
      omega (
        arith,
        left-right (row_start q.text o),
        line_of-rises q.text q.inlays q.folds (row_start q.text o) (row_end q.text b) Right
            (omega (arith, (rows-rise q.text o b ow bw h).1, row_start-le q.text o, row_end-past o)) (row_end-within q.text b bw),
      )
  upto-end Below o b ow bw h =
      line_of-rises q.text q.inlays q.folds (row_end q.text o) (row_end q.text b) Right (rows-rise q.text o b ow bw h).1 (row_end-within q.text b bw)

-- ---- what an operation touches

-- rows from one offset to another, before and after, and where offsets of and around these rows go
pub record Reach (operation : Operation) (r : Record) : Type 0 where
  pub a : ℕ
  pub b : ℕ
  pub a' : ℕ
  pub b' : ℕ
  pub is : touched operation r ≡ Rows (row_range r.text a b) (row_range (operated operation r).text a' b')
  pub order : a ≤ b
  pub within : b ≤ length r.text
  pub order' : a' ≤ b'
  pub within' : b' ≤ length (operated operation r).text
  pub low : (o : ℕ) → o ≤ length r.text → row_of r.text a ≤ row_of r.text o → row_of (operated operation r).text a' ≤ row_of (operated operation r).text (operated_offset operation o)
  pub high : (o : ℕ) → o ≤ length r.text → row_of r.text o ≤ row_of r.text b → row_of (operated operation r).text (operated_offset operation o) ≤ row_of (operated operation r).text b'

pub data Touch (operation : Operation) (r : Record) : Type 0 where
  None_ : touched operation r ≡ NoLine → Touch operation r
  Each_ : touched operation r ≡ EachLine → Touch operation r
  Some_ : Reach operation r → Touch operation r

in_place : (operation : Operation) (r : Record) (a b : ℕ) → (operated operation r).text ≡ r.text → ((o : ℕ) → operated_offset operation o ≡ o) →
    touched operation r ≡ rows_of r.text a b → a ≤ b → b ≤ length r.text → Reach operation r
in_place operation r a b same stay e ab bt = record {
  a = a;
  b = b;
  a' = a;
  b' = b;
  is = e ∙ ap (λ (t : List ℕ). Rows (row_range r.text a b) (row_range t a b)) (sym same);
  order = ab;
  within = bt;
  order' = ab;
  within' = subst (λ (t : List ℕ). b ≤ length t) (sym same) bt;
  low = λ o le h. omega (arith, h, ap (λ (t : List ℕ). row_of t a) same, ap (λ (t : List ℕ). row_of t o) same, ap (row_of (operated operation r).text) (stay o));
  high = λ o le h. omega (arith, h, ap (λ (t : List ℕ). row_of t b) same, ap (λ (t : List ℕ). row_of t o) same, ap (row_of (operated operation r).text) (stay o));
}

-- how many rows lie between two offsets
row-split : (t : List ℕ) (x k : ℕ) → row_of t (x + k) ≡ row_of t x + count_by is_feed (take k (drop x t))
row-split t x k = ap (count_by is_feed) (take-add x k t) ∙ count-append is_feed (take x t) (take k (drop x t))

module _ (r : Record) (a b : ℕ) (s : List ℕ) (ab : a ≤ b) (bt : b ≤ length r.text) where
  abbrev pub n : ℕ
  n = length (clean s)

  abbrev pub text' : List ℕ
  text' = (operated (Replace a b s) r).text

  pub spliced : Spliced r.text text' a b n
  spliced = spliced-replaced r.text (clean s) a b ab bt

  row-same : (o : ℕ) → o ≤ a → row_of text' o ≡ row_of r.text o
  row-same o le = ap (count_by is_feed) (taken-before r.text text' a b n spliced o le)

  pub moved-low : (o : ℕ) → o ≤ length r.text → row_of r.text a ≤ row_of r.text o → row_of text' a ≤ row_of text' (operated_offset (Replace a b s) o)
  moved-low o le h = go (place o Right a b n ab) where
    go : Place o Right a b n → row_of text' a ≤ row_of text' (operated_offset (Replace a b s) o)
    go (Under lt e) = omega (arith, h, ap (row_of text') e, row-same o (omega (arith, lt)), row-same a (omega arith))
    go (Within g l low up) = row_of-le text' a (operated_offset (Replace a b s) o) low
    go (Over lt e) = row_of-le text' a (operated_offset (Replace a b s) o) (omega (arith, e, lt, ab))

  pub moved-high : (o : ℕ) → o ≤ length r.text → row_of r.text o ≤ row_of r.text b → row_of text' (operated_offset (Replace a b s) o) ≤ row_of text' (a + n)
  moved-high o le h = go (place o Right a b n ab) where
    go : Place o Right a b n → row_of text' (operated_offset (Replace a b s) o) ≤ row_of text' (a + n)
    go (Under lt e) = row_of-le text' (operated_offset (Replace a b s) o) (a + n) (omega (arith, e, lt))
    go (Within g l low up) = row_of-le text' (operated_offset (Replace a b s) o) (a + n) up
    go (Over lt e) =
        let there : operated_offset (Replace a b s) o ≡ a + n + (o - b) = omega (arith, e, lt, ab) in
        let here : b + (o - b) ≡ o = omega (arith, lt) in
        omega (
          arith,
          h,
          ap (row_of text') there,
          row-split text' (a + n) (o - b),
          ap (λ (l : List ℕ). count_by is_feed (take (o - b) l)) spliced.behind,
          row-split r.text b (o - b),
          ap (row_of r.text) here,
        )

  pub after-reaches : a + n ≤ length text'
  after-reaches = spliced.reaches

  pub after-long : length text' - (a + n) ≡ length r.text - b
  after-long = sym (length-drop (a + n) text') ∙ ap length spliced.behind ∙ length-drop b r.text

  pub moved-within : (o : ℕ) → o ≤ length r.text → operated_offset (Replace a b s) o ≤ length text'
  moved-within o le = go (place o Right a b n ab) where
    reaches : a + n ≤ length text'
    reaches = spliced.reaches

    long : length text' - (a + n) ≡ length r.text - b
    long = sym (length-drop (a + n) text') ∙ ap length spliced.behind ∙ length-drop b r.text

    go : Place o Right a b n → operated_offset (Replace a b s) o ≤ length text'
    go (Under lt e) = omega (arith, e, lt, reaches)
    go (Within g l low up) = omega (arith, up, reaches)
    go (Over lt e) = omega (arith, e, lt, ab, reaches, long, le, bt)

  abbrev pub replaced : Reach (Replace a b s) r
  replaced = record {
    a = a;
    b = b;
    a' = a;
    b' = a + n;
    is = refl;
    order = ab;
    within = bt;
    order' = omega arith;
    within' = spliced.reaches;
    low = moved-low;
    high = moved-high;
  }

found-in : {X : Type 0} (P : X → Type 0) (p : X → Bool) (xs : List X) (i : X) → ((k : ℕ) (d : X) → k < length xs → P (get_or xs k d)) → find p xs ≡ Some i → P i
found-in P p [] i h e = absurd (cc e)
found-in P p (x ∷ xs) i h e = go (p x) e (λ k. found-in P p xs i (λ k d lt. h (suc k) d (omega (arith, lt))) k) where
  go : (b : Bool) → cond b (Some x) (find p xs) ≡ Some i → (find p xs ≡ Some i → P i) → P i
  go true e rest = let same : x ≡ i = cc e in subst P same (h 0 x (omega arith))
  go false e rest = rest e

pub touch-of : (operation : Operation) (r : Record) → HasLawfulEntries r → IsAllowed operation r → Touch operation r
touch-of (Replace a b s) r is ok = Some_ (replaced r a b s ok.2 ok.1.0)
touch-of (AddInlay i) r is ok = Some_ (in_place (AddInlay i) r i.offset i.offset refl (λ o. refl) refl (omega arith) ok.0.boundary.0)
touch-of (RemoveInlay id) r is ok = go (find (λ i. i.id == id) r.inlays) refl where
  go : (f : Option Inlay) → find (λ i. i.id == id) r.inlays ≡ f → Touch (RemoveInlay id) r
  go None e = None_ (ap (rows_of_inlay r.text) e)
  go (Some i) e =
      let own : IsInlayOf r.text i = found-in (IsInlayOf r.text) (λ i. i.id == id) r.inlays i is.source.inlays.each e in
      Some_ (in_place (RemoveInlay id) r i.offset i.offset refl (λ o. refl) (ap (rows_of_inlay r.text) e) (omega arith) own.boundary.0)
touch-of (AddFold f) r is ok = Some_ (in_place (AddFold f) r f.start f.end refl (λ o. refl) refl (omega (arith, ok.0.some)) ok.0.end.0)
touch-of (RemoveFold id) r is ok = go (find (λ f. f.id == id) r.folds) refl where
  go : (g : Option Fold) → find (λ f. f.id == id) r.folds ≡ g → Touch (RemoveFold id) r
  go None e = None_ (ap (rows_of_fold r.text) e)
  go (Some f) e =
      let own : IsFoldOf r.text f = found-in (IsFoldOf r.text) (λ f. f.id == id) r.folds f is.source.folds.each e in
      Some_ (in_place (RemoveFold id) r f.start f.end refl (λ o. refl) (ap (rows_of_fold r.text) e) (omega (arith, own.some)) own.end.0)
touch-of (AddBlock row id side lines) r is ok = None_ refl
touch-of (RemoveBlock id) r is ok = None_ refl
touch-of (SetTab tab) r is ok = Each_ refl
touch-of (SetWidth width) r is ok = None_ refl

pub offset-within : (operation : Operation) (r : Record) → IsAllowed operation r → (o : ℕ) → o ≤ length r.text → operated_offset operation o ≤ length (operated operation r).text
offset-within (Replace a b s) r ok o le = moved-within r a b s ok.2 ok.1.0 o le
offset-within (AddInlay i) r ok o le = le
offset-within (RemoveInlay id) r ok o le = le
offset-within (AddFold f) r ok o le = le
offset-within (RemoveFold id) r ok o le = le
offset-within (AddBlock row id side lines) r ok o le = le
offset-within (RemoveBlock id) r ok o le = le
offset-within (SetTab tab) r ok o le = le
offset-within (SetWidth width) r ok o le = le

-- ---- lines of blocks

none-count : {X : Type 0} (xs : List X) → count_by (λ t. t) (map (λ x. false) xs) ≡ 0
none-count [] = refl
none-count (x ∷ xs) = omega (arith, count-cons (λ (t : Bool). t) false (map (λ x. false) xs), none-count xs)

module _ (operation : Operation) (r : Record) (is : IsLawful r) (ok : IsAllowed operation r) (run : TouchesOneRun (touched operation r) r (operated operation r)) where
  abbrev r' : Record
  r' = operated operation r

  abbrev at : ℕ → ℕ
  at o = operated_offset operation o

  pub goes : (side : Side) (o : ℕ) → o ≤ length r.text → IsLineThen run.front run.before run.after (side_line r side o) (side_line r' side (at o))
  goes Above o le = let g = go_with_lines r is.entries operation ok run in g.start o le
  goes Below o le = let g = go_with_lines r is.entries operation ok run in g.end o le

  long : length (lines_of r) ≡ run.front + (run.before + run.back)
  long = omega (arith, length-marked r, length-before (touched operation r) r, ap length run.before_are, length-run run.front run.before run.back)

  long' : length (lines_of r') ≡ run.front + (run.after + run.back)
  long' = omega (arith, length-marked r', length-after (touched operation r) r', ap length run.after_are, length-run run.front run.after run.back)

  -- a line from the touched ones on stays from them on, and one up to them stays up to them
  pub record Stays : Type 0 where
    pub low : (side : Side) (o : ℕ) → o ≤ length r.text → run.front ≤ side_line r side o → run.front ≤ side_line r' side (at o)
    pub high : (side : Side) (o : ℕ) → o ≤ length r.text → side_line r side o < run.front + run.before → side_line r' side (at o) < run.front + run.after

  pub none-touched : touched operation r ≡ NoLine → (run.before ≡ 0) × (run.after ≡ 0)
  none-touched e = (
    sym (count_true run.front run.before run.back) ∙ ap (count_by (λ t. t)) (sym run.before_are ∙ ap (λ (t : Touched). touched_before t r) e) ∙ none-count (display_lines r.text r.inlays r.folds),
    sym (count_true run.front run.after run.back) ∙ ap (count_by (λ t. t)) (sym run.after_are ∙ ap (λ (t : Touched). touched_after t r') e) ∙ none-count (display_lines r'.text r'.inlays r'.folds),
  )

  stays-none : touched operation r ≡ NoLine → Stays
  stays-none e =
      let zeros = none-touched e in
      let before = zeros.0 in
      let after = zeros.1 in
      record {
        low = λ side o le from. omega (arith, (goes side o le).behind (omega (arith, from, before)), before, from);
        high = λ side o le to. omega (arith, (goes side o le).in_front (omega (arith, to, before)), to, before);
      }

  within-lines : (side : Side) (o : ℕ) → o ≤ length r.text → side_line r' side (at o) < run.front + (run.after + run.back)
  within-lines side o le =
      let lawful : IsLawful (stepped' operation r is ok run) = subst IsLawful (step-is operation r is ok run) (IsLawful-step operation r is ok) in
      let count : length (stepped' operation r is ok run).marks ≡ run.front + (run.after + run.back) = sym (ap (λ (q : Record). length q.marks) (step-is operation r is ok run)) ∙ marks-stepped operation r is ok run in
      let there = offset-within operation r ok o le in
      go side lawful count there where
        go : (side : Side) → IsLawful (stepped' operation r is ok run) → length (stepped' operation r is ok run).marks ≡ run.front + (run.after + run.back) → at o ≤ length r'.text →
            side_line r' side (at o) < run.front + (run.after + run.back)
        go Above lawful count there = omega (arith, count, line_of-within (stepped' operation r is ok run) lawful (row_start r'.text (at o)) Left (omega (arith, there, row_start-le r'.text (at o))))
        go Below lawful count there = omega (arith, count, line_of-within (stepped' operation r is ok run) lawful (row_end r'.text (at o)) Right (row_end-within r'.text (at o) there))

  stays-each : touched operation r ≡ EachLine → Stays
  stays-each e =
      let all : run.before ≡ length (display_lines r.text r.inlays r.folds) =
      sym (count_true run.front run.before run.back) ∙ ap (count_by (λ t. t)) (sym run.before_are ∙ ap (λ (t : Touched). touched_before t r) e) ∙ each-count (display_lines r.text r.inlays r.folds) in
      let none : run.front + run.back ≡ 0 = omega (arith, all, long, length-marked r) in
      record {
        low = λ side o le from. omega (arith, none);
        high = λ side o le to. omega (arith, none, within-lines side o le);
      }

  same-lines : (side : Side) (o : ℕ) → LiesBefore (touched operation r) (row_of r.text o) → side_line r' side (at o) ≡ side_line r side o
  same-lines Above o lies = let k = keeps_rows r is.entries operation ok in (k.before o lies).start
  same-lines Below o lies = let k = keeps_rows r is.entries operation ok in (k.before o lies).end

  same-from_end : (side : Side) (o : ℕ) → o ≤ length r.text → LiesBehind (touched operation r) (row_of r.text o) → side_line r' side (at o) + length (lines_of r) ≡ side_line r side o + length (lines_of r')
  same-from_end Above o le lies = let k = keeps_rows r is.entries operation ok in (k.behind o le lies).start
  same-from_end Below o le lies = let k = keeps_rows r is.entries operation ok in (k.behind o le lies).end

  module _ (w : Reach operation r) where
    abbrev f : ℕ
    f = line_of_row_start r w.a

    abbrev l : ℕ
    l = line_of_row_end r w.b

    abbrev f' : ℕ
    f' = line_of_row_start r' w.a'

    abbrev l' : ℕ
    l' = line_of_row_end r' w.b'

    -- the run is from the line of the first touched row to that of the last
    pub run-is : (f ≡ run.front) × (l + 1 ≡ run.front + run.before) × (f' ≡ run.front) × (l' + 1 ≡ run.front + run.after)
    run-is =
        let x = rows_are_one_run r is.entries w.a w.b w.order w.within in
        let y = rows_are_one_run r' (lawful-operated r is.entries operation ok) w.a' w.b' w.order' w.within' in
        let before_are : touched_before (touched operation r) r ≡ one_run f (l + 1 - f) (length (lines_of r) - (l + 1)) = ap (λ (t : Touched). touched_before t r) w.is ∙ x.2 in
        let after_are : touched_after (touched operation r) r' ≡ one_run f' (l' + 1 - f') (length (lines_of r') - (l' + 1)) = ap (λ (t : Touched). touched_after t r') w.is ∙ y.2 in
        let s = same_run f (l + 1 - f) (length (lines_of r) - (l + 1)) run.front run.before run.back (omega (arith, x.0)) (sym run.before_are ∙ before_are) in
        let s' = same_run f' (l' + 1 - f') (length (lines_of r') - (l' + 1)) run.front run.after run.back (omega (arith, y.0)) (sym run.after_are ∙ after_are) in (
          s.front,
          omega (arith, s.front, s.middle, x.0),
          s'.front,
          omega (arith, s'.front, s'.middle, y.0),
        )

    stays-some : Stays
    stays-some = record {
      low = λ side o le from. (low_at side o le from (cases_lt (row_of r.text o) (row_of r.text w.a)));
      high = λ side o le to. (high_at side o le to (cases_lt (row_of r.text w.b) (row_of r.text o)));
    } where
      low_at : (side : Side) (o : ℕ) → o ≤ length r.text → run.front ≤ side_line r side o → (row_of r.text o < row_of r.text w.a) ⊎ (row_of r.text w.a ≤ row_of r.text o) → run.front ≤ side_line r' side (at o)
      low_at side o le from (inl lt) = omega (arith, from, same-lines side o (subst (λ (t : Touched). LiesBefore t (row_of r.text o)) (sym w.is) lt))
      low_at side o le from (inr ge) =
          let ends : w.a' ≤ length r'.text = omega (arith, w.order', w.within') in
          omega (arith, run-is.2, from-start r' side w.a' (at o) ends (offset-within operation r ok o le) (w.low o le ge))

      high_at : (side : Side) (o : ℕ) → o ≤ length r.text → side_line r side o < run.front + run.before → (row_of r.text w.b < row_of r.text o) ⊎ (row_of r.text o ≤ row_of r.text w.b) → side_line r' side (at o) < run.front + run.after
      high_at side o le to (inl lt) =
          omega (arith, to, long, long', same-from_end side o le (subst (λ (t : Touched). LiesBehind t (row_of r.text o)) (sym w.is) lt))
      high_at side o le to (inr ge) = omega (arith, run-is.3, upto-end r' side (at o) w.b' (offset-within operation r ok o le) w.within' (w.high o le ge))

    -- a block of a line above the touched ones is before the range, and one of a line below them after it
    pub before-range : (side : Side) (o : ℕ) → o ≤ length r.text → side_line r side o < run.front → o < w.a
    before-range side o le lt = go (cases_lt o w.a) where
      go : (o < w.a) ⊎ (w.a ≤ o) → o < w.a
      go (inl l) = l
      go (inr ge) = absurd (omega (arith, lt, run-is.0, from-start r side w.a o (omega (arith, w.order, w.within)) le (row_of-le r.text w.a o ge)))

    pub after-range : (side : Side) (o : ℕ) → o ≤ length r.text → run.front + run.before ≤ side_line r side o → w.b < o
    after-range side o le ge = go (cases_lt w.b o) where
      go : (w.b < o) ⊎ (o ≤ w.b) → w.b < o
      go (inl l) = l
      go (inr to) = absurd (omega (arith, ge, run-is.1, upto-end r side o w.b le w.within (row_of-le r.text o w.b to)))

  pub stays : Stays
  stays = go (touch-of operation r is.entries ok) where
    go : Touch operation r → Stays
    go (None_ e) = stays-none e
    go (Each_ e) = stays-each e
    go (Some_ w) = stays-some w
