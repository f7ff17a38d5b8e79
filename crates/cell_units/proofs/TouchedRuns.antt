-- Which lines touch given rows: those from the line of the first row's start to that of the last row's end.
use Rattle.std.proofs.Common.{◌≡◌, ℕ, ◌+◌, ◌-◌, ◌<◌, ◌≤◌, suc, Bool, true, false, cond, eqb, not, List, [], ◌∷◌, ◌++◌, length, take, drop, map, refl, sym, ap, ◌∙◌, arith, append_assoc, length-append, get_or}
use Rattle.std.specs.List.{count_by, filter, prefix_len, suffix_len}
use Rattle.std.proofs.lemmas.List.{append-nil, get_or-append_right, get_or_append_left, take-append-le, take-append-drop, length-take-le, length-drop, drop-drop, take_at, length-map}
use Rattle.std.proofs.lemmas.List.Sums.{length-filter, sum_by-cons, sum_by-append, suffix_len_is}
use Rattle.cell_units.specs.declared.place.Bias.TheVariants.{Left, Right}
use Rattle.cell_units.specs.Text.{line_feed, is_feed, row_of, row_start, row_end}
use Rattle.cell_units.specs.Record.{Inlay, Fold, Record}
use Rattle.cell_units.specs.Inlaid.{Token, Byte, Hidden, is_break, inlays_at, show_each}
use Rattle.cell_units.specs.Folded.{inside, covered, shown, folded_before, line_of, display_lines, token_row}
use Rattle.cell_units.specs.Cutting.{cut_lines}
use Rattle.cell_units.specs.Pieces.{pieces_of}
use Rattle.cell_units.specs.Touched.{is_touched, one_run}
use Rattle.cell_units.specs.Lawful.{HasLawfulEntries}
use Rattle.cell_units.specs.LineCounts.{RowsAreOneRun}
use Rattle.cell_units.proofs.OperatedLines.{end_is_free}
use Rattle.cell_units.proofs.CutLists.{Every, ended, Split, split}
use Rattle.cell_units.proofs.CutRuns.{Touching, touching}
use Rattle.cell_units.proofs.ShownMoved.{show_each-append, ended-inside, ended-each, inside_covered}
use Rattle.cell_units.proofs.BufferLines.{feeds, feeds-append}
use Rattle.cell_units.proofs.RowFeeds.{RowEnd, row_end as end_of_row, feeds-free, feeds_take_at}
use Rattle.cell_units.proofs.CountedLines.{Cut, upto_end, touched, part_above, part_within, part_below, parts, folded_is, by_rows, ends_is, within_some}
use Rattle.cell_units.proofs.FoundEntries.{All-from_Every}
use Rattle.cell_units.proofs.UntouchedLines.{run_is}

-- ---- where rows start and end

ended_at : {X : Type 0} (brk : X → Bool) (e : Bool) (xs : List X) (d : X) → 0 < length xs → ended brk e xs ≡ true → brk (get_or xs (length xs - 1) d) ≡ true
ended_at brk e [] d some h = absurd (omega arith)
ended_at brk e (x ∷ []) d some h = h
ended_at brk e (x ∷ y ∷ ys) d some h =
    let at : length (x ∷ y ∷ ys) - 1 ≡ suc (length (y ∷ ys) - 1) = omega arith in
    ap (λ k. brk (get_or (x ∷ y ∷ ys) k d)) at ∙ ended_at brk (brk x) (y ∷ ys) d (omega arith) h

pub suffix_is : (whole rest : List ℕ) → ended is_feed true whole ≡ true → Every (λ b. is_feed b ≡ false) rest → suffix_len (λ b. not (is_feed b)) (whole ++ rest) ≡ length rest
suffix_is whole rest h free =
    suffix_len_is (λ b. not (is_feed b)) (whole ++ rest) (length whole) 0 (omega (arith, length-append whole rest))
    (λ k from to. ap (λ (c : ℕ). not (is_feed c)) (get_or-append_right whole rest (length whole) k 0 refl from)
    ∙ ap not (All-from_Every (λ b. is_feed b ≡ false) rest free (k - length whole) 0 (omega (arith, length-append whole rest, to))))
    (λ some. ap (λ (c : ℕ). not (is_feed c)) (get_or_append_left whole rest 0 (length whole - 1) (omega arith)) ∙ ap not (ended_at is_feed true whole 0 some h))
    ∙ omega (arith, length-append whole rest)

pub prefix_row : (row rest : List ℕ) → Every (λ b. is_feed b ≡ false) row → prefix_len (λ b. not (is_feed b)) (row ++ (line_feed ∷ rest)) ≡ length row
prefix_row [] rest free = refl
prefix_row (b ∷ row) rest free =
    (λ i. cond (not (free.0 i)) (1 + prefix_row row rest free.1 i) 0) ∙ omega arith

pub prefix_end : (ys : List ℕ) → prefix_len (λ b. not (is_feed b)) (ys ++ line_feed ∷ []) ≡ prefix_len (λ b. not (is_feed b)) ys
prefix_end [] = refl
prefix_end (y ∷ ys) = ap (λ n. cond (not (is_feed y)) (1 + n) 0) (prefix_end ys)

-- ---- breaks

pub count-cons : {X : Type 0} (p : X → Bool) (x : X) (xs : List X) → count_by p (x ∷ xs) ≡ cond (p x) 1 0 + count_by p xs
count-cons p x xs = sum_by-cons (λ y. cond (p y) 1 0) x xs

pub count-append : {X : Type 0} (p : X → Bool) (xs ys : List X) → count_by p (xs ++ ys) ≡ count_by p xs + count_by p ys
count-append p xs ys = sum_by-append (λ y. cond (p y) 1 0) xs ys

-- the last of a list that ends in no break is not counted
count_but_last : {X : Type 0} (brk : X → Bool) (e : Bool) (xs : List X) → ended brk e xs ≡ false → count_by brk (take (length xs - 1) xs) ≡ count_by brk xs
count_but_last brk e [] h = refl
count_but_last brk e (x ∷ []) h = sym (count-cons brk x [] ∙ ap (λ (b : Bool). cond b 1 0 + 0) h)
count_but_last brk e (x ∷ y ∷ ys) h =
    let at : length (x ∷ y ∷ ys) - 1 ≡ suc (length (y ∷ ys) - 1) = omega arith in
    ap (λ k. count_by brk (take k (x ∷ y ∷ ys))) at
    ∙ count-cons brk x (take (length (y ∷ ys) - 1) (y ∷ ys))
    ∙ ap (λ n. cond (brk x) 1 0 + n) (count_but_last brk (brk x) (y ∷ ys) h)
    ∙ sym (count-cons brk x (y ∷ ys))

module _ (inlays : List Inlay) (folds : List Fold) where
  -- the breaks before the start of a row, which no fold's placeholder changes
  pub breaks_to_left : (text : List ℕ) (o : ℕ) → o ≤ length text → line_of text inlays folds o Left ≡ count_by is_break (folded_before text inlays folds o)
  breaks_to_left text o le = go (inside folds o) refl where
    before : List Token
    before = folded_before text inlays folds o

    long : length (take o text) ≡ o
    long = length-take-le o text le

    go : (i : Bool) → inside folds o ≡ i →
        count_by is_break (cond i (take (length (folded_before text inlays folds o) - 1) (folded_before text inlays folds o)) (folded_before text inlays folds o))
        ≡ count_by is_break (folded_before text inlays folds o)
    go false is = refl
    go true is = count_but_last is_break true (folded_before text inlays folds o) (ended-inside inlays folds (take o text) (ap (inside folds) long ∙ is))

  -- the breaks of what is shown up to a feed and of its own offset, with one more where the feed is hidden
  pub breaks_to_right : (text : List ℕ) (o : ℕ) →
      count_by is_break (folded_before text inlays folds o ++ shown inlays folds o line_feed) + cond (cond (covered folds o) false (eqb line_feed line_feed)) 0 1
      ≡ line_of text inlays folds o Right + 1
  breaks_to_right text o = go (inside folds o) (covered folds o) (inside_covered inlays folds o) where
    W : List Token
    W = folded_before text inlays folds o

    one : (c : Bool) → count_by is_break (cond c (Hidden o) (Byte o line_feed) ∷ []) + cond (cond c false true) 0 1 ≡ 1
    one true = refl
    one false = refl

    go : (i c : Bool) → (i ≡ true → c ≡ true) →
        count_by is_break (folded_before text inlays folds o ++ cond i [] (inlays_at inlays o ++ cond c (Hidden o) (Byte o line_feed) ∷ [])) + cond (cond c false true) 0 1
        ≡ count_by is_break (cond i (folded_before text inlays folds o) (folded_before text inlays folds o ++ inlays_at inlays o)) + 1
    go true c h =
        omega (
          arith,
          ap (count_by is_break) (append-nil (folded_before text inlays folds o)),
          ap {B = ℕ} (λ (c : Bool). cond (cond c false true) 0 1) (h refl),
        )
    go false c h =
        omega (
          arith,
          count-append is_break (folded_before text inlays folds o) (inlays_at inlays o ++ cond c (Hidden o) (Byte o line_feed) ∷ []),
          count-append is_break (inlays_at inlays o) (cond c (Hidden o) (Byte o line_feed) ∷ []),
          count-append is_break (folded_before text inlays folds o) (inlays_at inlays o),
          one c,
        )

-- ---- the run

module _ (inlays : List Inlay) (folds : List Fold) (text : List ℕ) (a b : ℕ) (ab : a ≤ b) (bt : b ≤ length text) (free : covered folds (length text) ≡ false) where
  s : Split is_feed (take a text)
  s = split is_feed (take a text)

  r : RowEnd (drop b text)
  r = end_of_row (drop b text)

  abbrev range : List ℕ
  range = take (b - a) (drop a text)

  long_a : length (take a text) ≡ a
  long_a = length-take-le a text (omega arith)

  long_range : length range ≡ b - a
  long_range = length-take-le (b - a) (drop a text) (omega (arith, length-drop a text))

  behind : range ++ drop b text ≡ drop a text
  behind = ap (λ (l : List ℕ). range ++ l) (ap (λ k. drop k text) (omega arith) ∙ sym (drop-drop (b - a) a text)) ∙ take-append-drop (b - a) (drop a text)

  split_is : text ≡ take a text ++ (range ++ drop b text)
  split_is = sym (take-append-drop a text) ∙ ap (λ (l : List ℕ). take a text ++ l) (sym behind)

  text_is : text ≡ s.whole ++ (s.rest ++ (range ++ drop b text))
  text_is = split_is ∙ ap (λ (l : List ℕ). l ++ (range ++ drop b text)) s.is ∙ append_assoc s.whole s.rest (range ++ drop b text)

  c : Cut text s.whole s.rest range (drop b text) r.row r.rest
  c = record { is = text_is; whole = s.whole_ended; start_free = s.rest_free; ends = r.is; row_free = r.free }

  first_is : feeds s.whole ≡ row_of text a
  first_is = omega (arith, ap feeds s.is, feeds-append s.whole s.rest, feeds-free s.rest s.rest_free)

  last_is : feeds s.whole + feeds range ≡ row_of text b
  last_is = omega (
    arith,
    first_is,
    feeds-append (take a text) range,
    ap (λ (l : List ℕ). feeds (take b l)) (split_is ∙ sym (append_assoc (take a text) range (drop b text))),
    feeds_take_at (take a text ++ range) (drop b text) b (omega (arith, length-append (take a text) range, long_a, long_range)),
  )

  start_is : row_start text a ≡ length s.whole
  start_is = omega (arith, long_a, ap length s.is, length-append s.whole s.rest, ap (suffix_len (λ b. not (is_feed b))) s.is, suffix_is s.whole s.rest s.whole_ended s.rest_free)

  abbrev U : List ℕ
  U = upto_end inlays folds text s.whole s.rest range (drop b text) r.row r.rest c

  end_is : row_end text b ≡ length (upto_end inlays folds text s.whole s.rest range (drop b text) r.row r.rest c)
  end_is =
      omega (
        arith,
        sym (prefix_end (drop b text)) ∙ ap (prefix_len (λ b. not (is_feed b))) r.is ∙ prefix_row r.row r.rest r.free,
        length-append s.whole (s.rest ++ (range ++ r.row)),
        length-append s.rest (range ++ r.row),
        length-append range r.row,
        long_a,
        ap length s.is,
        length-append s.whole s.rest,
        long_range,
      )

  abbrev A : List Token
  A = part_above inlays folds text s.whole s.rest range (drop b text) r.row r.rest c

  abbrev M : List Token
  M = part_within inlays folds text s.whole s.rest range (drop b text) r.row r.rest c

  abbrev B : List Token
  B = part_below inlays folds text s.whole s.rest range (drop b text) r.row r.rest c

  pub end_within : row_end text b ≤ length text
  end_within =
      omega (
        arith,
        end_is,
        ap length (by_rows inlays folds text s.whole s.rest range (drop b text) r.row r.rest c),
        length-append text (line_feed ∷ []),
        length-append (upto_end inlays folds text s.whole s.rest range (drop b text) r.row r.rest c) (line_feed ∷ r.rest),
      )

  -- the text up to those two places
  taken_start : take (row_start text a) text ≡ s.whole
  taken_start = ap (take (row_start text a)) text_is ∙ take_at s.whole (s.rest ++ (range ++ drop b text)) (row_start text a) (sym start_is)

  taken_end : take (row_end text b) text ≡ U
  taken_end =
      sym (take-append-le (row_end text b) text (line_feed ∷ []) end_within)
      ∙ ap (take (row_end text b)) (by_rows inlays folds text s.whole s.rest range (drop b text) r.row r.rest c)
      ∙ take_at U (line_feed ∷ r.rest) (row_end text b) (sym end_is)

  above_is : length (filter is_break A) ≡ line_of text inlays folds (row_start text a) Left
  above_is =
      length-filter is_break A
      ∙ ap (λ (l : List ℕ). count_by is_break (show_each (shown inlays folds) 0 l)) (sym taken_start)
      ∙ sym (breaks_to_left inlays folds text (row_start text a) (omega (arith, start_is, long_a, ap length s.is, length-append s.whole s.rest)))

  upto_is : A ++ M ≡ folded_before text inlays folds (row_end text b) ++ shown inlays folds (row_end text b) line_feed
  upto_is =
      ap (λ k. A ++ show_each (shown inlays folds) k (touched inlays folds text s.whole s.rest range (drop b text) r.row r.rest c)) (omega arith)
      ∙ sym (show_each-append (shown inlays folds) 0 s.whole (touched inlays folds text s.whole s.rest range (drop b text) r.row r.rest c))
      ∙ ap (show_each (shown inlays folds) 0) (sym (append_assoc s.whole (s.rest ++ (range ++ r.row)) (line_feed ∷ [])))
      ∙ show_each-append (shown inlays folds) 0 U (line_feed ∷ [])
      ∙ ap (λ (l : List Token). show_each (shown inlays folds) 0 U ++ l) (append-nil (shown inlays folds (0 + length U) line_feed))
      ∙ (λ i. show_each (shown inlays folds) 0 (sym taken_end i) ++ shown inlays folds (at i) line_feed) where
        at : 0 + length U ≡ row_end text b
        at = omega (arith, end_is)

  ends : ended is_break true (A ++ M) ≡ cond (covered folds (row_end text b)) false (eqb line_feed line_feed)
  ends = ends_is inlays folds text s.whole s.rest range (drop b text) r.row r.rest c ∙ ap (λ k. cond (covered folds k) false (eqb line_feed line_feed)) (sym end_is)

  upto_count : length (filter is_break (A ++ M)) + cond (ended is_break true (A ++ M)) 0 1 ≡ line_of text inlays folds (row_end text b) Right + 1
  upto_count =
      (λ i. length-filter is_break (A ++ M) i + cond (ends i) 0 1)
      ∙ ap (λ (l : List Token). count_by is_break l + cond (cond (covered folds (row_end text b)) false (eqb line_feed line_feed)) 0 1) upto_is
      ∙ breaks_to_right inlays folds text (row_end text b)

  all_ended : ended is_break true (A ++ (M ++ B)) ≡ true
  all_ended =
      ap (ended is_break true) (sym (folded_is inlays folds text s.whole s.rest range (drop b text) r.row r.rest c))
      ∙ ended-each inlays folds line_feed text
      ∙ ap (λ (d : Bool). cond d false true) free

  run : Touching is_break (token_row text) (feeds s.whole) (feeds s.whole + feeds range) (A ++ (M ++ B)) (length (filter is_break A)) (length (filter is_break (A ++ M)) + cond (ended is_break true (A ++ M)) 0 1)
  run = touching is_break (token_row text) (feeds s.whole) (feeds s.whole + feeds range) A M B
      (parts inlays folds text s.whole s.rest range (drop b text) r.row r.rest c free)
      (within_some inlays folds text s.whole s.rest range (drop b text) r.row r.rest c) all_ended

  abbrev first : ℕ
  first = line_of text inlays folds (row_start text a) Left

  abbrev last : ℕ
  last = line_of text inlays folds (row_end text b) Right

  lines_are : display_lines text inlays folds ≡ run.front ++ (run.middle ++ run.back)
  lines_are = ap (cut_lines is_break) (folded_is inlays folds text s.whole s.rest range (drop b text) r.row r.rest c) ∙ run.is

  from_is : length run.front ≡ first
  from_is = run.front_long ∙ above_is

  to_is : length run.front + length run.middle ≡ last + 1
  to_is = run.run_long ∙ upto_count

  some : 0 < length run.middle
  some = go run.middle run.middle_some where
    go : (ls : List (List Token)) → (ls ≡ [] → ⊥) → 0 < length ls
    go [] h = absurd (h refl)
    go (l ∷ ls) h = omega arith

  long : length (display_lines text inlays folds) ≡ length run.front + (length run.middle + length run.back)
  long = omega (arith, ap length lines_are, length-append run.front (run.middle ++ run.back), length-append run.middle run.back)

  flags : map (is_touched text (record { first = row_of text a; last = row_of text b })) (display_lines text inlays folds)
      ≡ one_run first (last + 1 - first) (length (display_lines text inlays folds) - (last + 1))
  flags =
      (λ i. map (is_touched text (record { first = sym first_is i; last = sym last_is i })) (lines_are i))
      ∙ run_is text (record { first = feeds s.whole; last = feeds s.whole + feeds range }) run.front run.middle run.back run.front_above run.middle_from run.middle_to run.back_below
      ∙ (λ i. one_run (from_is i) (middle_is i) (back_is i)) where
        middle_is : length run.middle ≡ last + 1 - first
        middle_is = omega (arith, from_is, to_is)

        back_is : length run.back ≡ length (display_lines text inlays folds) - (last + 1)
        back_is = omega (arith, long, to_is)

pub rows_are_one_run : (r : Record) → HasLawfulEntries r → (a b : ℕ) → a ≤ b → b ≤ length r.text → RowsAreOneRun r a b
rows_are_one_run r is a b ab bt =
    let free = end_is_free r is in
    let count = length-map (display_lines r.text r.inlays r.folds) pieces_of in
    let m = some r.inlays r.folds r.text a b ab bt free in
    let f = from_is r.inlays r.folds r.text a b ab bt free in
    let t = to_is r.inlays r.folds r.text a b ab bt free in
    let l = long r.inlays r.folds r.text a b ab bt free in (
      omega (arith, m, f, t),
      omega (arith, m, f, t, l, count),
      flags r.inlays r.folds r.text a b ab bt free
          ∙ ap (λ n. one_run (first r.inlays r.folds r.text a b ab bt free) (last r.inlays r.folds r.text a b ab bt free + 1 - first r.inlays r.folds r.text a b ab bt free) (n - (last r.inlays r.folds r.text a b ab bt free + 1))) (sym count),
    )
