-- Where the lines of a buffer are.
use Rattle.std.proofs.Common.{◌≡◌, ℕ, ◌+◌, ◌-◌, ◌<◌, ◌≤◌, leb, nat_le, ◌⊎◌, zero, suc, Bool, true, false, cond, List, [], ◌∷◌, ◌++◌, length, take, drop, get_or, slice_range, refl, sym, ap, subst, ◌∙◌, inl, inr, arith, length-append, add-one, zero-add}
use Rattle.std.specs.List.{count_by, sum_by, prefix_len}
use Rattle.std.specs.Str.{IsUtf8, IsCharBoundary}
use Rattle.std.proofs.lemmas.Bool.{cases_lt, eqb-true, le-leb, lt-leb}
use Rattle.std.proofs.lemmas.Str.{IsCharBoundary-start, IsCharBoundary-end, IsCharBoundary-before_ascii, IsCharBoundary-after_ascii}
use Rattle.std.proofs.lemmas.List.{take_all, take_at, take-append-le, drop_at, nil_from_length, take_more, length-take-le, append_assoc, drop-take, get_or_past, get_or_default, get_or_append_left, get_or_at}
use Rattle.std.proofs.lemmas.List.Sums.{sum_by-cons, sum_by-append}
use Rattle.cell_units.specs.Text.{line_feed, is_feed, row_of}
use Rattle.cell_units.specs.Cutting.{onto_line}
use Rattle.cell_units.specs.Record.{line_count}
use Rattle.cell_units.specs.BufferLines.{buffer_lines, behind_feeds, line_starts, line_start, line_end}

-- ---- feeds

abbrev pub feeds : List ℕ → ℕ
feeds bytes = count_by is_feed bytes

pub feeds-cons : (b : ℕ) (bs : List ℕ) → count_by is_feed (b ∷ bs) ≡ cond (is_feed b) 1 0 + count_by is_feed bs
feeds-cons b bs = sum_by-cons (λ (c : ℕ). cond (is_feed c) 1 0) b bs

pub feeds-append : (xs ys : List ℕ) → count_by is_feed (xs ++ ys) ≡ count_by is_feed xs + count_by is_feed ys
feeds-append xs ys = sum_by-append (λ (c : ℕ). cond (is_feed c) 1 0) xs ys

pub line_count-is : (text : List ℕ) → line_count text ≡ count_by is_feed text + 1
line_count-is text = ap (λ (t : List ℕ). count_by is_feed t + 1) (take_all (length text) text (omega arith))

-- ---- how many lines

length-lines : (text : List ℕ) → length (buffer_lines text) ≡ count_by is_feed text + 1
length-lines [] = refl
length-lines (b ∷ bs) = rw (feeds-cons b bs) (go (is_feed b) (buffer_lines bs) (length-lines bs)) where
  go : (c : Bool) (ls : List (List ℕ)) → length ls ≡ count_by is_feed bs + 1 → length (cond c ([] ∷ ls) (onto_line b ls)) ≡ cond c 1 0 + count_by is_feed bs + 1
  go true ls e = omega arith
  go false [] e = absurd (omega arith)
  go false (l ∷ ls) e = omega arith

pub length-buffer_lines : (text : List ℕ) → length (buffer_lines text) ≡ line_count text
length-buffer_lines text = length-lines text ∙ sym (line_count-is text)

pub length-behind_feeds : (o : ℕ) (text : List ℕ) → length (behind_feeds o text) ≡ count_by is_feed text
length-behind_feeds o [] = refl
length-behind_feeds o (b ∷ bs) = rw (feeds-cons b bs) (go (is_feed b) (length-behind_feeds (o + 1) bs)) where
  go : (c : Bool) → length (behind_feeds (o + 1) bs) ≡ count_by is_feed bs → length (cond c ((o + 1) ∷ behind_feeds (o + 1) bs) (behind_feeds (o + 1) bs)) ≡ cond c 1 0 + count_by is_feed bs
  go true e = omega arith
  go false e = omega arith

-- there is a start for each line
pub length-line_starts : (text : List ℕ) → length (line_starts text) ≡ line_count text
length-line_starts text = omega (arith, length-behind_feeds 0 text, line_count-is text)

-- each line and its feed, of which the last is one more than the text has
pub bytes_of_lines : (text : List ℕ) → sum_by (λ line. length line + 1) (buffer_lines text) ≡ length text + 1
bytes_of_lines [] = refl
bytes_of_lines (b ∷ bs) = go (is_feed b) (buffer_lines bs) (length-lines bs) (bytes_of_lines bs) where
  f : List ℕ → ℕ
  f line = length line + 1

  go : (c : Bool) (ls : List (List ℕ)) → length ls ≡ count_by is_feed bs + 1 → sum_by f ls ≡ length bs + 1 →
      sum_by f (cond c ([] ∷ ls) (onto_line b ls)) ≡ suc (length bs) + 1
  go true ls some e = omega (arith, sum_by-cons f [] ls, e)
  go false [] some e = absurd (omega arith)
  go false (l ∷ ls) some e = omega (arith, sum_by-cons f (b ∷ l) ls, sum_by-cons f l ls, e)

-- ---- a scan that pushes the starts

pub behind_feeds-append : (o : ℕ) (xs ys : List ℕ) → behind_feeds o (xs ++ ys) ≡ behind_feeds o xs ++ behind_feeds (o + length xs) ys
behind_feeds-append o [] ys = ap (λ (k : ℕ). behind_feeds k ys) (omega arith)
behind_feeds-append o (x ∷ xs) ys =
    let at : o + 1 + length xs ≡ o + length (x ∷ xs) = omega arith in
    rw (behind_feeds-append (o + 1) xs ys, at) (go (is_feed x)) where
      go : (c : Bool) → cond c ((o + 1) ∷ (behind_feeds (o + 1) xs ++ behind_feeds (o + length (x ∷ xs)) ys)) (behind_feeds (o + 1) xs ++ behind_feeds (o + length (x ∷ xs)) ys)
          ≡ cond c ((o + 1) ∷ behind_feeds (o + 1) xs) (behind_feeds (o + 1) xs) ++ behind_feeds (o + length (x ∷ xs)) ys
      go true = refl
      go false = refl

-- the starts after one more byte
pub line_starts_more : (text : List ℕ) (i : ℕ) → i < length text →
    line_starts (take (i + 1) text) ≡ line_starts (take i text) ++ cond (is_feed (get_or text i 0)) ((i + 1) ∷ []) []
line_starts_more text i lt =
    let long : 0 + length (take i text) ≡ i = omega (arith, length-take-le i text (omega arith)) in
    ap line_starts (take_more text i 0 lt)
    ∙ ap (λ (ks : List ℕ). 0 ∷ ks) (behind_feeds-append 0 (take i text) (get_or text i 0 ∷ []))
    ∙ ap (λ (k : ℕ). line_starts (take i text) ++ behind_feeds k (get_or text i 0 ∷ [])) long

-- ---- one line

after_one : (o : ℕ) (bs : List ℕ) → o + 1 + length bs + 1 ≡ o + suc (length bs) + 1
after_one o bs = omega arith

first : (b : ℕ) (ls : List (List ℕ)) → 0 < length ls → get_or (onto_line b ls) 0 [] ≡ b ∷ get_or ls 0 []
first b [] lt = absurd (omega arith)
first b (l ∷ ls) lt = refl

others : (b : ℕ) (ls : List (List ℕ)) (line : ℕ) → 0 < length ls → get_or (onto_line b ls) (suc line) [] ≡ get_or ls (suc line) []
others b [] line lt = absurd (omega arith)
others b (l ∷ ls) line lt = refl

-- a line of bytes of which the first is at the offset: what is before it, the line, and what is after its feed
pub record LineAt (o : ℕ) (text : List ℕ) (line : ℕ) : Type 0 where
  pub before : List ℕ
  pub bytes : List ℕ
  pub rest : List ℕ
  pub is : text ++ line_feed ∷ [] ≡ before ++ (bytes ++ (line_feed ∷ rest))
  pub line_is : get_or (buffer_lines text) line [] ≡ bytes
  pub start : get_or (o ∷ behind_feeds o text) line 0 ≡ o + length before
  pub end : get_or (behind_feeds o text) line (o + length text + 1) ≡ o + length before + length bytes + 1
  pub row : count_by is_feed before ≡ line
  pub feedless : count_by is_feed bytes ≡ 0

at_feed : (o b : ℕ) (bs : List ℕ) → is_feed b ≡ true → LineAt o (b ∷ bs) 0
at_feed o b bs e = record {
  before = [];
  bytes = [];
  rest = bs ++ line_feed ∷ [];
  is = ap (λ (c : ℕ). c ∷ (bs ++ line_feed ∷ [])) (eqb-true b line_feed e);
  line_is = rw e refl;
  start = omega arith;
  end = rw e (omega arith);
  row = refl;
  feedless = refl;
}

behind_feed : (o b : ℕ) (bs : List ℕ) (line : ℕ) → is_feed b ≡ true → LineAt (o + 1) bs line → LineAt o (b ∷ bs) (suc line)
behind_feed o b bs line e r = record {
  before = b ∷ r.before;
  bytes = r.bytes;
  rest = r.rest;
  is = ap (λ (l : List ℕ). b ∷ l) r.is;
  line_is = rw e r.line_is;
  start = rw e (omega (arith, r.start));
  end = rw e (omega (arith, r.end, ap {B = ℕ} (λ (k : ℕ). get_or (behind_feeds (o + 1) bs) line k) (after_one o bs)));
  row = omega (arith, feeds-cons b r.before, r.row, ap {B = ℕ} (λ (c : Bool). cond c 1 0) e);
  feedless = r.feedless;
}

in_first : (o b : ℕ) (bs : List ℕ) → is_feed b ≡ false → LineAt (o + 1) bs 0 → LineAt o (b ∷ bs) 0
in_first o b bs e r =
    let none : r.before ≡ [] = nil_from_length r.before (omega (arith, r.start)) in
    record {
      before = [];
      bytes = b ∷ r.bytes;
      rest = r.rest;
      is = ap (λ (l : List ℕ). b ∷ l) (r.is ∙ ap (λ (l : List ℕ). l ++ (r.bytes ++ (line_feed ∷ r.rest))) none);
      line_is = rw e (first b (buffer_lines bs) (omega (arith, length-lines bs)) ∙ ap (λ (l : List ℕ). b ∷ l) r.line_is);
      start = omega arith;
      end = rw e (omega (arith, r.end, ap length none, ap {B = ℕ} (λ (k : ℕ). get_or (behind_feeds (o + 1) bs) 0 k) (after_one o bs)));
      row = refl;
      feedless = omega (arith, feeds-cons b r.bytes, r.feedless, ap {B = ℕ} (λ (c : Bool). cond c 1 0) e);
    }

behind_first : (o b : ℕ) (bs : List ℕ) (line : ℕ) → is_feed b ≡ false → LineAt (o + 1) bs (suc line) → LineAt o (b ∷ bs) (suc line)
behind_first o b bs line e r = record {
  before = b ∷ r.before;
  bytes = r.bytes;
  rest = r.rest;
  is = ap (λ (l : List ℕ). b ∷ l) r.is;
  line_is = rw e (others b (buffer_lines bs) line (omega (arith, length-lines bs)) ∙ r.line_is);
  start = rw e (omega (arith, r.start));
  end = rw e (omega (arith, r.end, ap {B = ℕ} (λ (k : ℕ). get_or (behind_feeds (o + 1) bs) (suc line) k) (after_one o bs)));
  row = omega (arith, feeds-cons b r.before, r.row, ap {B = ℕ} (λ (c : Bool). cond c 1 0) e);
  feedless = r.feedless;
}

line_at : (o : ℕ) (text : List ℕ) (line : ℕ) → line < count_by is_feed text + 1 → LineAt o text line
line_at o [] zero lt = record { before = []; bytes = []; rest = []; is = refl; line_is = refl; start = omega arith; end = omega arith; row = refl; feedless = refl }
line_at o [] (suc line) lt = absurd (omega arith)
line_at o (b ∷ bs) line lt = go (λ line lt. line_at (o + 1) bs line lt) (is_feed b) refl line lt where
  go : ((line : ℕ) → line < count_by is_feed bs + 1 → LineAt (o + 1) bs line) → (c : Bool) → is_feed b ≡ c →
      (line : ℕ) → line < count_by is_feed (b ∷ bs) + 1 → LineAt o (b ∷ bs) line
  go at true e zero lt = at_feed o b bs e
  go at true e (suc line) lt = behind_feed o b bs line e (at line (omega (arith, feeds-cons b bs, ap {B = ℕ} (λ (c : Bool). cond c 1 0) e)))
  go at false e zero lt = in_first o b bs e (at 0 (omega arith))
  go at false e (suc line) lt = behind_first o b bs line e (at (suc line) (omega (arith, feeds-cons b bs, ap {B = ℕ} (λ (c : Bool). cond c 1 0) e)))

-- each line of a text, with what is before and after it
pub buffer_line : (text : List ℕ) (line : ℕ) → line < line_count text → LineAt 0 text line
buffer_line text line lt = line_at 0 text line (omega (arith, line_count-is text))

-- ---- what follows for its start and its end

start_is : (text : List ℕ) (line : ℕ) (r : LineAt 0 text line) → line_start text line ≡ length r.before
start_is text line r = omega (arith, r.start)

end_is : (text : List ℕ) (line : ℕ) (r : LineAt 0 text line) → line_end text line ≡ length r.before + length r.bytes
end_is text line r =
    omega (arith, r.end, ap {B = ℕ} (λ (k : ℕ). get_or (behind_feeds 0 text) line k) (ap (λ (k : ℕ). k + 1) (zero-add (length text))))

long_is : (text : List ℕ) (line : ℕ) (r : LineAt 0 text line) → length r.before + length r.bytes + length r.rest ≡ length text
long_is text line r =
    omega (arith, ap length r.is, length-append text (line_feed ∷ []), length-append r.before (r.bytes ++ (line_feed ∷ r.rest)), length-append r.bytes (line_feed ∷ r.rest))

-- a line goes from its start to its end, within the text
pub line_bounds : (text : List ℕ) (line : ℕ) → line < line_count text →
    (line_start text line ≤ line_end text line) × (line_end text line ≤ length text)
line_bounds text line lt =
    let r = buffer_line text line lt in
    let s = start_is text line r in
    let e = end_is text line r in
    let l = long_is text line r in
    (omega arith, omega arith)

in_parts : (text : List ℕ) (line : ℕ) (r : LineAt 0 text line) (n : ℕ) → n ≤ length r.before + length r.bytes →
    take n text ≡ take n (r.before ++ r.bytes)
in_parts text line r n le =
    sym (take-append-le n text (line_feed ∷ []) (omega (arith, long_is text line r)))
    ∙ ap (take n) (r.is ∙ sym (append_assoc r.before r.bytes (line_feed ∷ r.rest)))
    ∙ take-append-le n (r.before ++ r.bytes) (line_feed ∷ r.rest) (omega (arith, length-append r.before r.bytes))

-- the lines are the parts of the text from their starts to their ends
pub get_or-buffer_lines : (text : List ℕ) (line : ℕ) → line < line_count text →
    get_or (buffer_lines text) line [] ≡ slice_range text (line_start text line) (line_end text line)
get_or-buffer_lines text line lt = go (buffer_line text line lt) where
  go : LineAt 0 text line → get_or (buffer_lines text) line [] ≡ slice_range text (line_start text line) (line_end text line)
  go r =
      let s = start_is text line r in
      let e = end_is text line r in
      let reach : length r.before + length r.bytes ≡ line_start text line + (line_end text line - line_start text line) = omega arith in
      r.line_is
      ∙ sym (drop_at r.before r.bytes (line_start text line) (sym s))
      ∙ ap (drop (line_start text line)) (sym (take_all (length r.before + length r.bytes) (r.before ++ r.bytes) (omega (arith, length-append r.before r.bytes))) ∙ sym (in_parts text line r (length r.before + length r.bytes) (omega arith)))
      ∙ ap (λ (n : ℕ). drop (line_start text line) (take n text)) reach
      ∙ drop-take (line_start text line) (line_end text line - line_start text line) text

-- a line's start and its end are in the row of the line's number
pub row_of_start : (text : List ℕ) (line : ℕ) → line < line_count text → row_of text (line_start text line) ≡ line
row_of_start text line lt = go (buffer_line text line lt) where
  go : LineAt 0 text line → row_of text (line_start text line) ≡ line
  go r =
      let s = start_is text line r in
      ap (count_by is_feed) (in_parts text line r (line_start text line) (omega arith) ∙ take_at r.before r.bytes (line_start text line) (sym s))
      ∙ r.row

pub row_of_end : (text : List ℕ) (line : ℕ) → line < line_count text → row_of text (line_end text line) ≡ line
row_of_end text line lt = go (buffer_line text line lt) where
  go : LineAt 0 text line → row_of text (line_end text line) ≡ line
  go r =
      let e = end_is text line r in
      ap (count_by is_feed) (in_parts text line r (line_end text line) (omega arith) ∙ take_all (line_end text line) (r.before ++ r.bytes) (omega (arith, length-append r.before r.bytes)))
      ∙ feeds-append r.before r.bytes
      ∙ omega (arith, r.row, r.feedless)

feed_before : (o : ℕ) (text : List ℕ) (line : ℕ) → line < length (behind_feeds o text) → o < get_or (behind_feeds o text) line 0
feed_before o [] line lt = absurd (omega arith)
feed_before o (b ∷ bs) line lt = go (is_feed b) line (λ line lt. feed_before (o + 1) bs line lt) lt where
  go : (c : Bool) (line : ℕ) → ((line : ℕ) → line < length (behind_feeds (o + 1) bs) → o + 1 < get_or (behind_feeds (o + 1) bs) line 0) →
      line < length (cond c ((o + 1) ∷ behind_feeds (o + 1) bs) (behind_feeds (o + 1) bs)) →
      o < get_or (cond c ((o + 1) ∷ behind_feeds (o + 1) bs) (behind_feeds (o + 1) bs)) line 0
  go true zero at lt = omega arith
  go true (suc line) at lt = omega (arith, at line (omega arith))
  go false line at lt = omega (arith, at line lt)

-- the last line ends at the text's end, and any other before the next one's start
pub line_end_last : (text : List ℕ) (line : ℕ) → line + 1 ≡ line_count text → line_end text line ≡ length text
line_end_last text line is =
    omega (arith, get_or_past (behind_feeds 0 text) line (length text + 1) (omega (arith, length-behind_feeds 0 text, line_count-is text)))

pub line_end_next : (text : List ℕ) (line : ℕ) → line + 1 < line_count text → line_end text line + 1 ≡ line_start text (line + 1)
line_end_next text line lt =
    let within : line < length (behind_feeds 0 text) = omega (arith, length-behind_feeds 0 text, line_count-is text) in
    let next : line_start text (line + 1) ≡ get_or (behind_feeds 0 text) line 0 = ap (λ (k : ℕ). get_or (line_starts text) k 0) (add-one line) in
    omega (arith, next, get_or_default (behind_feeds 0 text) line (length text + 1) 0 within, feed_before 0 text line within)

-- ---- where a text may be cut

-- within the text a line ends at a feed
pub feed_at_end : (text : List ℕ) (line : ℕ) → line < line_count text → line_end text line < length text →
    get_or text (line_end text line) 0 ≡ line_feed
feed_at_end text line lt within = go (buffer_line text line lt) where
  go : LineAt 0 text line → get_or text (line_end text line) 0 ≡ line_feed
  go r =
      let e = end_is text line r in
      sym (get_or_append_left text (line_feed ∷ []) 0 (line_end text line) within)
      ∙ ap (λ (bs : List ℕ). get_or bs (line_end text line) 0) (r.is ∙ sym (append_assoc r.before r.bytes (line_feed ∷ r.rest)))
      ∙ get_or_at (r.before ++ r.bytes) line_feed r.rest 0 (line_end text line) (omega (arith, length-append r.before r.bytes))

pub boundary_at_end : (text : List ℕ) (line : ℕ) → line < line_count text → IsCharBoundary text (line_end text line)
boundary_at_end text line lt = elim (cases_lt (line_end text line) (length text)) [
  | inl within ↦ IsCharBoundary-before_ascii text (line_end text line) within (omega (arith, feed_at_end text line lt within))
  | inr past ↦
      let end : line_end text line ≡ length text = omega (arith, (line_bounds text line lt).1) in
      subst (IsCharBoundary text) (sym end) (IsCharBoundary-end text)
]

pub boundary_at_start : (text : List ℕ) (line : ℕ) → IsUtf8 text → line < line_count text → IsCharBoundary text (line_start text line)
boundary_at_start text zero utf8 lt = IsCharBoundary-start text utf8
boundary_at_start text (suc line) utf8 lt =
    let next : line + 1 ≡ suc line = omega arith in
    let before : line < line_count text = omega arith in
    let start : line_end text line + 1 ≡ line_start text (suc line) = line_end_next text line (omega arith) ∙ ap (line_start text) next in
    let within : line_end text line < length text = omega (arith, (line_bounds text (suc line) lt).0, (line_bounds text (suc line) lt).1) in
    subst (IsCharBoundary text) start
    (IsCharBoundary-after_ascii text (line_end text line) utf8 within (omega (arith, feed_at_end text line before within)))

-- ---- the row of an offset, by the starts

take_none : (n : ℕ) → take {A = ℕ} n [] ≡ []
take_none zero = refl
take_none (suc n) = refl

none_before : (to o : ℕ) (bs : List ℕ) → to ≤ o → count_by is_feed (take (to - o) bs) ≡ 0
none_before to o bs le =
    let none : to - o ≡ 0 = omega arith in
    ap (λ (k : ℕ). count_by is_feed (take k bs)) none

one_before : (to o b : ℕ) (bs : List ℕ) (c : Bool) → is_feed b ≡ c → o < to →
    count_by is_feed (take (to - o) (b ∷ bs)) ≡ cond c 1 0 + count_by is_feed (take (to - (o + 1)) bs)
one_before to o b bs c e lt =
    let some : to - o ≡ suc (to - (o + 1)) = omega arith in
    ap (λ (k : ℕ). count_by is_feed (take k (b ∷ bs))) some
    ∙ feeds-cons b (take (to - (o + 1)) bs)
    ∙ ap (λ (d : Bool). cond d 1 0 + count_by is_feed (take (to - (o + 1)) bs)) e

starts_upto : (to o : ℕ) (bs : List ℕ) → prefix_len (λ s. leb s to) (behind_feeds o bs) ≡ count_by is_feed (take (to - o) bs)
starts_upto to o [] = ap (count_by is_feed) (sym (take_none (to - o)))
starts_upto to o (b ∷ bs) = go (is_feed b) refl (starts_upto to (o + 1) bs) (cases_lt o to) where
  first : (n : ℕ) (d : Bool) → leb (o + 1) to ≡ d → cond (leb (o + 1) to) (1 + n) 0 ≡ cond d (1 + n) 0
  first n d e = ap {B = ℕ} (λ (d : Bool). cond d (1 + n) 0) e

  starts : List ℕ
  starts = behind_feeds (o + 1) bs

  go : (c : Bool) → is_feed b ≡ c → prefix_len (λ s. leb s to) starts ≡ count_by is_feed (take (to - (o + 1)) bs) →
      (o < to) ⊎ (to ≤ o) →
      prefix_len (λ s. leb s to) (cond c ((o + 1) ∷ starts) starts) ≡ count_by is_feed (take (to - o) (b ∷ bs))
  go true e rest (inl lt) =
      first (prefix_len (λ s. leb s to) starts) true (le-leb (o + 1) to (omega arith))
      ∙ ap (λ (k : ℕ). 1 + k) rest
      ∙ sym (one_before to o b bs true e lt)
  go false e rest (inl lt) = omega (arith, rest, one_before to o b bs false e lt)
  go true e rest (inr le) =
      first (prefix_len (λ s. leb s to) starts) false (lt-leb (o + 1) to (omega arith))
      ∙ sym (none_before to o (b ∷ bs) le)
  go false e rest (inr le) = omega (arith, rest, none_before to (o + 1) bs (omega arith), none_before to o (b ∷ bs) le)

-- as many starts are at most an offset as its row, and one more
pub row_of_starts : (text : List ℕ) (o : ℕ) → prefix_len (λ s. nat_le s o) (line_starts text) ≡ row_of text o + 1
row_of_starts text o =
    let all : o - 0 ≡ o = omega arith in
    ap {B = ℕ} (λ (d : Bool). cond d (1 + prefix_len (λ s. leb s o) (behind_feeds 0 text)) 0) (le-leb 0 o (omega arith))
    ∙ omega (arith, starts_upto o 0 text, ap (λ (k : ℕ). count_by is_feed (take k text)) all)
