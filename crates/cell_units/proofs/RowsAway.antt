-- Where rows start and end in two texts that differ in a range alone.
use Rattle.std.proofs.Common.{◌≡◌, ℕ, ◌+◌, ◌-◌, ◌<◌, ◌≤◌, ◌⊎◌, Bool, true, false, cond, List, [], ◌∷◌, ◌++◌, length, take, drop, not, refl, sym, ap, ◌∙◌, inl, inr, arith, append_assoc, length-append}
use Rattle.std.specs.List.{prefix_len, suffix_len}
use Rattle.std.proofs.Math.Seq.{take-add}
use Rattle.std.proofs.lemmas.Bool.{cases_lt}
use Rattle.std.proofs.lemmas.List.{take-take, take_at, take-append-le, drop_at, drop-append-le, drop-drop, length-drop, length-take-le, take-append-drop}
use Rattle.std.proofs.lemmas.List.Sums.{prefix_len-le-length}
use Rattle.cell_units.specs.Text.{line_feed, is_feed, row_of, row_start, row_end}
use Rattle.cell_units.specs.Operation.{replaced_text}
use Rattle.cell_units.proofs.CutLists.{Every, ended, ended-append, Split, split}
use Rattle.cell_units.proofs.BufferLines.{feeds, feeds-append, feeds-cons}
use Rattle.cell_units.proofs.RowFeeds.{RowEnd, row_end as end_of_row, feeds-free}
use Rattle.cell_units.proofs.ReplacedRows.{length-replaced_text, row_of-le, take-replaced_text}
use Rattle.cell_units.proofs.TouchedRuns.{prefix_end, prefix_row, suffix_is}

-- two texts that are the same away from a range, in the place of which the other has n bytes
pub record Spliced (text text' : List ℕ) (a b n : ℕ) : Type 0 where
  pub ordered : a ≤ b
  pub within : b ≤ length text
  pub reaches : a + n ≤ length text'
  pub before : take a text' ≡ take a text
  pub behind : drop (a + n) text' ≡ drop b text

pub spliced-replaced : (text new : List ℕ) (a b : ℕ) → a ≤ b → b ≤ length text → Spliced text (replaced_text text a b new) a b (length new)
spliced-replaced text new a b ab bt = record {
  ordered = ab;
  within = bt;
  reaches = omega (arith, length-replaced_text text a b new (omega arith));
  before = take-replaced_text text a b new a (omega arith) (omega arith);
  behind = ap (drop (a + length new)) (sym (append_assoc (take a text) new (drop b text)))
      ∙ drop_at (take a text ++ new) (drop b text) (a + length new) (omega (arith, length-append (take a text) new, length-take-le a text (omega arith)));
}

pub spliced-same : (text : List ℕ) (a b : ℕ) → a ≤ b → b ≤ length text → Spliced text text a b (b - a)
spliced-same text a b ab bt = record {
  ordered = ab;
  within = bt;
  reaches = omega arith;
  before = refl;
  behind = ap (λ (k : ℕ). drop k text) (omega arith);
}

abbrev goes : ℕ → Bool
goes b = not (is_feed b)

-- ---- the ends of a row are in the row

pub row_of-start : (text : List ℕ) (o : ℕ) → o ≤ length text → row_of text (row_start text o) ≡ row_of text o
row_of-start text o le = go (split is_feed (take o text)) where
  go : Split is_feed (take o text) → row_of text (row_start text o) ≡ row_of text o
  go s =
      let start-is : row_start text o ≡ length s.whole
      = omega (arith, length-take-le o text le, ap length s.is, length-append s.whole s.rest, ap (suffix_len goes) s.is, suffix_is s.whole s.rest s.whole_ended s.rest_free) in
      let taken : take (row_start text o) text ≡ s.whole
      = sym (take-take (row_start text o) o text (omega arith)) ∙ ap (take (row_start text o)) s.is ∙ take_at s.whole s.rest (row_start text o) (sym start-is) in
      omega (arith, ap feeds taken, ap feeds s.is, feeds-append s.whole s.rest, feeds-free s.rest s.rest_free)

pub row_end-is : (text : List ℕ) (o : ℕ) (r : RowEnd (drop o text)) → row_end text o ≡ o + length r.row
row_end-is text o r = omega (arith, sym (prefix_end (drop o text)) ∙ ap (prefix_len goes) r.is ∙ prefix_row r.row r.rest r.free)

-- the text with its end, cut at a row's end
pub cut-at_end : (text : List ℕ) (o : ℕ) (r : RowEnd (drop o text)) → text ++ line_feed ∷ [] ≡ (take o text ++ r.row) ++ (line_feed ∷ r.rest)
cut-at_end text o r =
    ap (λ (l : List ℕ). l ++ line_feed ∷ []) (sym (take-append-drop o text))
    ∙ append_assoc (take o text) (drop o text) (line_feed ∷ [])
    ∙ ap (λ (l : List ℕ). take o text ++ l) r.is
    ∙ sym (append_assoc (take o text) r.row (line_feed ∷ r.rest))

pub taken-to_end : (text : List ℕ) (o : ℕ) → o ≤ length text → (r : RowEnd (drop o text)) → take (row_end text o) text ≡ take o text ++ r.row
taken-to_end text o le r =
    sym (take-append-le (row_end text o) text (line_feed ∷ []) (omega (arith, prefix_len-le-length goes (drop o text), length-drop o text, le)))
    ∙ ap (take (row_end text o)) (cut-at_end text o r)
    ∙ take_at (take o text ++ r.row) (line_feed ∷ r.rest) (row_end text o) (omega (arith, row_end-is text o r, length-append (take o text) r.row, length-take-le o text le))

pub row_of-end : (text : List ℕ) (o : ℕ) → o ≤ length text → row_of text (row_end text o) ≡ row_of text o
row_of-end text o le = go (end_of_row (drop o text)) where
  go : RowEnd (drop o text) → row_of text (row_end text o) ≡ row_of text o
  go r = omega (arith, ap feeds (taken-to_end text o le r), feeds-append (take o text) r.row, feeds-free r.row r.free)

pub row_end-within : (text : List ℕ) (o : ℕ) → o ≤ length text → row_end text o ≤ length text
row_end-within text o le = omega (arith, prefix_len-le-length goes (drop o text), length-drop o text)

-- ---- a range is replaced

-- up to the first feed of a list, whatever comes after the list
to_feed : (xs ys : List ℕ) → 0 < feeds xs → (prefix_len goes (xs ++ ys) ≡ prefix_len goes xs) × (prefix_len goes xs < length xs)
to_feed [] ys some = absurd (omega arith)
to_feed (x ∷ xs) ys some = go (is_feed x) (feeds-cons x xs) (to_feed xs ys) where
  go : (c : Bool) → feeds (x ∷ xs) ≡ cond c 1 0 + feeds xs → (0 < feeds xs → (prefix_len goes (xs ++ ys) ≡ prefix_len goes xs) × (prefix_len goes xs < length xs)) →
      (cond (not c) (1 + prefix_len goes (xs ++ ys)) 0 ≡ cond (not c) (1 + prefix_len goes xs) 0) × (cond (not c) (1 + prefix_len goes xs) 0 < length (x ∷ xs))
  go true e rest = (refl, omega arith)
  go false e rest = let r = rest (omega (arith, e, some)) in (ap (λ (n : ℕ). 1 + n) r.0, omega (arith, r.1))

-- after the last feed of a list, whatever comes before the list
behind_feed : (xs : List ℕ) → 0 < feeds xs → (rest : List ℕ) × (length rest < length xs) × ((ys : List ℕ) → suffix_len goes (ys ++ xs) ≡ length rest)
behind_feed xs some = go (split is_feed xs) where
  go : Split is_feed xs → (rest : List ℕ) × (length rest < length xs) × ((ys : List ℕ) → suffix_len goes (ys ++ xs) ≡ length rest)
  go s = parts s.whole s.rest s.is s.whole_ended s.rest_free where
    parts : (whole rest : List ℕ) → xs ≡ whole ++ rest → ended is_feed true whole ≡ true → Every (λ b. is_feed b ≡ false) rest →
        (rest : List ℕ) × (length rest < length xs) × ((ys : List ℕ) → suffix_len goes (ys ++ xs) ≡ length rest)
    parts [] rest is e free = absurd (omega (arith, some, ap feeds is, feeds-free rest free))
    parts (w ∷ ws) rest is e free = (
      rest,
      omega (arith, ap length is, length-append (w ∷ ws) rest),
      λ ys. ap (λ (l : List ℕ). suffix_len goes (ys ++ l)) is
          ∙ ap (suffix_len goes) (sym (append_assoc ys (w ∷ ws) rest))
          ∙ suffix_is (ys ++ w ∷ ws) rest (ended-append is_feed true ys (w ∷ ws) ∙ e) free,
    )

module _ (text text' : List ℕ) (a b n : ℕ) (s : Spliced text text' a b n) where
  pub taken-before : (o : ℕ) → o ≤ a → take o text' ≡ take o text
  taken-before o le = sym (take-take o a text' le) ∙ ap (take o) s.before ∙ take-take o a text le

  pub dropped-behind : (o : ℕ) → b ≤ o → drop (o + n - (b - a)) text' ≡ drop o text
  dropped-behind o le =
      let ab = s.ordered in
      let there : o + n - (b - a) ≡ a + n + (o - b) = omega (arith, ab, le) in
      let here : b + (o - b) ≡ o = omega (arith, le) in
      ap (λ (k : ℕ). drop k text') there
      ∙ sym (drop-drop (o - b) (a + n) text')
      ∙ ap (drop (o - b)) s.behind
      ∙ drop-drop (o - b) b text
      ∙ ap (λ (k : ℕ). drop k text) here

  -- ---- a row before that of the range

  pub start-before : (o : ℕ) → o ≤ a → row_start text' o ≡ row_start text o
  start-before o le = ap (λ (l : List ℕ). o - suffix_len goes l) (taken-before o le)

  pub before-range : (o : ℕ) → row_of text o < row_of text a → o < a
  before-range o lt = go (cases_lt o a) where
    go : (o < a) ⊎ (a ≤ o) → o < a
    go (inl l) = l
    go (inr from) = absurd (omega (arith, lt, row_of-le text a o from))

  pub end-before : (o : ℕ) → row_of text o < row_of text a → (row_end text' o ≡ row_end text o) × (row_end text o < a)
  end-before o lt =
      let l = before-range o lt in
      let ab = s.ordered in
      let bt = s.within in
      let front = drop o (take a text) in
      let long : length (take a text) ≡ a = length-take-le a text (omega (arith, ab, bt)) in
      let long' : length front ≡ a - o = omega (arith, length-drop o (take a text), long) in
      let some : 0 < feeds front = omega (arith, lt, feeds-append (take o (take a text)) front, ap feeds (take-append-drop o (take a text)), ap feeds (take-take o a text (omega (arith, l)))) in
      let is : (t : List ℕ) → take a t ≡ take a text → drop o t ≡ front ++ drop a t
      = λ t same. ap (drop o) (sym (take-append-drop a t) ∙ ap (λ (l : List ℕ). l ++ drop a t) same) ∙ drop-append-le o (take a text) (drop a t) (omega (arith, long, l)) in
      let there : prefix_len goes (drop o text') ≡ prefix_len goes front = ap (prefix_len goes) (is text' s.before) ∙ (to_feed front (drop a text') some).0 in
      let here : prefix_len goes (drop o text) ≡ prefix_len goes front = ap (prefix_len goes) (is text refl) ∙ (to_feed front (drop a text) some).0 in
      let short : prefix_len goes front < length front = (to_feed front [] some).1 in
      (omega (arith, there, here), omega (arith, here, short, long', l))

  -- ---- a row after it

  pub behind-range : (o : ℕ) → row_of text b < row_of text o → b < o
  behind-range o lt = go (cases_lt b o) where
    go : (b < o) ⊎ (o ≤ b) → b < o
    go (inl l) = l
    go (inr upto) = absurd (omega (arith, lt, row_of-le text o b upto))

  pub start-behind : (o : ℕ) → row_of text b < row_of text o → o ≤ length text →
      (row_start text' (o + n - (b - a)) ≡ row_start text o + n - (b - a)) × (b < row_start text o)
  start-behind o lt le =
      let l = behind-range o lt in
      let ab = s.ordered in
      let between = take (o - b) (drop b text) in
      let at : b + (o - b) ≡ o = omega (arith, l) in
      let there : o + n - (b - a) ≡ a + n + (o - b) = omega (arith, ab, l) in
      let is : take o text ≡ take b text ++ between = ap (λ (k : ℕ). take k text) (sym at) ∙ take-add b (o - b) text in
      let is' : take (o + n - (b - a)) text' ≡ take (a + n) text' ++ between
      = ap (λ (k : ℕ). take k text') there ∙ take-add (a + n) (o - b) text' ∙ ap (λ (l : List ℕ). take (a + n) text' ++ take (o - b) l) s.behind in
      let long : length between ≡ o - b = length-take-le (o - b) (drop b text) (omega (arith, length-drop b text, le)) in
      let some : 0 < feeds between = omega (arith, lt, ap feeds is, feeds-append (take b text) between) in
      let r = behind_feed between some in
      let short : length r.0 < length between = r.1 in
      let here : suffix_len goes (take o text) ≡ length r.0 = ap (suffix_len goes) is ∙ r.2 (take b text) in
      let here' : suffix_len goes (take (o + n - (b - a)) text') ≡ length r.0 = ap (suffix_len goes) is' ∙ r.2 (take (a + n) text') in
      (omega (arith, here, here', short, long, l, ab), omega (arith, here, short, long, l))

  pub end-behind : (o : ℕ) → b ≤ o → row_end text' (o + n - (b - a)) ≡ row_end text o + n - (b - a)
  end-behind o le =
      let ab = s.ordered in
      let same : prefix_len goes (drop (o + n - (b - a)) text') ≡ prefix_len goes (drop o text) = ap (prefix_len goes) (dropped-behind o le) in
      omega (arith, same, ab, le)
