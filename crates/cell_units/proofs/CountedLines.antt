-- The display lines before and after a replacement.
use Rattle.std.proofs.Common.{◌≡◌, ℕ, ◌+◌, ◌-◌, ◌<◌, ◌≤◌, Bool, true, false, cond, eqb, List, [], ◌∷◌, ◌++◌, length, take, drop, map, refl, sym, ap, ◌∙◌, subst, arith, append_assoc, length-append}
use Rattle.std.proofs.lemmas.Bool.{true≢false}
use Rattle.std.proofs.lemmas.List.{append-nil, take-append-le, take-append-drop, length-take-le, length-drop, drop-drop, map-id}
use Rattle.cell_units.specs.declared.place.Bias.TheVariants.{Right}
use Rattle.cell_units.specs.Text.{line_feed, is_feed, row_of}
use Rattle.cell_units.specs.Record.{Inlay, Fold, inlay_le}
use Rattle.cell_units.specs.Operation.{replaced_text, moved_inlays, moved_folds}
use Rattle.cell_units.specs.Inlaid.{Token, Byte, InlayByte, Hidden, offset_of, is_break, show_each}
use Rattle.cell_units.specs.Folded.{covered, shown, folded, token_row}
use Rattle.cell_units.proofs.CutLists.{Every, Every-mono, ended, Split, split}
use Rattle.cell_units.proofs.CutRuns.{Parts, Counted, counted}
use Rattle.cell_units.proofs.ShownMoved.{show_each-append, Every-show_each, show_each-same, show_each-moved, Every-shown, ended-each, shown-some, shown_before, shown_behind, covered_behind}
use Rattle.cell_units.proofs.Moves.{move_token, move-below}
use Rattle.cell_units.proofs.SortedLists.{IsSorted}
use Rattle.cell_units.proofs.BufferLines.{feeds, feeds-append}
use Rattle.cell_units.proofs.RowFeeds.{feeds-free, feeds_take-mono, feeds_take-lt, feeds_take_at, RowEnd, row_end}

-- a text with its end in its rows: those before, the start of the first touched row, and the range. Then come the rest
-- of the last touched row, and those after
pub record Cut (text before start range ending row rest : List ℕ) : Type 0 where
  pub is : text ≡ before ++ (start ++ (range ++ ending))
  pub whole : ended is_feed true before ≡ true
  pub start_free : Every (λ b. is_feed b ≡ false) start
  pub ends : ending ++ line_feed ∷ [] ≡ row ++ (line_feed ∷ rest)
  pub row_free : Every (λ b. is_feed b ≡ false) row

module _ (inlays : List Inlay) (folds : List Fold) (text before start range ending row rest : List ℕ) (c : Cut text before start range ending row rest) where
  -- the touched rows up to their last line feed
  abbrev pub upto_end : List ℕ
  upto_end = before ++ (start ++ (range ++ row))

  abbrev pub touched : List ℕ
  touched = (start ++ (range ++ row)) ++ line_feed ∷ []

  pub text_is : text ++ line_feed ∷ [] ≡ before ++ (touched ++ rest)
  text_is =
      ap (λ (l : List ℕ). l ++ line_feed ∷ []) c.is
      ∙ append_assoc before (start ++ (range ++ ending)) (line_feed ∷ [])
      ∙ ap (λ (l : List ℕ). before ++ l) (append_assoc start (range ++ ending) (line_feed ∷ []) ∙ ap (λ (l : List ℕ). start ++ l) (append_assoc range ending (line_feed ∷ []) ∙ ap (λ (l : List ℕ). range ++ l) c.ends)
      ∙ ap (λ (l : List ℕ). start ++ l) (sym (append_assoc range row (line_feed ∷ rest))) ∙ sym (append_assoc start (range ++ row) (line_feed ∷ rest)) ∙ sym (append_assoc (start ++ (range ++ row)) (line_feed ∷ []) rest))

  pub by_rows : text ++ line_feed ∷ [] ≡ upto_end ++ (line_feed ∷ rest)
  by_rows = text_is ∙ ap (λ (l : List ℕ). before ++ l) (append_assoc (start ++ (range ++ row)) (line_feed ∷ []) rest) ∙ sym (append_assoc before (start ++ (range ++ row)) (line_feed ∷ rest))

  row_is : (k : ℕ) → k ≤ length text → row_of text k ≡ feeds (take k (text ++ line_feed ∷ []))
  row_is k h = ap feeds (sym (take-append-le k text (line_feed ∷ []) h))

  breaks_upto_end : feeds upto_end ≡ feeds before + feeds range
  breaks_upto_end = omega (arith, feeds-append before (start ++ (range ++ row)), feeds-append start (range ++ row), feeds-append range row, feeds-free start c.start_free, feeds-free row c.row_free)

  pub long : length text + 1 ≡ length before + (length touched + length rest)
  long = omega (arith, ap length text_is, length-append text (line_feed ∷ []), length-append before (touched ++ rest), length-append touched rest)

  pub long_touched : length before + length touched ≡ length upto_end + 1
  long_touched = omega (arith, length-append before (start ++ (range ++ row)), length-append (start ++ (range ++ row)) (line_feed ∷ []))

  row_above : (k : ℕ) → k < length before → row_of text k < feeds before
  row_above k h = subst (λ (l : List ℕ). row_of l k < feeds before) (sym c.is)
      (subst (λ (l : List ℕ). feeds l < feeds before) (sym (take-append-le k before (start ++ (range ++ ending)) (omega arith))) (feeds_take-lt k true before c.whole h))

  row_from : (k : ℕ) → length before ≤ k → feeds before ≤ row_of text k
  row_from k h = subst (λ (l : List ℕ). feeds before ≤ row_of l k) (sym c.is)
      (omega (arith, feeds_take_at before (start ++ (range ++ ending)) (length before) refl, feeds_take-mono (length before) k (before ++ (start ++ (range ++ ending))) h))

  row_to : (k : ℕ) → k < length before + length touched → k ≤ length text → row_of text k ≤ feeds before + feeds range
  row_to k h l =
      omega (
        arith,
        row_is k l,
        ap (λ (l : List ℕ). feeds (take k l)) by_rows,
        feeds_take-mono k (length upto_end) (upto_end ++ (line_feed ∷ rest)) (omega (arith, long_touched)),
        feeds_take_at upto_end (line_feed ∷ rest) (length upto_end) refl,
        breaks_upto_end,
      )

  row_below : (k : ℕ) → length before + length touched ≤ k → k ≤ length text → feeds before + feeds range < row_of text k
  row_below k h l =
      let e : text ++ line_feed ∷ [] ≡ (upto_end ++ line_feed ∷ []) ++ rest = by_rows ∙ sym (append_assoc upto_end (line_feed ∷ []) rest) in
      omega (
        arith,
        row_is k l,
        ap (λ (l : List ℕ). feeds (take k l)) e,
        feeds_take-mono (length upto_end + 1) k ((upto_end ++ line_feed ∷ []) ++ rest) (omega (arith, long_touched)),
        feeds_take_at (upto_end ++ line_feed ∷ []) rest (length upto_end + 1) (length-append upto_end (line_feed ∷ [])),
        feeds-append upto_end (line_feed ∷ []),
        breaks_upto_end,
      )

  abbrev pub part_above : List Token
  part_above = show_each (shown inlays folds) 0 before

  abbrev pub part_within : List Token
  part_within = show_each (shown inlays folds) (length before) touched

  abbrev pub part_below : List Token
  part_below = show_each (shown inlays folds) (length before + length touched) rest

  pub folded_is : folded text inlays folds ≡ part_above ++ (part_within ++ part_below)
  folded_is = ap (show_each (shown inlays folds) 0) text_is ∙ show_each-append (shown inlays folds) 0 before (touched ++ rest)
      ∙ ap (λ k. part_above ++ show_each (shown inlays folds) k (touched ++ rest)) (omega arith)
      ∙ ap (λ (l : List Token). part_above ++ l) (show_each-append (shown inlays folds) (length before) touched rest)

  pub on_offsets : (P : ℕ → Type 0) (o : ℕ) (xs : List ℕ) → ((k : ℕ) → o ≤ k → k < o + length xs → P k) → Every (λ t. P (offset_of t)) (show_each (shown inlays folds) o xs)
  on_offsets P o xs f = Every-show_each (shown inlays folds) (λ t. P (offset_of t)) o xs
      (λ k b h l. Every-mono (λ t. offset_of t ≡ k) (λ t. P (offset_of t)) (shown inlays folds k b) (λ t e. subst P (sym e) (f k h l)) (Every-shown inlays folds k b))

  some : covered folds (length text) ≡ false → part_within ++ part_below ≡ [] → ⊥
  some free e = shown-some inlays folds (length text) line_feed free (last (start ++ (range ++ ending)) at (all ∙ e)) where
    all : show_each (shown inlays folds) (length before) ((start ++ (range ++ ending)) ++ line_feed ∷ []) ≡ part_within ++ part_below
    all = ap (show_each (shown inlays folds) (length before))
        (append_assoc start (range ++ ending) (line_feed ∷ []) ∙ ap (λ (l : List ℕ). start ++ l) (append_assoc range ending (line_feed ∷ []) ∙ ap (λ (l : List ℕ). range ++ l) c.ends)
        ∙ ap (λ (l : List ℕ). start ++ l) (sym (append_assoc range row (line_feed ∷ rest))) ∙ sym (append_assoc start (range ++ row) (line_feed ∷ rest)) ∙ sym (append_assoc (start ++ (range ++ row)) (line_feed ∷ []) rest))
        ∙ show_each-append (shown inlays folds) (length before) touched rest

    at : length before + length (start ++ (range ++ ending)) ≡ length text
    at = omega (arith, ap length c.is, length-append before (start ++ (range ++ ending)))

    empty : (xs ys : List Token) → xs ++ ys ≡ [] → ys ≡ []
    empty [] ys e = e
    empty (x ∷ xs) ys e = absurd (cc e)

    last : (v : List ℕ) → length before + length v ≡ length text → show_each (shown inlays folds) (length before) (v ++ line_feed ∷ []) ≡ [] → shown inlays folds (length text) line_feed ≡ []
    last v h e = sym (append-nil (shown inlays folds (length text) line_feed))
        ∙ ap (λ k. shown inlays folds k line_feed ++ []) (sym h)
        ∙ empty (show_each (shown inlays folds) (length before) v) (show_each (shown inlays folds) (length before + length v) (line_feed ∷ [])) (sym (show_each-append (shown inlays folds) (length before) v (line_feed ∷ [])) ∙ e)

  pub parts : covered folds (length text) ≡ false → Parts (token_row text) (feeds before) (feeds before + feeds range) part_above part_within part_below
  parts free = record {
    ordered = omega arith;
    above = on_offsets (λ k. row_of text k < feeds before) 0 before (λ k h l. row_above k (omega arith));
    within_from = on_offsets (λ k. feeds before ≤ row_of text k) (length before) touched (λ k h l. row_from k h);
    within_to = on_offsets (λ k. row_of text k ≤ feeds before + feeds range) (length before) touched (λ k h l. row_to k l (omega (arith, long)));
    below = on_offsets (λ k. feeds before + feeds range < row_of text k) (length before + length touched) rest (λ k h l. row_below k h (omega (arith, long)));
    some = some free;
  }

  pub ends_is : ended is_break true (part_above ++ part_within) ≡ cond (covered folds (length upto_end)) false (eqb line_feed line_feed)
  ends_is = ap (ended is_break true)
      (ap (λ k. part_above ++ show_each (shown inlays folds) k touched) (omega arith) ∙ sym (show_each-append (shown inlays folds) 0 before touched) ∙ ap (show_each (shown inlays folds) 0) (sym (append_assoc before (start ++ (range ++ row)) (line_feed ∷ []))))
      ∙ ended-each inlays folds line_feed upto_end

-- where the last line feed of the touched rows is shown, they show something
module _ (inlays : List Inlay) (folds : List Fold) (text before start range ending row rest : List ℕ) (c : Cut text before start range ending row rest) where
  pub within_some : ended is_break true (part_above inlays folds text before start range ending row rest c ++ part_within inlays folds text before start range ending row rest c) ≡ true
      → part_within inlays folds text before start range ending row rest c ≡ [] → ⊥
  within_some h none = shown-some inlays folds (length before + length (start ++ (range ++ row))) line_feed free here where
    free : covered folds (length before + length (start ++ (range ++ row))) ≡ false
    free = go (covered folds (length before + length (start ++ (range ++ row)))) refl where
      go : (d : Bool) → covered folds (length before + length (start ++ (range ++ row))) ≡ d → d ≡ false
      go false e = refl
      go true e = absurd (true≢false (sym h ∙ ends_is inlays folds text before start range ending row rest c
          ∙ ap (λ (d : Bool). cond d false (eqb line_feed line_feed)) (ap (covered folds) (length-append before (start ++ (range ++ row))) ∙ e)))

    empty : (xs ys : List Token) → xs ++ ys ≡ [] → ys ≡ []
    empty [] ys e = e
    empty (x ∷ xs) ys e = absurd (cc e)

    here : shown inlays folds (length before + length (start ++ (range ++ row))) line_feed ≡ []
    here = sym (append-nil (shown inlays folds (length before + length (start ++ (range ++ row))) line_feed))
        ∙ empty (show_each (shown inlays folds) (length before) (start ++ (range ++ row))) (show_each (shown inlays folds) (length before + length (start ++ (range ++ row))) (line_feed ∷ []))
        (sym (show_each-append (shown inlays folds) (length before) (start ++ (range ++ row)) (line_feed ∷ [])) ∙ none)

-- two records show the same away from a range that is replaced by n bytes, moved where it is after it
pub record SameAway (sh : Token → Token) (a b n : ℕ) (inlays inlays' : List Inlay) (folds folds' : List Fold) : Type 0 where
  pub ordered : a ≤ b
  pub before : (k x : ℕ) → k < a → shown inlays' folds' k x ≡ shown inlays folds k x
  pub behind : (k x : ℕ) → b < k → shown inlays' folds' (k + n - (b - a)) x ≡ map sh (shown inlays folds k x)
  pub cover : (k : ℕ) → b ≤ k → covered folds' (k + n - (b - a)) ≡ covered folds k
  pub still : (t : Token) → offset_of t < a → sh t ≡ t
  pub breaks_stay : (t : Token) → is_break (sh t) ≡ is_break t

same_break : (a b n : ℕ) (t : Token) → is_break (move_token a b n t) ≡ is_break t
same_break a b n (Byte o c) = refl
same_break a b n (InlayByte o i c) = refl
same_break a b n (Hidden o) = refl

still_token : (a b n : ℕ) (t : Token) → offset_of t < a → move_token a b n t ≡ t
still_token a b n (Byte o x) h = ap (λ k. Byte k x) (move-below o Right a b n h)
still_token a b n (InlayByte o i x) h = ap (λ k. InlayByte k i x) (move-below o Right a b n h)
still_token a b n (Hidden o) h = ap Hidden (move-below o Right a b n h)

pub SameAway-replaced : (a b n : ℕ) (inlays : List Inlay) (folds : List Fold) → IsSorted inlay_le inlays → a ≤ b → SameAway (move_token a b n) a b n inlays (moved_inlays a b n inlays) folds (moved_folds a b n folds)
SameAway-replaced a b n inlays folds sorted ab = record {
  ordered = ab;
  before = λ k x h. shown_before a b n ab folds inlays sorted k x h;
  behind = λ k x h. shown_behind a b n ab folds inlays sorted k x h;
  cover = λ k h. covered_behind a b n ab folds inlays sorted k h;
  still = still_token a b n;
  breaks_stay = same_break a b n;
}

-- two records on one text that show the same away from a range
pub SameAway-in_place : (a b : ℕ) (inlays inlays' : List Inlay) (folds folds' : List Fold) → a ≤ b
    → ((k x : ℕ) → k < a → shown inlays' folds' k x ≡ shown inlays folds k x)
    → ((k x : ℕ) → b < k → shown inlays' folds' k x ≡ shown inlays folds k x)
    → ((k : ℕ) → b ≤ k → covered folds' k ≡ covered folds k) → SameAway (λ t. t) a b (b - a) inlays inlays' folds folds'
SameAway-in_place a b inlays inlays' folds folds' ab before behind cover = record {
  ordered = ab;
  before = before;
  behind = λ k x h. ap (λ j. shown inlays' folds' j x) (omega arith) ∙ behind k x h ∙ sym (map-id (shown inlays folds k x));
  cover = λ k h. ap (covered folds') (omega arith) ∙ cover k h;
  still = λ t h. refl;
  breaks_stay = λ t. refl;
}

module _ (sh : Token → Token) (inlays inlays' : List Inlay) (folds folds' : List Fold) (text text' before start range new ending row rest : List ℕ) (a b : ℕ)
    (c : Cut text before start range ending row rest) (c' : Cut text' before start new ending row rest)
    (at : a ≡ length before + length start) (to : b ≡ a + length range) (away : SameAway sh a b (length new) inlays inlays' folds folds') where
  long_end : length (upto_end inlays folds text before start range ending row rest c) ≡ b + length row
  long_end = omega (arith, at, to, length-append before (start ++ (range ++ row)), length-append start (range ++ row), length-append range row)

  long_end' : length (upto_end inlays' folds' text' before start new ending row rest c') ≡ a + length new + length row
  long_end' = omega (arith, at, to, length-append before (start ++ (new ++ row)), length-append start (new ++ row), length-append new row)

  long_text : length text ≡ b + length ending
  long_text = omega (arith, at, to, ap length c.is, length-append before (start ++ (range ++ ending)), length-append start (range ++ ending), length-append range ending)

  long_text' : length text' ≡ a + length new + length ending
  long_text' = omega (arith, at, to, ap length c'.is, length-append before (start ++ (new ++ ending)), length-append start (new ++ ending), length-append new ending)

  same_above : part_above inlays' folds' text' before start new ending row rest c' ≡ part_above inlays folds text before start range ending row rest c
  same_above = show_each-same (shown inlays folds) (shown inlays' folds') 0 before (λ k x h. away.before k x (omega (arith, at)))

  moved_below : part_below inlays' folds' text' before start new ending row rest c' ≡ map sh (part_below inlays folds text before start range ending row rest c)
  moved_below = show_each-moved (shown inlays folds) (shown inlays' folds') sh (length new) (b - a)
      (length before + length (touched inlays folds text before start range ending row rest c)) (length before + length (touched inlays' folds' text' before start new ending row rest c')) rest
      (omega (arith, to, long_end, long_touched inlays folds text before start range ending row rest c))
      (omega (arith, to, long_end, long_end', long_touched inlays folds text before start range ending row rest c, long_touched inlays' folds' text' before start new ending row rest c'))
      (λ k x h. away.behind k x (omega (arith, to, long_end, long_touched inlays folds text before start range ending row rest c)))

  same_covered : (o o' : ℕ) → b ≤ o → o' ≡ o + length new - (b - a) → covered folds' o' ≡ covered folds o
  same_covered o o' h e = ap (covered folds') e ∙ away.cover o h

  still : Every (λ t. sh t ≡ t) (part_above inlays folds text before start range ending row rest c)
  still = Every-mono (λ t. offset_of t < a) (λ t. sh t ≡ t) (part_above inlays folds text before start range ending row rest c) away.still
      (on_offsets inlays folds text before start range ending row rest c (λ k. k < a) 0 before (λ k h l. omega (arith, at)))

  pub replaced_parts : covered folds (length text) ≡ false
      → Counted is_break sh (token_row text) (token_row text') (feeds before) (feeds before + feeds range) (feeds before + feeds new) (folded text inlays folds) (folded text' inlays' folds')
  replaced_parts free =
      let A = part_above inlays folds text before start range ending row rest c in
      let M = part_within inlays folds text before start range ending row rest c in
      let B = part_below inlays folds text before start range ending row rest c in
      let M' = part_within inlays' folds' text' before start new ending row rest c' in
      let free' : covered folds' (length text') ≡ false = same_covered (length text) (length text') (omega (arith, long_text)) (omega (arith, to, long_text, long_text')) ∙ free in
      let p' = parts inlays' folds' text' before start new ending row rest c' free' in
      let q' : Parts (token_row text') (feeds before) (feeds before + feeds new) A M' (map sh B)
      = subst (λ (l : List Token). Parts (token_row text') (feeds before) (feeds before + feeds new) A M' l) moved_below
      (subst (λ (l : List Token). Parts (token_row text') (feeds before) (feeds before + feeds new) l M' (part_below inlays' folds' text' before start new ending row rest c')) same_above p') in
      let e : ended is_break true (A ++ M') ≡ ended is_break true (A ++ M)
      = ap (λ (l : List Token). ended is_break true (l ++ M')) (sym same_above)
      ∙ ends_is inlays' folds' text' before start new ending row rest c'
      ∙ ap (λ (d : Bool). cond d false (eqb line_feed line_feed)) (same_covered (length (upto_end inlays folds text before start range ending row rest c)) (length (upto_end inlays' folds' text' before start new ending row rest c')) (omega (arith, long_end)) (omega (arith, to, long_end, long_end')))
      ∙ sym (ends_is inlays folds text before start range ending row rest c) in
      let r = counted is_break sh away.breaks_stay (token_row text) (token_row text') (feeds before) (feeds before + feeds range) (feeds before + feeds new) A M M' B still
      (parts inlays folds text before start range ending row rest c free) q' e
      (within_some inlays folds text before start range ending row rest c) (λ h. within_some inlays' folds' text' before start new ending row rest c' (ap (λ (l : List Token). ended is_break true (l ++ M')) same_above ∙ e ∙ h)) in
      subst (λ (l : List Token). Counted is_break sh (token_row text) (token_row text') (feeds before) (feeds before + feeds range) (feeds before + feeds new) l (folded text' inlays' folds'))
      (sym (folded_is inlays folds text before start range ending row rest c))
      (subst (λ (l : List Token). Counted is_break sh (token_row text) (token_row text') (feeds before) (feeds before + feeds range) (feeds before + feeds new) (A ++ (M ++ B)) l)
      ((λ i. sym same_above i ++ (M' ++ sym moved_below i)) ∙ sym (folded_is inlays' folds' text' before start new ending row rest c')) r)

-- Two records that show the same away from an edit. The touched lines are one run before and one after; before the run
-- the lines are the same, and after it the same, moved.
pub changed : (sh : Token → Token) (inlays inlays' : List Inlay) (folds folds' : List Fold) (text new : List ℕ) (a b : ℕ) → SameAway sh a b (length new) inlays inlays' folds folds' → b ≤ length text → covered folds (length text) ≡ false
    → Counted is_break sh (token_row text) (token_row (replaced_text text a b new))
    (row_of text a) (row_of text b) (row_of (replaced_text text a b new) (a + length new))
    (folded text inlays folds) (folded (replaced_text text a b new) inlays' folds')
changed sh inlays inlays' folds folds' text new a b away bt free = go (split is_feed (take a text)) (row_end (drop b text)) where
  text' : List ℕ
  text' = replaced_text text a b new

  go : Split is_feed (take a text) → RowEnd (drop b text) → Counted is_break sh (token_row text) (token_row (replaced_text text a b new))
      (row_of text a) (row_of text b) (row_of (replaced_text text a b new) (a + length new))
      (folded text inlays folds) (folded (replaced_text text a b new) inlays' folds')
  go s r =
      subst (λ k. Counted is_break sh (token_row text) (token_row text') k (row_of text b) (row_of text' (a + length new)) F F') first_is
      (subst (λ k. Counted is_break sh (token_row text) (token_row text') (feeds s.whole) k (row_of text' (a + length new)) F F') last_is
      (subst (λ k. Counted is_break sh (token_row text) (token_row text') (feeds s.whole) (feeds s.whole + feeds range) k F F') last_is'
      (replaced_parts sh inlays inlays' folds folds' text text' s.whole s.rest range new (drop b text) r.row r.rest a b
      (record { is = text_is; whole = s.whole_ended; start_free = s.rest_free; ends = r.is; row_free = r.free })
      (record { is = ap (λ (l : List ℕ). l ++ (new ++ drop b text)) s.is ∙ append_assoc s.whole s.rest (new ++ drop b text); whole = s.whole_ended; start_free = s.rest_free; ends = r.is; row_free = r.free })
      at to away free))) where
        ab : a ≤ b
        ab = away.ordered

        F : List Token
        F = folded text inlays folds

        F' : List Token
        F' = folded text' inlays' folds'

        range : List ℕ
        range = take (b - a) (drop a text)

        long_a : length (take a text) ≡ a
        long_a = length-take-le a text (omega arith)

        at : a ≡ length s.whole + length s.rest
        at = omega (arith, long_a, ap length s.is, length-append s.whole s.rest)

        long_range : length (take (b - a) (drop a text)) ≡ b - a
        long_range = length-take-le (b - a) (drop a text) (omega (arith, length-drop a text))

        to : b ≡ a + length (take (b - a) (drop a text))
        to = omega (arith, long_range)

        behind : take (b - a) (drop a text) ++ drop b text ≡ drop a text
        behind = ap (λ (l : List ℕ). take (b - a) (drop a text) ++ l) (ap (λ k. drop k text) (omega arith) ∙ sym (drop-drop (b - a) a text)) ∙ take-append-drop (b - a) (drop a text)

        split_is : text ≡ take a text ++ (take (b - a) (drop a text) ++ drop b text)
        split_is = sym (take-append-drop a text) ∙ ap (λ (l : List ℕ). take a text ++ l) (sym behind)

        text_is : text ≡ s.whole ++ (s.rest ++ (take (b - a) (drop a text) ++ drop b text))
        text_is = split_is ∙ ap (λ (l : List ℕ). l ++ (take (b - a) (drop a text) ++ drop b text)) s.is ∙ append_assoc s.whole s.rest (take (b - a) (drop a text) ++ drop b text)

        first_is : feeds s.whole ≡ row_of text a
        first_is = omega (arith, ap feeds s.is, feeds-append s.whole s.rest, feeds-free s.rest s.rest_free)

        last_is : feeds s.whole + feeds (take (b - a) (drop a text)) ≡ row_of text b
        last_is = omega (
          arith,
          first_is,
          feeds-append (take a text) (take (b - a) (drop a text)),
          ap (λ (l : List ℕ). feeds (take b l)) (split_is ∙ sym (append_assoc (take a text) (take (b - a) (drop a text)) (drop b text))),
          feeds_take_at (take a text ++ take (b - a) (drop a text)) (drop b text) b (omega (arith, length-append (take a text) (take (b - a) (drop a text)), long_a, long_range)),
        )

        last_is' : feeds s.whole + feeds new ≡ row_of text' (a + length new)
        last_is' = omega (
          arith,
          first_is,
          feeds-append (take a text) new,
          ap (λ (l : List ℕ). feeds (take (a + length new) l)) (sym (append_assoc (take a text) new (drop b text))),
          feeds_take_at (take a text ++ new) (drop b text) (a + length new) (omega (arith, length-append (take a text) new, long_a)),
        )

-- The counting lemma for a replacement.
pub replaced : (inlays : List Inlay) (folds : List Fold) (text new : List ℕ) (a b : ℕ) → IsSorted inlay_le inlays → a ≤ b → b ≤ length text → covered folds (length text) ≡ false
    → Counted is_break (move_token a b (length new)) (token_row text) (token_row (replaced_text text a b new))
    (row_of text a) (row_of text b) (row_of (replaced_text text a b new) (a + length new))
    (folded text inlays folds) (folded (replaced_text text a b new) (moved_inlays a b (length new) inlays) (moved_folds a b (length new) folds))
replaced inlays folds text new a b sorted ab bt free =
    changed (move_token a b (length new)) inlays (moved_inlays a b (length new) inlays) folds (moved_folds a b (length new) folds) text new a b (SameAway-replaced a b (length new) inlays folds sorted ab) bt free

-- The same for a change of a record whose text stays.
pub changed_in_place : (inlays inlays' : List Inlay) (folds folds' : List Fold) (text : List ℕ) (a b : ℕ) → SameAway (λ t. t) a b (b - a) inlays inlays' folds folds' → b ≤ length text → covered folds (length text) ≡ false
    → Counted is_break (λ t. t) (token_row text) (token_row text) (row_of text a) (row_of text b) (row_of text b) (folded text inlays folds) (folded text inlays' folds')
changed_in_place inlays inlays' folds folds' text a b away bt free =
    subst (λ (l : List ℕ). Counted is_break (λ t. t) (token_row text) (token_row l) (row_of text a) (row_of text b) (row_of l b) (folded text inlays folds) (folded l inlays' folds')) back
    (subst (λ k. Counted is_break (λ t. t) (token_row text) (token_row text') (row_of text a) (row_of text b) (row_of text' k) (folded text inlays folds) (folded text' inlays' folds')) (omega (arith, long, ab))
    (changed (λ t. t) inlays inlays' folds folds' text new a b (subst (λ k. SameAway (λ t. t) a b k inlays inlays' folds folds') (sym long) away) bt free)) where
      ab : a ≤ b
      ab = away.ordered

      new : List ℕ
      new = take (b - a) (drop a text)

      text' : List ℕ
      text' = replaced_text text a b (take (b - a) (drop a text))

      long : length (take (b - a) (drop a text)) ≡ b - a
      long = length-take-le (b - a) (drop a text) (omega (arith, length-drop a text))

      back : replaced_text text a b (take (b - a) (drop a text)) ≡ text
      back = ap (λ (l : List ℕ). take a text ++ l) (ap (λ (l : List ℕ). take (b - a) (drop a text) ++ l) (ap (λ k. drop k text) (omega arith) ∙ sym (drop-drop (b - a) a text)) ∙ take-append-drop (b - a) (drop a text)) ∙ take-append-drop a text
