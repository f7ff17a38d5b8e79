-- What is on a display line, by the places at which it starts and ends.
use Rattle.std.proofs.Common.{◌≡◌, ℕ, zero, suc, ◌+◌, ◌-◌, ◌<◌, ◌≤◌, Bool, true, false, cond, List, [], ◌∷◌, ◌++◌, length, take, drop, count_by, get_or, Some, refl, sym, ap, ◌∙◌, subst, arith}
use Rattle.std.specs.List.{slice_get}
use Rattle.cell_units.specs.Text.{is_feed, line_feed, row_of}
use Rattle.cell_units.specs.Cutting.{cut_lines, onto_line}
use Rattle.cell_units.specs.BufferLines.{behind_feeds, line_end, line_start}
use Rattle.cell_units.specs.Inlaid.{Token, Byte, InlayByte, Hidden, is_break, offset_of}
use Rattle.cell_units.specs.Folded.{display_lines, folded, span_start}
use Rattle.cell_units.specs.Layers.{inlay_source, shown_text, span_of}
use Rattle.cell_units.specs.Record.{Inlay}
use Rattle.cell_units.proofs.BufferLines.{feeds-cons, line_bounds, line_count-is}
use Rattle.cell_units.proofs.CutLists.{Every}
use Rattle.cell_units.proofs.OneRow.{lines-in_one_row}
use Rattle.cell_units.proofs.ShownText.{tokens_bytes}
use Rattle.splice_tree.proofs.Passing.{drop-found}
use Rattle.inlay_map.specs.Spots.{part_of}
use Rattle.inlay_map.proofs.Cuts.{IsSingle, single, text-is, tokens-are}
use Rattle.inlay_map.proofs.Parts.{parts_from}
use Rattle.inlay_map.proofs.Spread.{IsSpread}

-- the first line of some tokens
record Some_line (lines : List (List Token)) : Type 0 where
  line : List Token
  others : List (List Token)
  is : lines ≡ line ∷ others

onto-some : (t : Token) (lines : List (List Token)) → Some_line (onto_line t lines)
onto-some t [] = record { line = t ∷ []; others = []; is = refl }
onto-some t (l ∷ ls) = record { line = t ∷ l; others = ls; is = refl }

cut-some : (t : Token) (ts : List Token) → Some_line (cut_lines is_break (t ∷ ts))
cut-some t ts = go (is_break t) where
  go : (b : Bool) → Some_line (cond b ((t ∷ []) ∷ cut_lines is_break ts) (onto_line t (cut_lines is_break ts)))
  go true = record { line = t ∷ []; others = cut_lines is_break ts; is = refl }
  go false = onto-some t (cut_lines is_break ts)

closed-some : (ts : List Token) (c : Token) → Some_line (cut_lines is_break (ts ++ c ∷ []))
closed-some [] c = cut-some c []
closed-some (t ∷ ts) c = cut-some t (ts ++ c ∷ [])

onto-head : (t : Token) (lines : List (List Token)) → Some_line lines → get_or (onto_line t lines) 0 [] ≡ t ∷ get_or lines 0 []
onto-head t lines s = (λ i. get_or (onto_line t (s.is i)) 0 []) ∙ (λ i. t ∷ get_or (sym s.is i) 0 [])

onto-rest : (t : Token) (lines : List (List Token)) (k : ℕ) → Some_line lines → get_or (onto_line t lines) (suc k) [] ≡ get_or lines (suc k) []
onto-rest t lines k s = (λ i. get_or (onto_line t (s.is i)) (suc k) []) ∙ (λ i. get_or (sym s.is i) (suc k) [])

module _ (c : Token) (closes : is_break c ≡ true) where
  abbrev start : ℕ → List ℕ → ℕ → ℕ
  start o bs line = get_or (o ∷ behind_feeds o bs) line 0

  abbrev end : ℕ → List ℕ → ℕ → ℕ
  end o bs line = get_or (behind_feeds o bs) line (o + length bs + 1)

  record IsLine (o : ℕ) (ts : List Token) (bs : List ℕ) (line : ℕ) : Type 0 where
    is : get_or (cut_lines is_break (ts ++ c ∷ [])) line [] ≡ take (end o bs line - start o bs line) (drop (start o bs line - o) (ts ++ c ∷ []))
    low : o ≤ start o bs line
    order : start o bs line < end o bs line

  last-line : (o line : ℕ) → line ≤ 0 → IsLine o [] [] line
  last-line o (suc line) le = absurd (omega arith)
  last-line o zero le =
      let one : 1 ≡ o + 0 + 1 - o = omega arith in
      let none : 0 ≡ o - o = omega arith in
      record {
        is = go (is_break c) ∙ (λ i. take (one i) (drop (none i) (c ∷ [])));
        low = omega arith;
        order = omega arith;
      }
    where
      go : (b : Bool) → get_or (cond b ((c ∷ []) ∷ []) ((c ∷ []) ∷ [])) 0 [] ≡ c ∷ []
      go true = refl
      go false = refl

  -- a token of the byte b before others
  module _ (o : ℕ) (t : Token) (b : ℕ) (ts : List Token) (bs : List ℕ) (next : (k : ℕ) → k ≤ count_by is_feed bs → IsLine (o + 1) ts bs k) where
    abbrev rest : List Token
    rest = ts ++ c ∷ []

    abbrev lines : List (List Token)
    lines = cut_lines is_break rest

    abbrev feeds : Bool → List ℕ
    feeds d = cond d ((o + 1) ∷ behind_feeds (o + 1) bs) (behind_feeds (o + 1) bs)

    record Turn (d : Bool) (k : ℕ) : Type 0 where
      is : get_or (cond d ((t ∷ []) ∷ lines) (onto_line t lines)) k [] ≡ take (get_or (feeds d) k (o + length (b ∷ bs) + 1) - get_or (o ∷ feeds d) k 0) (drop (get_or (o ∷ feeds d) k 0 - o) (t ∷ rest))
      low : o ≤ get_or (o ∷ feeds d) k 0
      order : get_or (o ∷ feeds d) k 0 < get_or (feeds d) k (o + length (b ∷ bs) + 1)

    ends : o + 1 + length bs + 1 ≡ o + length (b ∷ bs) + 1
    ends = omega arith

    none : 0 ≡ o - o
    none = omega arith

    -- the line of the rest, one token further on
    further : (k : ℕ) (x : List Token) (l : IsLine (o + 1) ts bs k) → x ≡ get_or lines k []
        → x ≡ take (get_or (behind_feeds (o + 1) bs) k (o + length (b ∷ bs) + 1) - start (o + 1) bs k) (drop (start (o + 1) bs k - o) (t ∷ rest))
    further k x l e =
        let one : suc (start (o + 1) bs k - (o + 1)) ≡ start (o + 1) bs k - o = omega (arith, l.low) in
        e ∙ l.is ∙ (λ i. take (get_or (behind_feeds (o + 1) bs) k (ends i) - start (o + 1) bs k) (drop (one i) (t ∷ rest)))

    turn : (d : Bool) (k : ℕ) → k ≤ cond d 1 0 + count_by is_feed bs → Turn d k
    turn true zero le =
        let one : 1 ≡ o + 1 - o = omega arith in
        record { is = (λ i. take (one i) (drop (none i) (t ∷ rest))); low = omega arith; order = omega arith }
    turn true (suc k) le =
        let l = next k (omega (arith, le)) in
        record { is = further k (get_or lines k []) l refl; low = omega (arith, l.low); order = subst (λ n. start (o + 1) bs k < get_or (behind_feeds (o + 1) bs) k n) ends l.order }
    turn false zero le =
        let l = next zero (omega arith) in
        let first = get_or (behind_feeds (o + 1) bs) 0 (o + 1 + length bs + 1) in
        let none' : o + 1 - (o + 1) ≡ 0 = omega arith in
        let one : suc (first - (o + 1)) ≡ first - o = omega (arith, l.order) in
        record {
          is =
              onto-head t lines (closed-some ts c)
              ∙ ap (λ x. t ∷ x) (l.is ∙ (λ i. take (first - (o + 1)) (drop (none' i) rest)))
              ∙ (λ i. take (one i) (drop (none i) (t ∷ rest)))
              ∙ (λ i. take (get_or (behind_feeds (o + 1) bs) 0 (ends i) - o) (drop (o - o) (t ∷ rest)));
          low = omega arith;
          order = subst (λ n. o < get_or (behind_feeds (o + 1) bs) 0 n) ends (omega (arith, l.order));
        }
    turn false (suc k) le =
        let l = next (suc k) (omega (arith, le)) in
        record {
          is = further (suc k) (get_or (onto_line t lines) (suc k) []) l (onto-rest t lines k (closed-some ts c));
          low = omega (arith, l.low);
          order = subst (λ n. start (o + 1) bs (suc k) < get_or (behind_feeds (o + 1) bs) (suc k) n) ends l.order;
        }

    more : (line : ℕ) → is_break t ≡ is_feed b → line ≤ count_by is_feed (b ∷ bs) → IsLine o (t ∷ ts) (b ∷ bs) line
    more line e le =
        let r = turn (is_feed b) line (omega (arith, le, feeds-cons b bs)) in
        record { is = (λ i. get_or (cond (e i) ((t ∷ []) ∷ lines) (onto_line t lines)) line []) ∙ r.is; low = r.low; order = r.order }

  lines-at : (o : ℕ) (ts : List Token) (line : ℕ) → Every IsSingle ts → line ≤ count_by is_feed (tokens_bytes ts) → IsLine o ts (tokens_bytes ts) line
  lines-at o [] line s le = last-line o line le
  lines-at o (Byte p b ∷ ts) line s le = more o (Byte p b) b ts (tokens_bytes ts) (λ k lt. lines-at (o + 1) ts k s.1 lt) line refl le
  lines-at o (InlayByte p id b ∷ ts) line s le = more o (InlayByte p id b) b ts (tokens_bytes ts) (λ k lt. lines-at (o + 1) ts k s.1 lt) line refl le
  lines-at o (Hidden p ∷ ts) line s le = absurd s.0

-- the tokens of a line are those from its start to its end, with its break
pub line-tokens : (text : List ℕ) (is : List Inlay) (line : ℕ) → IsSpread text 0 is → line ≤ count_by is_feed (shown_text (inlay_source text is))
    → get_or (display_lines text is []) line [] ≡ part_of (inlay_source text is) (line_start (shown_text (inlay_source text is)) line) (line_end (shown_text (inlay_source text is)) line)
line-tokens text is line s le =
    let c = Byte (length text) line_feed in
    let ts = parts_from text 0 is in
    let bs = tokens_bytes ts in
    let same = text-is text is s in
    let l = lines-at c refl 0 ts line (single text 0 is) (subst (λ (x : List ℕ). line ≤ count_by is_feed x) same le) in
    let none : 0 + length bs + 1 ≡ length bs + 1 = omega arith in
    let size : get_or (behind_feeds 0 bs) line (0 + length bs + 1) - line_start bs line ≡ line_end bs line + 1 - line_start bs line =
    omega (arith, l.order, ap (get_or (behind_feeds 0 bs) line) none) in
    let from : get_or (0 ∷ behind_feeds 0 bs) line 0 - 0 ≡ line_start bs line = omega arith in
    (λ i. get_or (cut_lines is_break (tokens-are text is s i)) line [])
    ∙ l.is
    ∙ (λ i. take (size i) (drop (from i) (sym (tokens-are text is s) i)))
    ∙ (λ i. part_of (inlay_source text is) (line_start (sym same i) line) (line_end (sym same i) line))

-- so a line begins with what is at the place where it starts, and is in the row of that
pub span-is : (text : List ℕ) (is : List Inlay) (line : ℕ) (t : Token) → IsSpread text 0 is → line ≤ count_by is_feed (shown_text (inlay_source text is)) → line < length (display_lines text is [])
    → slice_get (folded text is []) (line_start (shown_text (inlay_source text is)) line) ≡ Some t
    → span_of (inlay_source text is) line ≡ (row_of text (offset_of t), row_of text (offset_of t))
span-is text is line t s le lt e =
    let shown = shown_text (inlay_source text is) in
    let ends = line_bounds shown line (omega (arith, le, line_count-is shown)) in
    let first = head-of (folded text is []) (line_start shown line) (line_end shown line) t ends.0 e in
    let tokens : get_or (display_lines text is []) line [] ≡ t ∷ first.0 = line-tokens text is line s le ∙ first.1 in
    let start : span_start text (get_or (display_lines text is []) line []) ≡ row_of text (offset_of t) = ap (span_start text) tokens in
    let one = lines-in_one_row text is line [] lt in
    λ i. (start i, (sym one ∙ start) i)
  where
    head-of : (ts : List Token) (a b : ℕ) (t : Token) → a ≤ b → slice_get ts a ≡ Some t → (us : List Token) × (take (b + 1 - a) (drop a ts) ≡ t ∷ us)
    head-of ts a b t le e =
        let size : b + 1 - a ≡ suc (b - a) = omega (arith, le) in
        (take (b - a) (drop (suc a) ts), (λ i. take (size i) (drop-found ts a t e i)))
