-- Parts laid one after the other.
use Rattle.std.proofs.Common.{◌≡◌, ◌≢◌, ℕ, ◌+◌, ◌-◌, ◌<◌, ◌≤◌, not, Bool, true, false, cond, eqb, List, [], ◌∷◌, ◌++◌, length, take, drop, get_or, refl, sym, ap, ◌∙◌, subst, inl, inr, arith, append-nil, append_assoc}
use Rattle.std.specs.List.{All, prefix_len, slice_range}
use Rattle.std.specs.Str.{IsCharBoundary, IsUtf8}
use Rattle.std.proofs.lemmas.Bool.{cases_lt, lt-ltb, le-ltb, or_cases, or_parts, not-false, eqb-true}
use Rattle.std.proofs.lemmas.List.{drop_more, drop-drop, take-take, get_or-take, get_or-drop, length-take-le}
use Rattle.std.proofs.lemmas.List.Concat.{flat_map-append}
use Rattle.std.proofs.lemmas.List.Sums.{prefix_len-le-length, prefix_len_is, prefix_len_passes, prefix_len_stops}
use Rattle.std.proofs.lemmas.Str.{IsCharBoundary-after_ascii, IsCharBoundary-before_ascii}
use Rattle.cell_units.specs.Text.{IsText, carriage_return, is_feed, line_feed}
use Rattle.cell_units.specs.Inlaid.{Byte, Token}
use Rattle.cell_units.specs.Layers.{Source}
use Rattle.cell_units.proofs.CutLists.{Every}
use Rattle.plain_rows.specs.declared.folded_lines.Part.{Part}
use Rattle.plain_rows.specs.declared.folded_lines.Part.TheVariants.{Buffer, Feed}
use Rattle.plain_rows.specs.FoldedLines.{EachLies, IsApart, IsChain, IsRun, Lies, before_all, bytes_from, is_break, is_buffer, last_part, next_inlay, part_end, part_start, part_tokens}
use Rattle.plain_rows.specs.inside.Laying.{IsSpan, Lays, Reaches, last_of, run_parts, tokens_of}
use Rattle.plain_rows.proofs.LaidText.{length-slice_range, take_further}

-- ---- one more part

pub tokens-push : (s : Source) (ps : List Part) (q : Part) → tokens_of s (ps ++ q ∷ []) ≡ tokens_of s ps ++ part_tokens s q
tokens-push s ps q = flat_map-append (part_tokens s) ps (q ∷ []) ∙ ap (λ (l : List Token). tokens_of s ps ++ l) (append-nil (part_tokens s q))

pub last-push : (p : Part) (ps : List Part) (q : Part) → last_part p (ps ++ q ∷ []) ≡ q
last-push p [] q = refl
last-push p (o ∷ os) q = last-push o os q

lie-push : (s : Source) (ps : List Part) (q : Part) → EachLies s ps → Lies s q → EachLies s (ps ++ q ∷ [])
lie-push s [] q all l = (l, tt)
lie-push s (p ∷ ps) q all l = (all.0, lie-push s ps q all.1 l)

chain-push : (p : Part) (ps : List Part) (q : Part) → IsChain p ps → part_end (last_part p ps) ≡ part_start q → IsApart (last_part p ps) q → IsChain p (ps ++ q ∷ [])
chain-push p [] q chain at apart = (at, apart, tt)
chain-push p (o ∷ os) q chain at apart = (chain.0, chain.1, chain-push o os q chain.2 at apart)

pub reaches-push : (s : Source) (ps : List Part) (q : Part) (at : ℕ) → Reaches s ps at → Lies s q → part_start q ≡ at → IsApart (last_of ps) q → Reaches s (ps ++ q ∷ []) (part_end q)
reaches-push s ps q at r l start apart =
    record {
      lie = lie-push s ps q r.lie l;
      chain = chain-push before_all ps q r.chain (r.ends ∙ sym start) apart;
      ends = ap part_end (last-push before_all ps q);
    }

-- ---- bytes of the buffer

pub bytes_from-append : (o : ℕ) (xs ys : List ℕ) → bytes_from o (xs ++ ys) ≡ bytes_from o xs ++ bytes_from (o + length xs) ys
bytes_from-append o [] ys = let e : o + 0 ≡ o = omega arith in ap (λ (k : ℕ). bytes_from k ys) (sym e)
bytes_from-append o (x ∷ xs) ys =
    let e : o + 1 + length xs ≡ o + length (x ∷ xs) = omega arith in
    ap (λ (l : List Token). Byte o x ∷ l) (bytes_from-append (o + 1) xs ys ∙ ap (λ (k : ℕ). bytes_from (o + 1) xs ++ bytes_from k ys) e)

pub slice_range-append : (text : List ℕ) (a m b : ℕ) → a ≤ m → m ≤ b → slice_range text a b ≡ slice_range text a m ++ slice_range text m b
slice_range-append text a m b le ge =
    let e : a + (m - a) ≡ m = omega arith in
    let f : (b - a) - (m - a) ≡ b - m = omega arith in
    take_further (drop a text) (m - a) (b - a) (omega arith)
    ∙ (λ i. slice_range text a m ++ take (f i) (drop-drop (m - a) a text i))
    ∙ ap (λ (k : ℕ). slice_range text a m ++ take (b - m) (drop k text)) e

pub slice_range-one : (text : List ℕ) (a : ℕ) → a < length text → slice_range text a (a + 1) ≡ get_or text a 0 ∷ []
slice_range-one text a lt =
    let e : a + 1 - a ≡ 1 = omega arith in
    (λ i. take (e i) (drop_more text a 0 lt i))

pub slice_range-none : (text : List ℕ) (a : ℕ) → slice_range text a a ≡ []
slice_range-none text a = let e : a - a ≡ 0 = omega arith in ap (λ (k : ℕ). take k (drop a text)) e

pub lays-on : (s : Source) (a b c : List Part) (at m to : ℕ) → at ≤ m → m ≤ to → to ≤ length s.text → Lays s a b at m → Lays s b c m to → Lays s a c at to
lays-on s a b c at m to le ge within x y =
    let end : at + length (slice_range s.text at m) ≡ m = omega (arith, length-slice_range s.text at m le (omega arith)) in
    let both : bytes_from at (slice_range s.text at to) ≡ bytes_from at (slice_range s.text at m) ++ bytes_from m (slice_range s.text m to) =
    ap (bytes_from at) (slice_range-append s.text at m to le ge)
    ∙ bytes_from-append at (slice_range s.text at m) (slice_range s.text m to)
    ∙ ap (λ (k : ℕ). bytes_from at (slice_range s.text at m) ++ bytes_from k (slice_range s.text m to)) end in
    record {
      reaches = y.reaches;
      shows =
          y.shows
          ∙ ap (λ (l : List Token). l ++ bytes_from m (slice_range s.text m to)) x.shows
          ∙ append_assoc (tokens_of s a) (bytes_from at (slice_range s.text at m)) (bytes_from m (slice_range s.text m to))
          ∙ ap (λ (l : List Token). tokens_of s a ++ l) (sym both);
      inlays = omega (arith, x.inlays, y.inlays);
    }

pub lays-none : (s : Source) (a : List Part) (at : ℕ) → Reaches s a at → Lays s a a at at
lays-none s a at r =
    record {
      reaches = r;
      shows = sym (append-nil (tokens_of s a)) ∙ ap (λ (bs : List ℕ). tokens_of s a ++ bytes_from at bs) (sym (slice_range-none s.text at));
      inlays = omega arith;
    }

-- a run of bytes without a break, which may be none
pub lays-run : (s : Source) (ps : List Part) (at end : ℕ) → Reaches s ps at → is_buffer (last_of ps) ≡ false → IsSpan s.text at end →
    prefix_len (λ b. not (is_break b)) (slice_range s.text at end) ≡ end - at → Lays s ps (ps ++ run_parts at end) at end
lays-run s ps at end r apart span whole = elim (cases_lt at end) as (λ _. Lays s ps (ps ++ run_parts at end) at end) [
  | inl lt ↦
      let is : run_parts at end ≡ Buffer at end ∷ [] = ap (λ (b : Bool). cond b (Buffer at end ∷ []) []) (lt-ltb at end lt) in
      let run : IsRun s.text at end = record { some = lt; starts = span.starts; ends = span.ends; whole = whole } in
      let one : Lays s ps (ps ++ Buffer at end ∷ []) at end = record {
        reaches = reaches-push s ps (Buffer at end) at r run refl apart;
        shows = tokens-push s ps (Buffer at end);
        inlays = subst (λ (p : Part). next_inlay p ≤ next_inlay (last_of ps)) (sym (last-push before_all ps (Buffer at end))) (omega arith);
      } in
      subst (λ (l : List Part). Lays s ps (ps ++ l) at end) (sym is) one
  | inr le ↦
      let is : run_parts at end ≡ [] = ap (λ (b : Bool). cond b (Buffer at end ∷ []) []) (le-ltb at end le) in
      let same : at ≡ end = omega (arith, span.order, le) in
      let none : Lays s ps (ps ++ []) at at = subst (λ (l : List Part). Lays s ps l at at) (sym (append-nil ps)) (lays-none s ps at r) in
      subst (λ (l : List Part). Lays s ps (ps ++ l) at end) (sym is) (subst (λ (e : ℕ). Lays s ps (ps ++ []) at e) same none)
]

-- a line feed of the buffer
pub lays-feed : (s : Source) (ps : List Part) (at : ℕ) → Reaches s ps at → at < length s.text → get_or s.text at 0 ≡ line_feed → Lays s ps (ps ++ Feed at ∷ []) at (at + 1)
lays-feed s ps at r lt feed =
    record {
      reaches = reaches-push s ps (Feed at) at r tt refl tt;
      shows = tokens-push s ps (Feed at) ∙ ap (λ (bs : List ℕ). tokens_of s ps ++ bytes_from at bs) (sym (slice_range-one s.text at lt ∙ ap (λ (b : ℕ). b ∷ []) feed));
      inlays = subst (λ (p : Part). next_inlay p ≤ next_inlay (last_of ps)) (sym (last-push before_all ps (Feed at))) (omega arith);
    }

-- ---- where the first line break is

abbrev goes : ℕ → Bool
goes b = not (is_break b)

-- up to the first break of a span: no break, and there a break
pub record FirstBreak (text : List ℕ) (at to end : ℕ) : Type 0 where
  pub order : at ≤ end
  pub within : end ≤ to
  pub whole : prefix_len goes (slice_range text at end) ≡ end - at
  pub stops : end < to → is_break (get_or text end 0) ≡ true

pub first-break : (text : List ℕ) (at to : ℕ) → at ≤ to → to ≤ length text → FirstBreak text at to (at + prefix_len goes (slice_range text at to))
first-break text at to le within =
    let bs = slice_range text at to in
    let n = prefix_len goes bs in
    let long = length-slice_range text at to le within in
    let most : n ≤ length bs = prefix_len-le-length goes bs in
    let e : at + n - at ≡ n = omega arith in
    let front : slice_range text at (at + n) ≡ take n bs = ap (λ (k : ℕ). take k (drop at text)) e ∙ sym (take-take n (to - at) (drop at text) (omega (arith, most, long))) in
    let size : length (take n bs) ≡ n = length-take-le n bs most in
    record {
      order = omega arith;
      within = omega (arith, most, long);
      whole =
          ap (prefix_len goes) front
          ∙ prefix_len_is goes (take n bs) n 0 (omega (arith, size))
          (λ k lt. ap goes (get_or-take n bs k 0 lt) ∙ prefix_len_passes goes bs k 0 lt)
          (λ lt. absurd (omega (arith, lt, size)))
          ∙ sym e;
      stops = λ lt.
          let in_bs : n < length bs = omega (arith, lt, long) in
          let here : get_or bs n 0 ≡ get_or text (at + n) 0 = get_or-take (to - at) (drop at text) n 0 (omega (arith, in_bs, long)) ∙ get_or-drop at text n 0 in
          not-false (is_break (get_or text (at + n) 0)) (sym (ap goes here) ∙ prefix_len_stops goes bs 0 in_bs);
    }

-- in a text without returns a break is a feed
pub feed-there : (text : List ℕ) (at : ℕ) → All (λ b. b ≢ carriage_return) text → at < length text → is_break (get_or text at 0) ≡ true → get_or text at 0 ≡ line_feed
feed-there text at none lt is = elim (or_cases (is_feed (get_or text at 0)) (eqb (get_or text at 0) carriage_return) is) [
  | inl e ↦ eqb-true (get_or text at 0) line_feed e
  | inr e ↦ absurd (none at 0 lt (eqb-true (get_or text at 0) carriage_return e))
]

pub break-small : (b : ℕ) → is_break b ≡ true → b < 128
break-small b is = elim (or_cases (is_feed b) (eqb b carriage_return) is) [
  | inl e ↦ omega (arith, eqb-true b line_feed e)
  | inr e ↦ omega (arith, eqb-true b carriage_return e)
]

-- the bytes up to the first break are a span, and so is the rest after it
pub break-boundary : (text : List ℕ) (at to end : ℕ) → IsSpan text at to → to ≤ length text → FirstBreak text at to end → IsCharBoundary text end
break-boundary text at to end span within f = elim (cases_lt end to) [
  | inl lt ↦ IsCharBoundary-before_ascii text end (omega arith) (break-small (get_or text end 0) (f.stops lt))
  | inr le ↦ let same : to ≡ end = omega (arith, f.within, le) in subst (IsCharBoundary text) same span.ends
]

pub behind-break : (text : List ℕ) (end : ℕ) → IsUtf8 text → end < length text → is_break (get_or text end 0) ≡ true → IsCharBoundary text (end + 1)
behind-break text end utf8 lt is = IsCharBoundary-after_ascii text end utf8 lt (break-small (get_or text end 0) is)

-- ---- a line of the buffer

pub record LineLaid (s : Source) (old new : List Part) (at next to : ℕ) : Type 0 where
  pub lays : Lays s old new at next
  pub further : at < next
  pub span : IsSpan s.text next to
  pub apart : next < to → is_buffer (last_of new) ≡ false

pub line-laid-whole : (s : Source) (ps : List Part) (at to end : ℕ) → Reaches s ps at → is_buffer (last_of ps) ≡ false → IsSpan s.text at to → to ≤ length s.text → at < to →
    FirstBreak s.text at to end → end ≡ to → LineLaid s ps (ps ++ run_parts at end) at to to
line-laid-whole s ps at to end r apart span within some f e =
    let whole : IsSpan s.text at end = record { order = f.order; starts = span.starts; ends = break-boundary s.text at to end span within f } in
    record {
      lays = subst (λ (k : ℕ). Lays s ps (ps ++ run_parts at end) at k) e (lays-run s ps at end r apart whole f.whole);
      further = some;
      span = record { order = omega arith; starts = span.ends; ends = span.ends };
      apart = λ lt. absurd (omega (arith, lt));
    }

pub line-laid-feed : (s : Source) (ps : List Part) (at to end : ℕ) → IsText s.text → Reaches s ps at → is_buffer (last_of ps) ≡ false → IsSpan s.text at to → to ≤ length s.text →
    FirstBreak s.text at to end → end < to → LineLaid s ps ((ps ++ run_parts at end) ++ Feed end ∷ []) at (end + 1) to
line-laid-feed s ps at to end text r apart span within f lt =
    let whole : IsSpan s.text at end = record { order = f.order; starts = span.starts; ends = break-boundary s.text at to end span within f } in
    let is : is_break (get_or s.text end 0) ≡ true = f.stops lt in
    let inside : end < length s.text = omega (arith, lt, within) in
    let feed = feed-there s.text end text.1 inside is in
    let run = lays-run s ps at end r apart whole f.whole in
    let last : last_of ((ps ++ run_parts at end) ++ Feed end ∷ []) ≡ Feed end = last-push before_all (ps ++ run_parts at end) (Feed end) in
    record {
      lays = lays-on s ps (ps ++ run_parts at end) ((ps ++ run_parts at end) ++ Feed end ∷ []) at end (end + 1) f.order (omega arith) (omega (arith, inside)) run (lays-feed s (ps ++ run_parts at end) end run.reaches inside feed);
      further = omega (arith, f.order);
      span = record { order = omega arith; starts = behind-break s.text end text.0 inside is; ends = span.ends };
      apart = λ _. ap is_buffer last;
    }

pub break-found : (text bytes : List ℕ) (at to n : ℕ) → n ≡ prefix_len goes (slice_range bytes at to) → bytes ≡ text → IsSpan text at to → FirstBreak text at to (at + n)
break-found text bytes at to n is same span =
    let e : prefix_len goes (slice_range text at to) ≡ n = ap (λ (t : List ℕ). prefix_len goes (slice_range t at to)) (sym same) ∙ sym is in
    subst (λ (k : ℕ). FirstBreak text at to (at + k)) e (first-break text at to span.order span.ends.0)

-- ---- runs

pub length-run : (text : List ℕ) (start end : ℕ) → IsRun text start end → length (slice_range text start end) ≡ end - start
length-run text start end run = length-slice_range text start end (omega (arith, run.some)) run.ends.0

free-bytes : (bs : List ℕ) → prefix_len goes bs ≡ length bs → Every (λ b. is_feed b ≡ false) bs
free-bytes [] e = tt
free-bytes (b ∷ bs) e = go (is_break b) refl (free-bytes bs) where
  go : (c : Bool) → is_break b ≡ c → (prefix_len goes bs ≡ length bs → Every (λ b. is_feed b ≡ false) bs) → (is_feed b ≡ false) × Every (λ b. is_feed b ≡ false) bs
  go true is rest =
      let none : prefix_len goes (b ∷ bs) ≡ 0 = ap (λ (c : Bool). cond (not c) (1 + prefix_len goes bs) 0) is in
      absurd (omega (arith, none, e))
  go false is rest =
      let some : prefix_len goes (b ∷ bs) ≡ 1 + prefix_len goes bs = ap (λ (c : Bool). cond (not c) (1 + prefix_len goes bs) 0) is in
      ((or_parts (is_feed b) (eqb b carriage_return) is).0, rest (omega (arith, some, e)))

-- no line feed is in a run
pub run-free : (text : List ℕ) (start end : ℕ) → IsRun text start end → Every (λ b. is_feed b ≡ false) (slice_range text start end)
run-free text start end run = free-bytes (slice_range text start end) (run.whole ∙ sym (length-run text start end run))
