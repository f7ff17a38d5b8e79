-- Where a cursor finds the line feed after which a row starts, and that the row starts there.
use Rattle.std.proofs.Common.{◌≡◌, ℕ, suc, ◌+◌, ◌-◌, ◌<◌, ◌≤◌, ◌++◌, false, List, [], ◌∷◌, length, length-append, count_by, take, drop, get_or, take_all, ap, sym, ◌∙◌, subst, inl, inr, arith}
use Rattle.std.specs.List.{concat}
use Rattle.std.specs.Ordering.{is_le, nat_cmp, ordering_then}
use Rattle.std.proofs.lemmas.Bool.{cases_lt}
use Rattle.std.proofs.lemmas.Bool.Decides.{nat_tests}
use Rattle.std.proofs.lemmas.List.{drop_more, get_or-append-add, get_or_append_left, get_or_at, length-take-le, take-append-drop, take_more}
use Rattle.cell_units.specs.declared.place.Bias.TheVariants.{Left}
use Rattle.cell_units.specs.Text.{is_feed, line_feed}
use Rattle.cell_units.specs.BufferLines.{behind_feeds, line_start, line_starts}
use Rattle.cell_units.proofs.BufferLines.{behind_feeds-append, feeds-append, length-behind_feeds}
use Rattle.cell_units.proofs.ReplacedRows.{row_of-le}
use Rattle.sum_tree.specs.Cursors.{IsSought}
use Rattle.text_rope.specs.Finds.{IsBefore, IsBeforeRow, IsBehindFeed}
use Rattle.text_rope.specs.RowSizes.{row_cmp, row_size_of}
use Rattle.text_rope.specs.Sizes.{joined_size, no_size, size_of, total_size}
use Rattle.text_rope.specs.declared.chunk.TextSize.{TextSize}
use Rattle.text_rope.specs.declared.rows.RowSize.{RowSize}
use Rattle.text_rope.proofs.Chunks.{total_bytes, total_feeds}
use Rattle.text_rope.proofs.Finds.{found_count}
use Rattle.text_rope.proofs.Orders.{first_at_most}
use Rattle.text_rope.proofs.Places.{in_three, last_chunk, take_at}

first_greater : (m n b k : ℕ) → is_le (ordering_then (nat_cmp m n) (ordering_then (nat_cmp 0 b) (nat_cmp 0 k))) ≡ false → n < m
first_greater m n b k e = grind (arith, nat_tests)

abbrev pub target_row : ℕ → RowSize
target_row row = record { feeds = row; bytes = 0; chunks = 0 }

abbrev pub IsRowFound : List (List ℕ) → ℕ → ℕ → Type 0
IsRowFound chunks row place = IsSought no_size joined_size size_of row_size_of row_cmp chunks (target_row row) Left place

row_found_start : (chunks : List (List ℕ)) (row place : ℕ) → 0 < row → IsRowFound chunks row place → (total_size (take (place - 1) chunks)).feeds < row
row_found_start chunks row place some sought = elim (cases_lt 1 place) [
  | inl more ↦ first_greater row (total_size (take (place - 1) chunks)).feeds (total_size (take (place - 1) chunks)).bytes (total_size (take (place - 1) chunks)).chunks (sought.none_before (place - 1) (omega (arith, more)) (omega (arith, more)))
  | inr one ↦
      let none : 0 ≡ place - 1 = omega (arith, one) in
      subst (λ (n : ℕ). (total_size (take n chunks)).feeds < row) none some
]

row_found_end : (chunks : List (List ℕ)) (row place : ℕ) → row ≤ count_by is_feed (concat chunks) → IsRowFound chunks row place → row ≤ count_by is_feed (concat (take (place - 1 + 1) chunks))
row_found_end chunks row place within sought =
    let same : place ≡ place - 1 + 1 = omega (arith, sought.past_start) in
    subst (λ (n : ℕ). row ≤ count_by is_feed (concat (take n chunks))) same
    (elim (cases_lt (length chunks) place) [
      | inl past ↦ subst (λ (l : List (List ℕ)). row ≤ count_by is_feed (concat l)) (sym (take_all place chunks (omega (arith, past)))) within
      | inr at ↦
          let reached = first_at_most row (total_size (take place chunks)).feeds _ (sought.reached at) in
          omega (arith, reached, total_feeds (take place chunks))
    ])

pub row_found : (chunks items seen : List (List ℕ)) (row place : ℕ) (r : RowSize) → items ≡ chunks → seen ≡ items → 0 < row → row ≤ count_by is_feed (concat chunks) → IsRowFound items row place → r ≡ row_size_of (total_size (take (place - 1) seen)) → IsBeforeRow chunks row r
row_found chunks items seen row place r e f some within sought s =
    let here : IsRowFound chunks row place = subst (λ (l : List (List ℕ)). IsRowFound l row place) e sought in
    let size : r ≡ row_size_of (total_size (take (place - 1) chunks)) = s ∙ ap (λ (l : List (List ℕ)). row_size_of (total_size (take (place - 1) l))) (f ∙ e) in
    let count : r.chunks ≡ place - 1 = ap (λ (t : RowSize). t.chunks) size ∙ found_count chunks place here.at_most_past_end in
    record {
      size = size ∙ ap (λ (n : ℕ). row_size_of (total_size (take n chunks))) (sym count);
      within = omega (arith, count, here.at_most_past_end);
      start = omega (arith, ap (λ (t : RowSize). t.feeds) size, row_found_start chunks row place some here);
      end = subst (λ (n : ℕ). row ≤ count_by is_feed (concat (take (n + 1) chunks))) (sym count) (row_found_end chunks row place within here);
    }

-- ---- a row starts after its line feed

pub starts_behind : (text : List ℕ) (row place : ℕ) → IsBehindFeed text row place → place ≡ line_start text row
starts_behind text row place behind = from (place - 1) (omega (arith, behind.some)) where
  from : (i : ℕ) → place ≡ i + 1 → place ≡ line_start text row
  from i e =
      let front : List ℕ = take i text in
      let rest : List ℕ = drop (i + 1) text in
      let within : i < length text = omega (arith, e, behind.within) in
      let long : length front ≡ i = length-take-le i text (omega (arith, within)) in
      let feed : get_or text i 0 ≡ line_feed = ap (λ (k : ℕ). get_or text k 0) (omega (arith, e)) ∙ behind.feed in
      let whole : text ≡ front ++ (line_feed ∷ rest) = sym (take-append-drop i text) ∙ ap (λ (t : List ℕ). front ++ t) (drop_more text i 0 within ∙ ap (λ (b : ℕ). b ∷ rest) feed) in
      let count : row ≡ count_by is_feed front + 1 =
      sym behind.row ∙ ap (λ (k : ℕ). count_by is_feed (take k text)) e ∙ ap (λ (t : List ℕ). count_by is_feed t) (take_more text i 0 within ∙ ap (λ (b : ℕ). front ++ b ∷ []) feed) ∙ feeds-append front (line_feed ∷ []) in
      let starts : behind_feeds 0 text ≡ behind_feeds 0 front ++ behind_feeds (0 + length front) (line_feed ∷ rest) = ap (λ (t : List ℕ). behind_feeds 0 t) whole ∙ behind_feeds-append 0 front (line_feed ∷ rest) in
      let here : get_or (behind_feeds 0 text) (count_by is_feed front) 0 ≡ 0 + length front + 1 =
      ap (λ (l : List ℕ). get_or l (count_by is_feed front) 0) starts ∙ get_or_at (behind_feeds 0 front) (0 + length front + 1) (behind_feeds (0 + length front + 1) rest) 0 (count_by is_feed front) (length-behind_feeds 0 front) in
      let after : count_by is_feed front + 1 ≡ suc (count_by is_feed front) = omega arith in
      let next : line_start text row ≡ get_or (behind_feeds 0 text) (count_by is_feed front) 0 = ap (λ (k : ℕ). get_or (line_starts text) k 0) (count ∙ after) in
      omega (arith, e, long, here, next)

-- a line feed of a chunk is one of the text
pub feed_in_chunk : (chunks : List (List ℕ)) (row : ℕ) (r : RowSize) (m : List ℕ) (p : ℕ) → IsBeforeRow chunks row r → m ≡ get_or chunks r.chunks [] → IsBehindFeed m (row - r.feeds) p → IsBehindFeed (concat chunks) row (r.bytes + p)
feed_in_chunk chunks row r m p found e behind =
    let chunk = get_or chunks r.chunks [] in
    let here : IsBehindFeed chunk (row - r.feeds) p = subst (λ (t : List ℕ). IsBehindFeed t (row - r.feeds) p) e behind in
    let front = concat (take r.chunks chunks) in
    let rest = concat (drop (r.chunks + 1) chunks) in
    let bytes : r.bytes ≡ length front = ap (λ (t : RowSize). t.bytes) found.size ∙ total_bytes (take r.chunks chunks) in
    let feeds : r.feeds ≡ count_by is_feed front = ap (λ (t : RowSize). t.feeds) found.size ∙ total_feeds (take r.chunks chunks) in
    let all = in_three chunks r.chunks in
    record {
      some = omega (arith, here.some);
      within = omega (arith, ap length all, length-append front (chunk ++ rest), length-append chunk rest, bytes, here.within);
      feed = ap (λ (k : ℕ). get_or (concat chunks) k 0) (omega (arith, bytes, here.some)) ∙ ap (λ (t : List ℕ). get_or t (length front + (p - 1)) 0) (sym all)
          ∙ get_or-append-add front (chunk ++ rest) (p - 1) 0 ∙ get_or_append_left chunk rest 0 (p - 1) (omega (arith, here.some, here.within)) ∙ here.feed;
      row = ap (λ (t : List ℕ). count_by is_feed t) (take_at (concat chunks) front chunk rest p (r.bytes + p) all (omega (arith, bytes)) here.within)
          ∙ feeds-append front (take p chunk) ∙ omega (arith, feeds, here.row, found.start);
    }

-- the chunk that was found has the line feed
pub feeds_enough : (chunks : List (List ℕ)) (row : ℕ) (r : RowSize) → IsBeforeRow chunks row r → row - r.feeds ≤ count_by is_feed (get_or chunks r.chunks [])
feeds_enough chunks row r found =
    let feeds : r.feeds ≡ count_by is_feed (concat (take r.chunks chunks)) = ap (λ (t : RowSize). t.feeds) found.size ∙ total_feeds (take r.chunks chunks) in
    omega (arith, feeds, found.end, ap (λ (t : List ℕ). count_by is_feed t) (last_chunk chunks r.chunks), feeds-append (concat (take r.chunks chunks)) (get_or chunks r.chunks []))

-- the line feeds of a chunk's prefix are among its own
pub front_feeds : (m : List ℕ) (n : ℕ) → n ≤ length m → count_by is_feed (take n m) ≤ count_by is_feed m
front_feeds m n le = omega (arith, row_of-le m n (length m) le, ap (λ (t : List ℕ). count_by is_feed t) (take_all (length m) m (omega arith)))

-- the chunk of an offset has the line feed before it, where there is one
pub row_in_chunk : (chunks : List (List ℕ)) (offset row k : ℕ) (r : TextSize) → IsBefore chunks offset r → row ≡ r.feeds + k → 0 < k → k ≤ count_by is_feed (get_or chunks r.chunks []) → IsBeforeRow chunks row (row_size_of r)
row_in_chunk chunks offset row k r found e some le =
    let feeds : r.feeds ≡ count_by is_feed (concat (take r.chunks chunks)) = ap (λ (t : TextSize). t.feeds) found.size ∙ total_feeds (take r.chunks chunks) in
    record {
      size = ap row_size_of found.size;
      within = found.within;
      start = omega (arith, e, some);
      end = omega (arith, e, feeds, le, ap (λ (t : List ℕ). count_by is_feed t) (last_chunk chunks r.chunks), feeds-append (concat (take r.chunks chunks)) (get_or chunks r.chunks []));
    }

-- a row's chunk has the line feed of the next one too, where there are more
pub next_in_chunk : (chunks : List (List ℕ)) (row : ℕ) (r : RowSize) → IsBeforeRow chunks row r → row - r.feeds < count_by is_feed (get_or chunks r.chunks []) → IsBeforeRow chunks (row + 1) r
next_in_chunk chunks row r found more =
    let feeds : r.feeds ≡ count_by is_feed (concat (take r.chunks chunks)) = ap (λ (t : RowSize). t.feeds) found.size ∙ total_feeds (take r.chunks chunks) in
    record {
      size = found.size;
      within = found.within;
      start = omega (arith, found.start);
      end = omega (arith, feeds, more, found.start, ap (λ (t : List ℕ). count_by is_feed t) (last_chunk chunks r.chunks), feeds-append (concat (take r.chunks chunks)) (get_or chunks r.chunks []));
    }
