-- Where the line feed of a number is in what is shown.
use Rattle.std.proofs.Common.{◌≡◌, ℕ, zero, suc, ◌+◌, ◌-◌, ◌<◌, ◌≤◌, List, ◌++◌, length, take, drop, count_by, get_or, Some, sym, ap, ◌∙◌, inl, inr, arith, append_assoc, length-append}
use Rattle.std.specs.List.{slice_get}
use Rattle.std.proofs.lemmas.Bool.{cases_lt}
use Rattle.std.proofs.lemmas.List.{get_or-append-add, get_or-take, get_or_append_left, get_or-drop, length-drop, length-take, take-append-le, take-take}
use Rattle.std.proofs.lemmas.List.Sums.{count_by_more_yes}
use Rattle.std.proofs.Math.Seq.{take-append-add}
use Rattle.cell_units.specs.BufferLines.{line_end, line_start}
use Rattle.cell_units.specs.Text.{clean, is_feed, row_of}
use Rattle.cell_units.specs.Layers.{inlay_source, shown_text}
use Rattle.cell_units.specs.Record.{Inlay, line_count}
use Rattle.cell_units.proofs.BufferLines.{feed_at_end, feeds-append, line_bounds, line_end_next, row_of_start}
use Rattle.cell_units.proofs.ReplacedRows.{row_of-le, row_of-lt}
use Rattle.cell_units.proofs.ShownText.{tokens_bytes}
use Rattle.text_rope.specs.Finds.{IsBehindFeed}
use Rattle.text_rope.proofs.RowFinds.{starts_behind}
use Rattle.inlay_map.specs.Splices.{base_at}
use Rattle.inlay_map.specs.Spots.{end_at, sum_before}
use Rattle.inlay_map.proofs.Parts.{parts_from}
use Rattle.inlay_map.proofs.RowsShown.{InSpot, in-spot}
use Rattle.inlay_map.proofs.ShownFeeds.{count-between}
use Rattle.inlay_map.proofs.Spread.{IsSpread}

-- a feed in a middle part is one of the whole, after those of the prefix
pub behind-in : (front mid rest : List ℕ) (feeds place : ℕ) → IsBehindFeed mid feeds place → IsBehindFeed (front ++ (mid ++ rest)) (count_by is_feed front + feeds) (length front + place)
behind-in front mid rest feeds place b =
    let some = b.some in
    let before : length front + place - 1 ≡ length front + (place - 1) = omega arith in
    record {
      some = omega (arith, some);
      within = omega (arith, b.within, length-append front (mid ++ rest), length-append mid rest);
      feed =
          ap (λ k. get_or (front ++ (mid ++ rest)) k 0) before
          ∙ get_or-append-add front (mid ++ rest) (place - 1) 0
          ∙ get_or_append_left mid rest 0 (place - 1) (omega (arith, some, b.within))
          ∙ b.feed;
      row =
          ap (count_by is_feed) (take-append-add front (mid ++ rest) place)
          ∙ feeds-append front (take place (mid ++ rest))
          ∙ ap (λ l. count_by is_feed front + count_by is_feed l) (take-append-le place mid rest b.within)
          ∙ ap (λ k. count_by is_feed front + k) b.row;
    }

-- a line but the first starts after its feed
start-behind : (text : List ℕ) (row : ℕ) → 0 < row → row < line_count text → IsBehindFeed text row (line_start text row)
start-behind text zero some lt = absurd (omega arith)
start-behind text (suc row) some lt =
    let one : row + 1 ≡ suc row = omega arith in
    let here : row < line_count text = omega (arith, lt) in
    let next : line_end text row + 1 ≡ line_start text (suc row) = line_end_next text row (omega (arith, lt)) ∙ ap (line_start text) one in
    let within : line_start text (suc row) ≤ length text = omega (arith, line_bounds text (suc row) lt) in
    let before : line_start text (suc row) - 1 ≡ line_end text row = omega (arith, next) in
    record {
      some = omega (arith, next);
      within = within;
      feed = ap (λ k. get_or text k 0) before ∙ feed_at_end text row here (omega (arith, next, within));
      row = row_of_start text (suc row) lt;
    }

-- a line that starts in a part of the text
pub record StartsIn (text : List ℕ) (a b rest : ℕ) : Type 0 where
  pub behind : IsBehindFeed (take (b - a) (drop a text)) rest (line_start text (row_of text a + rest) - a)
  pub from : a ≤ line_start text (row_of text a + rest)
  pub to : line_start text (row_of text a + rest) ≤ b
  pub line : row_of text a + rest < line_count text

pub starts-in : (text : List ℕ) (a b rest : ℕ) → a ≤ b → b ≤ length text → 0 < rest → rest ≤ row_of text b - row_of text a → StartsIn text a b rest
starts-in text a b rest order within some le =
    let row = row_of text a + rest in
    let o = line_start text row in
    let lt : row < line_count text = omega (arith, row_of-lt text b, some) in
    let at = start-behind text row (omega (arith, some)) lt in
    let low : a < o = low-is o at.row in
    let high : o ≤ b = high-is o at lt in
    let spot : o - a - 1 < b - a = omega (arith, low, high, at.some) in
    let whole : a + (o - a - 1) ≡ o - 1 = omega (arith, low) in
    let back : a + (o - a) ≡ o = omega (arith, low) in
    let count = count-between text a o (omega (arith, low)) in
    record {
      behind = record {
        some = omega (arith, low);
        within = omega (arith, high, within, length-take (b - a) (drop a text), length-drop a text);
        feed = get_or-take (b - a) (drop a text) (o - a - 1) 0 spot ∙ get_or-drop a text (o - a - 1) 0 ∙ ap (λ k. get_or text k 0) whole ∙ at.feed;
        row =
            ap (count_by is_feed) (take-take (o - a) (b - a) (drop a text) (omega (arith, high)))
            ∙ omega (arith, count, at.row);
      };
      from = omega (arith, low);
      to = high;
      line = lt;
    }
  where
    low-is : (o : ℕ) → row_of text o ≡ row_of text a + rest → a < o
    low-is o e = elim (cases_lt a o) [
      | inl lt ↦ lt
      | inr ge ↦ absurd (omega (arith, e, some, row_of-le text o a ge))
    ]

    high-is : (o : ℕ) → IsBehindFeed text (row_of text a + rest) o → row_of text a + rest < line_count text → o ≤ b
    high-is o at lt = elim (cases_lt b o) [
      | inr ge ↦ ge
      | inl past ↦
          let more = count_by_more_yes is_feed text (o - 1) 0 (omega (arith, at.some, at.within)) (ap is_feed at.feed) in
          let one : o - 1 + 1 ≡ o = omega (arith, at.some) in
          absurd (omega (arith, more, ap (row_of text) one, at.row, le, some, row_of-le text b (o - 1) (omega (arith, past))))
    ]

module _ (text : List ℕ) (is : List Inlay) (n : ℕ) (s : IsSpread text 0 is) where
  abbrev at : InSpot text is n
  at = in-spot text is n s

  abbrev base : ℕ
  base = base_at 0 is n

  abbrev end : ℕ
  end = end_at text is n

  abbrev here : List ℕ
  here = take (end - base) (drop base text)

  -- a line that starts in the text
  pub start-in_text : (line r : ℕ) → line ≡ (sum_before text 0 is n).upper.feeds + r → 0 < r → r ≤ row_of text end - row_of text base
      → (sum_before text 0 is n).upper.bytes + (line_start text (row_of text base + r) - base) ≡ line_start (shown_text (inlay_source text is)) line
  start-in_text line r e some le =
      let start = starts-in text base end r at.order at.within some le in
      let place = line_start text (row_of text base + r) - base in
      let b = behind-in at.front here at.tail r place start.behind in
      ap (λ k. k + place) (sym at.long)
      ∙ starts_behind (at.front ++ (here ++ at.tail)) (count_by is_feed at.front + r) (length at.front + place) b
      ∙ (λ j. line_start (sym at.whole j) (count_by is_feed at.front + r))
      ∙ ap (line_start (shown_text (inlay_source text is))) (omega (arith, e, at.feeds))

  -- a line that starts in what the inlay shows
  pub start-in_inlay : (i : Inlay) (line r behind : ℕ) → slice_get is n ≡ Some i → line ≡ (sum_before text 0 is n).upper.feeds + (row_of text end - row_of text base) + r → IsBehindFeed (clean i.text) r behind
      → (sum_before text 0 is n).upper.bytes + (end - base) + behind ≡ line_start (shown_text (inlay_source text is)) line
  start-in_inlay i line r behind found e f =
      let more = tokens_bytes (parts_from text i.offset (drop (suc n) is)) in
      let whole : shown_text (inlay_source text is) ≡ (at.front ++ here) ++ (clean i.text ++ more) =
      at.whole ∙ ap (λ l. at.front ++ (here ++ l)) (at.own i found) ∙ sym (append_assoc at.front here (clean i.text ++ more)) in
      let b = behind-in (at.front ++ here) (clean i.text) more r behind f in
      let long : length (at.front ++ here) ≡ (sum_before text 0 is n).upper.bytes + (end - base) =
      omega (arith, length-append at.front here, at.long, length-take (end - base) (drop base text), length-drop base text, at.order, at.within) in
      let feeds : count_by is_feed (at.front ++ here) ≡ (sum_before text 0 is n).upper.feeds + (row_of text end - row_of text base) =
      omega (arith, feeds-append at.front here, at.feeds, count-between text base end at.order) in
      ap (λ k. k + behind) (sym long)
      ∙ starts_behind ((at.front ++ here) ++ (clean i.text ++ more)) (count_by is_feed (at.front ++ here) + r) (length (at.front ++ here) + behind) b
      ∙ (λ j. line_start (sym whole j) (count_by is_feed (at.front ++ here) + r))
      ∙ ap (line_start (shown_text (inlay_source text is))) (omega (arith, e, feeds))
