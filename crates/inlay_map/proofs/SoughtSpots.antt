-- The spot at which a place or a line is sought, in a source without folds: its numbers, and what is there.
use Rattle.std.proofs.Common.{◌≡◌, ℕ, zero, suc, ◌+◌, ◌-◌, ◌<◌, ◌≤◌, ◌^◌, List, [], ◌++◌, length, take, drop, count_by, Option, Some, None, refl, sym, ap, ◌∙◌, arith, length-append}
use Rattle.std.specs.List.{slice_get}
use Rattle.std.proofs.lemmas.List.{length-drop, length-take}
use Rattle.std.proofs.lemmas.List.Sums.{count_by-le-length}
use Rattle.std.proofs.lemmas.Option.{slice_get_within}
use Rattle.cell_units.specs.declared.limits.TheConstants.{INLAY_LIMIT, LAID_LIMIT}
use Rattle.cell_units.specs.declared.place.Bias.{Bias}
use Rattle.cell_units.specs.declared.place.Bias.TheVariants.{Left, Right}
use Rattle.cell_units.specs.BufferLines.{line_start}
use Rattle.cell_units.specs.Lawful.{AreInlays}
use Rattle.cell_units.specs.Layers.{Source, inlay_source, shown_text}
use Rattle.cell_units.specs.Record.{Inlay, line_count}
use Rattle.cell_units.specs.Text.{clean, is_feed, row_of}
use Rattle.cell_units.proofs.BufferLines.{feeds-append}
use Rattle.cell_units.proofs.ReplacedRows.{row_of-le}
use Rattle.cell_units.proofs.Returns.{clean-not_longer}
use Rattle.text_rope.specs.Finds.{IsBehindFeed}
use Rattle.splice_tree.specs.declared.sides.Sides.{Sides}
use Rattle.inlay_map.specs.declared.amount.Amount.{Amount}
use Rattle.inlay_map.specs.declared.spot.Spot.{Spot}
use Rattle.inlay_map.specs.Amounts.{bytes_of, feeds_of}
use Rattle.inlay_map.specs.Splices.{base_at}
use Rattle.inlay_map.specs.Spots.{IsSpot, end_at, sum_before}
use Rattle.inlay_map.proofs.FeedsShown.{start-in_inlay, start-in_text, starts-in}
use Rattle.inlay_map.proofs.FoundInlays.{inlay-fits}
use Rattle.inlay_map.proofs.MapStates.{source-is}
use Rattle.inlay_map.proofs.Places.{place-limit}
use Rattle.inlay_map.proofs.RowsShown.{InSpot, bytes-next, feeds-next, in-spot, row-in_inlay, row-in_text}
use Rattle.inlay_map.proofs.ShownFeeds.{count-between}
use Rattle.inlay_map.proofs.Spread.{IsSpread, spread}

-- The numbers of a spot: how much is before it, and how long the text there is.
pub record AreNumbers (v : Source) (spot : Spot) : Type 0 where
  pub base : spot.before.lower.bytes ≡ base_at 0 v.inlays spot.index
  pub row : spot.before.lower.feeds ≡ row_of v.text (base_at 0 v.inlays spot.index)
  pub upper : spot.before.upper.bytes ≡ (sum_before v.text 0 v.inlays spot.index).upper.bytes
  pub lines : spot.before.upper.feeds ≡ (sum_before v.text 0 v.inlays spot.index).upper.feeds
  pub end : spot.before.lower.bytes + spot.gap.bytes ≡ end_at v.text v.inlays spot.index
  pub end_row : spot.before.lower.feeds + spot.gap.feeds ≡ row_of v.text (end_at v.text v.inlays spot.index)
  pub within : spot.before.lower.bytes + spot.gap.bytes ≤ length v.text
  pub shown : spot.before.upper.bytes + spot.gap.bytes ≤ length (shown_text v)
  pub feeds : spot.before.upper.feeds + spot.gap.feeds ≤ count_by is_feed (shown_text v)
  pub small : length (shown_text v) < 2 ^ 28
  pub few : count_by is_feed (shown_text v) ≤ length (shown_text v)

-- The inlay of a spot.
pub record IsThere (v : Source) (spot : Spot) : Type 0 where
  pub inlay : Inlay
  pub got : slice_get v.inlays spot.index ≡ Some inlay
  pub inside : spot.index < length v.inlays
  pub brief : length (clean inlay.text) ≤ INLAY_LIMIT

-- its text, in an equal source
pub text-there : (v w : Source) (spot : Spot) (t : IsThere v spot) (text : List ℕ) → w ≡ v → ((i : Inlay) → slice_get w.inlays spot.index ≡ Some i → text ≡ clean i.text) → text ≡ clean t.inlay.text
text-there v w spot t text e f = f t.inlay (ap (λ (s : Source). slice_get s.inlays spot.index) e ∙ t.got)

-- its id, in an equal source
pub id-there : (v w : Source) (spot : Spot) (t : IsThere v spot) (id : ℕ) → w ≡ v → ((i : Inlay) → slice_get w.inlays spot.index ≡ Some i → id ≡ i.id) → id ≡ t.inlay.id
id-there v w spot t id e f = f t.inlay (ap (λ (s : Source). slice_get s.inlays spot.index) e ∙ t.got)

module _ (v : Source) (none : v.folds ≡ []) (are : AreInlays v.text v.inlays) (short : length v.text ≤ LAID_LIMIT) where
  abbrev pub sp : IsSpread v.text 0 v.inlays
  sp = spread v.text v.inlays are

  abbrev here : Spot → List ℕ
  here spot = take (end_at v.text v.inlays spot.index - base_at 0 v.inlays spot.index) (drop (base_at 0 v.inlays spot.index) v.text)

  abbrev in' : (spot : Spot) → InSpot v.text v.inlays spot.index
  in' spot = in-spot v.text v.inlays spot.index sp

  pub same-text : shown_text (inlay_source v.text v.inlays) ≡ shown_text v
  same-text = ap shown_text (source-is v none)

  pub shown-limit : length (shown_text v) < 2 ^ 28
  shown-limit = omega (arith, place-limit v.text Right (length v.text) v.inlays are short (omega arith), ap (λ (t : List ℕ). length t) same-text)

  whole : (spot : Spot) → shown_text v ≡ (in' spot).front ++ (here spot ++ (in' spot).tail)
  whole spot = sym same-text ∙ (in' spot).whole

  length-here : (spot : Spot) → length (here spot) ≡ end_at v.text v.inlays spot.index - base_at 0 v.inlays spot.index
  length-here spot =
      let at = in' spot in
      let base = base_at 0 v.inlays spot.index in
      omega (arith, length-take (end_at v.text v.inlays spot.index - base) (drop base v.text), length-drop base v.text, at.order, at.within)

  long : (spot : Spot) → length (shown_text v) ≡ (sum_before v.text 0 v.inlays spot.index).upper.bytes + ((end_at v.text v.inlays spot.index - base_at 0 v.inlays spot.index) + length (in' spot).tail)
  long spot =
      let at = in' spot in
      omega (arith, ap (λ (t : List ℕ). length t) (whole spot), length-append at.front (here spot ++ at.tail), length-append (here spot) at.tail, at.long, length-here spot)

  feeds-all : (spot : Spot) → count_by is_feed (shown_text v)
      ≡ (sum_before v.text 0 v.inlays spot.index).upper.feeds + ((row_of v.text (end_at v.text v.inlays spot.index) - row_of v.text (base_at 0 v.inlays spot.index)) + count_by is_feed (in' spot).tail)
  feeds-all spot =
      let at = in' spot in
      let base = base_at 0 v.inlays spot.index in
      omega (
        arith,
        ap (count_by is_feed) (whole spot),
        feeds-append at.front (here spot ++ at.tail),
        feeds-append (here spot) at.tail,
        at.feeds,
        count-between v.text base (end_at v.text v.inlays spot.index) at.order,
      )

  pub numbers : (number : Amount → ℕ) (target : ℕ) (bias : Bias) (spot : Spot) → IsSpot v number target bias spot → AreNumbers v spot
  numbers number target bias spot is =
      let at = in' spot in
      let base : spot.before.lower.bytes ≡ base_at 0 v.inlays spot.index = ap (λ (s : Sides Amount). s.lower.bytes) is.before ∙ at.offset in
      let row : spot.before.lower.feeds ≡ row_of v.text (base_at 0 v.inlays spot.index) = ap (λ (s : Sides Amount). s.lower.feeds) is.before ∙ at.row in
      let upper : spot.before.upper.bytes ≡ (sum_before v.text 0 v.inlays spot.index).upper.bytes = ap (λ (s : Sides Amount). s.upper.bytes) is.before in
      let lines : spot.before.upper.feeds ≡ (sum_before v.text 0 v.inlays spot.index).upper.feeds = ap (λ (s : Sides Amount). s.upper.feeds) is.before in
      let gap : spot.gap.bytes ≡ end_at v.text v.inlays spot.index - base_at 0 v.inlays spot.index = ap (λ (a : Amount). a.bytes) is.gap in
      let gap-feeds : spot.gap.feeds ≡ row_of v.text (end_at v.text v.inlays spot.index) - row_of v.text (base_at 0 v.inlays spot.index) = ap (λ (a : Amount). a.feeds) is.gap in
      let rises = row_of-le v.text (base_at 0 v.inlays spot.index) (end_at v.text v.inlays spot.index) at.order in
      record {
        base = base;
        row = row;
        upper = upper;
        lines = lines;
        end = omega (arith, base, gap, at.order);
        end_row = omega (arith, row, gap-feeds, rises);
        within = omega (arith, base, gap, at.order, at.within);
        shown = omega (arith, upper, gap, long spot);
        feeds = omega (arith, lines, gap-feeds, feeds-all spot);
        small = shown-limit;
        few = count_by-le-length is_feed (shown_text v);
      }

  there : (spot : Spot) → (slice_get v.inlays spot.index ≡ None → ⊥) → IsThere v spot
  there spot some = go (slice_get v.inlays spot.index) refl where
    go : (o : Option Inlay) → slice_get v.inlays spot.index ≡ o → IsThere v spot
    go None e = absurd (some e)
    go (Some i) e = record {
      inlay = i;
      got = e;
      inside = slice_get_within v.inlays spot.index i e;
      brief = omega (arith, clean-not_longer i.text, (inlay-fits v.text v.inlays spot.index i are e).short);
    }

  -- where more is shown than up to the end of the text there, an inlay comes after it
  pub there-bytes : (spot : Spot) → AreNumbers v spot → spot.before.upper.bytes + spot.gap.bytes < length (shown_text v) → IsThere v spot
  there-bytes spot n lt = there spot (λ e. omega (arith, lt, n.upper, n.end, n.base, long spot, ap (λ (t : List ℕ). length t) ((in' spot).none e)))

  pub there-feeds : (spot : Spot) → AreNumbers v spot → spot.before.upper.feeds + spot.gap.feeds < count_by is_feed (shown_text v) → IsThere v spot
  there-feeds spot n lt = there spot (λ e. omega (arith, lt, n.lines, n.end_row, n.row, feeds-all spot, ap (count_by is_feed) ((in' spot).none e)))

  -- and it reaches to what is sought
  one-more : (n : ℕ) → n + 1 ≡ suc n
  one-more n = omega arith

  pub reach-left : (target : ℕ) (spot : Spot) → IsSpot v bytes_of target Left spot → (t : IsThere v spot) → target ≤ spot.before.upper.bytes + spot.gap.bytes + length (clean t.inlay.text)
  reach-left target spot is t =
      let n = numbers bytes_of target Left spot is in
      let e = ap (λ k. (sum_before v.text 0 v.inlays k).upper.bytes) (one-more spot.index) in
      let r : target ≤ (sum_before v.text 0 v.inlays (spot.index + 1)).upper.bytes = is.reaching t.inside in
      omega (arith, r, e, bytes-next v.text 0 v.inlays spot.index t.inlay t.got, n.upper, n.base, n.end, (in' spot).order)

  pub reach-right : (target : ℕ) (spot : Spot) → IsSpot v bytes_of target Right spot → (t : IsThere v spot) → target < spot.before.upper.bytes + spot.gap.bytes + length (clean t.inlay.text)
  reach-right target spot is t =
      let n = numbers bytes_of target Right spot is in
      let e = ap (λ k. (sum_before v.text 0 v.inlays k).upper.bytes) (one-more spot.index) in
      let r : target < (sum_before v.text 0 v.inlays (spot.index + 1)).upper.bytes = is.reaching t.inside in
      omega (arith, r, e, bytes-next v.text 0 v.inlays spot.index t.inlay t.got, n.upper, n.base, n.end, (in' spot).order)

  pub reach-feeds : (target : ℕ) (spot : Spot) → IsSpot v feeds_of target Left spot → (t : IsThere v spot) → target ≤ spot.before.upper.feeds + spot.gap.feeds + count_by is_feed (clean t.inlay.text)
  reach-feeds target spot is t =
      let n = numbers feeds_of target Left spot is in
      let e = ap (λ k. (sum_before v.text 0 v.inlays k).upper.feeds) (one-more spot.index) in
      let r : target ≤ (sum_before v.text 0 v.inlays (spot.index + 1)).upper.feeds = is.reaching t.inside in
      omega (
        arith,
        r,
        e,
        feeds-next v.text 0 v.inlays spot.index t.inlay t.got,
        n.lines,
        n.row,
        n.end_row,
        row_of-le v.text (base_at 0 v.inlays spot.index) (end_at v.text v.inlays spot.index) (in' spot).order,
      )

  -- what is sought isn't before the spot
  pub from-left : (target : ℕ) (spot : Spot) → IsSpot v bytes_of target Left spot → spot.before.upper.bytes ≤ target
  from-left target spot is = go spot.index refl where
    go : (n : ℕ) → spot.index ≡ n → spot.before.upper.bytes ≤ target
    go zero e = omega (arith, ap (λ (s : Sides Amount). s.upper.bytes) is.before, ap (λ k. (sum_before v.text 0 v.inlays k).upper.bytes) e)
    go (suc n) e =
        let r : spot.before.upper.bytes < target = is.short (omega (arith, e)) in
        omega (arith, r)

  pub from-right : (target : ℕ) (spot : Spot) → IsSpot v bytes_of target Right spot → spot.before.upper.bytes ≤ target
  from-right target spot is = go spot.index refl where
    go : (n : ℕ) → spot.index ≡ n → spot.before.upper.bytes ≤ target
    go zero e = omega (arith, ap (λ (s : Sides Amount). s.upper.bytes) is.before, ap (λ k. (sum_before v.text 0 v.inlays k).upper.bytes) e)
    go (suc n) e =
        let r : spot.before.upper.bytes ≤ target = is.short (omega (arith, e)) in
        omega (arith, r)

  pub from-feeds : (target : ℕ) (spot : Spot) → IsSpot v feeds_of target Left spot → 0 < target → spot.before.upper.feeds < target
  from-feeds target spot is some = go spot.index refl where
    go : (n : ℕ) → spot.index ≡ n → spot.before.upper.feeds < target
    go zero e = omega (arith, some, ap (λ (s : Sides Amount). s.upper.feeds) is.before, ap (λ k. (sum_before v.text 0 v.inlays k).upper.feeds) e)
    go (suc n) e =
        let r : spot.before.upper.feeds < target = is.short (omega (arith, e)) in
        omega (arith, r)

  -- ---- the row of a place

  pub row-text : (place : ℕ) (spot : Spot) → AreNumbers v spot → spot.before.upper.bytes ≤ place → place - spot.before.upper.bytes ≤ spot.gap.bytes
      → (spot.before.lower.feeds ≤ row_of v.text (spot.before.lower.bytes + (place - spot.before.upper.bytes)))
      × (row_of (shown_text v) place ≡ spot.before.upper.feeds + (row_of v.text (spot.before.lower.bytes + (place - spot.before.upper.bytes)) - spot.before.lower.feeds))
  row-text place spot n from le =
      let r = place - spot.before.upper.bytes in
      let base = base_at 0 v.inlays spot.index in
      let offset : base + r ≡ spot.before.lower.bytes + r = ap (λ k. k + r) (sym n.base) in
      let rises = row_of-le v.text base (base + r) (omega arith) in
      let is = row-in_text v.text v.inlays spot.index sp place r (omega (arith, n.upper, from)) (omega (arith, le, n.base, n.end)) in
      let row = ap (row_of v.text) offset in (
        omega (arith, n.row, rises, row),
        sym (ap (λ t. row_of t place) same-text) ∙ is ∙ omega (arith, n.lines, n.row, row),
      )

  pub row-inlay : (place : ℕ) (spot : Spot) → AreNumbers v spot → spot.before.upper.bytes ≤ place → spot.gap.bytes < place - spot.before.upper.bytes → (t : IsThere v spot)
      → place - spot.before.upper.bytes - spot.gap.bytes ≤ length (clean t.inlay.text)
      → row_of (shown_text v) place ≡ spot.before.upper.feeds + spot.gap.feeds + count_by is_feed (take (place - spot.before.upper.bytes - spot.gap.bytes) (clean t.inlay.text))
  row-inlay place spot n from more t le =
      let r = place - spot.before.upper.bytes - spot.gap.bytes in
      let is = row-in_inlay v.text v.inlays spot.index sp t.inlay place r t.got (omega (arith, n.upper, n.base, n.end, from, more)) le in
      sym (ap (λ x. row_of x place) same-text) ∙ is ∙ omega (arith, n.lines, n.row, n.end_row)

  -- ---- the start of a line

  pub start-text : (line : ℕ) (spot : Spot) → AreNumbers v spot → spot.before.upper.feeds < line → line - spot.before.upper.feeds ≤ spot.gap.feeds
      → (spot.before.lower.feeds + (line - spot.before.upper.feeds) < line_count v.text)
      × (spot.before.lower.bytes ≤ line_start v.text (spot.before.lower.feeds + (line - spot.before.upper.feeds)))
      × (spot.before.upper.bytes + (line_start v.text (spot.before.lower.feeds + (line - spot.before.upper.feeds)) - spot.before.lower.bytes) ≡ line_start (shown_text v) line)
  start-text line spot n some le =
      let r = line - spot.before.upper.feeds in
      let at = in' spot in
      let base = base_at 0 v.inlays spot.index in
      let end = end_at v.text v.inlays spot.index in
      let row : row_of v.text base + r ≡ spot.before.lower.feeds + r = ap (λ k. k + r) (sym n.row) in
      let less : r ≤ row_of v.text end - row_of v.text base = omega (arith, n.row, n.end_row, le) in
      let s = starts-in v.text base end r at.order at.within (omega (arith, some)) less in
      let is = start-in_text v.text v.inlays spot.index sp line r (omega (arith, n.lines, some)) (omega (arith, some)) less in
      let start = ap (line_start v.text) row in (
        omega (arith, s.line, row),
        omega (arith, s.from, n.base, start),
        omega (arith, is, n.upper, n.base, start, ap (λ t. line_start t line) same-text),
      )

  pub start-inlay : (line behind : ℕ) (spot : Spot) → AreNumbers v spot → spot.before.upper.feeds < line → spot.gap.feeds < line - spot.before.upper.feeds → (t : IsThere v spot)
      → IsBehindFeed (clean t.inlay.text) (line - spot.before.upper.feeds - spot.gap.feeds) behind
      → spot.before.upper.bytes + spot.gap.bytes + behind ≡ line_start (shown_text v) line
  start-inlay line behind spot n some more t f =
      let r = line - spot.before.upper.feeds - spot.gap.feeds in
      let rises = row_of-le v.text (base_at 0 v.inlays spot.index) (end_at v.text v.inlays spot.index) (in' spot).order in
      let is = start-in_inlay v.text v.inlays spot.index sp t.inlay line r behind t.got (omega (arith, n.lines, n.row, n.end_row, rises, some, more)) f in
      omega (arith, is, n.upper, n.base, n.end, (in' spot).order, ap (λ x. line_start x line) same-text)

  -- a row is no greater than what is shown is long
  pub row-small : (place : ℕ) → row_of (shown_text v) place < 2 ^ 28
  row-small place = omega (arith, count_by-le-length is_feed (take place (shown_text v)), length-take place (shown_text v), shown-limit)
