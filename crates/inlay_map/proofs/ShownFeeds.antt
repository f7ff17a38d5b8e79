-- What is shown as bytes, and how many line feeds are among them.
use Rattle.std.proofs.Common.{◌≡◌, ℕ, ◌+◌, ◌-◌, ◌≤◌, List, [], ◌∷◌, ◌++◌, length, map, take, drop, count_by, refl, sym, ap, ◌∙◌, arith}
use Rattle.std.specs.List.{flat_map}
use Rattle.std.proofs.lemmas.List.{drop-take, take-append-drop, take-take, take_all}
use Rattle.std.proofs.lemmas.List.Concat.{flat_map-append}
use Rattle.cell_units.proofs.BufferLines.{feeds-append}
use Rattle.cell_units.specs.Text.{clean, is_feed, row_of}
use Rattle.cell_units.specs.Inlaid.{InlayByte, bytes_of, inlay_bytes}
use Rattle.cell_units.specs.Record.{Inlay}
use Rattle.cell_units.proofs.ReplacedRows.{row_of-le}
use Rattle.sum_core.specs.Sums.{total}
use Rattle.splice_tree.specs.Sides.{none, both}
use Rattle.splice_tree.specs.Splices.{piece_sum}
use Rattle.inlay_map.specs.Amounts.{nothing, together}
use Rattle.inlay_map.specs.Splices.{splices_from}
use Rattle.inlay_map.proofs.Parts.{parts_from, text_tokens}
use Rattle.inlay_map.proofs.Spread.{IsSpread}

pub bytes-text : (o : ℕ) (bs : List ℕ) → flat_map bytes_of (text_tokens o bs) ≡ bs
bytes-text o [] = refl
bytes-text o (b ∷ bs) = ap (λ l. b ∷ l) (bytes-text (o + 1) bs)

pub bytes-inlay : (i : Inlay) → flat_map bytes_of (inlay_bytes i) ≡ clean i.text
bytes-inlay i = go (clean i.text) where
  go : (bs : List ℕ) → flat_map bytes_of (map (λ b. InlayByte i.offset i.id b) bs) ≡ bs
  go [] = refl
  go (b ∷ bs) = ap (λ l. b ∷ l) (go bs)

-- the bytes that are shown from an offset on
abbrev pub bytes_from : List ℕ → ℕ → List Inlay → List ℕ
bytes_from text base is = flat_map bytes_of (parts_from text base is)

pub bytes-next : (text : List ℕ) (base : ℕ) (i : Inlay) (is : List Inlay) → bytes_from text base (i ∷ is) ≡ take (i.offset - base) (drop base text) ++ (clean i.text ++ bytes_from text i.offset is)
bytes-next text base i is =
    flat_map-append bytes_of (text_tokens base (take (i.offset - base) (drop base text))) (inlay_bytes i ++ parts_from text i.offset is)
    ∙ (λ j. bytes-text base (take (i.offset - base) (drop base text)) j ++ (flat_map-append bytes_of (inlay_bytes i) (parts_from text i.offset is) ∙ ap (λ l. l ++ bytes_from text i.offset is) (bytes-inlay i)) j)

-- the feeds of a part of a text
pub count-between : (text : List ℕ) (a b : ℕ) → a ≤ b → count_by is_feed (take (b - a) (drop a text)) + row_of text a ≡ row_of text b
count-between text a b le =
    let front : take a (take b text) ≡ take a text = take-take a b text le in
    let parts = take-append-drop a (take b text) in
    let whole : a + (b - a) ≡ b = omega arith in
    let rest : drop a (take b text) ≡ take (b - a) (drop a text) = ap (λ k. drop a (take k text)) (sym whole) ∙ drop-take a (b - a) text in
    omega (arith, ap (count_by is_feed) parts, feeds-append (take a (take b text)) (drop a (take b text)), ap (count_by is_feed) front, ap (count_by is_feed) rest)

module _ (text : List ℕ) where
  pub feeds-shown : (base : ℕ) (is : List Inlay) → IsSpread text base is → base ≤ length text
      → count_by is_feed (bytes_from text base is) + (total (none nothing) (both together) (piece_sum together) (splices_from text base is)).lower.feeds
      ≡ (total (none nothing) (both together) (piece_sum together) (splices_from text base is)).upper.feeds + (row_of text (length text) - row_of text base)
  feeds-shown base [] s le =
      let all = take-append-drop base text in
      omega (
        arith,
        ap (count_by is_feed) (bytes-text base (drop base text)),
        ap (count_by is_feed) all,
        feeds-append (take base text) (drop base text),
        ap (count_by is_feed) (take_all (length text) text (omega arith)),
      )
  feeds-shown base (i ∷ is) s le =
      let rest = feeds-shown i.offset is s.3 s.1 in
      let here = bytes-next text base i is in
      omega (
        arith,
        rest,
        ap (count_by is_feed) here,
        feeds-append (take (i.offset - base) (drop base text)) (clean i.text ++ bytes_from text i.offset is),
        feeds-append (clean i.text) (bytes_from text i.offset is),
        count-between text base i.offset s.0,
        row_of-le text base i.offset s.0,
        row_of-le text i.offset (length text) s.1,
      )
