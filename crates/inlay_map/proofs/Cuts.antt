-- What is shown, cut before an inlay: how much is before it, by the splices of the inlays before it.
use Rattle.std.proofs.Common.{◌≡◌, ℕ, zero, suc, ◌+◌, ◌-◌, ◌≤◌, List, [], ◌∷◌, ◌++◌, length, map, take, drop, count_by, refl, sym, ap, ◌∙◌, arith, append_assoc, length-append}
use Rattle.std.proofs.lemmas.List.{length-drop, length-map, length-take, take_all}
use Rattle.std.proofs.lemmas.List.Concat.{flat_map-append}
use Rattle.cell_units.specs.Text.{clean, is_feed, line_feed, row_of}
use Rattle.cell_units.specs.Inlaid.{Token, Byte, InlayByte, Hidden, bytes_of, inlay_bytes, inlays_at, is_break, show_each}
use Rattle.cell_units.specs.Folded.{folded, shown}
use Rattle.cell_units.specs.Layers.{inlay_source, shown_text}
use Rattle.cell_units.specs.Record.{Inlay}
use Rattle.cell_units.proofs.CutLists.{Every, Every-append}
use Rattle.cell_units.proofs.BufferLines.{feeds-append}
use Rattle.cell_units.proofs.LineSpans.{feeds-tokens}
use Rattle.cell_units.proofs.ReplacedRows.{row_of-le}
use Rattle.cell_units.proofs.ShownText.{folded_is, tokens_bytes}
use Rattle.inlay_map.specs.Splices.{base_at}
use Rattle.inlay_map.specs.Spots.{sum_before}
use Rattle.inlay_map.proofs.Parts.{parts-are, parts_from, text_tokens}
use Rattle.inlay_map.proofs.ShownFeeds.{bytes-inlay, bytes-text, bytes_from, count-between}
use Rattle.inlay_map.proofs.Spread.{IsSpread}

-- a token of one byte
abbrev pub IsSingle : Token → Type 0
IsSingle (Byte o b) = Unit {0}
IsSingle (InlayByte o id b) = Unit {0}
IsSingle (Hidden o) = ⊥

single-text : (o : ℕ) (bs : List ℕ) → Every IsSingle (text_tokens o bs)
single-text o [] = tt
single-text o (b ∷ bs) = (tt, single-text (o + 1) bs)

single-inlay : (i : Inlay) → Every IsSingle (inlay_bytes i)
single-inlay i = go (clean i.text) where
  go : (bs : List ℕ) → Every IsSingle (map (λ b. InlayByte i.offset i.id b) bs)
  go [] = tt
  go (b ∷ bs) = (tt, go bs)

pub single : (text : List ℕ) (base : ℕ) (is : List Inlay) → Every IsSingle (parts_from text base is)
single text base [] = single-text base (drop base text)
single text base (i ∷ is) =
    let here = text_tokens base (take (i.offset - base) (drop base text)) in
    Every-append IsSingle here (inlay_bytes i ++ parts_from text i.offset is) (single-text base (take (i.offset - base) (drop base text)))
    (Every-append IsSingle (inlay_bytes i) (parts_from text i.offset is) (single-inlay i) (single text i.offset is))

pub length-bytes : (ts : List Token) → Every IsSingle ts → length (tokens_bytes ts) ≡ length ts
length-bytes [] s = refl
length-bytes (Byte o b ∷ ts) s = ap suc (length-bytes ts s.1)
length-bytes (InlayByte o id b ∷ ts) s = ap suc (length-bytes ts s.1)
length-bytes (Hidden o ∷ ts) s = absurd s.0

-- ---- what a source shows

pub text-is : (text : List ℕ) (is : List Inlay) → IsSpread text 0 is → shown_text (inlay_source text is) ≡ bytes_from text 0 is
text-is text is s =
    ap (λ l. tokens_bytes (show_each (shown is []) 0 l ++ inlays_at is (length text))) (take_all (length text) text (omega arith))
    ∙ ap tokens_bytes (parts-are text 0 is s (omega arith))

-- the tokens of the lines are these, and the break at the text's end
pub tokens-are : (text : List ℕ) (is : List Inlay) → IsSpread text 0 is → folded text is [] ≡ parts_from text 0 is ++ Byte (length text) line_feed ∷ []
tokens-are text is s =
    folded_is (inlay_source text is) (refl, refl)
    ∙ ap (λ l. (show_each (shown is []) 0 l ++ inlays_at is (length text)) ++ Byte (length text) line_feed ∷ []) (take_all (length text) text (omega arith))
    ∙ ap (λ l. l ++ Byte (length text) line_feed ∷ []) (parts-are text 0 is s (omega arith))

-- ---- the cut

length-text : (o : ℕ) (bs : List ℕ) → length (text_tokens o bs) ≡ length bs
length-text o [] = refl
length-text o (b ∷ bs) = ap suc (length-text (o + 1) bs)

module _ (text : List ℕ) where
  -- before the inlay of the index n, or after all
  pub record IsCut (base : ℕ) (is : List Inlay) (n : ℕ) : Type 0 where
    pub front : List Token
    pub whole : parts_from text base is ≡ front ++ parts_from text (base_at base is n) (drop n is)
    pub long : length front ≡ (sum_before text base is n).upper.bytes
    pub feeds : count_by is_break front ≡ (sum_before text base is n).upper.feeds
    pub offset : base + (sum_before text base is n).lower.bytes ≡ base_at base is n
    pub row : row_of text base + (sum_before text base is n).lower.feeds ≡ row_of text (base_at base is n)
    pub spread : IsSpread text (base_at base is n) (drop n is)
    pub within : base_at base is n ≤ length text

  pub cut-at : (base : ℕ) (is : List Inlay) (n : ℕ) → IsSpread text base is → base ≤ length text → IsCut base is n
  cut-at base is zero s le = record { front = []; whole = refl; long = refl; feeds = refl; offset = omega arith; row = omega arith; spread = s; within = le }
  cut-at base [] (suc n) s le = record { front = []; whole = refl; long = refl; feeds = refl; offset = omega arith; row = omega arith; spread = tt; within = le }
  cut-at base (i ∷ is) (suc n) s le =
      let r = cut-at i.offset is n s.3 s.1 in
      let gap = take (i.offset - base) (drop base text) in
      let here = text_tokens base gap in
      let own = inlay_bytes i in
      let counted : count_by is_break (here ++ (own ++ r.front)) ≡ count_by is_feed gap + (count_by is_feed (clean i.text) + count_by is_break r.front) =
      sym (feeds-tokens (here ++ (own ++ r.front)))
      ∙ ap (count_by is_feed) (flat_map-append bytes_of here (own ++ r.front) ∙ (λ j. bytes-text base gap j ++ (flat_map-append bytes_of own r.front ∙ ap (λ l. l ++ tokens_bytes r.front) (bytes-inlay i)) j))
      ∙ feeds-append gap (clean i.text ++ tokens_bytes r.front)
      ∙ ap (λ k. count_by is_feed gap + k) (feeds-append (clean i.text) (tokens_bytes r.front) ∙ ap (λ k. count_by is_feed (clean i.text) + k) (feeds-tokens r.front)) in
      record {
        front = here ++ (own ++ r.front);
        whole =
            ap (λ l. here ++ (own ++ l)) r.whole
            ∙ ap (λ l. here ++ l) (sym (append_assoc own r.front (parts_from text (base_at i.offset is n) (drop n is))))
            ∙ sym (append_assoc here (own ++ r.front) (parts_from text (base_at i.offset is n) (drop n is)));
        long =
            omega (
              arith,
              r.long,
              s.0,
              s.1,
              length-append here (own ++ r.front),
              length-append own r.front,
              length-text base gap,
              length-take (i.offset - base) (drop base text),
              length-drop base text,
              length-map (clean i.text) (λ (b : ℕ). InlayByte i.offset i.id b),
            );
        feeds = omega (arith, counted, r.feeds, count-between text base i.offset s.0, row_of-le text base i.offset s.0);
        offset = omega (arith, r.offset, s.0);
        row = omega (arith, r.row, row_of-le text base i.offset s.0);
        spread = r.spread;
        within = r.within;
      }
