-- The display line of a place that lies at a spot.
use Rattle.std.proofs.Common.{◌≡◌, ℕ, zero, suc, ◌+◌, ◌-◌, ◌≤◌, List, [], ◌∷◌, ◌++◌, length, take, drop, count_by, Some, None, refl, sym, ap, ◌∙◌, subst, arith, append-nil, take_all}
use Rattle.std.specs.List.{slice_get}
use Rattle.std.proofs.lemmas.List.{length-drop, length-take, take-append-le, take-take}
use Rattle.std.proofs.lemmas.List.Concat.{flat_map-append}
use Rattle.std.proofs.Math.Seq.{take-append-add}
use Rattle.cell_units.specs.Text.{clean, is_feed, row_of}
use Rattle.cell_units.specs.Inlaid.{Token, bytes_of, inlay_bytes}
use Rattle.cell_units.specs.Layers.{inlay_source, shown_text}
use Rattle.cell_units.specs.Record.{Inlay}
use Rattle.cell_units.proofs.BufferLines.{feeds-append}
use Rattle.cell_units.proofs.LineSpans.{feeds-tokens}
use Rattle.cell_units.proofs.ShownText.{tokens_bytes}
use Rattle.inlay_map.specs.Splices.{base_at}
use Rattle.inlay_map.specs.Spots.{end_at, sum_before}
use Rattle.inlay_map.proofs.Cuts.{cut-at, length-bytes, single, text-is}
use Rattle.inlay_map.proofs.Parts.{parts_from, text_tokens}
use Rattle.inlay_map.proofs.ShownFeeds.{bytes-inlay, bytes-text, count-between}
use Rattle.inlay_map.proofs.Spread.{IsSpread}
use Rattle.cell_units.proofs.CutLists.{Every, Every-left}
use Rattle.inlay_map.proofs.Cuts.{IsSingle}

pub some-same : {X : Type 0} (x y : X) → Some x ≡ Some y → x ≡ y
some-same x y p = cc

module _ (text : List ℕ) where
  pub ends-in : (base : ℕ) (is : List Inlay) (n : ℕ) → IsSpread text base is → base ≤ length text → (base_at base is n ≤ end_at text is n) × (end_at text is n ≤ length text)
  ends-in base [] zero s le = (le, omega arith)
  ends-in base [] (suc n) s le = (le, omega arith)
  ends-in base (i ∷ is) zero s le = (s.0, s.1)
  ends-in base (i ∷ is) (suc n) s le = ends-in i.offset is n s.3 s.1

  -- What comes after the inlay before that of the index n: the text up to this one, and then the rest.
  pub record IsRest (base : ℕ) (is : List Inlay) (n : ℕ) : Type 0 where
    pub tail : List Token
    pub whole : parts_from text (base_at base is n) (drop n is) ≡ text_tokens (base_at base is n) (take (end_at text is n - base_at base is n) (drop (base_at base is n) text)) ++ tail
    pub own : (i : Inlay) → slice_get is n ≡ Some i → tail ≡ inlay_bytes i ++ parts_from text i.offset (drop (suc n) is)
    pub none : slice_get is n ≡ None → tail ≡ []

  rest-end : (base : ℕ) → base ≤ length text → parts_from text base [] ≡ text_tokens base (take (length text - base) (drop base text)) ++ []
  rest-end base le =
      ap (text_tokens base) (sym (take_all (length text - base) (drop base text) (omega (arith, length-drop base text))))
      ∙ sym (append-nil (text_tokens base (take (length text - base) (drop base text))))

  pub rest-at : (base : ℕ) (is : List Inlay) (n : ℕ) → IsSpread text base is → base ≤ length text → IsRest base is n
  rest-at base [] zero s le = record { tail = []; whole = rest-end base le; own = λ i e. absurd (cc); none = λ e. refl }
  rest-at base [] (suc n) s le = record { tail = []; whole = rest-end base le; own = λ i e. absurd (cc); none = λ e. refl }
  rest-at base (i ∷ is) zero s le = record {
    tail = inlay_bytes i ++ parts_from text i.offset is;
    whole = refl;
    own = λ j e. ap (λ (k : Inlay). inlay_bytes k ++ parts_from text k.offset is) (some-same i j e);
    none = λ e. absurd (cc);
  }
  rest-at base (i ∷ is) (suc n) s le =
      let r = rest-at i.offset is n s.3 s.1 in
      record { tail = r.tail; whole = r.whole; own = r.own; none = r.none }

  -- how much is shown up to the end of the inlay of the index
  pub bytes-next : (base : ℕ) (is : List Inlay) (n : ℕ) (i : Inlay) → slice_get is n ≡ Some i
      → (sum_before text base is (suc n)).upper.bytes ≡ (sum_before text base is n).upper.bytes + (end_at text is n - base_at base is n) + length (clean i.text)
  bytes-next base [] zero i e = absurd (cc)
  bytes-next base [] (suc n) i e = absurd (cc)
  bytes-next base (j ∷ js) zero i e = omega (arith, ap (λ (k : Inlay). length (clean k.text)) (some-same j i e))
  bytes-next base (j ∷ js) (suc n) i e = omega (arith, bytes-next j.offset js n i e)

  pub feeds-next : (base : ℕ) (is : List Inlay) (n : ℕ) (i : Inlay) → slice_get is n ≡ Some i
      → (sum_before text base is (suc n)).upper.feeds ≡ (sum_before text base is n).upper.feeds + (row_of text (end_at text is n) - row_of text (base_at base is n)) + count_by is_feed (clean i.text)
  feeds-next base [] zero i e = absurd (cc)
  feeds-next base [] (suc n) i e = absurd (cc)
  feeds-next base (j ∷ js) zero i e = omega (arith, ap (λ (k : Inlay). count_by is_feed (clean k.text)) (some-same j i e))
  feeds-next base (j ∷ js) (suc n) i e = omega (arith, feeds-next j.offset js n i e)

-- What is shown in three parts: what is before the spot, the text there, and the rest.
pub record InSpot (text : List ℕ) (is : List Inlay) (n : ℕ) : Type 0 where
  pub front : List ℕ
  pub tail : List ℕ
  pub whole : shown_text (inlay_source text is) ≡ front ++ (take (end_at text is n - base_at 0 is n) (drop (base_at 0 is n) text) ++ tail)
  pub long : length front ≡ (sum_before text 0 is n).upper.bytes
  pub feeds : count_by is_feed front ≡ (sum_before text 0 is n).upper.feeds
  pub own : (i : Inlay) → slice_get is n ≡ Some i → tail ≡ clean i.text ++ tokens_bytes (parts_from text i.offset (drop (suc n) is))
  pub none : slice_get is n ≡ None → tail ≡ []
  pub order : base_at 0 is n ≤ end_at text is n
  pub within : end_at text is n ≤ length text
  pub offset : (sum_before text 0 is n).lower.bytes ≡ base_at 0 is n
  pub row : (sum_before text 0 is n).lower.feeds ≡ row_of text (base_at 0 is n)

pub in-spot : (text : List ℕ) (is : List Inlay) (n : ℕ) → IsSpread text 0 is → InSpot text is n
in-spot text is n s =
    let c = cut-at text 0 is n s (omega arith) in
    let r = rest-at text 0 is n s (omega arith) in
    let b = base_at 0 is n in
    let here = take (end_at text is n - b) (drop b text) in
    let ends = ends-in text 0 is n s (omega arith) in
    let whole : parts_from text 0 is ≡ c.front ++ (text_tokens b here ++ r.tail) = c.whole ∙ ap (λ l. c.front ++ l) r.whole in
    let singles : Every IsSingle c.front = Every-left IsSingle c.front (text_tokens b here ++ r.tail) (subst (Every IsSingle) whole (single text 0 is)) in
    record {
      front = tokens_bytes c.front;
      tail = tokens_bytes r.tail;
      whole =
          text-is text is s
          ∙ ap tokens_bytes whole
          ∙ flat_map-append bytes_of c.front (text_tokens b here ++ r.tail)
          ∙ ap (λ l. tokens_bytes c.front ++ l) (flat_map-append bytes_of (text_tokens b here) r.tail ∙ ap (λ l. l ++ tokens_bytes r.tail) (bytes-text b here));
      long = length-bytes c.front singles ∙ c.long;
      feeds = feeds-tokens c.front ∙ c.feeds;
      own = λ i e. ap tokens_bytes (r.own i e) ∙ flat_map-append bytes_of (inlay_bytes i) (parts_from text i.offset (drop (suc n) is)) ∙ ap (λ l. l ++ tokens_bytes (parts_from text i.offset (drop (suc n) is))) (bytes-inlay i);
      none = λ e. ap tokens_bytes (r.none e);
      order = ends.0;
      within = ends.1;
      offset = omega (arith, c.offset);
      row = omega (arith, c.row);
    }

module _ (text : List ℕ) (is : List Inlay) (n : ℕ) (s : IsSpread text 0 is) where
  abbrev at : InSpot text is n
  at = in-spot text is n s

  abbrev base : ℕ
  base = base_at 0 is n

  abbrev end : ℕ
  end = end_at text is n

  abbrev here : List ℕ
  here = take (end - base) (drop base text)

  length-here : length here ≡ end - base
  length-here = omega (arith, length-take (end - base) (drop base text), length-drop base text, at.order, at.within)

  feeds-here : (r : ℕ) → r ≤ end - base → count_by is_feed (take r here) + row_of text base ≡ row_of text (base + r)
  feeds-here r le =
      let same : base + r - base ≡ r = omega arith in
      ap (λ l. count_by is_feed l + row_of text base) (take-take r (end - base) (drop base text) le)
      ∙ ap (λ k. count_by is_feed (take k (drop base text)) + row_of text base) (sym same)
      ∙ count-between text base (base + r) (omega arith)

  front-row : (place r : ℕ) → place ≡ (sum_before text 0 is n).upper.bytes + r
      → row_of (shown_text (inlay_source text is)) place ≡ (sum_before text 0 is n).upper.feeds + count_by is_feed (take r (here ++ at.tail))
  front-row place r e =
      let same : place ≡ length at.front + r = omega (arith, e, at.long) in
      (λ j. count_by is_feed (take (same j) (at.whole j)))
      ∙ ap (count_by is_feed) (take-append-add at.front (here ++ at.tail) r)
      ∙ feeds-append at.front (take r (here ++ at.tail))
      ∙ ap (λ k. k + count_by is_feed (take r (here ++ at.tail))) at.feeds

  -- a place in the text
  pub row-in_text : (place r : ℕ) → place ≡ (sum_before text 0 is n).upper.bytes + r → r ≤ end - base
      → row_of (shown_text (inlay_source text is)) place ≡ (sum_before text 0 is n).upper.feeds + (row_of text (base + r) - row_of text base)
  row-in_text place r e le =
      let part : count_by is_feed (take r (here ++ at.tail)) ≡ count_by is_feed (take r here) = ap (count_by is_feed) (take-append-le r here at.tail (omega (arith, le, length-here))) in
      omega (arith, front-row place r e, part, feeds-here r le)

  -- a place in what the inlay shows
  pub row-in_inlay : (i : Inlay) (place r : ℕ) → slice_get is n ≡ Some i → place ≡ (sum_before text 0 is n).upper.bytes + (end - base) + r → r ≤ length (clean i.text)
      → row_of (shown_text (inlay_source text is)) place ≡ (sum_before text 0 is n).upper.feeds + (row_of text end - row_of text base) + count_by is_feed (take r (clean i.text))
  row-in_inlay i place r found e le =
      let more = tokens_bytes (parts_from text i.offset (drop (suc n) is)) in
      let there : end - base + r ≡ length here + r = omega (arith, length-here) in
      let all : count_by is_feed here + row_of text base ≡ row_of text end =
      ap (λ l. count_by is_feed l + row_of text base) (sym (take_all (end - base) here (omega (arith, length-here))))
      ∙ feeds-here (end - base) (omega arith)
      ∙ ap (row_of text) (omega (arith, at.order)) in
      let part : count_by is_feed (take (end - base + r) (here ++ at.tail)) ≡ count_by is_feed here + count_by is_feed (take r (clean i.text)) =
      ap (λ k. count_by is_feed (take k (here ++ at.tail))) there
      ∙ ap (count_by is_feed) (take-append-add here at.tail r)
      ∙ feeds-append here (take r at.tail)
      ∙ ap (λ l. count_by is_feed here + count_by is_feed l) (ap (take r) (at.own i found) ∙ take-append-le r (clean i.text) more le) in
      omega (arith, front-row place (end - base + r) (omega (arith, e)), part, all)
