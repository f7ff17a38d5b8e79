-- How many bytes a lawful source shows at most.
use Rattle.std.proofs.Common.{◌≡◌, ℕ, ◌+◌, ◌*◌, ◌<◌, ◌≤◌, ◌&&◌, inl, inr, suc, Bool, true, false, cond, eqb, leb, ltb, List, [], ◌∷◌, ◌++◌, length, map, filter, flat_map, refl, ap, ◌∙◌, arith, length-append}
use Rattle.std.specs.List.{All, count_by, slice_range, sum_by}
use Rattle.std.proofs.lemmas.Bool.{false≢true, or_cases, or_parts}
use Rattle.std.proofs.lemmas.Bool.Decides.{nat_tests}
use Rattle.std.proofs.lemmas.List.{length-map}
use Rattle.std.proofs.lemmas.List.Concat.{flat_map-append}
use Rattle.std.proofs.lemmas.List.Elements.{All-head, All-tail}
use Rattle.std.proofs.lemmas.List.Sums.{count_by-le-length, sum_by-cons}
use Rattle.cell_units.specs.Text.{begins_with_feed, carriage_return, clean, line_feed, without_returns_before_feeds}
use Rattle.cell_units.specs.Record as records
use Rattle.cell_units.specs.Record.{Fold}
use Rattle.cell_units.specs.Inlaid.{Byte, Hidden, InlayByte, Token, bytes_of, inlays_at, show_each}
use Rattle.cell_units.specs.Folded.{covered, folded, folded_before, inside, shown}
use Rattle.cell_units.specs.Layers.{Source, inlay_source}
use Rattle.cell_units.specs.Laws.{inlaid_bytes}
use Rattle.cell_units.proofs.InlaidPlaces.{right-is}
use Rattle.cell_units.proofs.ShownText.{folded_is}
use Rattle.plain_rows.specs.declared.folded_lines.Part.{Part}
use Rattle.plain_rows.specs.declared.folded_lines.Part.TheVariants.{Buffer, Feed, Inlay, InlayFeed, Placeholder}
use Rattle.plain_rows.specs.FoldedLines.{EachLies, IsLawfulSource, Lies, bytes_from, inlay_at, is_end, part_tokens}
use Rattle.plain_rows.specs.inside.Laying.{tokens_of}
use Rattle.plain_rows.specs.inside.PartPieces.{ends_from}
use Rattle.plain_rows.specs.inside.Passed.{part_bytes}
use Rattle.plain_rows.proofs.LaidParts.{length-run}

abbrev pub size : List Token → ℕ
size ts = length (flat_map bytes_of ts)

pub size-append : (xs ys : List Token) → size (xs ++ ys) ≡ size xs + size ys
size-append xs ys = ap length (flat_map-append bytes_of xs ys) ∙ length-append (flat_map bytes_of xs) (flat_map bytes_of ys)

-- ---- inlays

without-longer : (bs : List ℕ) → length (without_returns_before_feeds bs) ≤ length bs
without-longer [] = omega arith
without-longer (b ∷ bs) = go (eqb b carriage_return && begins_with_feed bs) (without-longer bs) where
  go : (c : Bool) → length (without_returns_before_feeds bs) ≤ length bs → length (cond c (without_returns_before_feeds bs) (b ∷ without_returns_before_feeds bs)) ≤ length (b ∷ bs)
  go true h = omega arith
  go false h = omega arith

clean-longer : (bs : List ℕ) → length (clean bs) ≤ length bs
clean-longer bs = omega (arith, length-map (without_returns_before_feeds bs) (λ b. cond (eqb b carriage_return) line_feed b), without-longer bs)

abbrev long : records.Inlay → ℕ
long i = length (clean i.text)

inlays-size : (test : records.Inlay → Bool) (inlays : List records.Inlay) → All (λ (i : records.Inlay). (0 < length i.text) × (length i.text ≤ 1024)) inlays → inlaid_bytes test inlays ≤ 1024 * length inlays
inlays-size test [] all = omega arith
inlays-size test (i ∷ is) all =
    let one = All-head (λ (i : records.Inlay). (0 < length i.text) × (length i.text ≤ 1024)) i is all in
    go (test i) (inlays-size test is (All-tail (λ (i : records.Inlay). (0 < length i.text) × (length i.text ≤ 1024)) i is all)) (omega (arith, one.1, clean-longer i.text)) where
      go : (c : Bool) → inlaid_bytes test is ≤ 1024 * length is → long i ≤ 1024 → sum_by long (cond c (i ∷ filter test is) (filter test is)) ≤ 1024 * length (i ∷ is)
      go true h one = omega (arith, h, one, sum_by-cons long i (filter test is))
      go false h one = omega (arith, h)

-- ---- folds

-- the folds that start at the offset or after it
abbrev begun : List Fold → ℕ → ℕ
begun folds o = count_by (λ (f : Fold). leb o f.start) folds

fold-passed : (s o : ℕ) → cond (leb (o + 1) s) 1 0 ≤ cond (leb o s) 1 0
fold-passed s o = grind (arith, nat_tests)

fold-begins : (s e o : ℕ) → leb s o && ltb o e ≡ true → ltb s o && ltb o e ≡ false → cond (leb (o + 1) s) 1 0 + 1 ≤ cond (leb o s) 1 0
fold-begins s e o h k = grind (arith, nat_tests, h, k)

begun-later : (folds : List Fold) (o : ℕ) → begun folds (o + 1) ≤ begun folds o
begun-later [] o = omega arith
begun-later (f ∷ fs) o =
    omega (
      arith,
      sum_by-cons (λ (f : Fold). cond (leb (o + 1) f.start) 1 0) f fs,
      sum_by-cons (λ (f : Fold). cond (leb o f.start) 1 0) f fs,
      fold-passed f.start o,
      begun-later fs o,
    )

-- a placeholder is where a fold starts
begun-here : (folds : List Fold) (o : ℕ) → covered folds o ≡ true → inside folds o ≡ false → begun folds (o + 1) + 1 ≤ begun folds o
begun-here [] o h k = absurd (false≢true h)
begun-here (f ∷ fs) o h k =
    let out = or_parts (ltb f.start o && ltb o f.end) (inside fs o) k in
    let step : cond (leb (o + 1) f.start) 1 0 + begun fs (o + 1) + 1 ≤ cond (leb o f.start) 1 0 + begun fs o =
    elim (or_cases (leb f.start o && ltb o f.end) (covered fs o) h) [
      | inl own ↦ omega (arith, fold-begins f.start f.end o own out.0, begun-later fs o)
      | inr later ↦ omega (arith, begun-here fs o later out.1, fold-passed f.start o)
    ] in
    omega (
      arith,
      sum_by-cons (λ (f : Fold). cond (leb (o + 1) f.start) 1 0) f fs,
      sum_by-cons (λ (f : Fold). cond (leb o f.start) 1 0) f fs,
      step,
    )

begun-few : (folds : List Fold) (o : ℕ) → begun folds o ≤ length folds
begun-few folds o = count_by-le-length (λ (f : Fold). leb o f.start) folds

one-size : (inlays : List records.Inlay) (folds : List Fold) (o b : ℕ) →
    size (shown inlays folds o b) + 2 * begun folds (o + 1) ≤ size (shown inlays [] o b) + 2 * begun folds o
one-size inlays folds o b = go (inside folds o) (covered folds o) refl refl where
  here : List Token
  here = inlays_at inlays o

  go : (c d : Bool) → inside folds o ≡ c → covered folds o ≡ d →
      size (cond c [] (here ++ (cond d (Hidden o) (Byte o b)) ∷ [])) + 2 * begun folds (o + 1) ≤ size (here ++ Byte o b ∷ []) + 2 * begun folds o
  go true d e k = omega (arith, begun-later folds o)
  go false true e k = omega (arith, size-append here (Hidden o ∷ []), size-append here (Byte o b ∷ []), begun-here folds o k e)
  go false false e k = omega (arith, begun-later folds o)

folds-size : (inlays : List records.Inlay) (folds : List Fold) (o : ℕ) (bs : List ℕ) →
    size (show_each (shown inlays folds) o bs) ≤ size (show_each (shown inlays []) o bs) + 2 * begun folds o
folds-size inlays folds o [] = omega arith
folds-size inlays folds o (b ∷ bs) =
    omega (
      arith,
      size-append (shown inlays folds o b) (show_each (shown inlays folds) (o + 1) bs),
      size-append (shown inlays [] o b) (show_each (shown inlays []) (o + 1) bs),
      one-size inlays folds o b,
      folds-size inlays folds (o + 1) bs,
    )

-- ---- all of it

pub folded-size : (s : Source) → IsLawfulSource s → size (folded s.text s.inlays s.folds) ≤ 134348801
folded-size s lawful =
    let n : ℕ = length s.text in
    let plain = inlay_source s.text s.inlays in
    let whole = ap size (folded_is plain (refl, refl)) ∙ size-append (folded_before s.text s.inlays [] n ++ inlays_at s.inlays n) (Byte n line_feed ∷ []) in
    let places = right-is s.text s.inlays n (omega arith) in
    let inlays = inlays-size (λ i. leb i.offset n) s.inlays lawful.inlays_size in
    let folds = folds-size s.inlays s.folds 0 (s.text ++ line_feed ∷ []) in
    omega (arith, whole, places, inlays, folds, begun-few s.folds 0, lawful.text_size, lawful.inlays_count, lawful.folds_count)

-- ---- parts

bytes-size : (o : ℕ) (bs : List ℕ) → size (bytes_from o bs) ≡ length bs
bytes-size o [] = refl
bytes-size o (b ∷ bs) = ap suc (bytes-size (o + 1) bs)

inlay-size : (o id : ℕ) (bs : List ℕ) → size (map (InlayByte o id) bs) ≡ length bs
inlay-size o id [] = refl
inlay-size o id (b ∷ bs) = ap suc (inlay-size o id bs)

part-size : (s : Source) (p : Part) → Lies s p → size (part_tokens s p) ≡ part_bytes p
part-size s (Buffer start end) lies = bytes-size start (slice_range s.text start end) ∙ length-run s.text start end lies
part-size s (Inlay number offset start end) lies =
    inlay-size offset (inlay_at s number).id (slice_range (inlay_at s number).text start end) ∙ length-run (inlay_at s number).text start end lies.1
part-size s (Placeholder start end) lies = refl
part-size s (Feed offset) lies = refl
part-size s (InlayFeed number offset) lies = refl

pub parts-size : (s : Source) (ps : List Part) → EachLies s ps → sum_by part_bytes ps ≡ size (tokens_of s ps)
parts-size s [] lie = refl
parts-size s (p ∷ ps) lie =
    omega (arith, sum_by-cons part_bytes p ps, parts-size s ps lie.1, part-size s p lie.0, size-append (part_tokens s p) (tokens_of s ps))

-- there are at most as many ends as bytes
pub ends-size : (n : ℕ) (ps : List Part) → length (ends_from n ps) ≤ sum_by part_bytes ps
ends-size n [] = omega arith
ends-size n (p ∷ ps) = go p (ends-size (n + 1) ps) where
  go : (p : Part) → length (ends_from (n + 1) ps) ≤ sum_by part_bytes ps → length (cond (is_end p) (record { parts = n + 1; feed = p } ∷ ends_from (n + 1) ps) (ends_from (n + 1) ps)) ≤ sum_by part_bytes (p ∷ ps)
  go (Feed offset) h = omega (arith, h, sum_by-cons part_bytes (Feed offset) ps)
  go (InlayFeed number offset) h = omega (arith, h, sum_by-cons part_bytes (InlayFeed number offset) ps)
  go (Buffer start end) h = omega (arith, h, sum_by-cons part_bytes (Buffer start end) ps)
  go (Inlay number offset start end) h = omega (arith, h, sum_by-cons part_bytes (Inlay number offset start end) ps)
  go (Placeholder start end) h = omega (arith, h, sum_by-cons part_bytes (Placeholder start end) ps)
