-- A source without folds as a layer: from a place back to an offset, the point of a place, and the span of a line.
use Rattle.std.proofs.Common.{◌≡◌, ℕ, ◌-◌, ◌<◌, ◌≤◌, ◌⊎◌, false, List, [], ◌∷◌, ◌++◌, length, count_by, get_or, Some, None, sym, ap, ◌∙◌, subst, inl, inr, arith, length-append}
use Rattle.std.specs.List.{slice_get}
use Rattle.std.proofs.lemmas.List.{length-map}
use Rattle.std.proofs.lemmas.Option.{slice_get-get_or}
use Rattle.cell_units.specs.declared.place.Bias.{Bias}
use Rattle.cell_units.specs.declared.place.Bias.TheVariants.{Left, Right}
use Rattle.cell_units.specs.BufferLines.{line_start}
use Rattle.cell_units.specs.Folded.{display_lines, folded, inside}
use Rattle.cell_units.specs.Inlaid.{Byte, Token, offset_of}
use Rattle.cell_units.specs.Lawful.{AreInlays}
use Rattle.cell_units.specs.Layers.{HasPlace, IsBack, Source, inlay_source, place_of, point_of, shown_lines, shown_text, span_of}
use Rattle.cell_units.specs.Pieces.{pieces_of}
use Rattle.cell_units.specs.Record.{Fold}
use Rattle.cell_units.specs.Text.{IsBoundary, IsText, is_feed, line_feed, row_of}
use Rattle.cell_units.proofs.BufferLines.{line_bounds, line_count-is}
use Rattle.cell_units.proofs.PlainLayers.{line_of_offset}
use Rattle.cell_units.proofs.Sources.{lines-are}
use Rattle.text_rope.proofs.RowStarts.{row_start_is}
use Rattle.inlay_map.proofs.Cuts.{length-bytes, single, text-is, tokens-are}
use Rattle.inlay_map.proofs.InlaidSources.{well-formed}
use Rattle.inlay_map.proofs.LineTokens.{span-is}
use Rattle.inlay_map.proofs.MapStates.{source-is}
use Rattle.inlay_map.proofs.Parts.{parts_from}
use Rattle.inlay_map.proofs.Spread.{spread}

-- ---- and back

-- an offset is the only one that has a place
abbrev pub IsOnly : Source → ℕ → ℕ → Type 0
IsOnly v place o = (q : ℕ) (b : Bias) → q ≤ length v.text → place_of v q b ≡ place → o ≡ q

open-at : (v : Source) (o : ℕ) → v.folds ≡ [] → inside v.folds o ≡ false
open-at v o none = ap (λ (f : List Fold). inside f o) none

pub back-some : (v : Source) (place o : ℕ) (bias : Bias) → v.folds ≡ [] → IsBoundary v.text o → (place_of v o Left ≡ place) ⊎ (place_of v o Right ≡ place) → IsOnly v place o → IsBack v place bias (Some o)
back-some v place o bias none b is only = go bias where
  has : HasPlace v place o
  has = elim is [
    | inl e ↦ ((b, open-at v o none), Left, e)
    | inr e ↦ ((b, open-at v o none), Right, e)
  ]

  same : (p : ℕ) → HasPlace v place p → o ≡ p
  same p h = only p h.1 h.0.0.0 h.2

  go : (d : Bias) → IsBack v place d (Some o)
  go Left = (has, λ p h. omega (arith, same p h))
  go Right = (has, λ p h. omega (arith, same p h))

pub back-off : (v : Source) (place o : ℕ) (bias : Bias) → ¬ IsBoundary v.text o → IsOnly v place o → IsBack v place bias None
back-off v place o bias off only q h = off (subst (IsBoundary v.text) (sym (only q h.1 h.0.0.0 h.2)) h.0.0)

pub back-apart : (v : Source) (place o : ℕ) (bias : Bias) → ¬ (place_of v o Left ≡ place) → ¬ (place_of v o Right ≡ place) → IsOnly v place o → IsBack v place bias None
back-apart v place o bias left right only q h = go h.1 h.2 where
  same : o ≡ q
  same = only q h.1 h.0.0.0 h.2

  go : (b : Bias) → place_of v q b ≡ place → ⊥
  go Left e = left (ap (λ k. place_of v k Left) same ∙ e)
  go Right e = right (ap (λ k. place_of v k Right) same ∙ e)

-- ---- points

pub point-is : (text : List ℕ) (place row start : ℕ) → place ≤ length text → row ≡ row_of text place → start ≡ line_start text row → (start ≤ place)
    × (record { row = row; column = place - start } ≡ point_of text place)
point-is text place row start le r s =
    let at : start ≡ line_start text (row_of text place) = s ∙ ap (line_start text) r in
    let column = at ∙ sym (row_start_is text place le) in
    (omega (arith, at, (line_of_offset text place le).0), λ i. record { row = r i; column = place - column i })

-- ---- spans

module _ (v : Source) (none : v.folds ≡ []) (are : AreInlays v.text v.inlays) (is-text : IsText v.text) where
  -- a line starts within what is shown
  pub start-within : (line : ℕ) → line < length (shown_lines v) → line_start (shown_text v) line ≤ length (shown_text v)
  start-within line lt =
      let shown = shown_text v in
      let bounds = line_bounds shown line (omega (arith, lt, lines-are v (well-formed v is-text are none), line_count-is shown)) in
      omega (arith, bounds)

  pub span-at : (line offset : ℕ) → line < length (shown_lines v)
      → ((t : Token) → slice_get (folded v.text v.inlays v.folds) (line_start (shown_text v) line) ≡ Some t → offset ≡ offset_of t)
      → (row_of v.text offset, row_of v.text offset) ≡ span_of v line
  span-at line offset lt at =
      let shown = shown_text v in
      let tokens = folded v.text v.inlays v.folds in
      let place = line_start shown line in
      let same = source-is v none in
      let sp = spread v.text v.inlays are in
      let parts = parts_from v.text 0 v.inlays in
      let last = Byte (length v.text) line_feed in
      let is : tokens ≡ parts ++ last ∷ [] = ap (λ (s : Source). folded s.text s.inlays s.folds) (sym same) ∙ tokens-are v.text v.inlays sp in
      let long : length shown ≡ length parts =
      ap (λ s. length (shown_text s)) (sym same) ∙ ap (λ (l : List ℕ). length l) (text-is v.text v.inlays sp) ∙ length-bytes parts (single v.text 0 v.inlays) in
      let within : place < length tokens = omega (arith, start-within line lt, ap (λ (l : List Token). length l) is, length-append parts (last ∷ []), long) in
      let t : Token = get_or tokens place last in
      let found : slice_get tokens place ≡ Some t = slice_get-get_or tokens place last within in
      let few : line ≤ count_by is_feed (shown_text (inlay_source v.text v.inlays)) = omega (arith, lt, lines-are v (well-formed v is-text are none), ap (λ s. count_by is_feed (shown_text s)) same) in
      let fewer : line < length (display_lines v.text v.inlays []) =
      omega (arith, lt, length-map (display_lines v.text v.inlays v.folds) pieces_of, ap (λ (f : List Fold). length (display_lines v.text v.inlays f)) none) in
      let there : slice_get (folded v.text v.inlays []) (line_start (shown_text (inlay_source v.text v.inlays)) line) ≡ Some t =
      ap (λ (s : Source). slice_get (folded s.text s.inlays s.folds) (line_start (shown_text s) line)) same ∙ found in
      let span = span-is v.text v.inlays line t sp few fewer there in
      (λ i. (row_of v.text (at t found i), row_of v.text (at t found i))) ∙ sym span ∙ ap (λ s. span_of s line) same
