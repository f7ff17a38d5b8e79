-- Display lines laid out as parts of a text and of its inlays.
use Rattle.std.specs.Prelude.{ℕ, ◌≡◌, ◌≢◌, ◌+◌, ◌-◌, ◌<◌, ◌≤◌, ◌==◌, ◌||◌, not, Bool, true, false, List, [], ◌∷◌, All, length, map, flat_map, slice_range, slice_index_or}
use Rattle.std.specs.List.{AllPairs, prefix_len}
use Rattle.std.specs.Str.{IsCharBoundary, IsUtf8}
use Rattle.cell_units.specs.declared.place.Bias.TheVariants.{Left}
use Rattle.cell_units.specs.Text.{IsBoundary, IsText, carriage_return, is_feed, line_feed}
use Rattle.cell_units.specs.Record as records
use Rattle.cell_units.specs.Inlaid.{Token, Byte, InlayByte, Hidden}
use Rattle.cell_units.specs.Folded.{covered, folded, inside}
use Rattle.cell_units.specs.Layers.{Source}
use Rattle.cell_units.specs.declared.limits.TheConstants.{ENTRY_LIMIT, INLAY_LIMIT, LAID_LIMIT}
use Rattle.plain_rows.specs.declared.folded_lines.Joined.{Joined}
use Rattle.plain_rows.specs.declared.folded_lines.Part.{Part}
use Rattle.plain_rows.specs.declared.folded_lines.Part.TheVariants.{Buffer, Inlay, Placeholder, Feed, InlayFeed}
use Rattle.plain_rows.specs.declared.folded_lines.PlainSource.{PlainSource}
use Rattle.plain_rows.specs.Plain.{listed_source}

-- ---- what is laid out

abbrev pub seen : PlainSource → Source
seen source = listed_source source.text.now source.inlays.now source.folds.now

-- by a number that doesn't fall
abbrev pub AreInOrder : {X : Type 0} → (X → ℕ) → List X → Type 0
AreInOrder key xs = AllPairs (λ x y. key x ≤ key y) xs

-- What laying out uses of a well-formed source. Inlays and folds are in order, lie between characters and are within
-- the limits. No inlay is empty, no two have one id, and no fold is empty.
pub record IsLawfulSource (source : Source) : Type 0 where
  pub text : IsText source.text
  pub text_size : length source.text ≤ LAID_LIMIT
  pub inlays_in_order : AreInOrder (λ (i : records.Inlay). i.offset) source.inlays
  pub inlays_distinct : AllPairs (λ (i j : records.Inlay). i.id ≢ j.id) source.inlays
  pub inlays_stand : All (λ i. IsBoundary source.text i.offset × IsUtf8 i.text) source.inlays
  pub inlays_size : All (λ i. (0 < length i.text) × (length i.text ≤ INLAY_LIMIT)) source.inlays
  pub inlays_count : length source.inlays ≤ ENTRY_LIMIT
  pub folds_in_order : AreInOrder (λ (f : records.Fold). f.start) source.folds
  pub folds_stand :
      All (λ f. IsBoundary source.text f.start × IsBoundary source.text f.end × (f.start < f.end)) source.folds
  pub folds_count : length source.folds ≤ ENTRY_LIMIT

-- ---- parts

abbrev pub no_inlay : records.Inlay
no_inlay = record { offset = 0; bias = Left; id = 0; text = [] }

abbrev pub inlay_at : Source → ℕ → records.Inlay
inlay_at source number = slice_index_or source.inlays number no_inlay

-- bytes of the buffer of which the first is at the offset
abbrev pub bytes_from : ℕ → List ℕ → List Token
bytes_from o [] = []
bytes_from o (b ∷ bs) = Byte o b ∷ bytes_from (o + 1) bs

-- what a part shows
abbrev pub part_tokens : Source → Part → List Token
part_tokens source (Buffer start end) = bytes_from start (slice_range source.text start end)
part_tokens source (Inlay number offset start end) =
    map (InlayByte offset (inlay_at source number).id) (slice_range (inlay_at source number).text start end)
part_tokens source (Placeholder start end) = Hidden start ∷ []
part_tokens source (Feed offset) = Byte offset line_feed ∷ []
part_tokens source (InlayFeed number offset) = InlayByte offset (inlay_at source number).id line_feed ∷ []

-- the offset at which a part begins, and the one after it
abbrev pub part_start : Part → ℕ
part_start (Buffer start end) = start
part_start (Inlay number offset start end) = offset
part_start (Placeholder start end) = start
part_start (Feed offset) = offset
part_start (InlayFeed number offset) = offset

abbrev pub part_end : Part → ℕ
part_end (Buffer start end) = end
part_end (Inlay number offset start end) = offset
part_end (Placeholder start end) = end
part_end (Feed offset) = offset + 1
part_end (InlayFeed number offset) = offset

abbrev pub is_end : Part → Bool
is_end (Feed offset) = true
is_end (InlayFeed number offset) = true
is_end _ = false

abbrev pub is_buffer : Part → Bool
is_buffer (Buffer start end) = true
is_buffer _ = false

-- the number of the first inlay that may follow the part
abbrev pub next_inlay : Part → ℕ
next_inlay (Inlay number offset start end) = number + 1
next_inlay _ = 0

-- a part is not of one piece with the one before it
abbrev pub IsApart : Part → Part → Type 0
IsApart p (Buffer start end) = is_buffer p ≡ false
IsApart p (Inlay number offset start end) = next_inlay p ≤ number
IsApart p _ = Unit {0}

-- each part goes on where the one before it ends
abbrev pub IsChain : Part → List Part → Type 0
IsChain p [] = Unit {0}
IsChain p (q ∷ qs) = (part_end p ≡ part_start q) × IsApart p q × IsChain q qs

-- what is before the first part
abbrev pub before_all : Part
before_all = InlayFeed 0 0

abbrev pub last_part : Part → List Part → Part
last_part p [] = p
last_part p (q ∷ qs) = last_part q qs

abbrev pub is_return : ℕ → Bool
is_return b = b == carriage_return

-- a line feed or a carriage return
abbrev pub is_break : ℕ → Bool
is_break b = is_feed b || is_return b

-- some characters of a text without a break
pub record IsRun (text : List ℕ) (start end : ℕ) : Type 0 where
  pub some : start < end
  pub starts : IsCharBoundary text start
  pub ends : IsCharBoundary text end
  pub whole : prefix_len (λ b. not (is_break b)) (slice_range text start end) ≡ end - start

-- the part lies within its text
abbrev pub Lies : Source → Part → Type 0
Lies source (Buffer start end) = IsRun source.text start end
Lies source (Inlay number offset start end) =
    (number < length source.inlays) × IsRun (inlay_at source number).text start end
Lies source (Placeholder start end) = start < end
Lies source (Feed offset) = Unit {0}
Lies source (InlayFeed number offset) = Unit {0}

abbrev pub EachLies : Source → List Part → Type 0
EachLies source [] = Unit {0}
EachLies source (p ∷ ps) = Lies source p × EachLies source ps

-- ---- lines

-- parts in order, and the ranges that the placeholders hide
pub record LaidOut : Type 0 where
  pub parts : List Part
  pub joined : List Joined

abbrev pub joined_folds : List Joined → List records.Fold
joined_folds joined = map (λ j. record { start = j.start; end = j.end; id = 0 }) joined

-- ranges in order from an offset on, disjoint and none empty
abbrev pub AreRanges : ℕ → List Joined → Type 0
AreRanges o [] = Unit {0}
AreRanges o (j ∷ js) = (o ≤ j.start) × (j.start < j.end) × AreRanges j.end js

-- such ranges hide what the folds hide
pub record Joins (folds : List records.Fold) (joined : List Joined) : Type 0 where
  pub apart : AreRanges 0 joined
  pub inside_same : (o : ℕ) → inside (joined_folds joined) o ≡ inside folds o
  pub covered_same : (o : ℕ) → covered (joined_folds joined) o ≡ covered folds o

-- the parts are one chain of all that the text shows with its inlays and folds
pub record AreShown (source : Source) (parts : List Part) : Type 0 where
  pub shows : flat_map (part_tokens source) parts ≡ folded source.text source.inlays source.folds
  pub lie : EachLies source parts
  pub chain : IsChain before_all parts
  pub closed : is_end (last_part before_all parts) ≡ true

-- what is laid out are the display lines of the source
pub record AreLinesOf (source : Source) (laid : LaidOut) : Type 0 where
  pub lawful : IsLawfulSource source
  pub shown : AreShown source laid.parts
  pub joins : Joins source.folds laid.joined
