-- How parts are laid one after the other.
use Rattle.std.specs.Prelude.{ℕ, ◌≡◌, ◌+◌, ◌<◌, ◌≤◌, ◌==◌, ◌&&◌, nat_lt, Bool, true, false, if◌then◌else◌, List, [], ◌∷◌, ◌++◌, length, map, flat_map, take, drop, slice_range}
use Rattle.std.specs.Str.{IsCharBoundary}
use Rattle.cell_units.specs.Text.{begins_with_feed, carriage_return, clean}
use Rattle.cell_units.specs.Inlaid.{InlayByte, Token, inlays_at}
use Rattle.cell_units.specs.Folded.{covered, folded_before, inside}
use Rattle.cell_units.specs.Layers.{Source}
use Rattle.plain_rows.specs.declared.folded_lines.Joined.{Joined}
use Rattle.plain_rows.specs.declared.folded_lines.Part.{Part}
use Rattle.plain_rows.specs.declared.folded_lines.Part.TheVariants.{Buffer, Inlay}
use Rattle.plain_rows.specs.FoldedLines.{EachLies, IsChain, before_all, bytes_from, inlay_at, is_buffer, last_part, next_inlay, part_end, part_tokens}

abbrev pub tokens_of : Source → List Part → List Token
tokens_of source parts = flat_map (part_tokens source) parts

abbrev pub last_of : List Part → Part
last_of parts = last_part before_all parts

-- the parts are one chain that ends at the offset
pub record Reaches (source : Source) (parts : List Part) (at : ℕ) : Type 0 where
  pub lie : EachLies source parts
  pub chain : IsChain before_all parts
  pub ends : part_end (last_of parts) ≡ at

-- these bytes of the buffer, where there are any
abbrev pub run_parts : ℕ → ℕ → List Part
run_parts start end = if nat_lt start end then Buffer start end ∷ [] else []

-- these bytes of an inlay, where there are any
abbrev pub inlay_run : ℕ → ℕ → ℕ → ℕ → List Part
inlay_run number offset start end = if nat_lt start end then Inlay number offset start end ∷ [] else []

-- a return and a feed are one break
abbrev pub break_len : List ℕ → ℕ
break_len [] = 1
break_len (b ∷ bs) = if (b == carriage_return) && begins_with_feed bs then 2 else 1

-- some characters of a text
pub record IsSpan (text : List ℕ) (start end : ℕ) : Type 0 where
  pub order : start ≤ end
  pub starts : IsCharBoundary text start
  pub ends : IsCharBoundary text end

-- the new parts are the old ones and after them the buffer's bytes from the one offset to the other
pub record Lays (source : Source) (old new : List Part) (from to : ℕ) : Type 0 where
  pub reaches : Reaches source new to
  pub shows : tokens_of source new ≡ tokens_of source old ++ bytes_from from (slice_range source.text from to)
  pub inlays : next_inlay (last_of new) ≤ next_inlay (last_of old)

-- what an inlay shows from one of its bytes on
abbrev pub inlay_rest : Source → ℕ → ℕ → List Token
inlay_rest source number at =
    let inlay = inlay_at source number in
    map (λ b. InlayByte inlay.offset inlay.id b) (clean (drop at inlay.text))

-- the new parts are the old ones and after them the inlay's bytes from the one to the other
pub record LaysInlay (source : Source) (number : ℕ) (old new : List Part) (at next : ℕ) : Type 0 where
  pub reaches : Reaches source new (inlay_at source number).offset
  pub shows :
      tokens_of source new ++ inlay_rest source number next ≡ tokens_of source old ++ inlay_rest source number at
  pub apart : is_buffer (last_of new) ≡ false
  pub inlays : next_inlay (last_of new) ≤ number + 1
  pub further : at < next
  pub boundary : IsCharBoundary (inlay_at source number).text next

-- what is before an offset, and the first inlays of those at it
abbrev pub shown_upto : Source → ℕ → ℕ → List Token
shown_upto source number at =
    folded_before source.text (take number source.inlays) source.folds at ++ inlays_at (take number source.inlays) at

-- the parts show all up to the offset and the inlays before that of this number, which are those up to there
pub record IsLaid (source : Source) (number at : ℕ) (parts : List Part) : Type 0 where
  pub reaches : Reaches source parts at
  pub shows : tokens_of source parts ≡ shown_upto source number at
  pub inlays : next_inlay (last_of parts) ≤ number
  pub before : (k : ℕ) → k < number → (inlay_at source k).offset ≤ at
  pub behind : (k : ℕ) → number ≤ k → k < length source.inlays → at ≤ (inlay_at source k).offset
  pub number_within : number ≤ length source.inlays

-- no fold hides a byte from one offset to another
pub record IsFree (source : Source) (from to : ℕ) : Type 0 where
  pub span : IsSpan source.text from to
  pub free : (o : ℕ) → from ≤ o → o < to → covered source.folds o ≡ false

-- one placeholder replaces the range, and the inlays strictly inside it are hidden
pub record IsJoinedFold (source : Source) (joined : Joined) : Type 0 where
  pub some : joined.start < joined.end
  pub within : joined.end ≤ length source.text
  pub starts : covered source.folds joined.start ≡ true
  pub outside : inside source.folds joined.start ≡ false
  pub hides : (o : ℕ) → joined.start < o → o < joined.end → inside source.folds o ≡ true

-- the inlays before that of this number are those up to the range's start and those that it hides
pub record IsHidden (source : Source) (number start end : ℕ) (parts : List Part) : Type 0 where
  pub reaches : Reaches source parts end
  pub shows : tokens_of source parts ≡ shown_upto source number end
  pub last : next_inlay (last_of parts) ≡ 0
  pub before : (k : ℕ) → k < number → (inlay_at source k).offset < end
  pub behind : (k : ℕ) → number ≤ k → k < length source.inlays → start < (inlay_at source k).offset
  pub number_within : number ≤ length source.inlays

-- the inlays from this number on are after the offset
abbrev pub IsPast : Source → ℕ → ℕ → Type 0
IsPast source number at = (k : ℕ) → number ≤ k → k < length source.inlays → at < (inlay_at source k).offset

-- there is an inlay of this number, and it is before the offset
abbrev pub stands_before : Source → ℕ → ℕ → Bool
stands_before source number offset =
    nat_lt number (length source.inlays) && nat_lt (inlay_at source number).offset offset
