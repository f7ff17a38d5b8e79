-- What is replaced in a text, and when that is refused; and which chunks are made anew.
use Rattle.std.specs.Prelude.{◌≡◌, ℕ, ◌+◌, ◌*◌, ◌<◌, ◌≤◌, ◌++◌, List, length, take, drop}
use Rattle.std.specs.List.{concat}
use Rattle.cell_units.specs.Text.{IsBoundary}
use Rattle.cell_units.specs.Operation.{replaced_text}
use Rattle.cell_units.specs.declared.fault.Fault.{Fault}
use Rattle.cell_units.specs.declared.fault.Fault.TheVariants.{Refused, NoMemory}
use Rattle.cell_units.specs.declared.fault.Refusal.TheVariants.{BadRange, TooLong}
use Rattle.edit_patch.specs.declared.edit.Edit.{Edit}
use Rattle.edit_patch.specs.Fits.{replacement}
use Rattle.text_rope.specs.Chunks.{AreChunks, AreFull, least}
use Rattle.cell_units.specs.declared.limits.TheConstants.{TEXT_LIMIT}

-- a range of the text, from a boundary to one that isn't before it
abbrev pub IsRange : List ℕ → ℕ → ℕ → Type 0
IsRange text start end = (start ≤ end) × IsBoundary text start × IsBoundary text end

-- the range was replaced by the clean text s, as the patch says, and the new text is within the limit
pub record IsReplacedWithin (limit : ℕ) (old : List ℕ) (start end : ℕ) (s new : List ℕ) (patch : List Edit) : Type 0 where
  pub range : IsRange old start end
  pub small : length new ≤ limit
  pub text : new ≡ replaced_text old start end s
  pub patch_is : patch ≡ replacement start end (length s)

-- the same within the limit of a text
abbrev pub IsReplaced : List ℕ → ℕ → ℕ → List ℕ → List ℕ → List Edit → Type 0
IsReplaced = IsReplacedWithin TEXT_LIMIT

-- The fault says why the range isn't replaced by the clean text s, where the new text may have so many bytes. The range
-- is judged first, and then the length, for which there may be no memory.
abbrev pub IsFaultWithin : ℕ → List ℕ → ℕ → ℕ → List ℕ → Fault → Type 0
IsFaultWithin limit text start end s (Refused BadRange) = ¬ IsRange text start end
IsFaultWithin limit text start end s (Refused TooLong) = IsRange text start end × (limit < length (replaced_text text start end s))
IsFaultWithin limit text start end s (Refused _) = ⊥
IsFaultWithin limit text start end s NoMemory = IsRange text start end

-- the same within the limit of a text
abbrev pub IsReplaceFault : List ℕ → ℕ → ℕ → List ℕ → Fault → Type 0
IsReplaceFault = IsFaultWithin TEXT_LIMIT

-- the text of the chunk before the place, and that chunk's place
pub record IsNeighbourBefore (chunks : List (List ℕ)) (place at : ℕ) (text : List ℕ) : Type 0 where
  pub whole : concat (take at chunks) ++ text ≡ concat (take place chunks)
  pub within : at ≤ length chunks
  pub full : 0 < at → (1 < length chunks) × (least ≤ length text)
  pub small : length text ≤ 128

-- the text of the chunk at the place, and the place after that chunk
pub record IsNeighbourBehind (chunks : List (List ℕ)) (place at : ℕ) (text : List ℕ) : Type 0 where
  pub whole : text ++ concat (drop at chunks) ≡ concat (drop place chunks)
  pub within : at ≤ length chunks
  pub full : at < length chunks → (1 < length chunks) × (least ≤ length text)
  pub small : length text ≤ 128

-- the text from the chunk at place `at` up to the offset
pub record IsPartBefore (chunks : List (List ℕ)) (offset at : ℕ) (text : List ℕ) : Type 0 where
  pub whole : concat (take at chunks) ++ text ≡ take offset (concat chunks)
  pub within : at ≤ length chunks
  pub full : 0 < at → (1 < length chunks) × (least ≤ length text)
  pub small : length text ≤ 256

-- the text from the offset up to the chunk at place `at`
pub record IsPartBehind (chunks : List (List ℕ)) (offset at : ℕ) (text : List ℕ) : Type 0 where
  pub whole : text ++ concat (drop at chunks) ≡ drop offset (concat chunks)
  pub within : at ≤ length chunks
  pub full : at < length chunks → (1 < length chunks) × (least ≤ length text)
  pub small : length text ≤ 256

-- `made` may take the place of the chunks from `from` up to `to`, and then the text s is in the place of the range
pub record IsRenewed (chunks : List (List ℕ)) (start end : ℕ) (s : List ℕ) (from to : ℕ) (made : List (List ℕ)) : Type 0 where
  pub order : from ≤ to
  pub within : to ≤ length chunks
  pub cut : AreChunks (take from chunks ++ made ++ drop to chunks)
  pub full : AreFull (take from chunks ++ made ++ drop to chunks)
  pub text : concat (take from chunks ++ made ++ drop to chunks) ≡ replaced_text (concat chunks) start end s
  pub few : 60 * length made ≤ length s + 512 + 60
