-- Lawful records: what every record is that operations have made of a text.
use Rattle.std.specs.Prelude.{ℕ, ◌≡◌, ◌≢◌, ◌≤◌, ◌<◌, ◌==◌, ◌⊎◌, Bool, List, length, count_by}
use Rattle.std.specs.List.{All}
use Rattle.std.specs.Str.{IsUtf8}
use Rattle.cell_units.specs.declared.limits.TheConstants.{BLOCK_LINE_LIMIT, BLOCK_LINES_LIMIT, ENTRY_LIMIT, INLAY_LIMIT, LEAST_WIDTH, TAB_LIMIT, WIDTH_LIMIT}
use Rattle.cell_units.specs.Text.{IsBoundary, IsText, carriage_return, line_feed}
use Rattle.cell_units.specs.Sorting.{sort_by}
use Rattle.cell_units.specs.Record.{Block, Fold, Inlay, Record, block_le, fold_le, inlay_le, line_count}
use Rattle.cell_units.specs.Folded.{display_lines}
use Rattle.cell_units.specs.Layers.{Source}
use Rattle.cell_units.specs.Operation.{Operation, Replace, AddInlay, RemoveInlay, AddFold, RemoveFold, AddBlock, RemoveBlock, SetTab, SetWidth}

-- ---- entries

abbrev pub IsInOrder : {X : Type 0} → (X → X → Bool) → List X → Type 0
IsInOrder le xs = sort_by le xs ≡ xs

-- how many entries have the id
abbrev pub count_id : {X : Type 0} → (X → ℕ) → ℕ → List X → ℕ
count_id id_of id xs = count_by (λ x. id_of x == id) xs

-- one kind of a record's entries: in order, no id twice, no more than the limit, and each in its place
pub record AreEntries {X : Type 0} (le : X → X → Bool) (id_of : X → ℕ) (Fits : X → Type 0) (xs : List X) : Type 0 where
  pub in_order : IsInOrder le xs
  pub distinct : (id : ℕ) → count_id id_of id xs ≤ 1
  pub few : length xs ≤ ENTRY_LIMIT
  pub each : All Fits xs

-- one more entry of a new id has room
pub record HasRoom {X : Type 0} (id_of : X → ℕ) (id : ℕ) (xs : List X) : Type 0 where
  pub fresh : count_id id_of id xs ≡ 0
  pub room : length xs < ENTRY_LIMIT

-- an inlay is at a boundary, and its text isn't empty and not too long
pub record IsInlayOf (text : List ℕ) (inlay : Inlay) : Type 0 where
  pub boundary : IsBoundary text inlay.offset
  pub utf8 : IsUtf8 inlay.text
  pub some : 0 < length inlay.text
  pub short : length inlay.text ≤ INLAY_LIMIT

-- a fold reaches from a boundary to a later one
pub record IsFoldOf (text : List ℕ) (fold : Fold) : Type 0 where
  pub start : IsBoundary text fold.start
  pub end : IsBoundary text fold.end
  pub some : fold.start < fold.end

-- a line of a block has no line break
pub record IsBlockLine (line : List ℕ) : Type 0 where
  pub utf8 : IsUtf8 line
  pub unbroken : All (λ b. (b ≢ carriage_return) × (b ≢ line_feed)) line
  pub short : length line ≤ BLOCK_LINE_LIMIT

pub record AreBlockLines (lines : List (List ℕ)) : Type 0 where
  pub some : 0 < length lines
  pub few : length lines ≤ BLOCK_LINES_LIMIT
  pub each : All IsBlockLine lines

-- a block is added at the first byte of a row. What is replaced after that byte may leave it within a row
pub record IsBlockOf (text : List ℕ) (block : Block) : Type 0 where
  pub boundary : IsBoundary text block.offset
  pub lines : AreBlockLines block.lines

abbrev pub AreInlays : List ℕ → List Inlay → Type 0
AreInlays text inlays = AreEntries inlay_le (λ i. i.id) (IsInlayOf text) inlays

abbrev pub AreFolds : List ℕ → List Fold → Type 0
AreFolds text folds = AreEntries fold_le (λ f. f.id) (IsFoldOf text) folds

abbrev pub AreBlocks : List ℕ → List Block → Type 0
AreBlocks text blocks = AreEntries block_le (λ k. k.id) (IsBlockOf text) blocks

-- ---- records

-- a source is a text with inlays and folds that fit it
pub record IsWellFormed (source : Source) : Type 0 where
  pub text : IsText source.text
  pub inlays : AreInlays source.text source.inlays
  pub folds : AreFolds source.text source.folds

-- what of a record is shown, but for its blocks
abbrev pub source_of : Record → Source
source_of r = record { text = r.text; inlays = r.inlays; folds = r.folds }

abbrev pub IsTab : ℕ → Type 0
IsTab tab = (1 ≤ tab) × (tab ≤ TAB_LIMIT)

-- a lawful width, where 0 means that no line is cut
abbrev pub IsWidth : ℕ → Type 0
IsWidth width = (width ≡ 0) ⊎ ((LEAST_WIDTH ≤ width) × (width ≤ WIDTH_LIMIT))

-- a record but for its marks. Its text may be over the limit for a while: of a batch the text after all of it is judged
pub record HasLawfulEntries (r : Record) : Type 0 where
  pub source : IsWellFormed (source_of r)
  pub blocks : AreBlocks r.text r.blocks
  pub tab : IsTab r.tab
  pub width : IsWidth r.width

-- there is one mark for each display line
abbrev pub IsMarked : Record → Type 0
IsMarked r = length r.marks ≡ length (display_lines r.text r.inlays r.folds)

pub record IsLawful (r : Record) : Type 0 where
  pub entries : HasLawfulEntries r
  pub marked : IsMarked r
  pub widths : All (λ m. IsWidth m.width) r.marks

-- ---- operations

-- the operation fits the record, adds no id that is there, and leaves the record within all limits but that of its text
abbrev pub IsAllowed : Operation → Record → Type 0
IsAllowed (Replace a b s) r = IsBoundary r.text a × IsBoundary r.text b × (a ≤ b) × IsUtf8 s
IsAllowed (AddInlay i) r = IsInlayOf r.text i × HasRoom (λ j. j.id) i.id r.inlays
IsAllowed (RemoveInlay id) r = Unit {0}
IsAllowed (AddFold f) r = IsFoldOf r.text f × HasRoom (λ g. g.id) f.id r.folds
IsAllowed (RemoveFold id) r = Unit {0}
IsAllowed (AddBlock row id side lines) r = (row < line_count r.text) × AreBlockLines lines × HasRoom (λ k. k.id) id r.blocks
IsAllowed (RemoveBlock id) r = Unit {0}
IsAllowed (SetTab tab) r = IsTab tab
IsAllowed (SetWidth width) r = IsWidth width
