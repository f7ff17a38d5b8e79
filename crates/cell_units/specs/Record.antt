-- A record: what a sequence of commands has made of a text.
use Rattle.std.specs.Prelude.{ℕ, ◌+◌, ◌==◌, ◌&&◌, ◌||◌, nat_lt, nat_le, Bool, List, [], length, map}
use Rattle.std.specs.List.{range_with_len}
use Rattle.cell_units.specs.declared.place.Bias.{Bias}
use Rattle.cell_units.specs.declared.place.Bias.TheVariants.{Left, Right}
use Rattle.cell_units.specs.declared.place.Side.{Side}
use Rattle.cell_units.specs.Text.{row_of}

pub record Inlay : Type 0 where
  pub offset : ℕ
  pub bias : Bias
  pub id : ℕ
  pub text : List ℕ

pub record Fold : Type 0 where
  pub start : ℕ
  pub end : ℕ
  pub id : ℕ

pub record Block : Type 0 where
  pub offset : ℕ
  pub id : ℕ
  pub side : Side
  pub lines : List (List ℕ)

-- what is kept of a display line: its stamp, and the width at which it is wrapped, or 0
pub record Mark : Type 0 where
  pub stamp : ℕ
  pub width : ℕ

pub record Record : Type 0 where
  pub text : List ℕ
  pub inlays : List Inlay
  pub folds : List Fold
  pub blocks : List Block
  pub tab : ℕ
  pub width : ℕ
  pub marks : List Mark
  pub next_stamp : ℕ

abbrev pub in_order : ℕ → ℕ → Bool → Bool
in_order a b rest = nat_lt a b || ((a == b) && rest)

abbrev pub bias_rank : Bias → ℕ
bias_rank Left = 0
bias_rank Right = 1

-- by offset, then bias with Left first, then id
abbrev pub inlay_le : Inlay → Inlay → Bool
inlay_le i j = in_order i.offset j.offset (in_order (bias_rank i.bias) (bias_rank j.bias) (nat_le i.id j.id))

-- by start, then end, then id
abbrev pub fold_le : Fold → Fold → Bool
fold_le f g = in_order f.start g.start (in_order f.end g.end (nat_le f.id g.id))

-- by offset, then id
abbrev pub block_le : Block → Block → Bool
block_le b c = in_order b.offset c.offset (nat_le b.id c.id)

abbrev pub plain_mark : ℕ → Mark
plain_mark stamp = record { stamp = stamp; width = 0 }

-- n marks of no width, with stamps from the given one on
abbrev pub plain_marks : ℕ → ℕ → List Mark
plain_marks stamp n = map plain_mark (range_with_len stamp n)

abbrev pub opening_tab : ℕ
opening_tab = 4

abbrev pub opening_width : ℕ
opening_width = 80

-- how many display lines a text has by itself
abbrev pub line_count : List ℕ → ℕ
line_count text = row_of text (length text) + 1

-- the record of a text that was just opened
abbrev pub opened : List ℕ → Record
opened text =
    record {
      text = text;
      inlays = [];
      folds = [];
      blocks = [];
      tab = opening_tab;
      width = opening_width;
      marks = plain_marks 0 (line_count text);
      next_stamp = line_count text;
    }
