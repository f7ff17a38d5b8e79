-- Characters that are clusters by themselves beside their like, with their cells.
use Rattle.std.specs.Prelude.{◌≡◌, ◌⊎◌, ℕ, ◌<◌, ◌≤◌, Bool, true, ◌||◌, ◌==◌, nat_lt, List, [], ◌++◌, length, take, drop, encode_utf8, if◌then◌else◌}
use Rattle.std.specs.Str.{IsUtf8}
use Rattle.std.specs.Int.{is_in_range}

-- printable ASCII, Latin, Greek and Cyrillic
abbrev pub has_one_cell : ℕ → Bool
has_one_cell c =
    is_in_range 0x20 0x7E c
    || is_in_range 0xAF 0x2FF c
    || is_in_range 0x370 0x482 c
    || is_in_range 0x48A 0x52F c
    || is_in_range 0x1E00 0x1FFF c

-- ideographs, kana without marks, and their punctuation
abbrev pub has_two_cells : ℕ → Bool
has_two_cells c =
    is_in_range 0x3000 0x3029 c
    || is_in_range 0x3041 0x3096 c
    || is_in_range 0x309B 0x30FF c
    || is_in_range 0x3400 0x9FFF c
    || is_in_range 0xFF01 0xFF60 c

-- the cells of a quiet character, and 0 for any other
abbrev pub quiet_cells : ℕ → ℕ
quiet_cells c = if has_two_cells c then 2 else if has_one_cell c then 1 else 0

-- a quiet character, or a tab
abbrev pub is_alone : ℕ → Bool
is_alone c = (c == 9) || nat_lt 0 (quiet_cells c)

-- the text ends with such a character
abbrev pub EndsAlone : List ℕ → Type 0
EndsAlone text = (front : List ℕ) × (c : ℕ) × IsUtf8 front × (text ≡ front ++ encode_utf8 c) × (is_alone c ≡ true)

-- the text begins with one
abbrev pub BeginsAlone : List ℕ → Type 0
BeginsAlone text = (c : ℕ) × (rest : List ℕ) × (text ≡ encode_utf8 c ++ rest) × (is_alone c ≡ true)

-- the place is the text's end or lies between two of them
pub record IsSeam (text : List ℕ) (at : ℕ) : Type 0 where
  pub past : 0 < at
  pub within : at ≤ length text
  pub apart : (at ≡ length text) ⊎ (EndsAlone (take at text) × BeginsAlone (drop at text))

-- the text begins with this one, which ends it or precedes another
pub record StartsAlone (text : List ℕ) (c : ℕ) (rest : List ℕ) : Type 0 where
  pub text_is : text ≡ encode_utf8 c ++ rest
  pub alone : is_alone c ≡ true
  pub next : (rest ≡ []) ⊎ BeginsAlone rest
  pub utf8 : IsUtf8 rest
