-- Bytes that are clusters by themselves beside their like.
use Rattle.std.specs.Prelude.{◌≡◌, ◌⊎◌, ℕ, ◌+◌, ◌<◌, Bool, true, ◌&&◌, ◌||◌, ◌==◌, List, length, slice_index}
use Rattle.std.specs.Int.{is_in_range}

-- printable ASCII, or a tab
abbrev pub is_simple : ℕ → Bool
is_simple byte = (byte == 9) || is_in_range 32 126 byte

-- printable ASCII but a space, with a simple byte after it
abbrev pub is_letter_before : ℕ → ℕ → Bool
is_letter_before byte next = is_in_range 33 126 byte && is_simple next

-- the text begins with so many of these
abbrev pub StartsWithLetters : List ℕ → ℕ → Type 0
StartsWithLetters text count =
    (i : ℕ) → i < count → (i + 1 < length text) × (is_letter_before (slice_index text i) (slice_index text (i + 1)) ≡ true)

-- the text begins with a simple byte, which ends it or precedes another
pub record StartsSimple (text : List ℕ) : Type 0 where
  pub some : 0 < length text
  pub first : is_simple (slice_index text 0) ≡ true
  pub next : (length text ≡ 1) ⊎ ((1 < length text) × (is_simple (slice_index text 1) ≡ true))
