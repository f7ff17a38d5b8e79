-- A text is a list of UTF-8 bytes without carriage returns. Offsets count its bytes.
use Rattle.std.specs.Prelude.{ℕ, ◌+◌, ◌-◌, ◌≤◌, ◌≢◌, ◌==◌, ◌&&◌, ◌||◌, not, Bool, false, List, [], ◌∷◌, length, map, take, drop, count_by, nat_lt, nat_le, slice_index, if◌then◌else◌}
use Rattle.std.specs.List.{All, prefix_len, suffix_len}
use Rattle.std.specs.Str.{IsUtf8}

abbrev pub carriage_return : ℕ
carriage_return = 13

abbrev pub line_feed : ℕ
line_feed = 10

abbrev pub is_feed : ℕ → Bool
is_feed b = b == line_feed

abbrev pub begins_with_feed : List ℕ → Bool
begins_with_feed [] = false
begins_with_feed (b ∷ _) = is_feed b

-- the bytes without each CR that is before an LF
abbrev pub without_returns_before_feeds : List ℕ → List ℕ
without_returns_before_feeds [] = []
without_returns_before_feeds (b ∷ rest) =
    if (b == carriage_return) && begins_with_feed rest
    then without_returns_before_feeds rest
    else b ∷ without_returns_before_feeds rest

-- each CR LF, and then each lone CR, becomes LF
abbrev pub clean : List ℕ → List ℕ
clean bytes = map (λ b. if b == carriage_return then line_feed else b) (without_returns_before_feeds bytes)

abbrev pub IsText : List ℕ → Type 0
IsText text = IsUtf8 text × All (λ b. b ≢ carriage_return) text

-- an offset where the bytes before it are UTF-8 by themselves
abbrev pub IsBoundary : List ℕ → ℕ → Type 0
IsBoundary text o = (o ≤ length text) × IsUtf8 (take o text)

-- a byte within a character, after its first
abbrev pub goes_on : ℕ → Bool
goes_on b = nat_le 128 b && nat_lt b 192

-- the same as a test: of a UTF-8 text the boundaries are its end and the first bytes of its characters
abbrev pub is_boundary : List ℕ → ℕ → Bool
is_boundary text o =
    (o == length text) || (nat_lt o (length text) && not (goes_on (slice_index text o)))

-- the buffer row of an offset: how many LF are before it
abbrev pub row_of : List ℕ → ℕ → ℕ
row_of text o = count_by is_feed (take o text)

-- the first offset of the row that holds the offset
abbrev pub row_start : List ℕ → ℕ → ℕ
row_start text o = o - suffix_len (λ b. not (is_feed b)) (take o text)

-- the end of the row that holds the offset: before its LF, or the text's end
abbrev pub row_end : List ℕ → ℕ → ℕ
row_end text o = o + prefix_len (λ b. not (is_feed b)) (drop o text)

-- where the character starts that the offset is inside of, and where it ends. A boundary is inside of none: it stays
abbrev pub character_start : List ℕ → ℕ → ℕ
character_start text o = if is_boundary text o then o else o - suffix_len goes_on (take o text) - 1

abbrev pub character_end : List ℕ → ℕ → ℕ
character_end text o = o + prefix_len goes_on (drop o text)
