-- Worked rows, by computation.
use Rattle.std.proofs.Common.{◌≡◌, [], ◌∷◌, ◌++◌, refl}
use Rattle.std.specs.Prelude.{codes}
use Rattle.cell_line.specs.Wrapping.{cuts_of, row_starts, next_start_of, greatest, ends_well, fits, trimmed}
use Rattle.cell_line.specs.Worked.{ascii, wide, cellless, tab}

pub hanging_blank : cuts_of (ascii (codes "hello world")) 5 ≡ 6 ∷ []
unfolding cuts_of row_starts next_start_of greatest ends_well fits trimmed
hanging_blank = refl

pub tab_indent : cuts_of (tab 4 ∷ ascii (codes "foo bar baz")) 10 ≡ 5 ∷ 9 ∷ []
unfolding cuts_of row_starts next_start_of greatest ends_well fits trimmed
tab_indent = refl

pub long_word : cuts_of (ascii (codes "abcdefgh")) 3 ≡ 3 ∷ 6 ∷ []
unfolding cuts_of row_starts next_start_of greatest ends_well fits trimmed
long_word = refl

pub wide_cells : cuts_of (ascii (codes "ab") ++ wide (230 ∷ 188 ∷ 162 ∷ []) ∷ wide (229 ∷ 173 ∷ 151 ∷ []) ∷ ascii (codes "cd")) 4 ≡ 3 ∷ []
unfolding cuts_of row_starts next_start_of greatest ends_well fits trimmed
wide_cells = refl

pub indent_half : cuts_of (ascii (codes "    fooooooooo")) 8 ≡ 8 ∷ 12 ∷ []
unfolding cuts_of row_starts next_start_of greatest ends_well fits trimmed
indent_half = refl

pub blanks_alone : cuts_of (ascii (codes "        ")) 5 ≡ []
unfolding cuts_of row_starts next_start_of greatest ends_well fits trimmed
blanks_alone = refl

pub leading_blanks : cuts_of (ascii (codes "        x")) 5 ≡ 5 ∷ []
unfolding cuts_of row_starts next_start_of greatest ends_well fits trimmed
leading_blanks = refl

pub trailing_cellless : cuts_of (ascii (codes "ab") ++ cellless (226 ∷ 128 ∷ 139 ∷ []) ∷ ascii (codes "c")) 2 ≡ 3 ∷ []
unfolding cuts_of row_starts next_start_of greatest ends_well fits trimmed
trailing_cellless = refl

pub width_off : cuts_of (ascii (codes "hello world")) 0 ≡ []
unfolding cuts_of
width_off = refl
