-- A display of `abcdefg` to which nothing happened has its boundaries at every byte.
use Rattle.std.proofs.Common.{◌≡◌, [], refl, sym, subst, arith}
use lib.Utf8.{encode}
use Rattle.std.specs.Prelude.{codes}
use Rattle.cell_units.specs.Text.{IsBoundary, clean}
use Rattle.display_map.specs.Replay.{History, present_of, replayed}

abbrev pub opened : History
opened = record { opening = clean (codes "abcdefg"); events = [] }

pub first_letter : (h : History) → h ≡ opened → IsBoundary (present_of h).text 1
unfolding replayed encode
first_letter h e = let P : History → Type 0 = λ h. IsBoundary (present_of h).text 1 in subst P (sym e) (omega arith, (codes "a", (refl, refl)))

pub third_letter : (h : History) → h ≡ opened → IsBoundary (present_of h).text 3
unfolding replayed encode
third_letter h e = let P : History → Type 0 = λ h. IsBoundary (present_of h).text 3 in subst P (sym e) (omega arith, (codes "abc", (refl, refl)))
