-- Stretches round the one in which a line lies.
use Rattle.std.proofs.Common.{◌≡◌, ℕ, zero, suc, ◌+◌, ◌-◌, ◌<◌, ◌≤◌, List, [], ◌∷◌, ◌++◌, length, get_or, min, take, drop, replicate, Option, Some, None, refl, sym, ap, subst, ◌∙◌, inl, inr, arith, add-one, length-append}
use Rattle.std.specs.Borrow.{Bor}
use Rattle.std.specs.List.{slice_get}
use Rattle.std.specs.Option.{option_copied}
use Rattle.std.specs.Prelude.{All}
use Rattle.std.proofs.lemmas.Option.{slice_get_within}
use Rattle.std.proofs.lemmas.List.{drop-append-le, drop-replicate, get_or-replicate, get_or_append_left, get_or-append_right, length-replicate, take-append-le, take-replicate, take_all, drop_all}
use Rattle.std.proofs.lemmas.List.Elements.{All-cons, All-head, All-nil, All-tail}
use Rattle.cell_units.specs.declared.place.Bias.{Bias}
use Rattle.cell_units.specs.declared.place.Bias.TheVariants.{Left, Right}
use Rattle.sum_tree.specs.Firsts.{IsFirst, IsShort}
use Rattle.wrap_map.specs.Stood.{Stood, rows_in, stood_at, unwrapped}
use Rattle.wrap_map.specs.declared.extent.Extent.{Extent}
use Rattle.wrap_map.specs.inside.Extents.{extent_laws, joined_extents, no_extent}
use Rattle.wrap_map.specs.inside.Stretches.{IsStretch, Stretched, extent_of, spread}
use Rattle.wrap_map.proofs.Spreads.{extents, lines-spread, rows-append, rows-spread, rows-stretch, rows-uncut, spread-append}

-- ---- a list cut in a block of like elements

module _ {X : Type 0} where
  take-past : (xs ys : List X) (n k : ℕ) → n ≡ length xs + k → take n (xs ++ ys) ≡ xs ++ take k ys
  take-past [] ys n k e =
      let same : n ≡ k = omega arith in
      ap (λ (m : ℕ). take m ys) same
  take-past (x ∷ xs) ys zero k e = absurd (omega arith)
  take-past (x ∷ xs) ys (suc n) k e = ap (λ (l : List X). x ∷ l) (take-past xs ys n k (omega arith))

  drop-past : (xs ys : List X) (n k : ℕ) → n ≡ length xs + k → drop n (xs ++ ys) ≡ drop k ys
  drop-past [] ys n k e =
      let same : n ≡ k = omega arith in
      ap (λ (m : ℕ). drop m ys) same
  drop-past (x ∷ xs) ys zero k e = absurd (omega arith)
  drop-past (x ∷ xs) ys (suc n) k e = drop-past xs ys n k (omega arith)

  take-block : (m k : ℕ) (x : X) (ys : List X) → k ≤ m → take k (replicate m x ++ ys) ≡ replicate k x
  take-block m k x ys le = take-append-le k (replicate m x) ys (omega (arith, length-replicate m x)) ∙ take-replicate k m x le

  drop-block : (m k : ℕ) (x : X) (ys : List X) → k ≤ m → drop k (replicate m x ++ ys) ≡ replicate (m - k) x ++ ys
  drop-block m k x ys le =
      drop-append-le k (replicate m x) ys (omega (arith, length-replicate m x)) ∙ ap (λ (l : List X). l ++ ys) (drop-replicate k m x)

  -- a list round an item
  pub round : (xs : List X) (i : ℕ) (x : X) → slice_get xs i ≡ Some x → xs ≡ take i xs ++ (x ∷ drop (suc i) xs)
  round [] zero x e = absurd (cc)
  round [] (suc i) x e = absurd (cc)
  round (y ∷ ys) zero x e =
      let is : y ≡ x = cc in
      ap (λ (z : X). z ∷ ys) is
  round (y ∷ ys) (suc i) x e = ap (λ (l : List X). y ∷ l) (round ys i x e)

  pub take-next : (xs : List X) (i : ℕ) (x : X) → slice_get xs i ≡ Some x → take (suc i) xs ≡ take i xs ++ (x ∷ [])
  take-next [] zero x e = absurd (cc)
  take-next [] (suc i) x e = absurd (cc)
  take-next (y ∷ ys) zero x e =
      let is : y ≡ x = cc in
      ap (λ (z : X). z ∷ []) is
  take-next (y ∷ ys) (suc i) x e = ap (λ (l : List X). y ∷ l) (take-next ys i x e)

  pub past-end : (xs : List X) (i : ℕ) → slice_get xs i ≡ None → length xs ≤ i
  past-end [] i e = omega arith
  past-end (x ∷ xs) zero e = absurd (cc)
  past-end (x ∷ xs) (suc i) e = omega (arith, past-end xs i e)

  pub All-at : (P : X → Type 0) (xs : List X) (i : ℕ) (x : X) → slice_get xs i ≡ Some x → All P xs → P x
  All-at P [] zero x e all = absurd (cc)
  All-at P [] (suc i) x e all = absurd (cc)
  All-at P (y ∷ ys) zero x e all =
      let is : y ≡ x = cc in
      subst P is (All-head P y ys all)
  All-at P (y ∷ ys) (suc i) x e all = All-at P ys i x e (All-tail P y ys all)

  pub all-take : (P : X → Type 0) (n : ℕ) (xs : List X) → All P xs → All P (take n xs)
  all-take P zero xs p = All-nil P
  all-take P (suc n) [] p = All-nil P
  all-take P (suc n) (x ∷ xs) p = All-cons P x (take n xs) (All-head P x xs p) (all-take P n xs (All-tail P x xs p))

-- ---- the stretch of a line

-- how many lines are before the stretch of an index
abbrev pub lines_to : List Stretched → ℕ → ℕ
lines_to ss i = length (spread (take i ss))

abbrev pub rows_to : List Stretched → ℕ → ℕ
rows_to ss i = rows_in (spread (take i ss))

pub extents-append : (a b : List Stretched) → extents (a ++ b) ≡ joined_extents (extents a) (extents b)
extents-append [] b = sym (extent_laws.left_identity (extents b))
extents-append (s ∷ a) b =
    ap (λ (t : Extent). joined_extents (extent_of s) t) (extents-append a b)
    ∙ sym (extent_laws.assoc (extent_of s) (extents a) (extents b))

pub spread-round : (ss : List Stretched) (i : ℕ) (s : Stretched) → slice_get ss i ≡ Some s → spread ss ≡ spread (take i ss) ++ (replicate s.lines s.stood ++ spread (drop (suc i) ss))
spread-round ss i s e = ap spread (round ss i s e) ∙ spread-append (take i ss) (s ∷ drop (suc i) ss)

-- up to a line in the stretch, or to its end
pub take-in : (ss : List Stretched) (i n k : ℕ) (s : Stretched) → slice_get ss i ≡ Some s → n ≡ lines_to ss i + k → k ≤ s.lines → take n (spread ss) ≡ spread (take i ss) ++ replicate k s.stood
take-in ss i n k s e is le =
    ap (take n) (spread-round ss i s e)
    ∙ take-past (spread (take i ss)) (replicate s.lines s.stood ++ spread (drop (suc i) ss)) n k is
    ∙ ap (λ (l : List Stood). spread (take i ss) ++ l) (take-block s.lines k s.stood (spread (drop (suc i) ss)) le)

pub drop-in : (ss : List Stretched) (i n k : ℕ) (s : Stretched) → slice_get ss i ≡ Some s → n ≡ lines_to ss i + k → k ≤ s.lines → drop n (spread ss) ≡ replicate (s.lines - k) s.stood ++ spread (drop (suc i) ss)
drop-in ss i n k s e is le =
    ap (drop n) (spread-round ss i s e)
    ∙ drop-past (spread (take i ss)) (replicate s.lines s.stood ++ spread (drop (suc i) ss)) n k is
    ∙ drop-block s.lines k s.stood (spread (drop (suc i) ss)) le

-- each line of the stretch is wrapped as it says
pub stood-in : (ss : List Stretched) (i n : ℕ) (s : Stretched) → slice_get ss i ≡ Some s → lines_to ss i ≤ n → n < lines_to ss i + s.lines → stood_at (spread ss) n ≡ s.stood
stood-in ss i n s e low high =
    let k = n - lines_to ss i in
    let inside : k < length (replicate s.lines s.stood) = omega (arith, length-replicate s.lines s.stood) in
    ap (λ (l : List Stood). get_or l n unwrapped) (spread-round ss i s e)
    ∙ get_or-append_right (spread (take i ss)) (replicate s.lines s.stood ++ spread (drop (suc i) ss)) (lines_to ss i) n unwrapped refl low
    ∙ get_or_append_left (replicate s.lines s.stood) (spread (drop (suc i) ss)) unwrapped k inside
    ∙ get_or-replicate s.lines k s.stood unwrapped (omega arith)

pub extents-next : (ss : List Stretched) (i : ℕ) (s : Stretched) → slice_get ss i ≡ Some s → extents (take (i + 1) ss) ≡ joined_extents (extents (take i ss)) (extents (s ∷ []))
extents-next ss i s e =
    ap (λ (n : ℕ). extents (take n ss)) (add-one i)
    ∙ ap extents (take-next ss i s e)
    ∙ extents-append (take i ss) (s ∷ [])

pub lines-within : (ss : List Stretched) (i : ℕ) (s : Stretched) → slice_get ss i ≡ Some s → lines_to ss i + s.lines ≤ length (spread ss)
lines-within ss i s e =
    omega (
      arith,
      ap length (spread-round ss i s e),
      length-append (spread (take i ss)) (replicate s.lines s.stood ++ spread (drop (suc i) ss)),
      length-append (replicate s.lines s.stood) (spread (drop (suc i) ss)),
      length-replicate s.lines s.stood,
    )

-- ---- what is found by a count

-- the first stretch whose end, in lines, reaches a line
abbrev pub IsAtLine : List Stretched → ℕ → Bias → ℕ → Type 0
IsAtLine ss n bias i = IsFirst no_extent joined_extents extent_of (λ (t : Extent). t.lines) ss n bias i

abbrev pub IsAtRow : List Stretched → ℕ → ℕ → Type 0
IsAtRow ss n i = IsFirst no_extent joined_extents extent_of (λ (t : Extent). t.rows) ss n Right i

short_le : (bias : Bias) (n m : ℕ) → IsShort bias n m → m ≤ n
short_le Left n m s = omega arith
short_le Right n m s = omega arith

pub line-low : (bias : Bias) (ss : List Stretched) (n i : ℕ) → IsAtLine ss n bias i → lines_to ss i ≤ n
line-low bias ss n zero found = omega arith
line-low bias ss n (suc i) found =
    omega (arith, lines-spread (take (suc i) ss), short_le bias n (extents (take (suc i) ss)).lines (found.short (omega arith)))

pub lines-next : (ss : List Stretched) (i : ℕ) (s : Stretched) → slice_get ss i ≡ Some s → (extents (take (i + 1) ss)).lines ≡ lines_to ss i + s.lines
lines-next ss i s e = omega (arith, ap (λ (t : Extent). t.lines) (extents-next ss i s e), lines-spread (take i ss))

pub line-high-Right : (ss : List Stretched) (n i : ℕ) (s : Stretched) → slice_get ss i ≡ Some s → IsAtLine ss n Right i → n < lines_to ss i + s.lines
line-high-Right ss n i s e found =
    let within = slice_get_within ss i s e in
    omega (arith, lines-next ss i s e, found.reaching within)

pub line-high-Left : (ss : List Stretched) (n i : ℕ) (s : Stretched) → slice_get ss i ≡ Some s → IsAtLine ss n Left i → n ≤ lines_to ss i + s.lines
line-high-Left ss n i s e found =
    let within = slice_get_within ss i s e in
    omega (arith, lines-next ss i s e, found.reaching within)

-- what is before the stretch ends before the line
pub short-Left : (ss : List Stretched) (n i : ℕ) → IsAtLine ss n Left i → 0 < i → lines_to ss i < n
short-Left ss n i found more = omega (arith, lines-spread (take i ss), found.short more)

-- past the end there is none
pub all-before : (ss : List Stretched) (i : ℕ) → slice_get ss i ≡ None → take i ss ≡ ss
all-before ss i e = take_all i ss (past-end ss i e)

pub none-behind : (ss : List Stretched) (i : ℕ) → slice_get ss i ≡ None → drop i ss ≡ []
none-behind ss i e = drop_all i ss (past-end ss i e)

-- more stretches have no fewer lines
pub lines_more : (ss : List Stretched) (m n : ℕ) → m ≤ n → lines_to ss m ≤ lines_to ss n
lines_more ss zero n le = omega arith
lines_more ss (suc m) zero le = absurd (omega arith)
lines_more [] (suc m) (suc n) le = omega arith
lines_more (s ∷ ss) (suc m) (suc n) le =
    omega (
      arith,
      length-append (replicate s.lines s.stood) (spread (take m ss)),
      length-append (replicate s.lines s.stood) (spread (take n ss)),
      lines_more ss m n (omega arith),
    )

-- ---- rows

rows-block : (s : Stretched) (k : ℕ) → IsStretch s → k < s.lines → rows_in (replicate k s.stood) ≡ k
rows-block s k is le = elim is.one [
  | inl none ↦ rows-uncut k s.stood none
  | inr one ↦
      let z : 0 ≡ k = omega arith in
      subst (λ (m : ℕ). rows_in (replicate m s.stood) ≡ m) z refl
]

-- before a line of the stretch each line of it has one row
pub rows-in : (ss : List Stretched) (i n k : ℕ) (s : Stretched) → slice_get ss i ≡ Some s → IsStretch s → n ≡ lines_to ss i + k → k < s.lines → rows_in (take n (spread ss)) ≡ rows_to ss i + k
rows-in ss i n k s e is at le =
    ap rows_in (take-in ss i n k s e at (omega arith))
    ∙ rows-append (spread (take i ss)) (replicate k s.stood)
    ∙ ap (λ (m : ℕ). rows_to ss i + m) (rows-block s k is le)

-- ---- what the code finds

module _ {X : Type 0} where
  pub found-some : (xs : List X) (i : ℕ) (o : Option (Bor X)) (b : Bor X) → option_copied o ≡ slice_get xs i → o ≡ Some b → slice_get xs i ≡ Some b.now
  found-some xs i o b e is = sym e ∙ ap option_copied is

  pub found-none : (xs : List X) (i : ℕ) (o : Option (Bor X)) → option_copied o ≡ slice_get xs i → o ≡ None → slice_get xs i ≡ None
  found-none xs i o e is = sym e ∙ ap option_copied is

-- what is before it
pub before-lines : (ss : List Stretched) (i : ℕ) (t : Extent) → t ≡ extents (take i ss) → t.lines ≡ lines_to ss i
before-lines ss i t e = ap (λ (t : Extent). t.lines) e ∙ sym (lines-spread (take i ss))

pub before-rows : (ss : List Stretched) (i : ℕ) (t : Extent) → All IsStretch ss → t ≡ extents (take i ss) → t.rows ≡ rows_to ss i
before-rows ss i t each e = ap (λ (t : Extent). t.rows) e ∙ sym (rows-spread (take i ss) (all-take IsStretch i ss each))

-- a line is in a stretch
pub not-past : (ss : List Stretched) (n i : ℕ) → IsAtLine ss n Right i → n < length (spread ss) → slice_get ss i ≡ None → ⊥
not-past ss n i found within e =
    let total = ap (λ (l : List Stretched). length (spread l)) (all-before ss i e) in
    omega (arith, line-low Right ss n i found, total)

-- how its line is wrapped
pub stood-found : (ss : List Stretched) (n i : ℕ) (s : Stretched) → IsAtLine ss n Right i → slice_get ss i ≡ Some s → s.stood ≡ stood_at (spread ss) n
stood-found ss n i s found e = sym (stood-in ss i n s e (line-low Right ss n i found) (line-high-Right ss n i s e found))

-- a row is in a stretch
pub row-low : (ss : List Stretched) (n i : ℕ) → All IsStretch ss → IsAtRow ss n i → rows_to ss i ≤ n
row-low ss n zero each found = omega arith
row-low ss n (suc i) each found =
    omega (arith, rows-spread (take (suc i) ss) (all-take IsStretch (suc i) ss each), found.short (omega arith))

rows-next : (ss : List Stretched) (i : ℕ) (s : Stretched) → All IsStretch ss → slice_get ss i ≡ Some s → (extents (take (i + 1) ss)).rows ≡ rows_to ss i + (s.lines + length s.stood.cuts)
rows-next ss i s each e =
    omega (arith, ap (λ (t : Extent). t.rows) (extents-next ss i s e), rows-spread (take i ss) (all-take IsStretch i ss each))

pub row-high : (ss : List Stretched) (n i : ℕ) (s : Stretched) → All IsStretch ss → slice_get ss i ≡ Some s → IsAtRow ss n i → n < rows_to ss i + (s.lines + length s.stood.cuts)
row-high ss n i s each e found =
    let within = slice_get_within ss i s e in
    omega (arith, rows-next ss i s each e, found.reaching within)

pub row-not-past : (ss : List Stretched) (n i : ℕ) → All IsStretch ss → IsAtRow ss n i → n < rows_in (spread ss) → slice_get ss i ≡ None → ⊥
row-not-past ss n i each found within e =
    let total = ap (λ (l : List Stretched). rows_in (spread l)) (all-before ss i e) in
    omega (arith, row-low ss n i each found, total)

-- the rows before a line are those before its stretch, and one for each line of it before that
pub rows-found : (ss : List Stretched) (n i : ℕ) (o : Option (Bor Stretched)) → All IsStretch ss → IsAtLine ss n Right i → n ≤ length (spread ss)
    → option_copied o ≡ slice_get ss i → rows_in (take n (spread ss)) ≡ rows_to ss i + (n - lines_to ss i)
rows-found ss n i None each found within e =
    let all = all-before ss i (sym e) in
    let total : lines_to ss i ≡ length (spread ss) = ap (λ (l : List Stretched). length (spread l)) all in
    let low = line-low Right ss n i found in
    let none : 0 ≡ n - lines_to ss i = omega arith in
    ap rows_in (take_all n (spread ss) (omega arith) ∙ sym (ap spread all)) ∙ omega arith
rows-found ss n i (Some b) each found within e =
    let at : slice_get ss i ≡ Some b.now = sym e in
    let low = line-low Right ss n i found in
    let high = line-high-Right ss n i b.now at found in
    rows-in ss i n (n - lines_to ss i) b.now at (All-at IsStretch ss i b.now at each) (omega arith) (omega arith)

-- the line of a row of a stretch: the row's number in it, up to its last line
pub record IsLineOf (ls : List Stood) (row line : ℕ) : Type 0 where
  pub within : line < length ls
  pub begun : rows_in (take line ls) ≤ row
  pub ends : row < rows_in (take (line + 1) ls)

pub line-of : (ss : List Stretched) (n i k : ℕ) (s : Stretched) → All IsStretch ss → IsAtRow ss n i → slice_get ss i ≡ Some s → k ≡ min (n - rows_to ss i) (s.lines - 1) → IsLineOf (spread ss) n (lines_to ss i + k)
line-of ss n i k s each found e at =
    let is = All-at IsStretch ss i s e each in
    let some = is.some in
    let low = row-low ss n i each found in
    let high = row-high ss n i s each e found in
    let inside : k < s.lines = omega arith in
    let before = rows-in ss i (lines_to ss i + k) k s e is refl inside in
    let through : rows_in (take (lines_to ss i + k + 1) (spread ss)) ≡ rows_to ss i + rows_in (replicate (k + 1) s.stood) =
    ap rows_in (take-in ss i (lines_to ss i + k + 1) (k + 1) s e (omega arith) (omega arith)) ∙ rows-append (spread (take i ss)) (replicate (k + 1) s.stood) in
    record {
      within = omega (arith, lines-within ss i s e);
      begun = omega (arith, before);
      ends = elim is.one [
        | inl none ↦ omega (arith, through, rows-uncut (k + 1) s.stood none, ap length none)
        | inr one ↦
            let last : s.lines ≡ k + 1 = omega arith in
            omega (arith, through, ap (λ (m : ℕ). rows_in (replicate m s.stood)) last, rows-stretch s is)
      ];
    }

-- all rows are u32, and so are those of a part
pub rows-part : (ls : List Stood) (n : ℕ) → rows_in (take n ls) ≤ rows_in ls
rows-part [] zero = omega arith
rows-part [] (suc n) = omega arith
rows-part (l ∷ ls) zero = omega arith
rows-part (l ∷ ls) (suc n) = omega (arith, rows-part ls n)
