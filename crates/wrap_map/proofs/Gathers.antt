-- Stretches gathered one after the other, and put between others.
use Rattle.std.proofs.Common.{◌≡◌, ℕ, zero, suc, ◌+◌, ◌<◌, ◌≤◌, ◌^◌, Bool, true, false, List, [], ◌∷◌, ◌++◌, length, get_or, set, replicate, Option, Some, None, refl, sym, ap, subst, ◌∙◌, inl, arith, length-append, append_assoc}
use Rattle.std.specs.Prelude.{if◌then◌else◌, All}
use Rattle.std.proofs.lemmas.List.{append-nil, length-replicate, replicate-append-replicate}
use Rattle.std.proofs.lemmas.List.Elements.{All-cons, All-head, All-nil, All-tail}
use Rattle.wrap_map.specs.inside.Adjacent.{AllAdjacent}
use Rattle.wrap_map.specs.Stood.{Stood, are_alike}
use Rattle.wrap_map.specs.inside.Gathering.{AreSeparate, first_of, gathered, last_of, with_last}
use Rattle.wrap_map.specs.inside.Stretches.{AreUnlike, IsStretch, Stretched, spread}
use Rattle.wrap_map.proofs.Spreads.{alike-same, alike-uncut, spread-append}

-- ---- one more

abbrev grown : Stretched → Stretched → Stretched
grown t s = record { stood = t.stood; lines = t.lines + s.lines }

-- what is one is the grown one where both are alike, and else both
abbrev last_two : Bool → Stretched → Stretched → List Stretched
last_two b t s = if b then (grown t s ∷ []) else (t ∷ s ∷ [])

spread-two : (b : Bool) (t s : Stretched) → are_alike t.stood s.stood ≡ b → spread (last_two b t s) ≡ spread (t ∷ s ∷ [])
spread-two true t s e =
    let same = alike-same t.stood s.stood e in
    ap (λ (l : List Stood). l ++ []) (sym (replicate-append-replicate t.lines s.lines t.stood))
    ∙ append_assoc (replicate t.lines t.stood) (replicate s.lines t.stood) []
    ∙ ap (λ (l : Stood). replicate t.lines t.stood ++ (replicate s.lines l ++ [])) same
spread-two false t s e = refl

pub spread-with_last : (ss : List Stretched) (s : Stretched) → spread (with_last ss s) ≡ spread ss ++ spread (s ∷ [])
spread-with_last [] s = refl
spread-with_last (t ∷ []) s =
    spread-two (are_alike t.stood s.stood) t s refl
    ∙ ap (λ (l : List Stood). l ++ spread (s ∷ [])) (sym (append-nil (replicate t.lines t.stood)))
spread-with_last (t ∷ u ∷ us) s =
    ap (λ (l : List Stood). replicate t.lines t.stood ++ l) (spread-with_last (u ∷ us) s)
    ∙ sym (append_assoc (replicate t.lines t.stood) (spread (u ∷ us)) (spread (s ∷ [])))

grown-is : (t s : Stretched) → are_alike t.stood s.stood ≡ true → IsStretch t → t.lines + s.lines < 2 ^ 32 → IsStretch (grown t s)
grown-is t s e is fits =
    let none = alike-uncut t.stood s.stood e in
    record {
      some = omega (arith, is.some);
      one = inl none;
      rows_fit = omega (arith, fits, ap length none);
    }

each-two : (b : Bool) (t s : Stretched) → are_alike t.stood s.stood ≡ b → IsStretch t → IsStretch s → t.lines + s.lines < 2 ^ 32 → All IsStretch (last_two b t s)
each-two true t s e it is fits = All-cons IsStretch (grown t s) [] (grown-is t s e it fits) (All-nil IsStretch)
each-two false t s e it is fits = All-cons IsStretch t (s ∷ []) it (All-cons IsStretch s [] is (All-nil IsStretch))

pub each-with_last : (ss : List Stretched) (s : Stretched) → All IsStretch ss → IsStretch s → length (spread ss) + s.lines < 2 ^ 32 → All IsStretch (with_last ss s)
each-with_last [] s each is fits = All-cons IsStretch s [] is (All-nil IsStretch)
each-with_last (t ∷ []) s each is fits =
    let lines : t.lines + s.lines < 2 ^ 32 = omega (arith, fits, length-append (replicate t.lines t.stood) [], length-replicate t.lines t.stood) in
    each-two (are_alike t.stood s.stood) t s refl (All-head IsStretch t [] each) is lines
each-with_last (t ∷ u ∷ us) s each is fits =
    let lines : length (spread (u ∷ us)) + s.lines < 2 ^ 32 = omega (arith, fits, length-append (replicate t.lines t.stood) (spread (u ∷ us))) in
    All-cons IsStretch t (with_last (u ∷ us) s) (All-head IsStretch t (u ∷ us) each) (each-with_last (u ∷ us) s (All-tail IsStretch t (u ∷ us) each) is lines)

length-two : (b : Bool) (t s : Stretched) → length (last_two b t s) ≤ 2
length-two true t s = omega arith
length-two false t s = omega arith

pub length-with_last : (ss : List Stretched) (s : Stretched) → length (with_last ss s) ≤ length ss + 1
length-with_last [] s = omega arith
length-with_last (t ∷ []) s = omega (arith, length-two (are_alike t.stood s.stood) t s)
length-with_last (t ∷ u ∷ us) s = omega (arith, length-with_last (u ∷ us) s)

-- the last one grows, or one more is put after it
pub with_last-grown : (ss : List Stretched) (s t : Stretched) (i : ℕ) → i + 1 ≡ length ss → t ≡ get_or ss i t → are_alike t.stood s.stood ≡ true → set ss i (grown t s) ≡ with_last ss s
with_last-grown [] s t i at is e = absurd (omega arith)
with_last-grown (u ∷ []) s t zero at is e =
    ap (λ (v : Stretched). grown v s ∷ []) is
    ∙ ap (λ (b : Bool). last_two b u s) (sym (ap (λ (v : Stretched). are_alike v.stood s.stood) (sym is) ∙ e))
with_last-grown (u ∷ []) s t (suc i) at is e = absurd (omega arith)
with_last-grown (u ∷ v ∷ vs) s t zero at is e = absurd (omega arith)
with_last-grown (u ∷ v ∷ vs) s t (suc i) at is e =
    ap (λ (l : List Stretched). u ∷ l) (with_last-grown (v ∷ vs) s t i (omega arith) is e)

pub with_last-apart : (ss : List Stretched) (s t : Stretched) (i : ℕ) → i + 1 ≡ length ss → t ≡ get_or ss i t → are_alike t.stood s.stood ≡ false → ss ++ (s ∷ []) ≡ with_last ss s
with_last-apart [] s t i at is e = absurd (omega arith)
with_last-apart (u ∷ []) s t zero at is e =
    ap (λ (b : Bool). last_two b u s) (sym (ap (λ (v : Stretched). are_alike v.stood s.stood) (sym is) ∙ e))
with_last-apart (u ∷ []) s t (suc i) at is e = absurd (omega arith)
with_last-apart (u ∷ v ∷ vs) s t zero at is e = absurd (omega arith)
with_last-apart (u ∷ v ∷ vs) s t (suc i) at is e =
    ap (λ (l : List Stretched). u ∷ l) (with_last-apart (v ∷ vs) s t i (omega arith) is e)

pub with_last-first : (ss : List Stretched) (s : Stretched) → length ss ≡ 0 → ss ++ (s ∷ []) ≡ with_last ss s
with_last-first [] s none = refl
with_last-first (u ∷ us) s none = absurd (omega arith)

-- ---- how the first and the last are wrapped

-- the first of some, or this one
abbrev first_or : List Stretched → Option Stood → Option Stood
first_or [] o = o
first_or (s ∷ ss) o = Some s.stood

first-two : (b : Bool) (t s : Stretched) → first_of (last_two b t s) ≡ Some t.stood
first-two true t s = refl
first-two false t s = refl

first-with_last : (ss : List Stretched) (s : Stretched) → first_of (with_last ss s) ≡ first_or ss (Some s.stood)
first-with_last [] s = refl
first-with_last (t ∷ []) s = first-two (are_alike t.stood s.stood) t s
first-with_last (t ∷ u ∷ us) s = refl

last-two : (b : Bool) (t s : Stretched) → are_alike t.stood s.stood ≡ b → last_of (last_two b t s) ≡ Some s.stood
last-two true t s e = ap Some (alike-same t.stood s.stood e)
last-two false t s e = refl

-- the last of a list with something before it
last-cons : (t : Stretched) (ss : List Stretched) (l : Stood) → last_of ss ≡ Some l → last_of (t ∷ ss) ≡ Some l
last-cons t [] l e = absurd (cc)
last-cons t (s ∷ ss) l e = e

last-with_last : (ss : List Stretched) (s : Stretched) → last_of (with_last ss s) ≡ Some s.stood
last-with_last [] s = refl
last-with_last (t ∷ []) s = last-two (are_alike t.stood s.stood) t s refl
last-with_last (t ∷ u ∷ us) s = last-cons t (with_last (u ∷ us) s) s.stood (last-with_last (u ∷ us) s)

-- ---- no two neighbours could be one

-- a list with one before it that its first couldn't join
apart-cons : (t : Stretched) (ss : List Stretched) → AreSeparate (Some t.stood) (first_of ss) → AllAdjacent AreUnlike ss → AllAdjacent AreUnlike (t ∷ ss)
apart-cons t [] a b = tt
apart-cons t (s ∷ ss) a b = (a, b)

apart-tail : (t : Stretched) (ss : List Stretched) → AllAdjacent AreUnlike (t ∷ ss) → AllAdjacent AreUnlike ss
apart-tail t [] a = tt
apart-tail t (s ∷ ss) a = a.1

pub apart-head : (t : Stretched) (ss : List Stretched) → AllAdjacent AreUnlike (t ∷ ss) → AreSeparate (Some t.stood) (first_of ss)
apart-head t [] a = tt
apart-head t (s ∷ ss) a = a.0

apart-two : (b : Bool) (t s : Stretched) → are_alike t.stood s.stood ≡ b → AllAdjacent AreUnlike (last_two b t s)
apart-two true t s e = tt
apart-two false t s e = (e, tt)

pub apart-with_last : (ss : List Stretched) (s : Stretched) → AllAdjacent AreUnlike ss → AllAdjacent AreUnlike (with_last ss s)
apart-with_last [] s a = tt
apart-with_last (t ∷ []) s a = apart-two (are_alike t.stood s.stood) t s refl
apart-with_last (t ∷ u ∷ us) s a =
    let first = first-with_last (u ∷ us) s in
    apart-cons t (with_last (u ∷ us) s) (subst (λ (o : Option Stood). AreSeparate (Some t.stood) o) (sym first) a.0) (apart-with_last (u ∷ us) s a.1)

pub separate-none : (a : Option Stood) → AreSeparate a None
separate-none None = tt
separate-none (Some a) = tt

-- two lists that meet where they couldn't be joined
pub apart-append : (a b : List Stretched) → AllAdjacent AreUnlike a → AllAdjacent AreUnlike b → AreSeparate (last_of a) (first_of b) → AllAdjacent AreUnlike (a ++ b)
apart-append [] b pa pb seam = pb
apart-append (s ∷ []) b pa pb seam = apart-cons s b seam pb
apart-append (s ∷ t ∷ ts) b pa pb seam = (pa.0, apart-append (t ∷ ts) b pa.1 pb seam)

pub apart-left : (a b : List Stretched) → AllAdjacent AreUnlike (a ++ b) → AllAdjacent AreUnlike a
apart-left [] b p = tt
apart-left (s ∷ []) b p = tt
apart-left (s ∷ t ∷ ts) b p = (p.0, apart-left (t ∷ ts) b p.1)

pub apart-right : (a b : List Stretched) → AllAdjacent AreUnlike (a ++ b) → AllAdjacent AreUnlike b
apart-right [] b p = p
apart-right (s ∷ ss) b p = apart-right ss b (apart-tail s (ss ++ b) p)

pub apart-seam : (a b : List Stretched) → AllAdjacent AreUnlike (a ++ b) → AreSeparate (last_of a) (first_of b)
apart-seam [] b p = tt
apart-seam (s ∷ []) b p = apart-head s b p
apart-seam (s ∷ t ∷ ts) b p = apart-seam (t ∷ ts) b p.1

-- ---- many more

pub spread-gathered : (ss fs : List Stretched) → spread (gathered ss fs) ≡ spread ss ++ spread fs
spread-gathered ss [] = sym (append-nil (spread ss))
spread-gathered ss (f ∷ fs) =
    spread-gathered (with_last ss f) fs
    ∙ ap (λ (l : List Stood). l ++ spread fs) (spread-with_last ss f)
    ∙ append_assoc (spread ss) (spread (f ∷ [])) (spread fs)
    ∙ ap (λ (l : List Stood). spread ss ++ l) (sym (spread-append (f ∷ []) fs))

pub lines-more : (ss fs : List Stretched) (f : Stretched) → length (spread ss) + length (spread (f ∷ fs)) < 2 ^ 32 → length (spread (with_last ss f)) + length (spread fs) < 2 ^ 32
lines-more ss fs f fits =
    omega (
      arith,
      fits,
      ap length (spread-with_last ss f),
      length-append (spread ss) (spread (f ∷ [])),
      length-append (replicate f.lines f.stood) (spread fs),
      length-append (replicate f.lines f.stood) [],
    )

lines-one : (ss fs : List Stretched) (f : Stretched) → length (spread ss) + length (spread (f ∷ fs)) < 2 ^ 32 → length (spread ss) + f.lines < 2 ^ 32
lines-one ss fs f fits =
    omega (arith, fits, length-append (replicate f.lines f.stood) (spread fs), length-replicate f.lines f.stood)

pub each-gathered : (ss fs : List Stretched) → All IsStretch ss → All IsStretch fs → length (spread ss) + length (spread fs) < 2 ^ 32 → All IsStretch (gathered ss fs)
each-gathered ss [] es ef fits = es
each-gathered ss (f ∷ fs) es ef fits =
    each-gathered (with_last ss f) fs (each-with_last ss f es (All-head IsStretch f fs ef) (lines-one ss fs f fits)) (All-tail IsStretch f fs ef) (lines-more ss fs f fits)

pub length-gathered : (ss fs : List Stretched) → length (gathered ss fs) ≤ length ss + length fs
length-gathered ss [] = omega arith
length-gathered ss (f ∷ fs) = omega (arith, length-gathered (with_last ss f) fs, length-with_last ss f)

pub apart-gathered : (ss fs : List Stretched) → AllAdjacent AreUnlike ss → AllAdjacent AreUnlike (gathered ss fs)
apart-gathered ss [] a = a
apart-gathered ss (f ∷ fs) a = apart-gathered (with_last ss f) fs (apart-with_last ss f a)

some-two : (b : Bool) (t s : Stretched) → 1 ≤ length (last_two b t s)
some-two true t s = omega arith
some-two false t s = omega arith

some-with_last : (ss : List Stretched) (s : Stretched) → 1 ≤ length (with_last ss s)
some-with_last [] s = omega arith
some-with_last (t ∷ []) s = some-two (are_alike t.stood s.stood) t s
some-with_last (t ∷ u ∷ us) s = omega arith

pub some-gathered : (ss fs : List Stretched) → 1 ≤ length ss → 1 ≤ length (gathered ss fs)
some-gathered ss [] some = some
some-gathered ss (f ∷ fs) some = some-gathered (with_last ss f) fs (some-with_last ss f)

pub some-last : (ss fs : List Stretched) → 1 ≤ length fs → 1 ≤ length (gathered ss fs)
some-last ss [] some = absurd (omega arith)
some-last ss (f ∷ fs) some = some-gathered (with_last ss f) fs (some-with_last ss f)

-- the first stays
pub first-gathered : (ss fs : List Stretched) → 1 ≤ length ss → first_of (gathered ss fs) ≡ first_of ss
first-gathered ss [] some = refl
first-gathered [] (f ∷ fs) some = absurd (omega arith)
first-gathered (s ∷ ss) (f ∷ fs) some =
    let grows : 1 ≤ length (with_last (s ∷ ss) f) = some-with_last (s ∷ ss) f in
    first-gathered (with_last (s ∷ ss) f) fs grows ∙ first-with_last (s ∷ ss) f

-- the last of those that are added is the last
pub last-gathered : (ss fs : List Stretched) → 1 ≤ length fs → last_of (gathered ss fs) ≡ last_of fs
last-gathered ss [] some = absurd (omega arith)
last-gathered ss (f ∷ []) some = last-with_last ss f
last-gathered ss (f ∷ g ∷ gs) some = last-gathered (with_last ss f) (g ∷ gs) (omega arith)
