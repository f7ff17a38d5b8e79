-- Stretches put in the place of others.
use Rattle.std.proofs.Common.{◌≡◌, ℕ, zero, suc, ◌+◌, ◌-◌, ◌<◌, ◌≤◌, ◌^◌, List, [], ◌∷◌, ◌++◌, length, take, drop, replicate, Option, Some, None, Result, Ok, Err, refl, sym, ap, subst, ◌∙◌, inl, inr, arith, add-one, length-append, append_assoc}
use Rattle.std.specs.List.{slice_get}
use Rattle.std.specs.Prelude.{◌⊎◌, All, OnErr, OnOk}
use Rattle.std.proofs.lemmas.Bool.{cases_lt}
use Rattle.std.proofs.lemmas.Option.{slice_get_within}
use Rattle.std.proofs.lemmas.List.{append-nil, drop_all, length-drop, length-take-le, take-append-drop, take_all}
use Rattle.std.proofs.lemmas.List.Elements.{All-cons, All-head, All-nil, All-tail}
use Rattle.cell_units.specs.declared.place.Bias.TheVariants.{Left, Right}
use Rattle.wrap_map.specs.inside.Adjacent.{AllAdjacent}
use Rattle.wrap_map.specs.Stood.{Stood, put_in, rows_in, unwrapped}
use Rattle.wrap_map.specs.inside.Extents.{ExtentFits}
use Rattle.wrap_map.specs.inside.Gathering.{AreSeparate, IsHead, IsTail, first_of, gathered, last_of}
use Rattle.wrap_map.specs.inside.Stretches.{AreUnlike, AreStretches, IsStretch, Stretched, spread}
use Rattle.wrap_map.proofs.Gathers.{apart-append, apart-gathered, apart-head, apart-left, apart-right, apart-seam, each-gathered, first-gathered, last-gathered, length-gathered, separate-none, some-gathered, some-last, spread-gathered}
use Rattle.wrap_map.proofs.Parts.{All-at, IsAtLine, all-before, all-take, drop-in, line-high-Left, line-high-Right, line-low, lines_more, lines_to, none-behind, round, short-Left, take-in}
use Rattle.wrap_map.proofs.Spreads.{extents, few-stretches, few-switches, lines-rows, lines-spread, rows-append, rows-spread, rows-uncut, spread-append}

-- ---- parts of a stretch

-- so many of its lines
abbrev pub part_of : Stretched → ℕ → Stretched
part_of s k = record { stood = s.stood; lines = k }

part-is : (s : Stretched) (k : ℕ) → IsStretch s → 1 ≤ k → k ≤ s.lines → IsStretch (part_of s k)
part-is s k is some le = record {
  some = some;
  one = elim is.one [ inl none ↦ inl none | inr one ↦ inr (omega arith) ];
  rows_fit = omega (arith, is.rows_fit);
}

one-part : (s : Stretched) (k : ℕ) → IsStretch s → 1 ≤ k → k ≤ s.lines → All IsStretch (part_of s k ∷ [])
one-part s k is some le = All-cons IsStretch (part_of s k) [] (part-is s k is some le) (All-nil IsStretch)

-- how the stretches lie round one of them
apart-round : (ss : List Stretched) (i : ℕ) (s : Stretched) → slice_get ss i ≡ Some s → AllAdjacent AreUnlike ss → AllAdjacent AreUnlike (take i ss ++ (s ∷ drop (suc i) ss))
apart-round ss i s e a = subst (λ (l : List Stretched). AllAdjacent AreUnlike l) (round ss i s e) a

pub head-some : (ss : List Stretched) (n i k : ℕ) (s : Stretched) → AreStretches ss → slice_get ss i ≡ Some s → IsAtLine ss n Left i → n ≡ lines_to ss i + k → 1 ≤ k → IsHead ss n (part_of s k ∷ []) i
head-some ss n i k s are e found at some =
    let within = slice_get_within ss i s e in
    let high = line-high-Left ss n i s e found in
    let le : k ≤ s.lines = omega arith in
    record {
      within = omega arith;
      spread_is =
          ap (λ (l : List Stood). spread (take i ss) ++ l) (append-nil (replicate k s.stood)) ∙ sym (take-in ss i n k s e at le);
      each = one-part s k (All-at IsStretch ss i s e are.each) some le;
      few = omega arith;
      some = inr (omega arith);
      apart = apart-seam (take i ss) (s ∷ drop (suc i) ss) (apart-round ss i s e are.apart);
    }

pub head-begin : (ss : List Stretched) (n i : ℕ) (s : Stretched) → slice_get ss i ≡ Some s → IsAtLine ss n Left i → n ≡ lines_to ss i → IsHead ss n [] i
head-begin ss n i s e found at =
    let within = slice_get_within ss i s e in
    let first : i ≡ 0 = elim (cases_lt 0 i) [ inl more ↦ absurd (omega (arith, short-Left ss n i found more)) | inr none ↦ omega arith ] in
    record {
      within = omega arith;
      spread_is = ap (λ (l : List Stood). l) (append-nil (spread (take i ss))) ∙ sym (take-in ss i n 0 s e (omega arith) (omega arith) ∙ append-nil (spread (take i ss)));
      each = All-nil IsStretch;
      few = omega arith;
      some = inl first;
      apart = separate-none (last_of (take i ss));
    }

pub head-none : (ss : List Stretched) (n i : ℕ) → n ≤ length (spread ss) → slice_get ss i ≡ None → IsAtLine ss n Left i → IsHead ss n [] i
head-none ss n i within e found =
    let all = all-before ss i e in
    let total : lines_to ss i ≡ length (spread ss) = ap (λ (l : List Stretched). length (spread l)) all in
    let low = line-low Left ss n i found in
    let first : i ≡ 0 = elim (cases_lt 0 i) [ inl more ↦ absurd (omega (arith, short-Left ss n i found more)) | inr none ↦ omega arith ] in
    record {
      within = found.within;
      spread_is = append-nil (spread (take i ss)) ∙ ap spread all ∙ sym (take_all n (spread ss) (omega arith));
      each = All-nil IsStretch;
      few = omega arith;
      some = inl first;
      apart = separate-none (last_of (take i ss));
    }

pub tail-some : (ss : List Stretched) (n i k : ℕ) (s : Stretched) → AreStretches ss → slice_get ss i ≡ Some s → IsAtLine ss n Right i → k + n ≡ lines_to ss i + s.lines → IsTail ss n (part_of s k ∷ []) (i + 1)
tail-some ss n i k s are e found at =
    let within = slice_get_within ss i s e in
    let low = line-low Right ss n i found in
    let high = line-high-Right ss n i s e found in
    let passed = n - lines_to ss i in
    let left : s.lines - passed ≡ k = omega arith in
    let behind : drop (i + 1) ss ≡ drop (suc i) ss = ap (λ (m : ℕ). drop m ss) (add-one i) in
    let rest = apart-right (take i ss) (s ∷ drop (suc i) ss) (apart-round ss i s e are.apart) in
    record {
      within = omega arith;
      spread_is =
          ap (λ (l : List Stood). l ++ spread (drop (i + 1) ss)) (append-nil (replicate k s.stood))
          ∙ ap (λ (l : List Stretched). replicate k s.stood ++ spread l) behind
          ∙ ap (λ (m : ℕ). replicate m s.stood ++ spread (drop (suc i) ss)) (sym left)
          ∙ sym (drop-in ss i n passed s e (omega arith) (omega arith));
      each = one-part s k (All-at IsStretch ss i s e are.each) (omega arith) (omega arith);
      few = omega arith;
      some = inr (omega arith);
      apart = subst (λ (l : List Stretched). AreSeparate (Some s.stood) (first_of l)) (sym behind) (apart-head s (drop (suc i) ss) rest);
    }

pub tail-none : (ss : List Stretched) (n i : ℕ) → slice_get ss i ≡ None → IsAtLine ss n Right i → IsTail ss n [] i
tail-none ss n i e found =
    let all = all-before ss i e in
    let none = none-behind ss i e in
    let total : lines_to ss i ≡ length (spread ss) = ap (λ (l : List Stretched). length (spread l)) all in
    let low = line-low Right ss n i found in
    record {
      within = found.within;
      spread_is = ap spread none ∙ sym (drop_all n (spread ss) (omega arith));
      each = All-nil IsStretch;
      few = omega arith;
      some = inl none;
      apart = tt;
    }

-- ---- what a replacement makes

module _ {X : Type 0} (P : X → Type 0) where
  all-append : (a b : List X) → All P a → All P b → All P (a ++ b)
  all-append [] b pa pb = pb
  all-append (x ∷ xs) b pa pb = All-cons P x (xs ++ b) (All-head P x xs pa) (all-append xs b (All-tail P x xs pa) pb)

  all-drop : (n : ℕ) (xs : List X) → All P xs → All P (drop n xs)
  all-drop zero xs p = p
  all-drop (suc n) [] p = All-nil P
  all-drop (suc n) (x ∷ xs) p = all-drop n xs (All-tail P x xs p)

apart-take : (n : ℕ) (ss : List Stretched) → AllAdjacent AreUnlike ss → AllAdjacent AreUnlike (take n ss)
apart-take n ss a =
    apart-left (take n ss) (drop n ss) (subst (λ (l : List Stretched). AllAdjacent AreUnlike l) (sym (take-append-drop n ss)) a)

apart-drop : (n : ℕ) (ss : List Stretched) → AllAdjacent AreUnlike ss → AllAdjacent AreUnlike (drop n ss)
apart-drop n ss a =
    apart-right (take n ss) (drop n ss) (subst (λ (l : List Stretched). AllAdjacent AreUnlike l) (sym (take-append-drop n ss)) a)

last-append : (a b : List Stretched) → 1 ≤ length b → last_of (a ++ b) ≡ last_of b
last-append [] b some = refl
last-append (s ∷ []) [] some = absurd (omega arith)
last-append (s ∷ []) (t ∷ ts) some = refl
last-append (s ∷ t ∷ ts) b some = last-append (t ∷ ts) b some

-- what lies between the head and the tail
abbrev pub middle : List Stretched → List Stretched → List Stretched → List Stretched
middle head fresh tail = gathered (gathered head fresh) tail

-- with those that stay round it
abbrev pub placed : List Stretched → ℕ → List Stretched → ℕ → List Stretched
placed ss from mid to = take from ss ++ mid ++ drop to ss

module _ (ss head fresh tail : List Stretched) (from to start end : ℕ)
    (h : IsHead ss start head from) (t : IsTail ss end tail to)
    (rows : rows_in (put_in start end (spread fresh) (spread ss)) < 2 ^ 32) where
  lines : length (put_in start end (spread fresh) (spread ss)) < 2 ^ 32
  lines = omega (arith, rows, lines-rows (put_in start end (spread fresh) (spread ss)))

  lines-is : length (spread (take from ss)) + length (spread head) + length (spread fresh) + (length (spread tail) + length (spread (drop to ss))) < 2 ^ 32
  lines-is =
      omega (
        arith,
        lines,
        length-append (take start (spread ss) ++ spread fresh) (drop end (spread ss)),
        length-append (take start (spread ss)) (spread fresh),
        ap length h.spread_is,
        length-append (spread (take from ss)) (spread head),
        ap length t.spread_is,
        length-append (spread tail) (spread (drop to ss)),
      )

  pub first-room : length (spread head) + length (spread fresh) < 2 ^ 32
  first-room = omega (arith, lines-is)

  pub second-room : length (spread (gathered head fresh)) + length (spread tail) < 2 ^ 32
  second-room = omega (arith, lines-is, ap length (spread-gathered head fresh), length-append (spread head) (spread fresh))

module _ (ss head fresh tail : List Stretched) (from to start end : ℕ)
    (are : AreStretches ss) (h : IsHead ss start head from) (t : IsTail ss end tail to) (fresh-are : All IsStretch fresh)
    (order : start ≤ end) (within : end ≤ length (spread ss))
    (rows : rows_in (put_in start end (spread fresh) (spread ss)) < 2 ^ 32) where
  abbrev new : List Stretched
  new = placed ss from (middle head fresh tail) to

  spread-middle : spread (middle head fresh tail) ≡ spread head ++ spread fresh ++ spread tail
  spread-middle =
      spread-gathered (gathered head fresh) tail ∙ ap (λ (l : List Stood). l ++ spread tail) (spread-gathered head fresh)

  regroup : (a b c d e : List Stood) → a ++ (b ++ c ++ d) ++ e ≡ (a ++ b) ++ c ++ (d ++ e)
  regroup a b c d e = simp append_assoc

  pub put-spread : spread new ≡ put_in start end (spread fresh) (spread ss)
  put-spread =
      spread-append (take from ss ++ middle head fresh tail) (drop to ss)
      ∙ ap (λ (l : List Stood). l ++ spread (drop to ss)) (spread-append (take from ss) (middle head fresh tail))
      ∙ ap (λ (l : List Stood). spread (take from ss) ++ l ++ spread (drop to ss)) spread-middle
      ∙ regroup (spread (take from ss)) (spread head) (spread fresh) (spread tail) (spread (drop to ss))
      ∙ ap (λ (l : List Stood). l ++ spread fresh ++ (spread tail ++ spread (drop to ss))) h.spread_is
      ∙ ap (λ (l : List Stood). take start (spread ss) ++ spread fresh ++ l) t.spread_is

  each-middle : All IsStretch (middle head fresh tail)
  each-middle =
      let first = each-gathered head fresh h.each fresh-are (first-room ss head fresh tail from to start end h t rows) in
      each-gathered (gathered head fresh) tail first t.each (second-room ss head fresh tail from to start end h t rows)

  pub put-each : All IsStretch new
  put-each =
      all-append IsStretch (take from ss ++ middle head fresh tail) (drop to ss)
      (all-append IsStretch (take from ss) (middle head fresh tail) (all-take IsStretch from ss are.each) each-middle)
      (all-drop IsStretch to ss are.each)

  one-or-none : (part : List Stretched) → length part ≤ 1 → AllAdjacent AreUnlike part
  one-or-none [] few = tt
  one-or-none (s ∷ []) few = tt
  one-or-none (s ∷ u ∷ us) few = absurd (omega arith)

  apart-middle : AllAdjacent AreUnlike (middle head fresh tail)
  apart-middle = apart-gathered (gathered head fresh) tail (apart-gathered head fresh (one-or-none head h.few))

  front-seam : AreSeparate (last_of (take from ss)) (first_of (middle head fresh tail))
  front-seam = elim h.some [
    | inl none ↦ subst (λ (n : ℕ). AreSeparate (last_of (take n ss)) (first_of (middle head fresh tail))) (sym none) tt
    | inr some ↦
        let first : first_of (middle head fresh tail) ≡ first_of head =
        first-gathered (gathered head fresh) tail (some-gathered head fresh some) ∙ first-gathered head fresh some in
        subst (λ (o : Option Stood). AreSeparate (last_of (take from ss)) o) (sym first) h.apart
  ]

  back-seam : AreSeparate (last_of (take from ss ++ middle head fresh tail)) (first_of (drop to ss))
  back-seam = elim t.some [
    | inl none ↦
        subst (λ (l : List Stretched). AreSeparate (last_of (take from ss ++ middle head fresh tail)) (first_of l)) (sym none)
        (separate-none (last_of (take from ss ++ middle head fresh tail)))
    | inr some ↦
        let there = some-last (gathered head fresh) tail some in
        let last : last_of (take from ss ++ middle head fresh tail) ≡ last_of tail =
        last-append (take from ss) (middle head fresh tail) there ∙ last-gathered (gathered head fresh) tail some in
        subst (λ (o : Option Stood). AreSeparate o (first_of (drop to ss))) (sym last) t.apart
  ]

  pub put-apart : AllAdjacent AreUnlike new
  put-apart =
      apart-append (take from ss ++ middle head fresh tail) (drop to ss)
      (apart-append (take from ss) (middle head fresh tail) (apart-take from ss are.apart) apart-middle front-seam)
      (apart-drop to ss are.apart)
      back-seam

  pub put-are : AreStretches new
  put-are = record { each = put-each; apart = put-apart; rows_fit = omega (arith, ap rows_in put-spread, rows) }

  pub put-few : length (middle head fresh tail) ≤ length fresh + 2
  put-few = omega (arith, length-gathered (gathered head fresh) tail, length-gathered head fresh, h.few, t.few)

  front-lines : from ≤ 0 ⊎ lines_to ss from < start
  front-lines =
      let sum : lines_to ss from + length (spread head) ≡ start =
      omega (arith, ap length h.spread_is, length-append (spread (take from ss)) (spread head), length-take-le start (spread ss) (omega arith)) in
      elim h.some [ inl none ↦ inl (omega arith) | inr some ↦ inr (omega (arith, sum, few-stretches head h.each)) ]

  back-lines : end ≤ lines_to ss to
  back-lines =
      omega (
        arith,
        within,
        ap length t.spread_is,
        length-append (spread tail) (spread (drop to ss)),
        length-drop end (spread ss),
        ap (λ (l : List Stretched). length (spread l)) (take-append-drop to ss),
        ap length (spread-append (take to ss) (drop to ss)),
        length-append (spread (take to ss)) (spread (drop to ss)),
      )

  pub put-order : from ≤ to
  put-order = elim (cases_lt to from) [
    | inl less ↦ elim front-lines [ inl none ↦ absurd (omega arith) | inr before ↦ absurd (omega (arith, before, back-lines, lines_more ss to from (omega arith))) ]
    | inr le ↦ le
  ]

  pub put-small : length new < 2 ^ 32
  put-small = omega (arith, few-stretches new put-each, ap length put-spread, lines ss head fresh tail from to start end h t rows)

  pub put-fits : ExtentFits (extents new)
  put-fits = record {
    lines = omega (arith, lines-spread new, ap length put-spread, lines ss head fresh tail from to start end h t rows);
    rows = omega (arith, rows-spread new put-each, ap rows_in put-spread, rows);
    switches = omega (arith, few-switches new, put-small);
  }

-- ---- a new list

pub none-are : (ss : List Stretched) → ss ≡ [] → AreStretches ss
none-are [] e = record { each = All-nil IsStretch; apart = tt; rows_fit = omega arith }
none-are (s ∷ ss) e = absurd (cc)

pub one-are : (ss : List Stretched) (n : ℕ) → 1 ≤ n → n < 2 ^ 32 → ss ≡ record { stood = unwrapped; lines = n } ∷ [] → AreStretches ss
one-are ss n some fits e =
    let is : IsStretch (record { stood = unwrapped; lines = n }) = record { some = some; one = inl refl; rows_fit = omega arith } in
    let rows : rows_in (spread (record { stood = unwrapped; lines = n } ∷ [])) < 2 ^ 32 =
    omega (arith, rows-append (replicate n unwrapped) [], rows-uncut n unwrapped refl) in
    subst (λ (l : List Stretched). AreStretches l) (sym e)
    (record { each = All-cons IsStretch (record { stood = unwrapped; lines = n }) [] is (All-nil IsStretch); apart = tt; rows_fit = rows })

-- ---- what the code makes of it

pub record IsPlaced (ss fresh : List Stretched) (start end from to : ℕ) (mid : List Stretched) : Type 0 where
  pub order : from ≤ to
  pub fits : ExtentFits (extents (placed ss from mid to))
  pub small : length (placed ss from mid to) < 2 ^ 32
  pub are : AreStretches (placed ss from mid to)
  pub spread_is : spread (placed ss from mid to) ≡ put_in start end (spread fresh) (spread ss)
  pub few : length mid ≤ length fresh + 2
  pub fewer : length (placed ss from mid to) ≤ length (put_in start end (spread fresh) (spread ss))

pub put-placed : (ss head fresh tail mid : List Stretched) (from to start end : ℕ) → AreStretches ss → IsHead ss start head from → IsTail ss end tail to → All IsStretch fresh
    → start ≤ end → end ≤ length (spread ss) → rows_in (put_in start end (spread fresh) (spread ss)) < 2 ^ 32 → mid ≡ middle head fresh tail → IsPlaced ss fresh start end from to mid
put-placed ss head fresh tail mid from to start end are h t fresh-are order within rows e =
    subst (λ (l : List Stretched). IsPlaced ss fresh start end from to l) (sym e)
    (record {
      order = put-order ss head fresh tail from to start end are h t fresh-are order within rows;
      fits = put-fits ss head fresh tail from to start end are h t fresh-are order within rows;
      small = put-small ss head fresh tail from to start end are h t fresh-are order within rows;
      are = put-are ss head fresh tail from to start end are h t fresh-are order within rows;
      spread_is = put-spread ss head fresh tail from to start end are h t fresh-are order within rows;
      few = put-few ss head fresh tail from to start end are h t fresh-are order within rows;
      fewer =
          omega (
            arith,
            few-stretches (placed ss from (middle head fresh tail) to) (put-each ss head fresh tail from to start end are h t fresh-are order within rows),
            ap length (put-spread ss head fresh tail from to start end are h t fresh-are order within rows),
          );
    })

pub either : {A E : Type 0} (r : Result A E) (P Q R : Type 0) → OnOk r P → OnErr r Q → (P → R) → (Q → R) → R
either (Ok a) P Q R p q f g = f p
either (Err e) P Q R p q f g = g q

-- ---- the rows before a part

pub head-rows : (ss part : List Stretched) (n at : ℕ) → All IsStretch ss → IsHead ss n part at
    → rows_in (take n (spread ss)) ≡ (extents (take at ss)).rows + (extents part).rows
head-rows ss part n at each h =
    ap rows_in (sym h.spread_is) ∙ rows-append (spread (take at ss)) (spread part)
    ∙ omega (arith, rows-spread (take at ss) (all-take IsStretch at ss each), rows-spread part h.each)
