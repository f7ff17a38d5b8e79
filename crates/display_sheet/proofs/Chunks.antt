-- Where an element is in chunks, and where the first elements end.
use Rattle.std.proofs.Common.{◌≡◌, ℕ, ◌+◌, ◌-◌, ◌*◌, ◌<◌, ◌≤◌, zero, suc, List, [], ◌∷◌, ◌++◌, length, take, drop, set, get_or, sym, ap, ◌∙◌, arith, length-append, append-nil, append_assoc}
use Rattle.std.specs.Prelude.{slice_range}
use Rattle.std.proofs.Math.Nat.{suc-mul, zero-mul}
use Rattle.std.proofs.Math.Seq.{take-add, take-append-add, take-nil}
use Rattle.std.proofs.lemmas.List.{length-drop, length-take-le, get_or-append_right, get_or_append_left, set-append_left, set-append_right, take-append-le}
use Rattle.std.proofs.lemmas.List.Concat.{flat_map-append}
use Rattle.display_sheet.specs.Chunks.{AreChunks, joined}

-- the element of this number is the one at place j of the chunk of number k
pub record StandsAt {X : Type 0} (chunks : List (List X)) (k j at : ℕ) : Type 0 where
  pub chunk : k < length chunks
  pub place : j < length (get_or chunks k [])
  pub reads : (x : X) → get_or (joined chunks) at x ≡ get_or (get_or chunks k []) j x
  pub writes : (x : X) → joined (set chunks k (set (get_or chunks k []) j x)) ≡ set (joined chunks) at x

stands-first : {X : Type 0} (c : List X) (cs : List (List X)) (j at : ℕ) → j < length c → at ≡ j → StandsAt (c ∷ cs) zero j at
stands-first c cs j at lt is = record {
  chunk = omega arith;
  place = lt;
  reads = λ x. ap (λ (n : ℕ). get_or (c ++ joined cs) n x) is ∙ get_or_append_left c (joined cs) x j lt;
  writes = λ x. sym (ap (λ (n : ℕ). set (c ++ joined cs) n x) is ∙ set-append_left c (joined cs) j x lt);
}

stands-next : {X : Type 0} (size : ℕ) (c : List X) (cs : List (List X)) (k j at : ℕ) → length c ≡ size → size ≤ at → StandsAt cs k j (at - size) → StandsAt (c ∷ cs) (suc k) j at
stands-next {X} size c cs k j at long le stands = record {
  chunk = omega (arith, stands.chunk);
  place = stands.place;
  reads = λ x. get_or-append_right c (joined cs) size at x long le ∙ stands.reads x;
  writes = λ x. ap (λ (xs : List X). c ++ xs) (stands.writes x) ∙ sym (set-append_right c (joined cs) size at x long le);
}

pub stands-at : {X : Type 0} (size : ℕ) (chunks : List (List X)) (k j at : ℕ) → AreChunks size chunks → j < size → at ≡ k * size + j → at < length (joined chunks) → StandsAt chunks k j at
stands-at size [] k j at are few is lt = absurd (omega (arith, lt))
stands-at size (c ∷ []) zero j at are few is lt = stands-first c [] j at (omega (arith, lt, is, zero-mul size, length-append c [])) (omega (arith, is, zero-mul size))
stands-at size (c ∷ []) (suc k) j at are few is lt = absurd (omega (arith, lt, is, are, suc-mul k size, length-append c []))
stands-at size (c ∷ d ∷ cs) zero j at are few is lt = stands-first c (d ∷ cs) j at (omega (arith, few, are.0)) (omega (arith, is, zero-mul size))
stands-at size (c ∷ d ∷ cs) (suc k) j at are few is lt =
    stands-next size c (d ∷ cs) k j at are.0 (omega (arith, is, suc-mul k size))
    (stands-at size (d ∷ cs) k j (at - size) are.1 few (omega (arith, is, suc-mul k size)) (omega (arith, lt, is, suc-mul k size, are.0, length-append c (joined (d ∷ cs)))))

-- another chunk of the same length in the place of one
pub are-chunks-set : {X : Type 0} (size : ℕ) (chunks : List (List X)) (k : ℕ) (c : List X) → AreChunks size chunks → length c ≡ length (get_or chunks k []) → AreChunks size (set chunks k c)
are-chunks-set size [] k c are same = tt
are-chunks-set size (d ∷ []) zero c are same = omega (arith, are, same)
are-chunks-set size (d ∷ []) (suc k) c are same = are
are-chunks-set size (d ∷ e ∷ chunks) zero c are same = (same ∙ are.0, are.1)
are-chunks-set size (d ∷ e ∷ chunks) (suc zero) c are same = (are.0, are-chunks-set size (e ∷ chunks) zero c are.1 same)
are-chunks-set size (d ∷ e ∷ chunks) (suc (suc k)) c are same = (are.0, are-chunks-set size (e ∷ chunks) (suc k) c are.1 same)

-- ---- one chunk after another

-- each chunk is full
abbrev pub AreFull : {X : Type 0} → ℕ → List (List X) → Type 0
AreFull size [] = Unit {0}
AreFull size (c ∷ cs) = (length c ≡ size) × AreFull size cs

pub are-full-push : {X : Type 0} (size : ℕ) (cs : List (List X)) (c : List X) → AreFull size cs → length c ≡ size → AreFull size (cs ++ c ∷ [])
are-full-push size [] c are long = (long, tt)
are-full-push size (d ∷ cs) c are long = (are.0, are-full-push size cs c are.1 long)

pub are-chunks-push : {X : Type 0} (size : ℕ) (cs : List (List X)) (c : List X) → AreFull size cs → length c ≤ size → AreChunks size (cs ++ c ∷ [])
are-chunks-push size [] c are le = le
are-chunks-push size (d ∷ []) c are le = (are.0, le)
are-chunks-push size (d ∷ e ∷ cs) c are le = (are.0, are-chunks-push size (e ∷ cs) c are.1 le)

pub are-chunks-full : {X : Type 0} (size : ℕ) (cs : List (List X)) → AreFull size cs → AreChunks size cs
are-chunks-full size [] are = tt
are-chunks-full size (c ∷ []) are = omega (arith, are.0)
are-chunks-full size (c ∷ d ∷ cs) are = (are.0, are-chunks-full size (d ∷ cs) are.1)

pub joined-push : {X : Type 0} (cs : List (List X)) (c : List X) → joined (cs ++ c ∷ []) ≡ joined cs ++ c
joined-push {X} cs c = flat_map-append (λ (c : List X). c) cs (c ∷ []) ∙ ap (λ (xs : List X). joined cs ++ xs) (append-nil c)

pub length-range : {X : Type 0} (xs : List X) (start end : ℕ) → start ≤ end → end ≤ length xs → length (slice_range xs start end) ≡ end - start
length-range xs start end le within = omega (arith, length-take-le (end - start) (drop start xs) (omega (arith, length-drop start xs, le, within)))

pub take-range : {X : Type 0} (xs : List X) (start end : ℕ) → start ≤ end → take start xs ++ slice_range xs start end ≡ take end xs
take-range xs start end le =
    let all : start + (end - start) ≡ end = omega (arith, le) in
    sym (take-add start (end - start) xs) ∙ ap (λ (n : ℕ). take n xs) all

-- ---- the first elements

-- the first elements, so many, are k full chunks and the first j elements of the next one
pub record EndsAt {X : Type 0} (size : ℕ) (chunks : List (List X)) (k j len : ℕ) : Type 0 where
  pub full : AreFull size (take k chunks)
  pub chunk : k ≤ length chunks
  pub place : j ≤ length (get_or chunks k [])
  pub small : length (get_or chunks k []) ≤ size
  pub counted : length (joined (take k chunks)) + j ≡ len
  pub takes : take len (joined chunks) ≡ joined (take k chunks) ++ take j (get_or chunks k [])

ends-first : {X : Type 0} (size : ℕ) (c : List X) (cs : List (List X)) (j len : ℕ) → length c ≤ size → j ≤ length c → len ≡ j → EndsAt size (c ∷ cs) zero j len
ends-first size c cs j len small le is = record {
  full = tt;
  chunk = omega arith;
  place = le;
  small = small;
  counted = omega (arith, is);
  takes = ap (λ (n : ℕ). take n (c ++ joined cs)) is ∙ take-append-le j c (joined cs) le;
}

ends-next : {X : Type 0} (size : ℕ) (c : List X) (cs : List (List X)) (k j len : ℕ) → length c ≡ size → size ≤ len → EndsAt size cs k j (len - size) → EndsAt size (c ∷ cs) (suc k) j len
ends-next {X} size c cs k j len long le ends =
    let all : length c + (len - size) ≡ len = omega (arith, long, le) in
    record {
      full = (long, ends.full);
      chunk = omega (arith, ends.chunk);
      place = ends.place;
      small = ends.small;
      counted = omega (arith, length-append c (joined (take k cs)), ends.counted, long, le);
      takes =
          ap (λ (n : ℕ). take n (c ++ joined cs)) (sym all)
          ∙ take-append-add c (joined cs) (len - size)
          ∙ ap (λ (xs : List X). c ++ xs) ends.takes
          ∙ sym (append_assoc c (joined (take k cs)) (take j (get_or cs k [])));
    }

ends-none : {X : Type 0} (size j len : ℕ) → j ≡ 0 → len ≡ 0 → EndsAt {X = X} size [] zero j len
ends-none {X} size j len j_is is = record {
  full = tt;
  chunk = omega arith;
  place = omega (arith, j_is);
  small = omega arith;
  counted = omega (arith, j_is, is);
  takes = take-nil {A = X} len ∙ sym (take-nil {A = X} j);
}

pub ends-at : {X : Type 0} (size : ℕ) (chunks : List (List X)) (k j len : ℕ) → AreChunks size chunks → j < size → len ≡ k * size + j → len ≤ length (joined chunks) → EndsAt size chunks k j len
ends-at size [] zero j len are few is le = ends-none size j len (omega (arith, is, zero-mul size, le)) (omega (arith, le))
ends-at size [] (suc k) j len are few is le = absurd (omega (arith, is, suc-mul k size, le, few))
ends-at size (c ∷ []) zero j len are few is le =
    ends-first size c [] j len are (omega (arith, is, zero-mul size, le, length-append c [])) (omega (arith, is, zero-mul size))
ends-at size (c ∷ []) (suc zero) j len are few is le =
    let long : length c ≡ size = omega (arith, is, suc-mul zero size, zero-mul size, le, are, length-append c []) in
    ends-next size c [] zero j len long (omega (arith, is, suc-mul zero size, zero-mul size))
    (ends-none size j (len - size) (omega (arith, is, suc-mul zero size, zero-mul size, le, are, length-append c [])) (omega (arith, le, long, length-append c [])))
ends-at size (c ∷ []) (suc (suc k)) j len are few is le =
    absurd (omega (arith, is, suc-mul (suc k) size, suc-mul k size, le, are, few, length-append c []))
ends-at size (c ∷ d ∷ cs) zero j len are few is le =
    ends-first size c (d ∷ cs) j len (omega (arith, are.0)) (omega (arith, few, are.0)) (omega (arith, is, zero-mul size))
ends-at size (c ∷ d ∷ cs) (suc k) j len are few is le =
    ends-next size c (d ∷ cs) k j len are.0 (omega (arith, is, suc-mul k size))
    (ends-at size (d ∷ cs) k j (len - size) are.1 few (omega (arith, is, suc-mul k size)) (omega (arith, le, is, suc-mul k size, are.0, length-append c (joined (d ∷ cs)))))

-- an element after the first ones
pub joined-appended : {X : Type 0} (size : ℕ) (chunks : List (List X)) (k j len : ℕ) (x : X) → EndsAt size chunks k j len →
    joined (take k chunks ++ (take j (get_or chunks k []) ++ x ∷ []) ∷ []) ≡ take len (joined chunks) ++ x ∷ []
joined-appended {X} size chunks k j len x ends =
    joined-push (take k chunks) (take j (get_or chunks k []) ++ x ∷ [])
    ∙ sym (append_assoc (joined (take k chunks)) (take j (get_or chunks k [])) (x ∷ []))
    ∙ ap (λ (xs : List X). xs ++ x ∷ []) (sym ends.takes)

-- another last chunk that begins as that one did
pub joined-begins : {X : Type 0} (size : ℕ) (chunks : List (List X)) (k j len : ℕ) (c : List X) → EndsAt size chunks k j len →
    take j c ≡ take j (get_or chunks k []) → take len (joined (take k chunks ++ c ∷ [])) ≡ take len (joined chunks)
joined-begins {X} size chunks k j len c ends same =
    let first = joined (take k chunks) in
    ap (λ (xs : List X). take len xs) (joined-push (take k chunks) c)
    ∙ ap (λ (n : ℕ). take n (first ++ c)) (sym ends.counted)
    ∙ take-append-add first c j
    ∙ ap (λ (xs : List X). first ++ xs) same
    ∙ sym ends.takes
