-- The events of a batch, from its last splice to its first.
use Rattle.std.proofs.Common.{◌≡◌, ℕ, ◌+◌, ◌-◌, ◌<◌, ◌≤◌, zero, suc, cond, Bool, true, false, List, [], ◌∷◌, ◌++◌, length, map, drop, get_or, refl, sym, ap, ◌∙◌, arith, append_assoc, append-nil, length-append}
use Rattle.std.proofs.lemmas.List.{length-map, map-append, drop_all, drop_more}
use Rattle.display_sheet.specs.declared.change.Splice.{Splice}
use Rattle.display_sheet.specs.Changes.{replacement}
use Rattle.display_map.specs.Events.{Event, Did}
use Rattle.display_sheet.specs.Changes.{batch, is_operation}
use Rattle.display_map.specs.Splicing.{did_events}
use Rattle.display_map.proofs.Batches.{batch-cons}

pub did-cons : (s : Splice) (splices : List Splice) → did_events (s ∷ splices) ≡ did_events splices ++ cond (is_operation s) (Did (replacement s) ∷ []) []
did-cons s splices =
    ap (map Did) (batch-cons s splices)
    ∙ map-append Did (batch splices) (cond (is_operation s) (replacement s ∷ []) [])
    ∙ go (is_operation s) where
      go : (b : Bool) → did_events splices ++ map Did (cond b (replacement s ∷ []) []) ≡ did_events splices ++ cond b (Did (replacement s) ∷ []) []
      go true = refl
      go false = refl

pub one_before : (splices : List Splice) (i : ℕ) (s : Splice) → 0 < i → i ≤ length splices → s ≡ get_or splices (i - 1) s → drop (i - 1) splices ≡ s ∷ drop i splices
one_before splices i s some le is =
    let next : i - 1 + 1 ≡ i = omega arith in
    drop_more splices (i - 1) s (omega arith) ∙ (λ k. sym is k ∷ drop (next k) splices)

pub did-pushed : (old journal journal' : List Event) (splices : List Splice) (i : ℕ) (s : Splice) → 0 < i → i ≤ length splices →
    s ≡ get_or splices (i - 1) s → is_operation s ≡ true → journal ≡ old ++ did_events (drop i splices) → journal' ≡ journal ++ Did (replacement s) ∷ [] →
    journal' ≡ old ++ did_events (drop (i - 1) splices)
did-pushed old journal journal' splices i s some le is op before pushed =
    pushed
    ∙ ap (λ (l : List Event). l ++ Did (replacement s) ∷ []) before
    ∙ append_assoc old (did_events (drop i splices)) (Did (replacement s) ∷ [])
    ∙ ap (λ (l : List Event). old ++ l)
    (ap (λ (b : Bool). did_events (drop i splices) ++ cond b (Did (replacement s) ∷ []) []) (sym op)
    ∙ sym (did-cons s (drop i splices))
    ∙ ap did_events (sym (one_before splices i s some le is)))

pub did-passed : (old journal : List Event) (splices : List Splice) (i : ℕ) (s : Splice) → 0 < i → i ≤ length splices →
    s ≡ get_or splices (i - 1) s → is_operation s ≡ false → journal ≡ old ++ did_events (drop i splices) →
    journal ≡ old ++ did_events (drop (i - 1) splices)
did-passed old journal splices i s some le is op before =
    before
    ∙ ap (λ (l : List Event). old ++ l)
    (sym (append-nil (did_events (drop i splices)))
    ∙ ap (λ (b : Bool). did_events (drop i splices) ++ cond b (Did (replacement s) ∷ []) []) (sym op)
    ∙ sym (did-cons s (drop i splices))
    ∙ ap did_events (sym (one_before splices i s some le is)))

length-batch : (s : Splice) (splices : List Splice) → length (batch (s ∷ splices)) ≡ length (batch splices) + cond (is_operation s) 1 0
length-batch s splices = ap length (batch-cons s splices) ∙ length-append (batch splices) (cond (is_operation s) (replacement s ∷ []) []) ∙ ap (λ (n : ℕ). length (batch splices) + n) (go (is_operation s)) where
  go : (b : Bool) → length (cond b (replacement s ∷ []) []) ≡ cond b 1 0
  go true = refl
  go false = refl

batch-le : (splices : List Splice) (k : ℕ) → length (batch (drop k splices)) ≤ length (batch splices)
batch-le splices zero = omega arith
batch-le [] (suc k) = omega arith
batch-le (s ∷ splices) (suc k) = omega (arith, batch-le splices k, length-batch s splices)

pub room_for_one : (old journal : List Event) (splices : List Splice) (i : ℕ) (s : Splice) → 0 < i → i ≤ length splices →
    s ≡ get_or splices (i - 1) s → is_operation s ≡ true → journal ≡ old ++ did_events (drop i splices) →
    length journal + 1 ≤ length old + length (batch splices)
room_for_one old journal splices i s some le is op before =
    omega (
      arith,
      ap length before,
      length-append old (did_events (drop i splices)),
      length-map (batch (drop i splices)) Did,
      batch-le splices (i - 1),
      ap (λ (l : List Splice). length (batch l)) (one_before splices i s some le is),
      length-batch s (drop i splices),
      ap {B = ℕ} (λ (b : Bool). cond b 1 0) op,
    )

pub did-none : (old : List Event) (splices : List Splice) (i : ℕ) → i ≡ length splices → old ≡ old ++ did_events (drop i splices)
did-none old splices i e = sym (append-nil old) ∙ ap (λ (l : List Splice). old ++ did_events l) (sym (drop_all i splices (omega arith)))

-- a batch has at most one operation for each splice
pub batch-le-length : (splices : List Splice) → length (batch splices) ≤ length splices
batch-le-length [] = omega arith
batch-le-length (s ∷ splices) = omega (arith, length-batch s splices, batch-le-length splices, go (is_operation s)) where
  go : (b : Bool) → cond b 1 0 ≤ 1
  go true = omega arith
  go false = omega arith
