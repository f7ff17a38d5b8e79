-- Every view, one after another.
use Rattle.std.proofs.Common.{◌≡◌, ◌≢◌, ℕ, zero, suc, ◌+◌, ◌<◌, ◌≤◌, Bool, true, false, List, [], ◌∷◌, ◌++◌, length, map, take, drop, get_or, set, refl, sym, ap, ◌∙◌, subst, length-set, arith}
use Rattle.std.specs.Prelude.{nat_eq, nat_lt}
use Rattle.std.specs.List.{All}
use Rattle.std.proofs.lemmas.List.{append-nil, get_or_default, get_or-set_other}
use Rattle.std.proofs.lemmas.Bool.{eqb-false, eqb-true, ltb-false, ltb-true}
use Rattle.display_map.specs.Events.{Event}
use Rattle.display_map.specs.Replay.{History, appended, is_settled, present_of}
use Rattle.split_views.specs.Views.{appended_in, history_of}
use Rattle.split_views.specs.Wrapping.{HasBegun, HasWrapped, IsIdle, after_runs}

abbrev unopened : History
unopened = record { opening = []; events = [] }

-- what is so of each view is so of each element
pub all-of : (P : History → Type 0) (hs : List History) → ((view : ℕ) → view < length hs → P (history_of hs view)) → All P hs
all-of P hs each k d lt = subst P (get_or_default hs k unopened d lt) (each k lt)

-- ---- the same events in each of the first views

abbrev pub first-more : List Event → ℕ → List History → List History
first-more es n hs = map (λ h. appended h es) (take n hs) ++ drop n hs

pub all-more : (es : List Event) (hs : List History) → first-more es (length hs) hs ≡ map (λ h. appended h es) hs
all-more es [] = refl
all-more es (h ∷ hs) = ap (λ l. appended h es ∷ l) (all-more es hs)

pub next-more : (es : List Event) (n : ℕ) (hs : List History) → n < length hs
    → appended_in (first-more es n hs) n es ≡ first-more es (n + 1) hs
next-more es n [] lt = absurd (omega arith)
next-more es zero (h ∷ hs) lt = refl
next-more es (suc n) (h ∷ hs) lt =
    let same : suc (n + 1) ≡ suc n + 1 = omega arith in
    ap (λ l. appended h es ∷ l) (next-more es n hs (omega arith)) ∙ ap (λ k. first-more es k (h ∷ hs)) same

-- the next one is as it was
pub next-as-was : (es : List Event) (n : ℕ) (hs : List History) → n < length hs → history_of (first-more es n hs) n ≡ history_of hs n
next-as-was es n [] lt = absurd (omega arith)
next-as-was es zero (h ∷ hs) lt = refl
next-as-was es (suc n) (h ∷ hs) lt = next-as-was es n hs (omega arith)

pub as-many-more : (es : List Event) (n : ℕ) (hs : List History) → length (first-more es n hs) ≡ length hs
as-many-more es zero hs = refl
as-many-more es (suc n) [] = refl
as-many-more es (suc n) (h ∷ hs) = ap suc (as-many-more es n hs)

-- ---- the first views are settled

-- so many views are settled, the others are as they were, and no job of any is out
pub record AreFirst (n : ℕ) (old now : List History) : Type 0 where
  pub count : length now ≡ length old
  pub wrapped : (view : ℕ) → view < n → HasWrapped (history_of old view) (history_of now view)
  pub settled : (view : ℕ) → view < n → is_settled (present_of (history_of now view)) ≡ true
  pub rest : (view : ℕ) → n ≤ view → history_of now view ≡ history_of old view
  pub idle : (view : ℕ) → view < length now → IsIdle (history_of now view)

pub none-first : (hs : List History) → All IsIdle hs → AreFirst 0 hs hs
none-first hs idle = record {
  count = refl;
  wrapped = λ view lt. absurd (omega (arith, lt));
  settled = λ view lt. absurd (omega (arith, lt));
  rest = λ view le. refl;
  idle = λ view lt. idle view unopened lt;
}

wrapped-begun : (h k : History) → HasWrapped h k → HasBegun h k
wrapped-begun h k wrapped =
    (wrapped.0, 0, wrapped.1 ∙ ap (λ es. record { opening = (after_runs wrapped.0 h).opening; events = es }) (sym (append-nil (after_runs wrapped.0 h).events)))

module _ (n : ℕ) (old now new : List History) (first : AreFirst n old now) (lt : n < length now) (only : new ≡ set now n (history_of new n)) where
  pub same-count : length new ≡ length old
  same-count = ap length only ∙ (length-set now n (history_of new n) ∙ first.count)

  other-stays : (view : ℕ) → view ≢ n → history_of new view ≡ history_of now view
  other-stays view apart = ap (λ l. get_or l view unopened) only ∙ get_or-set_other now n view (history_of new n) unopened apart

  -- what is so of the next one and of the others is so of all
  of-all : (P : ℕ → History → Type 0) → P n (history_of new n) → ((view : ℕ) → view ≢ n → P view (history_of now view))
      → (view : ℕ) → P view (history_of new view)
  of-all P own others view = by (nat_eq view n) refl
    where
      by : (b : Bool) → nat_eq view n ≡ b → P view (history_of new view)
      by true is = let same : view ≡ n = eqb-true view n is in subst (λ v. P v (history_of new v)) (sym same) own
      by false is = let apart = eqb-false view n is in subst (P view) (sym (other-stays view apart)) (others view apart)

  old-is : history_of now n ≡ history_of old n
  old-is = first.rest n (omega arith)

  -- a view that the next one comes after, or the next one, or one behind it
  pub began : (view : ℕ) → HasBegun (history_of now n) (history_of new n) → HasBegun (history_of old view) (history_of new view)
  began view own =
      of-all (λ v h. HasBegun (history_of old v) h) (subst (λ h. HasBegun h (history_of new n)) old-is own)
      (λ v apart. others v) view
    where
      others : (v : ℕ) → HasBegun (history_of old v) (history_of now v)
      others v = by (nat_lt v n) refl
        where
          by : (b : Bool) → nat_lt v n ≡ b → HasBegun (history_of old v) (history_of now v)
          by true is = wrapped-begun (history_of old v) (history_of now v) (first.wrapped v (ltb-true v n is))
          by false is = wrapped-begun (history_of old v) (history_of now v)
              (0, first.rest v (ltb-false v n is))

  pub wrapped-all : HasWrapped (history_of now n) (history_of new n) → (view : ℕ) → HasWrapped (history_of old view) (history_of new view)
  wrapped-all own view =
      of-all (λ v h. HasWrapped (history_of old v) h) (subst (λ h. HasWrapped h (history_of new n)) old-is own)
      (λ v apart. others v) view
    where
      others : (v : ℕ) → HasWrapped (history_of old v) (history_of now v)
      others v = by (nat_lt v n) refl
        where
          by : (b : Bool) → nat_lt v n ≡ b → HasWrapped (history_of old v) (history_of now v)
          by true is = first.wrapped v (ltb-true v n is)
          by false is = (0, first.rest v (ltb-false v n is))

  pub idle-all : IsIdle (history_of new n) → (view : ℕ) → view < length new → IsIdle (history_of new view)
  idle-all own view less =
      of-all (λ v h. v < length now → IsIdle h) (λ _. own) (λ v apart less. first.idle v less) view
      (omega (arith, less, same-count, first.count))

  -- the next one is settled
  pub next-first : HasWrapped (history_of now n) (history_of new n) → IsIdle (history_of new n)
      → is_settled (present_of (history_of new n)) ≡ true → AreFirst (n + 1) old new
  next-first wrapped idle settled = record {
    count = same-count;
    wrapped = λ view less. wrapped-all wrapped view;
    settled = λ view less.
        of-all (λ v h. v < n + 1 → is_settled (present_of h) ≡ true) (λ _. settled)
        (λ v apart below. first.settled v (omega (arith, apart, below))) view less;
    rest = λ view le. other-stays view (λ same. omega (arith, same, le)) ∙ first.rest view (omega (arith, le));
    idle = idle-all idle;
  }
