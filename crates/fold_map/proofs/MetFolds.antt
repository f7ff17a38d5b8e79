-- The joined folds that a change meets, from where its ends cut their list.
use Rattle.std.proofs.Common.{◌≡◌, ℕ, zero, suc, ◌+◌, ◌-◌, ◌<◌, ◌≤◌, Bool, true, false, cond, nat_le, min, max, List, [], ◌∷◌, ◌++◌, length, take, drop, get_or, Option, Some, None, refl, sym, ap, ◌∙◌, subst, inl, inr, ◌⊎◌, arith, append_assoc, length-append}
use Rattle.std.specs.List.{All, slice_get}
use Rattle.std.proofs.lemmas.Bool.{cases_lt}
use Rattle.std.proofs.lemmas.Bool.Decides.{nat_tests}
use Rattle.std.proofs.lemmas.List.{drop-drop, get_or-drop, get_or-take, length-drop, length-take-le, take-append-drop, take_at}
use Rattle.std.proofs.lemmas.List.Elements.{All-cons, All-head, All-nil, All-tail}
use Rattle.cell_units.specs.Record.{Fold}
use Rattle.joined_folds.specs.declared.joined_fold.JoinedFold.{JoinedFold}
use Rattle.joined_folds.specs.JoinedLists.{AreAllJoined, AreJoined, first_start, last_end}
use Rattle.joined_folds.specs.Windows.{AreParted, moved_on}
use Rattle.joined_folds.proofs.JoinedLists.{joined-back, joined-front, joined-order}
use Rattle.joined_folds.proofs.Windows.{last-bound}
use Rattle.splice_tree.proofs.Passing.{drop-found, drop-past}
use Rattle.fold_map.specs.declared.cut.Cut.{Cut}
use Rattle.fold_map.specs.declared.met.Change.{Change}
use Rattle.fold_map.specs.declared.met.Met.{Met}
use Rattle.fold_map.specs.declared.met.MetEnd.{MetEnd}
use Rattle.fold_map.specs.Cuts.{IsCut}
use Rattle.fold_map.specs.Met.{IsMetBy, end_met, start_met}
use Rattle.fold_map.proofs.Cuts.{joined-drop}
use Rattle.fold_map.proofs.Positions.{last-more}

-- what is made of the two cuts
abbrev pub met_by : Change → Cut → Cut → Met
met_by c a b =
    let e = end_met b.index c.end b.next in
    record {
      first = a.index;
      last = e.index;
      base = a.base;
      window = record { from = start_met c.start a.next; start = c.start; end = c.last; to = moved_on c.end c.last e.offset };
    }

All-append : (P : JoinedFold → Type 0) (xs ys : List JoinedFold) → All P xs → All P ys → All P (xs ++ ys)
All-append P [] ys a b = b
All-append P (x ∷ xs) ys a b = All-cons P x (xs ++ ys) (All-head P x xs a) (All-append P xs ys (All-tail P x xs a) b)

All-front : (P : JoinedFold → Type 0) (xs ys : List JoinedFold) → All P (xs ++ ys) → All P xs
All-front P [] ys a = All-nil P
All-front P (x ∷ xs) ys a = All-cons P x xs (All-head P x (xs ++ ys) a) (All-front P xs ys (All-tail P x (xs ++ ys) a))

All-back : (P : JoinedFold → Type 0) (xs ys : List JoinedFold) → All P (xs ++ ys) → All P ys
All-back P [] ys a = a
All-back P (x ∷ xs) ys a = All-back P xs ys (All-tail P x (xs ++ ys) a)

module _ (folds : List Fold) where
  -- each starts before it ends
  starts-before : (from : ℕ) (js : List JoinedFold) (to b : ℕ) → AreJoined folds from js to → All (λ j. j.end ≤ b) js → All (λ j. j.start ≤ b) js
  starts-before from [] to b a h = All-nil (λ (j : JoinedFold). j.start ≤ b)
  starts-before from (j ∷ js) to b a h =
      let e = All-head (λ (i : JoinedFold). i.end ≤ b) j js h in
      All-cons (λ (i : JoinedFold). i.start ≤ b) j js (omega (arith, e, a.0.some)) (starts-before j.end js to b a.1 (All-tail (λ (i : JoinedFold). i.end ≤ b) j js h))

  -- and not before those before it end
  starts-behind : (from : ℕ) (js : List JoinedFold) (to b : ℕ) → AreJoined folds from js to → b < from → All (λ j. b < j.start) js
  starts-behind from [] to b a l = All-nil (λ (j : JoinedFold). b < j.start)
  starts-behind from (j ∷ js) to b a l = All-cons (λ (i : JoinedFold). b < i.start) j js (omega (arith, l, a.0.order)) (starts-behind j.end js to b a.1 (omega (arith, l, a.0.order, a.0.some)))

  -- ---- three parts

  module _ (c : Change) (n : ℕ) (front mid rest : List JoinedFold) (p : ℕ) (p-is : p ≡ last_end 0 front) (order : c.start ≤ c.end)
      (are : AreJoined folds p (mid ++ rest) n) (mid-are : AreJoined folds p mid (last_end p mid)) (rest-are : AreJoined folds (last_end p mid) rest n)
      (front-by : All (λ j. j.end ≤ c.start) front) (behind : All (λ j. c.start < j.end) (mid ++ rest)) (mid-by : All (λ j. j.end ≤ c.end) mid) (rest-behind : All (λ j. c.end < j.end) rest) where
    p-by : p ≤ c.start
    p-by = let x = last-bound 0 front c.start (omega arith) front-by in omega (arith, p-is, x)

    -- the next one after the middle starts by the change's end
    module _ (j : JoinedFold) (more : List JoinedFold) (rest-is : rest ≡ j ∷ more) (near : j.start ≤ c.end) where
      met-parted : AreParted c.start c.end front (mid ++ j ∷ []) more
      met-parted =
          let r : All (λ i. c.end < i.end) (j ∷ more) = subst (All (λ (i : JoinedFold). c.end < i.end)) rest-is rest-behind in
          let w : AreJoined folds (last_end p mid) (j ∷ more) n = subst (λ (l : List JoinedFold). AreJoined folds (last_end p mid) l n) rest-is rest-are in
          let far = All-head (λ (i : JoinedFold). c.end < i.end) j more r in
          record {
            front = front-by;
            met_ends = All-append (λ i. c.start < i.end) mid (j ∷ []) (All-front (λ i. c.start < i.end) mid rest behind) (All-cons (λ (i : JoinedFold). c.start < i.end) j [] (omega (arith, far, order)) (All-nil (λ (i : JoinedFold). c.start < i.end)));
            met_starts = All-append (λ i. i.start ≤ c.end) mid (j ∷ []) (starts-before p mid (last_end p mid) c.end mid-are mid-by) (All-cons (λ (i : JoinedFold). i.start ≤ c.end) j [] near (All-nil (λ (i : JoinedFold). i.start ≤ c.end)));
            back = starts-behind j.end more n c.end w.1 far;
          }

      last-is : max c.end (last_end c.end (mid ++ j ∷ [])) ≡ j.end
      last-is =
          let far = All-head (λ (i : JoinedFold). c.end < i.end) j more (subst (All (λ (i : JoinedFold). c.end < i.end)) rest-is rest-behind) in
          omega (arith, last-more c.end mid j, far)

    -- it starts after that, or there is none
    module _ (far : All (λ i. c.end < i.start) rest) where
      mid-parted : AreParted c.start c.end front mid rest
      mid-parted = record {
        front = front-by;
        met_ends = All-front (λ i. c.start < i.end) mid rest behind;
        met_starts = starts-before p mid (last_end p mid) c.end mid-are mid-by;
        back = far;
      }

      end-is : max c.end (last_end c.end mid) ≡ c.end
      end-is = let x = last-bound c.end mid c.end (omega arith) mid-by in omega (arith, x)

-- ---- from the cuts

slice-first : (i : ℕ) (js : List JoinedFold) (m : JoinedFold) (more : List JoinedFold) → drop i js ≡ m ∷ more → slice_get js i ≡ Some m
slice-first zero [] m more e = absurd (cc e)
slice-first zero (j ∷ js) m more e = let h : j ≡ m = cc e in ap {B = Option JoinedFold} (λ (x : JoinedFold). Some x) h
slice-first (suc i) [] m more e = absurd (cc e)
slice-first (suc i) (j ∷ js) m more e = slice-first i js m more e

near-end : (index end : ℕ) (j : JoinedFold) → j.start ≤ end → end_met index end (Some j) ≡ record { index = index + 1; offset = j.end }
near-end index end j l = ap (λ (b : Bool). cond b (record { index = index + 1; offset = j.end }) (record { index = index; offset = end })) (is j.start l) where
  is : (s : ℕ) → s ≤ end → nat_le s end ≡ true
  is s l = grind (arith, nat_tests)

far-end : (index end : ℕ) (j : JoinedFold) → end < j.start → end_met index end (Some j) ≡ record { index = index; offset = end }
far-end index end j l = ap (λ (b : Bool). cond b (record { index = index + 1; offset = j.end }) (record { index = index; offset = end })) (is j.start l) where
  is : (s : ℕ) → end < s → nat_le s end ≡ false
  is s l = grind (arith, nat_tests)

module _ (folds : List Fold) (n : ℕ) (js : List JoinedFold) (all : AreAllJoined folds n js) (c : Change) (a b : Cut) (ca : IsCut js c.start a) (cb : IsCut js c.end b) (order : c.start ≤ c.end) where
  -- no fewer end by the end than by the start
  cuts-order : a.index ≤ b.index
  cuts-order = go (cases_lt b.index a.index) where
    go : (b.index < a.index) ⊎ (a.index ≤ b.index) → a.index ≤ b.index
    go (inr x) = x
    go (inl x) =
        let d : JoinedFold = record { start = 0; end = 0 } in
        let w = ca.within in
        let long : length (take a.index js) ≡ a.index = length-take-le a.index js w in
        let rest : length (drop b.index js) ≡ length js - b.index = length-drop b.index js in
        let one = ca.ended b.index d (omega (arith, x, long)) in
        let two = cb.rest 0 d (omega (arith, x, rest, w)) in
        let first : get_or (take a.index js) b.index d ≡ get_or js b.index d = get_or-take a.index js b.index d x in
        let second : get_or (drop b.index js) 0 d ≡ get_or js (b.index + 0) d = get_or-drop b.index js 0 d in
        let third : get_or js (b.index + 0) d ≡ get_or js b.index d = ap (λ k. get_or js k d) (omega arith) in
        let same : (get_or (take a.index js) b.index d).end ≡ (get_or (drop b.index js) 0 d).end = ap (λ (j : JoinedFold). j.end) (first ∙ sym third ∙ sym second) in
        omega (arith, one, two, same, order)

  abbrev front : List JoinedFold
  front = take a.index js

  abbrev mid : List JoinedFold
  mid = take (b.index - a.index) (drop a.index js)

  abbrev rest : List JoinedFold
  rest = drop b.index js

  abbrev p : ℕ
  p = last_end 0 front

  behind-is : drop a.index js ≡ mid ++ rest
  behind-is =
      let o = cuts-order in
      let there : a.index + (b.index - a.index) ≡ b.index = omega arith in
      sym (take-append-drop (b.index - a.index) (drop a.index js)) ∙ ap (λ l. mid ++ l) (drop-drop (b.index - a.index) a.index js ∙ ap (λ k. drop k js) there)

  parts-are : js ≡ front ++ (mid ++ rest)
  parts-are = sym (take-append-drop a.index js) ∙ ap (λ l. front ++ l) behind-is

  front-long : length front ≡ a.index
  front-long = length-take-le a.index js ca.within

  mid-long : length mid ≡ b.index - a.index
  mid-long = let w = cb.within in length-take-le (b.index - a.index) (drop a.index js) (omega (arith, length-drop a.index js, w))

  ended-are : take b.index js ≡ front ++ mid
  ended-are =
      let o = cuts-order in
      ap (take b.index) (parts-are ∙ sym (append_assoc front mid rest))
      ∙ take_at (front ++ mid) rest b.index (omega (arith, length-append front mid, front-long, mid-long))

  are : AreJoined folds p (mid ++ rest) n
  are = subst (λ (l : List JoinedFold). AreJoined folds p l n) behind-is (joined-drop folds 0 js n a.index all.1)

  mid-are : AreJoined folds p mid (last_end p mid)
  mid-are = joined-front folds p mid rest n are

  rest-are : AreJoined folds (last_end p mid) rest n
  rest-are = joined-back folds p mid rest n are

  behind : All (λ j. c.start < j.end) (mid ++ rest)
  behind = subst (All (λ (j : JoinedFold). c.start < j.end)) behind-is ca.rest

  mid-by : All (λ j. j.end ≤ c.end) mid
  mid-by = All-back (λ j. j.end ≤ c.end) front mid (subst (All (λ (j : JoinedFold). j.end ≤ c.end)) ended-are cb.ended)

  -- the first that the change meets
  first-of_mid : (m : JoinedFold) (ms : List JoinedFold) → mid ≡ m ∷ ms → a.next ≡ Some m
  first-of_mid m ms e = ca.next ∙ slice-first a.index js m (ms ++ rest) (behind-is ∙ ap (λ l. l ++ rest) e)

  none-in_mid : mid ≡ [] → a.next ≡ b.next
  none-in_mid e =
      let same : a.index ≡ b.index = let o = cuts-order in omega (arith, ap length e, mid-long) in
      ca.next ∙ ap (slice_get js) same ∙ sym cb.next

  start-mid : (next : Option JoinedFold) → b.next ≡ next → start_met c.start next ≡ c.start → start_met c.start a.next ≡ min c.start (first_start c.start mid)
  start-mid next e s = go mid refl where
    go : (l : List JoinedFold) → mid ≡ l → start_met c.start a.next ≡ min c.start (first_start c.start l)
    go [] h = ap (start_met c.start) (none-in_mid h ∙ e) ∙ s ∙ omega arith
    go (m ∷ ms) h = ap (start_met c.start) (first-of_mid m ms h)

  start-near : (j : JoinedFold) → b.next ≡ Some j → start_met c.start a.next ≡ min c.start (first_start c.start (mid ++ j ∷ []))
  start-near j e = go mid refl where
    go : (l : List JoinedFold) → mid ≡ l → start_met c.start a.next ≡ min c.start (first_start c.start (l ++ j ∷ []))
    go [] h = ap (start_met c.start) (none-in_mid h ∙ e)
    go (m ∷ ms) h = ap (start_met c.start) (first-of_mid m ms h)

  -- the middle alone is met
  mid-met : (next : Option JoinedFold) → b.next ≡ next → start_met c.start next ≡ c.start → end_met b.index c.end next ≡ record { index = b.index; offset = c.end } → All (λ j. c.end < j.start) rest
      → IsMetBy js c (met_by c a b)
  mid-met next e s ends far =
      let index : (end_met b.index c.end b.next).index ≡ b.index = ap (λ o. (end_met b.index c.end o).index) e ∙ ap (λ (m : MetEnd). m.index) ends in
      let offset : (end_met b.index c.end b.next).offset ≡ c.end = ap (λ o. (end_met b.index c.end o).offset) e ∙ ap (λ (m : MetEnd). m.offset) ends in
      let from = start-mid next e s in
      let to = end-is folds c n front mid rest p refl order are mid-are rest-are ca.ended behind mid-by cb.rest far in
      let o = cuts-order in
      record {
        front = front;
        met = mid;
        back = rest;
        parts = parts-are;
        parted = mid-parted folds c n front mid rest p refl order are mid-are rest-are ca.ended behind mid-by cb.rest far;
        first = sym front-long;
        last = omega (arith, index, front-long, mid-long);
        base = ca.base;
        window = λ i. record { from = from i; start = c.start; end = c.last; to = moved_on c.end c.last ((offset ∙ sym to) i) };
      }

  -- and the next one too
  near-met : (j : JoinedFold) (more : List JoinedFold) → b.next ≡ Some j → rest ≡ j ∷ more → j.start ≤ c.end → IsMetBy js c (met_by c a b)
  near-met j more e rest-is near =
      let ends = ap (end_met b.index c.end) e ∙ near-end b.index c.end j near in
      let index : (end_met b.index c.end b.next).index ≡ b.index + 1 = ap (λ (m : MetEnd). m.index) ends in
      let offset : (end_met b.index c.end b.next).offset ≡ j.end = ap (λ (m : MetEnd). m.offset) ends in
      let from = start-near j e in
      let to = last-is folds c n front mid rest p refl order are mid-are rest-are ca.ended behind mid-by cb.rest j more rest-is near in
      let o = cuts-order in
      record {
        front = front;
        met = mid ++ j ∷ [];
        back = more;
        parts = parts-are ∙ ap (λ l. front ++ (mid ++ l)) rest-is ∙ ap (λ l. front ++ l) (sym (append_assoc mid (j ∷ []) more));
        parted = met-parted folds c n front mid rest p refl order are mid-are rest-are ca.ended behind mid-by cb.rest j more rest-is near;
        first = sym front-long;
        last = omega (arith, index, front-long, mid-long, length-append mid (j ∷ []));
        base = ca.base;
        window = λ i. record { from = from i; start = c.start; end = c.last; to = moved_on c.end c.last ((offset ∙ sym to) i) };
      }

  pub met-found : IsMetBy js c (met_by c a b)
  met-found = go (slice_get js b.index) refl where
    go : (o : Option JoinedFold) → slice_get js b.index ≡ o → IsMetBy js c (met_by c a b)
    go None e = mid-met None (cb.next ∙ e) refl refl (subst (All (λ (j : JoinedFold). c.end < j.start)) (sym (drop-past js b.index e)) (All-nil (λ (j : JoinedFold). c.end < j.start)))
    go (Some j) e = at (cases_lt c.end j.start) where
      rest-is : rest ≡ j ∷ drop (suc b.index) js
      rest-is = drop-found js b.index j e

      at : (c.end < j.start) ⊎ (j.start ≤ c.end) → IsMetBy js c (met_by c a b)
      at (inr near) = near-met j (drop (suc b.index) js) (cb.next ∙ e) rest-is near
      at (inl far) =
          let w : AreJoined folds (last_end p mid) (j ∷ drop (suc b.index) js) n = subst (λ (l : List JoinedFold). AreJoined folds (last_end p mid) l n) rest-is rest-are in
          let starts = All-cons (λ (i : JoinedFold). c.end < i.start) j (drop (suc b.index) js) far (starts-behind folds j.end (drop (suc b.index) js) n c.end w.1 (omega (arith, far, w.0.some))) in
          mid-met (Some j) (cb.next ∙ e) (omega (arith, far, order)) (far-end b.index c.end j far) (subst (All (λ (i : JoinedFold). c.end < i.start)) (sym rest-is) starts)

  -- ---- what fits

  -- there are no more of them than bytes
  few : (from : ℕ) (is : List JoinedFold) (to : ℕ) → AreJoined folds from is to → from + length is ≤ to
  few from [] to a = omega (arith, a.0)
  few from (j ∷ is) to a = omega (arith, few j.end is to a.1, a.0.order, a.0.some)

  pub next-index : (j : JoinedFold) → b.next ≡ Some j → b.index + 1 ≤ n
  next-index j e =
      let here = drop-found js b.index j (sym cb.next ∙ e) in
      omega (arith, ap length here, length-drop b.index js, few 0 js n all.1)

  pub end-offset : c.end ≤ n → (c.end ≤ (end_met b.index c.end b.next).offset) × ((end_met b.index c.end b.next).offset ≤ n)
  end-offset u = go b.next refl where
    go : (o : Option JoinedFold) → b.next ≡ o → (c.end ≤ (end_met b.index c.end o).offset) × ((end_met b.index c.end o).offset ≤ n)
    go None e = (omega arith, u)
    go (Some j) e = at (cases_lt c.end j.start) where
      rest-is : rest ≡ j ∷ drop (suc b.index) js
      rest-is = drop-found js b.index j (sym cb.next ∙ e)

      at : (c.end < j.start) ⊎ (j.start ≤ c.end) → (c.end ≤ (end_met b.index c.end (Some j)).offset) × ((end_met b.index c.end (Some j)).offset ≤ n)
      at (inl far) = let o = ap (λ (m : MetEnd). m.offset) (far-end b.index c.end j far) in (omega (arith, o), omega (arith, o, u))
      at (inr near) =
          let o = ap (λ (m : MetEnd). m.offset) (near-end b.index c.end j near) in
          let w : AreJoined folds (last_end p mid) (j ∷ drop (suc b.index) js) n = subst (λ (l : List JoinedFold). AreJoined folds (last_end p mid) l n) rest-is rest-are in
          let past = All-head (λ (i : JoinedFold). c.end < i.end) j (drop (suc b.index) js) (subst (All (λ (i : JoinedFold). c.end < i.end)) rest-is cb.rest) in
          (omega (arith, o, past), omega (arith, o, joined-order folds j.end (drop (suc b.index) js) n w.1))
