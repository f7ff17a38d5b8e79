-- The steps by which stops are taken out, and moved edit by edit.
use Rattle.std.proofs.Common.{◌≡◌, ℕ, zero, suc, ◌+◌, ◌-◌, ◌<◌, ◌≤◌, true, List, [], ◌∷◌, ◌++◌, Some, length, map, take, drop, get_or, refl, sym, ap, subst, ◌∙◌, arith, add-one, inr}
use Rattle.std.specs.List.{All, slice_get}
use Rattle.std.proofs.lemmas.List.{take-append-drop}
use Rattle.mark_tree.proofs.Changing.{all-from_every, every-from_all}
use Rattle.mark_tree.proofs.Sorting.{Every}
use Rattle.cell_units.specs.declared.place.Bias.{Bias}
use Rattle.edit_patch.specs.declared.edit.Edit.{Edit}
use Rattle.edit_patch.specs.Fits.{added_count}
use Rattle.edit_patch.specs.Patch.{IsPatch, IsPatchFrom}
use Rattle.block_map.specs.Stops.{Stop, stands_before}
use Rattle.block_map.specs.inside.RowMoves.{AreClear, IsKeptStop, grown, moved_stop, own, shrunk}
use Rattle.block_map.specs.inside.StopLists.{AreRising, IsRowFor, MayBePut, StopsFit, with_stop, without_stop}
use Rattle.block_map.specs.inside.Without.{IsRising, without}
use Rattle.block_map.proofs.EditMoves.{stop_at}
use Rattle.block_map.proofs.LeftOut.{one-more, put-in}
use Rattle.block_map.proofs.StopCarries.{IsKeptFrom, clear-next, fits-less, grown-lines, grown-more, grown-next, rest-of, shrunk-less, shrunk-lines}
use Rattle.block_map.proofs.StopSizes.{fit-left, rise-left, row-for}

module _ {X : Type 0} where
  -- the item of an index that is there
  pub got : (xs : List X) (k : ℕ) (d : X) → k < length xs → slice_get xs k ≡ Some (get_or xs k d)
  got [] k d lt = absurd (omega (arith, lt))
  got (x ∷ xs) zero d lt = refl
  got (x ∷ xs) (suc k) d lt = got xs k d (omega (arith, lt))

  pub get-lt : (xs : List X) (k : ℕ) (x : X) → slice_get xs k ≡ Some x → k < length xs
  get-lt [] zero x e = absurd (cc)
  get-lt [] (suc k) x e = absurd (cc)
  get-lt (y ∷ ys) zero x e = omega arith
  get-lt (y ∷ ys) (suc k) x e = omega (arith, get-lt ys k x e)

  pub drop-get : (xs : List X) (k : ℕ) (x : X) → slice_get xs k ≡ Some x → drop k xs ≡ x ∷ drop (k + 1) xs
  drop-get xs k x e = go xs k e ∙ ap (λ (n : ℕ). x ∷ drop n xs) (sym (add-one k)) where
    go : (xs : List X) (k : ℕ) → slice_get xs k ≡ Some x → drop k xs ≡ x ∷ drop (suc k) xs
    go [] zero e = absurd (cc)
    go [] (suc k) e = absurd (cc)
    go (y ∷ ys) zero e = let f : y ≡ x = cc in ap (λ (z : X). z ∷ ys) f
    go (y ∷ ys) (suc k) e = go ys k e

  pub take-get : (xs : List X) (k : ℕ) (x : X) → slice_get xs k ≡ Some x → take (k + 1) xs ≡ take k xs ++ x ∷ []
  take-get xs k x e = ap (λ (n : ℕ). take n xs) (add-one k) ∙ go xs k e where
    go : (xs : List X) (k : ℕ) → slice_get xs k ≡ Some x → take (suc k) xs ≡ take k xs ++ x ∷ []
    go [] zero e = absurd (cc)
    go [] (suc k) e = absurd (cc)
    go (y ∷ []) zero e = let f : y ≡ x = cc in ap (λ (z : X). z ∷ []) f
    go (y ∷ z ∷ ys) zero e = let f : y ≡ x = cc in ap (λ (z : X). z ∷ []) f
    go (y ∷ ys) (suc k) e = ap (λ (l : List X). y ∷ l) (go ys k e)

  pub drop-all : (xs : List X) → drop (length xs) xs ≡ []
  drop-all [] = refl
  drop-all (x ∷ xs) = drop-all xs

  pub take-all : (xs : List X) → take (length xs) xs ≡ xs
  take-all [] = refl
  take-all (x ∷ xs) = ap (λ (l : List X). x ∷ l) (take-all xs)

  pub drop-none : (xs : List X) → drop 0 xs ≡ xs
  drop-none [] = refl
  drop-none (x ∷ xs) = refl

  pub take-none : (xs : List X) → take 0 xs ≡ []
  take-none [] = refl
  take-none (x ∷ xs) = refl

  pub without-none : (at : ℕ) (xs : List X) → without [] at xs ≡ xs
  without-none at [] = refl
  without-none at (x ∷ xs) = refl

map-map : {X Y Z : Type 0} (f : Y → Z) (g : X → Y) (xs : List X) → map f (map g xs) ≡ map (λ x. f (g x)) xs
map-map f g [] = refl
map-map f g (x ∷ xs) = ap (λ l. f (g x) ∷ l) (map-map f g xs)

map-same : {X Y : Type 0} (f g : X → Y) → ((x : X) → f x ≡ g x) → (xs : List X) → map f xs ≡ map g xs
map-same f g e [] = refl
map-same f g e (x ∷ xs) = λ i. e x i ∷ map-same f g e xs i

-- ---- taken out

rising-at : (from : ℕ) (bs : List ℕ) (i a : ℕ) → IsRising from bs → slice_get bs i ≡ Some a → IsRising (a + 1) (drop (i + 1) bs)
rising-at from bs i a r e = subst (λ (n : ℕ). IsRising (a + 1) (drop n bs)) (sym (add-one i)) (go from bs i r e) where
  go : (from : ℕ) (bs : List ℕ) (i : ℕ) → IsRising from bs → slice_get bs i ≡ Some a → IsRising (a + 1) (drop (suc i) bs)
  go from [] zero r e = absurd (cc)
  go from [] (suc i) r e = absurd (cc)
  go from (b ∷ bs) zero r e = let f : b ≡ a = cc in subst (λ (n : ℕ). IsRising (n + 1) bs) f r.1
  go from (b ∷ bs) (suc i) r e = go (b + 1) bs i r.1 e

-- Of the places from an index on the first is taken out of what is left without the others.
pub record TakenNext (places : List ℕ) (ss : List Stop) (i a : ℕ) : Type 0 where
  pub within : a < length (without (drop (i + 1) places) 0 ss)
  pub there : slice_get (without (drop (i + 1) places) 0 ss) a ≡ slice_get ss a
  pub rest : without_stop a (without (drop (i + 1) places) 0 ss) ≡ without (drop i places) 0 ss

pub taken-next : (places : List ℕ) (ss : List Stop) (i a : ℕ) → IsRising 0 places → slice_get places i ≡ Some a → a < length ss → TakenNext places ss i a
taken-next places ss i a rising e lt =
    let d : Stop = record { row = 0; lines = [] } in
    let next = one-more a a 0 (drop (i + 1) places) ss (omega arith) (rising-at 0 places i a rising e) lt in
    let z : a - 0 ≡ a = omega arith in
    let same : slice_get (without (drop (i + 1) places) 0 ss) a ≡ slice_get ss a = subst (λ (n : ℕ). slice_get (without (drop (i + 1) places) 0 ss) n ≡ slice_get ss n) z next.same in
    record {
      within = get-lt (without (drop (i + 1) places) 0 ss) a (get_or ss a d) (same ∙ got ss a d lt);
      there = same;
      rest =
          sym (ap (λ (l : List ℕ). without l 0 ss) (drop-get places i a e)
          ∙ next.rest
          ∙ ap (λ (n : ℕ). take n (without (drop (i + 1) places) 0 ss) ++ drop (n + 1) (without (drop (i + 1) places) 0 ss)) z);
    }

-- ---- moved edit by edit

pub ordered-at : (gap old new : ℕ) (es : List Edit) (i : ℕ) (e : Edit) → IsPatchFrom gap old new es → slice_get es i ≡ Some e → (e.old_start ≤ e.old_end) × (e.new_start ≤ e.new_end)
ordered-at gap old new [] zero e p is = absurd (cc)
ordered-at gap old new [] (suc i) e p is = absurd (cc)
ordered-at gap old new (d ∷ es) zero e p is = let f : d ≡ e = cc in let n = p.0 in subst (λ (e : Edit). (e.old_start ≤ e.old_end) × (e.new_start ≤ e.new_end)) f (n.old_order, n.new_order)
ordered-at gap old new (d ∷ es) (suc i) e p is = ordered-at 1 d.old_end d.new_end es i e p.1 is

module _ (bias : Bias) (es : List Edit) (p : IsPatch es) (ss : List Stop) (i : ℕ) (e : Edit) (is : slice_get es i ≡ Some e) where
  pub shrunk-next : map (moved_stop bias e.old_start e.old_end 0) (map (shrunk bias (drop (i + 1) es)) ss) ≡ map (shrunk bias (drop i es)) ss
  shrunk-next =
      map-map (moved_stop bias e.old_start e.old_end 0) (shrunk bias (drop (i + 1) es)) ss
      ∙ sym (ap (λ (l : List Edit). map (shrunk bias l) ss) (drop-get es i e is))

  pub shrunk-clear : All (IsKeptStop bias es) ss → AreClear bias e.old_start e.old_end (map (shrunk bias (drop (i + 1) es)) ss)
  shrunk-clear kept =
      all-from_every (λ (s : Stop). stands_before bias e.old_end s ≡ true → s.row ≤ e.old_start) (map (shrunk bias (drop (i + 1) es)) ss)
      (each ss (every-from_all (IsKeptStop bias es) ss kept)) where
        one : (s : Stop) → IsKeptStop bias es s → stands_before bias e.old_end (shrunk bias (drop (i + 1) es) s) ≡ true → (shrunk bias (drop (i + 1) es) s).row ≤ e.old_start
        one s k before =
            let row = k.0 in
            let j = k.1 in
            let there : s ≡ stop_at (row + own bias) s.lines = ap (λ (r : ℕ). stop_at r s.lines) k.2.0 in
            let r = rest-of es 0 0 0 row i p (inr (omega arith, (j, k.2.1))) in
            let next = drop-get es i e is in
            let found = clear-next bias e (drop (i + 1) es) r.gap r.old r.new row s.lines (subst (IsPatchFrom r.gap r.old r.new) next r.patch) (subst (λ (l : List Edit). IsKeptFrom r.old r.new l row) next r.kept)
            (sym (ap (λ (s : Stop). stands_before bias e.old_end (shrunk bias (drop (i + 1) es) s)) there) ∙ before) in
            subst (λ (s : Stop). (shrunk bias (drop (i + 1) es) s).row ≤ e.old_start) (sym there) found

        each : (ss : List Stop) → Every (IsKeptStop bias es) ss → Every (λ (s : Stop). stands_before bias e.old_end s ≡ true → s.row ≤ e.old_start) (map (shrunk bias (drop (i + 1) es)) ss)
        each [] k = tt
        each (s ∷ ss) k = (one s k.0, each ss k.1)

  pub shrunk-fits : AreRising 0 ss → StopsFit ss → StopsFit (map (moved_stop bias e.old_start e.old_end 0) (map (shrunk bias (drop (i + 1) es)) ss))
  shrunk-fits rise fit =
      let same : map (λ (s : Stop). s) ss ≡ ss = map-id ss in
      subst StopsFit (sym shrunk-next)
      (fits-less (shrunk bias (drop i es)) (λ (s : Stop). s) (shrunk-lines bias (drop i es)) (λ s. refl) (shrunk-less bias (drop i es)) ss (subst (AreRising 0) (sym same) rise) (subst StopsFit (sym same) fit)) where
        map-id : (ss : List Stop) → map (λ (s : Stop). s) ss ≡ ss
        map-id [] = refl
        map-id (s ∷ ss) = ap (λ (l : List Stop). s ∷ l) (map-id ss)

  pub grown-step : map (moved_stop bias e.new_start e.new_start (added_count e)) (map (grown bias (take i es)) ss) ≡ map (grown bias (take (i + 1) es)) ss
  grown-step =
      map-map (moved_stop bias e.new_start e.new_start (added_count e)) (grown bias (take i es)) ss
      ∙ map-same (λ (s : Stop). moved_stop bias e.new_start e.new_start (added_count e) (grown bias (take i es) s)) (grown bias (take (i + 1) es))
      (λ s. sym (ap (λ (l : List Edit). grown bias l s) (take-get es i e is) ∙ grown-next bias (take i es) [] e s)) ss

  pub grown-fits : AreRising 0 (map (grown bias es) ss) → StopsFit (map (grown bias es) ss) → StopsFit (map (moved_stop bias e.new_start e.new_start (added_count e)) (map (grown bias (take i es)) ss))
  grown-fits rise fit =
      subst StopsFit (sym grown-step)
      (fits-less (grown bias (take (i + 1) es)) (grown bias es) (grown-lines bias (take (i + 1) es)) (grown-lines bias es) less ss rise fit) where
        on : (fs gs : List Edit) (s : Stop) → grown bias (fs ++ gs) s ≡ grown bias gs (grown bias fs s)
        on [] gs s = refl
        on (f ∷ fs) gs s = on fs gs (moved_stop bias f.new_start f.new_start (added_count f) s)

        less : (s : Stop) → (grown bias (take (i + 1) es) s).row ≤ (grown bias es s).row
        less s =
            let whole : grown bias es s ≡ grown bias (drop (i + 1) es) (grown bias (take (i + 1) es) s) = ap (λ (l : List Edit). grown bias l s) (sym (take-append-drop (i + 1) es)) ∙ on (take (i + 1) es) (drop (i + 1) es) s in
            omega (arith, ap (λ (s : Stop). s.row) whole, grown-more bias (drop (i + 1) es) (grown bias (take (i + 1) es) s))

-- before all edits nothing has moved
pub shrunk-none : (bias : Bias) (es : List Edit) (ss : List Stop) → ss ≡ map (shrunk bias (drop (length es) es)) ss
shrunk-none bias es ss = sym (ap (λ (l : List Edit). map (shrunk bias l) ss) (drop-all es) ∙ same ss) where
  same : (ss : List Stop) → map (shrunk bias []) ss ≡ ss
  same [] = refl
  same (s ∷ ss) = ap (λ (l : List Stop). s ∷ l) (same ss)

pub grown-none : (bias : Bias) (es : List Edit) (ss : List Stop) → ss ≡ map (grown bias (take 0 es)) ss
grown-none bias es ss = sym (ap (λ (l : List Edit). map (grown bias l) ss) (take-none es) ∙ same ss) where
  same : (ss : List Stop) → map (grown bias []) ss ≡ ss
  same [] = refl
  same (s ∷ ss) = ap (λ (l : List Stop). s ∷ l) (same ss)

pub carried-map : (bias : Bias) (es : List Edit) (ss : List Stop) → map (grown bias es) (map (shrunk bias es) ss) ≡ map (λ s. grown bias es (shrunk bias es s)) ss
carried-map bias es ss = map-map (grown bias es) (shrunk bias es) ss

-- ---- put in again

-- The stop of the next place is put in.
pub record PutNext (places : List ℕ) (all : List Stop) (i a : ℕ) (t : Stop) : Type 0 where
  pub room : MayBePut (without (drop i places) 0 all) a t
  pub next : with_stop a t (without (drop i places) 0 all) ≡ without (drop (i + 1) places) 0 all

pub put-next : (places : List ℕ) (all : List Stop) (i a : ℕ) (t : Stop) → IsRising 0 places → AreRising 0 all → StopsFit all → slice_get places i ≡ Some a → slice_get all a ≡ Some t → PutNext places all i a t
put-next places all i a t rising rise fit e is =
    let rest = without (drop (i + 1) places) 0 all in
    let taken = taken-next places all i a rising e (get-lt all a t is) in
    let there : slice_get rest a ≡ Some t = taken.there ∙ is in
    let back : with_stop a t (without (drop i places) 0 all) ≡ rest = ap (with_stop a t) (sym taken.rest) ∙ put-in rest a t there in
    record {
      room = record {
        place = subst (λ (l : List Stop). IsRowFor l a t.row) taken.rest (row-for a t rest (rise-left 0 (drop (i + 1) places) 0 all rise) there);
        fit = fit-left (drop i places) all rise fit;
        fits = subst StopsFit (sym back) (fit-left (drop (i + 1) places) all rise fit);
      };
      next = back;
    }

-- the same moves of the same stops
pub moved-as : (bias : Bias) (a b n a' b' n' : ℕ) (ss ss' : List Stop) → a ≡ a' → b ≡ b' → n ≡ n' → ss ≡ ss' → map (moved_stop bias a b n) ss ≡ map (moved_stop bias a' b' n') ss'
moved-as bias a b n a' b' n' ss ss' p q r s = λ i. map (moved_stop bias (p i) (q i) (r i)) (s i)

pub clear-as : (bias : Bias) (a b a' b' : ℕ) (ss ss' : List Stop) → a ≡ a' → b ≡ b' → ss ≡ ss' → AreClear bias a' b' ss' → AreClear bias a b ss
clear-as bias a b a' b' ss ss' p q s clear =
    subst (λ (l : List Stop). AreClear bias a b l) (sym s) (subst (λ (n : ℕ). AreClear bias n b ss') (sym p) (subst (λ (n : ℕ). AreClear bias a' n ss') (sym q) clear))
