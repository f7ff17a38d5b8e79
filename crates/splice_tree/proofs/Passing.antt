-- Where a place goes that lies after some splices.
use Rattle.std.proofs.Common.{◌≡◌, ℕ, zero, suc, ◌+◌, ◌-◌, ◌<◌, ◌≤◌, List, [], ◌∷◌, map, length, take, drop, Option, Some, None, MatchOption, refl, sym, ap, subst, ◌∙◌, arith, add-one}
use Rattle.std.specs.Borrow.{Bor}
use Rattle.std.specs.List.{slice_get}
use Rattle.std.specs.Option.{option_copied}
use Rattle.std.proofs.lemmas.Option.{slice_get_within}
use Rattle.cell_units.specs.declared.place.Bias.{Bias}
use Rattle.cell_units.specs.declared.place.Bias.TheVariants.{Left, Right}
use Rattle.sum_core.specs.Sums.{total}
use Rattle.sum_tree.specs.Firsts.{IsShort, IsReaching}
use Rattle.splice_tree.specs.Splices.{Stretch, to_upper}
use Rattle.splice_tree.proofs.Carrying.{behind, after}

rest_short : (bias : Bias) (x m n : ℕ) → IsShort bias x (m + n) → IsShort bias (x - m) n
rest_short Left x m n s = omega arith
rest_short Right x m n s = omega arith

short-at : (bias : Bias) (x m n : ℕ) → m ≡ n → IsShort bias x m → IsShort bias x n
short-at bias x m n e s = subst (λ k. IsShort bias x k) e s

short-le : (bias : Bias) (x m : ℕ) → IsShort bias x m → m ≤ x
short-le Left x m s = omega arith
short-le Right x m s = omega arith

rest_reaching : (bias : Bias) (x m n e : ℕ) → m ≤ x → e ≡ m + n → IsReaching bias x e → IsReaching bias (x - m) n
rest_reaching Left x m n e le is r = omega arith
rest_reaching Right x m n e le is r = omega arith

pub drop-past : {T : Type 0} (xs : List T) (n : ℕ) → slice_get xs n ≡ None → drop n xs ≡ []
drop-past [] zero e = refl
drop-past [] (suc n) e = refl
drop-past (x ∷ xs) zero e = absurd (cc)
drop-past (x ∷ xs) (suc n) e = drop-past xs n e

pub drop-found : {T : Type 0} (xs : List T) (n : ℕ) (t : T) → slice_get xs n ≡ Some t → drop n xs ≡ t ∷ drop (suc n) xs
drop-found [] zero t e = absurd (cc)
drop-found [] (suc n) t e = absurd (cc)
drop-found (x ∷ xs) zero t e =
    let is : x ≡ t = cc in
    ap (λ y. y ∷ xs) is
drop-found (x ∷ xs) (suc n) t e = drop-found xs n t e

module _ {T S : Type 0} (empty : S) (joined : S → S → S) (summary : T → S) (low up : S → ℕ) (seen : T → Stretch)
    (low-none : low empty ≡ 0) (up-none : up empty ≡ 0) (low-adds : (a b : S) → low (joined a b) ≡ low a + low b) (up-adds : (a b : S) → up (joined a b) ≡ up a + up b)
    (low-is : (t : T) → low (summary t) ≡ (seen t).gap + (seen t).old) (up-is : (t : T) → up (summary t) ≡ (seen t).gap + (seen t).new) where
  pub passed : (bias : Bias) (items : List T) (n x : ℕ) → (0 < n → IsShort bias x (low (total empty joined summary (take n items))))
      → n ≤ length items → to_upper bias (map seen items) x ≡ up (total empty joined summary (take n items)) + to_upper bias (map seen (drop n items)) (x - low (total empty joined summary (take n items)))
  passed bias items zero x short le =
      let e : x ≡ x - low empty = omega (arith, low-none) in
      ap (to_upper bias (map seen items)) e ∙ omega (arith, up-none)
  passed bias [] (suc n) x short le = absurd (omega arith)
  passed bias (t ∷ ts) (suc n) x short le =
      let rest = total empty joined summary (take n ts) in
      let s = seen t in
      let low' : low (joined (summary t) rest) ≡ s.gap + s.old + low rest = low-adds (summary t) rest ∙ ap (λ k. k + low rest) (low-is t) in
      let up' : up (joined (summary t) rest) ≡ s.gap + s.new + up rest = up-adds (summary t) rest ∙ ap (λ k. k + up rest) (up-is t) in
      let sh : IsShort bias x (s.gap + s.old + low rest) = short-at bias x (low (joined (summary t) rest)) (s.gap + s.old + low rest) low' (short (omega arith)) in
      let next = passed bias ts n (x - (s.gap + s.old)) (λ some. rest_short bias x (s.gap + s.old) (low rest) sh) (omega arith) in
      let there : x - (s.gap + s.old) - low rest ≡ x - low (joined (summary t) rest) = omega (arith, low') in
      after bias s (map seen ts) x (behind bias s x (low rest) sh)
      ∙ ap (λ k. s.gap + s.new + k) next
      ∙ ap (λ y. s.gap + s.new + (up rest + to_upper bias (map seen (drop n ts)) y)) there
      ∙ omega (arith, up')

  pub start-le : (bias : Bias) (items : List T) (n x : ℕ) → (0 < n → IsShort bias x (low (total empty joined summary (take n items)))) → low (total empty joined summary (take n items)) ≤ x
  start-le bias items zero x short = omega (arith, low-none)
  start-le bias items (suc n) x short = short-le bias x (low (total empty joined summary (take (suc n) items))) (short (omega arith))

  low-next : (items : List T) (n : ℕ) (t : T) → slice_get items n ≡ Some t → low (total empty joined summary (take (suc n) items)) ≡ low (total empty joined summary (take n items)) + ((seen t).gap + (seen t).old)
  low-next [] zero t e = absurd (cc)
  low-next [] (suc n) t e = absurd (cc)
  low-next (x ∷ xs) zero t e =
      let is : x ≡ t = cc in
      low-adds (summary x) empty ∙ ap (λ y. low (summary y) + low empty) is ∙ omega (arith, low-none, low-is t)
  low-next (x ∷ xs) (suc n) t e =
      let next = low-next xs n t e in
      omega (arith, low-adds (summary x) (total empty joined summary (take (suc n) xs)), low-adds (summary x) (total empty joined summary (take n xs)), next)

  low-more : (items : List T) (n : ℕ) (t : T) → slice_get items n ≡ Some t → low (total empty joined summary (take (n + 1) items)) ≡ low (total empty joined summary (take n items)) + ((seen t).gap + (seen t).old)
  low-more items n t e = ap (λ k. low (total empty joined summary (take k items))) (add-one n) ∙ low-next items n t e

  pub reaches : (bias : Bias) (items : List T) (n x : ℕ) (t : T) → (0 < n → IsShort bias x (low (total empty joined summary (take n items)))) → slice_get items n ≡ Some t
      → IsReaching bias x (low (total empty joined summary (take (n + 1) items))) → IsReaching bias (x - low (total empty joined summary (take n items))) ((seen t).gap + (seen t).old)
  reaches bias items n x t short e r =
      rest_reaching bias x (low (total empty joined summary (take n items))) ((seen t).gap + (seen t).old) (low (total empty joined summary (take (n + 1) items))) (start-le bias items n x short) (low-more items n t e) r

  -- where none is left
  pub past : (bias : Bias) (items : List T) (n x : ℕ) → (0 < n → IsShort bias x (low (total empty joined summary (take n items)))) → n ≤ length items → slice_get items n ≡ None
      → to_upper bias (map seen items) x ≡ up (total empty joined summary (take n items)) + (x - low (total empty joined summary (take n items)))
  past bias items n x short le e =
      passed bias items n x short le
      ∙ ap (λ l. up (total empty joined summary (take n items)) + to_upper bias (map seen l) (x - low (total empty joined summary (take n items)))) (drop-past items n e)

  -- where one is left
  pub within : (bias : Bias) (items : List T) (n x : ℕ) (t : T) → (0 < n → IsShort bias x (low (total empty joined summary (take n items)))) → n ≤ length items → slice_get items n ≡ Some t
      → to_upper bias (map seen items) x ≡ up (total empty joined summary (take n items)) + to_upper bias (seen t ∷ map seen (drop (suc n) items)) (x - low (total empty joined summary (take n items)))
  within bias items n x t short le e =
      passed bias items n x short le
      ∙ ap (λ l. up (total empty joined summary (take n items)) + to_upper bias (map seen l) (x - low (total empty joined summary (take n items)))) (drop-found items n t e)

  -- what the code makes of the place that it found
  pub carried : (bias : Bias) (items : List T) (n x w : ℕ) (o : Option (Bor T)) → (0 < n → IsShort bias x (low (total empty joined summary (take n items)))) → n ≤ length items
      → (n < length items → IsReaching bias x (low (total empty joined summary (take (n + 1) items)))) → option_copied o ≡ slice_get items n
      → MatchOption o (w ≡ x - low (total empty joined summary (take n items))) (λ b. (ss : List Stretch) → IsReaching bias (x - low (total empty joined summary (take n items))) ((seen b.now).gap + (seen b.now).old) → w ≡ to_upper bias (seen b.now ∷ ss) (x - low (total empty joined summary (take n items))))
      → up (total empty joined summary (take n items)) + w ≡ to_upper bias (map seen items) x
  carried bias items n x w None short le reach e m =
      ap (λ k. up (total empty joined summary (take n items)) + k) m ∙ sym (past bias items n x short le (sym e))
  carried bias items n x w (Some b) short le reach e m =
      ap (λ k. up (total empty joined summary (take n items)) + k) (m (map seen (drop (suc n) items)) (reaches bias items n x b.now short (sym e) (reach (slice_get_within items n b.now (sym e)))))
      ∙ sym (within bias items n x b.now short le (sym e))

pub map-map : {A B C : Type 0} (f : B → C) (g : A → B) (xs : List A) → map f (map g xs) ≡ map (λ x. f (g x)) xs
map-map f g [] = refl
map-map f g (x ∷ xs) = ap (λ ys. f (g x) ∷ ys) (map-map f g xs)
