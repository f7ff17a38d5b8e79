-- The laws of extents as sums.
use Rattle.std.proofs.Common.{◌≡◌, ap, Option, None, Some, min, max, refl, arith}
use Rattle.mark_tree.specs.declared.extent.Extent.{Extent}
use Rattle.mark_tree.specs.declared.id_range.IdRange.{IdRange}
use Rattle.mark_tree.specs.Extents.{none, both, IsFitting}
use Rattle.mark_tree.specs.IdRanges.{all_ids, both_ids}

ids-none_right : (r : Option IdRange) → all_ids r None ≡ r
ids-none_right None = refl
ids-none_right (Some r) = refl

ids-assoc : (r s t : Option IdRange) → all_ids (all_ids r s) t ≡ all_ids r (all_ids s t)
ids-assoc None s t = refl
ids-assoc (Some r) None t = refl
ids-assoc (Some r) (Some s) None = refl
ids-assoc (Some r) (Some s) (Some t) = ap (λ u. Some u) (ranges r s t) where
  ranges : (r s t : IdRange) → both_ids (both_ids r s) t ≡ both_ids r (both_ids s t)
  ranges r s t =
      let least : min (min r.least s.least) t.least ≡ min r.least (min s.least t.least) = omega arith in
      let greatest : max (max r.greatest s.greatest) t.greatest ≡ max r.greatest (max s.greatest t.greatest) = omega arith in
      λ i. record { least = least i; greatest = greatest i }

pub same_extent : (a b : Extent) → a.items ≡ b.items → a.span ≡ b.span → a.hang ≡ b.hang → a.ids ≡ b.ids → a ≡ b
same_extent a b i s h n = λ k. record { items = i k; span = s k; hang = h k; ids = n k }

pub both-none_left : (x : Extent) → both none x ≡ x
both-none_left x = same_extent (both none x) x (omega arith) (omega arith) (omega arith) refl

pub both-none_right : (x : Extent) → both x none ≡ x
both-none_right x = same_extent (both x none) x (omega arith) (omega arith) (omega arith) (ids-none_right x.ids)

pub both-assoc : (x y z : Extent) → both (both x y) z ≡ both x (both y z)
both-assoc x y z = same_extent (both (both x y) z) (both x (both y z)) (omega arith) (omega arith) (omega arith) (ids-assoc x.ids y.ids z.ids)

pub none_fits : IsFitting none
none_fits = (omega arith, omega arith)

pub left_fits : (x y : Extent) → IsFitting (both x y) → IsFitting x
left_fits x y f = (omega arith, omega arith)

pub right_fits : (x y : Extent) → IsFitting (both x y) → IsFitting y
right_fits x y f = (omega arith, omega arith)
