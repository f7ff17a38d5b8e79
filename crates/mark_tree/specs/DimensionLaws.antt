-- The laws of places by number, by offset and by end.
use Rattle.std.proofs.Common.{◌≡◌, ℕ, ◌+◌, ◌≤◌, max, false, arith}
use Rattle.std.specs.Ordering.{is_gt, nat_cmp}
use Rattle.std.proofs.lemmas.Bool.Decides.{nat_tests}
use Rattle.sum_core.proofs.Counts.{count-left_not_greater, count-right_not_greater}
use Rattle.mark_tree.specs.declared.extent.Extent.{Extent}
use Rattle.mark_tree.specs.Extents.{both, end_of, IsFitting, by_items, by_offset, by_end, add_ends, CanAddItems, CanAddOffsets, CanAddEnds}

pub items-left : (x y : Extent) → is_gt (nat_cmp x.items (x.items + y.items)) ≡ false
items-left x y = count-left_not_greater x.items y.items

pub items-right : (x y : Extent) → is_gt (nat_cmp y.items (x.items + y.items)) ≡ false
items-right x y = count-right_not_greater x.items y.items

pub items-fits : (x y : Extent) → IsFitting (both x y) → CanAddItems (by_items x) (by_items y)
items-fits x y f = (omega arith, omega arith)

pub offset-left : (x y : Extent) → is_gt (nat_cmp x.span (x.span + y.span)) ≡ false
offset-left x y = count-left_not_greater x.span y.span

pub offset-right : (x y : Extent) → is_gt (nat_cmp y.span (x.span + y.span)) ≡ false
offset-right x y = count-right_not_greater x.span y.span

pub offset-fits : (x y : Extent) → IsFitting (both x y) → CanAddOffsets (by_offset x) (by_offset y)
offset-fits x y f = (omega arith, omega arith)

not_greater : (m n : ℕ) → m ≤ n → is_gt (nat_cmp m n) ≡ false
not_greater m n le = grind (arith, nat_tests)

end-of : (x y : Extent) → end_of (both x y) ≡ max (end_of x) (x.span + end_of y)
end-of x y = omega arith

pub end-joined : (x y : Extent) → by_end (both x y) ≡ add_ends (by_end x) (by_end y)
end-joined x y = λ i. record { end = end-of x y i; span = x.span + y.span; items = x.items + y.items }

pub end-left : (x y : Extent) → is_gt (nat_cmp (end_of x) (end_of (both x y))) ≡ false
end-left x y = not_greater (end_of x) (end_of (both x y)) (omega (arith, end-of x y))

pub end-right : (x y : Extent) → is_gt (nat_cmp (end_of y) (end_of (both x y))) ≡ false
end-right x y = not_greater (end_of y) (end_of (both x y)) (omega (arith, end-of x y))

pub end-fits : (x y : Extent) → IsFitting (both x y) → CanAddEnds (by_end x) (by_end y)
end-fits x y f = (omega (arith, end-of x y), omega (arith, end-of x y), omega arith)
