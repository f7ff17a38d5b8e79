-- A text after a replacement, of its chunks.
use Rattle.std.proofs.Common.{◌≡◌, ℕ, ◌+◌, ◌*◌, ◌/◌, ◌^◌, ◌<◌, ◌≤◌, ◌++◌, List, length, take, drop, ap, sym, ◌∙◌, subst, arith}
use Rattle.std.specs.List.{concat}
use Rattle.cell_units.specs.Operation.{replaced_text}
use Rattle.edit_patch.specs.declared.edit.Edit.{Edit}
use Rattle.edit_patch.specs.Fits.{replacement}
use Rattle.sum_tree.specs.Bounds as trees
use Rattle.text_rope.specs.Edits.{IsRange, IsRenewed, IsReplacedWithin}
use Rattle.text_rope.specs.Ropes.{HasHeight, IsRope}
use Rattle.text_rope.proofs.Bounds.{replace_steps}
use Rattle.text_rope.proofs.Fullness.{full_height}

-- the chunks with those made anew
abbrev pub with_made : List (List ℕ) → ℕ → ℕ → List (List ℕ) → List (List ℕ)
with_made chunks from to made = take from chunks ++ made ++ drop to chunks

-- they are what the range is replaced by
pub replaced_by : (limit : ℕ) (chunks : List (List ℕ)) (text : List ℕ) (start end : ℕ) (s : List ℕ) (from to : ℕ) (made new : List (List ℕ)) (patch : List Edit) → concat chunks ≡ text → IsRange (concat chunks) start end →
    length (replaced_text (concat chunks) start end s) ≤ limit → IsRenewed chunks start end s from to made → patch ≡ replacement start end (length s) → new ≡ with_made chunks from to made → IsReplacedWithin limit text start end s (concat new) patch
replaced_by limit chunks text start end s from to made new patch view range small renewed told e =
    let bytes : concat new ≡ replaced_text (concat chunks) start end s = ap concat e ∙ renewed.text in
    record {
      range = subst (λ (t : List ℕ). IsRange t start end) view range;
      small = omega (arith, ap (λ (t : List ℕ). length t) bytes, small);
      text = bytes ∙ ap (λ (t : List ℕ). replaced_text t start end s) view;
      patch_is = told;
    }

-- the tree ticks little more than its height where it is reached
pub replaced_steps : (chunks : List (List ℕ)) (text : List ℕ) (start end : ℕ) (s : List ℕ) (from to : ℕ) (made : List (List ℕ)) (s0 s1 s2 : ℕ) → concat chunks ≡ text → IsRope chunks → IsRope (with_made chunks from to made) →
    IsRenewed chunks start end s from to made → ((h : ℕ) → HasHeight h (concat chunks) → s1 ≤ s0 + 6 * (h + 1)) →
    ((h : ℕ) → length chunks < 2 * 6 ^ (h + 1) → length (with_made chunks from to made) < 2 * 6 ^ (h + 1) → s2 ≤ s1 + trees.replacing (length made) h) →
    (h : ℕ) → HasHeight h text → HasHeight h (replaced_text text start end s) → s2 ≤ s0 + 166 * (length s / 64 + 1) * (h + 1)
replaced_steps chunks text start end s from to made s0 s1 s2 view rope is_rope renewed first last h high higher =
    let old : HasHeight h (concat chunks) = subst (HasHeight h) (sym view) high in
    let is : concat (with_made chunks from to made) ≡ replaced_text text start end s = renewed.text ∙ ap (λ (t : List ℕ). replaced_text t start end s) view in
    let new : HasHeight h (concat (with_made chunks from to made)) = subst (HasHeight h) (sym is) higher in
    replace_steps (length s) (length made) h s0 s1 s2 (omega (arith, renewed.few)) (first h old) (last h (full_height chunks h rope.full old) (full_height (with_made chunks from to made) h is_rope.full new))
