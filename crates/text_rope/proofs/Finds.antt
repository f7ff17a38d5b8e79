-- Where a cursor finds an offset.
use Rattle.std.proofs.Common.{◌≡◌, ℕ, zero, suc, ◌+◌, ◌-◌, ◌≤◌, List, [], length, take, take_all, get_or, ap, sym, ◌∙◌, subst, inl, inr, arith}
use Rattle.std.specs.List.{concat}
use Rattle.std.specs.Prelude.{unwrap_or}
use Rattle.std.proofs.lemmas.Bool.{cases_lt}
use Rattle.std.proofs.lemmas.Option.{unwrap_or-slice_get}
use Rattle.cell_units.specs.declared.place.Bias.TheVariants.{Left}
use Rattle.sum_tree.specs.Cursors.{IsSought, last_of}
use Rattle.text_rope.specs.Finds.{IsBefore}
use Rattle.text_rope.specs.Orders.{size_cmp}
use Rattle.text_rope.specs.Sizes.{joined_size, no_size, size_of, total_size}
use Rattle.text_rope.specs.declared.chunk.TextSize.{TextSize}
use Rattle.text_rope.proofs.Chunks.{total_bytes, total_chunks}
use Rattle.std.proofs.lemmas.List.{length-take-le}
use Rattle.text_rope.proofs.Orders.{first_at_least, first_at_most}

abbrev pub target_at : ℕ → TextSize
target_at offset = record { bytes = offset; feeds = 0; chunks = 0 }

abbrev pub IsFound : List (List ℕ) → ℕ → ℕ → Type 0
IsFound chunks offset place = IsSought no_size joined_size size_of (λ (s : TextSize). s) size_cmp chunks (target_at offset) Left place

-- what is before it ends at the offset or before it
pub found_start : (chunks : List (List ℕ)) (offset place : ℕ) → IsFound chunks offset place → (total_size (take (place - 1) chunks)).bytes ≤ offset
found_start chunks offset place sought =
    elim (cases_lt 1 place) [
      | inl more ↦ first_at_least offset (total_size (take (place - 1) chunks)).bytes _ (sought.none_before (place - 1) (omega (arith, more)) (omega (arith, more)))
      | inr one ↦
          let none : 0 ≡ place - 1 = omega (arith, one, sought.past_start) in
          subst (λ (n : ℕ). (total_size (take n chunks)).bytes ≤ offset) none (omega arith)
    ]

-- and it ends itself at the offset or after it
pub found_end : (chunks : List (List ℕ)) (offset place : ℕ) → offset ≤ length (concat chunks) → IsFound chunks offset place → offset ≤ length (concat (take (place - 1 + 1) chunks))
found_end chunks offset place within sought =
    let same : place ≡ place - 1 + 1 = omega (arith, sought.past_start) in
    subst (λ (n : ℕ). offset ≤ length (concat (take n chunks))) same
    (elim (cases_lt (length chunks) place) [
      | inl past ↦ subst (λ (l : List (List ℕ)). offset ≤ length (concat l)) (sym (take_all place chunks (omega (arith, past)))) within
      | inr at ↦
          let reached = first_at_most offset (total_size (take place chunks)).bytes _ (sought.reached at) in
          omega (arith, reached, total_bytes (take place chunks))
    ])

-- so many chunks are before it
pub found_count : (chunks : List (List ℕ)) (place : ℕ) → place ≤ length chunks + 1 → (total_size (take (place - 1) chunks)).chunks ≡ place - 1
found_count chunks place within = total_chunks (take (place - 1) chunks) ∙ length-take-le (place - 1) chunks (omega (arith, within))

-- the text of the item at a cursor's place, and none past the last
pub last_text : (chunks : List (List ℕ)) (place k : ℕ) → 1 ≤ place → k ≡ place - 1 → unwrap_or (last_of chunks place) [] ≡ get_or chunks k []
last_text chunks zero k some e = absurd (omega (arith, some))
last_text chunks (suc i) k some e = unwrap_or-slice_get chunks i [] ∙ ap (λ (n : ℕ). get_or chunks n []) (omega (arith, e))

pub found : (chunks items seen : List (List ℕ)) (offset place : ℕ) (r : TextSize) → items ≡ chunks → seen ≡ items → offset ≤ length (concat chunks) → IsFound items offset place → r ≡ total_size (take (place - 1) seen) → IsBefore chunks offset r
found chunks items seen offset place r e f within sought s =
    let here : IsFound chunks offset place = subst (λ (l : List (List ℕ)). IsFound l offset place) e sought in
    let size : r ≡ total_size (take (place - 1) chunks) = s ∙ ap (λ (l : List (List ℕ)). total_size (take (place - 1) l)) (f ∙ e) in
    let count : r.chunks ≡ place - 1 = ap (λ (t : TextSize). t.chunks) size ∙ found_count chunks place here.at_most_past_end in
    record {
      size = size ∙ ap (λ (n : ℕ). total_size (take n chunks)) (sym count);
      within = omega (arith, count, here.at_most_past_end);
      start = omega (arith, ap (λ (t : TextSize). t.bytes) size, found_start chunks offset place here);
      end = subst (λ (n : ℕ). offset ≤ length (concat (take (n + 1) chunks))) (sym count) (found_end chunks offset place within here);
    }
