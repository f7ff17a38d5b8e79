use Rattle.std.proofs.Common.{◌≡◌, ◌∙◌, ℕ, ◌+◌, ◌-◌, List, [], ◌∷◌, ◌++◌, Some, drop, map, take, ap, sym, arith, append_assoc}
use Rattle.std.specs.List.{slice_get}
use Rattle.std.proofs.lemmas.List.{map_push}
use Rattle.plain_rows.specs.Rows.{Row}
use Rattle.block_map.specs.Between.{block_row}
use Rattle.plain_rows.specs.ShownRows.{shown_rows}
use Rattle.block_map.specs.Stops.{texts_at}
use Rattle.block_map.proofs.RowsInZones.{steps-more}
use Rattle.block_map.proofs.ShownTexts.{push-row}
use Rattle.block_map.proofs.Windows.{window-more}
use Rattle.block_map.proofs.walking.push_blocks.Goals as goal

pub walk-preserved : goal.walk-preserved
walk-preserved c =
    let texts = texts_at c.args.text_row c.args.stops.now in
    let k = c.walk.next - c.args.from in
    let text = c.text_at-text.result.now in
    let next : c.walk.next + 1 - c.args.from ≡ k + 1 = omega (arith, c.walk.invariant.begun) in
    let place : c.args.from + k ≡ c.walk.next = omega (arith, c.walk.invariant.begun) in
    let there : slice_get texts (c.args.from + k) ≡ Some text = ap (slice_get texts) place ∙ c.text_at-text.ensures.text in
    let more : map block_row (take (c.walk.next + 1 - c.args.from) (drop c.args.from texts)) ≡ map block_row (take k (drop c.args.from texts)) ++ block_row text ∷ [] =
    ap (λ (n : ℕ). map block_row (take n (drop c.args.from texts))) next
    ∙ ap (map block_row) (window-more texts c.args.from k text there)
    ∙ map_push block_row (take k (drop c.args.from texts)) text in
    record {
      begun = omega (arith, c.walk.invariant.begun);
      within = omega (arith, c.walk-test.true);
      rows =
          push-row c.walk.shown.items c.push.new.self.items c.in_ok-block_row.field-0 (block_row text) c.in_ok-push.ensures.items c.in_ok-block_row.ensures
          ∙ ap (λ (l : List Row). l ++ block_row text ∷ []) c.walk.invariant.rows
          ∙ append_assoc (shown_rows c.args.shown.now.items) (map block_row (take k (drop c.args.from texts))) (block_row text ∷ [])
          ∙ ap (λ (l : List Row). shown_rows c.args.shown.now.items ++ l) (sym more);
      counted = omega (arith, c.walk.invariant.counted, c.text_at-text.ensures.counted);
      steps = λ h few. steps-more (h + 1) k (c.walk.next + 1 - c.args.from) c.args.steps.now c.walk.steps c.text_at-text.new.steps (omega (arith, next)) (c.walk.invariant.steps h few) (c.text_at-text.ensures.steps h few);
    }
