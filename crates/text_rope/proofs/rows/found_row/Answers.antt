use Rattle.std.proofs.Common.{List, Option, ℕ, [], take, ◌-◌, ◌≡◌, ap, sym, subst, ◌∙◌, length, ◌<◌, ◌≤◌, ◌*◌, ◌^◌, ◌+◌}
use Rattle.std.specs.Prelude.{unwrap_or}
use Rattle.sum_tree.specs.Cursors.{last_of}
use Rattle.text_rope.specs.Sizes.{total_size}
use Rattle.text_rope.specs.declared.rows.RowSize.{RowSize}
use Rattle.text_rope.proofs.Finds.{found_count, last_text}
use Rattle.text_rope.proofs.Fullness.{full_height}
use Rattle.text_rope.proofs.RowFinds.{row_found}
use Rattle.text_rope.proofs.rows.found_row.Goals as goal

pub returns-clause-found : goal.returns-clause-found
returns-clause-found c = row_found c.args.chunks.now c.cursor-cursor.result.items c.seek.new.self.items c.args.row c.seek.new.self.place c.start.result c.cursor-cursor.ensures.items c.seek.ensures.items c.requires.some c.requires.within c.seek.ensures.sought c.start.ensures

pub returns-clause-steps : goal.returns-clause-steps
returns-clause-steps c = λ h high. c.seek.ensures.steps h (subst (λ (l : List (List ℕ)). length l < 2 * 6 ^ (h + 1)) (sym c.cursor-cursor.ensures.items) (full_height c.args.chunks.now h c.requires.rope.full high))

pub returns-clause-here : goal.returns-clause-here
returns-clause-here c =
    let chunks = c.args.chunks.now in
    let place = c.seek.new.self.place in
    let items : c.seek.new.self.items ≡ chunks = c.seek.ensures.items ∙ c.cursor-cursor.ensures.items in
    let within : place ≤ length chunks + 1 = subst (λ (l : List (List ℕ)). place ≤ length l + 1) c.cursor-cursor.ensures.items c.seek.ensures.sought.at_most_past_end in
    c.text_of.ensures ∙ ap (λ (o : Option (List ℕ)). unwrap_or o []) (c.item.ensures ∙ ap (λ (l : List (List ℕ)). last_of l place) items)
    ∙ last_text chunks place c.start.result.chunks c.seek.ensures.sought.past_start
    (ap (λ (t : RowSize). t.chunks) c.start.ensures ∙ ap (λ (l : List (List ℕ)). (total_size (take (place - 1) l)).chunks) items ∙ found_count chunks place within)
