use Rattle.std.proofs.Common.{◌≡◌, ◌+◌, ◌-◌, List, ℕ, length, ap, subst, ◌∙◌, arith, rules}
use Rattle.std.specs.List.{concat}
use Rattle.cell_units.specs.Operation.{replaced_text}
use Rattle.cell_units.specs.Text.{clean}
use Rattle.edit_patch.specs.Fits.{replacement}
use Rattle.text_rope.specs.Edits.{IsRange, IsRenewed}
use Rattle.text_rope.specs.declared.chunk.TextSize.{TextSize}
use Rattle.text_rope.proofs.Chunks.{total_bytes}
use Rattle.text_rope.proofs.Renewals.{replaced_long}
use Rattle.text_rope.proofs.edit.renewed.Goals as goal
use Rattle.text_rope.proofs.edit.renewed.Goals.{After-cleaned, After-len}

range : (c : After-cleaned) → IsRange (concat c.args.chunks.now) c.args.start c.args.end
range c = c.is_range.ensures.test.0 c.if-not-is_range.false

pub returns-in_err-text-clause-refused : goal.returns-in_err-text-clause-refused
returns-in_err-text-clause-refused c = search (rules, range (goal.at.returns-in_err-text-clause-refused c).After-cleaned)

pub returns-in_err-patch-clause-refused : goal.returns-in_err-patch-clause-refused
returns-in_err-patch-clause-refused c = search (rules, range (goal.at.returns-in_err-patch-clause-refused c).After-cleaned)

pub returns-in_err-new-clause-refused : goal.returns-in_err-new-clause-refused
returns-in_err-new-clause-refused c = search (rules, range (goal.at.returns-in_err-new-clause-refused c).After-cleaned)

pub overflow_sub-kept-2 : goal.overflow_sub-kept-2
overflow_sub-kept-2 c =
    let within = range (goal.at.overflow_sub-kept-2 c).After-cleaned in
    omega (arith, ap (λ (s : TextSize). s.bytes) c.sum.ensures ∙ total_bytes c.args.chunks.now, within.0, within.2.0)

-- how long the new text is
long : (c : After-len) → IsRange (concat c.args.chunks.now) c.args.start c.args.end → length (replaced_text (concat c.args.chunks.now) c.args.start c.args.end (clean c.args.text.now)) ≡ c.sum.result.bytes - (c.args.end - c.args.start) + c.len.result
long c within =
    omega (
      arith,
      ap (λ (s : TextSize). s.bytes) c.sum.ensures ∙ total_bytes c.args.chunks.now,
      replaced_long (concat c.args.chunks.now) c.args.start c.args.end (clean c.args.text.now) within,
      c.len.ensures,
      ap (λ (t : List ℕ). length t) c.in_ok-text.ensures,
    )

pub returns-then-long-limit-clause-refused : goal.returns-then-long-limit-clause-refused
returns-then-long-limit-clause-refused c =
    let within = range (goal.at.returns-then-long-limit-clause-refused c).After-cleaned in
    (within, omega (arith, long (goal.at.returns-then-long-limit-clause-refused c).After-len within, c.if-long-limit.true, c.saturating_add-long.ensures))

pub returns-clause-small : goal.returns-clause-small
returns-clause-small c =
    let within = range (goal.at.returns-clause-small c).After-cleaned in
    omega (arith, long (goal.at.returns-clause-small c).After-len within, c.if-long-limit.false, c.saturating_add-long.ensures, c.requires.limit)

pub returns-clause-renewed : goal.returns-clause-renewed
returns-clause-renewed c =
    subst (λ (t : List ℕ). IsRenewed c.args.chunks.now c.args.start c.args.end t c.in_ok-new.new.from c.in_ok-new.new.to c.in_ok-new.new.chunks.items)
    (c.as_str.ensures.value ∙ c.in_ok-text.ensures) c.in_ok-new.ensures.renewed

pub returns-clause-patch : goal.returns-clause-patch
returns-clause-patch c =
    let count : c.len-2.result ≡ length (clean c.args.text.now) = omega (arith, c.len-2.ensures, ap (λ (t : List ℕ). length t) c.in_ok-text.ensures) in
    c.in_ok-patch.ensures ∙ (λ i. replacement (c.new-shift.ensures.start i) (c.new-shift.ensures.end i) ((c.new-shift.ensures.count ∙ count) i))
