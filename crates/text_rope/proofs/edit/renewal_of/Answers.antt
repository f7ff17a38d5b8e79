use Rattle.std.proofs.Common.{◌≡◌, ◌++◌, List, ℕ, ap, ◌∙◌, string_bytes}
use Rattle.text_rope.proofs.Renewals.{renewed_by}
use Rattle.text_rope.proofs.edit.renewal_of.Goals as goal

pub returns-clause-renewed : goal.returns-clause-renewed
returns-clause-renewed c =
    let front = string_bytes c.in_ok-front.front.text in
    let back = string_bytes c.in_ok-back.back.text in
    let s = c.args.text.now in
    let whole = c.as_str-2.result.now in
    let made = c.in_ok-chunks_of.field-0.items in
    let all : whole ≡ (front ++ s) ++ back =
    c.as_str-2.ensures.value ∙ c.in_ok-push_str-2.ensures.bytes
    ∙ ap (λ (t : List ℕ). t ++ c.as_str.result.now) c.in_ok-push_str.ensures.bytes
    ∙ ap (λ (t : List ℕ). (front ++ s) ++ t) c.as_str.ensures.value in
    renewed_by c.args.chunks.now c.args.start c.args.end s c.in_ok-front.front.at c.in_ok-back.back.at front back c.requires.rope c.requires.range c.in_ok-front.ensures.part c.in_ok-back.ensures.part
    made whole all c.in_ok-chunks_of.ensures.text c.in_ok-chunks_of.ensures.chunks c.in_ok-chunks_of.ensures.filled
