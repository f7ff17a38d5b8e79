use Rattle.std.proofs.Common.{◌≡◌, ◌++◌, ◌+◌, List, ℕ, length, length-append, ap, sym, subst, ◌∙◌, arith}
use Rattle.std.specs.Str.{IsUtf8}
use Rattle.text_rope.proofs.edit.joined_chunk.Goals as goal
use Rattle.text_rope.proofs.edit.joined_chunk.Goals.{In_ok-new}

joined : (c : In_ok-new) → c.in_ok-new.field-0 ≡ (c.args.front.now ++ c.args.text.now) ++ c.args.back.now
joined c =
    c.in_ok-new.ensures ∙ c.as_str.ensures.value ∙ c.in_ok-push_str-2.ensures.bytes
    ∙ ap (λ (t : List ℕ). t ++ c.args.back.now) (c.in_ok-push_str.ensures.bytes ∙ ap (λ (t : List ℕ). t ++ c.args.text.now) c.in_ok-whole.ensures.ok)

long : (c : In_ok-new) → length c.in_ok-new.field-0 ≡ length c.args.front.now + length c.args.text.now + length c.args.back.now
long c = omega (arith, ap length (joined c), length-append (c.args.front.now ++ c.args.text.now) c.args.back.now, length-append c.args.front.now c.args.text.now)

pub returns-clause-whole : goal.returns-clause-whole
returns-clause-whole c = joined (goal.at.returns-clause-whole c).In_ok-new

pub returns-clause-chunk : goal.returns-clause-chunk
returns-clause-chunk c =
    let all = long (goal.at.returns-clause-chunk c).In_ok-new in
    record {
      utf8 = subst IsUtf8 (sym c.in_ok-new.ensures) c.as_str.utf8;
      some = omega (arith, all);
      small = omega (arith, all);
    }

pub returns-clause-least : goal.returns-clause-least
returns-clause-least c = omega (arith, long (goal.at.returns-clause-least c).In_ok-new)
