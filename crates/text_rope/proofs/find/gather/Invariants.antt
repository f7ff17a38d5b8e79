use Rattle.std.proofs.Common.{◌≡◌, ℕ, ◌+◌, ◌-◌, ◌*◌, ◌/◌, ◌≤◌, ◌++◌, length, drop, string_bytes}
use Rattle.std.specs.List.{concat}
use Rattle.text_rope.specs.Ropes.{HasHeight}
use Rattle.text_rope.proofs.find.gather.Given as goal

-- the text so far and then the chunks to come
abbrev pub invariant-loop-steps : goal.invariant-loop-steps
invariant-loop-steps l =
    let next = l.fn.found.before.chunks + 1 in
    let first = length l.fn.found.text.now in
    record {
      gathered : string_bytes l.text ++ concat (drop l.at l.chunks) ≡ concat (drop l.fn.found.before.chunks l.fn.chunks);
      order : next ≤ l.at;
      few : 60 * (l.at - next) + first ≤ length (string_bytes l.text);
      turns : l.at - next ≤ (l.fn.count - first) / 60 + 1;
      counted : l.fn.steps ≤ l.steps;
      steps : (h : ℕ) → HasHeight h (concat l.fn.chunks) → l.steps ≤ l.fn.steps + (l.at - next) * (h + 1);
    }

abbrev pub decreases-loop-steps : goal.decreases-loop-steps
decreases-loop-steps l = length l.chunks - l.at
