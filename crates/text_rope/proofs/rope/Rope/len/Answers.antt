use Rattle.std.proofs.Common.{◌≢◌, ℕ, List, length, ap, subst, ◌∙◌, arith}
use Rattle.std.specs.List.{All}
use Rattle.std.specs.Str.{IsUtf8}
use Rattle.cell_units.specs.Text.{carriage_return}
use Rattle.text_rope.proofs.Chunks.{total_bytes}
use Rattle.text_rope.proofs.Parts.{chunks_utf8}
use Rattle.text_rope.specs.declared.chunk.TextSize.{TextSize}
use Rattle.text_rope.proofs.rope.Rope.len.Goals as goal

pub returns-clause-value : goal.returns-clause-value
returns-clause-value c = ap (λ (s : TextSize). s.bytes) c.sum.ensures ∙ total_bytes c.self.inside.chunks ∙ ap (λ (t : List ℕ). length t) c.self.view_is

pub returns-clause-within : goal.returns-clause-within
returns-clause-within c = omega (arith, ap (λ (s : TextSize). s.bytes) c.sum.ensures, total_bytes c.self.inside.chunks, c.self.invariant.small)

pub returns-clause-text : goal.returns-clause-text
returns-clause-text c = (
  subst IsUtf8 c.self.view_is (chunks_utf8 c.self.inside.chunks c.self.invariant.cut),
  subst (λ (t : List ℕ). All (λ b. b ≢ carriage_return) t) c.self.view_is c.self.invariant.clean,
)
