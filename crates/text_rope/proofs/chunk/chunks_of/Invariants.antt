use Rattle.std.proofs.Common.{◌≡◌, ◌++◌, ◌<◌, ◌≤◌, length, min}
use denote.Text.{Utf8}
use denote.Shadow.{shadow}
use Rattle.std.specs.List.{concat}
use Rattle.text_rope.specs.Chunks.{AreChunks, least}
use Rattle.text_rope.proofs.Fullness.{AreFilled}
use Rattle.text_rope.proofs.chunk.chunks_of.Given as goal

-- the chunks so far and then the rest are the text
abbrev pub invariant-loop-rest : goal.invariant-loop-rest
invariant-loop-rest l = record {
  utf8 : shadow (Utf8 l.rest);
  whole : concat l.chunks.items ++ l.rest ≡ l.fn.text;
  chunks : AreChunks l.chunks.items;
  filled : AreFilled l.chunks.items (length l.fn.text);
  rest : 0 < length l.rest → min least (length l.fn.text) ≤ length l.rest;
}

abbrev pub decreases-loop-rest : goal.decreases-loop-rest
decreases-loop-rest l = length l.rest
