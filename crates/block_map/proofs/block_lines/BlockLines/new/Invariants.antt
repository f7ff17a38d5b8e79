use Rattle.std.proofs.Common.{◌≡◌, take}
use Rattle.std.specs.List.{All}
use Rattle.std.specs.Str.{IsUtf8}
use Rattle.block_map.proofs.block_lines.BlockLines.new.Given as goal

abbrev pub invariant-loop-line : goal.invariant-loop-line
invariant-loop-line l = record {
  copied : l.copied.items ≡ take l.line-index l.lines;
  utf8 : All IsUtf8 l.copied.items;
}
