use Rattle.std.proofs.Common.{◌≡◌, take}
use Rattle.std.specs.List.{All}
use Rattle.std.specs.Str.{IsUtf8}
use Rattle.display_sheet.proofs.change.copied.Given as goal

abbrev pub invariant-loop-text : goal.invariant-loop-text
invariant-loop-text l = record {
  copied : l.copy.items ≡ take l.text-index l.texts;
  utf8 : All IsUtf8 l.copy.items;
}
