use Rattle.std.proofs.Common.{◌<◌, length, refl, arith}
use Rattle.std.proofs.lemmas.Str.{IsCharBoundary-start}
use Rattle.plain_rows.specs.FoldedLines.{inlay_at, seen}
use Rattle.plain_rows.proofs.LaidSteps.{inlay-utf8, length-inlays}
use Rattle.plain_rows.proofs.laying.push_inlay.Goals as goal

pub loop-at-init : goal.loop-at-init
loop-at-init c =
    let src = c.args.source.now in
    let there : c.args.number < length (seen src).inlays = omega (arith, length-inlays src.text.now src.inlays.now src.folds.now, c.requires.number) in
    record {
      reaches = c.requires.reaches;
      shows = refl;
      boundary = IsCharBoundary-start (inlay_at (seen src) c.args.number).text (inlay-utf8 (seen src) c.requires.lawful c.args.number there);
      apart = λ _. c.requires.apart;
      buffer = λ lt. absurd (omega (arith, lt));
      inlays = omega (arith, c.requires.apart);
    }
