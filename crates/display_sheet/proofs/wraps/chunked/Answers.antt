use Rattle.std.proofs.Common.{◌≡◌, ◌-◌, ℕ, ◌++◌, ◌∷◌, [], List, length, sym, ap, subst, ◌∙◌, arith}
use Rattle.std.specs.Prelude.{slice_range}
use Rattle.display_sheet.specs.declared.wraps.Wrapped.{Wrapped}
use Rattle.display_sheet.specs.Chunks.{AreChunks, joined}
use Rattle.display_sheet.proofs.Chunks.{AreFull, are-chunks-push, are-full-push, joined-push, length-range, take-range}
use Rattle.display_sheet.proofs.wraps.chunked.Goals as goal

pub loop-start-preserved : goal.loop-start-preserved
loop-start-preserved c =
    let lines = c.args.lines.now in
    let i = c.loop-start.invariant in
    let start : ℕ = c.loop-start.start in
    let end : ℕ = c.min-end.result in
    let chunks = c.loop-start.chunks.items in
    let chunk = slice_range lines start end in
    let long : length chunk ≡ end - start = length-range lines start end (omega (arith, c.min-end.ensures, c.loop-start-test.true)) (omega (arith, c.min-end.ensures)) in
    let pushed = c.in_ok-push.ensures.items ∙ ap (λ (l : List Wrapped). chunks ++ l ∷ []) c.in_ok-new.ensures in
    let full = i.whole c.loop-start-test.true in
    record {
      lines = ap joined pushed ∙ joined-push chunks chunk ∙ ap (λ (ws : List Wrapped). ws ++ chunk) i.lines ∙ take-range lines start end (omega (arith, c.min-end.ensures, i.within));
      full = subst (AreChunks 2048) (sym pushed) (are-chunks-push 2048 chunks chunk full (omega (arith, long, c.min-end.ensures)));
      whole = λ more. subst (AreFull 2048) (sym pushed) (are-full-push 2048 chunks chunk full (omega (arith, long, c.min-end.ensures, more)));
      within = omega (arith, c.min-end.ensures);
    }
