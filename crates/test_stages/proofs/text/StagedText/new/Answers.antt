use Rattle.std.proofs.Common.{List, ℕ, length, ap, arith}
use Rattle.test_stages.proofs.Texts.{text-room}
use Rattle.test_stages.proofs.text.StagedText.new.Goals as goal

pub new-requires-after_bounds : goal.new-requires-after_bounds
new-requires-after_bounds c κs =
    text-room c.in_ok-share.field-0
    (omega (arith, ap (λ (t : List ℕ). length t) c.in_ok-share.ensures, c.len-bytes.ensures.value, c.len-bytes.ensures.within))
