use Rattle.text_rope.proofs.PointLaws.{back_to_offset, one_offset}
use Rattle.text_rope.proofs.laws.point_laws.Goals as goal

pub returns : goal.returns
returns c = record { one = one_offset; back = back_to_offset }
