use Rattle.plain_rows.proofs.Clips.{clip-nearest_before, clip-own, clip-valid, greatest-is, least-is}
use Rattle.plain_rows.specs.Spots.{clip}
use Rattle.plain_rows.proofs.NearestAfter.{clip-nearest_after, clip-rises}
use Rattle.plain_rows.proofs.laws.spot_laws.Goals as goal

pub returns-clause-least : goal.returns-clause-least
returns-clause-least c = least-is

pub returns-clause-greatest : goal.returns-clause-greatest
returns-clause-greatest c = greatest-is

pub returns-clause-clip_is_valid : goal.returns-clause-clip_is_valid
returns-clause-clip_is_valid c = clip-valid

pub returns-clause-valid_is_own_clip : goal.returns-clause-valid_is_own_clip
returns-clause-valid_is_own_clip c = clip-own

pub returns-clause-clip_once : goal.returns-clause-clip_once
returns-clause-clip_once c = λ r d bias later. clip-own r (clip r d bias) later (clip-valid r d bias)

pub returns-clause-nearest_before : goal.returns-clause-nearest_before
returns-clause-nearest_before c = clip-nearest_before

pub returns-clause-nearest_after : goal.returns-clause-nearest_after
returns-clause-nearest_after c = clip-nearest_after

pub returns-clause-clip_rises : goal.returns-clause-clip_rises
returns-clause-clip_rises c = clip-rises
