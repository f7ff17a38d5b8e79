use Rattle.cell_units.proofs.Joined.{IsJoined-at, IsJoined-hides, IsJoined-shows, shown-inlaid}
use Rattle.cell_units.proofs.laws.fold_laws.Goals as goal

pub returns-clause-joined_is_shown : goal.returns-clause-joined_is_shown
returns-clause-joined_is_shown c = IsJoined-shows

pub returns-clause-shown_is_joined : goal.returns-clause-shown_is_joined
returns-clause-shown_is_joined c = IsJoined-at

pub returns-clause-joined_hides : goal.returns-clause-joined_hides
returns-clause-joined_hides c = λ inlays folds start end j. IsJoined-hides folds inlays start end j

pub returns-clause-rest_is_inlaid : goal.returns-clause-rest_is_inlaid
returns-clause-rest_is_inlaid c = λ inlays folds offset h. shown-inlaid folds inlays offset h
