-- What holds of the splices of a call whether it is done or refused.
use Rattle.std.proofs.Common.{◌≡◌, Result, Ok, Err, List, OnOk, OnErr, sym, subst}
use Rattle.block_map.specs.inside.StopLists.{AreStopPieces, StopPiece}

-- what holds of the splices before and of those after holds of what a call leaves
pub either : {T E : Type 0} (r : Result T E) (new after old : List StopPiece) → OnOk r (new ≡ after) → OnErr r (new ≡ old) → AreStopPieces old → AreStopPieces after → AreStopPieces new
either (Ok x) new after old ok err a b = subst AreStopPieces (sym ok) b
either (Err x) new after old ok err a b = subst AreStopPieces (sym err) a
