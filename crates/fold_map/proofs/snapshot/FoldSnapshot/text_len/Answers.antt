use Rattle.std.proofs.Common.{subst}
use Rattle.fold_map.specs.Snapshots.{IsLawful}
use Rattle.fold_map.proofs.snapshot.FoldSnapshot.text_len.Goals as goal

pub returns-clause-lawful : goal.returns-clause-lawful
returns-clause-lawful g c =
    let is = c.self.invariant in
    subst IsLawful c.self.view_is (record {
      formed = record { text = c.buffer_len.ensures.well_formed.text; inlays = c.buffer_len.ensures.well_formed.inlays; folds = is.lawful };
      fits = is.fits;
      joined = is.spliced.joined;
      all = is.spliced.all;
    })
