use Rattle.plain_rows.specs.Plain.{record_of}
use Rattle.test_display.proofs.Typed.{is-lawful}
use Rattle.test_display.proofs.plain.assert_row.Goals as goal

pub build-requires-clause-lawful : goal.build-requires-clause-lawful
build-requires-clause-lawful g c = is-lawful (record_of c.args.plain.now) c.requires
