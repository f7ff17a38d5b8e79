use Rattle.test_display.proofs.lawful.landing_cuts.Goals as goal

pub returns : goal.returns
returns g c = λ job out.
    c.landing_laws.ensures c.args.display.now job c.lawful.ensures.opening c.lawful.ensures.fits c.lawful.ensures.numbered out
