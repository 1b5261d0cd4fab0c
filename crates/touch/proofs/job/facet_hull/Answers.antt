use Rattle.touch.proofs.job.facet_hull.Goals as goal

pub returns : goal.returns
returns g c =
    let f = c.args.facet.now in
    let laws = g.met.H.Hull in
    let two = laws.another _ _ f.b (laws.one f.a) in
    rw (c.more-2.ensures, c.more.ensures, c.first.ensures) (laws.another _ _ f.c two)
