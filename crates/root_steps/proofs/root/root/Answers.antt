use Rattle.roots.proofs.Laws.{root_nearest, root_raises}
use Rattle.root_steps.proofs.Steps.{stepped}
use Rattle.root_steps.proofs.root.root.Goals as goal

pub raise-requires : goal.raise-requires
raise-requires g c =
    let found = c.in-Some.ensures in
    rw (root_nearest g.R.Word.Precision.format c.args.control _ _ _ c.if-control-eq0.true found.0 found.1).1 (root_raises _ _)

pub returns-in-Some : goal.returns-in-Some
returns-in-Some g c =
    let found = c.in-Some.ensures in
    let is = root_nearest g.R.Word.Precision.format c.args.control _ _ _ c.if-control-eq0.true found.0 found.1 in
    rw (c.raise.ensures, c.set.ensures, is.0, is.1, c.get-b.ensures) (stepped g.R.Word.Precision.format c.args.control _ _ c.args.fpscr c.args.s.now)

pub returns-then-control-eq0 : goal.returns-then-control-eq0
returns-then-control-eq0 g c = rw (c.store_root.ensures.0, c.store_root.ensures.1, c.get-b.ensures) (stepped g.R.Word.Precision.format c.args.control _ _ c.args.fpscr c.args.s.now)

pub returns : goal.returns
returns g c = rw (c.store_root-2.ensures.0, c.store_root-2.ensures.1, c.get-b.ensures) (stepped g.R.Word.Precision.format c.args.control _ _ c.args.fpscr c.args.s.now)
