use Rattle.rounds.proofs.Touched.{push_asks, push_leaves}
use Rattle.rounds.proofs.PreparedRun.push_round.Goals as goal

pub step-requires : goal.step-requires
step-requires c =
    let a = c.args in
    push_asks a.self.now a.j c.requires.0 a.r c.requires.1 a.figures.now c.requires.2 a.work.now c.requires.3

pub returns : goal.returns
returns c =
    let a = c.args in
    (push_leaves a.self.now a.j c.requires.0 a.r c.requires.1 a.figures.now c.requires.2 _ _ c.step.ensures.0, c.step.ensures.1)
