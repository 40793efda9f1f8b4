use mathlib.Core.Path.{ap, ◌∙◌}
use Rattle.vertex_set.specs.Sets.{filled}
use Rattle.rounds.proofs.Touched.{pull_asks, pull_leaves}
use Rattle.rounds.proofs.PreparedRun.pull_round.Goals as goal

pub step-requires : goal.step-requires
step-requires c =
    let a = c.args in
    let e = c.fill.ensures ∙ ap (filled a.figures.now a.j) c.vertices.ensures.0 in
    pull_asks a.self.now a.j c.requires.0 a.r c.requires.1 a.figures.now c.requires.2 _ e a.work.now c.requires.3

pub returns : goal.returns
returns c =
    let a = c.args in
    let e = c.fill.ensures ∙ ap (filled a.figures.now a.j) c.vertices.ensures.0 in
    (pull_leaves a.self.now a.j c.requires.0 a.r c.requires.1 a.figures.now c.requires.2 _ e _ _ c.step.ensures.0, c.step.ensures.1)
