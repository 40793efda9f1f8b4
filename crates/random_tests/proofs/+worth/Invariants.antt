use Rattle.random_tests.proofs.+worth.Given as goal

abbrev pub decreases-worth : goal.decreases-worth
decreases-worth l = l.left
