use Rattle.random_tests.proofs.+make.Given as goal

abbrev pub decreases-make : goal.decreases-make
decreases-make l = l.left
