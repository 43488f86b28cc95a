use Rattle.tree_eval.proofs.+eval.Given as goal

abbrev pub decreases-expr : goal.decreases-expr
decreases-expr g l = l.left

abbrev pub decreases-stmt : goal.decreases-stmt
decreases-stmt g l = l.left
