use Rattle.scope_names.proofs.knot.+knot.Given as goal

abbrev pub decreases-expr : goal.decreases-expr
decreases-expr l = l.left

abbrev pub decreases-stmt : goal.decreases-stmt
decreases-stmt l = l.left

abbrev pub decreases-declaration : goal.decreases-declaration
decreases-declaration l = l.left
