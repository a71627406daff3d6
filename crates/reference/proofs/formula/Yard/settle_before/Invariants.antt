use Rattle.reference.proofs.formula.Yard.settle_before.Given as goal

abbrev pub decreases-loop-operator : goal.decreases-loop-operator
decreases-loop-operator l = l.self.waiting.len
