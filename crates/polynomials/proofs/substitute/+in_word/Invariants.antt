use Rattle.polynomials.proofs.substitute.+in_word.Given as goal

abbrev pub decreases-in_word : goal.decreases-in_word
decreases-in_word l = l.n
