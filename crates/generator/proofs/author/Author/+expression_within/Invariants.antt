-- The places that are left fall.
use Rattle.generator.proofs.author.Author.+expression_within.Given as goal

abbrev pub decreases-expression_within : goal.decreases-expression_within
decreases-expression_within l = l.places
