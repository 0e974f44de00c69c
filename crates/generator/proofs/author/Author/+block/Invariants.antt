-- The nesting that is still allowed falls.
use Rattle.generator.proofs.author.Author.+block.Given as goal

abbrev pub decreases-block : goal.decreases-block
decreases-block l = l.depth
