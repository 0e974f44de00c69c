use Rattle.std.proofs.Common.{arith}
use Rattle.owned.specs.Views.{seen}
use Rattle.owned.proofs.Arguments.{args_past, arguments_there}
use Rattle.owned.proofs.checker.Checker.arguments.Goals as goal

pub slice_bounds-as_chunks-end : goal.slice_bounds-as_chunks-end
slice_bounds-as_chunks-end c = let w = (args_past c.args.self.now.program.rows.now c.args.at c.requires.as₁ c.requires.rest c.requires.near c.requires.here.1).1 in omega (arith, w, c.requires.here.0)

pub returns : goal.returns
returns c = arguments_there (seen c.args.self.now) c.args.at c.args.n c.as_chunks.result.0.now c.as_chunks.ensures.front
