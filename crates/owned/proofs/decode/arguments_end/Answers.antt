use Rattle.std.proofs.Common.{drop, sym, subst, inl, inr, arith}
use Rattle.owned.specs.Decode.{many, read_a}
use Rattle.owned.specs.Ends.{Ended}
use Rattle.owned.proofs.Ends.{args_past, args_there, args_big}
use Rattle.owned.proofs.decode.arguments_end.Goals as goal

pub returns-in_err-words : goal.returns-in_err-words
returns-in_err-words c =
    subst (λ o. Ended c.args.rows.now (many read_a c.args.n (drop c.args.at c.args.rows.now)) o) (sym c.from_residual.ensures)
    (args_past c.args.rows.now c.args.at c.args.n c.requires (elim c.in_err-words.ensures.lookup.0 [ inl l ↦ absurd (omega arith) | inr l ↦ l ]))

pub returns-then-are_marked : goal.returns-then-are_marked
returns-then-are_marked c = let h = c.in_ok-words.ensures.lookup.0 in args_there c.args.rows.now c.args.at c.args.n h.1 c.in_ok-words.words.now h.2 c.as_chunks.result.0.now c.as_chunks.ensures.front c.if-are_marked.ensures

pub returns-else-are_marked : goal.returns-else-are_marked
returns-else-are_marked c = let h = c.in_ok-words.ensures.lookup.0 in args_big c.args.rows.now c.args.at c.args.n h.1 c.in_ok-words.words.now h.2 c.as_chunks.result.0.now c.as_chunks.ensures.front c.if-are_marked.ensures
