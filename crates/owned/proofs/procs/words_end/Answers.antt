use Rattle.std.proofs.Common.{◌+◌, drop, sym, subst, inl, inr, arith}
use Rattle.owned.specs.Decode.{many, below1}
use Rattle.owned.specs.Ends.{Ended}
use Rattle.owned.proofs.Ends.{words_past, words_there, words_big}
use Rattle.owned.proofs.procs.words_end.Goals as goal

pub returns-in_err-words : goal.returns-in_err-words
returns-in_err-words c =
    subst (λ o. Ended c.args.rows.now (many (below1 (c.args.most + 1)) c.args.n (drop c.args.at c.args.rows.now)) o) (sym c.from_residual.ensures)
    (words_past c.args.rows.now c.args.most c.args.at c.args.n c.requires (elim c.in_err-words.ensures.lookup.0 [ inl l ↦ absurd (omega arith) | inr l ↦ l ]))

pub returns-then-are_up_to : goal.returns-then-are_up_to
returns-then-are_up_to c = let h = c.in_ok-words.ensures.lookup.0 in words_there c.args.rows.now c.args.most c.args.at c.args.n h.1 c.in_ok-words.words.now h.2 c.if-are_up_to.ensures

pub returns-else-are_up_to : goal.returns-else-are_up_to
returns-else-are_up_to c = let h = c.in_ok-words.ensures.lookup.0 in words_big c.args.rows.now c.args.most c.args.at c.args.n h.1 c.in_ok-words.words.now h.2 c.if-are_up_to.ensures
