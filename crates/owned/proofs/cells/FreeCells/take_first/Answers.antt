use Rattle.std.proofs.Common.{sym, refl, ◌∙◌, arith}
use Rattle.owned.proofs.FreeCells.{none_free, head_within, first_head, taken}
use Rattle.owned.proofs.cells.FreeCells.take_first.Goals as goal

pub returns-then-self-clause-first : goal.returns-then-self-clause-first
returns-then-self-clause-first c cs l n = (none_free c.args.self.now.links.now c.args.self.now.head cs l (c.if-self.true ∙ sym n), refl)

pub bounds-self-cell : goal.bounds-self-cell
bounds-self-cell c = let h = head_within c.args.self.now.links.now c.args.self.now.head c.requires.0 c.requires.1 (λ e. c.if-self.false (e ∙ c.requires.2)) in omega (arith, c.requires.1.linked)

pub returns-clause-first : goal.returns-clause-first
returns-clause-first c cs l n =
    let h = head_within c.args.self.now.links.now c.args.self.now.head cs l (λ e. c.if-self.false (e ∙ n)) in
    record {
      chosen = first_head c.args.self.now.links.now c.args.self.now.head cs l h;
      within = h;
      left = taken c.args.self.now.links.now c.args.self.now.head cs l h;
    }
