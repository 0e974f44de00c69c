use Rattle.std.proofs.Common.{◌≡◌, None, arith}
use Rattle.std.proofs.lemmas.Result.{err_from_is_err_and}
use Rattle.machine.specs.declared.machine.Halt.TheVariants.{Full}
use Rattle.machine.proofs.Performing.{box_heap, box_full, box_put, box_done}
use Rattle.machine.proofs.machine.Machine.make_box.Goals as goal

pub allocate-requires : goal.allocate-requires
allocate-requires c = box_heap c.take-word.ensures c.requires

pub returns-in_err-made-clause-done : goal.returns-in_err-made-clause-done
returns-in_err-made-clause-done c =
    let p = err_from_is_err_and c.from_residual.result c.from_residual.ensures.1 in
    let none : c.allocate.result ≡ None = grind (arith, c.in_err-made.ensures.ok_part) in
    let full : c.in_err-made.field-0.0 ≡ Full = grind (arith, c.in_err-made.ensures.value) in
    rw (p.1, p.2, full) (box_full c.take-word.ensures (rw none at c.allocate.ensures).1)

pub put-requires : goal.put-requires
put-requires c = box_put c.take-word.ensures (rw c.in_ok-made.ensures.ok_part at c.allocate.ensures) c.requires

pub returns-clause-done : goal.returns-clause-done
returns-clause-done c = box_done c.take-word.ensures (rw c.in_ok-made.ensures.ok_part at c.allocate.ensures) c.put.ensures
