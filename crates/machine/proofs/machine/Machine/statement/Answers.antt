use Rattle.std.proofs.Common.{◌≡◌, get_or, refl, arith}
use Rattle.owned.specs.declared.decode.Transfer.TheVariants.{Box, Unbox, Look, Fill, Move}
use Rattle.owned.specs.declared.decode.Statement.TheVariants.{Set, Between, Drop, Call}
use Rattle.machine.proofs.Heads.{room_by, code_known}
use Rattle.machine.proofs.machine.Machine.statement.Goals as goal

pub word-requires : goal.word-requires
word-requires c = omega (arith, room_by c.requires.at c.requires.can 2 c.in-2.is (Set _) refl)

pub between-requires : goal.between-requires
between-requires c = omega (arith, room_by c.requires.at c.requires.can 3 c.in-3.is (Between Box _ _) refl)

pub between-requires-in-4 : goal.between-requires-in-4
between-requires-in-4 c = omega (arith, room_by c.requires.at c.requires.can 4 c.in-4.is (Between Unbox _ _) refl)

pub between-requires-in-5 : goal.between-requires-in-5
between-requires-in-5 c = omega (arith, room_by c.requires.at c.requires.can 5 c.in-5.is (Between Look _ _) refl)

pub between-requires-in-6 : goal.between-requires-in-6
between-requires-in-6 c = omega (arith, room_by c.requires.at c.requires.can 6 c.in-6.is (Between Fill _ _) refl)

pub between-requires-in-7 : goal.between-requires-in-7
between-requires-in-7 c = omega (arith, room_by c.requires.at c.requires.can 7 c.in-7.is (Between Move _ _) refl)

pub word-requires-in-8 : goal.word-requires-in-8
word-requires-in-8 c = omega (arith, room_by c.requires.at c.requires.can 8 c.in-8.is (Drop _) refl)

pub word-requires-in-11 : goal.word-requires-in-11
word-requires-in-11 c = omega (arith, room_by c.requires.at c.requires.can 11 c.in-11.is (Call _ _ _) refl)

pub word-requires-in-11-2 : goal.word-requires-in-11-2
word-requires-in-11-2 c = omega (arith, room_by c.requires.at c.requires.can 11 c.in-11.is (Call _ _ _) refl)

pub word-requires-in-11-3 : goal.word-requires-in-11-3
word-requires-in-11-3 c = omega (arith, room_by c.requires.at c.requires.can 11 c.in-11.is (Call _ _ _) refl)

pub returns-in-12-to-4294967295 : goal.returns-in-12-to-4294967295
returns-in-12-to-4294967295 c =
    let k : get_or c.args.self.now.rows.now c.args.at 0 ≡ 12 = omega (arith, code_known c.requires.at c.requires.can) in
    let e : get_or c.args.self.now.rows.now c.args.self.now.pos 0 ≡ 12 = rw c.requires.at at k in
    rw e refl
