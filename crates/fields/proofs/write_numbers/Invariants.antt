use Rattle.std.proofs.Common.{map}
use Rattle.fields.proofs.Writing.{SoFar}
use Rattle.fields.proofs.write_numbers.Given as goal

abbrev pub invariant-loop-i : goal.invariant-loop-i
invariant-loop-i g l = SoFar l.head (map g.N.Number.number l.numbers) l.initial.out l.i l.out
