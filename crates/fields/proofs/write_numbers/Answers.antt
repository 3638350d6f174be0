-- `write_numbers`: all fields are behind the head. The check asks for it when it is left out.
use Rattle.std.proofs.Common.{◌+◌, ◌*◌, map, length, ap, ◌∙◌, sym, arith}
use Rattle.std.proofs.lemmas.List.{length-map}
use Rattle.fields.proofs.Writing.{all_fields}
use Rattle.fields.proofs.write_numbers.Goals as goal

pub returns : goal.returns
returns g c =
    let long = length-map c.args.numbers.now g.N.Number.number in
    let all = all_fields c.args.head.now c.copy_from_slice.new.self (map g.N.Number.number c.args.numbers.now) c.args.out.now c.loop-i.out _ c.loop-i.i
    c.copy_from_slice.ensures.after (omega arith) (omega arith) c.loop-i.invariant in
    (ap (λ n. length c.args.head.now + 4 * n) (sym long) ∙ all.0, all.1)
