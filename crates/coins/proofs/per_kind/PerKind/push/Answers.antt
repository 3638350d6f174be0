-- `PerKind::push`: one place fewer is left. The check asks for it when it is left out.
use Rattle.std.proofs.Common.{length-set, ◌∙◌, arith}
use Rattle.coins.proofs.Held.{rest_more}
use Rattle.coins.proofs.per_kind.PerKind.push.Goals as goal

pub invariant_of-self : goal.invariant_of-self
invariant_of-self c = record {
  few = omega arith;
  long = length-set c.args.self.now.numbers _ _ ∙ c.args.self.now.long;
  rest = rest_more c.args.self.now.kinds _ c.args.self.now.numbers _ (omega arith) (omega arith) c.args.self.now.rest;
}
