-- `laws_stand` cites the laws.
use Rattle.wire.proofs.Back.{calls_back_stands, calls_differ}
use Rattle.wire.proofs.Fronts.{fronts_refused, place_right}
use Rattle.wire.proofs.Answering.{answers_back_stands}
use Rattle.wire.proofs.laws_stand.Goals as goal

pub returns : goal.returns
returns c = record {
  calls_back = calls_back_stands;
  calls_differ = calls_differ;
  answers_back = answers_back_stands;
  fronts_refused = fronts_refused;
  place_right = place_right;
}
