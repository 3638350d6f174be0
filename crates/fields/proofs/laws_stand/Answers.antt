-- `laws_stand` cites its law.
use Rattle.fields.proofs.Numbers.{fields_back_stands}
use Rattle.fields.proofs.laws_stand.Goals as goal

pub returns : goal.returns
returns c = record { fields_back = fields_back_stands }
