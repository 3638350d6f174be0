-- What is printed for a line. Assumes nothing: these are definitions.
use Rattle.std.specs.Prelude.{ℕ, List, codes}
use Rattle.wire.specs.declared.answer.Reason.TheVariants.{NoTill}
use Rattle.wire.specs.declared.answer.Refusal.{Refusal}
use Rattle.till.specs.declared.opening.OpenError.{OpenError}
use Rattle.till.specs.declared.reply.Reply.{Reply}
use Rattle.till.specs.declared.reply.Reply.TheVariants.{Opened}
use Rattle.till.specs.Opening.{place_of}

-- the refusal of an opening
abbrev pub refused_opening : OpenError → Refusal ℕ
refused_opening error = record { reason = NoTill; place = place_of error }

abbrev pub printed : Reply → List ℕ
printed Opened = codes "opened"
