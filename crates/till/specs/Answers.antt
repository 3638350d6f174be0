-- What a line that can be read is answered, and which till is open then. Assumes nothing: these are definitions.
use Rattle.std.specs.Prelude.{◌≡◌, ℕ, is_some, Some, Ok, Err, vec_items, Option, Result}
use Rattle.coins.specs.Coins.{pick}
use Rattle.wire.specs.declared.answer.Reason.TheVariants.{OutOfRange, NoTill}
use Rattle.wire.specs.declared.answer.Refusal.{Refusal}
use Rattle.till.specs.declared.opening.Till.{Till}
use Rattle.till.specs.declared.opening.OpenError.{OpenError}
use Rattle.till.specs.declared.reply.Reply.{Reply}
use Rattle.till.specs.declared.reply.Reply.TheVariants.{Opened}
use Rattle.till.specs.declared.request.Request.{Request}
use Rattle.till.specs.declared.request.Request.TheVariants.{Open, Call}
use Rattle.till.specs.Opening.{Opens}
use Rattle.till.specs.Replies.{refused_opening}

-- a till that is opened takes the place of the one before; a refusal leaves that one
abbrev pub OpenedBy : Option Till → Result Till OpenError → Option Till → Result Reply (Refusal ℕ) → Type 0
OpenedBy before (Ok t) after r = (after ≡ Some t) × (r ≡ Ok Opened)
OpenedBy before (Err error) after r = (after ≡ before) × (r ≡ Err (refused_opening error))

-- no call is done yet: out of range where a till is open, else there is no till
abbrev pub Answered : Option Till → Request → Option Till → Result Reply (Refusal ℕ) → Type 0
Answered before (Open l vs) after r = (o : Result Till OpenError) × Opens l (vec_items vs) o × OpenedBy before o after r
Answered before (Call c) after r = (after ≡ before) × (r ≡ Err (record { reason = pick (is_some before) OutOfRange NoTill; place = 0 }))
