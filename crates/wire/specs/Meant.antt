-- What calls and answers of the code stand for. Assumes nothing: these are definitions.
use Rattle.std.specs.Prelude.{ℕ, List, ◌++◌, codes, decimal}
use Rattle.std.specs.Borrow.{Bor}
use Rattle.coins.specs.Calls as till
use Rattle.coins.specs.Values.{counts_of}
use Rattle.fields.specs.Bytes.{numbers}
use Rattle.wire.specs.declared.call.Kind.{Kind}
use Rattle.wire.specs.declared.call.Kind.TheVariants as kind
use Rattle.wire.specs.declared.call.Call.{Call}
use Rattle.wire.specs.declared.call.Call.TheVariants.{Fill, Pay, Sell, Could, Holds, Spoils}
use Rattle.wire.specs.declared.answer.Form.{Form}
use Rattle.wire.specs.declared.answer.Form.TheVariants as form
use Rattle.wire.specs.declared.answer.Reason.{Reason}
use Rattle.wire.specs.declared.answer.Reason.TheVariants.{Unreadable, OutOfRange, NoTill, NoSuchCoin, TooLittle, NoWay, TooMany}
use Rattle.wire.specs.declared.answer.Answer.{Answer}
use Rattle.wire.specs.declared.answer.Answer.TheVariants.{Refused, Number, Two, Coins}

-- the number of each kind of call
abbrev pub kind_number : Kind → ℕ
kind_number kind.Fill = 0
kind_number kind.Pay = 1
kind_number kind.Sell = 2
kind_number kind.Could = 3
kind_number kind.Holds = 4
kind_number kind.Spoils = 5

-- each call; the coins put in are the whole fields of their part of the bytes
abbrev pub call_meant : Call (Bor (List ℕ)) → till.Call
call_meant (Fill i k) = till.fills i k
call_meant (Pay x) = till.pays x
call_meant (Sell p cs) = till.sells p (numbers cs.now)
call_meant (Could x) = till.could x
call_meant Holds = till.holds
call_meant (Spoils n) = till.spoils n

-- the number of each form of an answer
abbrev pub form_number : Form → ℕ
form_number form.Refused = 0
form_number form.Number = 1
form_number form.Two = 2
form_number form.Coins = 3

-- the number of each reason of a refusal
abbrev pub reason_number : Reason → ℕ
reason_number Unreadable = 1
reason_number OutOfRange = 2
reason_number NoTill = 3
reason_number NoSuchCoin = 4
reason_number TooLittle = 5
reason_number NoWay = 6
reason_number TooMany = 7

-- what is printed for a refusal, with its place as it is printed
abbrev pub refusal_text : Reason → List ℕ → List ℕ
refusal_text reason place = codes "refused " ++ (decimal (reason_number reason) ++ (codes " at " ++ place))

-- each answer
abbrev pub answer_meant : Answer → till.Answer
answer_meant (Refused r) = till.refused (reason_number r.reason) r.place
answer_meant (Number n) = till.number n
answer_meant (Two a b) = till.two a b
answer_meant (Coins ns) = till.coins (counts_of ns)
