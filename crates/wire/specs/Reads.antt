-- What reading and writing give. Assumes nothing: these are definitions.
use Rattle.std.specs.Prelude.{◌≡◌, ℕ, suc, ◌%◌, Bool, true, false, ◌&&◌, List, length, Option, Result, MatchOption, MatchResult, ◌==◌, nat_le}
use Rattle.std.specs.Borrow.{Bor}
use Rattle.coins.specs.Calls as till
use Rattle.wire.specs.declared.call.Call.{Call}
use Rattle.wire.specs.declared.call.Call.TheVariants.{Fill, Pay, Sell, Could, Holds, Spoils}
use Rattle.wire.specs.declared.answer.Refusal.{Refusal}
use Rattle.wire.specs.declared.answer.Reason.TheVariants.{Unreadable}
use Rattle.fields.specs.Bytes.{numbers, over_front}
use Rattle.wire.specs.Calls.{call_bytes, may_have, call_of}
use Rattle.wire.specs.Meant.{call_meant}

-- the call of number k with the fields of these bytes, if they are as many as it may have
abbrev pub ReadsFields : ℕ → List ℕ → Option (Call (Bor (List ℕ))) → Type 0
ReadsFields k bs r =
    MatchOption r (may_have k (suc (length bs)) ≡ false) (λ call. (may_have k (suc (length bs)) ≡ true) × (call_meant call ≡ call_of k (numbers bs)))

-- the call, or the refusal of what is garbled, with its place
abbrev pub Reads : Result (Call (Bor (List ℕ))) (Refusal ℕ) → till.Call → Type 0
Reads r c = MatchResult r (λ call. call_meant call ≡ c) (λ refusal. (refusal.reason ≡ Unreadable) × (till.garbled refusal.place ≡ c))

-- coins put in that are whole fields, at most 16
abbrev pub whole_fields : List ℕ → Bool
whole_fields bs = length bs % 4 == 0 && nat_le (length bs) 64

-- a call that may be written
abbrev pub may_write : Call (Bor (List ℕ)) → Bool
may_write (Fill i k) = true
may_write (Pay x) = true
may_write (Sell p cs) = whole_fields cs.now
may_write (Could x) = true
may_write Holds = true
may_write (Spoils n) = true

-- bytes that may be written are, over the front of memory, and how many they are is told; or the memory is too short, and stays as it was
abbrev pub WritesIf : Bool → List ℕ → List ℕ → List ℕ → Option ℕ → Type 0
WritesIf may bs before after r =
    MatchOption r ((may && nat_le (length bs) (length before) ≡ false) × (after ≡ before)) (λ n. (may ≡ true) × (n ≡ length bs) × (after ≡ over_front bs before))

abbrev pub WritesCall : Call (Bor (List ℕ)) → List ℕ → List ℕ → Option ℕ → Type 0
WritesCall c before after r = WritesIf (may_write c) (call_bytes (call_meant c)) before after r
