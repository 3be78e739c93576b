-- Every cause of a refusal with its number and its layer.
use Rattle.std.specs.Prelude.{ℕ}
use Rattle.fault.specs.declared.cause.Layer.{Layer}
use Rattle.fault.specs.declared.cause.Layer.TheVariants.{Bytes, Job, Standing, Search, Deck}
use Rattle.fault.specs.declared.cause.Fault.{Fault}
use Rattle.fault.specs.declared.cause.Cause.{Cause}
use Rattle.fault.specs.declared.cause.Cause.TheVariants.{EndsInsideField, TagNotDue, WrongLength, ValueOutsideLimits, OffsetTooFar, SledCount, BytesAfterEnd, SearchNotIdle, FleetNotOfJob, CannotStand, WrongState, NoTurns, NotSolved, NumberTooHigh, DeckNotFree, BufferTooShort, SlipNotOfRun, WrongInstant}

-- the number of a layer
abbrev pub layer_number : Layer → ℕ
layer_number Bytes = 1
layer_number Job = 2
layer_number Standing = 3
layer_number Search = 4
layer_number Deck = 5

-- the number of a cause
abbrev pub number_of : Cause → ℕ
number_of EndsInsideField = 1
number_of TagNotDue = 2
number_of WrongLength = 3
number_of ValueOutsideLimits = 4
number_of OffsetTooFar = 5
number_of SledCount = 6
number_of BytesAfterEnd = 7
number_of SearchNotIdle = 8
number_of FleetNotOfJob = 9
number_of CannotStand = 10
number_of WrongState = 11
number_of NoTurns = 12
number_of NotSolved = 13
number_of NumberTooHigh = 14
number_of DeckNotFree = 15
number_of BufferTooShort = 16
number_of SlipNotOfRun = 17
number_of WrongInstant = 18

-- the layer that a cause belongs to
abbrev pub layer_of : Cause → Layer
layer_of EndsInsideField = Bytes
layer_of TagNotDue = Bytes
layer_of WrongLength = Bytes
layer_of ValueOutsideLimits = Job
layer_of OffsetTooFar = Job
layer_of SledCount = Job
layer_of BytesAfterEnd = Job
layer_of SearchNotIdle = Search
layer_of FleetNotOfJob = Standing
layer_of CannotStand = Standing
layer_of WrongState = Search
layer_of NoTurns = Search
layer_of NotSolved = Search
layer_of NumberTooHigh = Search
layer_of DeckNotFree = Deck
layer_of BufferTooShort = Search
layer_of SlipNotOfRun = Deck
layer_of WrongInstant = Deck

-- a fault: its cause, and the byte, the sled or the 0 that it names
abbrev pub fault_at : Cause → ℕ → Fault
fault_at cause place = record { cause = cause; place = place }
