-- Refusals: every cause with its number, the layers with theirs, and faults.
use Rattle.std.specs.Prelude.{ℕ, None}
use Rattle.calendar.specs.declared.fault.Cause.{Cause}
use Rattle.calendar.specs.declared.fault.Cause.TheVariants.{UnknownName, TimeTooCoarse, ValueOutsideScale, TruncatedOutsideRange, FastResultBelowRange, WrongBuffers, MixedStride, StrideOutsideRange, UnfitOrigin, TimeStrideTooLong, OriginOutsideScale, ZeroStride, TimeSourceTimestampOrigin, UnfitZoneTable, OutsideSpan, DifferenceOutsideRange, DistanceOutsideRange, StartOutsideRange, RegisterFull, NoSuchRow, TooManyStarts, NoSuchBucket}
use Rattle.calendar.specs.declared.fault.Layer.{Layer}
use Rattle.calendar.specs.declared.fault.Layer.TheVariants.{Calendar, Zone, Truncation, Binning, Column, Register}
use Rattle.calendar.specs.declared.fault.Fault.{Fault}

abbrev pub cause_number : Cause → ℕ
cause_number UnknownName = 1
cause_number TimeTooCoarse = 2
cause_number ValueOutsideScale = 3
cause_number TruncatedOutsideRange = 4
cause_number FastResultBelowRange = 6
cause_number WrongBuffers = 7
cause_number MixedStride = 8
cause_number StrideOutsideRange = 9
cause_number UnfitOrigin = 10
cause_number TimeStrideTooLong = 11
cause_number OriginOutsideScale = 12
cause_number ZeroStride = 13
cause_number TimeSourceTimestampOrigin = 14
cause_number UnfitZoneTable = 15
cause_number OutsideSpan = 16
cause_number DifferenceOutsideRange = 17
cause_number DistanceOutsideRange = 18
cause_number StartOutsideRange = 19
cause_number RegisterFull = 20
cause_number NoSuchRow = 21
cause_number TooManyStarts = 22
cause_number NoSuchBucket = 23

abbrev pub layer_number : Layer → ℕ
layer_number Calendar = 1
layer_number Zone = 2
layer_number Truncation = 3
layer_number Binning = 4
layer_number Column = 5
layer_number Register = 6

-- a fault that a layer found, with no row
abbrev pub found : Cause → Layer → Fault
found cause layer = record { cause = cause; layer = layer; row = None }

-- what the calendar refuses with
abbrev pub outside_calendar : Fault
outside_calendar = found OutsideSpan Calendar
