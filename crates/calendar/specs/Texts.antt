-- The words for causes, layers, faults and weekdays.
use Rattle.std.specs.Prelude.{ℕ, List, ◌++◌, codes}
use Rattle.std.specs.Fmt.{decimal}
use Rattle.calendar.specs.Faults.{cause_number}
use Rattle.calendar.specs.declared.fault.Cause.{Cause}
use Rattle.calendar.specs.declared.fault.Cause.TheVariants.{UnknownName, TimeTooCoarse, ValueOutsideScale, TruncatedOutsideRange, FastResultBelowRange, WrongBuffers, MixedStride, StrideOutsideRange, UnfitOrigin, TimeStrideTooLong, OriginOutsideScale, ZeroStride, TimeSourceTimestampOrigin, UnfitZoneTable, OutsideSpan, DifferenceOutsideRange, DistanceOutsideRange, StartOutsideRange, RegisterFull, NoSuchRow, TooManyStarts, NoSuchBucket}
use Rattle.calendar.specs.declared.fault.Layer.{Layer}
use Rattle.calendar.specs.declared.fault.Layer.TheVariants.{Calendar, Zone, Truncation, Binning, Column, Register}
use Rattle.calendar.specs.declared.fault.Fault.{Fault}
use Rattle.calendar.specs.declared.weekday.Weekday.{Weekday}
use Rattle.calendar.specs.declared.weekday.Weekday.TheVariants.{Monday, Tuesday, Wednesday, Thursday, Friday, Saturday, Sunday}

abbrev pub cause_text : Cause → List ℕ
cause_text UnknownName = codes "the name is none of the ten granularities"
cause_text TimeTooCoarse = codes "a time of day cannot be cut to a day or coarser"
cause_text ValueOutsideScale = codes "the value does not scale to 64-bit nanoseconds"
cause_text TruncatedOutsideRange = codes "the truncated instant is outside 64-bit nanoseconds"
cause_text FastResultBelowRange = codes "the result is below the least 64-bit number"
cause_text WrongBuffers = codes "a buffer has the wrong length, or there are over 4,096 rows"
cause_text MixedStride = codes "the stride mixes months with days or nanoseconds"
cause_text StrideOutsideRange = codes "the stride is outside 64-bit nanoseconds"
cause_text UnfitOrigin = codes "the origin is null or of another kind"
cause_text TimeStrideTooLong = codes "the origin is a time of day, and the stride has months or lasts a day or more"
cause_text OriginOutsideScale = codes "the origin does not scale to 64-bit nanoseconds"
cause_text ZeroStride = codes "the stride is zero"
cause_text TimeSourceTimestampOrigin = codes "the source is a time of day, and the origin a timestamp"
cause_text UnfitZoneTable = codes "the zone's offset or table is unfit"
cause_text OutsideSpan = codes "the date or second is outside its span"
cause_text DifferenceOutsideRange = codes "the source minus the origin is outside 64 bits"
cause_text DistanceOutsideRange = codes "the distance is outside 64 bits"
cause_text StartOutsideRange = codes "the start is outside 64 bits"
cause_text RegisterFull = codes "the register has 512 rows already"
cause_text NoSuchRow = codes "there is no such row"
cause_text TooManyStarts = codes "there are over 64 different starts"
cause_text NoSuchBucket = codes "there is no such bucket"

abbrev pub layer_name : Layer → List ℕ
layer_name Calendar = codes "calendar"
layer_name Zone = codes "zone"
layer_name Truncation = codes "truncation"
layer_name Binning = codes "binning"
layer_name Column = codes "column"
layer_name Register = codes "register"

-- the cause's number, the layer and the cause
abbrev pub fault_text : Fault → List ℕ
fault_text f = decimal (cause_number f.cause) ++ (codes " " ++ (layer_name f.layer ++ (codes ": " ++ cause_text f.cause)))

abbrev pub weekday_name : Weekday → List ℕ
weekday_name Monday = codes "Mon"
weekday_name Tuesday = codes "Tue"
weekday_name Wednesday = codes "Wed"
weekday_name Thursday = codes "Thu"
weekday_name Friday = codes "Fri"
weekday_name Saturday = codes "Sat"
weekday_name Sunday = codes "Sun"
