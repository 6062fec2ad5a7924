-- Worked readings: times of day around zero and at the least value of each width, and truncations at a change of the clock.
use Rattle.std.specs.Prelude.{◌^◌, [], ◌∷◌, ℤ, pos, neg_ℤ, Some, Ok}
use Rattle.zone.specs.Tables.{offset_by}
use Rattle.truncation.specs.Times.{TruncatedTime}
use Rattle.truncation.specs.Truncations.{TruncatedIn}
use Rattle.truncation.specs.declared.granularity.Granularity.TheVariants.{Microsecond, Minute, Hour, Day, Week}
use Rattle.truncation.specs.declared.unit.TimeUnit.TheVariants.{Second as Seconds, Millisecond as Milliseconds, Microsecond as Microseconds, Nanosecond as Nanoseconds}

pub record TimesAroundZero : Type 0 where
  pub before : TruncatedTime Minute Seconds (Some (neg_ℤ (pos 1))) (Ok (Some (pos 0)))
  pub midnight : TruncatedTime Minute Seconds (Some (pos 0)) (Ok (Some (pos 0)))
  pub after : TruncatedTime Minute Seconds (Some (pos 59)) (Ok (Some (pos 0)))
  pub minute_before : TruncatedTime Minute Seconds (Some (neg_ℤ (pos 61))) (Ok (Some (neg_ℤ (pos 60))))

pub record LeastTimes : Type 0 where
  pub seconds : TruncatedTime Hour Seconds (Some (neg_ℤ (pos (2 ^ 31)))) (Ok (Some (neg_ℤ (pos 2_147_482_800))))
  pub milliseconds : TruncatedTime Hour Milliseconds (Some (neg_ℤ (pos (2 ^ 31)))) (Ok (Some (neg_ℤ (pos 2_145_600_000))))
  pub microseconds : TruncatedTime Hour Microseconds (Some (neg_ℤ (pos (2 ^ 63)))) (Ok (Some (neg_ℤ (pos 9_223_372_036_800_000_000))))
  pub nanoseconds : TruncatedTime Microsecond Nanoseconds (Some (neg_ℤ (pos (2 ^ 63)))) (Ok (Some (neg_ℤ (pos 9_223_372_036_854_775_000))))

-- the clock of a table with a first offset and one change
abbrev pub clock : ℤ → ℤ → ℤ → ℤ → ℤ
clock first second offset = offset_by first (record { second = second; offset = offset } ∷ [])

pub record ChangesOfClock : Type 0 where
  -- a midnight that the clock skips, in its second and an hour before
  pub skipped_midnight : TruncatedIn (clock (neg_ℤ (pos 10_800)) (pos 10_800) (neg_ℤ (pos 7_200))) Seconds Day (pos 12_600) (Ok (pos 10_800))
  pub skipped_earlier : TruncatedIn (clock (neg_ℤ (pos 10_800)) (pos 9_000) (neg_ℤ (pos 7_200))) Seconds Day (pos 9_600) (Ok (pos 9_000))
  -- an hour that comes twice
  pub first_of_two : TruncatedIn (clock (pos 3_600) (pos 0) (pos 0)) Seconds Hour (neg_ℤ (pos 1_800)) (Ok (neg_ℤ (pos 3_600)))
  pub second_of_two : TruncatedIn (clock (pos 3_600) (pos 0) (pos 0)) Seconds Hour (pos 1_800) (Ok (pos 0))
  -- a Monday's midnight in a skipped day
  pub skipped_day : TruncatedIn (clock (neg_ℤ (pos 36_000)) (pos 338_400) (pos 50_400)) Seconds Week (pos 338_400) (Ok (pos 338_400))
