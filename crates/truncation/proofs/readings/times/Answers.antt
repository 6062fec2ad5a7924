-- Each reading is the value less its remainder.
use Rattle.std.proofs.Common.{refl, lit<}
use Rattle.truncation.proofs.TowardZero.{toward_zero}
use Rattle.truncation.proofs.readings.times.Goals as goal

pub returns : goal.returns
returns c = record {
  zero = record {
    before = toward_zero 60 _ _ (lit< tt) refl;
    midnight = toward_zero 60 _ _ (lit< tt) refl;
    after = toward_zero 60 _ _ (lit< tt) refl;
    minute_before = toward_zero 60 _ _ (lit< tt) refl;
  };
  least = record {
    seconds = toward_zero 3_600 _ _ (lit< tt) refl;
    milliseconds = toward_zero 3_600_000 _ _ (lit< tt) refl;
    microseconds = toward_zero 3_600_000_000 _ _ (lit< tt) refl;
    nanoseconds = toward_zero 1_000 _ _ (lit< tt) refl;
  };
}
