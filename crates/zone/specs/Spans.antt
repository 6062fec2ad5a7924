-- The seconds and readings that a zone is asked about.
use Rattle.std.specs.Prelude.{ℤ, pos, neg_ℤ, ◌≤ℤ◌}

abbrev pub InSpan : ℤ → Type 0
InSpan s = (neg_ℤ (pos 9_300_000_000) ≤ℤ s) × (s ≤ℤ pos 9_300_000_000)
