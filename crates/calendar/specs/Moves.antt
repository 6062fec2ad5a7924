-- Dates and date-times moved by months.
use Rattle.std.specs.Prelude.{◌≡◌, ℤ, pos, ◌+ℤ◌}
use Rattle.arith.specs.Shift.{Shifted, month_index}
use Rattle.calendar.specs.declared.date.Date.{Date}
use Rattle.calendar.specs.declared.date_time.DateTime.{DateTime}

-- the month so many months after the date's
abbrev pub index_after : Date → ℤ → ℤ
index_after t months = month_index (pos t.year) t.month +ℤ months

abbrev pub DateMoved : Date → ℤ → Date → Type 0
DateMoved t months r = Shifted (pos t.year) t.month t.day months (pos r.year) r.month r.day

-- the date is moved, and the time of day stays
abbrev pub Moved : DateTime → ℤ → DateTime → Type 0
Moved t months r = DateMoved t.date months r.date × (r.nanos ≡ t.nanos)
