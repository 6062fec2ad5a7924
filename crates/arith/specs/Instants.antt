-- What a clock shows at instants in nanoseconds, and which instant stands for a boundary that was found on the clock.
use Rattle.std.specs.Prelude.{◌≡◌, ℤ, pos, ◌+ℤ◌, ◌-ℤ◌, ◌*ℤ◌, ◌≤ℤ◌, ◌<ℤ◌, ◌≢◌}
use Rattle.arith.specs.Gregorian.{floor_div}

-- the whole second of an instant or a reading
abbrev pub second_of : ℤ → ℤ
second_of t = floor_div t 1_000_000_000

-- the offset at an instant is that at its second
abbrev pub offset_of : (ℤ → ℤ) → ℤ → ℤ
offset_of offset t = offset (second_of t)

-- what the clock shows at an instant: the instant plus its offset
abbrev pub reading_of : (ℤ → ℤ) → ℤ → ℤ
reading_of offset t = t +ℤ pos 1_000_000_000 *ℤ offset_of offset t

-- some instant has the reading b
abbrev pub Shown : (ℤ → ℤ) → ℤ → Type 0
Shown offset b = (x : ℤ) × (reading_of offset x ≡ b)

-- the clock passes b at a: a is a whole second and reads later than b, and the second before it reads earlier
pub record PassesAt (offset : ℤ → ℤ) (b a : ℤ) : Type 0 where
  pub second : ℤ
  pub whole : a ≡ pos 1_000_000_000 *ℤ second
  pub earlier : reading_of offset (a -ℤ pos 1_000_000_000) <ℤ b
  pub later : b <ℤ reading_of offset a

-- a is the instant of b, the boundary of what the clock shows at t
pub record InstantOf (offset : ℤ → ℤ) (t b a : ℤ) : Type 0 where
  -- a reads as b where the clock shows b
  pub shown : Shown offset b → reading_of offset a ≡ b
  -- of two instants that read as b, the first if it has the offset of t, else the second
  pub first : (x y : ℤ) → x <ℤ y → reading_of offset x ≡ b → reading_of offset y ≡ b → offset_of offset x ≡ offset_of offset t → a ≡ x
  pub second : (x y : ℤ) → x <ℤ y → reading_of offset x ≡ b → reading_of offset y ≡ b → (offset_of offset x ≢ offset_of offset t) → a ≡ y
  -- where the clock skips b, the second at which it passes b, never after t
  pub passed : (Shown offset b → ⊥) → PassesAt offset b a
  pub before : (Shown offset b → ⊥) → a ≤ℤ t

-- a has the property P, and nothing else has
pub record OnlyOne (P : ℤ → Type 0) (a : ℤ) : Type 0 where
  pub is_one : P a
  pub only : (x : ℤ) → P x → x ≡ a
