use Rattle.std.proofs.Common.{◌≡◌, ◌-◌, ◌*◌, ◌^◌, length, ◌∙◌, arith, rules}
use Rattle.vaultlog.proofs.Spelt.{below_nine, digit_at, each_digit, nine}
use Rattle.vaultlog.specs.Digits.{first_of}
use Rattle.vaultlog.proofs.instant.read_fraction.Goals as goal
use Rattle.vaultlog.proofs.instant.read_fraction.Goals.{After-pow}

scaled : (c : After-pow) → c.in_ok-number.field-0 * c.pow.result ≡ first_of c.args.digits.now (length c.args.digits.now) * 10 ^ (9 - length c.args.digits.now)
scaled c = let n = c.in_ok-number.ensures.1 in (λ i. n i * c.pow.ensures i)

pub returns-in_err-number : goal.returns-in_err-number
returns-in_err-number c = rw c.from_residual.ensures (λ n f. c.in_err-number.ensures (each_digit c.args.digits.now f.digits))

pub overflow_mul-result : goal.overflow_mul-result
overflow_mul-result c =
    let l = below_nine c.args.digits.now c.if-digits-gt9.false (digit_at c.args.digits.now c.in_ok-number.ensures.0) in
    omega (arith, scaled c)

pub returns : goal.returns
returns c = record {
  some = search rules;
  most = c.if-digits-gt9.false;
  digits = digit_at c.args.digits.now c.in_ok-number.ensures.0;
  number = scaled c ∙ nine c.args.digits.now c.if-digits-gt9.false;
}
