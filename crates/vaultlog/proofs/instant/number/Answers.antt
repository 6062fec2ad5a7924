use Rattle.std.proofs.Common.{◌≡◌, length, ap, ◌∙◌, arith}
use Rattle.vaultlog.proofs.Spelt.{each_digit, eight}
use Rattle.vaultlog.specs.Digits.{first_of}
use Rattle.vaultlog.proofs.instant.number.Goals as goal

pub overflow_add-number : goal.overflow_add-number
overflow_add-number c =
    omega (arith, eight c.args.digits.now c.loop-byte.byte-index (omega arith) c.loop-byte.invariant.digits, c.in_ok-number.ensures)

pub returns : goal.returns
returns c =
    let ds = c.args.digits.now in
    let all : c.loop-byte.byte-index ≡ length ds = omega arith in
    (each_digit ds (λ k l. c.loop-byte.invariant.digits k (omega arith)), c.loop-byte.invariant.number ∙ ap (first_of ds) all)
