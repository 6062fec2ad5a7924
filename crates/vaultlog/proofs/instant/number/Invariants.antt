use Rattle.std.proofs.Common.{◌≡◌, ℕ, ◌<◌, get_or}
use Rattle.vaultlog.specs.Digits.{IsDigit, first_of}
use Rattle.vaultlog.proofs.instant.number.Given as goal

abbrev pub invariant-loop-byte : goal.invariant-loop-byte
invariant-loop-byte l = record {
  number : l.number ≡ first_of l.digits l.byte-index;
  digits : (k : ℕ) → k < l.byte-index → IsDigit (get_or l.digits k 48);
}
