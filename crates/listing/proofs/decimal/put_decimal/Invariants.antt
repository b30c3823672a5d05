use Rattle.listing.proofs.DecimalRules.{DecimalSo}
use Rattle.listing.proofs.decimal.put_decimal.Given as goal

abbrev pub invariant-loop-k : goal.invariant-loop-k
invariant-loop-k l = DecimalSo l.n l.initial.out l.at l.out l.rest l.k
