use Rattle.std.proofs.Common.{rules, arith, ◌<◌, ◌^◌}
use Rattle.unique_names.proofs.Numerals.{numeral_is_decimal}
use Rattle.unique_names.proofs.naming.put_number.Goals as goal

pub returns : goal.returns
returns c = let small : c.args.number < 2 ^ 64 = omega arith in rw (numeral_is_decimal c.args.number small) (search rules)
