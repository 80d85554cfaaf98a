use Rattle.jsonb_raw.proofs.Lemmas.{rules, arith, pos, nat_tests, one-le-pow}
use Rattle.std.proofs.Common.{to_z-of_z}
use Rattle.jsonb_raw.proofs.functions.array.hashes.number_hash.Goals as goal

pub returns-in_ok-power-in-Decimal : goal.returns-in_ok-power-in-Decimal
returns-in_ok-power-in-Decimal c = grind (arith, rules, to_z-of_z, pos, nat_tests, one-le-pow)
