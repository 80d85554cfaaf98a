use Rattle.jsonb_raw.proofs.Lemmas.{arith, decoded_fits, members_fit}
use Rattle.jsonb_raw.proofs.functions.array.sets.count_document.Goals as goal

pub returns-in_ok-array_entries-in-Array-clause-fit : goal.returns-in_ok-array_entries-in-Array-clause-fit
returns-in_ok-array_entries-in-Array-clause-fit c = λ form t d. members_fit t (decoded_fits form c.args.bytes.now t (λ i. omega (arith, c.type_inv.bytes i)) d)

pub returns-in_default : goal.returns-in_default
returns-in_default c = record {
  counts = λ form t d. grind (arith, c.in_ok-item.ensures.decodes form t d, c.count_item.ensures.counts form t);
  fit = λ form t d. members_fit t (decoded_fits form c.args.bytes.now t (λ i. omega (arith, c.type_inv.bytes i)) d);
  errors = c.count_item.ensures.errors;
}
