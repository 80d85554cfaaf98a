use Rattle.jsonb_raw.proofs.Lemmas.{rules, decoded_fits, array_of_entries, elements_fit, elements_few}
use Rattle.jsonb_raw.proofs.functions.array.sets.kept_of_document.Goals as goal

pub returns-in-Some-clause-made : goal.returns-in-Some-clause-made
returns-in-Some-clause-made c = search (rules, array_of_entries, decoded_fits, elements_few, elements_fit)
