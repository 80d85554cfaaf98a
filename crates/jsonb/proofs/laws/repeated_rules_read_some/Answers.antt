use Rattle.jsonb.proofs.Lemmas.{nested_or, some-another_entry, some-spaced_inner, some-path, grows-nested_or, some-path_step, some-another_atom, some-another_and}
use Rattle.jsonb.proofs.laws.repeated_rules_read_some.Goals as goal

pub returns : goal.returns
returns c = record {
  entries = some-another_entry;
  operand_steps = some-spaced_inner;
  path_steps = some-path_step;
  nested_steps = λ n. some-path (nested_or n) (grows-nested_or n);
  conditions = λ n f. some-another_atom n f;
  alternatives = λ n f. some-another_and n f;
}
