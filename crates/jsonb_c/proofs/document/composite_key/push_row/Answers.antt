use Rattle.std.specs.Int.{w8, w16}
use Rattle.jsonb_raw.proofs.ColumnLemmas.{column_appended}
use Rattle.jsonb_c.proofs.document.composite_key.push_row.Goals as goal

pub returns-then-wide-clause-key : goal.returns-then-wide-clause-key
returns-then-wide-clause-key c = λ form value h.
    rw c.if-wide.true (column_appended w16 form _ value _ _ _ (λ tree d. c.push_column_key_wide.ensures.key form tree d)
    c.push_column_key_wide.ensures.missing (c.value_of-value.ensures form value h))

pub returns-else-wide-clause-key : goal.returns-else-wide-clause-key
returns-else-wide-clause-key c = λ form value h.
    rw c.if-wide.false (column_appended w8 form _ value _ _ _ (λ tree d. c.push_column_key.ensures.key form tree d)
    c.push_column_key.ensures.missing (c.value_of-value.ensures form value h))
