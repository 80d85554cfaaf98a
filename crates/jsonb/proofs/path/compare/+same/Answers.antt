use Rattle.jsonb.proofs.Lemmas.{rules, arith, nil_from_length, entries-is, other_than_levels, other_than_dot_field, other_than_colon_field, other_than_object_field, other_than_indices, other_than_filter, other_than_whole, seen, parts_of, fewer_parts, same_next, next_parts, same_zip, zip_parts, same-differs, same-further, same_before-end, same_before-shorter, same_before-longer, row_parts, row_parts-last, step_parts-among, levels_is, dot_field_is, colon_field_is, object_field_is, indices_is, filter_is, whole_is, literal_is}
use Rattle.jsonb.proofs.path.compare.+same.Goals as goal

pub same_before-returns-in-Value-Value : goal.same_before-returns-in-Value-Value
same_before-returns-in-Value-Value c = search (rules, literal_is)

pub same_step-returns-in-ArrayIndices-ArrayIndices : goal.same_step-returns-in-ArrayIndices-ArrayIndices
same_step-returns-in-ArrayIndices-ArrayIndices c = search (rules, indices_is, entries-is)

pub same_step-returns-in_default-5 : goal.same_step-returns-in_default-5
same_step-returns-in_default-5 c = search (rules, levels_is, other_than_levels)

pub same_step-returns-in_default-6 : goal.same_step-returns-in_default-6
same_step-returns-in_default-6 t c =
    rw (dot_field_is c.args.step.now c.in_default.field-0-0 c.in_default.is-0) (other_than_dot_field _ c.args.other.now c.in_default.not-DotField-1)

pub same_step-returns-in_default-7 : goal.same_step-returns-in_default-7
same_step-returns-in_default-7 t c =
    rw (colon_field_is c.args.step.now c.in_default.field-0-0 c.in_default.is-0) (other_than_colon_field _ c.args.other.now c.in_default.not-ColonField-1)

pub same_step-returns-in_default-8 : goal.same_step-returns-in_default-8
same_step-returns-in_default-8 t c =
    rw (object_field_is c.args.step.now c.in_default.field-0-0 c.in_default.is-0) (other_than_object_field _ c.args.other.now c.in_default.not-ObjectField-1)

pub same_step-returns-in_default-9 : goal.same_step-returns-in_default-9
same_step-returns-in_default-9 c = search (rules, indices_is, other_than_indices)

pub same_step-returns-in_default-10 : goal.same_step-returns-in_default-10
same_step-returns-in_default-10 t c =
    rw (filter_is c.args.step.now c.in_default.field-0-0 c.in_default.is-0) (other_than_filter _ c.args.other.now c.in_default.not-FilterExpr-1)

pub same_step-returns-in_default-11 : goal.same_step-returns-in_default-11
same_step-returns-in_default-11 t c =
    rw (whole_is c.args.step.now c.in_default.field-0-0 c.in_default.is-0) (other_than_whole _ c.args.other.now c.in_default.not-Expr-1)

pub same_steps-same_step-requires : goal.same_steps-same_step-requires
same_steps-same_step-requires c = search (rules, step_parts-among, row_parts)

pub same_expression-returns-then-not-same_before : goal.same_expression-returns-then-not-same_before
same_expression-returns-then-not-same_before c = search (rules, same_next, same-differs)

pub same_expression-loop-next-preserved : goal.same_expression-loop-next-preserved
same_expression-loop-next-preserved c = search (rules, next_parts, parts_of, zip_parts, fewer_parts, same_next, same-further, seen, same_zip)

pub same_expression-loop-next-smaller : goal.same_expression-loop-next-smaller
same_expression-loop-next-smaller c = search (rules, next_parts, parts_of, zip_parts, fewer_parts)

pub same_before_last-same_steps-requires : goal.same_before_last-same_steps-requires
same_before_last-same_steps-requires c = search (rules, row_parts, row_parts-last)

pub same_before_last-same_opening-requires : goal.same_before_last-same_opening-requires
same_before_last-same_opening-requires c = search (rules, row_parts, row_parts-last)

pub same_before_last-returns-then-same_steps : goal.same_before_last-returns-then-same_steps
same_before_last-returns-then-same_steps c = search (rules, same_before-end)

pub same_before_last-returns-else-same_steps : goal.same_before_last-returns-else-same_steps
same_before_last-returns-else-same_steps c = search (rules, same_before-end)

pub same_before_last-returns-in_default : goal.same_before_last-returns-in_default
same_before_last-returns-in_default t c = grind (arith, same_before-shorter, nil_from_length)

pub same_before_last-returns-in_default-2 : goal.same_before_last-returns-in_default-2
same_before_last-returns-in_default-2 t c = grind (arith, same_before-longer, nil_from_length)
