-- The lemmas that an attribute names for the goals of a function: several, or one whose name it cannot spell.
use Rattle.jsonb.proofs.Bounds.{expression-rule, path_step-rule}
use Rattle.jsonb.proofs.CopyingLemmas.{step_more, step_held, step_held-parts, step_fewer, none_left_view, clean_more, framed-more, waiting-push, have_document-push, none_of_both, held-document}
use Rattle.jsonb.proofs.EqualPrinted.{read_equals_itself, read_prints_as_equal}
use Rattle.jsonb.proofs.FrameLemmas.{and-goes, or-goes, partial-ends, opened-fails, closed-none, closed-some, filter-closes, inner-is_step, step-is_filter, no_step}
use Rattle.jsonb.proofs.LastLemmas.{last_step-end}
use Rattle.jsonb.proofs.PartLemmas.{row_parts, row_parts-last, parts-paths, some_step_parts, parts-binary}
use Rattle.jsonb.proofs.PathNodes.{dot_field_is, colon_field_is, object_field_is, whole_is}
use Rattle.jsonb.proofs.RefinesLemmas.{failed_as, same_outcome, refused_as, first_refused, followed}
use Rattle.jsonb.proofs.SelectedParts.{Selects-spot, Selects-number, Selects-made}
use Rattle.jsonb_doc.proofs.Common.{nil_from_length}
use Rattle.jsonb_doc.proofs.EqualValues.{number_cmp-number_view}
use Rattle.jsonb_doc.proofs.PartLemmas.{fewer_parts, fewer_in_front, as_many_parts}
use Rattle.jsonb_keypath.proofs.Common.{map_push}
use Rattle.jsonb_keypath.proofs.RepeatLemmas.{loop-goes, loop-ends}
use Rattle.std.proofs.lemmas.List.{with_items_is}

pub ruleset members_member_name = (dot_field_is, colon_field_is, object_field_is)

pub ruleset operand_value_value_order = (number_cmp-number_view)

pub ruleset calculate_unary_numbers = (with_items_is, failed_as, same_outcome, refused_as, first_refused, followed)

pub ruleset found_found_at = (Selects-spot, Selects-number, Selects-made)

pub ruleset index_entry_list_at = (loop-goes, loop-ends)

pub ruleset copy_copied_steps = (nil_from_length, step_more, step_held, step_held-parts, step_fewer, none_left_view)

pub ruleset own_owned_rest = (nil_from_length, step_more, step_held, step_held-parts, step_fewer, none_left_view, clean_more)

pub ruleset copying_resume_copy = (framed-more, waiting-push, have_document-push, none_of_both)

pub ruleset release_without_inner = (fewer_parts, fewer_in_front, row_parts, row_parts-last, parts-paths, whole_is)

pub ruleset release_without_last = (fewer_parts, as_many_parts, row_parts, row_parts-last, parts-paths, some_step_parts)

pub ruleset release_without_pair = (fewer_parts, fewer_in_front, parts-binary)

pub ruleset copying_with_held = (held-document, clean_more)

pub ruleset last_step = (last_step-end)

pub ruleset laws_read_json_path_equals_what_it_prints = (read_equals_itself, read_prints_as_equal)

pub ruleset laws_rules_hold_without_bounds = (expression-rule, path_step-rule)

pub ruleset condition_behind_condition = (and-goes, or-goes, partial-ends)

pub ruleset opening_closed_at = (map_push, opened-fails, closed-none, closed-some, filter-closes)

pub ruleset parser_path_step_at = (path_step-rule, inner-is_step, step-is_filter, no_step)
