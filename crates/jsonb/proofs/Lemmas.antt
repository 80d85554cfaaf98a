-- The names that the proofs of functions cite, passed on from one place: those of Common, and lemmas. Declares nothing.
pub use Rattle.jsonb.proofs.Common.{expression_view, expression-same, literal_view, literal-same, path-symmetric, path-transitive, arith, ◌≡◌, ◌∙◌, sym, List, [], ◌∷◌, ℕ, ap, ap₂, refl, Option, Some, None, Result, Ok, Err, IfOk, IfSome, Vec, AllZip, AllByRecursion, Outcome, Refines, SameOption, AreBytes, Tree, canonical, Decodes, Error, one_canonical_document, OwnedJsonb, step_view, step-same, Expression, or_op, joined_view, Or, rules, ◌++◌, subst, IsPartial, IsOpening, AreFrames, Opening, opening_size, length, ◌<◌, another_entry, entry_list, behind, map_push, steps_view, loop-goes, loop-ends, ◌≤◌, exists_closed, ◌↔◌, ℤ, pos, ◌≤ℤ◌, w128, SFits, ints, to_z-of_z, IsBetween, IsTrue, nat_eq, contains, ◌+◌, leaf_view, leaf_parts, framed, waiting, expression_parts, parts, whole_expression, expression_has_document, progress_view, progress_has_document, false, leaf_has_document, have_document, Step, is_predicate, Path, path_view, below, ◌⊎◌, nil_from_length, ◌*◌, drop, iter_rest, steps_of, step_parts, are_same_steps, is_same_expression, is_eq, is_some_and, take, map, binary, unary, Frame, frame_has_document, vec_len, ◌-◌, ◌/◌, has_written_append, has_written_of_eq, expression_text, fronts_text, links_text, steps_before, text_before, HasWritten, IsPlainFormatter, steps_text, down, writes_in_calls_nil, closing, add-one, left_of, front_text, encode_lower, other_entry_text, flat_map, has_document, so_far_has_document, ◌<ℤ◌, max, by_lt_z, is_some, only_expression, Any, IsTooLarge, predicate, array_of, IsSomeAnd, Locates, Document, first_item, single_or_array, decodes_any, number_view, try_flat_map, signed_number, value_view, all_numbers, inr, list_or, HasSpotsLeft, array_values, cons_option, no_refusal, slice_get, picked, step_meaning, slice_range, if◌then◌else◌, values_of, ReturnsAtBoth, zip_along, take_all, suc, drop-cons, drop_of_length-le, append_assoc, append-nil, ArePairs, items_truth, Lax, IsMemberCompared, take-append-drop, map-append, truth, operand_values, are_members, nat_tests, true, expression_predicate, compare, values_of_item, Bool, and_then, Truth, IsAt, AreRefused, value_of_item, values_view, some_spots, no_spots, reverse, Branch, branches_of_whole, AreBranches, pending, waiting_left, parts_to_compile, inl, null, IsNumberItem, front_step, front_whole, Form, HoldsFront, take_more, vec_capacity, trees_of, filtered, steps_meaning, filter, AreTestsOf, take-length, evaluated, ◌==◌, InvalidJsonPath, IsTruth, is_comparison, node_spots, compared_values, path_steps, exists, IfErr, IsSelectionError, IsList, starts_of, Value, AreValues, values_found, start, exists_of, IsQuestionOf, get_or, AreTruths, AreMade, both_truths, filtered_after, IsSoundFrame, HasTree, TruthsLead, Aim, IsForItems, IsOnward, IsSoundTurn, AreSoundFrames, turn_weight, frames_weight, length-drop, AreLists, AreSound, steps_weight, IsOkAnd, AreDropped, is_filter, raw_bytes, IsItemOf, AreSelected, spots_bound, children_of, preorder, spots_room, Levels, answer_at, min, ◌^◌, flat, Mode, column_at, AreFrom, option_spots, taken_step, Expressions, capped, steps_items, total, steps_parts, waiting_parts, after_steps, list_all, is_single, most_items, first_decisive, pair_truth, is_eq-slice_cmp, not, err_from_is_err_and, has_condition, IsOutOfMemory, TakesStep, AreAhead, conditions_in, reverse-reverse, HasItems, IsAhead, IsReached, Spot, HasSame, SameOutcomes, Context, Repeats, field_step, same_Some, value, operation, binary_meaning, calculation, two_numbers, truth_item, asked_names}
unfoldable pub use Rattle.jsonb.proofs.Common.{nested_or, partial_outcome, opening_outcome, after_condition_outcome, resumed, repeat, spaced_inner, path_step, opened_outcome, encode_with}
pub use Rattle.jsonb.proofs.BelowLemmas.{leaf_passed, next_left, PassedSo, no_levels, walk_begun, leaves_passed, item_passed, item_entered, level_done, walk_done, told_first, falls_within, falls_beside, falls_done, Walked, weights}
unfoldable pub use Rattle.jsonb.proofs.BelowLemmas.{weight}
pub use Rattle.jsonb.proofs.CalculateLemmas.{two_given, calculation_refused, as_memory, refused_as_path}
pub use Rattle.jsonb.proofs.ChainText.{chain_text, links_halved, left_more, fronts_more}
pub use Rattle.jsonb.proofs.ColumnLemmas.{called_at, made_many, pairs_end, pairs_none, if_ok_as, same_each, all_made, called_both, each_mapped, all_mapped, each_both, all_both, each_made, made_one, zip_any, called, each_from, zip_mapped, located_once}
pub use Rattle.jsonb.proofs.ComparedLemmas.{compares_member, children_of_item, children_of_none, children_of_one, children_truth_is, told_by, truth_is, compared_with_none}
pub use Rattle.jsonb.proofs.CopyingLemmas.{not_first, not_second, owning_error-framed, framed-more, waiting-push, have_document-push, or_false, none_of_both}
pub use Rattle.jsonb.proofs.DocumentAnswers.{handed_by, handed_error, array_handed, handed_refused, handed_same, option_handed}
pub use Rattle.jsonb.proofs.DocumentLemmas.{read_has_none, document_equals_nothing, alone_without, refused_alone, path_without, refused_path, none_more, copied_more, refused_at, alone_tested, tested_alone}
pub use Rattle.jsonb.proofs.EqualLiterals.{literal-is, order_is}
pub use Rattle.jsonb.proofs.EqualParts.{operator-equal, array_index-equal, index-equal, level_end-equal, level-equal, sign-equal, entries-is}
pub use Rattle.jsonb.proofs.EqualPaths.{path-equal}
pub use Rattle.jsonb.proofs.EqualPrinted.{reads_back_if_read}
pub use Rattle.jsonb.proofs.EqualSteps.{other_than_levels, other_than_dot_field, other_than_colon_field, other_than_object_field, other_than_indices, other_than_filter, other_than_whole}
pub use Rattle.jsonb.proofs.ExpressionReadsSome.{some-path, grows-nested_or, some-path_step, some-another_atom, some-another_and}
pub use Rattle.jsonb.proofs.FirstItems.{expression_told, is_expression, no_expression, first_is, place_first}
pub use Rattle.jsonb.proofs.FrameLemmas.{partial-ended-all, partial-begins, less_left, at_start, inside-goes, none_open, resumed-push, frames-push, frames-pop, failure-passed, front-is, front-operation, front-steps, inner-is_step, without_bound, steps-open, steps-end, filter-unclosed, root-begins, path-begins}
pub use Rattle.jsonb.proofs.InnerReadsSome.{some-another_entry, some-spaced_inner}
pub use Rattle.jsonb.proofs.ItemKinds.{elements_listed, values_listed, values_of_array, other_values, text_values}
pub use Rattle.jsonb.proofs.KeptLemmas.{known, value_is, comparison_is}
pub use Rattle.jsonb.proofs.LastLemmas.{fewer_parts, seen, parts_of, same_next, next_parts, same_zip, zip_parts, same-differs, same-further, same_before-end, same_before-shorter, same_before-longer, steps_before-end, down_of, one_down, whole_text}
pub use Rattle.jsonb.proofs.LevelLemmas.{preorder-leaf, taken_is, preorder-entered}
pub use Rattle.jsonb.proofs.LevelRanges.{range_taken, preorder-passed}
pub use Rattle.jsonb.proofs.LimitLemmas.{lifted_keeps}
pub use Rattle.jsonb.proofs.ListLemmas.{is_false, is_not_false, list_passes, list_stops, list_none, compares_list, by_front, by_names, compare_passes, compare_stops, compares_children}
pub use Rattle.jsonb.proofs.MemberLemmas.{no_member, one_member, named_alone, member_first, nothing_behind, none_left, member_next}
pub use Rattle.jsonb.proofs.MirrorLemmas.{member_mirrored}
pub use Rattle.jsonb.proofs.ModeLemmas.{means_kept}
pub use Rattle.jsonb.proofs.OnwardLemmas.{leads_as, one_list, each_started, truths_as, literal_values, IsFoundFor, found_for, list_exists, found_exists, list_truth, list_then, list_with_repeats, values_then, Said, kept_first, KeptUntil, Listed, listed_more, listed_failed}
pub use Rattle.jsonb.proofs.PartLemmas.{still, row_parts, row_parts-last, step_parts-among, below_parts}
pub use Rattle.jsonb.proofs.PathNodes.{unary_is, levels_is, dot_field_is, colon_field_is, object_field_is, indices_is, filter_is, whole_is, literal_is, binary_is, values_is, elements_is, exists_is, paths_is, root_is, current_is}
pub use Rattle.jsonb.proofs.PickLemmas.{meant_decides, get_first, get_further, get_none, picked_only, between_none, between_one, picked_between, AllZip-between}
pub use Rattle.jsonb.proofs.PositionLemmas.{before_end}
pub use Rattle.jsonb.proofs.PredicateLemmas.{binary_predicate, predicate_by_cases}
pub use Rattle.jsonb.proofs.Progress.{one_more, refused_in, at_end, list_first, list_end, Progress, spot_first, spot_end, singles_start, spot_refused, no_spot, none_passed, spot_passed, spot_not_passed, all_passed, SpotsPassed, joined_singles, total_start}
pub use Rattle.jsonb.proofs.RefinesLemmas.{err_is, same_outcome, answered, failed_as, Is, related_of_map, pushed, unchanged, refused, listed_itself, unlisted, only_memory, listed, none_found, pushed_all, AllZip-append, first_refused, followed, one_ok, second_refused, refused_as, given_by, failed_with, continued, same_answer, memory_only, one_given}
pub use Rattle.jsonb.proofs.RepeatLemmas.{alike_items_truth, one_tree, thinned_start, thinned_more, thinned_end, Thinned, compared_right, with_repeats, same_found, same_outcome_itself, same_values, all_exactly}
pub use Rattle.jsonb.proofs.SearchLemmas.{found_any, no_filter, no_steps_ahead, no_condition_ahead, plain_ahead, plain_total, tested_ahead, filter_total, memory_alone, step_given, searched_more, Searching, taken_first, taken_none, found_at_most, search_begun, item_found, items_entered, items_done, search_done, refused_if_any, plain_last, given_none, given_one, first_refused_too, first_member, begins_found, begins_same}
pub use Rattle.jsonb.proofs.SelectedParts.{related_length, list_refused, made_alone, none_held, found_made, none_made, related_at, left_first, left_none, related_more, part_refused, Selects-length, value_few, value_many}
pub use Rattle.jsonb.proofs.SettledMeaning.{prints_with_meaning, variants_change_no_meaning}
pub use Rattle.jsonb.proofs.SignLemmas.{none_signed, one_signed, one_refused, all_signed, SignedUntil, Behind, numbers_of_values, number_behind}
pub use Rattle.jsonb.proofs.StepLemmas.{from_root, refused_steps, refused_step, from_start, joined_one, only_one, kept_found}
pub use Rattle.jsonb.proofs.TestLemmas.{compares_members, none_waiting, as_many, left_waits, popped, if_none, one_in_front, first_test, test_done, settled, both_members, found_is_item, no_tests, next_test}
pub use Rattle.jsonb.proofs.TextLemmas.{steps_text-take_more, steps_text-path, encode_lower-take_more, text_of_one_more}
pub use Rattle.jsonb.proofs.TurnLemmas.{some_items, if_some_as, filter_then, waits_as, frames_reversed, all_last, located, step_next, step_filter, step_weighs, steps_end, lists_as}
pub use Rattle.jsonb.proofs.UpdateLemmas.{IsFiltered, filtered_more, filtered_same, made_end, all_at, all_set, written, FilteredUntil, said_known, said_failed, sound_at, made_more, MadeUntil}
pub use Rattle.jsonb.proofs.ViewLemmas.{view-binary, view-unary}
pub use Rattle.jsonb.proofs.WholeLemmas.{lone_is, named_compared, none_of, no_condition, meant, some_of, by_taken, named_meaning, by_steps, root_filtered, not_only}
